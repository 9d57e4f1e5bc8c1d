-- The facts on what was said, on logs and on nodes, in one world.
use Rattle.std.proofs.Common.{◌≡◌, ◌≤◌, ◌-◌, ◌^◌, List, ap, arith}
use Rattle.curp_base.proofs.Lists.{at_some}
use Rattle.curp_msg.specs.declared.script.Header.{Header}
use Rattle.curp_msg.specs.declared.script.Step.{Step}
use Rattle.curp_model.specs.Manager.{Shape}
use Rattle.curp_model.specs.World.{World, opening, shape_of, world}
use Rattle.curp_facts.specs.Facts.{IsAdoptedNow, PairsGood, lists_of_part}
use Rattle.curp_facts.specs.Kept.{FactsKept, PartsHaveEntries}
use Rattle.curp_facts.specs.Known.{Known}
use Rattle.curp_facts.specs.Names.{Names}
use Rattle.curp_msg.specs.Script.{IsRun}
use Rattle.curp_law_kept.proofs.Gives.{frozen_apart, always}
use Rattle.curp_law_runs.proofs.Adoptions.{adoptions_ok}
use Rattle.curp_law_runs.proofs.BackupsFollow.{backups_follow}
use Rattle.curp_law_runs.proofs.Collections.{collections_ok}
use Rattle.curp_law_runs.proofs.EarlyReplies.{early_replies_ok}
use Rattle.curp_law_runs.proofs.FirstNumbers.{first_numbers_ok}
use Rattle.curp_law_runs.proofs.Logs.{logs_ok}
use Rattle.curp_law_runs.proofs.MastersFollow.{masters_follow}
use Rattle.curp_law_runs.proofs.Pairs as pairs
use Rattle.curp_law_runs.proofs.Said.{said_ok}
use Rattle.curp_law_runs.proofs.Always.{Moving, moving_all}
use Rattle.curp_law_runs.proofs.Told.{given_stand}
use Rattle.curp_base.proofs.Numbered.{at_place}

-- each partition has its entry
parts_have_entries : {w : World} → Names w → PartsHaveEntries w
parts_have_entries {w} names part from_one within =
    let there = at_some w.manager.config.parts (part - 1) (omega (arith, from_one, within, names.numbers.parts)) in
    let its_part : there.0.part ≡ part = omega (arith, from_one, names.entries (part - 1) there.0 there.1) in
    let now : IsAdoptedNow w there.0 = at_place w.manager.config.parts (part - 1) there.0.part there.0 (omega (arith, from_one, its_part)) there.1 in
    let top = names.top there.0 now in
    record { entry = there.0; now = now; its_part = its_part; top = top; whole = names.given (lists_of_part there.0) top.was.given }

-- the shape is the header's
pub shape_all : (h : Header) (steps : List Step) → IsRun h steps → (world h steps).manager.shape ≡ shape_of h
unfolding opening
shape_all h steps is = (always h steps is).later.shape

facts : (w : World) → Known w → Moving w → w.manager.shape.parts ≤ 2 ^ 64 → FactsKept w
facts w known m few = record {
  entries = parts_have_entries known.names;
  lists = known.names.given;
  names = known.names.agree;
  migrations = record { one_source = m.routes.one_source; one_target = m.routes.one_target; apart = m.routes.apart };
  held = λ node x is. frozen_apart x (known.inv.witnesses node x is).apart;
  said = said_ok known.names known.inv known.nodes m.chain (given_stand known.names known.inv m.chain m.routes) m.configs few;
  logs = logs_ok known.names known.inv;
  backups = backups_follow known.names known.inv;
  masters = masters_follow known.names known.inv;
  early = early_replies_ok known.names known.inv;
  collections = collections_ok known.names known.inv;
  firsts = first_numbers_ok known.names known.inv;
  adoptions = adoptions_ok known.names known.inv m.chain;
}

-- in every run
pub facts_all : (h : Header) (steps : List Step) → IsRun h steps → FactsKept (world h steps)
facts_all h steps is =
    let a = moving_all h steps is in
    facts (world h steps) a.0 a.1 (omega (arith, ap (λ (s : Shape). s.parts) (shape_all h steps is), is.header.parts.1))

-- and any pair of a backup and a witness is good
pub pairs_all : (h : Header) (steps : List Step) → IsRun h steps → PairsGood (world h steps)
pairs_all h steps is = let a = moving_all h steps is in pairs.pairs_good a.0.names a.0.inv a.1.chain
