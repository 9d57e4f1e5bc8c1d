-- Each adopted master has a log: those of the opening serve from the beginning on, and others have recovered.
use Rattle.std.proofs.Common.{◌≡◌, ◌≤◌, inl, inr, zero, suc, List, [], ◌∷◌, refl, sym, subst, arith, Some}
use Rattle.std.proofs.lemmas.Bool.{cases_lt}
use Rattle.curp_base.specs.Words.{At, numbered, numbers_from}
use Rattle.curp_base.proofs.Lists.{at_map}
use Rattle.curp_cmd.specs.Node.{master_node}
use Rattle.curp_cmd.specs.declared.node.NodeId.{NodeId}
use Rattle.curp_msg.specs.declared.config.PartConfig.{PartConfig}
use Rattle.curp_msg.specs.declared.script.Header.{Header}
use Rattle.curp_msg.specs.declared.script.Step.{Step}
use Rattle.curp_model.specs.Manager.{Shape}
use Rattle.curp_model.specs.Master.{MasterState}
use Rattle.curp_model.specs.Recovery.{Fresh, MasterStage, Recovering, Serving}
use Rattle.curp_model.specs.World.{World, opening, opening_master, run, shape_of, step, world}
use Rattle.curp_facts.specs.Facts.{HasLog, IsAdoptedNow, lists_of_part}
use Rattle.curp_facts.specs.Growth.{Grows, LifeGrows}
use Rattle.curp_facts.specs.Kept.{AdoptedLog, AdoptionOk}
use Rattle.curp_law_kept.proofs.Gives.{step_grows}
use Rattle.curp_facts.specs.Known.{Known}
use Rattle.curp_law_linear.specs.Serves.{OpeningServes}
use Rattle.curp_facts.specs.Names.{GivenOk, Top}
use Rattle.curp_facts.specs.Predecessors.{Predecessors}
use Rattle.curp_law_runs.proofs.Gives.{adoptions_ok}
use Rattle.curp_base.proofs.Numbered.{numbers_at}

-- they serve at opening
pub serves_opening : (h : Header) → OpeningServes (opening h)
unfolding opening
serves_opening h zero one last = absurd (omega (arith, one))
serves_opening h (suc k) one last = (_, at_map (opening_master (shape_of h)) (numbers_from 1 h.parts) k (suc k) (subst (At (numbers_from 1 h.parts) k) (omega arith) (numbers_at 1 h.parts k (omega (arith, last)))))

-- and serve on for good
pub serves_later : {w v : World} → Grows w v → OpeningServes w → OpeningServes v
serves_later {w} {v} grows serves part one last =
    let before = serves part one (subst (λ (s : Shape). part ≤ s.parts) grows.manager.shape last) in
    let later = grows.masters part (Serving before.0) before.1 in
    go before.0 later.0 later.2.life later.1
  where
    go : (m : MasterState) (k : MasterStage) → LifeGrows (Serving m) k → numbered v.masters part ≡ Some k → (m : MasterState) × (numbered v.masters part ≡ Some (Serving m))
    go m Fresh life is = absurd life
    go m (Recovering s) life is = absurd life
    go m (Serving k) life is = (k, is)

serves_run : (steps : List Step) (w : World) → OpeningServes w → OpeningServes (run w steps)
serves_run [] w serves = serves
serves_run (s ∷ steps) w serves = serves_run steps (step w s).world (serves_later (step_grows w s) serves)

-- so they serve in every world that scripts reach
pub serves_all : (h : Header) (steps : List Step) → OpeningServes (world h steps)
serves_all h steps = serves_run steps (opening h) (serves_opening h)

module _ {w : World} (known : Known w) (chain : Predecessors w) (serves : OpeningServes w) where
  -- each adopted master has a log
  pub adopted_log : (c : PartConfig) → IsAdoptedNow w c → AdoptedLog w c
  adopted_log c now = elim (cases_lt 1 c.epoch) [
    | inl late ↦ let a : AdoptionOk w (lists_of_part c) = adoptions_ok known.names known.inv chain (lists_of_part c) top.was late in record { now = now; its = a.its; its_log = a.its_log }
    | inr first ↦ elim ok.its_number [
      | inl opened ↦ record { now = now; its = record { log = own.0.log; round = own.0.round }; its_log = subst (λ (node : NodeId). HasLog w node (record { log = own.0.log; round = own.0.round })) (sym opened.1) by_number }
      | inr recovered ↦ absurd (omega (arith, first, recovered.1))
    ]
  ]
    where
      top : Top w (lists_of_part c)
      top = known.names.top c now

      ok : GivenOk w (lists_of_part c)
      ok = known.names.given (lists_of_part c) top.was.given

      own : (m : MasterState) × (numbered w.masters c.part ≡ Some (Serving m))
      own = serves c.part ok.part.0 ok.part.1

      by_number : HasLog w (master_node c.part) (record { log = own.0.log; round = own.0.round })
      by_number = record { m = Serving own.0; is = record { its_kind = refl; its_state = own.1 }; its_log = refl }
