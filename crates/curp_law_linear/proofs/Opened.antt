-- What is kept of the order holds at the opening.
use Rattle.std.proofs.Common.{◌≡◌, ℕ, ◌≤◌, ◌^◌, List, [], ap, ◌∙◌, subst, arith, Some}
use Rattle.curp_base.specs.Words.{Each, numbers_from}
use Rattle.curp_cmd.specs.declared.node.NodeId.{NodeId}
use Rattle.curp_msg.specs.declared.config.PartConfig.{PartConfig}
use Rattle.curp_msg.specs.declared.script.Header.{Header}
use Rattle.curp_model.specs.Log.{log_opening}
use Rattle.curp_model.specs.Master.{Captured, MasterState}
use Rattle.curp_model.specs.Named.{IsMaster}
use Rattle.curp_model.specs.Recovery.{MasterStage, Serving}
use Rattle.curp_model.specs.World.{opening, opening_master, shape_of}
use Rattle.curp_facts.specs.Facts.{HasLog, Logged, hi_of, lo_of, node_log}
use Rattle.curp_facts.specs.Kept.{AdoptedLog}
use Rattle.curp_msg.specs.Script.{IsHeader}
use Rattle.curp_law_linear.proofs.Openings.{opening_line}
use Rattle.curp_law_linear.proofs.OpenedCuts.{cuts_follow_opening}
use Rattle.curp_law_linear.specs.Ordered.{AdoptedLogOk, CaptureOk, MigrationsRise, Ordered}
use Rattle.curp_law_kept.specs.GivesFit.{GivesFit}
use Rattle.curp_law_runs.proofs.Gives.{nothing_sent}
use Rattle.curp_base.proofs.Lists.{at_mapped}
use Rattle.curp_base.proofs.Numbered.{place}

module _ (h : Header) where
  -- a master of the opening
  begins : (node : NodeId) (m : MasterStage) → IsMaster (opening h) node m → (n : ℕ) × (opening_master (shape_of h) n ≡ m)
  unfolding opening
  begins node m is =
      let p = place (opening h).masters node.number m is.its_state in
      let a = at_mapped (opening_master (shape_of h)) (numbers_from 1 h.parts) p.0 m p.2 in
      (a.0, a.2)

  -- has an empty log
  empty_log : (node : NodeId) (its : Logged) → HasLog (opening h) node its → [] ≡ its.log
  empty_log node its has = let b = begins node has.m has.is in go (has.m) b.0 b.1 has.its_log
    where
      go : (m : MasterStage) (n : ℕ) → opening_master (shape_of h) n ≡ m → node_log m ≡ Some its → [] ≡ its.log
      go m n same log = ap (λ (l : Logged). l.log) (some (ap node_log same ∙ log))
        where
          some : {a b : Logged} → Some a ≡ Some b → a ≡ b
          some e = cc

  -- and has captured nothing
  no_captures : (node : NodeId) (m : MasterState) → IsMaster (opening h) node (Serving m) → [] ≡ m.captures
  no_captures node m is = let b = begins node (Serving m) is in go b.0 b.1
    where
      captures_of : MasterStage → List Captured
      captures_of (Serving k) = k.captures
      captures_of _ = []

      go : (n : ℕ) → opening_master (shape_of h) n ≡ Serving m → [] ≡ m.captures
      go n same = ap captures_of same

  logs_first : (c : PartConfig) (l : AdoptedLog (opening h) c) → AdoptedLogOk (opening h) c l
  logs_first c l =
      let none = empty_log c.master l.its l.its_log in
      record {
        rise = subst MigrationsRise none (λ j k m n d e low at to p q. absurd cc);
        fit = subst (GivesFit (log_opening (lo_of (opening h) c.part) (hi_of (opening h) c.part)) 0) none tt;
      }

  -- what is kept of the order holds at the opening
  pub ordered_opening : IsHeader h → Ordered (opening h)
  unfolding opening
  ordered_opening its = record {
    line = opening_line h (few h.parts its.parts.1);
    cuts_follow = cuts_follow_opening h;
    cuts_timed = λ part i m at order sent. absurd (nothing_sent h _ sent);
    commands = λ i id command at. absurd cc;
    logs = logs_first;
    numbered_looks = record { made = λ k number m at is. absurd cc; once = λ j k number m o at to is its same. absurd cc };
    worths = λ node v sent. absurd (nothing_sent h _ sent);
    quicks = λ node q sent. absurd (nothing_sent h _ sent);
    captures = λ node m is. subst (Each (CaptureOk (opening h) node m)) (no_captures node m is) tt;
    reached = record { completed = λ k number long m at is done. absurd cc; older = λ k number long m c at is now part low. absurd cc; quick = λ k number m at is. absurd cc };
    stored = λ k number long m c at is now part done. absurd cc;
  }
    where
      few : (n : ℕ) → n ≤ 16 → n ≤ 2 ^ 64
      few n low = omega (arith, low)
