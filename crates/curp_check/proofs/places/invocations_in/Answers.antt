use Rattle.std.proofs.Common.{refl, subst}
use Rattle.std.specs.BTreeMap.{get}
use Rattle.curp_cmd.specs.RequestId.{id_cmp}
use Rattle.curp_order.specs.declared.Event.TheVariants.{Invoke, Complete}
use Rattle.curp_check.proofs.Finding.{no_invocation, one_invocation}
use Rattle.curp_check.specs.Packed.{IsMarked}
use Rattle.curp_check.specs.declared.events.Mark.{Mark}
use Rattle.curp_check.proofs.places.invocations_in.Goals as goal
use Rattle.curp_check.proofs.places.invocations_in.Goals.{in-Invoke+in_ok-insert, in_default}

pub loop-at-preserved : goal.loop-at-preserved
loop-at-preserved c =
    let events = c.args.history.now in
    let n = c.loop-at.at in
    elim c.match-mark.branch [
      | in-Invoke+in_ok-insert w ↦
          let there = subst (λ (m : Mark). IsMarked events n m) w.in-Invoke.is c.mark.ensures in
          rw w.found-is (one_invocation n (get id_cmp c.loop-at.found) (get id_cmp w.insert.new.self) events
          (Invoke w.in-Invoke.id there.0) w.in-Invoke.id there.1 refl w.in_ok-insert.ensures.updates.0 c.loop-at.invariant)
      | in_default w ↦
          let there = subst (λ (m : Mark). IsMarked events n m) w.in_default.is c.mark.ensures in
          rw w.found-is (no_invocation n (get id_cmp c.loop-at.found) events (Complete _ there.0) there.1 refl c.loop-at.invariant)
    ]
