use Rattle.std.proofs.Common.{◌+◌, ◌<◌, ◌∙◌, Option, ℕ, length, sym, ap, subst, arith}
use Rattle.std.specs.BTreeMap.{get}
use Rattle.curp_cmd.specs.RequestId.{id_cmp}
use Rattle.curp_check.proofs.Sweeps.{IsLatest, completion_in_time, completion_latest, invocation_in_time, invocation_latest, invocation_too_late}
use Rattle.curp_check.specs.Found.{is_up_to, later_of}
use Rattle.curp_check.specs.Packed.{IsMarked}
use Rattle.curp_check.specs.declared.events.Mark.{Mark}
use Rattle.curp_check.proofs.sweep.are_in_time.Goals as goal
use Rattle.curp_check.proofs.sweep.are_in_time.Goals.{in-Complete, in-Invoke+else-is_up_to}

pub loop-at-preserved : goal.loop-at-preserved
loop-at-preserved c =
    let events = c.args.history.now in
    let n = c.loop-at.at in
    let find = get id_cmp c.args.places.now in
    elim c.match-mark.branch [
      | in-Complete w ↦
          let there = subst (λ (m : Mark). IsMarked events n m) w.in-Complete.is c.mark.ensures in
          let next = w.latest-is ∙ w.later_of-latest.ensures ∙ ap (λ (o : Option ℕ). later_of o c.loop-at.latest) w.place_of.ensures in
          record {
            latest = subst (λ (o : Option ℕ). IsLatest (n + 1) find events o) (sym next)
                (completion_latest n find events w.in-Complete.id there.0 c.loop-at.latest there.1 c.loop-at.invariant.latest);
            in_time = completion_in_time n find events w.in-Complete.id there.0 there.1 c.loop-at.invariant.in_time;
          }
      | in-Invoke+else-is_up_to w ↦
          let there = subst (λ (m : Mark). IsMarked events n m) w.in-Invoke.is c.mark.ensures in
          let past = ap (is_up_to c.loop-at.latest) (sym w.place_of-in-Invoke.ensures) ∙ sym w.is_up_to.ensures ∙ w.if-is_up_to.false in
          record {
            latest = subst (λ (o : Option ℕ). IsLatest (n + 1) find events o) (sym w.latest-is)
                (invocation_latest n find events w.in-Invoke.id there.0 c.loop-at.latest there.1 c.loop-at.invariant.latest);
            in_time = invocation_in_time n find events w.in-Invoke.id there.0 c.loop-at.latest there.1 c.loop-at.invariant.latest past c.loop-at.invariant.in_time;
          }
    ]

pub returns-then-is_up_to : goal.returns-then-is_up_to
returns-then-is_up_to c =
    let events = c.args.history.now in
    let n = c.loop-at.at in
    let find = get id_cmp c.args.places.now in
    let there = subst (λ (m : Mark). IsMarked events n m) c.in-Invoke.is c.mark.ensures in
    let late = ap (is_up_to c.loop-at.latest) (sym c.place_of-in-Invoke.ensures) ∙ sym c.is_up_to.ensures ∙ c.if-is_up_to.true in
    let within : n < length events = omega (arith, c.loop-at-test.true, c.len-at-end.ensures) in
    (λ so. absurd cc, λ t. absurd (invocation_too_late n (length events) find events c.in-Invoke.id there.0 c.loop-at.latest within there.1 c.loop-at.invariant.latest late t))
