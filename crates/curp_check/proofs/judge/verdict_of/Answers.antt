use Rattle.std.specs.BTreeMap.{get}
use Rattle.curp_cmd.specs.RequestId.{id_cmp}
use Rattle.curp_check.proofs.Tests.{fails, yes}
use Rattle.curp_check.proofs.Verdicts.{each_from_invoked, first_broken, invoked_from_each}
use Rattle.curp_check.proofs.judge.verdict_of.Goals as goal

pub returns-then-not-branch : goal.returns-then-not-branch
returns-then-not-branch c =
    let events = c.args.history.now in
    let order = c.args.order.now in
    first_broken events order (λ holds. fails c.in_ok-were_invoked.field-0 c.in_ok-were_invoked.ensures c.if-not-branch.true (each_from_invoked events order holds))

pub verdict_at-requires-clause-invoked : goal.verdict_at-requires-clause-invoked
verdict_at-requires-clause-invoked c =
    let events = c.args.history.now in
    let order = c.args.order.now in
    invoked_from_each events order (get id_cmp c.in-Some.places) (rw c.in-Some.is at c.in_ok-places.ensures.found)
    (yes c.in_ok-were_invoked.field-0 c.in_ok-were_invoked.ensures c.if-not-branch.false)
