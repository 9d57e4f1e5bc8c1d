use Rattle.std.proofs.Common.{◌≡◌, Some, None, sym}
use Rattle.std.specs.FinMap.Entries.{find}
use Rattle.curp_cmd.specs.RequestId.{id_cmp}
use Rattle.curp_tail.proofs.Waits.{joined_is, queue_joined, queue_raised, raised_is}
use Rattle.curp_tail.proofs.queue.Queue.add.Goals as goal

-- it waits already

pub invariant_of-self : goal.invariant_of-self
invariant_of-self c =
    let found : find id_cmp c.args.id c.self.inside.waits.items ≡ Some c.in-Some.until = sym c.in-Some.ensures.value in
    rw c.put.ensures.items (queue_raised c.self.inside.order.items c.self.inside.waits.items c.self.invariant c.args.id c.in-Some.until c.max.result found)

pub returns-in-Some-clause-waiting : goal.returns-in-Some-clause-waiting
returns-in-Some-clause-waiting c =
    let found : find id_cmp c.args.id c.self.inside.waits.items ≡ Some c.in-Some.until = sym c.in-Some.ensures.value in
    rw (← c.self.view_is, c.put.ensures.items, c.max.ensures) (raised_is c.self.inside.order.items c.self.inside.waits.items c.self.invariant c.args.id c.in-Some.until c.args.length found)

-- it comes behind the others

pub invariant_of-self-in-None : goal.invariant_of-self-in-None
invariant_of-self-in-None c =
    let none : find id_cmp c.args.id c.self.inside.waits.items ≡ None = sym c.in-None.ensures.value in
    rw (c.push.ensures.items, c.put-in-None.ensures.items) (queue_joined c.self.inside.order.items c.self.inside.waits.items c.self.invariant c.args.id c.args.length none)

pub returns-in-None-clause-waiting : goal.returns-in-None-clause-waiting
returns-in-None-clause-waiting c =
    let none : find id_cmp c.args.id c.self.inside.waits.items ≡ None = sym c.in-None.ensures.value in
    rw (← c.self.view_is, c.push.ensures.items, c.put-in-None.ensures.items) (joined_is c.self.inside.order.items c.self.inside.waits.items c.self.invariant c.args.id c.args.length none)
