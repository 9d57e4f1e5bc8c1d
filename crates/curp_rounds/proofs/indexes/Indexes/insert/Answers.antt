use Rattle.std.proofs.Common.{nat_cmp, ap, ◌∙◌}
use Rattle.std.specs.BTreeSet.{insert_key}
use Rattle.curp_rounds.specs.Indexes.{IsBetween}
use Rattle.curp_rounds.proofs.Places.{put_between, put_again, rise_put}
use Rattle.curp_rounds.proofs.indexes.Indexes.insert.Goals as goal

-- the index is put into the gap, for which there was room
pub invariant_of-self : goal.invariant_of-self
invariant_of-self c =
    let between : IsBetween c.self.inside.numbers.items c.args.index c.in-Err.at = rw (← c.deref.ensures.value) c.in-Err.ensures.absent in
    rw c.insert.ensures.items (rise_put c.self.inside.numbers.items c.args.index c.in-Err.at c.self.invariant between)

pub returns-in-Err : goal.returns-in-Err
returns-in-Err c =
    let between : IsBetween c.self.inside.numbers.items c.args.index c.in-Err.at = rw (← c.deref.ensures.value) c.in-Err.ensures.absent in
    rw c.insert.ensures.items (put_between c.self.inside.numbers.items c.args.index c.in-Err.at between)
    ∙ ap (λ i. insert_key nat_cmp i.numbers c.args.index) c.self.view_is

-- it was there
pub returns-in_default : goal.returns-in_default
returns-in_default c =
    let there = rw c.deref.ensures.value at c.in_default.ensures.found in
    rw (← c.self.view_is) (put_again c.self.inside.numbers.items c.args.index c.in_default.field-0 c.self.invariant there.0 there.1)
