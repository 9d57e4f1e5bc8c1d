use Rattle.std.proofs.Common.{◌≡◌}
use Rattle.curp_base.proofs.Places.{once_in_gap, once_at, ascend_once}
use Rattle.curp_base.specs.Places.{IsKeyAt, IsKeyGap, put_once}
use Rattle.curp_base.proofs.reserved_pairs.ReservedPairs.put_once.Given.{Over}
use Rattle.curp_base.proofs.reserved_pairs.ReservedPairs.put_once.Goals as goal

put_is : (g : Over) (c : goal.After-insert g) → c.insert.new.self.items ≡ put_once g.K.Ord.cmp c.args.key c.args.value c.self.inside.pairs.items
put_is g c =
    let gap : IsKeyGap g.K.Ord.cmp c.self.inside.pairs.items c.args.key c.in-Err.gap = rw (← c.deref.ensures.value) c.in-Err.ensures.absent in
    rw c.insert.ensures.items (once_in_gap g.K.Ord.cmp g.met.K.Ord.total c.self.inside.pairs.items c.args.key c.args.value c.in-Err.gap gap)

pub invariant_of-self : goal.invariant_of-self
invariant_of-self g c = rw (put_is g c) (ascend_once g.K.Ord.cmp g.met.K.Ord.total c.self.inside.pairs.items c.args.key c.args.value c.self.invariant)

pub returns-in-Err-clause-items : goal.returns-in-Err-clause-items
returns-in-Err-clause-items g c = rw (← c.self.view_is) (put_is g c)

pub returns-in_default-clause-items : goal.returns-in_default-clause-items
returns-in_default-clause-items g c =
    let found : IsKeyAt g.K.Ord.cmp c.self.inside.pairs.items c.args.key c.in_default.field-0 = rw (← c.deref.ensures.value) c.in_default.ensures.found in
    rw (← c.self.view_is) (once_at g.K.Ord.cmp g.met.K.Ord.total c.self.inside.pairs.items c.args.key c.args.value c.in_default.field-0 (c.args.key, c.args.value) found)
