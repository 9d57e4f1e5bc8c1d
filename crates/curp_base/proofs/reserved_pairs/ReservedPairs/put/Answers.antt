use Rattle.std.proofs.Common.{◌≡◌, ap, set, ◌∙◌}
use Rattle.std.specs.FinMap.Entries.{put, is_sorted-put}
use Rattle.curp_base.proofs.Places.{put_at, put_in_gap}
use Rattle.curp_base.specs.Places.{IsKeyAt, IsKeyGap}
use Rattle.curp_base.proofs.reserved_pairs.ReservedPairs.put.Given.{Over}
use Rattle.curp_base.proofs.reserved_pairs.ReservedPairs.put.Goals as goal

-- the key is there

set_is : (g : Over) (c : goal.After-set g) → c.set.new.self.items ≡ put g.K.Ord.cmp c.args.key c.args.value c.self.inside.pairs.items
set_is g c =
    let found : IsKeyAt g.K.Ord.cmp c.self.inside.pairs.items c.args.key c.in-Ok.at = rw (← c.deref.ensures.value) c.in-Ok.ensures.found in
    c.set.ensures.items
    ∙ ap (λ e. set c.self.inside.pairs.items c.in-Ok.at (e.0, c.args.value)) c.index.ensures
    ∙ put_at g.K.Ord.cmp g.met.K.Ord.total c.self.inside.pairs.items c.args.key c.args.value c.in-Ok.at c.index.result.now found

pub invariant_of-self : goal.invariant_of-self
invariant_of-self g c = rw (set_is g c) (is_sorted-put g.K.Ord.cmp g.met.K.Ord.total c.args.key c.args.value c.self.inside.pairs.items c.self.invariant)

pub returns-in-Ok-clause-items : goal.returns-in-Ok-clause-items
returns-in-Ok-clause-items g c = rw (← c.self.view_is) (set_is g c)

-- it comes

insert_is : (g : Over) (c : goal.After-insert g) → c.insert.new.self.items ≡ put g.K.Ord.cmp c.args.key c.args.value c.self.inside.pairs.items
insert_is g c =
    let gap : IsKeyGap g.K.Ord.cmp c.self.inside.pairs.items c.args.key c.in-Err.gap = rw (← c.deref.ensures.value) c.in-Err.ensures.absent in
    rw c.insert.ensures.items (put_in_gap g.K.Ord.cmp g.met.K.Ord.total c.self.inside.pairs.items c.args.key c.args.value c.in-Err.gap gap)

pub invariant_of-self-in-Err : goal.invariant_of-self-in-Err
invariant_of-self-in-Err g c = rw (insert_is g c) (is_sorted-put g.K.Ord.cmp g.met.K.Ord.total c.args.key c.args.value c.self.inside.pairs.items c.self.invariant)

pub returns-in-Err-clause-items : goal.returns-in-Err-clause-items
returns-in-Err-clause-items g c = rw (← c.self.view_is) (insert_is g c)
