use Rattle.std.proofs.Common.{Some, ap, sym, ◌∙◌}
use Rattle.curp_base.proofs.Places.{found_at, none_in_gap}
use Rattle.curp_base.specs.Places.{IsKeyAt, IsKeyGap}
use Rattle.curp_base.proofs.reserved_pairs.ReservedPairs.value_of.Goals as goal

pub returns-in-Ok-clause-value : goal.returns-in-Ok-clause-value
returns-in-Ok-clause-value g c =
    let found : IsKeyAt g.K.Ord.cmp c.self.inside.pairs.items c.args.key.now c.in-Ok.at = rw (← c.deref.ensures.value) c.in-Ok.ensures.found in
    rw (← c.self.view_is)
    (ap (λ e. Some e.1) c.index.ensures ∙ sym (found_at g.K.Ord.cmp g.met.K.Ord.total c.self.inside.pairs.items c.args.key.now c.in-Ok.at c.index.result.now found))

pub returns-in-Err-clause-value : goal.returns-in-Err-clause-value
returns-in-Err-clause-value g c =
    let gap : IsKeyGap g.K.Ord.cmp c.self.inside.pairs.items c.args.key.now c.in-Err.field-0 = rw (← c.deref.ensures.value) c.in-Err.ensures.absent in
    rw (← c.self.view_is) (sym (none_in_gap g.K.Ord.cmp g.met.K.Ord.total c.self.inside.pairs.items c.args.key.now c.in-Err.field-0 gap))
