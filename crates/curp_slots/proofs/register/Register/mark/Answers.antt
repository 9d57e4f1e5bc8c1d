use Rattle.std.proofs.Common.{◌≡◌, List, get_or, is_some, ◌∙◌, ap, sym, arith, length-set}
use Rattle.std.proofs.lemmas.List.{get_or_default}
use Rattle.curp_model.specs.Witness.{HeldRequest}
use Rattle.curp_slots.specs.Register.{held_by, marked, nobody}
use Rattle.curp_slots.proofs.Registers.{ids_ascend, all_filled_marked, filled_found, held_in_index, held_marked, none_marked, with_mark}
use Rattle.curp_slots.proofs.register.Register.mark.Goals as goal

pub index_mut-requires : goal.index_mut-requires
index_mut-requires c =
    let there = filled_found c.self.inside.kept.items c.self.inside.index.items c.args.id.now c.in-Some.at c.self.invariant.places (sym c.in-Some.ensures.value) in
    omega (arith, there.within)

mark_is : (c : goal.After-self-1) → c.mark.new.self ≡ marked (get_or c.self.inside.kept.items c.in-Some.at nobody)
mark_is c =
    let there = filled_found c.self.inside.kept.items c.self.inside.index.items c.args.id.now c.in-Some.at c.self.invariant.places (sym c.in-Some.ensures.value) in
    c.mark.ensures ∙ ap marked (c.index_mut.ensures.value ∙ get_or_default c.self.inside.kept.items c.in-Some.at c.index_mut.result.now nobody there.within)

pub invariant_of-self : goal.invariant_of-self
invariant_of-self c =
    let v = c.self.invariant in
    let kept = c.self.inside.kept.items in
    let same = length-set kept c.in-Some.at (marked (get_or kept c.in-Some.at nobody)) in
    rw (mark_is c)
    record {
      ascend = v.ascend;
      places = all_filled_marked kept c.in-Some.at c.self.inside.index.items v.places;
      within = rw same v.within;
      once = v.once;
      as_many = omega (arith, same, v.as_many);
      kept_within = omega (arith, same, v.kept_within);
      kept_fits = v.kept_fits;
      free_fits = v.free_fits;
      index_fits = v.index_fits;
    }

pub returns-in-Some : goal.returns-in-Some
returns-in-Some c = record {
  value =
      rw (← c.self.view_is, mark_is c)
      (ap (λ (h : List HeldRequest). record { room = c.self.inside.room; held = h })
      (held_marked c.self.inside.kept.items c.self.inside.index.items c.args.id.now c.in-Some.at c.self.invariant.ascend c.self.invariant.places (sym c.in-Some.ensures.value)));
  ascend =
      rw (mark_is c)
      (ids_ascend (with_mark c.self.inside.kept.items c.in-Some.at) c.self.inside.index.items c.self.invariant.ascend
      (all_filled_marked c.self.inside.kept.items c.in-Some.at c.self.inside.index.items c.self.invariant.places));
}

-- no request has the id
pub returns-in_default-clause-value : goal.returns-in_default-clause-value
returns-in_default-clause-value c =
    let none = held_in_index c.args.id.now c.self.inside.kept.items c.self.inside.index.items c.self.invariant.places ∙ ap is_some (sym c.in_default.ensures.value) in
    rw (← c.self.view_is) (ap (λ (h : List HeldRequest). record { room = c.self.inside.room; held = h }) (none_marked c.args.id.now (held_by c.self.inside.kept.items c.self.inside.index.items) none))

pub returns-in_default-clause-ascend : goal.returns-in_default-clause-ascend
returns-in_default-clause-ascend c = rw (← c.self.view_is) (ids_ascend c.self.inside.kept.items c.self.inside.index.items c.self.invariant.ascend c.self.invariant.places)
