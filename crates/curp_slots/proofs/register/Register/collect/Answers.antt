use Rattle.std.proofs.Common.{◌≡◌, ◌++◌, List, length, not, ap, rules, tests, arith, vec_capacity}
use Rattle.std.proofs.lemmas.Fn.{filter_same}
use Rattle.std.proofs.lemmas.List.{length-map}
use Rattle.curp_base.proofs.Lists.{Each-append}
use Rattle.curp_cmd.specs.RequestId.{has_id}
use Rattle.curp_model.specs.Witness.{HeldRequest, survives}
use Rattle.curp_slots.specs.Collection.{places_freed, places_left}
use Rattle.curp_slots.specs.Register.{IsRegister, IndexPlace}
use Rattle.curp_slots.proofs.Collections.{as_many_left, ascend_left, filled_left, freed_within, held_left, times_left, within_survived}
use Rattle.curp_slots.proofs.Registers.{ids_ascend}
use Rattle.curp_slots.proofs.register.Register.collect.Goals as goal

pub free_places-requires : goal.free_places-requires
free_places-requires c = let v = c.self.invariant in omega (arith, v.as_many, v.kept_within, v.free_fits, ap length c.as_slice.ensures.value)

left_is : (c : goal.After-survive_all) → c.retain.new.self.items ≡ places_left c.args.listed.now c.self.inside.index.items
left_is c = filter_same _ (λ (e : IndexPlace). not (has_id e.0 c.args.listed.now)) _ (λ x b f' k. search (rules, tests)) _ _ c.retain.ensures.filtered

pub invariant_of-self : goal.invariant_of-self
invariant_of-self c =
    let v = c.self.invariant in
    let kept = c.self.inside.kept.items in
    let free = c.self.inside.free.items in
    let index = c.self.inside.index.items in
    let listed = c.args.listed.now in
    let size = length-map kept survives in
    let freed : c.free_places.new.free.items ≡ free ++ places_freed listed index = rw (← c.as_slice.ensures.value) c.free_places.ensures.items in
    rw (c.survive_all.ensures.items, freed, left_is c)
    record {
      ascend = ascend_left listed index v.ascend;
      places = filled_left kept listed index v.places;
      within = Each-append _ free (places_freed listed index) (within_survived kept free v.within) (freed_within kept listed index v.places);
      once = λ at. let same = times_left listed at free index in omega (arith, same, v.once at);
      as_many = let same = as_many_left listed free index in omega (arith, same, size, v.as_many);
      kept_within = omega (arith, size, v.kept_within);
      kept_fits = omega (arith, v.kept_fits, c.survive_all.ensures.room);
      free_fits = omega (arith, v.free_fits, c.free_places.ensures.room, ap length freed);
      index_fits = omega (arith, v.index_fits, c.retain.ensures.room, ap length (left_is c));
    }

pub returns-clause-value : goal.returns-clause-value
returns-clause-value c =
    rw (← c.self.view_is, c.survive_all.ensures.items, left_is c)
    (ap (λ (h : List HeldRequest). record { room = c.self.inside.room; held = h }) (held_left c.self.inside.kept.items c.args.listed.now c.self.inside.index.items c.self.invariant.places))

pub returns-clause-ascend : goal.returns-clause-ascend
returns-clause-ascend c =
    let v : IsRegister c.self.inside.room c.survive_all.new.kept.items (vec_capacity c.survive_all.new.kept) c.free_places.new.free c.retain.new.self = invariant_of-self c in
    ids_ascend c.survive_all.new.kept.items c.retain.new.self.items v.ascend v.places
