use Rattle.std.proofs.Common.{◌≡◌, ◌<◌, List, None, length, refl, ap, ◌∙◌, arith, vec_capacity}
use Rattle.std.proofs.lemmas.List.{length-map}
use Rattle.std.specs.FinMap.Entries.{find, is_sorted-put}
use Rattle.curp_cmd.specs.RequestId.{id_cmp}
use Rattle.curp_model.proofs.Tables.{ids_total}
use Rattle.curp_model.specs.Witness.{newly_held, HeldRequest}
use Rattle.curp_slots.specs.Register.{IsRegister, IndexPlace, held_at, is_held}
use Rattle.curp_slots.proofs.Registers.{added, as_many_added, filled_added, ids_ascend, none_held, once_added, size_added, size_within, within_added}
use Rattle.curp_slots.proofs.register.Register.add.Goals as goal

pub put-at-requires : goal.put-at-requires
put-at-requires c =
    let v = c.self.invariant in
    let few : length c.self.inside.index.items < c.self.inside.room = omega (arith, ap (λ r. length r.held) c.self.view_is, ap (λ r. r.room) c.self.view_is, length-map c.self.inside.index.items (held_at c.self.inside.kept.items), c.requires.room) in
    record {
      within = v.within;
      room = λ none. omega (arith, none, few, v.as_many, v.kept_fits);
      few = omega (arith, v.kept_within, few, c.self.ranges.0);
    }

pub put-requires : goal.put-requires
put-requires c = omega (arith, ap (λ r. length r.held) c.self.view_is, ap (λ r. r.room) c.self.view_is, length-map c.self.inside.index.items (held_at c.self.inside.kept.items), c.requires.room, c.self.invariant.index_fits)

absent : (c : goal.After-put) → find id_cmp c.args.request.id c.self.inside.index.items ≡ None
absent c = none_held c.args.request.id c.self.inside.kept.items c.self.inside.index.items c.self.invariant.places (ap (λ r. is_held c.args.request.id r.held) c.self.view_is ∙ c.requires.absent)

pub invariant_of-self : goal.invariant_of-self
invariant_of-self c =
    let v = c.self.invariant in
    let kept = c.self.inside.kept.items in
    let free = c.self.inside.free.items in
    let index = c.self.inside.index.items in
    let p : IndexPlace = (c.args.request.id, c.put-at.result) in
    let x = newly_held c.args.request in
    let few : length index < c.self.inside.room = omega (arith, ap (λ r. length r.held) c.self.view_is, ap (λ r. r.room) c.self.view_is, length-map index (held_at kept), c.requires.room) in
    let more = size_added kept x p free c.put-at.new.free.items index v.places v.within v.once c.put-at.ensures.free (absent c) v.ascend in
    rw (c.put-at.ensures.kept, c.put.ensures.items, c.deref.ensures)
    record {
      ascend = is_sorted-put id_cmp ids_total c.args.request.id c.put-at.result index v.ascend;
      places = filled_added kept x p free c.put-at.new.free.items index v.places v.within v.once c.put-at.ensures.free (absent c) refl;
      within = within_added kept x p free c.put-at.new.free.items index v.places v.within v.once c.put-at.ensures.free (absent c);
      once = once_added kept x p free c.put-at.new.free.items index v.places v.within v.once c.put-at.ensures.free (absent c);
      as_many = as_many_added kept x p free c.put-at.new.free.items index v.places v.within v.once c.put-at.ensures.free (absent c) v.ascend v.as_many;
      kept_within = size_within kept x p free c.put-at.new.free.items index v.places v.within v.once c.put-at.ensures.free (absent c) c.self.inside.room v.kept_within v.as_many few;
      kept_fits = omega (arith, v.kept_fits, c.put-at.ensures.kept_room);
      free_fits = omega (arith, v.free_fits, c.put-at.ensures.free_room);
      index_fits = omega (arith, v.index_fits, c.put.ensures.spare, more);
    }

pub returns-clause-value : goal.returns-clause-value
returns-clause-value c =
    let v = c.self.invariant in
    let kept = c.self.inside.kept.items in
    let index = c.self.inside.index.items in
    let p : IndexPlace = (c.args.request.id, c.put-at.result) in
    let held = added kept (newly_held c.args.request) p c.self.inside.free.items c.put-at.new.free.items index v.places v.within v.once c.put-at.ensures.free (absent c) refl in
    rw (← c.self.view_is, c.put-at.ensures.kept, c.put.ensures.items, c.deref.ensures) (ap (λ (h : List HeldRequest). record { room = c.self.inside.room; held = h }) held)

pub returns-clause-ascend : goal.returns-clause-ascend
returns-clause-ascend c =
    let v : IsRegister c.self.inside.room c.put-at.new.kept.items (vec_capacity c.put-at.new.kept) c.put-at.new.free c.put.new.self = invariant_of-self c in
    ids_ascend c.put-at.new.kept.items c.put.new.self.items v.ascend v.places
