use Rattle.std.proofs.Common.{◌≡◌, ℕ, List, Some, None, refl, sym, ap, ◌∙◌, subst}
use Rattle.curp_model.specs.Witness.{conflict, full_set, newly_held, placed, HeldRequest}
use Rattle.curp_slots.specs.Modes.{started_mode}
use Rattle.curp_slots.specs.Register.{IdsAscend, Registered}
use Rattle.curp_slots.specs.Slots.{HasSlotsFor, least_owner}
use Rattle.curp_slots.proofs.Accepting.{sizes_kept}
use Rattle.curp_slots.proofs.Holdings.{accepted, conflict_is, full_is, marked_is, marked_witness, room_is, room_left, witness_of}
use Rattle.curp_slots.proofs.started.StartedWitness.hold_new.Goals as goal

-- a request is in the way

pub invariant_of-self : goal.invariant_of-self
invariant_of-self c =
    rw c.mark_owners.ensures
    (marked_witness (started_mode c.self.inside.frozen) (Some c.self.inside.epoch) c.self.inside.slots c.self.inside.register c.self.invariant c.args.request c.args.hashes.now c.requires.hashes)

pub returns-in-Some : goal.returns-in-Some
returns-in-Some c =
    let w = witness_of (started_mode c.self.inside.frozen) (Some c.self.inside.epoch) c.self.inside.slots c.self.inside.register in
    let found : conflict w c.args.request ≡ Some c.in-Some.held =
    conflict_is (started_mode c.self.inside.frozen) (Some c.self.inside.epoch) c.self.inside.slots c.self.inside.register c.self.invariant c.args.request c.args.hashes.now c.requires.hashes ∙ sym c.least_owner.ensures ∙ c.in-Some.is in
    let held = marked_is (started_mode c.self.inside.frozen) (Some c.self.inside.epoch) c.self.inside.slots c.self.inside.register c.self.invariant c.args.request c.args.hashes.now c.requires.hashes in
    record {
      state = rw (← c.self.view_is, found, c.mark_owners.ensures) (ap (λ (h : List HeldRequest). record w { held = h }) held);
      answer = rw (← c.self.view_is, found) refl;
    }

-- a set is full

pub returns-in-Some-full_set : goal.returns-in-Some-full_set
returns-in-Some-full_set c =
    let w = witness_of (started_mode c.self.inside.frozen) (Some c.self.inside.epoch) c.self.inside.slots c.self.inside.register in
    let none : conflict w c.args.request ≡ None =
    conflict_is (started_mode c.self.inside.frozen) (Some c.self.inside.epoch) c.self.inside.slots c.self.inside.register c.self.invariant c.args.request c.args.hashes.now c.requires.hashes ∙ sym c.least_owner.ensures ∙ c.in_default.is in
    let full : full_set w c.args.request ≡ Some c.in-Some-full_set.set =
    full_is (started_mode c.self.inside.frozen) (Some c.self.inside.epoch) c.self.inside.slots c.self.inside.register c.self.invariant c.args.request c.args.hashes.now c.requires.hashes ∙ sym c.full_set.ensures ∙ c.in-Some-full_set.is in
    record { state = rw (← c.self.view_is, none, full) refl; answer = rw (← c.self.view_is, none, full) refl }

-- there is room

pub take-requires : goal.take-requires
take-requires c =
    room_is (started_mode c.self.inside.frozen) (Some c.self.inside.epoch) c.self.inside.slots c.self.inside.register c.self.invariant c.args.request c.args.hashes.now c.requires.hashes (sym c.full_set.ensures ∙ c.in_default-full_set.is)

pub add-requires-clause-room : goal.add-requires-clause-room
add-requires-clause-room c =
    let none : least_owner c.self.inside.slots.sets c.args.hashes.now ≡ None = sym c.least_owner.ensures ∙ c.in_default.is in
    let room : HasSlotsFor c.self.inside.slots c.args.hashes.now = room_is (started_mode c.self.inside.frozen) (Some c.self.inside.epoch) c.self.inside.slots c.self.inside.register c.self.invariant c.args.request c.args.hashes.now c.requires.hashes (sym c.full_set.ensures ∙ c.in_default-full_set.is) in
    room_left c.self.inside.slots c.self.inside.register c.self.invariant c.args.request c.args.hashes.now c.requires.hashes (rw (← c.self.view_is) at c.requires.new) none room c.requires.some

pub invariant_of-self-2 : goal.invariant_of-self-2
invariant_of-self-2 c =
    let none : least_owner c.self.inside.slots.sets c.args.hashes.now ≡ None = sym c.least_owner.ensures ∙ c.in_default.is in
    let room : HasSlotsFor c.self.inside.slots c.args.hashes.now = room_is (started_mode c.self.inside.frozen) (Some c.self.inside.epoch) c.self.inside.slots c.self.inside.register c.self.invariant c.args.request c.args.hashes.now c.requires.hashes (sym c.full_set.ensures ∙ c.in_default-full_set.is) in
    let ascend : IdsAscend (placed (newly_held c.args.request) c.self.inside.register.held) = subst (λ (register : Registered). IdsAscend register.held) c.add.ensures.value c.add.ensures.ascend in
    rw (c.take.ensures, c.add.ensures.value, c.deref.ensures)
    (accepted c.self.inside.slots c.self.inside.register c.self.invariant c.args.request c.args.hashes.now c.requires.hashes (rw (← c.self.view_is) at c.requires.new) none room c.requires.some ascend)

pub returns : goal.returns
returns c =
    let w = witness_of (started_mode c.self.inside.frozen) (Some c.self.inside.epoch) c.self.inside.slots c.self.inside.register in
    let none : conflict w c.args.request ≡ None =
    conflict_is (started_mode c.self.inside.frozen) (Some c.self.inside.epoch) c.self.inside.slots c.self.inside.register c.self.invariant c.args.request c.args.hashes.now c.requires.hashes ∙ sym c.least_owner.ensures ∙ c.in_default.is in
    let not_full : full_set w c.args.request ≡ None =
    full_is (started_mode c.self.inside.frozen) (Some c.self.inside.epoch) c.self.inside.slots c.self.inside.register c.self.invariant c.args.request c.args.hashes.now c.requires.hashes ∙ sym c.full_set.ensures ∙ c.in_default-full_set.is in
    record {
      state =
          rw (← c.self.view_is, none, not_full, c.take.ensures, c.add.ensures.value, c.deref.ensures)
          (ap (λ (n : ℕ). record w { sets = n; held = placed (newly_held c.args.request) c.self.inside.register.held }) (sizes_kept c.self.inside.slots.sets c.args.hashes.now c.args.request.id));
      answer = rw (← c.self.view_is, none, not_full) refl;
    }
