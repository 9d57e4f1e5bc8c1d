-- The slots of a witness: which requests have them, and which sets have no room.
use Rattle.std.specs.Prelude.{ℕ, ◌+◌, ◌%◌, ◌==◌, ◌<◌, ◌≤◌, nat_lt, if◌then◌else◌, Bool, not, List, [], ◌∷◌, ◌++◌, length, Option, Some, None, slice_index_or, slice_set}
use Rattle.std.specs.List.{filter}
use Rattle.std.specs.Option.{option_map}
use Rattle.std.specs.FinMap.Entries.{by_order}
use Rattle.std.specs.Ordering.{nat_cmp, match_ordering}
use Rattle.std.specs.declared.cmp.Ordering.{Ordering}
use Rattle.curp_cmd.specs.RequestId.{has_id, id_cmp}
use Rattle.curp_cmd.specs.declared.command.RequestId.{RequestId}
use Rattle.curp_model.specs.Witness.{in_set}
use Rattle.curp_slots.specs.declared.set.Slot.{Slot}

-- ---- hashes

-- where a number would go among others in ascending order, if it isn't one of them
abbrev pub gap : List ℕ → ℕ → Option ℕ
gap [] n = Some 0
gap (x ∷ xs) n = match_ordering (nat_cmp n x) (Some 0) None (option_map (λ at. at + 1) (gap xs n))

-- ---- sets

-- the slots of those that aren't listed
abbrev pub slots_left : List RequestId → List Slot → List Slot
slots_left listed slots = filter (λ s. not (has_id s.id listed)) slots

-- the request that has a slot for the hash
abbrev pub owner_in : List Slot → ℕ → Option RequestId
owner_in [] hash = None
owner_in (s ∷ ss) hash = if s.hash == hash then Some s.id else owner_in ss hash

-- how many slots of set s are taken
abbrev pub taken_in : List (List Slot) → ℕ → ℕ
taken_in sets s = length (slice_index_or sets s [])

-- the set of the hash
abbrev pub set_of : List (List Slot) → ℕ → List Slot
set_of sets hash = slice_index_or sets (hash % length sets) []

-- the request that has the slot of the hash, in its set
abbrev pub owner : List (List Slot) → ℕ → Option RequestId
owner sets hash = owner_in (set_of sets hash) hash

-- the lesser of two, where there are two
abbrev pub lesser : {K : Type 0} → (K → K → Ordering) → Option K → Option K → Option K
lesser cmp None b = b
lesser cmp (Some a) None = Some a
lesser cmp (Some a) (Some b) = by_order (cmp a b) (Some a) (Some a) (Some b)

-- the least request that has a slot of one of the hashes
abbrev pub least_owner : List (List Slot) → List ℕ → Option RequestId
least_owner sets [] = None
least_owner sets (h ∷ hs) = lesser id_cmp (owner sets h) (least_owner sets hs)

-- a slot more is taken, in set s
abbrev pub with_slot_in : List (List Slot) → ℕ → Slot → List (List Slot)
with_slot_in sets s slot = slice_set sets s (slice_index_or sets s [] ++ slot ∷ [])

-- a slot more is taken, in the set of its hash
abbrev pub with_slot : List (List Slot) → ℕ → RequestId → List (List Slot)
with_slot sets hash id = with_slot_in sets (hash % length sets) (record { hash = hash; id = id })

-- a request takes a slot for each of the hashes
abbrev pub with_slots : List (List Slot) → List ℕ → RequestId → List (List Slot)
with_slots sets [] id = sets
with_slots sets (h ∷ hs) id = with_slots (with_slot sets h id) hs id

-- the slots of each set that are taken, and how many a set has at most
pub record SlotTable : Type 0 where
  pub ways : ℕ
  pub sets : List (List Slot)

-- the set has no room for those of the hashes that go to it
abbrev pub has_no_room : SlotTable → List ℕ → ℕ → Bool
has_no_room t hashes s = nat_lt t.ways (taken_in t.sets s + in_set (length t.sets) s hashes)

-- the set, if it has no room
abbrev pub if_full : SlotTable → List ℕ → ℕ → Option ℕ
if_full t hashes s = if has_no_room t hashes s then Some s else None

-- the least of the sets of some hashes that has no room for all the hashes
abbrev pub least_full : SlotTable → List ℕ → List ℕ → Option ℕ
least_full t hashes [] = None
least_full t hashes (h ∷ hs) = lesser nat_cmp (if_full t hashes (h % length t.sets)) (least_full t hashes hs)

-- no set has more slots than it may have, and their numbers are as those of witnesses
pub record IsSlotTable (ways : ℕ) (sets : List (List Slot)) : Type 0 where
  pub some_sets : 1 ≤ length sets
  pub sets_fit : length sets ≤ 1024
  pub some_ways : 1 ≤ ways
  pub ways_fit : ways ≤ 16
  pub within : (s : ℕ) → s < length sets → taken_in sets s ≤ ways

-- each set has room for those of the hashes that go to it
abbrev pub HasSlotsFor : SlotTable → List ℕ → Type 0
HasSlotsFor t hashes = (s : ℕ) → s < length t.sets → taken_in t.sets s + in_set (length t.sets) s hashes ≤ t.ways
