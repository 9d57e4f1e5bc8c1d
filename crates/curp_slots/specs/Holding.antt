-- What a witness holds, and which of its slots that takes.
use Rattle.std.specs.Prelude.{◌≡◌, ℕ, ◌*◌, ◌<◌, ◌≤◌, List, [], ◌∷◌, length, map, Bool, Option, Some, None}
use Rattle.std.specs.List.{filter, sum}
use Rattle.std.specs.Option.{option_to_list}
use Rattle.curp_base.specs.Words.{Each}
use Rattle.curp_cmd.specs.Hash.{touches, hashes}
use Rattle.curp_cmd.specs.declared.command.Request.{Request}
use Rattle.curp_cmd.specs.declared.command.RequestId.{RequestId}
use Rattle.curp_model.specs.Witness.{in_set, HeldRequest}
use Rattle.curp_slots.specs.Hashed.{requests_of}
use Rattle.curp_slots.specs.Register.{IdsAscend, Registered, marked_at}
use Rattle.curp_slots.specs.Slots.{SlotTable, owner, taken_in}
use Rattle.curp_slots.specs.declared.set.Slot.{Slot}

-- the ids of the requests that have the hash
abbrev pub ids_with : ℕ → List Request → List RequestId
ids_with hash requests = map (λ r. r.id) (filter (λ r. touches r.command hash) requests)

-- how many slots of set s the requests take, of so many sets
abbrev pub used_by : ℕ → List Request → ℕ → ℕ
used_by sets requests s = sum (map (λ r. in_set sets s (hashes r.command)) requests)

-- requests take the slots of their hashes, and no others are taken; a hash is one request's at most
pub record TakeSlots (sets : List (List Slot)) (requests : List Request) : Type 0 where
  pub owners : (hash : ℕ) → ids_with hash requests ≡ option_to_list (owner sets hash)
  pub sizes : (s : ℕ) → s < length sets → taken_in sets s ≡ used_by (length sets) requests s
  pub filled : length requests ≤ sum (map (λ set. length set) sets)

-- the slots of the chosen requests
abbrev pub slots_of : (RequestId → Bool) → List Slot → List Slot
slots_of chosen slots = filter (λ s. chosen s.id) slots

-- the chosen requests
abbrev pub chosen_of : (RequestId → Bool) → List Request → List Request
chosen_of chosen requests = filter (λ r. chosen r.id) requests

-- whichever ids are chosen, their requests take the slots that bear these ids; each request has some hashes; and there is room in
-- the register for all that the slots let in
pub record SlotsTell (table : SlotTable) (register : Registered) : Type 0 where
  pub some_sets : 1 ≤ length table.sets
  pub within : (s : ℕ) → s < length table.sets → taken_in table.sets s ≤ table.ways
  pub room : length table.sets * table.ways ≤ register.room
  pub ascend : IdsAscend register.held
  pub takes : (chosen : RequestId → Bool) → TakeSlots (map (slots_of chosen) table.sets) (chosen_of chosen (requests_of register.held))
  pub hashed : Each (λ (r : Request). 1 ≤ length (hashes r.command)) (requests_of register.held)

-- the request that has the slot is marked, if one has it
abbrev pub with_owner_marked : Option RequestId → List HeldRequest → List HeldRequest
with_owner_marked None held = held
with_owner_marked (Some id) held = map (marked_at id) held

-- those that have a slot of one of the hashes are marked
abbrev pub with_owners_marked : List (List Slot) → List ℕ → List HeldRequest → List HeldRequest
with_owners_marked sets [] held = held
with_owners_marked sets (h ∷ hs) held = with_owners_marked sets hs (with_owner_marked (owner sets h) held)
