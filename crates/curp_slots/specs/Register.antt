-- The requests that a witness holds, each at its place, and an index of the places by their ids.
use Rattle.std.specs.Prelude.{◌≡◌, ◌⊎◌, ℕ, ◌+◌, ◌==◌, ◌<◌, ◌≤◌, nat_le, if◌then◌else◌, Bool, true, false, List, [], ◌∷◌, ◌++◌, length, map, slice_index_or, slice_set, ⊤}
use Rattle.std.specs.List.{filter, list_any}
use Rattle.std.specs.declared.cmp.Ordering.TheVariants.{Less}
use Rattle.curp_base.specs.Reserving.{Reserving}
use Rattle.curp_base.specs.Words.{Each, KeysAscend}
use Rattle.curp_cmd.specs.RequestId.{id_cmp, same_id}
use Rattle.curp_cmd.specs.declared.command.Command.TheVariants.{Get}
use Rattle.curp_cmd.specs.declared.command.RequestId.{RequestId}
use Rattle.curp_model.specs.Witness.{HeldRequest}

-- ---- held requests

-- it is suspected, if it has survived at least three collections
abbrev pub marked : HeldRequest → HeldRequest
marked x = if nat_le 3 x.survived then record x { suspected = true } else x

-- the one with that id is marked
abbrev pub marked_at : RequestId → HeldRequest → HeldRequest
marked_at id x = if same_id id x.request.id then marked x else x

-- a request with the id is held
abbrev pub is_held : RequestId → List HeldRequest → Bool
is_held id held = list_any (λ x. same_id id x.request.id) held

-- the ids strictly rise
abbrev pub IdsAscend : List HeldRequest → Type 0
IdsAscend [] = ⊤
IdsAscend (x ∷ xs) = Each (λ (y : HeldRequest). id_cmp x.request.id y.request.id ≡ Less) xs × IdsAscend xs

-- what a witness holds, in ascending order of the ids, and for how many there is room
pub record Registered : Type 0 where
  pub room : ℕ
  pub held : List HeldRequest

-- ---- an index

-- the id of a request, and its place
abbrev pub IndexPlace : Type 0
IndexPlace = RequestId × ℕ

-- what stands at no place
abbrev pub nobody : HeldRequest
nobody = record { request = record { id = record { client = 0; seq = 0 }; first = 0; command = Get [] }; survived = 0; suspected = false }

-- what stands at the place
abbrev pub held_at : List HeldRequest → IndexPlace → HeldRequest
held_at kept e = slice_index_or kept e.1 nobody

-- what is held, in the order of the index
abbrev pub held_by : List HeldRequest → List IndexPlace → List HeldRequest
held_by kept index = map (held_at kept) index

-- the place is that of the request with its id
pub record IsFilled (kept : List HeldRequest) (e : IndexPlace) : Type 0 where
  pub within : e.1 < length kept
  pub its_id : (held_at kept e).request.id ≡ e.0

-- how often a place is free or in the index
abbrev pub times : ℕ → List ℕ → List IndexPlace → ℕ
times at free index = length (filter (λ f. f == at) free) + length (filter (λ e. e.1 == at) index)

-- an index of what is held, and room for so many in each list; a place is free or in the index, and that once
pub record IsRegister (room : ℕ) (kept : List HeldRequest) (kept_room : ℕ) (free : Reserving ℕ) (index : Reserving IndexPlace) : Type 0 where
  pub ascend : KeysAscend id_cmp index.items
  pub places : Each (IsFilled kept) index.items
  pub within : Each (λ at. at < length kept) free.items
  pub once : (at : ℕ) → times at free.items index.items ≤ 1
  pub as_many : length kept ≡ length free.items + length index.items
  pub kept_within : length kept ≤ room
  pub kept_fits : room ≤ kept_room
  pub free_fits : room ≤ length free.items + free.spare
  pub index_fits : room ≤ length index.items + index.spare

-- a free place is given, or where none is free the one behind the others
abbrev pub IsPlaceGiven : ℕ → List ℕ → List ℕ → ℕ → Type 0
IsPlaceGiven size free left at = (free ≡ left ++ at ∷ []) ⊎ ((free ≡ []) × (left ≡ []) × (at ≡ size))

-- what is put at a place, or behind the others
abbrev pub put_at : List HeldRequest → ℕ → HeldRequest → List HeldRequest
put_at kept at x = if at == length kept then kept ++ x ∷ [] else slice_set kept at x
