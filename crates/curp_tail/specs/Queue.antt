-- The ids that wait for collection.
use Rattle.std.specs.Prelude.{◌≡◌, ℕ, nat_le, Bool, false, List, [], ◌∷◌, map, Option, Some, None, is_some, unwrap_or, ⊤}
use Rattle.std.specs.FinMap.Entries.{find}
use Rattle.curp_base.specs.Words.{KeysAscend}
use Rattle.curp_cmd.specs.RequestId.{has_id, id_cmp}
use Rattle.curp_cmd.specs.declared.command.RequestId.{RequestId}
use Rattle.curp_model.specs.Master.{Queued}

-- the ids that wait, in the order in which they were first added, for how many more there is room, and for how many in the
-- list that has the most of it
pub record Queueing : Type 0 where
  pub waiting : List Queued
  pub spare : ℕ
  pub most : ℕ

-- so many entries are synced as the id waits for
abbrev pub has_come : ℕ → Queued → Bool
has_come synced q = nat_le q.length synced

-- ---- lengths by their ids

-- until when the id waits
abbrev pub length_of : List (RequestId × ℕ) → RequestId → ℕ
length_of waits id = unwrap_or (find id_cmp id waits) 0

-- something waits, and no longer than until so many entries are synced
abbrev pub is_past : ℕ → Option ℕ → Bool
is_past synced None = false
is_past synced (Some until) = nat_le until synced

-- the id waits, and no longer than that
abbrev pub is_come_of : List (RequestId × ℕ) → ℕ → RequestId → Bool
is_come_of waits synced id = is_past synced (find id_cmp id waits)

-- the ids in an order, each with its length
abbrev pub waiting_of : List RequestId → List (RequestId × ℕ) → List Queued
waiting_of order waits = map (λ id. record { id = id; length = length_of waits id }) order

-- no id stands twice
abbrev pub Apart : List RequestId → Type 0
Apart [] = ⊤
Apart (id ∷ ids) = (has_id id ids ≡ false) × Apart ids

-- the ids in the order are those that wait, each once
pub record IsQueue (order : List RequestId) (waits : List (RequestId × ℕ)) : Type 0 where
  pub ascend : KeysAscend id_cmp waits
  pub apart : Apart order
  pub same : (id : RequestId) → has_id id order ≡ is_some (find id_cmp id waits)
