-- Which of a client's first requests completed, as truth values in their order.
use Rattle.std.specs.Prelude.{◌≡◌, ℕ, ◌+◌, ◌<◌, ◌||◌, Bool, false, List, length, get_or}
use Rattle.curp_cmd.specs.declared.command.RequestId.{RequestId}
use Rattle.curp_journal.specs.declared.item.Item.{Item}
use Rattle.curp_told.specs.Told.{is_completed}

-- the request before which so many were invoked
abbrev pub id_behind : (client count : ℕ) → RequestId
id_behind client count = record { client = client; seq = count + 1 }

-- each tells whether its request is among those that the items complete
abbrev pub AreMarks : (client : ℕ) → List Item → List Bool → Type 0
AreMarks client items marks = (k : ℕ) → k < length marks → get_or marks k false ≡ is_completed items (id_behind client k)

-- those requests are marked too
abbrev pub MarksMore : (RequestId → Bool) → (client : ℕ) → (old new : List Bool) → Type 0
MarksMore more client old new = (k : ℕ) → k < length old → get_or new k false ≡ (get_or old k false || more (id_behind client k))
