-- Why a batch was not taken.
use Rattle.std.specs.Prelude.{◌≡◌, ℕ, ◌+◌, ◌<◌, ◌≤◌, ◌^◌, ◌⊎◌, true, false, ⊤, List, [], ◌∷◌, ◌++◌, length}
use Rattle.curp_base.specs.Words.{Each}
use Rattle.curp_base.specs.declared.failed.Failed.{Failed}
use Rattle.curp_base.specs.declared.failed.Failed.TheVariants as failed
use Rattle.curp_batches.specs.Arrivals.{arrival}
use Rattle.curp_batches.specs.Batches.{batch_of}
use Rattle.curp_io.specs.Streams.{Rose}
use Rattle.curp_journal.specs.declared.arrived.Arrived.{Arrived}
use Rattle.curp_msg.specs.Moved.{Moved}
use Rattle.curp_msg.specs.Input.{Input}
use Rattle.curp_durable.specs.Journal.{HasEncoding, framed}
use Rattle.curp_durable.specs.Standing.{Standing, answers_of, taken}
use Rattle.curp_durable.specs.Value.{DurableParts}
use Rattle.curp_durable.specs.declared.deciding.Undecided.{Undecided}
use Rattle.curp_durable.specs.declared.deciding.Undecided.TheVariants as stopped
use Rattle.curp_durable.specs.declared.error.DurableError.{DurableError}
use Rattle.curp_durable.specs.declared.error.DurableError.TheVariants as durable
use Rattle.curp_durable.specs.declared.stand.Answered.{Answered}

-- a batch's record: its encoding behind the length of that, and a shut commit byte
abbrev pub record_of : List Arrived → List ℕ
record_of b = framed b ++ 0 ∷ []

-- where the record of a batch would end behind the commit byte at this place
abbrev pub end_of : ℕ → List Arrived → ℕ
end_of commit b = commit + 1 + length (record_of b)

-- no journal takes these: one of them has no encoding, or that of all is longer than four bytes tell
abbrev pub HaveNoEncoding : List Arrived → Type 0
HaveNoEncoding inputs = (Each arrival.Fits inputs → ⊥) ⊎ (2 ^ 32 ≤ length (batch_of inputs))

-- the record of a batch, for which there is room behind the commit byte
abbrev pub IsRecord : (commit size_limit : ℕ) → List Arrived → List ℕ → Type 0
IsRecord commit size_limit b piece = HasEncoding b × (piece ≡ record_of b) × (commit + 1 + length piece ≤ size_limit)

-- those of the inputs that are taken have a record; where none is taken, there is none
abbrev pub IsPiece : (commit size_limit : ℕ) → List Arrived → List ℕ → Type 0
IsPiece commit size_limit taken piece = ((taken ≡ []) × (piece ≡ [])) ⊎ IsRecord commit size_limit taken piece

-- what the inputs lead to
pub record Decides {N : Type 0} (machine : N → Input → Moved N) (s : Standing N) (commit size_limit : ℕ) (inputs : List Arrived) (piece : List ℕ) (answers : List Answered) : Type 0 where
  pub answers_are : answers ≡ answers_of machine s inputs
  pub piece_is : IsPiece commit size_limit (taken machine s inputs) piece

-- why a batch isn't taken, before anything is done
abbrev pub Declines : (commit size_limit : ℕ) → List Arrived → Failed DurableError → Type 0
Declines commit size_limit inputs (failed.Because durable.NoEncoding) = HaveNoEncoding inputs
Declines commit size_limit inputs (failed.Because durable.Full) = HasEncoding inputs × (size_limit < end_of commit inputs)
Declines commit size_limit inputs failed.NoMemory = ⊤
Declines commit size_limit inputs (failed.Because durable.DiskFault) = ⊥
Declines commit size_limit inputs (failed.Because durable.Spent) = ⊥

-- why nothing was decided: the node stands where it stood, or the memory ran out when it was asked
abbrev pub Stops : {N : Type 0} → (old new : Standing N) → (commit size_limit : ℕ) → List Arrived → Undecided → Type 0
Stops old new commit size_limit inputs (stopped.Unchanged why) = (new ≡ old) × Declines commit size_limit inputs why
Stops old new commit size_limit inputs stopped.Moved = HasEncoding inputs

-- Why a batch was refused, and what was then changed: by each error a cause
abbrev pub RefusesBatch : {N D : Type 0} → (D → ℕ) → DurableParts N D → DurableParts N D → List Arrived → Failed DurableError → Type 0
RefusesBatch faults old new inputs (failed.Because durable.Spent) = (old.spent ≡ true) × (new ≡ old)
RefusesBatch faults old new inputs (failed.Because durable.NoEncoding) = (old.spent ≡ false) × HaveNoEncoding inputs × (new ≡ old)
RefusesBatch faults old new inputs (failed.Because durable.Full) = (old.spent ≡ false) × HasEncoding inputs × (old.size_limit < end_of old.commit inputs) × (new ≡ old)
RefusesBatch faults old new inputs (failed.Because durable.DiskFault) = (old.spent ≡ false) × HasEncoding inputs × Rose (faults old.disk) (faults new.disk) × (new.spent ≡ true)
RefusesBatch faults old new inputs failed.NoMemory = (old.spent ≡ false) × (new.spent ≡ false → new ≡ old) × (new.spent ≡ true → HasEncoding inputs)
