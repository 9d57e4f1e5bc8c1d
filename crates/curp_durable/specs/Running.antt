-- Which calls of the disk keep what is taken of a batch, and how many of them were made.
use Rattle.std.specs.Prelude.{◌≡◌, ◌⊎◌, ℕ, ◌+◌, List, [], ◌∷◌, ◌++◌, length}
use Rattle.curp_base.specs.declared.failed.Failed.{Failed}
use Rattle.curp_base.specs.declared.failed.Failed.TheVariants as failed
use Rattle.curp_disk.specs.declared.disk.Did.{Did}
use Rattle.curp_disk.specs.declared.disk.Did.TheVariants as did
use Rattle.curp_disk.specs.declared.medium.Call.{Call}
use Rattle.curp_disk.specs.declared.medium.Call.TheVariants as call
use Rattle.curp_journal.specs.declared.arrived.Arrived.{Arrived}
use Rattle.curp_durable.specs.Answering.{record_of}
use Rattle.curp_durable.specs.Journal.{HasEncoding}
use Rattle.curp_durable.specs.declared.error.DurableError.{DurableError}
use Rattle.curp_durable.specs.declared.error.DurableError.TheVariants as durable
use Rattle.curp_durable.specs.declared.writing.Kept.{Kept}
use Rattle.curp_durable.specs.declared.writing.Kept.TheVariants as kept

-- ---- calls

-- what more is known of one call on a kind of disk
abbrev pub RanCall : {D : Type 0} → (D → ℕ → List ℕ → Did → D → Type 0) → (D → Did → D → Type 0) → D → Call → Did → D → Type 0
RanCall wrote synced old (call.Write at bytes) answer new = wrote old at bytes answer new
RanCall wrote synced old call.Sync answer new = synced old answer new

-- a call was made, and then these were
abbrev pub RanThen : {D : Type 0} → (D → Did → D → Type 0) → (D → Type 0) → D → Type 0
RanThen {D} first then old = (n : ℕ) × (mid : D) × first old (did.Done n) mid × then mid

-- these calls were made, one after the other
abbrev pub AllMade : {D : Type 0} → (D → ℕ → List ℕ → Did → D → Type 0) → (D → Did → D → Type 0) → List Call → (old new : D) → Type 0
AllMade wrote synced [] old new = new ≡ old
AllMade wrote synced (c ∷ calls) old new = RanThen (λ d. RanCall wrote synced d c) (λ d. AllMade wrote synced calls d new) old

-- the same, up to one that was refused so
abbrev pub MadeUntil : {D : Type 0} → (D → ℕ → List ℕ → Did → D → Type 0) → (D → Did → D → Type 0) → Did → List Call → (old new : D) → Type 0
MadeUntil wrote synced refusal [] old new = ⊥
MadeUntil wrote synced refusal (c ∷ calls) old new =
    RanCall wrote synced old c refusal new ⊎ RanThen (λ d. RanCall wrote synced d c) (λ d. MadeUntil wrote synced refusal calls d new) old

-- which of the calls that were to keep bytes were made
abbrev pub RunsCalls : {D : Type 0} → (D → ℕ → List ℕ → Did → D → Type 0) → (D → Did → D → Type 0) → List Call → (old : D) → Kept → (new : D) → Type 0
RunsCalls wrote synced calls old kept.Kept new = AllMade wrote synced calls old new
RunsCalls wrote synced calls old kept.Failed new = MadeUntil wrote synced did.Failed calls old new
RunsCalls wrote synced calls old kept.NoMemory new = MadeUntil wrote synced did.NoMemory calls old new

-- ---- those of a batch

-- bytes are written and synced
abbrev pub keeping : ℕ → List ℕ → List Call
keeping at bytes = call.Write at bytes ∷ call.Sync ∷ []

-- a record is kept behind a shut commit byte, and then the commit byte is opened
abbrev pub appending : ℕ → List ℕ → List Call
appending commit piece = keeping (commit + 1) piece ++ keeping commit (1 ∷ [])

-- those that keep what is taken of a batch: none where nothing is
abbrev pub calls_for : (commit : ℕ) → List Arrived → List Call
calls_for commit [] = []
calls_for commit (a ∷ more) = appending commit (record_of (a ∷ more))

-- where the last commit byte then stands
abbrev pub commit_behind : (commit : ℕ) → List Arrived → ℕ
commit_behind commit [] = commit
commit_behind commit (a ∷ more) = commit + length (record_of (a ∷ more))

-- How far these calls went where the batch was refused: to one at which the disk failed or ran out of memory, and else nowhere
abbrev pub RanUntil : {D : Type 0} → (D → ℕ → List ℕ → Did → D → Type 0) → (D → Did → D → Type 0) → (commit : ℕ) → List Arrived → (old new : D) → Failed DurableError → Type 0
RanUntil wrote synced commit b old new (failed.Because durable.DiskFault) = HasEncoding b × MadeUntil wrote synced did.Failed (calls_for commit b) old new
RanUntil wrote synced commit b old new failed.NoMemory = (new ≡ old) ⊎ MadeUntil wrote synced did.NoMemory (calls_for commit b) old new
RanUntil wrote synced commit b old new _ = new ≡ old
