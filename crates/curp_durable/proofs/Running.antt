-- Calls of a disk, one run after another.
use Rattle.std.specs.Prelude.{◌≡◌, ℕ, ◌+◌, List, [], ◌∷◌, ◌++◌, length, refl}
use Rattle.std.proofs.Common.{inl, inr, sym, ap, subst, arith}
use Rattle.curp_base.specs.declared.failed.Failed.{Failed}
use Rattle.curp_base.specs.declared.failed.Failed.TheVariants as failed
use Rattle.curp_disk.specs.declared.disk.Did.{Did}
use Rattle.curp_disk.specs.declared.disk.Did.TheVariants as did
use Rattle.curp_disk.specs.declared.medium.Call.{Call}
use Rattle.curp_journal.specs.declared.arrived.Arrived.{Arrived}
use Rattle.curp_durable.specs.Answering.{Declines, record_of}
use Rattle.curp_durable.specs.Running.{AllMade, MadeUntil, RanUntil, RunsCalls, appending, calls_for, commit_behind}
use Rattle.curp_durable.specs.declared.error.DurableError.{DurableError}
use Rattle.curp_durable.specs.declared.error.DurableError.TheVariants as durable
use Rattle.curp_durable.specs.declared.writing.Kept.{Kept}
use Rattle.curp_durable.specs.declared.writing.Kept.TheVariants as kept
use Rattle.curp_durable.proofs.Pieces.{record-length}

module _ {D : Type 0} (wrote : D → ℕ → List ℕ → Did → D → Type 0) (synced : D → Did → D → Type 0) where
  all_on : (first second : List Call) (old mid new : D) → AllMade wrote synced first old mid → AllMade wrote synced second mid new → AllMade wrote synced (first ++ second) old new
  all_on [] second old mid new done more = subst (λ (d : D). AllMade wrote synced second d new) done more
  all_on (c ∷ first) second old mid new done more = (done.0, done.1, done.2, all_on first second done.1 mid new done.3 more)

  until_on : (refusal : Did) (first second : List Call) (old mid new : D) → AllMade wrote synced first old mid → MadeUntil wrote synced refusal second mid new → MadeUntil wrote synced refusal (first ++ second) old new
  until_on refusal [] second old mid new done more = subst (λ (d : D). MadeUntil wrote synced refusal second d new) done more
  until_on refusal (c ∷ first) second old mid new done more = inr (done.0, done.1, done.2, until_on refusal first second done.1 mid new done.3 more)

  -- where all of the first were made
  pub run_on : (first second : List Call) (old mid new : D) (what : Kept) → AllMade wrote synced first old mid → RunsCalls wrote synced second mid what new → RunsCalls wrote synced (first ++ second) old what new
  run_on first second old mid new kept.Kept done more = all_on first second old mid new done more
  run_on first second old mid new kept.Failed done more = until_on did.Failed first second old mid new done more
  run_on first second old mid new kept.NoMemory done more = until_on did.NoMemory first second old mid new done more

-- ---- those of a batch

-- there is a record of what is taken, so something is
pub calls_are : (commit : ℕ) (b : List Arrived) (piece : List ℕ) → piece ≡ record_of b → (b ≡ [] → piece ≡ []) → appending commit piece ≡ calls_for commit b
calls_are commit [] piece is nothing = absurd (omega (arith, ap length is, record-length [], ap length (nothing refl)))
calls_are commit (a ∷ more) piece is nothing = ap (appending commit) is

pub commit_is : (commit : ℕ) (b : List Arrived) (piece : List ℕ) → piece ≡ record_of b → (b ≡ [] → piece ≡ []) → commit + length piece ≡ commit_behind commit b
commit_is commit [] piece is nothing = absurd (omega (arith, ap length is, record-length [], ap length (nothing refl)))
commit_is commit (a ∷ more) piece is nothing = ap (λ (l : List ℕ). commit + length l) is

-- nothing is taken
pub no_calls : {D : Type 0} (wrote : D → ℕ → List ℕ → Did → D → Type 0) (synced : D → Did → D → Type 0) (commit : ℕ) (b : List Arrived) (old : D) → b ≡ [] → AllMade wrote synced (calls_for commit b) old old
no_calls {D} wrote synced commit b old none = subst (λ (l : List Arrived). AllMade wrote synced (calls_for commit l) old old) (sym none) refl

pub same_commit : (commit : ℕ) (b : List Arrived) → b ≡ [] → commit ≡ commit_behind commit b
same_commit commit b none = ap (commit_behind commit) (sym none)

-- what is refused before anything is done
pub none_ran : {D : Type 0} (wrote : D → ℕ → List ℕ → Did → D → Type 0) (synced : D → Did → D → Type 0) (commit size_limit : ℕ) (b inputs : List Arrived) (old : D) (why : Failed DurableError) → Declines commit size_limit inputs why → RanUntil wrote synced commit b old old why
none_ran wrote synced commit size_limit b inputs old (failed.Because durable.DiskFault) declined = absurd declined
none_ran wrote synced commit size_limit b inputs old failed.NoMemory declined = inl refl
none_ran wrote synced commit size_limit b inputs old (failed.Because durable.NoEncoding) declined = refl
none_ran wrote synced commit size_limit b inputs old (failed.Because durable.Full) declined = refl
none_ran wrote synced commit size_limit b inputs old (failed.Because durable.Spent) declined = refl
