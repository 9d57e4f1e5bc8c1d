-- What calls that read and write promise.
use Rattle.std.specs.Prelude.{◌≡◌, ◌≢◌, ℕ, List, [], ◌++◌, Result, Ok, Err, ⊤}
use Rattle.std.specs.declared.alloc.AllocError.{AllocError}
use Rattle.std.specs.Borrow.{Bor}
use Rattle.curp_base.specs.declared.failed.Failed.{Failed}
use Rattle.curp_base.specs.declared.failed.Failed.TheVariants as failed
use Rattle.curp_items.specs.Format.{Input}
use Rattle.curp_items.specs.declared.fault.Fault.{Fault}

-- The call gave what reading gives: the value, and where reading stands behind it, or the place of the first fault
abbrev pub ReadsItem : {A : Type 0} → Result A Fault → Input → Result (A × Input) ℕ → Type 0
ReadsItem (Ok x) after read = read ≡ Ok (x, after)
ReadsItem (Err fault) after read = read ≡ Err fault.place

-- the same, of a text that is lent
abbrev pub ReadsText : Result (Bor (List ℕ)) Fault → Input → Result (List ℕ × Input) ℕ → Type 0
ReadsText (Ok text) after read = read ≡ Ok (text.now, after)
ReadsText (Err fault) after read = read ≡ Err fault.place

-- the same, unless memory ran out
abbrev pub ReadsNot : {A : Type 0} → Failed Fault → Result (A × Input) ℕ → Type 0
ReadsNot failed.NoMemory read = ⊤
ReadsNot (failed.Because fault) read = read ≡ Err fault.place

abbrev pub ReadsIfMemory : {A : Type 0} → Result A (Failed Fault) → Input → Result (A × Input) ℕ → Type 0
ReadsIfMemory (Ok x) after read = read ≡ Ok (x, after)
ReadsIfMemory (Err why) after read = ReadsNot why read

-- the same, where the value isn't handed out
abbrev pub Skips : {A : Type 0} → Result ⊤ Fault → Input → Result (A × Input) ℕ → Type 0
Skips {A} (Ok done) after read = (x : A) × (read ≡ Ok (x, after))
Skips (Err fault) after read = read ≡ Err fault.place

-- nothing is left over, or this place begins what is
abbrev pub IsAtEnd : Result ⊤ Fault → ℕ → List ℕ → Type 0
IsAtEnd (Ok done) place rest = rest ≡ []
IsAtEnd (Err fault) place rest = (rest ≢ []) × (fault.place ≡ place)

-- what a writer holds: bytes that stood there before, and what was written behind them
pub record Written : Type 0 where
  pub prefix : List ℕ
  pub text : List ℕ

-- the call wrote this text, or memory ran out and all that was written is gone
abbrev pub WritesItem : Written → Written → Result ⊤ AllocError → List ℕ → Type 0
WritesItem old new (Ok done) text = new ≡ record { prefix = old.prefix; text = old.text ++ text }
WritesItem old new (Err why) text = new ≡ record { prefix = old.prefix; text = [] }
