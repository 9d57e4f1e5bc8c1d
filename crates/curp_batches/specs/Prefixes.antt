-- What stands at the start of bytes, by a format.
use Rattle.std.specs.Prelude.{◌≡◌, ◌≢◌, ℕ, List, ◌++◌, length, drop, Result, Ok, Err, ⊤}
use Rattle.curp_base.specs.declared.failed.Failed.{Failed}
use Rattle.curp_base.specs.declared.failed.Failed.TheVariants as failed
use Rattle.curp_items.specs.Format.{Format}
use Rattle.curp_items.specs.declared.fault.Fault.{Fault}
use Rattle.curp_wire.specs.declared.error.FrameError.{FrameError}

-- the value's encoding stands there, of so many bytes
pub record Begins {A : Type 0} (f : Format A) (bytes : List ℕ) (x : A) (n : ℕ) : Type 0 where
  pub fits : f.Fits x
  pub is : bytes ≡ f.of x ++ drop n bytes
  pub size : n ≡ length (f.of x)

-- no value's encoding stands there
abbrev pub BeginsNot : {A : Type 0} → Format A → List ℕ → Type 0
BeginsNot {A} f bytes = (x : A) (rest : List ℕ) → f.Fits x → bytes ≢ f.of x ++ rest

-- why there is none; nothing is said where memory runs out
abbrev pub PrefixFails : {A : Type 0} → Format A → List ℕ → Failed Fault → Type 0
PrefixFails f bytes failed.NoMemory = ⊤
PrefixFails f bytes (failed.Because fault) = BeginsNot f bytes

-- the call found the value at the start, and how many bytes it has there
abbrev pub ReadsPrefix : {A : Type 0} → Format A → List ℕ → Result (A × ℕ) (Failed Fault) → Type 0
ReadsPrefix f bytes (Ok found) = Begins f bytes found.0 found.1
ReadsPrefix f bytes (Err why) = PrefixFails f bytes why

-- the error that tells of a frame's
abbrev pub IsErrorOf : Failed FrameError → Failed Fault → Type 0
IsErrorOf why failed.NoMemory = ⊤
IsErrorOf why (failed.Because fault) = why ≢ failed.NoMemory
