-- What the adapters over std's readers and writers make of std's errors.
use Rattle.std.specs.Prelude.{ℕ, ◌==◌, ◌||◌, nat_lt, if◌then◌else◌, Bool, Result, Ok, Err, refl}
use Rattle.std.specs.Coded.{Coded, code_by, coded×, coded_ℕ, coded_bool}
use Rattle.std.specs.IoError.{error_kind}
use Rattle.std.specs.declared.io.Error.{Error}
use Rattle.std.specs.declared.io.ErrorKind.{ErrorKind}
use Rattle.std.specs.declared.io.ErrorKind.TheVariants.{Interrupted, OutOfMemory}
use Rattle.curp_io.specs.declared.sink.Put.{Put}
use Rattle.curp_io.specs.declared.sink.Put.TheVariants as put
use Rattle.curp_io.specs.declared.standard.Verdict.{Verdict}
use Rattle.curp_io.specs.declared.standard.Verdict.TheVariants as verdict

-- what an error of this kind means: an interrupted call is made again, running out of memory is told as such, and any other is a
-- fault
abbrev pub verdict_of : ErrorKind → Verdict
verdict_of Interrupted = verdict.Interruption
verdict_of OutOfMemory = verdict.NoMemory
verdict_of _ = verdict.Fault

-- a writer of std, the count of its faults, and whether all bytes that it took here were passed on
pub record Adapted (W : Type 0) : Type 0 where
  pub writer : W
  pub faults : ℕ
  pub flushed : Bool

-- it is stored as its parts
abbrev pub adapted_code : {W : Type 0} → Coded W → Coded (Adapted W)
adapted_code {W} writer =
    code_by (W × (ℕ × Bool)) (coded× writer (coded× coded_ℕ coded_bool)) (λ a. (a.writer, (a.faults, a.flushed)))
    (λ p. record { writer = p.0; faults = p.1.0; flushed = p.1.1 }) (λ _. refl)

-- what an error is to a caller that doesn't try again
abbrev pub put_of_verdict : Verdict → Put
put_of_verdict verdict.Interruption = put.Failed
put_of_verdict verdict.NoMemory = put.NoMemory
put_of_verdict verdict.Fault = put.Failed

-- what a writer's outcome for a piece of this length is; one that takes nothing of a piece failed
abbrev pub put_of : Result ℕ Error → ℕ → Put
put_of (Ok n) len = if nat_lt 0 n || len == 0 then put.Took n else put.Failed
put_of (Err error) len = put_of_verdict (verdict_of (error_kind error))
