-- What is promised of a text that is written: by a run, and by the functions that write its parts.
use Rattle.std.specs.Prelude.{◌≡◌, ◌++◌, true, false, List, ℕ, Result, Err, OnOk, IfErr}
use Rattle.curp_io.specs.Streaming.{TellsFault, Wrote}
use Rattle.curp_io.specs.Streams.{HoldsPart}
use Rattle.curp_runner.specs.Reading.{IsOfWriting}
use Rattle.curp_runner.specs.Status.{is_cut_short}
use Rattle.curp_runner.specs.declared.status.Status.{Status}
use Rattle.curp_runner.specs.declared.status.Status.TheVariants as status

-- a run writes this text
pub record WritesText (text : List ℕ) (sink : Wrote) (s : Status) : Type 0 where
  -- it stands behind what was held before
  pub whole : sink.tells ≡ true → is_cut_short s ≡ false → sink.after ≡ sink.before ++ text
  -- where a fault or running out of memory cuts the run short, a prefix of it does
  pub prefix : sink.tells ≡ true → HoldsPart sink.before sink.after text

-- a run passes on what it wrote
pub record PassesOn (sink : Wrote) (s : Status) : Type 0 where
  -- unless it is cut short
  pub whole : is_cut_short s ≡ false → sink.flushed ≡ true
  -- also where memory runs out
  pub out_of_memory : s ≡ status.NoMemory → sink.flushed ≡ true

-- this text is put into a sink
pub record PutsText {A : Type 0} (text : List ℕ) (sink : Wrote) (result : Result A Status) : Type 0 where
  -- it stands behind what was held before
  pub whole : sink.tells ≡ true → OnOk result (sink.after ≡ sink.before ++ text)
  -- by an error, a prefix of it does
  pub prefix : sink.tells ≡ true → HoldsPart sink.before sink.after text
  -- only a write fault and running out of memory are errors
  pub writing : IfErr result IsOfWriting
  -- a sink that tells its bytes still does
  pub tells : sink.tells ≡ true → sink.still_tells ≡ true
  -- a write fault comes exactly where the count of faults rose
  pub fault : TellsFault (result ≡ Err status.WriteFault) sink.faults_before sink.faults_after
