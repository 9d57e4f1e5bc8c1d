-- Sources and sinks over memory, whose calls fail where a list says so.
use Rattle.std.specs.Prelude.{ℕ, ◌==◌, min, Bool, List, length, if◌then◌else◌}
use Rattle.std.specs.List.{list_any}
use Rattle.curp_io.specs.Streams.{one_more}
use Rattle.curp_io.specs.declared.source.Taken.{Taken}
use Rattle.curp_io.specs.declared.source.Taken.TheVariants as taken

-- the calls made, the numbers of those that fail, and how many failed
pub record Calls : Type 0 where
  pub made : ℕ
  pub failing : List ℕ
  pub faults : ℕ

-- before the first call
abbrev pub fresh_calls : List ℕ → Calls
fresh_calls failing = record { made = 0; failing = failing; faults = 0 }

-- the next call fails
abbrev pub fails : Calls → Bool
fails calls = list_any (λ number. number == one_more calls.made) calls.failing

-- one more call was made, and counted as a fault if it failed
abbrev pub called : Calls → Calls
called calls = record {
  made = one_more calls.made;
  failing = calls.failing;
  faults = if fails calls then one_more calls.faults else calls.faults;
}

-- the bytes left, at most how many are given a call, and the calls
pub record Supply : Type 0 where
  pub left : List ℕ
  pub piece : ℕ
  pub calls : Calls

-- how many bytes one call gives
abbrev pub given : Supply → ℕ → ℕ
given supply room = min (min supply.piece room) (length supply.left)

-- the answer of the next call, with a buffer of this length
abbrev pub supplied : Supply → ℕ → Taken
supplied supply room = if fails supply.calls then taken.Failed else taken.Bytes (given supply room)

-- the bytes held, whether all were passed on, and the calls
pub record Intake : Type 0 where
  pub held : List ℕ
  pub flushed : Bool
  pub calls : Calls
