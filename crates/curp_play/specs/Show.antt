-- What is written of a script that was made: its text, and what playing it writes.
use Rattle.std.specs.Prelude.{◌≡◌, ◌⊎◌, ℕ, List, [], ◌∷◌, ◌++◌}
use Rattle.curp_io.specs.Streams.{Rose}
use Rattle.curp_play.specs.Play.{text_of}
use Rattle.curp_runner.specs.Reading.{script_in}
use Rattle.curp_runner.specs.declared.status.Status.{Status}
use Rattle.curp_runner.specs.declared.status.Status.TheVariants as status

-- a text, an empty line, and what playing the text writes
abbrev pub played : List ℕ → List ℕ
played text = text ++ (10 ∷ [] ++ text_of (script_in text))

-- what is made is written, or writing failed, or the memory ran out
abbrev pub IsOfMaking : Status → Type 0
IsOfMaking result = (result ≡ status.Ok) ⊎ ((result ≡ status.WriteFault) ⊎ (result ≡ status.NoMemory))

-- with no fault of its output, it ends with the status 0, or out of memory
abbrev pub EndsMade : Status → (before after : ℕ) → Type 0
EndsMade result before after = (Rose before after → ⊥) → (result ≡ status.Ok) ⊎ (result ≡ status.NoMemory)
