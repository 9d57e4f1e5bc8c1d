-- What a sink does that takes whole pieces while there is memory.
use Rattle.std.specs.Prelude.{◌≡◌, ℕ, Bool, List, ◌++◌, length}
use Rattle.curp_io.specs.declared.sink.Put.{Put}
use Rattle.curp_io.specs.declared.sink.Put.TheVariants as put

-- the bytes held, and whether all were passed on
pub record SureIntake : Type 0 where
  pub held : List ℕ
  pub flushed : Bool

-- the whole piece stands after what was held, or there was no memory for it
abbrev pub PutsAll : List ℕ → List ℕ → Put → List ℕ → Type 0
PutsAll old new (put.Took n) piece = (n ≡ length piece) × (new ≡ old ++ piece)
PutsAll old new put.Failed piece = ⊥
PutsAll old new put.NoMemory piece = new ≡ old
