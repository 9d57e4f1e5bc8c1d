-- What inputs make of a node, one after the other.
use Rattle.std.specs.Prelude.{List, [], ◌∷◌}
use Rattle.curp_msg.specs.Input.{Input}
use Rattle.curp_msg.specs.Moved.{Moved}

-- the state of a node after inputs
abbrev pub state_after : {S : Type 0} → (S → Input → Moved S) → S → List Input → S
state_after machine s [] = s
state_after machine s (i ∷ more) = state_after machine (machine s i).state more
