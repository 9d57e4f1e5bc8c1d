-- What a step is to do by its turn, and when steps are legal as lists, with no world run (this project's own).
use Rattle.std.specs.Prelude.{◌≡◌, List, [], ◌∷◌, ◌++◌, ⊤}
use Rattle.curp_cmd.specs.declared.node.NodeId.{NodeId}
use Rattle.curp_msg.specs.declared.script.Step.{Step}
use Rattle.curp_model.specs.World.{Deed, Gives, Stops, deed_by}
use Rattle.curp_journal.specs.Given.{given}
use Rattle.curp_journal.specs.Turns.{Did, Placed, Quits, Turn, said}

-- what the step of a turn is to do: it gives the node the input that came, so that a delivery names the message that the
-- node took, or it stops the node
abbrev pub deed_for : Placed → Deed
deed_for p = by p.node p.turn
  where
    by : NodeId → Turn → Deed
    by node (Did item) = Gives node (given item.input)
    by node (Quits stamp) = Stops node

-- each step is to do what its turn says, by the messages that the turns before it sent
abbrev pub LegalFrom : List Placed → List Step → List Placed → Type 0
LegalFrom before [] [] = ⊤
LegalFrom before (s ∷ ss) (p ∷ ps) = (deed_by (said before) s ≡ deed_for p) × LegalFrom (before ++ p ∷ []) ss ps
LegalFrom before _ _ = ⊥
