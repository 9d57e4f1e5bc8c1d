-- A step of the world is a list of moves of the small machine.
use Rattle.std.specs.Prelude.{◌≡◌, ◌+◌, List, Option, Some, None}
use Rattle.std.specs.Bool.{⊤}
use Rattle.curp_base.specs.Words.{Each}
use Rattle.curp_model.specs.World.{World}
use Rattle.curp_law_linear.specs.Moves.{Adopts, AllFit, LineMove, all_after}
use Rattle.curp_law_linear.specs.OfWorld.{line_of}
use Rattle.curp_cmd.specs.declared.command.Command.{Command}
use Rattle.curp_cmd.specs.declared.command.RequestId.{RequestId}
use Rattle.curp_model.specs.Manager.{Attempted}
use Rattle.curp_model.specs.Marks.{adoptions}
use Rattle.curp_law_linear.specs.Line.{CutEarly}
use Rattle.curp_law_linear.specs.Given.{LogsOk}

-- these moves, each of which can be made and from logs that are logs, lead from what the machine has of one world to what it
-- has of the other
pub record Refines (w v : World) : Type 0 where
  pub moves : List LineMove
  pub fit : AllFit LogsOk (line_of w) moves
  pub leads : all_after (line_of w) moves ≡ line_of v

-- the move adopts nothing
abbrev pub NoAdoption : LineMove → Type 0
NoAdoption (Adopts o) = ⊥
NoAdoption _ = ⊤

-- moves of which none adopts lead from the one world to the other
pub record RefinesQuiet (w v : World) : Type 0 where
  pub its : Refines w v
  pub quiet : Each NoAdoption its.moves

-- any request is early at the mark of what is adopted
abbrev pub EarlyAfter : World → World → Option Attempted → Type 0
EarlyAfter w v None = ⊤
EarlyAfter w v (Some a) = (id : RequestId) (c : Command)
    → CutEarly (line_of v) a.order.part (adoptions a.order.part w.marks + 1) id c
