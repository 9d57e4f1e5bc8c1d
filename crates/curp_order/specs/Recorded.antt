-- What a history keeps: its events, and for how many more there is room.
use Rattle.std.specs.Prelude.{ℕ, List, [], ◌∷◌, Option, Some, None}
use Rattle.curp_cmd.specs.declared.command.Command.{Command}
use Rattle.curp_cmd.specs.declared.command.Answer.{Answer}
use Rattle.curp_cmd.specs.declared.command.RequestId.{RequestId}
use Rattle.curp_order.specs.declared.Event.{Event}
use Rattle.curp_order.specs.declared.Event.TheVariants.{Invoke, Complete}

pub record Recorded : Type 0 where
  pub events : List Event
  pub spare : ℕ

-- the event of an invocation, where there is one
abbrev pub invocation : Option (RequestId × Command) → List Event
invocation None = []
invocation (Some i) = Invoke i.0 i.1 ∷ []

-- the event of a completion, where there is one
abbrev pub completion : Option (RequestId × Answer) → List Event
completion None = []
completion (Some c) = Complete c.0 c.1 ∷ []
