-- The completed requests of the order, which stay in their order for good.
use Rattle.std.specs.Prelude.{List}
use Rattle.std.specs.List.{filter}
use Rattle.curp_cmd.specs.declared.command.Command.{Command}
use Rattle.curp_cmd.specs.declared.command.RequestId.{RequestId}
use Rattle.curp_facts.specs.Marked.{is_completed}
use Rattle.curp_model.specs.World.{World, order}

-- the requests of the order of which the history has a completion, as they stand in it
abbrev pub completed_in_order : World → List (RequestId × Command)
completed_in_order w = filter (λ (x : RequestId × Command). is_completed w.history x.0) (order w)
