-- Which requests have completed.
use Rattle.std.specs.Prelude.{Bool, false, List}
use Rattle.std.specs.List.{list_any}
use Rattle.curp_cmd.specs.RequestId.{same_id}
use Rattle.curp_cmd.specs.declared.command.RequestId.{RequestId}
use Rattle.curp_order.specs.declared.Event.{Event}
use Rattle.curp_order.specs.declared.Event.TheVariants.{Invoke, Complete}

-- the event completes the request
abbrev pub completes : RequestId → Event → Bool
completes id (Invoke other command) = false
completes id (Complete other answer) = same_id id other

-- the request has completed
abbrev pub is_completed : List Event → RequestId → Bool
is_completed h id = list_any (completes id) h
