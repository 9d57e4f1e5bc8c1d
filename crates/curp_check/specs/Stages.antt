-- How far each request of a history is.
use Rattle.std.specs.Prelude.{◌≡◌, if◌then◌else◌, List, Option, Some, None}
use Rattle.std.specs.List.{list_any}
use Rattle.curp_cmd.specs.declared.command.RequestId.{RequestId}
use Rattle.curp_order.specs.Order.{IsHistory}
use Rattle.curp_order.specs.declared.Event.{Event}
use Rattle.curp_order.specs.declared.Event.TheVariants.{Invoke, Complete}
use Rattle.curp_check.specs.Claim.{completes, invokes}
use Rattle.curp_check.specs.declared.claim.RequestStage.{RequestStage}
use Rattle.curp_check.specs.declared.claim.RequestStage.TheVariants.{Invoked, Completed}

-- how far the request is, if it was invoked
abbrev pub stage_of : List Event → RequestId → Option RequestStage
stage_of events id =
    if list_any (completes id) events then Some Completed
    else if list_any (invokes id) events then Some Invoked else None

-- how far a request is by an event, where it was so far before, if the event may come then
abbrev pub stage_after : Event → Option RequestStage → Option RequestStage
stage_after (Invoke id command) None = Some Invoked
stage_after (Invoke id command) (Some stage) = None
stage_after (Complete id answer) (Some Invoked) = Some Completed
stage_after (Complete id answer) _ = None

-- the request of an event
abbrev pub request_of : Event → RequestId
request_of (Invoke id command) = id
request_of (Complete id answer) = id

-- the events are a history, and how far each request is in it is known
pub record IsFollowed (stages : RequestId → Option RequestStage) (events : List Event) : Type 0 where
  pub is_history : IsHistory events
  pub stage : (id : RequestId) → stages id ≡ stage_of events id
