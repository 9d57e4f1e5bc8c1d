-- An event that is kept, by what it tells.
use Rattle.curp_order.specs.declared.Event.{Event}
use Rattle.curp_order.specs.declared.Event.TheVariants.{Invoke, Complete}
use Rattle.curp_order.specs.declared.kept.Told.{Told}
use Rattle.curp_order.specs.declared.kept.Told.TheVariants as told

abbrev pub event_told : Told → Event
event_told (told.Invoked id command) = Invoke id command
event_told (told.Completed id answer) = Complete id answer
