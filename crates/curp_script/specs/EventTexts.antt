-- What is printed for the lines of a history and of an order, and what reading it gives.
use Rattle.std.specs.Prelude.{◌≡◌, ℕ, List, [], ◌∷◌, ◌++◌, Ok}
use Rattle.serde_json.specs.Data.{Data, boolean, string, array, object}
use Rattle.serde_json.specs.View.{items_of}
use Rattle.serde_json.specs.Written.{compact_text}
use Rattle.curp_cmd.specs.declared.command.Answer.{Answer}
use Rattle.curp_cmd.specs.declared.command.Answer.TheVariants.{Done, Removed, Number, Length, Swapped, NotNumber, Overflow, TooLong, Found}
use Rattle.curp_cmd.specs.declared.command.Command.{Command}
use Rattle.curp_cmd.specs.declared.command.RequestId.{RequestId}
use Rattle.curp_order.specs.declared.Event as order
use Rattle.curp_order.specs.declared.Event.TheVariants.{Invoke, Complete}
use Rattle.curp_script.specs.declared.event.AnswerKind.TheVariants as answer
use Rattle.curp_script.specs.declared.event.EventKind.{EventKind}
use Rattle.curp_script.specs.declared.event.EventKind.TheVariants as kind
use Rattle.curp_script.specs.declared.event.EventLine.{EventLine}
use Rattle.curp_script.specs.declared.event.EventLine.TheVariants.{Event, Place}
use Rattle.curp_script.specs.EventKinds.{answer_kind_text, event_kind_text, event_names}
use Rattle.curp_script.specs.Events.{answer_of, event_of}
use Rattle.curp_script.specs.Printed.{command_data, count, expected_data, with_values}
use Rattle.curp_script.specs.Texts.{line_text}

-- the number of a request as an array
abbrev pub id_data : RequestId → Data
id_data id = array (items_of (count id.client ∷ count id.seq ∷ []))

-- the word of an answer
abbrev pub answer_word : Answer → List ℕ
answer_word Done = answer_kind_text answer.Done
answer_word (Removed was) = answer_kind_text answer.Removed
answer_word (Number n) = answer_kind_text answer.Number
answer_word (Length n) = answer_kind_text answer.Length
answer_word (Swapped was) = answer_kind_text answer.Swapped
answer_word NotNumber = answer_kind_text answer.NotNumber
answer_word Overflow = answer_kind_text answer.Overflow
answer_word TooLong = answer_kind_text answer.TooLong
answer_word (Found value) = answer_kind_text answer.Found

-- what stands behind it
abbrev pub answer_tail : Answer → List Data
answer_tail (Removed was) = boolean was ∷ []
answer_tail (Number n) = count n ∷ []
answer_tail (Length n) = count n ∷ []
answer_tail (Swapped was) = boolean was ∷ []
answer_tail (Found value) = expected_data value ∷ []
answer_tail _ = []

-- its word, and what stands behind that
abbrev pub answer_parts : Answer → List Data
answer_parts a = string (answer_word a) ∷ answer_tail a

-- an answer as an array
abbrev pub answer_data : Answer → Data
answer_data a = array (items_of (answer_parts a))

-- a line of a kind: its text under ev, and these values under the other names
abbrev pub kind_data : EventKind → Data → RequestId → Data
kind_data k said id = object (with_values (event_names k) (string (event_kind_text k) ∷ said ∷ id_data id ∷ []))

-- a line as an object
abbrev pub event_data : EventLine → Data
event_data (Event (Invoke id command)) = kind_data kind.Invoke (command_data command) id
event_data (Event (Complete id a)) = kind_data kind.Complete (answer_data a) id
event_data (Place id command) = kind_data kind.Place (command_data command) id

-- its text, with a line feed behind it
abbrev pub event_line : EventLine → List ℕ
event_line line = line_text (compact_text (event_data line))

-- the lines of the events of a history
abbrev pub history_lines : List order.Event → List ℕ
history_lines [] = []
history_lines (e ∷ events) = event_line (Event e) ++ history_lines events

-- the lines of the requests of an order
abbrev pub order_lines : List (RequestId × Command) → List ℕ
order_lines [] = []
order_lines (x ∷ order) = event_line (Place x.0 x.1) ++ order_lines order

-- the lines of a history, then those of the order that is claimed for it
abbrev pub claim_lines : List order.Event → List (RequestId × Command) → List ℕ
claim_lines events order = history_lines events ++ order_lines order

-- ---- what reading gives

-- what is printed for an answer is read as that answer
abbrev pub AnswerReadsBack : Answer → Type 0
AnswerReadsBack a = answer_of (answer_parts a) ≡ Ok a

-- what is printed for a line is read as that line
abbrev pub EventReadsBack : EventLine → Type 0
EventReadsBack line = event_of (event_data line) ≡ Ok line
