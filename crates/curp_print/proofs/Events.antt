-- The printed lines of a history and of an order, read.
use Rattle.std.proofs.Common.{◌≡◌, ◌<◌, ◌≤◌, ◌-◌, ◌^◌, ℕ, List, true, false, is_some, Option, Some, None, refl, arith}
use Rattle.std.proofs.lemmas.Bool.Decides.{nat_tests}
use Rattle.serde_json.specs.Data.{depth}
use Rattle.serde_json.specs.Find.{as_object}
use Rattle.serde_json.specs.Read.{max_depth}
use Rattle.serde_json.specs.Written.{has_float}
use Rattle.curp_cmd.specs.declared.command.Answer.{Answer}
use Rattle.curp_cmd.specs.declared.command.Answer.TheVariants.{Done, Removed, Number, Length, Swapped, NotNumber, Overflow, TooLong, Found}
use Rattle.curp_cmd.specs.declared.command.Command.{Command}
use Rattle.curp_cmd.specs.declared.command.RequestId.{RequestId}
use Rattle.curp_order.specs.declared.Event.TheVariants.{Invoke, Complete}
use Rattle.curp_script.specs.declared.event.EventLine.{EventLine}
use Rattle.curp_script.specs.declared.event.EventLine.TheVariants.{Event, Place}
use Rattle.curp_script.specs.EventTexts.{AnswerReadsBack, EventReadsBack, answer_data, answer_tail, event_data}
use Rattle.curp_script.specs.Grammar.{expected_in, number_within}
use Rattle.curp_script.specs.Headers.{is_within}
use Rattle.curp_script.specs.Printed.{CommandReadsBack, command_parts, count, expected_data}
use Rattle.curp_print.proofs.Lines.{command_depth, command_no_float}
use Rattle.curp_print.proofs.ReadBack.{index_within, listed-items_of}

-- ---- the data of lines has no floats, and is not deep

answer_no_float : (a : Answer) → has_float (answer_data a) ≡ false
answer_no_float (Found None) = refl
answer_no_float (Found (Some value)) = refl
answer_no_float _ = refl

answer_depth : (a : Answer) → depth (answer_data a) ≡ 1
answer_depth (Found None) = refl
answer_depth (Found (Some value)) = refl
answer_depth _ = refl

pub event_is_object : (line : EventLine) → is_some (as_object (event_data line)) ≡ true
event_is_object (Event (Invoke id command)) = refl
event_is_object (Event (Complete id a)) = refl
event_is_object (Place id command) = refl

pub event_no_float : (line : EventLine) → has_float (event_data line) ≡ false
event_no_float (Event (Invoke id command)) = rw (command_no_float command) refl
event_no_float (Event (Complete id a)) = rw (answer_no_float a) refl
event_no_float (Place id command) = rw (command_no_float command) refl

pub event_depth : (line : EventLine) → depth (event_data line) ≤ max_depth
event_depth (Event (Invoke id command)) = rw (command_depth command) (omega arith)
event_depth (Event (Complete id a)) = rw (answer_depth a) (omega arith)
event_depth (Place id command) = rw (command_depth command) (omega arith)

-- ---- what is printed reads as itself

long_within : (n : ℕ) → n < 2 ^ 64 → number_within 0 (2 ^ 64 - 1) (count n) ≡ Some n
long_within n small =
    let fits : is_within 0 (2 ^ 64 - 1) n ≡ true = grind (arith, nat_tests) in
    rw fits refl

pub number_reads : (n : ℕ) → n < 2 ^ 64 → AnswerReadsBack (Number n)
number_reads n small = rw (long_within n small) refl

pub length_reads : (n : ℕ) → n < 2 ^ 32 → AnswerReadsBack (Length n)
length_reads n small = rw (index_within n small) refl

pub found_reads : (value : Option (List ℕ)) → expected_in (expected_data value) ≡ Some value → AnswerReadsBack (Found value)
found_reads value reads = rw reads refl

pub invoke_line_reads : (id : RequestId) (command : Command) → id.client < 2 ^ 32 → id.seq < 2 ^ 32 → CommandReadsBack command
    → EventReadsBack (Event (Invoke id command))
invoke_line_reads id command client seq reads =
    rw (listed-items_of (command_parts command), reads, index_within id.client client, index_within id.seq seq) refl

pub complete_line_reads : (id : RequestId) (a : Answer) → id.client < 2 ^ 32 → id.seq < 2 ^ 32 → AnswerReadsBack a
    → EventReadsBack (Event (Complete id a))
complete_line_reads id a client seq reads =
    rw (listed-items_of (answer_tail a), reads, index_within id.client client, index_within id.seq seq) refl

pub place_line_reads : (id : RequestId) (command : Command) → id.client < 2 ^ 32 → id.seq < 2 ^ 32 → CommandReadsBack command
    → EventReadsBack (Place id command)
place_line_reads id command client seq reads =
    rw (listed-items_of (command_parts command), reads, index_within id.client client, index_within id.seq seq) refl
