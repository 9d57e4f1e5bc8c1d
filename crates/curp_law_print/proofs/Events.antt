-- The line of an event, or of a request in an order.
use Rattle.std.proofs.Common.{◌≡◌, ◌≤◌, ◌<◌, ◌+◌, ◌-◌, ◌^◌, ◌∙◌, ℕ, List, [], ◌∷◌, length, true, Some, None, Ok, refl, arith}
use Rattle.serde_json.proofs.Numbers.{number_of-decimal}
use Rattle.serde_json.specs.Read.{of_items, of_json}
use Rattle.serde_json.specs.View.{items_of}
use Rattle.serde_json.specs.Written.{compact_text, items_outline, outline}
use Rattle.curp_cmd.specs.declared.command.Answer.{Answer}
use Rattle.curp_cmd.specs.declared.command.Answer.TheVariants.{Done, Removed, Number, Length, Swapped, NotNumber, Overflow, TooLong, Found}
use Rattle.curp_cmd.specs.declared.command.Command.{Command}
use Rattle.curp_cmd.specs.declared.command.RequestId.{RequestId}
use Rattle.curp_order.specs.declared.Event.TheVariants.{Invoke, Complete}
use Rattle.curp_print.proofs.Events.{complete_line_reads, event_depth, event_is_object, found_reads, invoke_line_reads, length_reads, number_reads, place_line_reads}
use Rattle.curp_script.specs.Events.{event_in, event_of}
use Rattle.curp_script.specs.EventTexts.{AnswerReadsBack, EventReadsBack, answer_data, answer_parts, event_data}
use Rattle.curp_base.specs.Limits.{line_limit}
use Rattle.curp_script.specs.declared.event.EventLine.{EventLine}
use Rattle.curp_script.specs.declared.event.EventLine.TheVariants.{Event, Place}
use Rattle.curp_law_print.proofs.Bytes.{are_shown, hex_clear, hex_length}
use Rattle.curp_law_print.proofs.Data.{IsPlain, ItemsArePlain, items_weight, short, shown, weight}
use Rattle.curp_law_print.proofs.Reading.{reads_as}
use Rattle.curp_law_print.proofs.Steps.{command_plain, command_reads, command_weight, command_written, value_reads, wide}
use Rattle.curp_law_print.specs.EventRanges.{AnswerInRange, AskedInRange, EventInRange, IdInRange}

-- each value of a line is in its range
abbrev pub LineInRange : EventLine → Type 0
LineInRange (Event e) = EventInRange e
LineInRange (Place id command) = AskedInRange (id, command)

-- a line's text is a line that is read as it
pub record IsEventLine (line : EventLine) : Type 0 where
  pub all_shown : are_shown (compact_text (event_data line)) ≡ true
  pub fits : length (compact_text (event_data line)) ≤ line_limit
  pub read : event_in (compact_text (event_data line)) ≡ Ok line

answer_plain : (a : Answer) → AnswerInRange a → ItemsArePlain (items_of (answer_parts a))
answer_plain Done range = (refl, tt)
answer_plain (Removed was) range = (refl, (tt, tt))
answer_plain (Number n) range = (refl, (range, tt))
answer_plain (Length n) range = (refl, (wide n range, tt))
answer_plain (Swapped was) range = (refl, (tt, tt))
answer_plain NotNumber range = (refl, tt)
answer_plain Overflow range = (refl, tt)
answer_plain TooLong range = (refl, tt)
answer_plain (Found None) range = (refl, (tt, tt))
answer_plain (Found (Some value)) range = (refl, (hex_clear value range.range, tt))

event_plain : (line : EventLine) → LineInRange line → IsPlain (event_data line)
event_plain (Event (Invoke id command)) range =
    (refl, command_plain command range.1, (refl, refl, (refl, (wide id.client range.0.0, (wide id.seq range.0.1, tt)), tt)))
event_plain (Event (Complete id a)) range =
    (refl, answer_plain a range.1, (refl, refl, (refl, (wide id.client range.0.0, (wide id.seq range.0.1, tt)), tt)))
event_plain (Place id command) range =
    (refl, command_plain command range.1, (refl, refl, (refl, (wide id.client range.0.0, (wide id.seq range.0.1, tt)), tt)))

answer_weight : (a : Answer) → AnswerInRange a → items_weight (items_of (answer_parts a)) ≤ 2000
answer_weight (Found None) range = omega arith
answer_weight (Found (Some value)) range = omega (arith, hex_length value, range.most)
answer_weight Done range = omega arith
answer_weight (Removed was) range = omega arith
answer_weight (Number n) range = omega arith
answer_weight (Length n) range = omega arith
answer_weight (Swapped was) range = omega arith
answer_weight NotNumber range = omega arith
answer_weight Overflow range = omega arith
answer_weight TooLong range = omega arith

event_weight : (line : EventLine) → LineInRange line → weight (event_data line) ≤ line_limit
event_weight (Event (Invoke id command)) range = omega (arith, command_weight command range.1)
event_weight (Event (Complete id a)) range = omega (arith, answer_weight a range.1)
event_weight (Place id command) range = omega (arith, command_weight command range.1)

answer_written : (a : Answer) → AnswerInRange a → of_items (items_outline (items_of (answer_parts a))) ≡ Some (items_of (answer_parts a))
answer_written (Number n) range = rw (number_of-decimal n range) refl
answer_written (Length n) range = rw (number_of-decimal n (wide n range)) refl
answer_written (Found None) range = refl
answer_written (Found (Some value)) range = refl
answer_written Done range = refl
answer_written (Removed was) range = refl
answer_written (Swapped was) range = refl
answer_written NotNumber range = refl
answer_written Overflow range = refl
answer_written TooLong range = refl

event_written : (line : EventLine) → LineInRange line → of_json (outline (event_data line)) ≡ Some (event_data line)
event_written (Event (Invoke id command)) range =
    rw (command_written command, number_of-decimal id.client (wide id.client range.0.0), number_of-decimal id.seq (wide id.seq range.0.1)) refl
event_written (Event (Complete id a)) range =
    rw (answer_written a range.1, number_of-decimal id.client (wide id.client range.0.0), number_of-decimal id.seq (wide id.seq range.0.1)) refl
event_written (Place id command) range =
    rw (command_written command, number_of-decimal id.client (wide id.client range.0.0), number_of-decimal id.seq (wide id.seq range.0.1)) refl

answer_reads : (a : Answer) → AnswerInRange a → AnswerReadsBack a
answer_reads Done range = refl
answer_reads (Removed was) range = refl
answer_reads (Number n) range = number_reads n range
answer_reads (Length n) range = length_reads n range
answer_reads (Swapped was) range = refl
answer_reads NotNumber range = refl
answer_reads Overflow range = refl
answer_reads TooLong range = refl
answer_reads (Found None) range = refl
answer_reads (Found (Some value)) range = found_reads (Some value) (rw (value_reads value range) refl)

event_reads : (line : EventLine) → LineInRange line → EventReadsBack line
event_reads (Event (Invoke id command)) range = invoke_line_reads id command range.0.0 range.0.1 (command_reads command range.1)
event_reads (Event (Complete id a)) range = complete_line_reads id a range.0.0 range.0.1 (answer_reads a range.1)
event_reads (Place id command) range = place_line_reads id command range.0.0 range.0.1 (command_reads command range.1)

pub is_event_line : (line : EventLine) → LineInRange line → IsEventLine line
is_event_line line range =
    let plain = event_plain line range in
    record {
      all_shown = shown (event_data line) plain;
      fits = omega (arith, short (event_data line) plain, event_weight line range);
      read = reads_as event_of (event_data line) plain (event_depth line) (event_is_object line) (event_written line range) ∙ event_reads line range;
    }
