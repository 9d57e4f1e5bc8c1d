-- The lines of a history and of an order that is claimed for it, as JSON.
use Rattle.std.specs.Prelude.{ℕ, ◌-◌, ◌^◌, List, [], ◌∷◌, Option, Some, None, option_and_then, option_map, Result, Ok, Err}
use Rattle.std.specs.Option.{ok_or}
use Rattle.serde_json.specs.Data.{Data}
use Rattle.serde_json.specs.Find.{as_array, as_bool, as_str}
use Rattle.curp_cmd.specs.declared.command.Answer.{Answer}
use Rattle.curp_cmd.specs.declared.command.Answer.TheVariants.{Done, Removed, Number, Length, Swapped, NotNumber, Overflow, TooLong, Found}
use Rattle.curp_cmd.specs.declared.command.RequestId.{RequestId}
use Rattle.curp_order.specs.declared.Event.TheVariants.{Invoke, Complete}
use Rattle.curp_script.specs.declared.error.FieldName.TheVariants as field
use Rattle.curp_script.specs.declared.error.LineError.{LineError}
use Rattle.curp_script.specs.declared.error.LineError.TheVariants.{BadField}
use Rattle.curp_script.specs.declared.event.AnswerKind.{AnswerKind}
use Rattle.curp_script.specs.declared.event.AnswerKind.TheVariants as answer
use Rattle.curp_script.specs.declared.event.EventKind.{EventKind}
use Rattle.curp_script.specs.declared.event.EventKind.TheVariants as kind
use Rattle.curp_script.specs.declared.event.EventLine.{EventLine}
use Rattle.curp_script.specs.declared.event.EventLine.TheVariants.{Event, Place}
use Rattle.curp_script.specs.EventKinds.{answer_kind_of, event_kind_of, event_names}
use Rattle.curp_script.specs.Grammar.{◌>>=◌, command_at, expected_in, field_as, listed, no_other, number_within, object_in, read_as, text_as}

-- ---- a request's number

-- a number of 32 bits
abbrev pub index_in : Data → Option ℕ
index_in d = number_within 0 (2 ^ 32 - 1) d

-- a client and its request's number
abbrev pub id_of : List Data → Option RequestId
id_of (client ∷ seq ∷ []) =
    option_and_then (λ c. option_map (λ s. record { client = c; seq = s }) (index_in seq)) (index_in client)
id_of _ = None

-- the number of a request, an array of two numbers
abbrev pub id_at : Data → Result RequestId LineError
id_at d = do
  items ← field_as as_array field.Id d
  ok_or (id_of (listed items)) (BadField field.Id)

-- ---- an answer

-- nothing stands behind the word
abbrev pub alone : Answer → List Data → Option Answer
alone a [] = Some a
alone a (part ∷ parts) = None

-- one part stands behind the word
abbrev pub one_part : {A : Type 0} → (Data → Option A) → List Data → Option A
one_part form (part ∷ []) = form part
one_part form _ = None

-- what an answer is by its word and what stands behind it
abbrev pub answer_by : AnswerKind → List Data → Option Answer
answer_by answer.Done parts = alone Done parts
answer_by answer.Removed parts = option_map (λ was. Removed was) (one_part as_bool parts)
answer_by answer.Number parts = option_map (λ n. Number n) (one_part (number_within 0 (2 ^ 64 - 1)) parts)
answer_by answer.Length parts = option_map (λ n. Length n) (one_part index_in parts)
answer_by answer.Swapped parts = option_map (λ was. Swapped was) (one_part as_bool parts)
answer_by answer.NotNumber parts = alone NotNumber parts
answer_by answer.Overflow parts = alone Overflow parts
answer_by answer.TooLong parts = alone TooLong parts
answer_by answer.Found parts = option_map (λ value. Found value) (one_part expected_in parts)

-- a word, then what it tells, with the faults of a completion's ans
abbrev pub answer_of : List Data → Result Answer LineError
answer_of [] = Err (BadField field.Ans)
answer_of (first ∷ parts) = do
  kind ← ok_or (option_and_then answer_kind_of (as_str first)) (BadField field.Ans)
  ok_or (answer_by kind parts) (BadField field.Ans)

-- the answer of a completion. A fault anywhere in it is one of ans
abbrev pub answer_at : Data → Result Answer LineError
answer_at d = do
  items ← field_as as_array field.Ans d
  answer_of (listed items)

-- ---- a line

-- what a line of a kind says, by the values of its names, in byte order
abbrev pub event_values : EventKind → Data → Result EventLine LineError
event_values kind.Invoke d = do
  command ← command_at d
  id ← id_at d
  Ok (Event (Invoke id command))
event_values kind.Complete d = do
  answer ← answer_at d
  id ← id_at d
  Ok (Event (Complete id answer))
event_values kind.Place d = do
  command ← command_at d
  id ← id_at d
  Ok (Place id command)

-- what an object of a kind says: no name stands there but those of the kind
abbrev pub event_by : EventKind → Data → Result EventLine LineError
event_by kind d = do
  line ← event_values kind d
  _ ← no_other (event_names kind) d
  Ok line

-- what an object says
abbrev pub event_of : Data → Result EventLine LineError
event_of d = do
  kind ← text_as event_kind_of field.Ev d
  event_by kind d

-- what a line says, or why it is none
abbrev pub event_in : List ℕ → Result EventLine LineError
event_in line = read_as event_of (object_in line)
