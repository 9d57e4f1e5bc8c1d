-- The lines of a script, as JSON.
use Rattle.std.specs.Prelude.{ℕ, ◌-◌, ◌^◌, ◌&&◌, nat_lt, if◌then◌else◌, Bool, true, not, List, [], ◌∷◌, length, Option, Some, None, is_some, option_and_then, option_map, unwrap_or, Result, Ok, Err, ⊤}
use Rattle.std.specs.List.{list_any}
use Rattle.std.specs.Option.{ok_or}
use Rattle.std.specs.Str.{bytes_eq, is_utf8}
use Rattle.serde_json.specs.Data.{Data, Items, no_items, item, Members, no_members, member}
use Rattle.serde_json.specs.Read.{read}
use Rattle.serde_json.specs.Find.{get, as_null, as_object, as_array, as_str, as_number, as_u64, as_bool}
use Rattle.curp_cmd.specs.Pairs.{Pair, names_twice}
use Rattle.curp_cmd.specs.declared.command.Command.{Command}
use Rattle.curp_cmd.specs.declared.command.Command.TheVariants.{Get, Put, Delete, Incr, Append, CondPut, Multi}
use Rattle.curp_msg.specs.declared.script.Header.{Header}
use Rattle.curp_msg.specs.declared.script.Protocol.{Protocol}
use Rattle.curp_msg.specs.declared.script.Protocol.TheVariants.{One, Two}
use Rattle.curp_msg.specs.declared.script.Step.{Step}
use Rattle.curp_msg.specs.declared.script.Step.TheVariants.{Invoke, Deliver, Retry, Fetch, Sync, Collect, Recover, Replace, Migrate, Nudge, Expire, Stop}
use Rattle.curp_script.specs.declared.kind.Kind.{Kind}
use Rattle.curp_script.specs.declared.kind.Kind.TheVariants as kind
use Rattle.curp_script.specs.declared.kind.Verb.{Verb}
use Rattle.curp_script.specs.declared.kind.Verb.TheVariants as verb
use Rattle.curp_script.specs.declared.error.FieldName.{FieldName}
use Rattle.curp_script.specs.declared.error.FieldName.TheVariants as field
use Rattle.curp_script.specs.declared.error.LineError.{LineError}
use Rattle.curp_script.specs.declared.error.LineError.TheVariants.{BadJson, BadField}
use Rattle.curp_script.specs.Digits.{by_twos, bytes_of, at_most, at_least, hash_of}
use Rattle.curp_script.specs.Headers.{is_within}
use Rattle.curp_script.specs.Text.{field_text}
use Rattle.curp_script.specs.Kinds.{header_names, kind_of, names_of, verb_of}
use Rattle.curp_script.specs.Nodes.{keeper_of, node_of}

-- the ? of the logic: the second step, if the first gave a value
infixl 10 ◌>>=◌
abbrev pub ◌>>=◌ : {A B : Type 0} → Result A LineError → (A → Result B LineError) → Result B LineError
Ok x >>= f = f x
Err e >>= f = Err e

-- ---- JSON

-- what the bytes are as JSON
abbrev pub json_of : List ℕ → Option Data
json_of bytes = if is_utf8 bytes then read bytes else None

-- an object, as JSON has it: names with values
abbrev pub only_object : Data → Option Data
only_object d = if is_some (as_object d) then Some d else None

-- the object that a line is. Of a name that stands twice in it the last value counts
abbrev pub object_in : List ℕ → Option Data
object_in line = option_and_then only_object (json_of line)

-- a name is one of these
abbrev pub is_one_of : List FieldName → List ℕ → Bool
is_one_of names name = list_any (λ n. bytes_eq (field_text n) name) names

-- each name of an object is one of these
abbrev pub has_only : List FieldName → Members → Bool
has_only names no_members = true
has_only names (member name d more) = is_one_of names name && has_only names more

-- ---- the values of names

-- the value under a name, in a form, or else that name is bad
abbrev pub field_as : {A : Type 0} → (Data → Option A) → FieldName → Data → Result A LineError
field_as form name d = ok_or (option_and_then form (get (field_text name) d)) (BadField name)

-- the text under a name, as what it stands for, or else that name is bad
abbrev pub text_as : {A : Type 0} → (List ℕ → Option A) → FieldName → Data → Result A LineError
text_as form name d = ok_or (option_and_then form (option_and_then as_str (get (field_text name) d))) (BadField name)

-- no name of the object is another than these
abbrev pub no_other : List FieldName → Data → Result ⊤ LineError
no_other names d = if has_only names (unwrap_or (as_object d) no_members) then Ok tt else Err (BadField field.Other)

-- a whole number from low to high
abbrev pub number_within : ℕ → ℕ → Data → Option ℕ
number_within low high d =
    option_and_then (λ n. if is_within low high n then Some n else None) (option_and_then as_u64 (as_number d))

-- the number under a name, from low to high
abbrev pub number_at : FieldName → ℕ → ℕ → Data → Result ℕ LineError
number_at name low high d = field_as (number_within low high) name d

-- the number of a node, a place or a request
abbrev pub index_at : FieldName → Data → Result ℕ LineError
index_at name d = number_at name 0 (2 ^ 32 - 1) d

-- so many bytes as a text of digits
abbrev pub bytes_within : ℕ → ℕ → Data → Option (List ℕ)
bytes_within least most d = option_and_then (at_least least) (option_and_then (at_most most) (option_and_then bytes_of (as_str d)))

-- ---- the header

-- the protocol of reads, by its number
abbrev pub protocol_at : Data → Result Protocol LineError
protocol_at d = do
  number ← number_at field.Protocol 1 2 d
  Ok (if nat_lt 1 number then Two else One)

-- the header that an object is
abbrev pub header_of : Data → Result Header LineError
header_of d = do
  clients ← number_at field.Clients 1 64 d
  f ← number_at field.F 1 5 d
  fast ← field_as as_bool field.Fast d
  parts ← number_at field.Parts 1 16 d
  protocol ← protocol_at d
  sets ← number_at field.Sets 1 1024 d
  ways ← number_at field.Ways 1 16 d
  _ ← no_other header_names d
  Ok (record { clients = clients; f = f; fast = fast; parts = parts; protocol = protocol; sets = sets; ways = ways })

-- ---- a command

-- a key has 1 to 32 bytes
abbrev pub key_in : Data → Option (List ℕ)
key_in d = bytes_within 1 32 d

-- a value has 0 to 128 bytes
abbrev pub value_in : Data → Option (List ℕ)
value_in d = bytes_within 0 128 d

-- the value that a key is expected to have, or null where it is to be absent
abbrev pub expected_in : Data → Option (Option (List ℕ))
expected_in d = if is_some (as_null d) then Some None else option_map (λ value. Some value) (value_in d)

-- a key and its value
abbrev pub pair_in : Data → Data → Option Pair
pair_in key value = option_and_then (λ k. option_map (λ v. (k, v)) (value_in value)) (key_in key)

-- a key alone
abbrev pub key_alone : List Data → Option (List ℕ)
key_alone (key ∷ []) = key_in key
key_alone _ = None

-- one pair
abbrev pub one_pair : List Data → Option Pair
one_pair (key ∷ value ∷ []) = pair_in key value
one_pair _ = None

-- a key, what it is expected to have, and a value
abbrev pub cond_put_of : List Data → Option Command
cond_put_of (key ∷ expected ∷ value ∷ []) =
    option_and_then (λ k. option_and_then (λ e. option_map (λ v. CondPut k e v) (value_in value)) (expected_in expected)) (key_in key)
cond_put_of _ = None

-- 1 to 4 pairs, no key twice
abbrev pub multi_put : List Pair → Option Command
multi_put pairs = if is_within 1 4 (length pairs) && not (names_twice pairs) then Some (Multi pairs) else None

-- what a command is by its word and what stands behind it
abbrev pub command_by : Verb → List Data → Option Command
command_by verb.Get parts = option_map (λ key. Get key) (key_alone parts)
command_by verb.Put parts = option_map (λ p. Put p.0 p.1) (one_pair parts)
command_by verb.Delete parts = option_map (λ key. Delete key) (key_alone parts)
command_by verb.Incr parts = option_map (λ key. Incr key) (key_alone parts)
command_by verb.Append parts = option_map (λ p. Append p.0 p.1) (one_pair parts)
command_by verb.CondPut parts = cond_put_of parts
command_by verb.Multi parts = option_and_then multi_put (by_twos pair_in parts)

-- a word, then byte strings, with the faults of an invocation's cmd
abbrev pub command_of : List Data → Result Command LineError
command_of [] = Err (BadField field.Cmd)
command_of (first ∷ parts) = do
  verb ← ok_or (option_and_then verb_of (as_str first)) (BadField field.Cmd)
  ok_or (command_by verb parts) (BadField field.Cmd)

-- the items of an array
abbrev pub listed : Items → List Data
listed no_items = []
listed (item d more) = d ∷ listed more

-- the command of an invocation. A fault anywhere in it is one of cmd
abbrev pub command_at : Data → Result Command LineError
command_at d = do
  items ← field_as as_array field.Cmd d
  command_of (listed items)

-- ---- a step

-- the step of a kind, by the values of its names, in byte order
abbrev pub values_of : Kind → Data → Result Step LineError
values_of kind.Invoke d = do
  client ← index_at field.Client d
  command ← command_at d
  Ok (Invoke client command)
values_of kind.Deliver d = do
  message ← number_at field.Msg 0 (2 ^ 64 - 1) d
  Ok (Deliver message)
values_of kind.Retry d = do
  client ← index_at field.Client d
  seq ← index_at field.Seq d
  Ok (Retry client seq)
values_of kind.Fetch d = do
  client ← index_at field.Client d
  Ok (Fetch client)
values_of kind.Sync d = do
  master ← index_at field.Master d
  Ok (Sync master)
values_of kind.Collect d = do
  master ← index_at field.Master d
  Ok (Collect master)
values_of kind.Recover d = do
  backup ← index_at field.Backup d
  part ← index_at field.Part d
  witness ← index_at field.Witness d
  Ok (Recover part backup witness)
values_of kind.Replace d = do
  keeper ← text_as keeper_of field.Kind d
  part ← index_at field.Part d
  place ← index_at field.Place d
  Ok (Replace keeper part place)
values_of kind.Migrate d = do
  hi ← text_as hash_of field.Hi d
  lo ← text_as hash_of field.Lo d
  to ← index_at field.To d
  Ok (Migrate lo hi to)
values_of kind.Nudge d = Ok Nudge
values_of kind.Expire d = do
  client ← index_at field.Client d
  Ok (Expire client)
values_of kind.Stop d = do
  node ← text_as node_of field.Node d
  Ok (Stop node)

-- the step of a kind that an object is: no name stands there but those of the kind
abbrev pub step_by : Kind → Data → Result Step LineError
step_by kind d = do
  step ← values_of kind d
  _ ← no_other (names_of kind) d
  Ok step

-- the step that an object is
abbrev pub step_of : Data → Result Step LineError
step_of d = do
  kind ← text_as kind_of field.Do d
  step_by kind d

-- ---- lines

-- a line that is no JSON object is bad
abbrev pub read_as : {A : Type 0} → (Data → Result A LineError) → Option Data → Result A LineError
read_as form None = Err BadJson
read_as form (Some d) = form d

-- the header that a line is, or why it is none
abbrev pub header_in : List ℕ → Result Header LineError
header_in line = read_as header_of (object_in line)

-- the step that a line is, or why it is none
abbrev pub step_in : List ℕ → Result Step LineError
step_in line = read_as step_of (object_in line)
