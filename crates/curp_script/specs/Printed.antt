-- What is printed for a header and a step, and what reading it gives.
use Rattle.std.specs.Prelude.{◌≡◌, ◌↔◌, ℕ, List, [], ◌∷◌, flat_map, Option, Some, None, Ok, ⊤}
use Rattle.std.specs.Int.{w64, to_be_bytes}
use Rattle.serde_json.specs.Data.{Data, null, boolean, number, string, array, object, unsigned, Members, no_members, put}
use Rattle.serde_json.specs.View.{items_of}
use Rattle.curp_cmd.specs.Pairs.{Pair}
use Rattle.curp_cmd.specs.declared.command.Command.{Command}
use Rattle.curp_cmd.specs.declared.command.Command.TheVariants.{Get, Put, Delete, Incr, Append, CondPut, Multi}
use Rattle.curp_cmd.specs.declared.node.NodeKind.TheVariants as node
use Rattle.curp_msg.specs.declared.script.Header.{Header}
use Rattle.curp_msg.specs.declared.script.Protocol.{Protocol}
use Rattle.curp_msg.specs.declared.script.Protocol.TheVariants.{One, Two}
use Rattle.curp_msg.specs.declared.script.Step.{Step}
use Rattle.curp_msg.specs.declared.script.Step.TheVariants.{Invoke, Deliver, Retry, Fetch, Sync, Collect, Recover, Replace, Migrate, Nudge, Expire, Stop}
use Rattle.curp_script.specs.declared.kind.Kind.{Kind}
use Rattle.curp_script.specs.declared.kind.Kind.TheVariants as kind
use Rattle.curp_script.specs.declared.kind.Verb.TheVariants as verb
use Rattle.curp_script.specs.declared.error.FieldName.{FieldName}
use Rattle.curp_script.specs.Digits.{hex}
use Rattle.curp_script.specs.Grammar.{step_of, command_of}
use Rattle.curp_script.specs.Kinds.{header_names, kind_text, names_of, verb_text}
use Rattle.curp_script.specs.Nodes.{keeper_text, node_text}
use Rattle.curp_script.specs.Text.{field_text}

-- ---- values

-- a whole number
abbrev pub count : ℕ → Data
count n = number (unsigned n)

-- bytes
abbrev pub bytes_data : List ℕ → Data
bytes_data bytes = string (hex bytes)

-- a hash, by its 8 bytes, the highest first
abbrev pub hash_data : ℕ → Data
hash_data hash = bytes_data (to_be_bytes w64 hash)

-- the number of a protocol
abbrev pub protocol_number : Protocol → ℕ
protocol_number One = 1
protocol_number Two = 2

-- the value that a key is expected to have, or null where it is to be absent
abbrev pub expected_data : Option (List ℕ) → Data
expected_data None = null
expected_data (Some value) = bytes_data value

-- a key, then its value
abbrev pub pair_data : Pair → List Data
pair_data p = bytes_data p.0 ∷ bytes_data p.1 ∷ []

-- the word of a command, and what stands behind it
abbrev pub command_parts : Command → List Data
command_parts (Get key) = string (verb_text verb.Get) ∷ bytes_data key ∷ []
command_parts (Put key value) = string (verb_text verb.Put) ∷ bytes_data key ∷ bytes_data value ∷ []
command_parts (Delete key) = string (verb_text verb.Delete) ∷ bytes_data key ∷ []
command_parts (Incr key) = string (verb_text verb.Incr) ∷ bytes_data key ∷ []
command_parts (Append key more) = string (verb_text verb.Append) ∷ bytes_data key ∷ bytes_data more ∷ []
command_parts (CondPut key expected value) = string (verb_text verb.CondPut) ∷ bytes_data key ∷ expected_data expected ∷ bytes_data value ∷ []
command_parts (Multi pairs) = string (verb_text verb.Multi) ∷ flat_map pair_data pairs

-- a command as an array
abbrev pub command_data : Command → Data
command_data command = array (items_of (command_parts command))

-- ---- lines

-- these values under these names
abbrev pub with_values : List FieldName → List Data → Members
with_values (name ∷ names) (value ∷ values) = put (field_text name) value (with_values names values)
with_values _ _ = no_members

-- a header as an object
abbrev pub header_data : Header → Data
header_data h =
    object (with_values header_names
    (count h.clients ∷ count h.f ∷ boolean h.fast ∷ count h.parts ∷ count (protocol_number h.protocol) ∷ count h.sets ∷ count h.ways ∷ []))

-- a line of a kind: its text under do, and these values under the other names
abbrev pub kind_line : Kind → List Data → Data
kind_line k values = object (with_values (names_of k) (string (kind_text k) ∷ values))

-- a step as an object
abbrev pub step_data : Step → Data
step_data (Invoke client command) = kind_line kind.Invoke (count client ∷ command_data command ∷ [])
step_data (Deliver message) = kind_line kind.Deliver (count message ∷ [])
step_data (Retry client seq) = kind_line kind.Retry (count client ∷ count seq ∷ [])
step_data (Fetch client) = kind_line kind.Fetch (count client ∷ [])
step_data (Sync master) = kind_line kind.Sync (count master ∷ [])
step_data (Collect master) = kind_line kind.Collect (count master ∷ [])
step_data (Recover part backup witness) = kind_line kind.Recover (count backup ∷ count part ∷ count witness ∷ [])
step_data (Replace keeper part place) = kind_line kind.Replace (string (keeper_text keeper) ∷ count part ∷ count place ∷ [])
step_data (Migrate lo hi to) = kind_line kind.Migrate (hash_data hi ∷ hash_data lo ∷ count to ∷ [])
step_data Nudge = kind_line kind.Nudge []
step_data (Expire client) = kind_line kind.Expire (count client ∷ [])
step_data (Stop id) = kind_line kind.Stop (string (node_text id) ∷ [])

-- ---- what reading gives

-- the node that a stop names has the number 0 exactly where it is the manager
abbrev pub NamesNode : Step → Type 0
NamesNode (Stop id) = (id.number ≡ 0) ↔ (id.kind ≡ node.Manager)
NamesNode _ = ⊤

-- what is printed for a step is read as that step
abbrev pub ReadsBack : Step → Type 0
ReadsBack step = step_of (step_data step) ≡ Ok step

-- what is printed for a command is read as that command
abbrev pub CommandReadsBack : Command → Type 0
CommandReadsBack command = command_of (command_parts command) ≡ Ok command
