-- The texts of commands, answers, requests' numbers and nodes.
use Rattle.std.specs.Prelude.{ℕ, ◌/◌, ◌%◌, true, false, List, [], ◌∷◌, ◌++◌, flat_map, codes, Option, Some, None}
use Rattle.std.specs.Fmt.{decimal, digit_glyph}
use Rattle.curp_cmd.specs.declared.command.Command.{Command}
use Rattle.curp_cmd.specs.declared.command.Command.TheVariants.{Get, Put, Delete, Incr, Append, CondPut, Multi}
use Rattle.curp_cmd.specs.declared.command.Answer.{Answer}
use Rattle.curp_cmd.specs.declared.command.Answer.TheVariants as answer
use Rattle.curp_cmd.specs.declared.command.RequestId.{RequestId}
use Rattle.curp_cmd.specs.declared.node.NodeId.{NodeId}
use Rattle.curp_cmd.specs.declared.node.NodeKind.{NodeKind}
use Rattle.curp_cmd.specs.declared.node.NodeKind.TheVariants.{Manager, Client, Master, Backup, Witness}

-- ---- words

-- texts with a separator between
abbrev pub separated : List ℕ → List (List ℕ) → List ℕ
separated separator [] = []
separated separator (w ∷ []) = w
separated separator (w ∷ v ∷ rest) = w ++ separator ++ separated separator (v ∷ rest)

-- words with a space between
abbrev pub words : List (List ℕ) → List ℕ
words ws = separated (codes " ") ws

-- a number behind the letters that say what it counts
abbrev pub labelled : List ℕ → ℕ → List ℕ
labelled label n = label ++ decimal n

-- ---- names

-- the number of a request, as `1.2` for the second one of client 1
abbrev pub id_text : RequestId → List ℕ
id_text id = decimal id.client ++ codes "." ++ decimal id.seq

-- the letter of a kind of node, and a number among its kind. There is one manager, so that it shows none
abbrev pub numbered_kind : NodeKind → ℕ → List ℕ
numbered_kind Manager n = codes "G"
numbered_kind Client n = labelled (codes "C") n
numbered_kind Master n = labelled (codes "M") n
numbered_kind Backup n = labelled (codes "B") n
numbered_kind Witness n = labelled (codes "W") n

-- what a kind of node is called
abbrev pub kind_text : NodeKind → List ℕ
kind_text Manager = codes "manager"
kind_text Client = codes "client"
kind_text Master = codes "master"
kind_text Backup = codes "backup"
kind_text Witness = codes "witness"

-- a node, as `C1`
abbrev pub node_label : NodeId → List ℕ
node_label node = numbered_kind node.kind node.number

-- ---- bytes, commands and answers

-- a byte, as two lower-case hexadecimal digits
abbrev pub byte_digits : ℕ → List ℕ
byte_digits b = digit_glyph false (b / 16) ∷ digit_glyph false (b % 16) ∷ []

-- the digits of each byte, or a point where there is none, so that a word is never empty
abbrev pub bytes_text : List ℕ → List ℕ
bytes_text [] = codes "."
bytes_text (b ∷ bs) = flat_map byte_digits (b ∷ bs)

-- the value that a conditional put expects; `-` where it expects none
abbrev pub expected_text : Option (List ℕ) → List ℕ
expected_text None = codes "-"
expected_text (Some value) = bytes_text value

-- each key with its value, with a space before each
abbrev pub pair_text : List ℕ × List ℕ → List ℕ
pair_text p = codes " " ++ words (bytes_text p.0 ∷ bytes_text p.1 ∷ [])

-- the command by its name, then its keys and its values
abbrev pub command_text : Command → List ℕ
command_text (Get key) = words (codes "get" ∷ bytes_text key ∷ [])
command_text (Put key value) = words (codes "put" ∷ bytes_text key ∷ bytes_text value ∷ [])
command_text (Delete key) = words (codes "delete" ∷ bytes_text key ∷ [])
command_text (Incr key) = words (codes "incr" ∷ bytes_text key ∷ [])
command_text (Append key more) = words (codes "append" ∷ bytes_text key ∷ bytes_text more ∷ [])
command_text (CondPut key expected value) = words (codes "condput" ∷ bytes_text key ∷ expected_text expected ∷ bytes_text value ∷ [])
command_text (Multi pairs) = codes "multi" ++ flat_map pair_text pairs

-- what a get found
abbrev pub found_text : Option (List ℕ) → List ℕ
found_text None = codes "none"
found_text (Some value) = words (codes "found" ∷ bytes_text value ∷ [])

abbrev pub answer_text : Answer → List ℕ
answer_text answer.Done = codes "done"
answer_text (answer.Removed true) = codes "removed"
answer_text (answer.Removed false) = codes "absent"
answer_text (answer.Number n) = words (codes "number" ∷ decimal n ∷ [])
answer_text (answer.Length n) = words (codes "length" ∷ decimal n ∷ [])
answer_text (answer.Swapped true) = codes "swapped"
answer_text (answer.Swapped false) = codes "kept"
answer_text answer.NotNumber = codes "not-number"
answer_text answer.Overflow = codes "overflow"
answer_text answer.TooLong = codes "too-long"
answer_text (answer.Found value) = found_text value
