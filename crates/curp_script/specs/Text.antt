-- The words for a line that is refused.
use Rattle.std.specs.Prelude.{ℕ, List, ◌++◌, codes}
use Rattle.curp_script.specs.declared.error.FieldName.{FieldName}
use Rattle.curp_script.specs.declared.error.FieldName.TheVariants as field
use Rattle.curp_script.specs.declared.error.LineError.{LineError}
use Rattle.curp_script.specs.declared.error.LineError.TheVariants.{BadJson, BadField}

-- a name, as lines have it
abbrev pub field_text : FieldName → List ℕ
field_text field.Ans = codes "ans"
field_text field.Backup = codes "backup"
field_text field.Call = codes "call"
field_text field.Client = codes "client"
field_text field.Clients = codes "clients"
field_text field.Cmd = codes "cmd"
field_text field.Do = codes "do"
field_text field.Epoch = codes "epoch"
field_text field.Ev = codes "ev"
field_text field.F = codes "f"
field_text field.Fast = codes "fast"
field_text field.Hi = codes "hi"
field_text field.Id = codes "id"
field_text field.Kept = codes "kept"
field_text field.Kind = codes "kind"
field_text field.Lo = codes "lo"
field_text field.Master = codes "master"
field_text field.Msg = codes "msg"
field_text field.Node = codes "node"
field_text field.Other = codes "other"
field_text field.Part = codes "part"
field_text field.Parts = codes "parts"
field_text field.Place = codes "place"
field_text field.Protocol = codes "protocol"
field_text field.Seq = codes "seq"
field_text field.Sets = codes "sets"
field_text field.To = codes "to"
field_text field.Ways = codes "ways"
field_text field.Witness = codes "witness"

-- why a line is refused, as it is printed behind the line's number
abbrev pub reason_text : LineError → List ℕ
reason_text BadJson = codes "bad json"
reason_text (BadField name) = codes "bad field " ++ field_text name
