-- The lines that `manage` reads behind the header, as JSON.
use Rattle.std.specs.Prelude.{ℕ, ◌≤◌, List, Result, Ok, ⊤}
use Rattle.serde_json.specs.Data.{Data}
use Rattle.serde_json.specs.Find.{as_bool}
use Rattle.curp_msg.specs.declared.machine.Local.TheVariants.{Recover, Replace, Migrate, Nudge, Expire}
use Rattle.curp_script.specs.declared.error.FieldName.TheVariants as field
use Rattle.curp_script.specs.declared.error.LineError.{LineError}
use Rattle.curp_script.specs.declared.manage.ManageKind.{ManageKind}
use Rattle.curp_script.specs.declared.manage.ManageKind.TheVariants as kind
use Rattle.curp_script.specs.declared.manage.ManageLine.{ManageLine}
use Rattle.curp_script.specs.declared.manage.ManageLine.TheVariants.{Order, Recovered, Crash}
use Rattle.curp_script.specs.Digits.{hash_of}
use Rattle.curp_script.specs.Grammar.{◌>>=◌, field_as, index_at, no_other, number_at, object_in, read_as, text_as}
use Rattle.curp_script.specs.ManageKinds.{manage_kind_of, manage_names}
use Rattle.curp_script.specs.Nodes.{keeper_of}

-- what a line of a kind says, by the values of its names, in byte order
abbrev pub manage_values : ManageKind → Data → Result ManageLine LineError
manage_values kind.Recover d = do
  backup ← index_at field.Backup d
  part ← index_at field.Part d
  witness ← index_at field.Witness d
  Ok (Order (Recover part backup witness))
manage_values kind.Replace d = do
  keeper ← text_as keeper_of field.Kind d
  part ← index_at field.Part d
  place ← index_at field.Place d
  Ok (Order (Replace keeper part place))
manage_values kind.Migrate d = do
  hi ← text_as hash_of field.Hi d
  lo ← text_as hash_of field.Lo d
  to ← index_at field.To d
  Ok (Order (Migrate lo hi to))
manage_values kind.Nudge d = Ok (Order Nudge)
manage_values kind.Expire d = do
  client ← index_at field.Client d
  Ok (Order (Expire client))
manage_values kind.Recovered d = do
  epoch ← index_at field.Epoch d
  part ← index_at field.Part d
  Ok (Recovered part epoch)
manage_values kind.Crash d = do
  call ← number_at field.Call 1 4 d
  kept ← field_as as_bool field.Kept d
  Ok (Crash call kept)

-- what an object of a kind says: no name stands there but those of the kind
abbrev pub manage_by : ManageKind → Data → Result ManageLine LineError
manage_by kind d = do
  line ← manage_values kind d
  _ ← no_other (manage_names kind) d
  Ok line

-- what an object says
abbrev pub manage_of : Data → Result ManageLine LineError
manage_of d = do
  kind ← text_as manage_kind_of field.Do d
  manage_by kind d

-- what a line says, or why it is none
abbrev pub manage_in : List ℕ → Result ManageLine LineError
manage_in line = read_as manage_of (object_in line)

-- a crash is at one of the four calls that keep an input
abbrev pub HasCall : ManageLine → Type 0
HasCall (Order order) = ⊤
HasCall (Recovered part epoch) = ⊤
HasCall (Crash call kept) = (1 ≤ call) × (call ≤ 4)
