-- A printed line, read.
use Rattle.std.proofs.Common.{◌≡◌, List, ℕ, true, is_some, Some, Result, IsUtf8, refl}
use Rattle.std.proofs.lemmas.Str.{is_utf8-from_IsUtf8}
use Rattle.serde_json.specs.Data.{Data}
use Rattle.serde_json.specs.Find.{as_object}
use Rattle.serde_json.specs.Read.{read}
use Rattle.curp_script.specs.declared.error.LineError.{LineError}
use Rattle.curp_script.specs.Grammar.{object_in, read_as}

-- a line that has the value of an object is read as that object
pub read_as-printed : {A : Type 0} (form : Data → Result A LineError) (line : List ℕ) (d : Data)
    → is_some (as_object d) ≡ true → IsUtf8 line → read line ≡ Some d → read_as form (object_in line) ≡ form d
read_as-printed form line d object utf8 is = rw (is_utf8-from_IsUtf8 line utf8, is, object) refl
