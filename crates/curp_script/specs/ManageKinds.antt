-- The kinds of line that `manage` reads behind the header, with the names in a line of each.
use Rattle.std.specs.Prelude.{ℕ, codes, List, [], ◌∷◌, Option, find}
use Rattle.std.specs.Str.{bytes_eq}
use Rattle.curp_script.specs.declared.error.FieldName.{FieldName}
use Rattle.curp_script.specs.declared.error.FieldName.TheVariants as field
use Rattle.curp_script.specs.declared.manage.ManageKind.{ManageKind}
use Rattle.curp_script.specs.declared.manage.ManageKind.TheVariants as kind

-- what a line of this kind has under do
abbrev pub manage_kind_text : ManageKind → List ℕ
manage_kind_text kind.Recover = codes "recover"
manage_kind_text kind.Replace = codes "replace"
manage_kind_text kind.Migrate = codes "migrate"
manage_kind_text kind.Nudge = codes "nudge"
manage_kind_text kind.Expire = codes "expire"
manage_kind_text kind.Recovered = codes "recovered"
manage_kind_text kind.Crash = codes "crash"

abbrev pub manage_kinds : List ManageKind
manage_kinds =
    kind.Recover ∷ kind.Replace ∷ kind.Migrate ∷ kind.Nudge ∷ kind.Expire ∷ kind.Recovered ∷ kind.Crash ∷ []

-- the kind that a text names
abbrev pub manage_kind_of : List ℕ → Option ManageKind
manage_kind_of text = find (λ k. bytes_eq text (manage_kind_text k)) manage_kinds

-- the names in a line of a kind: do, and the others in byte order
abbrev pub manage_names : ManageKind → List FieldName
manage_names kind.Recover = field.Do ∷ field.Backup ∷ field.Part ∷ field.Witness ∷ []
manage_names kind.Replace = field.Do ∷ field.Kind ∷ field.Part ∷ field.Place ∷ []
manage_names kind.Migrate = field.Do ∷ field.Hi ∷ field.Lo ∷ field.To ∷ []
manage_names kind.Nudge = field.Do ∷ []
manage_names kind.Expire = field.Do ∷ field.Client ∷ []
manage_names kind.Recovered = field.Do ∷ field.Epoch ∷ field.Part ∷ []
manage_names kind.Crash = field.Do ∷ field.Call ∷ field.Kept ∷ []
