-- The kinds of step with the names in a line of each, and the kinds of command: what reading and printing share.
use Rattle.std.specs.Prelude.{ℕ, codes, List, [], ◌∷◌, Option, find}
use Rattle.std.specs.Str.{bytes_eq}
use Rattle.curp_script.specs.declared.error.FieldName.{FieldName}
use Rattle.curp_script.specs.declared.error.FieldName.TheVariants as field
use Rattle.curp_script.specs.declared.kind.Kind.{Kind}
use Rattle.curp_script.specs.declared.kind.Kind.TheVariants as kind
use Rattle.curp_script.specs.declared.kind.Verb.{Verb}
use Rattle.curp_script.specs.declared.kind.Verb.TheVariants as verb

-- the names of a header, in byte order
abbrev pub header_names : List FieldName
header_names = field.Clients ∷ field.F ∷ field.Fast ∷ field.Parts ∷ field.Protocol ∷ field.Sets ∷ field.Ways ∷ []

-- ---- steps

-- the kinds of step
abbrev pub kinds : List Kind
kinds =
    kind.Invoke ∷ kind.Deliver ∷ kind.Retry ∷ kind.Fetch ∷ kind.Sync ∷ kind.Collect
    ∷ kind.Recover ∷ kind.Replace ∷ kind.Migrate ∷ kind.Nudge ∷ kind.Expire ∷ kind.Stop ∷ []

-- what a line of this kind has under do
abbrev pub kind_text : Kind → List ℕ
kind_text kind.Invoke = codes "invoke"
kind_text kind.Deliver = codes "deliver"
kind_text kind.Retry = codes "retry"
kind_text kind.Fetch = codes "fetch"
kind_text kind.Sync = codes "sync"
kind_text kind.Collect = codes "collect"
kind_text kind.Recover = codes "recover"
kind_text kind.Replace = codes "replace"
kind_text kind.Migrate = codes "migrate"
kind_text kind.Nudge = codes "nudge"
kind_text kind.Expire = codes "expire"
kind_text kind.Stop = codes "stop"

-- the kind that a text names
abbrev pub kind_of : List ℕ → Option Kind
kind_of text = find (λ k. bytes_eq text (kind_text k)) kinds

-- the names in a line of a kind: do, and the others in byte order
abbrev pub names_of : Kind → List FieldName
names_of kind.Invoke = field.Do ∷ field.Client ∷ field.Cmd ∷ []
names_of kind.Deliver = field.Do ∷ field.Msg ∷ []
names_of kind.Retry = field.Do ∷ field.Client ∷ field.Seq ∷ []
names_of kind.Fetch = field.Do ∷ field.Client ∷ []
names_of kind.Sync = field.Do ∷ field.Master ∷ []
names_of kind.Collect = field.Do ∷ field.Master ∷ []
names_of kind.Recover = field.Do ∷ field.Backup ∷ field.Part ∷ field.Witness ∷ []
names_of kind.Replace = field.Do ∷ field.Kind ∷ field.Part ∷ field.Place ∷ []
names_of kind.Migrate = field.Do ∷ field.Hi ∷ field.Lo ∷ field.To ∷ []
names_of kind.Nudge = field.Do ∷ []
names_of kind.Expire = field.Do ∷ field.Client ∷ []
names_of kind.Stop = field.Do ∷ field.Node ∷ []

-- ---- commands

-- the kinds of command
abbrev pub verbs : List Verb
verbs = verb.Get ∷ verb.Put ∷ verb.Delete ∷ verb.Incr ∷ verb.Append ∷ verb.CondPut ∷ verb.Multi ∷ []

-- the word that a command begins with
abbrev pub verb_text : Verb → List ℕ
verb_text verb.Get = codes "get"
verb_text verb.Put = codes "put"
verb_text verb.Delete = codes "delete"
verb_text verb.Incr = codes "incr"
verb_text verb.Append = codes "append"
verb_text verb.CondPut = codes "condput"
verb_text verb.Multi = codes "multi"

-- the kind of command that a text names
abbrev pub verb_of : List ℕ → Option Verb
verb_of text = find (λ v. bytes_eq text (verb_text v)) verbs
