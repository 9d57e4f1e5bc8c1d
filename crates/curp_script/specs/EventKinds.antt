-- The kinds of line of a history and of an order, with the names in a line of each, and the kinds of answer: what reading
-- and printing share.
use Rattle.std.specs.Prelude.{ℕ, codes, List, [], ◌∷◌, Option, find}
use Rattle.std.specs.Str.{bytes_eq}
use Rattle.curp_script.specs.declared.error.FieldName.{FieldName}
use Rattle.curp_script.specs.declared.error.FieldName.TheVariants as field
use Rattle.curp_script.specs.declared.event.AnswerKind.{AnswerKind}
use Rattle.curp_script.specs.declared.event.AnswerKind.TheVariants as answer
use Rattle.curp_script.specs.declared.event.EventKind.{EventKind}
use Rattle.curp_script.specs.declared.event.EventKind.TheVariants as kind

-- ---- lines

-- what a line of this kind has under ev
abbrev pub event_kind_text : EventKind → List ℕ
event_kind_text kind.Invoke = codes "invoke"
event_kind_text kind.Complete = codes "complete"
event_kind_text kind.Place = codes "place"

-- the kind that a text names
abbrev pub event_kind_of : List ℕ → Option EventKind
event_kind_of text = find (λ k. bytes_eq text (event_kind_text k)) (kind.Invoke ∷ kind.Complete ∷ kind.Place ∷ [])

-- the names in a line of a kind: ev, and the others in byte order
abbrev pub event_names : EventKind → List FieldName
event_names kind.Invoke = field.Ev ∷ field.Cmd ∷ field.Id ∷ []
event_names kind.Complete = field.Ev ∷ field.Ans ∷ field.Id ∷ []
event_names kind.Place = field.Ev ∷ field.Cmd ∷ field.Id ∷ []

-- ---- answers

-- the kinds of answer
abbrev pub answer_kinds : List AnswerKind
answer_kinds =
    answer.Done ∷ answer.Removed ∷ answer.Number ∷ answer.Length ∷ answer.Swapped ∷ answer.NotNumber
    ∷ answer.Overflow ∷ answer.TooLong ∷ answer.Found ∷ []

-- the word that an answer begins with
abbrev pub answer_kind_text : AnswerKind → List ℕ
answer_kind_text answer.Done = codes "done"
answer_kind_text answer.Removed = codes "removed"
answer_kind_text answer.Number = codes "number"
answer_kind_text answer.Length = codes "length"
answer_kind_text answer.Swapped = codes "swapped"
answer_kind_text answer.NotNumber = codes "not-number"
answer_kind_text answer.Overflow = codes "overflow"
answer_kind_text answer.TooLong = codes "too-long"
answer_kind_text answer.Found = codes "found"

-- the kind of answer that a text names
abbrev pub answer_kind_of : List ℕ → Option AnswerKind
answer_kind_of text = find (λ k. bytes_eq text (answer_kind_text k)) answer_kinds
