-- The one run of a node's machine that all its lives show.
use Rattle.std.specs.Prelude.{◌≡◌, ◌⊎◌, ℕ, ◌+◌, List, [], ◌∷◌, ◌++◌, length, Some, ⊤}
use Rattle.curp_journal.specs.Journal as journal
use Rattle.curp_journal.specs.Journal.{IsJournal, last_stamp}
use Rattle.curp_journal.specs.declared.arrived.Arrived.{Arrived}
use Rattle.curp_journal.specs.declared.item.Item.{Item}
use Rattle.curp_msg.specs.Moved.{Moved}
use Rattle.curp_msg.specs.Input.{Input}
use Rattle.curp_durable.specs.Journal.{HoldsJournal}
use Rattle.curp_durable.specs.Standing.{Standing, after, begun}
use Rattle.curp_durable.specs.declared.stand.Answered.{Answered}
use Rattle.curp_durable.specs.declared.stand.Answered.TheVariants as answered
use Rattle.curp_law_lives.specs.Lives.{Life}

-- the first list has all of the second in their order, and may have others between them
abbrev pub HasInOrder : {A : Type 0} → List A → List A → Type 0
HasInOrder [] [] = ⊤
HasInOrder [] (x ∷ xs) = ⊥
HasInOrder (y ∷ ys) [] = ⊤
HasInOrder (y ∷ ys) (x ∷ xs) = ((x ≡ y) × HasInOrder ys xs) ⊎ HasInOrder ys (x ∷ xs)

-- what came with the items
abbrev pub inputs_of : List Item → List Arrived
inputs_of [] = []
inputs_of (item ∷ items) = item.input ∷ inputs_of items

-- the answers that tell these items, numbered from n on
abbrev pub told_from : ℕ → List Item → List Answered
told_from n [] = []
told_from n (item ∷ items) = answered.Made n item ∷ told_from (n + 1) items

-- the answers that tell an item: all but the refusals
abbrev pub made_answer : Answered → List Answered
made_answer (answered.Made step item) = answered.Made step item ∷ []
made_answer (answered.Refused number) = []

abbrev pub made_answers : List Answered → List Answered
made_answers [] = []
made_answers (a ∷ more) = made_answer a ++ made_answers more

-- where a node stands that has made these items
abbrev pub behind : {N : Type 0} → (N → Input → Moved N) → (opening : N) → List Item → Standing N
behind machine opening items = record { node = journal.after machine opening items; count = length items; last = last_stamp 0 items }

-- All that was answered, what the disk has, and where the node stands, are of one run of the machine
pub record IsOneRun {N : Type 0} (machine : N → Input → Moved N) (title : List ℕ) (opening : N) (life : Life N) : Type 0 where
  pub items : List Item
  pub run : IsJournal machine opening items
  -- the disk has just what came with these items
  pub journal : HoldsJournal life.content title (inputs_of items)
  pub only : (inputs : List Arrived) → HoldsJournal life.content title inputs → inputs ≡ inputs_of items
  -- each item that was answered, with its number, and in their order
  pub answers : HasInOrder (told_from 1 items) (made_answers life.answered)
  pub stands : (stand : Standing N) → life.node ≡ Some stand → stand ≡ behind machine opening items
  -- and so will it after the next opening
  pub opens : after machine (begun opening) (inputs_of items) ≡ behind machine opening items
