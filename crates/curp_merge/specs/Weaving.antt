-- How far a merge of journals has come, and what is due. A journal has a row of numbers: for each of its turns that was
-- taken, how many messages were sent before it (this project's own).
use Rattle.std.specs.Prelude.{◌≡◌, ◌≤◌, ◌<◌, ◌⊎◌, ℕ, ◌+◌, ◌^◌, nat_lt, Bool, true, List, [], ◌∷◌, ◌++◌, length, take, drop, slice_get, Option, Some, None, option_map, IfSome, ⊤}
use Rattle.std.specs.List.{sum_by}
use Rattle.curp_base.specs.Words.{At, Each, numbered}
use Rattle.curp_cmd.specs.declared.node.NodeId.{NodeId}
use Rattle.curp_msg.specs.Input as input
use Rattle.curp_msg.specs.declared.machine.Local.{Local}
use Rattle.curp_msg.specs.declared.message.Message.{Message}
use Rattle.curp_msg.specs.declared.script.Step.{Step}
use Rattle.curp_msg.specs.declared.script.Step.TheVariants as steps
use Rattle.curp_model.specs.World.{Gives, deed_by}
use Rattle.curp_journal.specs.Given.{given}
use Rattle.curp_journal.specs.declared.arrived.Arrived.{Arrived}
use Rattle.curp_journal.specs.declared.arrived.Arrived.TheVariants as arrived
use Rattle.curp_journal.specs.declared.arrived.Named.{Named}
use Rattle.curp_journal.specs.declared.item.Item.{Item}
use Rattle.curp_journal.specs.Legal.{LegalFrom, deed_for}
use Rattle.curp_journal.specs.Turns.{Did, InOrder, IsKnown, Journal, Placed, Precedes, Quits, Turn, of, said, sent_by, turn_stamp, turns_of}
use Rattle.curp_merge.specs.Merging.{NameTaken, turn_weight, weight_sent}
use Rattle.curp_journal.specs.Own.{IsOwn}

-- ---- which turn is due

-- the stamp of the next turn of a journal of which so many were taken, if there is one
abbrev pub next_stamp : Journal → ℕ → Option ℕ
next_stamp j taken = option_map turn_stamp (slice_get (turns_of j) taken)

-- no turn is left of the first n journals
abbrev pub NoTurnLeft : List Journal → List (List ℕ) → ℕ → Type 0
NoTurnLeft journals rows n = (i : ℕ) (j : Journal) (row : List ℕ) → i < n → At journals i j → At rows i row → length (turns_of j) ≤ length row

-- no turn is left
abbrev pub NoneLeft : List Journal → List (List ℕ) → Type 0
NoneLeft journals rows = NoTurnLeft journals rows (length journals)

-- a stamp of the journal at a place comes before another, or is that one
abbrev pub ComesFirst : ℕ → ℕ → ℕ → ℕ → Type 0
ComesFirst stamp place other there = (stamp < other) ⊎ ((stamp ≡ other) × (place ≤ there))

-- no next turn of the first n journals comes before this stamp of the journal at that place
abbrev pub NoneComesBefore : List Journal → List (List ℕ) → ℕ → ℕ → ℕ → Type 0
NoneComesBefore journals rows n place stamp = (i : ℕ) (j : Journal) (row : List ℕ) (turn : Turn)
    → i < n → At journals i j → At rows i row → At (turns_of j) (length row) turn → ComesFirst stamp place (turn_stamp turn) i

-- the next turn of the journal at a place
pub record IsNext (journals : List Journal) (rows : List (List ℕ)) (place : ℕ) (turn : Turn) : Type 0 where
  pub journal : Journal
  pub row : List ℕ
  pub stands : At journals place journal
  pub its_row : At rows place row
  pub its_turn : At (turns_of journal) (length row) turn

-- the best of the first n journals: the place, and the stamp of its next turn
pub record IsBest (journals : List Journal) (rows : List (List ℕ)) (n place stamp : ℕ) : Type 0 where
  pub turn : Turn
  pub next : IsNext journals rows place turn
  pub among : place < n
  pub stamp_is : stamp ≡ turn_stamp turn
  pub first : NoneComesBefore journals rows n place stamp

-- the best so far, if any of the first n journals has a next turn
abbrev pub BestSoFar : List Journal → List (List ℕ) → ℕ → Option (ℕ × ℕ) → Type 0
BestSoFar journals rows n None = NoTurnLeft journals rows n
BestSoFar journals rows n (Some best) = IsBest journals rows n best.0 best.1

-- the stamp is less than the best so far, or there is none yet
abbrev pub is_less : Option (ℕ × ℕ) → ℕ → Bool
is_less None stamp = true
is_less (Some best) stamp = nat_lt stamp best.1

-- the journal at that place has a next turn, and none of another journal comes before it
pub record IsDue (journals : List Journal) (rows : List (List ℕ)) (place : ℕ) : Type 0 where
  pub stamp : ℕ
  pub is : IsBest journals rows (length journals) place stamp

-- ---- what a step is to do

-- the step gives the node the order, whatever was sent
abbrev pub IsOrderTo : NodeId → Local → Step → Type 0
IsOrderTo node order step = (sent : List Message) → deed_by sent step ≡ Gives node (input.Local order)

-- each message that a turn that was taken sent stands in this list where its row says
abbrev pub Numbers : List Journal → List (List ℕ) → List Message → Type 0
Numbers journals rows sent = (k : ℕ) (j : Journal) (row : List ℕ) (t before : ℕ) (turn : Turn) (i : ℕ) (m : Message)
    → At journals k j → At rows k row → At row t before → At (turns_of j) t turn → At (sent_by turn) i m → At sent (before + i) m

-- the message has that number, where the rows say what was sent
abbrev pub IsNumberOf : List Journal → List (List ℕ) → Message → ℕ → Type 0
IsNumberOf journals rows message number = (sent : List Message) → Numbers journals rows sent → numbered sent number ≡ Some message

-- the step is to do what the turn says, where the rows say what was sent
abbrev pub IsStepOf : List Journal → List (List ℕ) → Placed → Step → Type 0
IsStepOf journals rows placed step = (sent : List Message) → Numbers journals rows sent → deed_by sent step ≡ deed_for placed

-- the step is to do what the turn of a journal says that comes behind so many
abbrev pub IsNextStep : List Journal → List (List ℕ) → Journal → ℕ → Step → Type 0
IsNextStep journals rows j taken step = IfSome (slice_get (turns_of j) taken) (λ turn. IsStepOf journals rows (record { node = j.id; turn = turn }) step)

-- the step gives the node what came to it, where the rows say what was sent
abbrev pub IsStepForInput : List Journal → List (List ℕ) → NodeId → Arrived → Step → Type 0
IsStepForInput journals rows node arrived step = (sent : List Message) → Numbers journals rows sent → deed_by sent step ≡ Gives node (given arrived)

-- ---- which message a step names

-- the message of that name has this number, by the rows: it is so many behind what was sent before its sender's turn
abbrev pub IsNumberBy : List Journal → List (List ℕ) → Named → ℕ → Type 0
IsNumberBy journals rows named number = (k : ℕ) (j : Journal) (row : List ℕ) (t before : ℕ)
    → At journals k j → At rows k row → At row t before → j.id ≡ named.from → named.step ≡ t + 1 → number ≡ before + named.place

-- the step delivers the message of that name, by the rows
abbrev pub DeliversBy : List Journal → List (List ℕ) → Named → Step → Type 0
DeliversBy journals rows named step = (number : ℕ) × (step ≡ steps.Deliver number) × IsNumberBy journals rows named number

-- what came is an order, or the step delivers the message of its name
abbrev pub NamesInput : List Journal → List (List ℕ) → Arrived → Step → Type 0
NamesInput journals rows (arrived.Local order stamp) step = ⊤
NamesInput journals rows (arrived.Message named) step = DeliversBy journals rows named step

-- so it is with what came by the turn
abbrev pub NamesTurn : List Journal → List (List ℕ) → Turn → Step → Type 0
NamesTurn journals rows (Did item) step = NamesInput journals rows item.input step
NamesTurn journals rows (Quits stamp) step = ⊤

-- ---- what a node can be given

-- an item that was taken sent the named message, and its number is below 2^64
pub record NamedWasSent (journals : List Journal) (rows : List (List ℕ)) (named : Named) : Type 0 where
  pub place : ℕ
  pub journal : Journal
  pub row : List ℕ
  pub t : ℕ
  pub before : ℕ
  pub item : Item
  pub i : ℕ
  pub stands : At journals place journal
  pub its_name : journal.id ≡ named.from
  pub its_row : At rows place row
  pub counted : At row t before
  pub taken : At journal.items t item
  pub sent : At item.done.sent i named.message
  pub step_is : named.step ≡ t + 1
  pub place_is : named.place ≡ i + 1
  pub fits : before + named.place < 2 ^ 64

-- what came is an order, or an item that was taken sent it
abbrev pub SentBefore : List Journal → List (List ℕ) → Arrived → Type 0
SentBefore journals rows (arrived.Local order stamp) = ⊤
SentBefore journals rows (arrived.Message named) = NamedWasSent journals rows named

-- a node can be given what came to it by the turn
abbrev pub CanBeGiven : List Journal → List (List ℕ) → NodeId → Turn → Type 0
CanBeGiven journals rows node (Did item) = IsOwn node item.input × SentBefore journals rows item.input
CanBeGiven journals rows node (Quits stamp) = ⊤

-- the journal has a turn behind so many, and its node can be given what came to it then
pub record CanBeTaken (journals : List Journal) (rows : List (List ℕ)) (j : Journal) (taken : ℕ) : Type 0 where
  pub turn : Turn
  pub its_turn : At (turns_of j) taken turn
  pub given : CanBeGiven journals rows j.id turn

-- ---- how far the merge has come

-- the sum of a measure of the turns that are left
abbrev pub sum_left : (Turn → ℕ) → List Journal → List (List ℕ) → ℕ
sum_left measure (j ∷ js) (row ∷ rows) = sum_by measure (drop (length row) (turns_of j)) + sum_left measure js rows
sum_left measure _ _ = 0

-- how many turns are left
abbrev pub turns_left : List Journal → List (List ℕ) → ℕ
turns_left journals rows = sum_left (λ turn. 1) journals rows

-- the turn of a node stands behind so many of its turns, and behind turns that sent so many messages
pub record TurnIsCounted (placed : List Placed) (node : NodeId) (turn : Turn) (t before : ℕ) : Type 0 where
  pub pre : List Placed
  pub post : List Placed
  pub parts : placed ≡ pre ++ (record { node = node; turn = turn } ∷ post)
  pub its_place : length (of node pre) ≡ t
  pub its_number : length (said pre) ≡ before

-- so stands each turn that was taken, as its row says
abbrev pub Counted : List Journal → List (List ℕ) → List Placed → Type 0
Counted journals rows placed = (k : ℕ) (j : Journal) (row : List ℕ) (t before : ℕ) (turn : Turn)
    → At journals k j → At rows k row → At row t before → At (turns_of j) t turn → TurnIsCounted placed j.id turn t before

-- So far the steps are a merge of the turns that the rows count, and `next` messages were sent. Those turns precede all
-- that are left
pub record Woven (journals : List Journal) (rows : List (List ℕ)) (ss : List Step) (next : ℕ) : Type 0 where
  pub placed : List Placed
  pub known : Each (λ p. IsKnown journals p.node) placed
  pub parts : (k : ℕ) (j : Journal) (row : List ℕ) → At journals k j → At rows k row → of j.id placed ≡ take (length row) (turns_of j)
  pub legal : LegalFrom [] ss placed
  pub in_order : InOrder journals placed
  pub precede : (t : ℕ) (p : Placed) (k : ℕ) (j : Journal) (row : List ℕ) (turn : Turn)
      → At placed t p → At journals k j → At rows k row → At (turns_of j) (length row) turn → Precedes journals p (record { node = j.id; turn = turn })
  pub numbers : Numbers journals rows (said placed)
  pub counted : Counted journals rows placed
  pub names : NameTaken ss placed
  pub next_is : next ≡ length (said placed)
  pub light : next + sum_left turn_weight journals rows ≤ weight_sent journals
