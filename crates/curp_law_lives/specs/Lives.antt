-- What may happen to a node and its disk: it answers batches, it crashes at any moment, and its journal is opened.
use Rattle.std.specs.Prelude.{◌≡◌, ℕ, List, [], ◌∷◌, ◌++◌, Option, Some, None}
use Rattle.curp_journal.specs.declared.arrived.Arrived.{Arrived}
use Rattle.curp_msg.specs.Moved.{Moved}
use Rattle.curp_msg.specs.Input.{Input}
use Rattle.curp_durable.specs.Journal.{HoldsJournal, IsBeforeOrAfter}
use Rattle.curp_durable.specs.Standing.{Standing, after, answers_of, begun, taken}
use Rattle.curp_durable.specs.declared.stand.Answered.{Answered}

-- what the next opening finds on the disk, where the node stands while a process runs it, and what was answered so far
pub record Life (N : Type 0) : Type 0 where
  pub content : List ℕ
  pub node : Option (Standing N)
  pub answered : List Answered

abbrev pub running : {N : Type 0} → List ℕ → Standing N → List Answered → Life N
running content stand answered = record { content = content; node = Some stand; answered = answered }

abbrev pub down : {N : Type 0} → List ℕ → List Answered → Life N
down content answered = record { content = content; node = None; answered = answered }

pub data LifeEvent : Type 0 where
  -- a batch came, and its answers went out
  Answers : List Arrived → LifeEvent
  -- a batch came, and no answer went out: a crash at some moment in the call, or an error after which the node is opened again
  CutOff : List Arrived → LifeEvent
  -- a crash between two calls
  Crash : LifeEvent
  Opening : LifeEvent

-- before the answers went out, those of the batch that the node takes came into the journal
pub record IsAnswered {N : Type 0} (machine : N → Input → Moved N) (title : List ℕ) (batch : List Arrived) (old new : Life N) : Type 0 where
  pub stand : Standing N
  pub runs : old.node ≡ Some stand
  pub held : List Arrived
  pub there : HoldsJournal old.content title held
  pub content : List ℕ
  pub kept : HoldsJournal content title (held ++ taken machine stand batch)
  pub becomes : new ≡ running content (after machine stand batch) (old.answered ++ answers_of machine stand batch)

-- all of the batch that the node takes came into the journal, or nothing of it
pub record IsCutOff {N : Type 0} (machine : N → Input → Moved N) (title : List ℕ) (batch : List Arrived) (old new : Life N) : Type 0 where
  pub stand : Standing N
  pub runs : old.node ≡ Some stand
  pub held : List Arrived
  pub there : HoldsJournal old.content title held
  pub content : List ℕ
  pub kept : IsBeforeOrAfter title held (taken machine stand batch) content
  pub becomes : new ≡ down content old.answered

-- the node gets the inputs that the journal has
pub record IsOpening {N : Type 0} (machine : N → Input → Moved N) (title : List ℕ) (opening : N) (old new : Life N) : Type 0 where
  pub is_down : old.node ≡ None
  pub held : List Arrived
  pub there : HoldsJournal old.content title held
  pub becomes : new ≡ running old.content (after machine (begun opening) held) old.answered

abbrev pub Happens : {N : Type 0} → (N → Input → Moved N) → (title : List ℕ) → (opening : N) → LifeEvent → (old new : Life N) → Type 0
Happens machine title opening (Answers batch) old new = IsAnswered machine title batch old new
Happens machine title opening (CutOff batch) old new = IsCutOff machine title batch old new
Happens machine title opening Crash old new = new ≡ down old.content old.answered
Happens machine title opening Opening old new = IsOpening machine title opening old new

-- these events happen, one after the other
abbrev pub Lead : {N : Type 0} → (N → Input → Moved N) → (title : List ℕ) → (opening : N) → List LifeEvent → (old new : Life N) → Type 0
Lead machine title opening [] old new = new ≡ old
Lead {N} machine title opening (e ∷ more) old new = (next : Life N) × Happens machine title opening e old next × Lead machine title opening more next new

-- the lives of a node over a disk with an empty journal
pub record Lives {N : Type 0} (machine : N → Input → Moved N) (title : List ℕ) (opening : N) (events : List LifeEvent) (life : Life N) : Type 0 where
  pub content : List ℕ
  pub empty : HoldsJournal content title []
  pub lead : Lead machine title opening events (down content []) life
