-- What is marked of an input is what was due before, and has room.
use Rattle.std.proofs.Common.{◌≡◌, ◌⊎◌, inl, inr, ℕ, ◌≤◌, ◌==◌, ◌&&◌, Bool, true, false, if◌then◌else◌, nat_lt, fold, List, [], ◌∷◌, ◌++◌, Option, Some, None, append-nil, arith, refl, sym}
use Rattle.curp_base.specs.Words.{Each, numbered}
use Rattle.curp_cmd.specs.declared.command.Request.{Request}
use Rattle.curp_cmd.specs.declared.node.NodeId.{NodeId}
use Rattle.curp_model.specs.Manager.{Attempted}
use Rattle.curp_model.specs.Marks.{Mark, with_quick}
use Rattle.curp_model.specs.Master.{Captured, MasterState}
use Rattle.curp_model.specs.Recovery.{Fresh, MasterStage, Recovering, Replayed, Serving}
use Rattle.curp_model.specs.World.{glance_in, marks_adopted, marks_after, master_marks, quick_mark, replayed_in, with_adoption, with_glance}
use Rattle.curp_msg.specs.declared.body.Body.{Body}
use Rattle.curp_msg.specs.declared.body.Body.TheVariants as body
use Rattle.curp_msg.specs.Input.{Input}
use Rattle.curp_msg.specs.Input as input
use Rattle.curp_line.specs.Due.{CapturesOne, HasRoomFor, HasRoomSince, IsFew, IsFewOf, IsLastNewIfAny, IsSound, Nothing, answered, due_if, due_of_adoption, due_of_master, due_of_recovery, due_of_replay, former, glanced, glanced_in, has_answered, marks_behind, marks_by, marks_since, most_due, with_answered}

-- of an adoption
pub adopted_marks : (masters : List MasterStage) (to : NodeId) (after : List MasterStage) (marks : List Mark) (o : Option Attempted)
    → with_adoption masters o marks ≡ marks_by (due_of_adoption masters o) to after marks
adopted_marks masters to after marks None = refl
adopted_marks masters to after marks (Some a) = recovered (numbered masters a.master.number)
  where
    replayed : (r : Option Replayed) → marks_after a r marks ≡ marks_by (due_of_replay a r) to after marks
    replayed None = refl
    replayed (Some r) = refl

    recovered : (stage : Option MasterStage) → marks_adopted a stage marks ≡ marks_by (due_of_recovery a stage) to after marks
    recovered None = refl
    recovered (Some Fresh) = refl
    recovered (Some (Recovering s)) = replayed (replayed_in s.phase)
    recovered (Some (Serving m)) = refl

-- ---- what a master has done

same_either_way : (b : Bool) (marks : List Mark) → (if b then marks ++ [] else marks) ≡ marks
same_either_way true marks = append-nil marks
same_either_way false marks = refl

module _ (node : NodeId) (adopted : Bool) (m m' : MasterState) (marks : List Mark) where
  -- a read is marked where it was answered at once
  if_answered : (answers : Bool) (r : Request)
      → fold (λ ms r. with_quick (quick_mark node m' r) ms) marks (if answers then r ∷ [] else []) ≡ with_answered node m' (if answers then Some r else None) marks
  if_answered true r = refl
  if_answered false r = refl

  no_glance : (answers : Bool) → marks ≡ with_answered node m' (if answers then None else None) marks
  no_glance true = refl
  no_glance false = refl

  glance_marked : (b : Body)
      → fold (λ ms r. with_quick (quick_mark node m' r) ms) marks (glance_in b m m') ≡ with_answered node m' (answered (former adopted (glanced_in b) m) m') marks
  glance_marked (body.Glance ask) = if_answered (nat_lt m.captured m'.captured && (m'.round == m.round)) ask.request
  glance_marked _ = no_glance (nat_lt m.captured m'.captured && (m'.round == m.round))

  input_marked : (given : Input) → with_glance node given (Serving m) (Serving m') marks ≡ with_answered node m' (answered (former adopted (glanced given) m) m') marks
  input_marked (input.Message x) = glance_marked x.body
  input_marked (input.Local order) = no_glance (nat_lt m.captured m'.captured && (m'.round == m.round))

module _ (node : NodeId) (adopted : Bool) (masters : List MasterStage) (marks : List Mark) where
  -- what a master leaves to be marked is what it has done since
  pub left_since : (given : Input) (before after : MasterStage) → numbered masters node.number ≡ Some after
      → with_glance node given before after (if adopted then marks ++ master_marks node before after else marks)
      ≡ marks_by (due_of_master adopted (glanced given) (Some before)) node masters marks
  left_since (input.Message x) Fresh after there = same_either_way adopted marks
  left_since (input.Local order) Fresh after there = same_either_way adopted marks
  left_since (input.Message x) (Recovering s) after there = same_either_way adopted marks
  left_since (input.Local order) (Recovering s) after there = same_either_way adopted marks
  left_since given (Serving m) after there = rw there (served given after)
    where
      served : (given : Input) (after : MasterStage)
          → with_glance node given (Serving m) after (if adopted then marks ++ master_marks node (Serving m) after else marks)
          ≡ marks_since node (former adopted (glanced given) m) (Some after) marks
      served given (Serving m') =
          input_marked node adopted m m' (if adopted then marks ++ marks_behind node (former adopted (glanced given) m) m' else marks) given
      served (input.Message x) Fresh = same_either_way adopted marks
      served (input.Local order) Fresh = same_either_way adopted marks
      served (input.Message x) (Recovering s) = same_either_way adopted marks
      served (input.Local order) (Recovering s) = same_either_way adopted marks

-- one that isn't adopted, and isn't asked to answer at once, leaves nothing
nothing_due : (node : NodeId) (masters : List MasterStage) (marks : List Mark) (o : Option MasterStage)
    → marks ≡ marks_by (due_of_master false None o) node masters marks
nothing_due node masters marks None = refl
nothing_due node masters marks (Some Fresh) = refl
nothing_due node masters marks (Some (Recovering s)) = refl
nothing_due node masters marks (Some (Serving m)) = since (numbered masters node.number)
  where
    since : (o : Option MasterStage) → marks ≡ marks_since node (former false None m) o marks
    since None = refl
    since (Some Fresh) = refl
    since (Some (Recovering s)) = refl
    since (Some (Serving m')) = no_glance node false m m' marks (has_answered (former false None m) m')

pub if_due : (node : NodeId) (adopted : Bool) (read : Option Request) (masters : List MasterStage) (marks : List Mark) (o : Option MasterStage)
    → marks_by (due_of_master adopted read o) node masters marks ≡ marks_by (due_if adopted read o) node masters marks
if_due node true read masters marks o = refl
if_due node false (Some r) masters marks o = refl
if_due node false None masters marks o = sym (nothing_due node masters marks o)

-- ---- room

-- a master that serves on has room for what is new
goes_on : (adopted : Bool) (read : Option Request) (m m' : MasterState) (most spare : ℕ) → IsFew m m' most
    → Each (λ (c : Captured). c.number ≤ m.captured) m.captures → most ≤ spare → HasRoomSince (former adopted read m) m' spare
goes_on adopted read m m' most spare few old room = record { room = omega (arith, few.few, room); captures = go few.captures }
  where
    go : (m'.captured ≡ m.captured) ⊎ ((m'.captures ≡ m.captures) ⊎ CapturesOne m m')
        → (m'.captured ≡ m.captured) ⊎ IsLastNewIfAny (former adopted read m) m'
    go (inl same) = inl same
    go (inr (inl same)) = inr (inl (rw same old))
    go (inr (inr one)) = inr (inr (
      omega (arith, one.captured),
      omega (arith, one.round),
      (m.captures, one.capture, one.captures, old, omega (arith, one.number)),
    ))

behind : (adopted : Bool) (read : Option Request) (o o' : Option MasterStage) (most spare : ℕ) → IsFewOf o o' most
    → IsSound (due_of_master adopted read o) o → most_due (due_of_master adopted read o) most ≤ spare
    → HasRoomFor (due_of_master adopted read o) o' spare
behind adopted read None o' most spare few sound room = tt
behind adopted read (Some Fresh) o' most spare few sound room = tt
behind adopted read (Some (Recovering s)) o' most spare few sound room = tt
behind adopted read (Some (Serving m)) o' most spare few sound room =
    rw few.1 (goes_on adopted read m few.0 most spare few.2 sound room)

pub master_room : (c adopted : Bool) (read : Option Request) (o o' : Option MasterStage) (most spare : ℕ) → IsFewOf o o' most
    → IsSound (if c then due_of_master adopted read o else Nothing) o
    → most_due (if c then due_of_master adopted read o else Nothing) most ≤ spare
    → HasRoomFor (if c then due_of_master adopted read o else Nothing) o' spare
master_room true adopted read o o' most spare few sound room = behind adopted read o o' most spare few sound room
master_room false adopted read o o' most spare few sound room = tt

pub manager_room : (masters : List MasterStage) (o : Option Attempted) (o' : Option MasterStage) (most spare : ℕ) → IsSound (due_of_adoption masters o) None
    → most_due (due_of_adoption masters o) most ≤ spare → HasRoomFor (due_of_adoption masters o) o' spare
manager_room masters None o' most spare sound room = tt
manager_room masters (Some a) o' most spare sound room = recovered (numbered masters a.master.number) sound room
  where
    replayed : (r : Option Replayed) → IsSound (due_of_replay a r) None → most_due (due_of_replay a r) most ≤ spare → HasRoomFor (due_of_replay a r) o' spare
    replayed None sound room = tt
    replayed (Some r) sound room = (room, sound)

    recovered : (stage : Option MasterStage) → IsSound (due_of_recovery a stage) None → most_due (due_of_recovery a stage) most ≤ spare → HasRoomFor (due_of_recovery a stage) o' spare
    recovered None sound room = tt
    recovered (Some Fresh) sound room = tt
    recovered (Some (Recovering s)) sound room = replayed (replayed_in s.phase) sound room
    recovered (Some (Serving m)) sound room = tt
