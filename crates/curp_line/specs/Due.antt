-- What is due to be marked of a master's input, and of an adopted recovery: what comes at most, and what is marked then.
use Rattle.std.specs.Prelude.{◌≡◌, ℕ, ◌+◌, ◌-◌, ◌≤◌, ◌<◌, ◌^◌, ◌==◌, ◌&&◌, ◌||◌, ◌⊎◌, Bool, false, nat_lt, drop, length, map, if◌then◌else◌, List, [], ◌∷◌, ◌++◌, Option, Some, None, is_some, ⊤}
use Rattle.curp_base.specs.Words.{Each, numbered}
use Rattle.curp_cmd.specs.declared.command.Command.{Command}
use Rattle.curp_cmd.specs.declared.command.Request.{Request}
use Rattle.curp_cmd.specs.declared.command.RequestId.{RequestId}
use Rattle.curp_cmd.specs.declared.node.NodeId.{NodeId}
use Rattle.curp_cmd.specs.declared.node.NodeKind.{NodeKind}
use Rattle.curp_cmd.specs.declared.node.NodeKind.TheVariants as kind
use Rattle.curp_model.specs.Manager.{Attempted}
use Rattle.curp_model.specs.Marks as mark
use Rattle.curp_model.specs.Marks.{Mark}
use Rattle.curp_model.specs.Master.{Captured, MasterState}
use Rattle.curp_model.specs.Recovery.{MasterStage, Recovering, Replayed, Serving}
use Rattle.curp_model.specs.World.{capture_mark, new_captures, op_marks, op_requests, quick_mark, replayed_in}
use Rattle.curp_msg.specs.declared.answer.GcAnswer.{GcAnswer}
use Rattle.curp_msg.specs.declared.answer.GcAnswer.TheVariants.{Suspects}
use Rattle.curp_msg.specs.declared.body.Body.{Body}
use Rattle.curp_msg.specs.declared.body.Body.TheVariants as body
use Rattle.curp_msg.specs.Input.{Input}
use Rattle.curp_msg.specs.Input as input
use Rattle.curp_line.specs.declared.former.Former.{Former}

-- ---- how many come

-- so many entries at most are pushed for suspects
abbrev pub most_suspects : GcAnswer → ℕ
most_suspects (Suspects requests) = length requests
most_suspects _ = 0

-- so many marks at most come of a message to a master: of what it pushes, or of a read
abbrev pub most_by_message : Body → ℕ
most_by_message (body.Update ask) = 1
most_by_message (body.Sync ask) = 1
most_by_message (body.Read ask) = 1
most_by_message (body.Glance ask) = 1
most_by_message (body.Collected c) = most_suspects c.answer
most_by_message (body.TakeOut t) = 1
most_by_message (body.GiveIn g) = 1
most_by_message (body.ExpireClient client) = 1
most_by_message _ = 0

-- and of an input
abbrev pub most_marks : Input → ℕ
most_marks (input.Message m) = most_by_message m.body
most_marks (input.Local order) = 0

-- what a mark tells of an Op's request
abbrev pub told_op : Request → RequestId × Command
told_op request = (request.id, request.command)

-- ---- a master before and after

-- the master of that kind and number, if it is one
abbrev pub master_at : NodeKind → ℕ → List MasterStage → Option MasterStage
master_at kind.Master n masters = numbered masters n
master_at _ n masters = None

-- one read more was captured, and a round began
pub record CapturesOne (before after : MasterState) : Type 0 where
  pub capture : Captured
  pub captures : after.captures ≡ before.captures ++ capture ∷ []
  pub number : capture.number ≡ before.captured + 1
  pub captured : after.captured ≡ before.captured + 1
  pub round : after.round ≡ before.round + 1

-- No more than so many entries and reads are new. No number of a capture is new, or one is, of a read that was answered at
-- once or that waits
pub record IsFew (before after : MasterState) (most : ℕ) : Type 0 where
  pub few : (length after.log - length before.log) + (after.captured - before.captured) ≤ most
  pub captures : (after.captured ≡ before.captured) ⊎ ((after.captures ≡ before.captures) ⊎ CapturesOne before after)

-- the same of a master that served before: it serves still
abbrev pub IsFewOf : Option MasterStage → Option MasterStage → ℕ → Type 0
IsFewOf (Some (Serving before)) after most = (m : MasterState) × (after ≡ Some (Serving m)) × IsFew before m most
IsFewOf _ after most = ⊤

-- ---- what is due before the node gets its input

-- nothing, what a master does from then on, or what an adopted recovery has replayed
pub data DueMarks : Type 0 where
  Nothing : DueMarks
  Since : (former : Former) → DueMarks
  Adopts : (master : NodeId) (part epoch cut : ℕ) (replayed : List Request) → DueMarks

-- the read that a message asks for an answer at once
abbrev pub glanced_in : Body → Option Request
glanced_in (body.Glance ask) = Some ask.request
glanced_in _ = None

-- and an input
abbrev pub glanced : Input → Option Request
glanced (input.Message m) = glanced_in m.body
glanced (input.Local order) = None

-- a master that serves, as it is
abbrev pub former : Bool → Option Request → MasterState → Former
former adopted read m = record { adopted = adopted; length = length m.log; captured = m.captured; round = m.round; glanced = read }

-- of a master that serves
abbrev pub due_of_master : Bool → Option Request → Option MasterStage → DueMarks
due_of_master adopted read (Some (Serving m)) = Since (former adopted read m)
due_of_master adopted read _ = Nothing

-- of one that is adopted, or that is asked to answer at once
abbrev pub due_if : Bool → Option Request → Option MasterStage → DueMarks
due_if adopted read stage = if adopted || is_some read then due_of_master adopted read stage else Nothing

-- of a recovery that is adopted
abbrev pub due_of_replay : Attempted → Option Replayed → DueMarks
due_of_replay a None = Nothing
due_of_replay a (Some r) = Adopts a.master a.order.part a.order.epoch r.cut (op_requests (drop r.cut r.log))

-- by the master that recovers
abbrev pub due_of_recovery : Attempted → Option MasterStage → DueMarks
due_of_recovery a (Some (Recovering s)) = due_of_replay a (replayed_in s.phase)
due_of_recovery a _ = Nothing

-- of an adoption, if there is one
abbrev pub due_of_adoption : List MasterStage → Option Attempted → DueMarks
due_of_adoption masters None = Nothing
due_of_adoption masters (Some a) = due_of_recovery a (numbered masters a.master.number)

-- ---- what is marked then

-- what a master has pushed and captured since
abbrev pub marks_behind : NodeId → Former → MasterState → List Mark
marks_behind node f m =
    op_marks node m.part m.epoch f.length (drop f.length m.log)
    ++ map (capture_mark node m.part m.epoch) (new_captures f.captured m.captures)

-- a read was captured since, and no round began
abbrev pub has_answered : Former → MasterState → Bool
has_answered f m = nat_lt f.captured m.captured && (m.round == f.round)

-- the read that was answered at once since
abbrev pub answered : Former → MasterState → Option Request
answered f m = if has_answered f m then f.glanced else None

-- with its mark
abbrev pub with_answered : NodeId → MasterState → Option Request → List Mark → List Mark
with_answered node m None marks = marks
with_answered node m (Some r) marks = mark.with_quick (quick_mark node m r) marks

-- with what a master that serves has done since
abbrev pub marks_of_serving : NodeId → Former → MasterState → List Mark → List Mark
marks_of_serving node f m marks = with_answered node m (answered f m) (if f.adopted then marks ++ marks_behind node f m else marks)

-- whatever it is
abbrev pub marks_since : NodeId → Former → Option MasterStage → List Mark → List Mark
marks_since node f (Some (Serving m)) marks = marks_of_serving node f m marks
marks_since node f _ marks = marks

-- the marks once the node got its input, by what was due and the masters then
abbrev pub marks_by : DueMarks → NodeId → List MasterStage → List Mark → List Mark
marks_by Nothing to after marks = marks
marks_by (Since f) to after marks = marks_since to f (numbered after to.number) marks
marks_by (Adopts master part epoch cut replayed) to after marks = mark.adopted master part epoch cut replayed marks

-- ---- room

-- so many marks come at most
abbrev pub most_due : DueMarks → ℕ → ℕ
most_due Nothing most = 0
most_due (Since f) most = most
most_due (Adopts master part epoch cut replayed) most = 1 + length replayed

-- the reads that waited before have no larger numbers, and the indexes of replayed requests fit
abbrev pub IsSound : DueMarks → Option MasterStage → Type 0
IsSound (Since f) (Some (Serving m)) = Each (λ (c : Captured). c.number ≤ f.captured) m.captures
IsSound (Adopts master part epoch cut replayed) stage = cut + length replayed < 2 ^ 64
IsSound _ stage = ⊤

-- ---- behind

-- at most one read waits that was captured behind a number, and it is the last one
abbrev pub IsLastNew : ℕ → MasterState → Type 0
IsLastNew captured m = (older : List Captured) × (capture : Captured) × (m.captures ≡ older ++ capture ∷ [])
    × (Each (λ (c : Captured). c.number ≤ captured) older) × (captured < capture.number)

-- the reads that wait were all captured before, or the last one is new, and a round began
abbrev pub IsLastNewIfAny : Former → MasterState → Type 0
IsLastNewIfAny f m = Each (λ (c : Captured). c.number ≤ f.captured) m.captures
    ⊎ ((f.captured < m.captured) × (f.round < m.round) × IsLastNew f.captured m)

-- what a master has done since has room
pub record HasRoomSince (f : Former) (m : MasterState) (spare : ℕ) : Type 0 where
  pub room : (length m.log - f.length) + (m.captured - f.captured) ≤ spare
  pub captures : (m.captured ≡ f.captured) ⊎ IsLastNewIfAny f m

-- a read was captured behind a number
abbrev pub is_captured_behind : ℕ → Option Captured → Bool
is_captured_behind captured None = false
is_captured_behind captured (Some c) = nat_lt captured c.number

-- what is due has room, and is sound
abbrev pub HasRoomFor : DueMarks → Option MasterStage → ℕ → Type 0
HasRoomFor Nothing after spare = ⊤
HasRoomFor (Since f) (Some (Serving m)) spare = HasRoomSince f m spare
HasRoomFor (Since f) _ spare = ⊤
HasRoomFor (Adopts master part epoch cut replayed) after spare = (1 + length replayed ≤ spare) × (cut + length replayed < 2 ^ 64)
