-- What one input does to a witness.
use Rattle.std.specs.Prelude.{◌≡◌, ◌⊎◌, ℕ, true, List, map, Some, None, ⊤}
use Rattle.std.specs.List.{IsDistinct}
use Rattle.curp_base.specs.Words.{Each}
use Rattle.curp_cmd.specs.Node.{witness_node}
use Rattle.curp_cmd.specs.declared.command.Request.{Request}
use Rattle.curp_cmd.specs.declared.node.NodeId.{NodeId}
use Rattle.curp_msg.specs.Moved.{Moved}
use Rattle.curp_msg.specs.declared.answer.GcAnswer.{GcAnswer}
use Rattle.curp_msg.specs.declared.answer.GcAnswer.TheVariants.{Suspects}
use Rattle.curp_msg.specs.declared.body.Accepted.{Accepted}
use Rattle.curp_msg.specs.declared.body.Body.{Body}
use Rattle.curp_msg.specs.declared.body.Body.TheVariants as body
use Rattle.curp_msg.specs.declared.body.Collected.{Collected}
use Rattle.curp_msg.specs.declared.body.Gc.{Gc}
use Rattle.curp_msg.specs.declared.body.Record.{Record}
use Rattle.curp_msg.specs.declared.body.Rejected.{Rejected}
use Rattle.curp_msg.specs.declared.body.Start.{Start}
use Rattle.curp_msg.specs.Input.{Input}
use Rattle.curp_msg.specs.Input as input
use Rattle.curp_msg.specs.declared.message.Message.{Message}
use Rattle.curp_model.specs.declared.Mode.TheVariants.{Idle, Normal, Frozen}
use Rattle.curp_model.specs.Laws.{clash}
use Rattle.curp_model.specs.Witness.{HeldRequest, WitnessState, frozen_requests, holds, is_live}
use Rattle.curp_facts.specs.Facts.{IsAmong}
use Rattle.curp_law_kept.specs.Brought.{Brings}
use Rattle.curp_msg.specs.declared.body.Probed.{Probed}
use Rattle.curp_msg.specs.declared.body.Probe.{Probe}

-- ---- what it holds

-- the requests that it holds
abbrev pub held_requests : WitnessState → List Request
held_requests x = map (λ (h : HeldRequest). h.request) x.held

-- no two of them have one id or conflict
abbrev pub HoldsApart : WitnessState → Type 0
HoldsApart x = IsDistinct clash (held_requests x)

-- a record of the request comes
pub record IsRecorded (given : Input) (r : Request) : Type 0 where
  pub from : NodeId
  pub recorded : Record
  pub came : Brings given from (body.Record recorded)
  pub its_request : recorded.request ≡ r

-- ---- its mode and its epoch

-- one that wasn't started is started at an epoch
pub record Starts (given : Input) (x y : WitnessState) : Type 0 where
  pub from : NodeId
  pub start : Start
  pub came : Brings given from (body.Start start)
  pub not_yet : x.mode ≡ Idle
  pub serves : y.mode ≡ Normal
  pub epoch : y.epoch ≡ Some start.epoch

-- it takes nothing more
pub record Freezes (given : Input) (x y : WitnessState) : Type 0 where
  pub from : NodeId
  pub order : ℕ
  pub came : Brings given from (body.Freeze order)
  pub stands : y.mode ≡ Frozen
  pub epoch : y.epoch ≡ x.epoch

-- it goes on as it was
pub record GoesOn (x y : WitnessState) : Type 0 where
  pub mode : y.mode ≡ x.mode
  pub epoch : y.epoch ≡ x.epoch

-- what an input leaves of its mode and its epoch
pub data WitnessLife (given : Input) (x y : WitnessState) : Type 0 where
  Stays : GoesOn x y → WitnessLife given x y
  ByStart : Starts given x y → WitnessLife given x y
  ByFreeze : Freezes given x y → WitnessLife given x y

-- ---- what it says

-- A record of that id and epoch came from the node that is answered, and it is held from then on; the witness serves, and has
-- no other epoch
pub record AcceptedSays (given : Input) (y : WitnessState) (to : NodeId) (a : Accepted) : Type 0 where
  pub recorded : Record
  pub came : Brings given to (body.Record recorded)
  pub id : a.id ≡ recorded.request.id
  pub epoch : a.epoch ≡ recorded.epoch
  pub held : holds y a.id ≡ true
  pub serves : y.mode ≡ Normal
  pub own : (e : ℕ) → y.epoch ≡ Some e → e ≡ a.epoch

-- a record of that id came from the node that is answered
pub record RejectedSays (given : Input) (to : NodeId) (r : Rejected) : Type 0 where
  pub recorded : Record
  pub came : Brings given to (body.Record recorded)
  pub id : r.id ≡ recorded.request.id

-- each suspect is held, at that epoch
pub record SuspectsSays (y : WitnessState) (epoch : ℕ) (requests : List Request) : Type 0 where
  pub held : Each (λ (r : Request). IsAmong r (held_requests y)) requests
  pub own : y.epoch ≡ Some epoch

-- by the answer
abbrev pub GcAnswerSays : WitnessState → ℕ → GcAnswer → Type 0
GcAnswerSays y epoch (Suspects requests) = SuspectsSays y epoch requests
GcAnswerSays y epoch _ = ⊤

-- a collection of that epoch came from the node that is answered
pub record CollectedSays (given : Input) (y : WitnessState) (to : NodeId) (c : Collected) : Type 0 where
  pub gc : Gc
  pub came : Brings given to (body.Gc gc)
  pub epoch : c.epoch ≡ gc.epoch
  pub answer : GcAnswerSays y c.epoch c.answer

-- a freeze came from the node that is answered, it is frozen, and these are all that it holds
pub record FrozenSays (given : Input) (y : WitnessState) (to : NodeId) (requests : List Request) : Type 0 where
  pub order : ℕ
  pub came : Brings given to (body.Freeze order)
  pub stands : y.mode ≡ Frozen
  pub all : requests ≡ frozen_requests y

-- a probe of that id and epoch came from the node that is answered; it is live where it serves at that epoch
pub record ProbedSays (given : Input) (y : WitnessState) (to : NodeId) (a : Probed) : Type 0 where
  pub probe : Probe
  pub came : Brings given to (body.Probe probe)
  pub id : a.id ≡ probe.id
  pub epoch : a.epoch ≡ probe.epoch
  pub live : a.live ≡ is_live y.mode y.epoch a.epoch

-- it answers records, collections, probes and freezes alone
abbrev pub WitnessAnswers : Input → WitnessState → NodeId → Body → Type 0
WitnessAnswers given y to (body.Accepted a) = AcceptedSays given y to a
WitnessAnswers given y to (body.Rejected r) = RejectedSays given to r
WitnessAnswers given y to (body.Collected c) = CollectedSays given y to c
WitnessAnswers given y to (body.Probed a) = ProbedSays given y to a
WitnessAnswers given y to (body.FrozenAnswer requests) = FrozenSays given y to requests
WitnessAnswers given y to _ = ⊥

-- a message of witness n
pub record WitnessSays (n : ℕ) (given : Input) (y : WitnessState) (m : Message) : Type 0 where
  pub sender : m.from ≡ witness_node n
  pub says_so : WitnessAnswers given y m.to m.body

-- what an input does to witness n. What it holds was held before, or is that of a record that comes
pub record WitnessEffect (n : ℕ) (given : Input) (x : WitnessState) (r : Moved WitnessState) : Type 0 where
  pub idle : r.completed ≡ None
  pub obeys : r.refused ≡ 0
  pub sets : r.state.sets ≡ x.sets
  pub ways : r.state.ways ≡ x.ways
  pub life : WitnessLife given x r.state
  pub held : (q : Request) → IsAmong q (held_requests r.state) → IsAmong q (held_requests x) ⊎ IsRecorded given q
  pub apart : HoldsApart x → HoldsApart r.state
  pub says : Each (WitnessSays n given r.state) r.messages

-- ---- at home

-- It has no other epoch than that of its master's lists, none before it is started, and that one while it serves; what it
-- holds was asked for, and no two of it clash
pub record WitnessAtHome (epoch : ℕ) (Asked : Request → Type 0) (x : WitnessState) : Type 0 where
  pub own : (e : ℕ) → x.epoch ≡ Some e → e ≡ epoch
  pub idle : x.mode ≡ Idle → x.epoch ≡ None
  pub started : x.mode ≡ Normal → x.epoch ≡ Some epoch
  pub asked : (q : Request) → IsAmong q (held_requests x) → Asked q
  pub apart : HoldsApart x

-- what a message to it says that leaves it at home
abbrev pub SuitsWitness : ℕ → (Request → Type 0) → Body → Type 0
SuitsWitness epoch Asked (body.Record r) = Asked r.request
SuitsWitness epoch Asked (body.Start s) = s.epoch ≡ epoch
SuitsWitness epoch Asked _ = ⊤

-- the same of an input
abbrev pub InputSuitsWitness : ℕ → (Request → Type 0) → Input → Type 0
InputSuitsWitness epoch Asked (input.Local order) = ⊤
InputSuitsWitness epoch Asked (input.Message m) = SuitsWitness epoch Asked m.body
