-- One round trip of a read, in protocol 2: the same nodes as those of an update's, and what they say of a read.
use Rattle.std.specs.Prelude.{◌≡◌, ◌<◌, ℕ, ◌+◌, true, List, Some, None}
use Rattle.std.specs.FinMap as store
use Rattle.curp_base.specs.Words.{Each}
use Rattle.curp_cmd.specs.Node.{master_node}
use Rattle.curp_cmd.specs.declared.command.Answer.{Answer}
use Rattle.curp_cmd.specs.declared.command.Answer.TheVariants.{Found}
use Rattle.curp_cmd.specs.declared.command.Command.TheVariants.{Get}
use Rattle.curp_cmd.specs.declared.command.Request.{Request}
use Rattle.curp_msg.specs.Moved.{Node}
use Rattle.curp_msg.specs.declared.body.Body.TheVariants as body
use Rattle.curp_msg.specs.declared.body.Probe.{Probe}
use Rattle.curp_msg.specs.declared.config.PartConfig.{PartConfig}
use Rattle.curp_msg.specs.declared.machine.Completed.{Completed}
use Rattle.curp_msg.specs.declared.message.Message.{Message}
use Rattle.curp_msg.specs.declared.script.Protocol.TheVariants.{Two}
use Rattle.curp_model.specs.Master.{MasterState, by_read_check, last_round, state_of}
use Rattle.curp_model.specs.Table.{check}
use Rattle.curp_model.specs.Witness.{WitnessState}
use Rattle.curp_law_steps.specs.Trip.{MasterServes, Reaches, Trip, WitnessIsLive}
use Rattle.curp_law_steps.specs.Trip.{answers_to, ask_of, from_a_witness, from_the_master}
use Rattle.curp_law_steps.specs.Trip.{master_sends, request, sent_out, witness_sends}

-- ---- what is asked

-- what a Probe asks of a witness
abbrev pub probe_of : Trip → Probe
probe_of t = record { id = (request t).id; epoch = t.part.epoch }

-- the Glance to the master, and a Probe to each witness
abbrev pub read_sendings : Trip → List Message
read_sendings t = sent_out t (body.Glance (ask_of t)) (body.Probe (probe_of t))

-- ---- what is answered

-- what the master sends when the Glance comes to it
abbrev pub from_glanced : Trip → List Message
from_glanced t = master_sends t (body.Glance (ask_of t))

-- what a witness sends when the Probe comes to it
abbrev pub from_probed : Trip → Node WitnessState → List Message
from_probed t = witness_sends t (body.Probe (probe_of t))

-- all that the Glance and the Probes bring
abbrev pub read_answers : Trip → List Message
read_answers t = answers_to t (body.Glance (ask_of t)) (body.Probe (probe_of t))

-- what the master's log has at the key
abbrev pub value_at : Trip → (key : List ℕ) → Answer
value_at t key = Found (store.get (state_of t.master.state).store key)

-- the number that the master gives to the read
abbrev pub capture_of : Trip → ℕ
capture_of t = t.master.state.captured + 1

-- the master's answer at once
abbrev pub quick_of : Trip → (key : List ℕ) → Message
quick_of t key = from_the_master t (body.Quick (record {
  id = (request t).id;
  epoch = t.part.epoch;
  version = t.part.version;
  capture = capture_of t;
  answer = value_at t key;
}))

-- a witness still serves
abbrev pub live_of : Trip → Node WitnessState → Message
live_of t = from_a_witness t (body.Probed (record { id = (request t).id; epoch = t.part.epoch; live = true }))

-- the request completes with the master's value, by the master's capture
abbrev pub read_completion_of : Trip → (key : List ℕ) → Completed
read_completion_of t key = record {
  id = (request t).id;
  answer = value_at t key;
  by = Some (record { master = master_node t.master.number; epoch = t.part.epoch; number = capture_of t });
}

-- ---- the premises

-- the master serves, finds the request neither expired nor stale, and has a capture number left
pub record MasterIsClear (part : PartConfig) (r : Request) (m : MasterState) : Type 0 where
  pub serving : MasterServes part r m
  pub asks : by_read_check (check (state_of m).table r.id) ≡ None
  pub numbers : m.captured < last_round

-- the read of that key meets nothing that is in its way
pub record ReadMeetsNothing (t : Trip) (key : List ℕ) : Type 0 where
  pub protocol : t.client.state.protocol ≡ Two
  pub get : t.command ≡ Get key
  pub reaches : Reaches t
  pub master : MasterIsClear t.part (request t) t.master.state
  pub witnesses : Each (λ (w : Node WitnessState). WitnessIsLive t.part w.state) t.witnesses
