-- One round trip: the nodes that a request meets, what they say, and how the client completes it. Here of an update (after
-- CURP), and of a read in Reading.antt.
use Rattle.std.specs.Prelude.{◌≡◌, ℕ, true, false, List, [], ◌∷◌, ◌++◌, map, flat_map, Some, None, ⊤}
use Rattle.std.specs.List.{IsDistinct}
use Rattle.curp_base.specs.Words.{Each}
use Rattle.curp_cmd.specs.Store.{is_update}
use Rattle.curp_cmd.specs.declared.command.Answer.{Answer}
use Rattle.curp_cmd.specs.declared.command.Command.{Command}
use Rattle.curp_cmd.specs.declared.command.Request.{Request}
use Rattle.curp_cmd.specs.declared.node.NodeId.{NodeId}
use Rattle.curp_msg.specs.declared.body.Ask.{Ask}
use Rattle.curp_msg.specs.declared.body.Body.{Body}
use Rattle.curp_msg.specs.declared.body.Body.TheVariants as body
use Rattle.curp_msg.specs.declared.body.Record.{Record}
use Rattle.curp_msg.specs.declared.config.Config.{Config}
use Rattle.curp_msg.specs.declared.config.PartConfig.{PartConfig}
use Rattle.curp_msg.specs.declared.machine.Completed.{Completed}
use Rattle.curp_msg.specs.Input.{Input}
use Rattle.curp_msg.specs.Input as input
use Rattle.curp_msg.specs.declared.message.Message.{Message}
use Rattle.curp_model.specs.declared.Check.TheVariants.{New}
use Rattle.curp_model.specs.declared.Mode.TheVariants.{Normal}
use Rattle.curp_model.specs.Client.{ClientState, NumbersAreUsed, invoke, next_request, on_client, owner_of}
use Rattle.curp_model.specs.Log.{answer_after}
use Rattle.curp_model.specs.Master.{MasterState, is_clean, on_serving, state_of, Open}
use Rattle.curp_cmd.specs.Node.{same_node, client_node, master_node, witness_node}
use Rattle.curp_msg.specs.Moved.{Moved, Node, says, says_each}
use Rattle.curp_model.specs.Ranges.{owns_all}
use Rattle.curp_cmd.specs.Hash.{hashes}
use Rattle.curp_model.specs.Table.{check}
use Rattle.curp_model.specs.Witness.{WitnessState, on_witness}
use Rattle.curp_law_steps.specs.Holding.{HasNoConflict, HasRoomForRequest}

-- ---- who takes part

-- a client and the command that it invokes, the partition that it goes to, and the partition's master and witnesses with
-- the states in which the messages meet them
pub record Trip : Type 0 where
  pub client : Node ClientState
  pub command : Command
  pub part : PartConfig
  pub master : Node MasterState
  pub witnesses : List (Node WitnessState)

-- the client's request
abbrev pub request : Trip → Request
request t = next_request t.client.number t.client.state t.command

-- the client invokes the command
abbrev pub invoked : Trip → Moved ClientState
invoked t = invoke t.client.number t.client.state t.command

-- the name of the client
abbrev pub client_of : Trip → NodeId
client_of t = client_node t.client.number

-- ---- what is asked

-- what is asked of the master
abbrev pub ask_of : Trip → Ask
ask_of t = record { request = request t; epoch = t.part.epoch; version = t.part.version }

-- what a Record asks of a witness
abbrev pub record_of : Trip → Record
record_of t = record { request = request t; epoch = t.part.epoch }

-- a message to the master, and one to each witness
abbrev pub sent_out : Trip → (to_master to_witness : Body) → List Message
sent_out t to_master to_witness =
    says (client_of t) t.part.master to_master ∷ says_each (client_of t) t.part.witnesses to_witness

-- the Update to the master, and a Record to each witness
abbrev pub sendings : Trip → List Message
sendings t = sent_out t (body.Update (ask_of t)) (body.Record (record_of t))

-- ---- what is answered

-- what the master sends when that comes to it
abbrev pub master_sends : Trip → Body → List Message
master_sends t asked = (on_serving t.master.number t.master.state (client_of t) asked).messages

-- what a witness sends when that comes to it
abbrev pub witness_sends : Trip → Body → Node WitnessState → List Message
witness_sends t asked w = (on_witness w.number w.state (client_of t) asked).messages

-- all that these deliveries send
abbrev pub answers_to : Trip → (to_master to_witness : Body) → List Message
answers_to t to_master to_witness = master_sends t to_master ++ flat_map (witness_sends t to_witness) t.witnesses

-- the master says this to the client
abbrev pub from_the_master : Trip → Body → Message
from_the_master t said = says (master_node t.master.number) (client_of t) said

-- a witness says this to the client
abbrev pub from_a_witness : Trip → Body → Node WitnessState → Message
from_a_witness t said w = says (witness_node w.number) (client_of t) said

-- what the master sends when the Update comes to it
abbrev pub from_master : Trip → List Message
from_master t = master_sends t (body.Update (ask_of t))

-- what a witness sends when the Record comes to it
abbrev pub from_witness : Trip → Node WitnessState → List Message
from_witness t = witness_sends t (body.Record (record_of t))

-- all that the Update and the Records bring
abbrev pub answers : Trip → List Message
answers t = answers_to t (body.Update (ask_of t)) (body.Record (record_of t))

-- the answer of the Op at the end of the master's log
abbrev pub answer_of : Trip → Answer
answer_of t = answer_after t.master.state.lo t.master.state.hi t.master.state.log t.command

-- the master's unsynced reply
abbrev pub reply_of : Trip → Message
reply_of t = from_the_master t (body.Reply (record {
  id = (request t).id;
  synced = false;
  epoch = t.part.epoch;
  version = t.part.version;
  answer = answer_of t;
}))

-- a witness's accept
abbrev pub accept_of : Trip → Node WitnessState → Message
accept_of t = from_a_witness t (body.Accepted (record { id = (request t).id; epoch = t.part.epoch }))

-- the request completes with the master's answer
abbrev pub completion_of : Trip → Completed
completion_of t = record { id = (request t).id; answer = answer_of t; by = None }

-- ---- the premises

-- the witnesses of each partition are different nodes
abbrev pub WitnessesAreApart : Config → Type 0
WitnessesAreApart config = Each (λ (p : PartConfig). IsDistinct same_node p.witnesses) config.parts

-- so they are in a configuration that the message brings
abbrev pub BringsApart : Body → Type 0
BringsApart (body.Configuration config) = WitnessesAreApart config
BringsApart _ = ⊤

-- orders bring none
abbrev pub GivesApart : Input → Type 0
GivesApart (input.Message m) = BringsApart m.body
GivesApart (input.Local order) = ⊤

-- the invocation isn't refused, and goes to those who take part, of whom the witnesses are different
pub record Reaches (t : Trip) : Type 0 where
  pub not_refused : (invoked t).refused ≡ 0
  pub numbers : NumbersAreUsed t.client.state
  pub owner : owner_of t.client.state.config t.command ≡ Some t.part
  pub its_master : t.part.master ≡ master_node t.master.number
  pub its_witnesses : t.part.witnesses ≡ map (λ (w : Node WitnessState). witness_node w.number) t.witnesses
  pub apart : IsDistinct same_node t.part.witnesses

-- the master serves the partition as the client knows it, owns what the request touches, and has no entry that touches it
-- and isn't synced
pub record MasterServes (part : PartConfig) (r : Request) (m : MasterState) : Type 0 where
  pub serves : m.phase ≡ Open
  pub epoch : m.epoch ≡ part.epoch
  pub version : m.version ≡ part.version
  pub owns : owns_all (state_of m).owned (hashes r.command) ≡ true
  pub untouched : is_clean m r.command ≡ true

-- and finds the request new
pub record MasterIsFree (part : PartConfig) (r : Request) (m : MasterState) : Type 0 where
  pub serving : MasterServes part r m
  pub is_new : check (state_of m).table r.id ≡ New

-- the witness takes requests of the partition's epoch
pub record WitnessIsLive (part : PartConfig) (w : WitnessState) : Type 0 where
  pub mode : w.mode ≡ Normal
  pub epoch : w.epoch ≡ Some part.epoch

-- it holds nothing that conflicts, too, and has room
pub record WitnessIsFree (part : PartConfig) (r : Request) (w : WitnessState) : Type 0 where
  pub live : WitnessIsLive part w
  pub no_conflict : HasNoConflict w r
  pub room : HasRoomForRequest w r

-- the update meets nothing that is in its way
pub record MeetsNothing (t : Trip) : Type 0 where
  pub fast : t.client.state.fast ≡ true
  pub update : is_update t.command ≡ true
  pub reaches : Reaches t
  pub master : MasterIsFree t.part (request t) t.master.state
  pub witnesses : Each (λ (w : Node WitnessState). WitnessIsFree t.part (request t) w.state) t.witnesses

-- ---- the conclusion

-- the messages come to the client one by one, in that order: the last one completes this, none before it completes
-- anything, and the client sends nothing
abbrev pub CompletesAtLast : ℕ → ClientState → List Message → Completed → Type 0
CompletesAtLast n c [] done = ⊥
CompletesAtLast n c (m ∷ []) done =
    let moved = on_client n c m.from m.body in
    (moved.completed ≡ Some done) × (moved.messages ≡ [])
CompletesAtLast n c (m ∷ next ∷ rest) done =
    let moved = on_client n c m.from m.body in
    (moved.completed ≡ None) × (moved.messages ≡ []) × CompletesAtLast n moved.state (next ∷ rest) done

-- they come, and nothing completes
abbrev pub CompletesNothing : ℕ → ClientState → List Message → Type 0
CompletesNothing n c [] = ⊤
CompletesNothing n c (m ∷ rest) =
    let moved = on_client n c m.from m.body in
    (moved.completed ≡ None) × (moved.messages ≡ []) × CompletesNothing n moved.state rest
