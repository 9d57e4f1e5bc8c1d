-- A world in which an update, or a read, meets nothing.
use Rattle.std.specs.Prelude.{◌≡◌, ◌≤◌, ℕ, true, List, length, Some}
use Rattle.curp_base.specs.Words.{Each, numbered}
use Rattle.curp_cmd.specs.Hash.{hashes}
use Rattle.curp_cmd.specs.Store.{is_update}
use Rattle.curp_cmd.specs.declared.command.Command.{Command}
use Rattle.curp_cmd.specs.declared.command.Command.TheVariants.{Get}
use Rattle.curp_msg.specs.Moved.{Node}
use Rattle.curp_msg.specs.declared.script.Header.{Header}
use Rattle.curp_msg.specs.declared.script.Protocol.TheVariants.{Two}
use Rattle.curp_model.specs.Recovery.{Serving}
use Rattle.curp_model.specs.Witness.{WitnessState}
use Rattle.curp_model.specs.World.{World}
use Rattle.curp_law_steps.specs.Reading.{ReadMeetsNothing}
use Rattle.curp_law_steps.specs.Trip.{MeetsNothing, Trip}

-- those who take part are nodes of the world, in their states there
pub record TakePart (w : World) (t : Trip) : Type 0 where
  pub client : numbered w.clients t.client.number ≡ Some t.client.state
  pub master : numbered w.masters t.master.number ≡ Some (Serving t.master.state)
  pub witnesses : Each (λ (x : Node WitnessState). numbered w.witnesses x.number ≡ Some x.state) t.witnesses

-- client n of the world invokes the command, and that is this trip
pub record IsTripIn (w : World) (n : ℕ) (command : Command) (t : Trip) : Type 0 where
  pub its_client : t.client.number ≡ n
  pub its_command : t.command ≡ command
  pub stands : TakePart w t

-- the update meets nothing where client n of the world invokes it
pub record MeetsNothingIn (w : World) (n : ℕ) (command : Command) : Type 0 where
  pub trip : Trip
  pub is_trip : IsTripIn w n command trip
  pub meets_nothing : MeetsNothing trip

-- the read of the key meets nothing where client n of the world invokes it
pub record ReadMeetsNothingIn (w : World) (n : ℕ) (key : List ℕ) : Type 0 where
  pub trip : Trip
  pub is_trip : IsTripIn w n (Get key) trip
  pub meets_nothing : ReadMeetsNothing trip key

-- a client that uses the witnesses, one partition, and an update for whose hashes a set has ways enough
pub record CanBeFast (h : Header) (n : ℕ) (command : Command) : Type 0 where
  pub fast : h.fast ≡ true
  pub one_part : h.parts ≡ 1
  pub from_one : 1 ≤ n
  pub a_client : n ≤ h.clients
  pub update : is_update command ≡ true
  pub ways : length (hashes command) ≤ h.ways

-- a client of protocol 2, and some partition
pub record CanGlance (h : Header) (n : ℕ) : Type 0 where
  pub protocol : h.protocol ≡ Two
  pub some_part : 1 ≤ h.parts
  pub from_one : 1 ≤ n
  pub a_client : n ≤ h.clients
