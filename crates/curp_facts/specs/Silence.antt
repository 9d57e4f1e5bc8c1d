-- What masters keep to themselves while they switch to new lists.
use Rattle.std.specs.Prelude.{◌≡◌, ◌≤◌, ℕ, length, drop, Some}
use Rattle.curp_base.specs.Words.{At, Each, numbered}
use Rattle.curp_cmd.specs.Node.{master_node}
use Rattle.curp_msg.specs.declared.message.Message.{Message}
use Rattle.curp_model.specs.Master.{MasterState, Switch, Switching}
use Rattle.curp_model.specs.Recovery.{Serving}
use Rattle.curp_model.specs.World.{World, messages}
use Rattle.curp_facts.specs.Facts.{IsOnlyExpire}
use Rattle.curp_facts.specs.Growth.{IsSilent}

-- a master switches to new lists in both worlds
pub record SwitchesOn (w v : World) (n : ℕ) : Type 0 where
  pub before : MasterState
  pub was : numbered w.masters n ≡ Some (Serving before)
  pub old : Switch
  pub switched : before.phase ≡ Switching old
  pub after : MasterState
  pub is : numbered v.masters n ≡ Some (Serving after)
  pub new : Switch
  pub switches : after.phase ≡ Switching new

-- Where a step finds a master switching and leaves it so, the master has pushed nothing but expiries, and has sent no reply,
-- value, Taken, Given or Gc
pub record IsSilentIn (w v : World) : Type 0 where
  pub pushes : (n : ℕ) (s : SwitchesOn w v n) → Each IsOnlyExpire (drop (length s.before.log) s.after.log)
  pub sends : (n : ℕ) → SwitchesOn w v n → (place : ℕ) (m : Message) → length (messages w) ≤ place → At (messages v) place m → m.from ≡ master_node n → IsSilent m.body
