-- Rounds that begin.
use Rattle.std.specs.Prelude.{◌≡◌, ℕ, ◌+◌, ◌-◌, List, ◌++◌, drop, Option, Some, None}
use Rattle.curp_cmd.specs.declared.entry.Entry.{Entry}
use Rattle.curp_cmd.specs.Node.{master_node}
use Rattle.curp_cmd.specs.declared.node.NodeId.{NodeId}
use Rattle.curp_model.specs.Master.{MasterState, Phase, appends, from_backup, last_round}
use Rattle.curp_msg.specs.Moved.{Node, says}
use Rattle.curp_msg.specs.declared.body.Body.TheVariants as body
use Rattle.curp_msg.specs.declared.message.Message.{Message}
use Rattle.curp_master.specs.declared.round.Round.{Round}

-- the master in a phase
abbrev pub in_phase : Node MasterState → Phase → Node MasterState
in_phase m phase = record m { state = record m.state { phase = phase } }

-- the master at a round, with these entries behind its log
abbrev pub at_round : MasterState → ℕ → List Entry → MasterState
at_round m round more = record m { log = m.log ++ more; round = round }

-- a backup gets what it lacks, of what stands behind a length that all of them have
abbrev pub append_from : ℕ → MasterState → ℕ → ℕ → List Entry → NodeId → Message
append_from n m round stored lacking b =
    let base = (from_backup m.acknowledged b).length in
    says (master_node n) b (body.Append (record { epoch = m.epoch; base = base; round = round; entries = drop (base - stored) lacking }))

-- the next number, and what that round sends with these entries behind the log
pub record IsRound (m : Node MasterState) (more : List Entry) (r : Round) : Type 0 where
  pub next : r.number ≡ m.state.round + 1
  pub sends : r.appends.items ≡ appends m.number (at_round m.state (m.state.round + 1) more)

-- the next round; there is none behind the last number
abbrev pub IsNextRound : Node MasterState → List Entry → Option Round → Type 0
IsNextRound m more (Some r) = IsRound m more r
IsNextRound m more None = m.state.round ≡ last_round
