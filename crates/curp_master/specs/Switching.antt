-- A master that takes up new lists.
use Rattle.std.specs.Prelude.{◌≡◌, ℕ, ◌==◌, if◌then◌else◌, ◌∷◌, Option, Some, None, ⊤}
use Rattle.curp_msg.specs.Moved.{Moved, Node}
use Rattle.curp_msg.specs.declared.message.Message.{Message}
use Rattle.curp_model.specs.Master.{MasterState, Phase, Open, Switching, Switch, begins_round, settle}
use Rattle.curp_rounds.specs.Backups.{stored_by_all}
use Rattle.curp_master.specs.Settling.{listing}
use Rattle.curp_master.specs.declared.switching.Settled.{Settled}

-- a message goes out before what a round sends
abbrev pub rounds_behind : ℕ → MasterState → Message → Moved MasterState
rounds_behind n m message = let round = begins_round n m in record round { messages = message ∷ round.messages }

-- the lists that it takes up as those of that version are adopted
abbrev pub next_lists : ℕ → Phase → Option Switch
next_lists version Open = None
next_lists version (Switching s) = if s.version == version then Some s else None

-- what is synced and said by these lists, if there are any
abbrev pub IsSettledNext : Node MasterState → ℕ → Option Switch → Option Settled → Type 0
IsSettledNext m version None None = ⊤
IsSettledNext m version (Some s) (Some next) =
    (next.synced ≡ stored_by_all m.state.acknowledged s.backups)
    × (next.sent.items ≡ (settle m.number (listing m.state m.state.acknowledged s.backups version)).messages)
IsSettledNext m version _ _ = ⊥

-- it serves with the lists to which it switched
abbrev pub taken_up_in : MasterState → Phase → MasterState
taken_up_in m Open = m
taken_up_in m (Switching s) = record m { version = s.version; backups = s.backups; witnesses = s.witnesses; phase = Open }

abbrev pub taken_up : MasterState → MasterState
taken_up m = taken_up_in m m.phase
