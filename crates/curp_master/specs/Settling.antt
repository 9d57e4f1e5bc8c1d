-- What a master settles by: what its backups have acknowledged, and the lists.
use Rattle.std.specs.Prelude.{ℕ, List}
use Rattle.curp_cmd.specs.declared.node.NodeId.{NodeId}
use Rattle.curp_model.specs.Master.{Acknowledged, MasterState, Phase, Open, Switching, prepares}
use Rattle.curp_msg.specs.Moved.{Moved, quiet}
use Rattle.curp_rounds.specs.Backups.{raised_by}

-- a backup has acknowledged so much more
abbrev pub acknowledging : MasterState → Acknowledged → MasterState
acknowledging m more = record m { acknowledged = raised_by m.acknowledged more }

-- its backups have acknowledged so much, and the list has these backups, at that version
abbrev pub listing : MasterState → List Acknowledged → List NodeId → ℕ → MasterState
listing m all backups version = record m { acknowledged = all; backups = backups; version = version }

-- while it switches it looks whether the next list has the log
abbrev pub prepares_in : ℕ → MasterState → Phase → Moved MasterState
prepares_in n m Open = quiet m
prepares_in n m (Switching s) = prepares n m s
