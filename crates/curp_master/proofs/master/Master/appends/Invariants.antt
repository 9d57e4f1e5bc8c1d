use Rattle.std.proofs.Common.{◌≡◌, map, take}
use Rattle.curp_model.specs.Master.{append_to}
use Rattle.curp_rounds.specs.Phases.{phase_of}
use Rattle.curp_master.specs.Rounds.{at_round, in_phase}
use Rattle.curp_master.proofs.master.Master.appends.Given as goal

-- the backups so far get what they lack
abbrev pub invariant-loop-backup : goal.invariant-loop-backup
invariant-loop-backup l =
    l.sent.items ≡ map (append_to l.self.number (at_round (in_phase l.self (phase_of l.phase)).state l.round l.more)) (take l.backup-index l.backup-items)
