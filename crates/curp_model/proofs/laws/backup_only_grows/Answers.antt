use Rattle.curp_model.proofs.Backups.{log, fence_stays, installed, fenced, taken}
use Rattle.curp_model.proofs.laws.backup_only_grows.Goals as goal

pub returns : goal.returns
returns c = record { log = log; fence = fence_stays; installed = installed; fenced = fenced; taken = taken }
