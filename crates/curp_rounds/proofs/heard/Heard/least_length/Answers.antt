use Rattle.std.proofs.Common.{◌∙◌}
use Rattle.curp_rounds.proofs.Acks.{least_parts}
use Rattle.curp_rounds.proofs.heard.Heard.least_length.Goals as goal

pub returns-in-len1-up : goal.returns-in-len1-up
returns-in-len1-up c = (rw c.length_from.ensures at c.least_of.ensures) ∙ least_parts c.args.self.now c.args.backups.now _ c.in-len1-up.len_at_least
