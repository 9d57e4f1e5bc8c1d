use Rattle.std.proofs.lemmas.List.{length-replicate}
use Rattle.curp_anew.proofs.Counts.{long_states}
use Rattle.curp_anew.proofs.nodes.backups.Goals as goal

pub with_fresh_backups-requires-clause-there : goal.with_fresh_backups-requires-clause-there
with_fresh_backups-requires-clause-there c =
    long_states c.in_ok-backups.backups.items _ _ c.in_ok-backups.ensures.states (length-replicate _ _)
