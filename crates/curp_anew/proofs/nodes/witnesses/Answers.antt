use Rattle.std.proofs.lemmas.List.{length-replicate}
use Rattle.curp_anew.proofs.Counts.{long_states}
use Rattle.curp_anew.proofs.nodes.witnesses.Goals as goal

pub with_fresh_witnesses-requires-clause-there : goal.with_fresh_witnesses-requires-clause-there
with_fresh_witnesses-requires-clause-there c =
    long_states c.in_ok-witnesses.witnesses.items _ _ c.in_ok-witnesses.ensures.states (length-replicate _ _)
