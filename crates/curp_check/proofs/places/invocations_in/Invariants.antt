use Rattle.std.specs.BTreeMap.{get}
use Rattle.curp_cmd.specs.RequestId.{id_cmp}
use Rattle.curp_check.specs.Found.{FindsInvocations}
use Rattle.curp_check.proofs.places.invocations_in.Given as goal

abbrev pub invariant-loop-at : goal.invariant-loop-at
invariant-loop-at l = FindsInvocations l.at (get id_cmp l.found) l.history
