use Rattle.std.proofs.Common.{◌∙◌, ap}
use Rattle.curp_ruled.specs.declared.rule.Hand.{Hand}
use Rattle.curp_ruled.proofs.Keeps.{takes}
use Rattle.curp_ruled.proofs.calls.take.Goals as goal

pub recv_as-requires-clause-rule : goal.recv_as-requires-clause-rule
recv_as-requires-clause-rule g c = (takes _ _ (ap (λ (v : Hand). v.takes) c.loop.invariant.1 ∙ c.requires.takes), λ items views h at. tt)
