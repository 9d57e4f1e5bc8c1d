use Rattle.std.proofs.Common.{◌∙◌, ap}
use Rattle.curp_ruled.specs.Ends.{Posted}
use Rattle.curp_ruled.proofs.Keeps.{leaves}
use Rattle.curp_ruled.proofs.closing.leave.Goals as goal

pub absorb-requires-clause-rule : goal.absorb-requires-clause-rule
absorb-requires-clause-rule c =
    leaves _ _ _ _ c.requires.takes c.post.invariant.1 (c.post.invariant.2 ∙ ap (λ (x : Posted). x.number) c.post.view_is ∙ c.requires.next)
