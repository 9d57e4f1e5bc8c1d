use Rattle.std.proofs.Common.{subst}
use Rattle.curp_facts.specs.Kept.{Kept}
use Rattle.curp_world.proofs.world.World.keeps.Goals as goal

pub returns : goal.returns
returns c =
    let r = c.self.invariant in
    subst Kept c.self.view_is (subst Kept r.is (c.kept_stands.ensures.kept r.header r.steps r.run))
