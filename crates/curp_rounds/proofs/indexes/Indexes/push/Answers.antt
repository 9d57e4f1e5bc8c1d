use Rattle.std.proofs.Common.{ap}
use Rattle.curp_rounds.specs.Indexes.{IndexList}
use Rattle.curp_rounds.proofs.Places.{rise_push}
use Rattle.curp_rounds.proofs.indexes.Indexes.push.Goals as goal

pub invariant_of-self : goal.invariant_of-self
invariant_of-self c =
    rw c.push.ensures.items (rise_push c.self.inside.numbers.items c.args.index c.self.invariant (rw (ap (λ (i : IndexList). i.numbers) c.self.view_is) c.requires.last))
