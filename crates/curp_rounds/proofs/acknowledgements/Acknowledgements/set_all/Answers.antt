use Rattle.curp_rounds.proofs.Acks.{places_set}
use Rattle.curp_rounds.proofs.acknowledgements.Acknowledgements.set_all.Goals as goal

pub invariant_of-self : goal.invariant_of-self
invariant_of-self c = rw c.set_all.ensures (places_set _ c.self.inside.each.items c.args.long c.args.round c.self.invariant)
