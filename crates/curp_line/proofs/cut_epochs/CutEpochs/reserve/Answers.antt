use Rattle.std.proofs.Common.{refl}
use Rattle.curp_line.proofs.Ranks.{ranked_same}
use Rattle.curp_line.proofs.cut_epochs.CutEpochs.reserve.Goals as goal

pub invariant_of-self : goal.invariant_of-self
invariant_of-self c = rw c.reserve.ensures.items c.self.invariant

pub invariant_of-self-in_err-reserve-2 : goal.invariant_of-self-in_err-reserve-2
invariant_of-self-in_err-reserve-2 c =
    rw c.reserve.ensures.items (ranked_same _ _ _ _ _ (λ part. refl) c.reserve-2.ensures.found c.self.invariant)

pub invariant_of-self-2 : goal.invariant_of-self-2
invariant_of-self-2 c =
    rw c.reserve.ensures.items (ranked_same _ _ _ _ _ c.reserve-3.ensures.found c.reserve-2.ensures.found c.self.invariant)
