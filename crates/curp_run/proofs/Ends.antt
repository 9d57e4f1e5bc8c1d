-- How a run that reads nothing ends.
use Rattle.std.proofs.Common.{◌≡◌, ◌∙◌, inl, inr, true, false, true≢false, sym, ap}
use Rattle.curp_runner.specs.declared.status.Status.{Status}
use Rattle.curp_runner.specs.declared.status.Status.TheVariants as status
use Rattle.curp_runner.specs.Status.{is_cut_short}
use Rattle.curp_play.specs.Show.{IsOfMaking}

pub making_never_asks : (s : Status) → IsOfMaking s → s ≡ status.Usage → ⊥
making_never_asks s (inl e) is = cc
making_never_asks s (inr (inl e)) is = cc
making_never_asks s (inr (inr e)) is = cc

pub making_never_reads : (s : Status) → IsOfMaking s → s ≡ status.ReadFault → ⊥
making_never_reads s (inl e) is = cc
making_never_reads s (inr (inl e)) is = cc
making_never_reads s (inr (inr e)) is = cc

pub making_whole : (s : Status) → IsOfMaking s → is_cut_short s ≡ false → s ≡ status.Ok
making_whole s (inl e) cut = e
making_whole s (inr (inl e)) cut = absurd (true≢false (sym (ap is_cut_short e) ∙ cut))
making_whole s (inr (inr e)) cut = absurd (true≢false (sym (ap is_cut_short e) ∙ cut))
