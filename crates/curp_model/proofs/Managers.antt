-- Lemmas on the manager's numbers.
use Rattle.std.proofs.Common.{◌≡◌, false, refl}
use Rattle.curp_base.proofs.Ends.{never_rises}
use Rattle.curp_model.specs.Manager.{Next, counter_ends, last_number}

pub counters_stay : (n : Next) → counter_ends n n ≡ false
counters_stay n = rw (
  never_rises last_number n.epoch n.epoch refl,
  never_rises last_number n.version n.version refl,
  never_rises last_number n.master n.master refl,
  never_rises last_number n.backup n.backup refl,
  never_rises last_number n.witness n.witness refl,
  never_rises last_number n.migration n.migration refl,
) refl
