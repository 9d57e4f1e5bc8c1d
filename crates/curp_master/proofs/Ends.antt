-- Moves by which no number ends.
use Rattle.std.proofs.Common.{◌≡◌, refl}
use Rattle.curp_base.proofs.Ends.{never_rises}
use Rattle.curp_model.specs.Master.{MasterState, last_round, unless_it_ends}
use Rattle.curp_msg.specs.Moved.{Moved}

-- a move by which no number rises is as it is
pub lasts : (m : MasterState) (r : Moved MasterState) → r.state.round ≡ m.round → r.state.captured ≡ m.captured → unless_it_ends m r ≡ r
lasts m r round captured =
    rw (never_rises last_round m.round r.state.round round, never_rises last_round m.captured r.state.captured captured) refl
