-- The masters of the opening serve.
use Rattle.std.specs.Prelude.{◌≡◌, ◌≤◌, ℕ, Some}
use Rattle.curp_base.specs.Words.{numbered}
use Rattle.curp_model.specs.Master.{MasterState}
use Rattle.curp_model.specs.Recovery.{Serving}
use Rattle.curp_model.specs.World.{World}

-- the master that has the number of a partition serves, as it did at opening
abbrev pub OpeningServes : World → Type 0
OpeningServes w = (part : ℕ) → 1 ≤ part → part ≤ w.manager.shape.parts → (m : MasterState) × (numbered w.masters part ≡ Some (Serving m))
