-- All that is known of a world that a script reaches.
use Rattle.curp_model.specs.World.{World}
use Rattle.curp_facts.specs.Fits.{Nodes}
use Rattle.curp_facts.specs.Growth.{Steady}
use Rattle.curp_facts.specs.Invariant.{Invariant}
use Rattle.curp_facts.specs.Names.{Names}

-- all that holds of a world that a script reaches
pub record Known (w : World) : Type 0 where
  pub names : Names w
  pub nodes : Nodes w
  pub steady : Steady w
  pub inv : Invariant w
