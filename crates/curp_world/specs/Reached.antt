-- What a world can be.
use Rattle.std.specs.Prelude.{◌≡◌, List}
use Rattle.curp_msg.specs.Script.{IsRun}
use Rattle.curp_msg.specs.declared.script.Header.{Header}
use Rattle.curp_msg.specs.declared.script.Step.{Step}
use Rattle.curp_model.specs.World.{World, world}

-- some script leads to it
pub record Reached (w : World) : Type 0 where
  pub header : Header
  pub steps : List Step
  pub run : IsRun header steps
  pub is : world header steps ≡ w
