use Rattle.std.proofs.Common.{refl}
use Rattle.curp_rows.specs.ExpiredClient.{expired_client}
use Rattle.curp_rows.specs.NineInvocations.{nine_invocations}
use Rattle.curp_rows.specs.NoMessage.{no_message}
use Rattle.curp_rows.specs.NoNode.{no_node}
use Rattle.curp_rows.specs.RetryOfNothing.{retry_of_nothing}
use Rattle.curp_rows.specs.StopTheManager.{stop_the_manager}
use Rattle.curp_rows.specs.StoppedNode.{stopped_node}
use Rattle.curp_rows.proofs.Computed.{everything, by_computing}
use Rattle.curp_rows.proofs.refusals_run.Goals as goal

pub returns : goal.returns
unfolding everything
returns c = record {
  no_message = by_computing no_message refl;
  stop_the_manager = by_computing stop_the_manager refl;
  no_node = by_computing no_node refl;
  stopped_node = by_computing stopped_node refl;
  nine_invocations = by_computing nine_invocations refl;
  retry_of_nothing = by_computing retry_of_nothing refl;
  expired_client = by_computing expired_client refl;
}
