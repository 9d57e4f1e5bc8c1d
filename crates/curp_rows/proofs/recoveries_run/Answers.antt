use Rattle.std.proofs.Common.{refl}
use Rattle.curp_rows.specs.AppendBelowTheFence.{append_below_the_fence}
use Rattle.curp_rows.specs.LateReplyOfASupersededMaster.{late_reply_of_a_superseded_master}
use Rattle.curp_rows.specs.RecoveryReplays.{recovery_replays}
use Rattle.curp_rows.specs.ReplayKeepsAnAcknowledgedRequest.{replay_keeps_an_acknowledged_request}
use Rattle.curp_rows.specs.RetryAfterRecovery.{retry_after_recovery}
use Rattle.curp_rows.proofs.Computed.{everything, by_computing}
use Rattle.curp_rows.proofs.recoveries_run.Goals as goal

pub returns : goal.returns
unfolding everything
returns c = record {
  recovery_replays = by_computing recovery_replays refl;
  retry_after_recovery = by_computing retry_after_recovery refl;
  late_reply_of_a_superseded_master = by_computing late_reply_of_a_superseded_master refl;
  replay_keeps_an_acknowledged_request = by_computing replay_keeps_an_acknowledged_request refl;
  append_below_the_fence = by_computing append_below_the_fence refl;
}
