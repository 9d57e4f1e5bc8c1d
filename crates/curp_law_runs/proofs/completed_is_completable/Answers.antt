use Rattle.curp_law_kept.proofs.Gives.{known_all}
use Rattle.curp_law_runs.proofs.Completed.{completed_read, completed_update}
use Rattle.curp_law_runs.proofs.ByOne.{by_one_all, only_by_value}
use Rattle.curp_law_runs.proofs.completed_is_completable.Goals as goal

pub returns : goal.returns
returns c = record {
  update = λ h steps is i j id command a invoked updates done. completed_update (known_all h steps is).inv i j id command a invoked updates done;
  read = λ h steps is i j id command a invoked reads done. completed_read (known_all h steps is).inv i j id command a invoked reads done;
  value = λ h steps is one i j id command a invoked reads done. only_by_value (by_one_all h steps is one) id a (completed_read (known_all h steps is).inv i j id command a invoked reads done);
}
