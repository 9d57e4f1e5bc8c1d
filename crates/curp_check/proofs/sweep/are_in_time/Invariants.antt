use Rattle.std.specs.BTreeMap.{get}
use Rattle.curp_cmd.specs.RequestId.{id_cmp}
use Rattle.curp_check.proofs.Sweeps.{IsLatest}
use Rattle.curp_check.specs.Found.{AreInTime}
use Rattle.curp_check.proofs.sweep.are_in_time.Given as goal

abbrev pub invariant-loop-at : goal.invariant-loop-at
invariant-loop-at l = record {
  latest : IsLatest l.at (get id_cmp l.places) l.history l.latest;
  in_time : AreInTime l.at (get id_cmp l.places) l.history;
}
