use Rattle.std.specs.BTreeMap.{get}
use Rattle.curp_cmd.specs.RequestId.{id_cmp}
use Rattle.curp_check.specs.Found.{FindsPlaces}
use Rattle.curp_check.proofs.places.places_in.Given as goal

abbrev pub invariant-loop-at : goal.invariant-loop-at
invariant-loop-at l = FindsPlaces l.at (get id_cmp l.places) l.order
