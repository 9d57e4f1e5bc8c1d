use Rattle.std.proofs.Common.{take}
use Rattle.std.specs.BTreeMap.{get}
use Rattle.curp_base.specs.Words.{Each}
use Rattle.curp_cmd.specs.RequestId.{id_cmp}
use Rattle.curp_check.specs.Found.{IsFound}
use Rattle.curp_check.proofs.judge.are_placed.Given as goal

abbrev pub invariant-loop-at : goal.invariant-loop-at
invariant-loop-at l = Each (IsFound (get id_cmp l.places)) (take l.at l.history)
