use Rattle.std.proofs.Common.{take}
use Rattle.curp_base.specs.Words.{Each}
use Rattle.curp_law_print.specs.Ranges.{IsPair}
use Rattle.curp_law_print.proofs.ranges.pairs_are_in_range.Given as goal

abbrev pub invariant-loop-key : goal.invariant-loop-key
invariant-loop-key l = Each IsPair (take l.key-index l.pairs)
