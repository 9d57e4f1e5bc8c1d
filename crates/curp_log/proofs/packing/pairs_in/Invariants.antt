use Rattle.std.proofs.Common.{◌≡◌, take}
use Rattle.std.specs.List.{filter}
use Rattle.curp_model.specs.Log.{is_pair_in}
use Rattle.curp_log.proofs.packing.pairs_in.Given as goal

-- the pairs so far that lie in the range
abbrev pub invariant-loop-key : goal.invariant-loop-key
invariant-loop-key l = l.kept.items ≡ filter (is_pair_in l.lo l.hi) (take l.key-index l.pairs)
