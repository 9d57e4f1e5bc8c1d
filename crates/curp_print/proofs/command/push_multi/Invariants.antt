use Rattle.std.proofs.Common.{◌≡◌, ◌++◌, All, map, take, flat_map}
use Rattle.serde_json.specs.View.{view}
use Rattle.curp_script.specs.Printed.{pair_data}
use Rattle.curp_print.proofs.ReadBack.{PairReads}
use Rattle.curp_print.proofs.command.push_multi.Given as goal

abbrev pub invariant-loop-key : goal.invariant-loop-key
invariant-loop-key l = record {
  written : map view l.parts.items ≡ map view l.initial.parts.items ++ flat_map pair_data (take l.key-index l.key-items);
  reads : All PairReads (take l.key-index l.key-items);
}
