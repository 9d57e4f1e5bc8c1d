use Rattle.std.proofs.Common.{◌≡◌, ◌≤◌, length, map, vec_len}
use Rattle.serde_json.specs.View.{view, members_view}
use Rattle.curp_script.specs.Printed.{with_values}
use Rattle.curp_print.proofs.Objects.{onto}
use Rattle.curp_print.proofs.line.object.Given as goal

abbrev pub invariant-values : goal.invariant-values
invariant-values l = record {
  fits : vec_len l.values ≤ length l.names;
  left : with_values l.names (map view l.fn.values.items) ≡ onto l.names (map view l.values.items) (members_view l.members.entries);
}

abbrev pub decreases-values : goal.decreases-values
decreases-values l = vec_len l.values
