use Rattle.std.proofs.Common.{◌≤◌, Some, ap, ◌∙◌}
use Rattle.std.proofs.Math.Bridge.{le_prop}
use Rattle.curp_model.specs.Manager.{Migration}
use Rattle.curp_changes.proofs.migration.Migration.take.Goals as goal

pub returns : goal.returns
returns c =
    let m = c.self.inside in
    let to : m.lo ≤ m.hi → Migration = λ (o : m.lo ≤ m.hi). record {
      number = m.number;
      range = record { lo = m.lo; hi = m.hi; ordered = o };
      source = m.source;
      target = m.target;
      moved = Some c.args.carried;
    } in
    ap to (le_prop _ m.ordered) ∙ ap (λ (n : Migration). record n { moved = Some c.args.carried }) c.self.view_is
