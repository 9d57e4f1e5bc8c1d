use Rattle.std.proofs.Common.{◌≤◌, Option, ap, ◌∙◌}
use Rattle.std.proofs.Math.Bridge.{le_prop}
use Rattle.curp_cmd.specs.declared.migration.Package.{Package}
use Rattle.curp_model.specs.Manager.{Migration}
use Rattle.curp_changes.proofs.migration.Migration.copy.Goals as goal

pub returns : goal.returns
returns c =
    let m = c.self.inside in
    let with : Option Package → m.lo ≤ m.hi → Migration = λ (moved : Option Package) (o : m.lo ≤ m.hi). record {
      number = m.number;
      range = record { lo = m.lo; hi = m.hi; ordered = o };
      source = m.source;
      target = m.target;
      moved = moved;
    } in
    ap (with c.in_ok-moved.moved) (le_prop _ m.ordered) ∙ ap (λ (moved : Option Package). with moved m.ordered) c.in_ok-moved.ensures ∙ c.self.view_is
