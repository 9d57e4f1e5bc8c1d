use Rattle.std.proofs.Common.{ap, sym, ◌∙◌}
use Rattle.std.specs.Option.{option_copied}
use Rattle.curp_model.specs.Manager.{ManagerState}
use Rattle.curp_config.proofs.Movable.{move_there}
use Rattle.curp_config.proofs.manager.Manager.movable.Goals as goal

pub returns-in-None-clause-ok : goal.returns-in-None-clause-ok
returns-in-None-clause-ok c = λ ordered.
    move_there c.args.self.now c.args.lo c.args.hi c.args.to ordered c.in-Some.owner.now c.in_ok-target.target.now
    (sym c.part.ensures.value ∙ ap option_copied c.in_ok-target.ensures.ok_part)
    (sym c.owns_range.ensures ∙ c.if-owns_range.false)
    (sym c.in-Some.ensures)
    (ap (λ (g : ManagerState). g.moving) (sym c.self.view_is) ∙ c.in-None.is)
