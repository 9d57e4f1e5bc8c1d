use Rattle.std.proofs.Common.{ap, is_some, sym, ◌∙◌}
use Rattle.curp_slots.specs.Register.{is_held}
use Rattle.curp_slots.proofs.Registers.{held_in_index}
use Rattle.curp_slots.proofs.register.Register.holds.Goals as goal

pub returns : goal.returns
returns c =
    c.is_some.ensures
    ∙ ap is_some c.value_of.ensures.value
    ∙ sym (held_in_index c.args.id.now c.self.inside.kept.items c.self.inside.index.items c.self.invariant.places)
    ∙ ap (λ r. is_held c.args.id.now r.held) c.self.view_is
