use Rattle.std.proofs.Common.{refl, sym, ◌∙◌, ap}
use Rattle.std.specs.Option.{option_copied}
use Rattle.curp_base.proofs.Lists.{at_within}
use Rattle.curp_order.specs.declared.Event.TheVariants.{Invoke}
use Rattle.curp_check.proofs.judge.was_invoked.Goals as goal

pub returns-in-None : goal.returns-in-None
returns-in-None c = (
  λ so. absurd cc,
  λ there.
      let e = Invoke c.args.id.now c.args.command.now in
      let found = c.requires.found.each there.0 c.args.id.now e (at_within c.args.history.now there.0 e there.1) there.1 refl in
      let none = sym (ap option_copied c.in-None.is) ∙ c.get.ensures.value in
      absurd (cc (none, found.1)),
)
