use Rattle.std.proofs.Common.{◌≡◌, ◌∙◌, Some, None, List, Option, ap, sym, slice_get}
use Rattle.std.specs.Option.{option_copied}
use Rattle.curp_base.proofs.Lists.{lent_item}
use Rattle.curp_cmd.specs.declared.command.Answer.{Answer}
use Rattle.curp_log.proofs.Keeps.{answer_kept, flat}
use Rattle.curp_log.proofs.log.Log.answer.Goals as goal

pub returns-in-Some : goal.returns-in-Some
returns-in-Some c =
    let looked = lent_item _ _ c.get.result c.get.ensures.lookup ∙ ap (λ (answers : List (Option Answer)). slice_get answers c.args.index) c.deref.ensures.value in
    let found : slice_get c.self.inside.answers.items c.args.index ≡ Some c.in-Some.answer.now = sym looked ∙ ap option_copied c.in-Some.is in
    rw (← c.self.view_is) (sym (ap flat found) ∙ answer_kept c.self.inside.lo c.self.inside.hi c.self.inside.entries.entries c.self.inside.answers.items c.args.index c.self.invariant.answers)

pub returns-in-None : goal.returns-in-None
returns-in-None c =
    let looked = lent_item _ _ c.get.result c.get.ensures.lookup ∙ ap (λ (answers : List (Option Answer)). slice_get answers c.args.index) c.deref.ensures.value in
    let found : slice_get c.self.inside.answers.items c.args.index ≡ None = sym looked ∙ ap option_copied c.in-None.is in
    rw (← c.self.view_is) (sym (ap flat found) ∙ answer_kept c.self.inside.lo c.self.inside.hi c.self.inside.entries.entries c.self.inside.answers.items c.args.index c.self.invariant.answers)
