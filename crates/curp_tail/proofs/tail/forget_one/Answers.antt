use Rattle.std.proofs.Common.{◌∙◌, sym, nat_eq}
use Rattle.std.specs.HashMap.{get}
use Rattle.curp_tail.proofs.Kept.{forgotten_here, forgotten_not}
use Rattle.curp_tail.proofs.tail.forget_one.Goals as goal

pub returns-then-is_last : goal.returns-then-is_last
returns-then-is_last c = λ other. c.remove.ensures.updates.0 other ∙ forgotten_here c.args.hash other c.args.index (get nat_eq c.args.lasts.now) (sym c.is_last.ensures ∙ c.if-is_last.true)

pub returns-else-is_last : goal.returns-else-is_last
returns-else-is_last c = λ other. forgotten_not c.args.hash other c.args.index (get nat_eq c.args.lasts.now) (sym c.is_last.ensures ∙ c.if-is_last.false)
