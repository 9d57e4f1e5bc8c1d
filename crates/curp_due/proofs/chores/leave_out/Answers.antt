use Rattle.std.proofs.Common.{ℕ, rules, tests}
use Rattle.std.specs.Prelude.{◌==◌, not}
use Rattle.std.proofs.lemmas.Fn.{filter_same}
use Rattle.curp_due.proofs.chores.leave_out.Goals as goal

pub returns : goal.returns
returns c = filter_same _ (λ (number : ℕ). not (number == c.args.one)) _ (λ x b f' k. search (rules, tests)) _ _ c.retain.ensures.filtered
