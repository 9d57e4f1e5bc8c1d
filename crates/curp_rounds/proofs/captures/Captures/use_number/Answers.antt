use Rattle.std.proofs.Common.{◌∙◌, ◌+◌, ap, sym, arith}
use Rattle.curp_rounds.specs.Captures.{Captures}
use Rattle.curp_rounds.proofs.Waiting.{numbered_on}
use Rattle.curp_rounds.proofs.captures.Captures.use_number.Goals as goal

pub invariant_of-self : goal.invariant_of-self
invariant_of-self c =
    numbered_on c.self.inside.waiting.items c.self.inside.count c.args.number c.self.inside.last
    (omega (arith, c.requires.next ∙ ap (λ (s : Captures). s.count + 1) (sym c.self.view_is))) c.self.invariant
