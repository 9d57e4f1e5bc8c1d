use Rattle.std.proofs.Common.{◌∙◌, ◌+◌, ◌≤◌, ap, subst, sym}
use Rattle.curp_rounds.specs.Captures.{Captures}
use Rattle.curp_rounds.proofs.Waiting.{joined}
use Rattle.curp_rounds.proofs.captures.Captures.push.Goals as goal

pub invariant_of-self : goal.invariant_of-self
invariant_of-self c =
    let number = c.requires.next ∙ ap (λ (s : Captures). s.count + 1) (sym c.self.view_is) in
    let long = subst (λ (s : Captures). s.last.long ≤ c.args.capture.length) (sym c.self.view_is) c.requires.long in
    let round = subst (λ (s : Captures). s.last.round ≤ c.args.capture.round) (sym c.self.view_is) c.requires.round in
    rw (c.push_back_reserved.ensures.items, c.number-self-inside.ensures)
    (joined c.self.inside.waiting.items c.self.inside.count c.self.inside.last c.reach-self-inside.result c.args.capture c.self.invariant number long round c.reach-self-inside.ensures.long c.reach-self-inside.ensures.round)

pub returns-clause-last : goal.returns-clause-last
returns-clause-last c = λ i. record { long = c.reach-self-inside.ensures.long i; round = c.reach-self-inside.ensures.round i }
