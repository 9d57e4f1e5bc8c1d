use Rattle.std.proofs.Common.{◌∙◌, not, drop, ap, sym, subst, List}
use Rattle.std.proofs.lemmas.List.Elements.{filter_agree}
use Rattle.curp_model.specs.Master.{Captured, all_have}
use Rattle.curp_rounds.specs.Backups.{is_within}
use Rattle.curp_rounds.specs.Captures.{AreWaiting, Captures}
use Rattle.curp_rounds.proofs.Waiting.{left}
use Rattle.curp_rounds.proofs.captures.Captures.remove_ready.Goals as goal

pub invariant_of-self : goal.invariant_of-self
invariant_of-self c =
    subst (λ (cs : List Captured). AreWaiting cs c.self.inside.count c.self.inside.last) (sym c.drop_prefix.ensures)
    (left c.count_ready-ready.result c.self.inside.waiting.items c.self.inside.count c.self.inside.last c.self.invariant)

pub returns-clause-waiting : goal.returns-clause-waiting
returns-clause-waiting c =
    c.drop_prefix.ensures
    ∙ ap (λ (s : Captures). drop c.count_ready-ready.result s.waiting) c.self.view_is
    ∙ c.count_ready-ready.ensures.others
    ∙ filter_agree (λ (x : Captured). not (is_within c.reach_of_all.result x.length x.round)) (λ (x : Captured). not (all_have c.args.heard.now c.args.backups.now x.length x.round))
    (λ x i. not (sym (c.reach_of_all.ensures x.length x.round) i)) c.args.self.now.waiting
