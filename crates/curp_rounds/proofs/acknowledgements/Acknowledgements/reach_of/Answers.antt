use Rattle.std.proofs.Common.{◌∙◌, List, get_or, ap, sym}
use Rattle.curp_model.specs.Master.{Acknowledged}
use Rattle.curp_rounds.proofs.Acks.{from_first, from_none}
use Rattle.curp_rounds.proofs.acknowledgements.Acknowledgements.reach_of.Goals as goal

pub returns-in-Some-clause-long : goal.returns-in-Some-clause-long
returns-in-Some-clause-long c =
    c.reach.ensures.long
    ∙ ap (λ (a : Acknowledged). a.length)
    (c.index.ensures
    ∙ ap (λ (all : List Acknowledged). get_or all c.in-Some.at c.index.result.now) c.self.view_is
    ∙ sym (from_first c.args.self.now c.args.backup.now c.in-Some.at c.index.result.now c.in-Some.ensures.first))

pub returns-in-Some-clause-round : goal.returns-in-Some-clause-round
returns-in-Some-clause-round c =
    c.reach.ensures.round
    ∙ ap (λ (a : Acknowledged). a.round)
    (c.index.ensures
    ∙ ap (λ (all : List Acknowledged). get_or all c.in-Some.at c.index.result.now) c.self.view_is
    ∙ sym (from_first c.args.self.now c.args.backup.now c.in-Some.at c.index.result.now c.in-Some.ensures.first))

pub returns-in-None-clause-long : goal.returns-in-None-clause-long
returns-in-None-clause-long c = sym (ap (λ (a : Acknowledged). a.length) (from_none c.args.self.now c.args.backup.now c.in-None.ensures.none))

pub returns-in-None-clause-round : goal.returns-in-None-clause-round
returns-in-None-clause-round c = sym (ap (λ (a : Acknowledged). a.round) (from_none c.args.self.now c.args.backup.now c.in-None.ensures.none))
