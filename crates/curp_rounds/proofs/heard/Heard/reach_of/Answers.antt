use Rattle.std.proofs.Common.{◌∙◌, max, Option, List, ap, sym}
use Rattle.curp_model.specs.Master.{Acknowledged, from_backup}
use Rattle.curp_rounds.specs.Backups.{heard_with}
use Rattle.curp_rounds.proofs.Acks.{raised_its, raised_not}
use Rattle.curp_rounds.proofs.heard.Heard.reach_of.Goals as goal

pub returns-in_default-clause-long : goal.returns-in_default-clause-long
returns-in_default-clause-long c =
    c.reach_of-kept.ensures.long
    ∙ ap (λ (more : Option Acknowledged). (from_backup (heard_with c.self.inside.all.now more) c.args.backup.now).length) (sym c.in_default.is)
    ∙ ap (λ (all : List Acknowledged). (from_backup all c.args.backup.now).length) c.self.view_is

pub returns-in_default-clause-round : goal.returns-in_default-clause-round
returns-in_default-clause-round c =
    c.reach_of-kept.ensures.round
    ∙ ap (λ (more : Option Acknowledged). (from_backup (heard_with c.self.inside.all.now more) c.args.backup.now).round) (sym c.in_default.is)
    ∙ ap (λ (all : List Acknowledged). (from_backup all c.args.backup.now).round) c.self.view_is

pub returns-then-is_from-clause-long : goal.returns-then-is_from-clause-long
returns-then-is_from-clause-long c =
    let own = raised_its c.self.inside.all.now c.in-Some.more c.args.backup.now (sym c.is_from.ensures ∙ c.if-is_from.true) in
    c.max.ensures.long
    ∙ (λ i. max (c.reach_of-kept.ensures.long i) (c.reach.ensures.long i))
    ∙ sym own.0
    ∙ ap (λ (more : Option Acknowledged). (from_backup (heard_with c.self.inside.all.now more) c.args.backup.now).length) (sym c.in-Some.is)
    ∙ ap (λ (all : List Acknowledged). (from_backup all c.args.backup.now).length) c.self.view_is

pub returns-then-is_from-clause-round : goal.returns-then-is_from-clause-round
returns-then-is_from-clause-round c =
    let own = raised_its c.self.inside.all.now c.in-Some.more c.args.backup.now (sym c.is_from.ensures ∙ c.if-is_from.true) in
    c.max.ensures.round
    ∙ (λ i. max (c.reach_of-kept.ensures.round i) (c.reach.ensures.round i))
    ∙ sym own.1
    ∙ ap (λ (more : Option Acknowledged). (from_backup (heard_with c.self.inside.all.now more) c.args.backup.now).round) (sym c.in-Some.is)
    ∙ ap (λ (all : List Acknowledged). (from_backup all c.args.backup.now).round) c.self.view_is

pub returns-else-is_from-clause-long : goal.returns-else-is_from-clause-long
returns-else-is_from-clause-long c =
    c.reach_of-kept.ensures.long
    ∙ ap (λ (a : Acknowledged). a.length) (sym (raised_not c.self.inside.all.now c.in-Some.more c.args.backup.now (sym c.is_from.ensures ∙ c.if-is_from.false)))
    ∙ ap (λ (more : Option Acknowledged). (from_backup (heard_with c.self.inside.all.now more) c.args.backup.now).length) (sym c.in-Some.is)
    ∙ ap (λ (all : List Acknowledged). (from_backup all c.args.backup.now).length) c.self.view_is

pub returns-else-is_from-clause-round : goal.returns-else-is_from-clause-round
returns-else-is_from-clause-round c =
    c.reach_of-kept.ensures.round
    ∙ ap (λ (a : Acknowledged). a.round) (sym (raised_not c.self.inside.all.now c.in-Some.more c.args.backup.now (sym c.is_from.ensures ∙ c.if-is_from.false)))
    ∙ ap (λ (more : Option Acknowledged). (from_backup (heard_with c.self.inside.all.now more) c.args.backup.now).round) (sym c.in-Some.is)
    ∙ ap (λ (all : List Acknowledged). (from_backup all c.args.backup.now).round) c.self.view_is
