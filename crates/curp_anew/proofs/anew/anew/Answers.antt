use Rattle.std.proofs.Common.{rules, ◌≡◌, List, Option, IfSome, true, subst, sym}
use Rattle.std.proofs.lemmas.Option.{IfSome_then}
use Rattle.std.proofs.lemmas.Result.{IfOk-weaker}
use Rattle.curp_journal.specs.Journal.{NodeJournal}
use Rattle.curp_journal.specs.declared.item.Item.{Item}
use Rattle.curp_anew.specs.Opening.{AllOwn}
use Rattle.curp_anew.proofs.Scans.{begun_anew}
use Rattle.curp_anew.proofs.anew.anew.Goals as goal

pub returns-clause-anew : goal.returns-clause-anew
returns-clause-anew g c =
    let name : c.args.taken.id ≡ c.args.id = search rules in
    let own = subst (λ (items : List Item). AllOwn c.args.id items) c.journal.ensures.items (c.all_own.ensures.0 c.if-not-all_own.false) in
    IfOk-weaker c.begun_with.result (λ (made : Option (NodeJournal g.row.N.Denot)). IfSome made (λ log. log ≡ record c.args.taken { opening = c.args.node })) _
    (λ made is. IfSome_then made is (λ log begun. begun_anew c.args.id c.args.node c.args.taken log name own begun)) c.begun_with.ensures.begun

pub returns-then-not-all_own-clause-same : goal.returns-then-not-all_own-clause-same
returns-then-not-all_own-clause-same g c is =
    let own = subst (λ (items : List Item). AllOwn c.args.id items) (sym c.journal.ensures.items) is.own in
    let yes : c.all_own.result ≡ true = c.all_own.ensures.1 own in
    cc (yes, c.if-not-all_own.true)
