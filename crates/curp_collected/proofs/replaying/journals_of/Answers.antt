use Rattle.std.proofs.Common.{rules, ◌≡◌, ◌∙◌, ◌∷◌, [], ◌++◌, length, option_to_list, ap, sym, refl, subst}
use Rattle.std.proofs.lemmas.Iterator.Adapters.{YieldsList-from_vec}
use Rattle.std.proofs.lemmas.Iterator.Consumers.{YieldsList-turn}
use Rattle.std.proofs.lemmas.List.{append-nil}
use Rattle.std.proofs.lemmas.Option.{slice_get_read}
use Rattle.std.proofs.lemmas.Result.{err_from_is_err_and}
use Rattle.curp_base.specs.Words.{At}
use Rattle.curp_base.specs.Failing.{IfBecause}
use Rattle.curp_collected.specs.Causes.{OneFails}
use Rattle.curp_collected.specs.Files.{contents_of}
use Rattle.curp_collected.specs.Kinds.{HasLog, HaveLogs}
use Rattle.curp_collected.proofs.Failing.{IfBecause-weaker}
use Rattle.curp_collected.proofs.Logs.{logs_push}
use Rattle.curp_collected.proofs.replaying.journals_of.Goals as goal

pub returns-in_err-log-clause-cause : goal.returns-in_err-log-clause-cause
returns-in_err-log-clause-cause g c =
    let begun = c.args.begun.items in
    let b = c.in-Some.beginning in
    let from = c.into_iter-beginning-iterator.ensures.into_iter_gives in
    let long : c.into_iter-beginning-iterator.result.rest.len ≡ length begun = search rules in
    let done = c.loop-beginning.yielded in
    let turn = YieldsList-turn (YieldsList-from_vec begun from.0 long) done c.loop-beginning.beginning-iterator c.loop-beginning.yielded_by c.next.result c.next.new.self b c.in-Some.is c.next.ensures.steps in
    let at : At begun (length done) b = slice_get_read begun (length begun) (length done) b refl turn.0 turn.1 in
    let files = c.args.files.now in
    let fails : IfBecause (OneFails g.N.Core.machine (contents_of files.each.items) files.header begun) c.in_err-log.field-0.0 =
    IfBecause-weaker c.in_err-log.field-0.0 _ _ (λ why its. record { place = length done; b = b; stands = at; fails = its }) c.in_err-log.ensures.cause in
    let given = err_from_is_err_and c.from_residual-in_err-log.result c.from_residual-in_err-log.ensures.1 in
    rw (given.1, given.2) fails

pub loop-beginning-preserved-in-Some-2 : goal.loop-beginning-preserved-in-Some-2
loop-beginning-preserved-in-Some-2 g c =
    let files = c.args.files.now in
    let contents = contents_of files.each.items in
    let done = c.loop-beginning.yielded in
    let b = c.in-Some.beginning in
    let logs = c.loop-beginning.logs.items in
    let has : HasLog g.N.Core.machine contents files.until files.header b (c.in-Some-2.log ∷ []) =
    subst (λ one. HasLog g.N.Core.machine contents files.until files.header b (option_to_list one)) c.in-Some-2.is c.in_ok-log.ensures.log in
    let pushed : c.push_reserved.new.self.items ≡ logs ++ c.in-Some-2.log ∷ [] = c.push_reserved.ensures.items ∙ ap (λ l. l ++ c.in-Some-2.log ∷ []) c.in_ok-reserve.ensures.items in
    subst (HaveLogs g.N.Core.machine contents files.until files.header (done ++ b ∷ [])) (sym pushed)
    (logs_push g.N.Core.machine contents files.until files.header done logs b (c.in-Some-2.log ∷ []) c.loop-beginning.invariant has)

pub loop-beginning-preserved : goal.loop-beginning-preserved
loop-beginning-preserved g c =
    let files = c.args.files.now in
    let contents = contents_of files.each.items in
    let done = c.loop-beginning.yielded in
    let b = c.in-Some.beginning in
    let logs = c.loop-beginning.logs.items in
    let has : HasLog g.N.Core.machine contents files.until files.header b [] =
    subst (λ one. HasLog g.N.Core.machine contents files.until files.header b (option_to_list one)) c.in_default.is c.in_ok-log.ensures.log in
    let same : c.reserve.new.self.items ≡ logs ++ [] = c.in_ok-reserve.ensures.items ∙ sym (append-nil logs) in
    subst (HaveLogs g.N.Core.machine contents files.until files.header (done ++ b ∷ [])) (sym same)
    (logs_push g.N.Core.machine contents files.until files.header done logs b [] c.loop-beginning.invariant has)
