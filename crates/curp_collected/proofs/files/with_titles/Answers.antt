use Rattle.std.proofs.Common.{rules, ◌≡◌, Some, length, sym, ◌∙◌, ap, subst}
use Rattle.std.proofs.lemmas.Option.{slice_get-get_or}
use Rattle.curp_base.specs.Words.{At}
use Rattle.curp_collected.specs.Causes.{IsNoJournal}
use Rattle.curp_collected.specs.Files.{HasNoTitle}
use Rattle.curp_collected.proofs.Reading.{bytes_of, no_journal}
use Rattle.curp_collected.proofs.files.with_titles.Goals as goal

pub returns-in-None-clause-cause : goal.returns-in-None-clause-cause
returns-in-None-clause-cause c =
    let contents = c.args.contents.now in
    let k = c.loop-content.content-index in
    let one = c.content-item.result in
    let here : At contents k one = slice_get-get_or contents k one c.loop-content-test.true ∙ ap Some (sym c.content-item.is) in
    let none : HasNoTitle one.items = subst HasNoTitle c.deref.ensures.value c.in-None.ensures.none in
    let many : length c.loop-content.files.items ≡ c.len.result = search rules in
    subst (λ n. IsNoJournal (bytes_of contents) n) many (no_journal contents c.loop-content.files.items k one c.loop-content.invariant.contents here none)
