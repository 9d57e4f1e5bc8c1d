use Rattle.std.proofs.Common.{rules, ◌≡◌, Some, sym, ◌∙◌, ap, subst}
use Rattle.std.proofs.lemmas.Option.{slice_get-get_or}
use Rattle.curp_base.specs.Words.{At}
use Rattle.curp_base.specs.declared.failed.Failed.TheVariants as failed
use Rattle.curp_base.proofs.Lists.{at_map, at_same, at_within}
use Rattle.curp_durable.specs.Journal.{IsDamaged, IsNotFormatted}
use Rattle.curp_durable.specs.Opening.{OpensNot}
use Rattle.curp_durable.specs.declared.error.OpenError.{OpenError}
use Rattle.curp_durable.specs.declared.error.OpenError.TheVariants as opened
use Rattle.curp_collected.specs.Files.{HasTitle}
use Rattle.curp_collected.specs.declared.files.File.{File}
use Rattle.curp_collected.proofs.Finding.{has_title, title_for}
use Rattle.curp_collected.proofs.replaying.inputs_of.Goals as goal

pub returns-in-Err-Because-Damaged-clause-cause : goal.returns-in-Err-Because-Damaged-clause-cause
returns-in-Err-Because-Damaged-clause-cause c =
    let files = c.args.files.now.each.items in
    let one = c.index.result.now in
    let its = c.requires.file in
    let here : At files c.args.file one = slice_get-get_or files c.args.file one (at_within files c.args.file its.one its.stands) ∙ ap Some (sym c.index.ensures) in
    let damaged : IsDamaged one.content.now c.title_of-title.result c.in-Err-Because-Damaged.place =
    subst (OpensNot one.content.now c.title_of-title.result) (c.in-Err-Because-Damaged.field-0-is ∙ ap (λ (e : OpenError). failed.Because e) c.in-Err-Because-Damaged.field-0-0-is) c.in-Err-Because-Damaged.ensures.err in
    record {
      content = one.content.now;
      title = title_for c.args.files.now.header c.args.id;
      stands = at_map (λ (f : File). f.content.now) files c.args.file one here;
      damaged = subst (λ title. IsDamaged one.content.now title c.in-Err-Because-Damaged.place) c.title_of-title.ensures damaged;
    }

pub returns-in-Err-Because-NotFormatted-clause-cause : goal.returns-in-Err-Because-NotFormatted-clause-cause
returns-in-Err-Because-NotFormatted-clause-cause c =
    let all = c.args.files.now in
    let files = all.each.items in
    let one = c.index.result.now in
    let its = c.requires.file in
    let here : At files c.args.file one = slice_get-get_or files c.args.file one (at_within files c.args.file its.one its.stands) ∙ ap Some (sym c.index.ensures) in
    let same : its.one ≡ one = at_same files c.args.file its.one one its.stands here in
    let titled : HasTitle one.content.now (title_for all.header c.args.id) =
    subst (λ (f : File). HasTitle f.content.now (title_for all.header c.args.id)) same (has_title all c.requires.files c.args.id c.args.file its) in
    let which : c.in-Err-Because-NotFormatted.field-0 ≡ failed.Because opened.NotFormatted = search rules in
    let not_formatted : IsNotFormatted one.content.now c.title_of-title.result =
    subst (OpensNot one.content.now c.title_of-title.result) which c.in-Err-Because-NotFormatted.ensures.err in
    let none = subst (λ title. IsNotFormatted one.content.now title) c.title_of-title.ensures not_formatted in
    none titled.starts.byte titled.starts.rest titled.starts.is
