use Rattle.std.proofs.Common.{◌≡◌, ◌∙◌, ◌<◌, ◌^◌, length, sym, arith}
use Rattle.curp_filter.proofs.Coming.{number_arriving, number_together}
use Rattle.curp_filter.proofs.Saying.{text_said}
use Rattle.curp_filter.proofs.answering.say.Goals as goal
use Rattle.curp_told.specs.Told.{input_behind}

pub returns-clause-text : goal.returns-clause-text
returns-clause-text g c =
    let inputs = c.args.batch.arrived.items in
    let small : c.args.number < 2 ^ 64 = omega (arith, c.ranges.number.fits) in
    let added : c.saturating_add-behind.result ≡ input_behind c.args.number (length inputs) = omega (arith, c.saturating_add-behind.ensures, c.len.ensures, c.args.batch.arrived.ok.0) in
    text_said g.N.Core.machine inputs c.args.batch.last c.args.node.now.stand c.args.number c.saturating_add-behind.result c.in_ok-text_for.field-0.text.items c.deref.result.now
    (c.deref.ensures.value ∙ c.in_ok-answers.ensures.answers) c.in_ok-text_for.ensures.text (added ∙ sym (number_arriving c.args.number inputs small))

pub returns-clause-counted : goal.returns-clause-counted
returns-clause-counted g c =
    let inputs = c.args.batch.arrived.items in
    let small : c.args.number < 2 ^ 64 = omega (arith, c.ranges.number.fits) in
    let added : c.saturating_add-behind.result ≡ input_behind c.args.number (length inputs) = omega (arith, c.saturating_add-behind.ensures, c.len.ensures, c.args.batch.arrived.ok.0) in
    number_together c.args.number inputs c.args.batch.last c.saturating_add-behind.result c.in_ok-text_for.field-0.behind (added ∙ sym (number_arriving c.args.number inputs small)) c.in_ok-text_for.ensures.counted
