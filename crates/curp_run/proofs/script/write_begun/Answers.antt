use Rattle.std.proofs.Common.{◌∙◌, refl, subst, ap}
use Rattle.std.proofs.lemmas.Result.{on_ok_weaker}
use Rattle.curp_gen.specs.Making.{made_steps, steps_from}
use Rattle.curp_gen.specs.Texts.{script_text}
use Rattle.curp_words.specs.Plan.{header_of}
use Rattle.curp_script.specs.Texts.{header_line, lines_text}
use Rattle.curp_io.specs.Streams.{HoldsPart}
use Rattle.curp_runner.proofs.Pieces.{first_of_two}
use Rattle.curp_run.proofs.Puts.{both_put, none_put, put_as, put_in_part}
use Rattle.curp_run.proofs.Steps.{made_is_read, printed_header}
use Rattle.curp_run.proofs.script.write_begun.Goals as goal

pub returns-in_err-header-clause-puts : goal.returns-in_err-header-clause-puts
returns-in_err-header-clause-puts g c = none_put (script_text c.args.plan.now) _ c.from_residual.result c.from_residual.ensures.1 refl (λ told. told) refl

pub returns-in_err-write_line-clause-puts : goal.returns-in_err-write_line-clause-puts
returns-in_err-write_line-clause-puts g c =
    let old = g.K.Sink.held c.args.sink.now in
    let new = g.K.Sink.held c.write_line.new.sink in
    let header = c.header.ensures.header ∙ ap (λ m. header_of m.plan) c.requires.begun in
    let line = printed_header c.header.result (header_of c.args.plan.now) c.in_ok-header.header.items c.in_ok-header.ensures.text header in
    put_in_part (script_text c.args.plan.now) _ _ c.from_residual-in_err-write_line.result c.write_line.result c.in_err-write_line.field-0.0 c.in_err-write_line.was
    c.from_residual-in_err-write_line.ensures.1
    (λ tells. first_of_two old new (header_line (header_of c.args.plan.now)) (lines_text (made_steps c.args.plan.now))
    (subst (λ l. HoldsPart old new l) line (c.write_line.ensures.prefix tells)))
    c.write_line.ensures

pub returns-clause-puts : goal.returns-clause-puts
returns-clause-puts g c =
    let K = g.K.Sink in
    let first = header_line (header_of c.args.plan.now) in
    let header = c.header.ensures.header ∙ ap (λ m. header_of m.plan) c.requires.begun in
    let line = printed_header c.header.result (header_of c.args.plan.now) c.in_ok-header.header.items c.in_ok-header.ensures.text header in
    let steps = ap (λ m. lines_text (steps_from c.args.plan.now.steps m)) c.requires.begun in
    both_put K.tells K.held K.flushed K.faults c.args.sink.now c.write_line.new.sink c.write_steps.new.sink first (lines_text (made_steps c.args.plan.now)) _ c.write_steps.result
    (put_as _ _ _ _ line c.in_ok-write_line.ensures) (put_as _ _ _ _ steps c.write_steps.ensures.puts)

pub returns-clause-reads : goal.returns-clause-reads
returns-clause-reads g c =
    on_ok_weaker c.write_steps.result (made_is_read c.args.plan.now c.args.maker.now c.header.result c.requires.begun c.requires.in_range
    c.header.ensures.header c.header.ensures.in_range c.printed_scripts_are_read.ensures) c.write_steps.ensures.printable
