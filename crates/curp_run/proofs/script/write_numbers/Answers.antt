use Rattle.std.proofs.Common.{rules, ◌+◌, ◌-◌, ◌∙◌, refl, sym, ap}
use Rattle.curp_gen.specs.Making.{after, summary_of}
use Rattle.curp_gen.specs.Texts.{summary_text}
use Rattle.curp_run.proofs.Puts.{none_put, put_as}
use Rattle.curp_run.proofs.Steps.{after_more, counted_more, no_more}
use Rattle.curp_run.proofs.script.write_numbers.Goals as goal

pub loop-preserved : goal.loop-preserved
loop-preserved g c = record {
  counted = counted_more c.loop.maker c.next_step.new.self c.loop.counter c.args.count c.in_ok-next_step.ensures.state c.loop-test.true
      c.loop.invariant.counted.1;
  leads = ap (λ m. after (c.args.count - (c.loop.counter + 1)) m) c.in_ok-next_step.ensures.state
      ∙ (sym (after_more c.loop.maker c.loop.counter c.args.count c.loop-test.true) ∙ c.loop.invariant.leads);
}

pub returns : goal.returns
returns g c =
    let made = sym (no_more c.loop.maker c.loop.counter c.args.count (search rules)) ∙ c.loop.invariant.leads in
    let text = c.as_bytes.ensures.value ∙ (c.in_ok-text.ensures.ok ∙ ap summary_text (c.in_ok-summary.ensures ∙ ap summary_of made)) in
    put_as _ _ _ _ text c.write.ensures

pub returns-in_err-next_step : goal.returns-in_err-next_step
returns-in_err-next_step g c =
    none_put (summary_text (summary_of (after c.args.count c.args.maker.now))) _ c.from_residual.result c.from_residual.ensures.1 refl (λ told. told) refl

pub returns-in_err-summary : goal.returns-in_err-summary
returns-in_err-summary g c =
    none_put (summary_text (summary_of (after c.args.count c.args.maker.now))) _ c.from_residual-in_err-summary.result
    c.from_residual-in_err-summary.ensures.1 refl (λ told. told) refl

pub returns-in_err-text : goal.returns-in_err-text
returns-in_err-text g c =
    none_put (summary_text (summary_of (after c.args.count c.args.maker.now))) _ c.from_residual-in_err-text.result
    c.from_residual-in_err-text.ensures.1 refl (λ told. told) refl
