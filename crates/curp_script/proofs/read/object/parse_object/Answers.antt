use Rattle.std.proofs.Common.{◌∙◌, refl, sym, ap}
use Rattle.json.specs.Value.{value_view}
use Rattle.curp_script.specs.Values.{value_data}
use Rattle.curp_script.proofs.Values.{if_so, whole, object_in-text, object_in-no_text}
use Rattle.curp_script.proofs.read.object.parse_object.Goals as goal

pub returns-in_default-clause-err : goal.returns-in_default-clause-err
returns-in_default-clause-err c = (refl, object_in-no_text c.args.line.now c.in_default.ensures.cases.0)

pub returns-then-is_readable_object-clause-ok : goal.returns-then-is_readable_object-clause-ok
returns-then-is_readable_object-clause-ok c =
    let text = c.in-Ok.ensures.cases in
    object_in-text c.args.line.now (value_view c.in-Ok-parse_text.value) text.1 (ap whole (sym text.0) ∙ c.in-Ok-parse_text.ensures.ok)
    ∙ ap (λ b. if_so b (value_data c.in-Ok-parse_text.value)) (sym c.if-is_readable_object.ensures)

pub returns-clause-err : goal.returns-clause-err
returns-clause-err c =
    let text = c.in-Ok.ensures.cases in (
      refl,
      object_in-text c.args.line.now (value_view c.in-Ok-parse_text.value) text.1 (ap whole (sym text.0) ∙ c.in-Ok-parse_text.ensures.ok)
          ∙ ap (λ b. if_so b (value_data c.in-Ok-parse_text.value)) (sym c.if-is_readable_object.ensures),
    )
