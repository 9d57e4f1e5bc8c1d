use Rattle.std.proofs.Common.{◌≡◌, ◌≤◌, ◌∙◌, Some, sym, ap, subst, false}
use Rattle.std.proofs.lemmas.Result.{IfOk-weaker}
use Rattle.serde_json.specs.Data.{Data, depth}
use Rattle.serde_json.specs.Read.{max_depth}
use Rattle.serde_json.specs.Written.{has_float, compact_text}
use Rattle.curp_script.specs.Grammar.{step_of}
use Rattle.curp_script.specs.Printed.{step_data}
use Rattle.curp_script.proofs.Lines.{read_as-printed}
use Rattle.curp_print.proofs.Lines.{both_ok, step_is_object, step_no_float, step_depth}
use Rattle.curp_print.proofs.line.print_line.Goals as goal

pub returns-clause-text : goal.returns-clause-text
returns-clause-text c =
    let is = c.in_ok-step_json.ensures.data in
    let step = c.args.step.now in
    IfOk-weaker c.to_vec.result _ _ (λ line text. text (subst (λ (d : Data). has_float d ≡ false) (sym is) (step_no_float step)) ∙ ap compact_text is) c.to_vec.ensures.text

pub returns-clause-reads_back : goal.returns-clause-reads_back
returns-clause-reads_back c =
    let is = c.in_ok-step_json.ensures.data in
    let step = c.args.step.now in
    both_ok c.to_vec.result _ _ _
    (λ line utf8 back. read_as-printed step_of line.items (step_data step) (step_is_object step) utf8 (back (subst (λ (d : Data). depth d ≤ max_depth) (sym is) (step_depth step)) ∙ ap (λ d. Some d) is)
    ∙ c.in_ok-step_json.ensures.reads)
    c.to_vec.ensures.utf8 c.to_vec.ensures.reads_back
