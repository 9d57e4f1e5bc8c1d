use Rattle.std.proofs.Common.{◌≡◌, ◌≤◌, ◌∙◌, Some, sym, ap, subst, false}
use Rattle.std.proofs.lemmas.Result.{IfOk-weaker}
use Rattle.serde_json.specs.Data.{Data, depth}
use Rattle.serde_json.specs.Read.{max_depth}
use Rattle.serde_json.specs.Written.{has_float, compact_text}
use Rattle.curp_script.specs.Events.{event_of}
use Rattle.curp_script.specs.EventTexts.{event_data}
use Rattle.curp_script.proofs.Lines.{read_as-printed}
use Rattle.curp_print.proofs.Lines.{both_ok}
use Rattle.curp_print.proofs.Events.{event_depth, event_is_object, event_no_float}
use Rattle.curp_print.proofs.event.print_event.Goals as goal

pub returns-clause-text : goal.returns-clause-text
returns-clause-text c =
    let is = c.in_ok-event_json.ensures.data in
    let line = c.args.line.now in
    IfOk-weaker c.to_vec.result _ _ (λ printed text. text (subst (λ (d : Data). has_float d ≡ false) (sym is) (event_no_float line)) ∙ ap compact_text is) c.to_vec.ensures.text

pub returns-clause-reads_back : goal.returns-clause-reads_back
returns-clause-reads_back c =
    let is = c.in_ok-event_json.ensures.data in
    let line = c.args.line.now in
    both_ok c.to_vec.result _ _ _
    (λ printed utf8 back. read_as-printed event_of printed.items (event_data line) (event_is_object line) utf8 (back (subst (λ (d : Data). depth d ≤ max_depth) (sym is) (event_depth line)) ∙ ap (λ d. Some d) is)
    ∙ c.in_ok-event_json.ensures.reads)
    c.to_vec.ensures.utf8 c.to_vec.ensures.reads_back
