use Rattle.std.proofs.Common.{◌≤◌, ◌∙◌, Some, refl, sym, ap, subst, arith}
use Rattle.serde_json.specs.Data.{Data, depth}
use Rattle.serde_json.specs.Read.{max_depth}
use Rattle.curp_script.specs.Grammar.{header_of}
use Rattle.curp_script.specs.Printed.{header_data}
use Rattle.curp_script.proofs.Lines.{read_as-printed}
use Rattle.curp_print.proofs.Lines.{both_ok}
use Rattle.curp_print.proofs.line.print_header.Goals as goal

pub returns-clause-reads_back : goal.returns-clause-reads_back
returns-clause-reads_back c =
    let is = c.in_ok-header_json.ensures.data in
    both_ok c.to_vec.result _ _ _
    (λ line utf8 back. read_as-printed header_of line.items (header_data c.args.header.now) refl utf8 (back (subst (λ (d : Data). depth d ≤ max_depth) (sym is) (omega arith)) ∙ ap (λ d. Some d) is) ∙ c.header_json.ensures.reads)
    c.to_vec.ensures.utf8 c.to_vec.ensures.reads_back
