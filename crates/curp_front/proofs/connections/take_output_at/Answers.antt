use Rattle.std.proofs.Common.{◌≡◌, Some, ap, sym, ◌∙◌}
use Rattle.curp_front.specs.Conversation.{passed, said_by}
use Rattle.curp_front.specs.Finding.{in_place}
use Rattle.curp_front.specs.Fronts.{passed_by}
use Rattle.curp_front.proofs.Finding.{it_there, stands_then}
use Rattle.curp_front.proofs.connections.take_output_at.Goals as goal

pub returns-clause-ok : goal.returns-clause-ok
returns-clause-ok c = λ found s.
    let connections = c.args.connections.now.items in
    let said = c.in-Some.said in
    let said_is : said_by found.it ≡ Some said = ap said_by (sym (it_there connections c.args.at found s c.index.result.now c.index.ensures)) ∙ sym c.in-Some.ensures in
    c.forget.ensures (record found { it = passed said found.it })
    (stands_then connections c.args.at found s (passed said) c.index_mut.result.now c.pass.new.self c.index_mut.ensures.value c.pass.ensures)
    ∙ ap (λ o. in_place (passed_by o found.it) found) (sym said_is)
