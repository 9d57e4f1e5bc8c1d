use Rattle.std.proofs.Common.{◌≡◌, ◌<◌, List, length, get_or, set, ap, ◌∙◌, add-one, arith}
use Rattle.curp_model.specs.Master.{Acknowledged}
use Rattle.curp_rounds.proofs.Acks.{not_set, set_more}
use Rattle.curp_rounds.proofs.acknowledgements.set_all.Goals as goal

pub loop-at-preserved : goal.loop-at-preserved
loop-at-preserved c =
    let old = c.args.each.now.items in
    let at = c.loop-at.at in
    let item = c.index_mut.result.now in
    let same : item ≡ get_or old at item =
    c.index_mut.ensures.value ∙ ap (λ (xs : List Acknowledged). get_or xs at item) c.loop-at.invariant ∙ not_set old at c.args.long c.args.round item
    in
    let written : c.set.new.self ≡ record (get_or old at item) { length = c.args.long; round = c.args.round } =
    c.set.ensures ∙ ap (λ (a : Acknowledged). record a { length = c.args.long; round = c.args.round }) same
    in
    let within : at < length old = omega (arith, c.loop-at-test.true, c.len-at-end.ensures) in
    rw add-one ((λ i. set (c.loop-at.invariant i) at (written i)) ∙ set_more old at c.args.long c.args.round item within)
