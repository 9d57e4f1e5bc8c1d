use Rattle.std.proofs.Common.{◌≡◌, ◌+◌, ◌∙◌, ◌++◌, [], ◌∷◌, map, take, get_or, sym, ap, rules}
use Rattle.std.proofs.lemmas.List.{map-append, take_more}
use Rattle.serde_json.specs.View.{view}
use Rattle.curp_script.specs.Printed.{count}
use Rattle.curp_print.proofs.line.numbers.Goals as goal

pub loop-number-preserved : goal.loop-number-preserved
loop-number-preserved c =
    let i = c.loop-number.number-index in
    let numbers = c.args.numbers.now in
    let last : view c.from.result ≡ count (get_or numbers i 0) = search rules in
    let next : map count (take (i + 1) numbers) ≡ map count (take i numbers) ++ count (get_or numbers i 0) ∷ [] =
    ap (map count) (take_more numbers i 0 c.loop-number-test.true) ∙ map-append count (take i numbers) (get_or numbers i 0 ∷ []) in
    ap (map view) c.in_ok-push.ensures.items
    ∙ map-append view c.loop-number.values.items (c.from.result ∷ [])
    ∙ rw (c.loop-number.invariant, last) (sym next)
