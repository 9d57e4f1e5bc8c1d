use Rattle.curp_items.specs.Format.{ascending_pairs}
use Rattle.curp_items.specs.Items.{u32}
use Rattle.curp_items.proofs.More.{Partway, next_pair}
use Rattle.curp_items.proofs.ascending.skip_pairs.Given as goal

-- after some pairs, what is left gives what reading all gives
abbrev pub invariant-loop : goal.invariant-loop
invariant-loop g l =
    let key = g.K.Item.format in
    let above = g.K.Ascending.above in
    let value = g.V.Item.format in
    let whole = (ascending_pairs g.K.Ord.cmp u32 key above value).read l.fn.reader in
    (before : _) × Partway (next_pair key above value) (λ p. p.0) whole before l.last l.end l.counter l.reader
