use Rattle.curp_items.specs.Format.{ascending_keys}
use Rattle.curp_items.specs.Items.{u32}
use Rattle.curp_items.proofs.More.{Partway, next_key}
use Rattle.curp_items.proofs.ascending.skip_keys.Given as goal

-- after some keys, what is left gives what reading all gives
abbrev pub invariant-loop : goal.invariant-loop
invariant-loop g l =
    let key = g.K.Item.format in
    let above = g.K.Ascending.above in
    let whole = (ascending_keys g.K.Ord.cmp u32 key above).read l.fn.reader in
    (before : _) × Partway (next_key key above) (λ k. k) whole before l.last l.end l.counter l.reader
