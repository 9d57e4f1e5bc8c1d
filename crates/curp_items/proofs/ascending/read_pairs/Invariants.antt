use Rattle.curp_base.specs.Words.{KeysAscend}
use Rattle.curp_items.specs.Format.{ascending_pairs}
use Rattle.curp_items.specs.Items.{u32}
use Rattle.curp_items.proofs.More.{Partway, next_pair}
use Rattle.curp_items.proofs.ascending.read_pairs.Given as goal

-- what is left gives what reading all gives, and the keys so far ascend to the last one
abbrev pub invariant-loop : goal.invariant-loop
invariant-loop g l =
    let key = g.K.Item.format in
    let above = g.K.Ascending.above in
    let value = g.V.Item.format in
    let whole = (ascending_pairs g.K.Ord.cmp u32 key above value).read l.fn.reader in
    record {
      partway : Partway (next_pair key above value) (λ p. p.0) whole l.pairs.items l.last l.count l.counter l.reader;
      ascend : KeysAscend g.K.Ord.cmp l.pairs.items;
    }
