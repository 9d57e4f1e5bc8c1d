use Rattle.curp_base.specs.Words.{Ascend}
use Rattle.curp_items.specs.Format.{ascending_keys}
use Rattle.curp_items.specs.Items.{u32}
use Rattle.curp_items.proofs.More.{Partway, next_key}
use Rattle.curp_items.proofs.ascending.read_keys.Given as goal

-- what is left gives what reading all gives, and the keys so far ascend to the last one
abbrev pub invariant-loop : goal.invariant-loop
invariant-loop g l =
    let key = g.K.Item.format in
    let above = g.K.Ascending.above in
    let whole = (ascending_keys g.K.Ord.cmp u32 key above).read l.fn.reader in
    record {
      partway : Partway (next_key key above) (λ k. k) whole l.keys.items l.last l.count l.counter l.reader;
      ascend : Ascend g.K.Ord.cmp l.keys.items;
    }
