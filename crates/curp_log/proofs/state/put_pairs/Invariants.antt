use Rattle.std.proofs.Common.{◌≡◌, ◌+◌, ◌≤◌, drop}
use Rattle.curp_cmd.specs.Store.{with_pairs}
use Rattle.curp_log.proofs.state.put_pairs.Given as goal

-- the pairs that are left make it the store with all of them, and there is room for them
abbrev pub invariant-loop-key : goal.invariant-loop-key
invariant-loop-key l = record {
  map : with_pairs l.store.map (drop l.key-index l.pairs) ≡ with_pairs l.fn.store.map l.pairs;
  spare : l.fn.store.spare ≤ l.store.spare + l.key-index;
}
