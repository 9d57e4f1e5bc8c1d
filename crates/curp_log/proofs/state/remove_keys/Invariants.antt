use Rattle.std.proofs.Common.{◌≡◌, ◌+◌, ◌≤◌, drop}
use Rattle.curp_log.specs.State.{without_pairs}
use Rattle.curp_log.proofs.state.remove_keys.Given as goal

-- the pairs that are left make it the store without all of them, and there is room for them
abbrev pub invariant-loop-key : goal.invariant-loop-key
invariant-loop-key l = record {
  map : without_pairs l.store.map (drop l.key-index l.pairs) ≡ without_pairs l.fn.store.map l.pairs;
  spare : l.fn.store.spare ≤ l.store.spare + l.key-index;
}
