use Rattle.std.proofs.Common.{◌≡◌, ◌++◌}
use Rattle.curp_cmd.proofs.store.Store.pairs.Given as goal

-- the pairs so far, and those that are left
abbrev pub invariant-loop-key : goal.invariant-loop-key
invariant-loop-key l = l.pairs.items ++ l.key-iterator ≡ l.initial.key-iterator
