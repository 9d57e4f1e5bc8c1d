use Rattle.std.proofs.Common.{◌≡◌, ◌++◌, take}
use Rattle.curp_recover.proofs.messages.add_copies.Given as goal

-- the entries so far are copied
abbrev pub invariant-loop-entry : goal.invariant-loop-entry
invariant-loop-entry l = l.to.items ≡ l.fn.to.items ++ take l.entry-index l.entries
