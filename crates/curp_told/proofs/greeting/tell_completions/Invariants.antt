use Rattle.std.proofs.Common.{◌≡◌, ◌+◌, ◌++◌, drop}
use Rattle.curp_told.specs.Told.{completions_told, parcels_of}
use Rattle.curp_told.proofs.greeting.tell_completions.Given as goal

-- the text, and what is left to be said, are the whole
abbrev pub invariant-loop-before : goal.invariant-loop-before
invariant-loop-before l =
    l.text.items ++ parcels_of (completions_told (l.before + 1) (drop l.before l.items)) ≡ l.fn.text.items ++ parcels_of (completions_told 1 l.items)
