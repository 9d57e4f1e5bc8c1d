use Rattle.std.proofs.Common.{◌≡◌, ◌++◌, drop}
use Rattle.curp_told.specs.Told.{all_told, parcels_of}
use Rattle.curp_told.proofs.telling.tell.Given as goal

-- the text, and what is left to be said, are the whole
abbrev pub invariant-loop-answered : goal.invariant-loop-answered
invariant-loop-answered l =
    l.text.items ++ parcels_of (all_told l.input (drop l.answered-index l.answers)) ≡ l.fn.text.items ++ parcels_of (all_told l.first l.answers)
