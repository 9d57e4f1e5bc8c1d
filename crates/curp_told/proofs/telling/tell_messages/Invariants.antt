use Rattle.std.proofs.Common.{◌≡◌, ◌+◌, ◌++◌, drop}
use Rattle.curp_told.specs.Told.{messages_told, parcels_of}
use Rattle.curp_told.proofs.telling.tell_messages.Given as goal

-- the text, and what is left to be said, are the whole
abbrev pub invariant-loop-before : goal.invariant-loop-before
invariant-loop-before l =
    l.text.items ++ parcels_of (messages_told l.step (l.before + 1) l.stamp (drop l.before l.messages)) ≡ l.fn.text.items ++ parcels_of (messages_told l.step 1 l.stamp l.messages)
