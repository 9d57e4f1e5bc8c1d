use Rattle.std.proofs.Common.{◌≡◌, ◌++◌, map, take}
use Rattle.curp_rounds.specs.Captures.{value_at}
use Rattle.curp_rounds.proofs.captures.tell_prefix.Given as goal

-- the values so far
abbrev pub invariant-loop-at : goal.invariant-loop-at
invariant-loop-at l = l.sent.items ≡ l.initial.sent.items ++ map (value_at l.number l.epoch) (take l.at l.waiting.items)
