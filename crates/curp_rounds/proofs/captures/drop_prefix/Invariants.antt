use Rattle.std.proofs.Common.{◌≡◌, drop}
use Rattle.curp_rounds.proofs.captures.drop_prefix.Given as goal

-- so many are taken out
abbrev pub invariant-loop : goal.invariant-loop
invariant-loop l = l.waiting.items ≡ drop l.counter l.initial.waiting.items
