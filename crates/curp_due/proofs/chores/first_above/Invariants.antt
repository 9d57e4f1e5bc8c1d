use Rattle.std.proofs.Common.{◌≡◌, ℕ, drop}
use Rattle.std.specs.Prelude.{ltb}
use Rattle.std.specs.List.{filter}
use Rattle.curp_due.proofs.chores.first_above.Given as goal

-- those so far aren't above
abbrev pub invariant-loop-number : goal.invariant-loop-number
invariant-loop-number l = filter (λ (n : ℕ). ltb l.least n) (drop l.number-index l.numbers) ≡ filter (λ (n : ℕ). ltb l.least n) l.numbers
