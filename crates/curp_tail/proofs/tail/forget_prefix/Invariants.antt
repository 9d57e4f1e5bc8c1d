use Rattle.std.proofs.Common.{◌≡◌, drop, nat_eq}
use Rattle.std.specs.HashMap.{get}
use Rattle.curp_tail.specs.Tail.{IndexesRise}
use Rattle.curp_tail.specs.Kept.{LastsAre}
use Rattle.curp_tail.proofs.tail.forget_prefix.Given as goal

-- so many are forgotten
abbrev pub invariant-loop : goal.invariant-loop
invariant-loop l = record {
  left : l.entries.items ≡ drop l.counter l.initial.entries.items;
  rise : IndexesRise l.entries.items;
  lasts : LastsAre (get nat_eq l.lasts) l.entries.items;
}
