use Rattle.std.proofs.Common.{◌≡◌, ◌+◌, ◌≤◌, ◌<◌, drop, length, take}
use Rattle.curp_entries.specs.Packed.{encodings}
use Rattle.curp_entries.proofs.prefix.Prefix.between.Given as goal

-- the entries so far are read, and the others follow
abbrev pub invariant-loop : goal.invariant-loop
invariant-loop l = record {
  entries : l.entries.items ≡ take l.counter (drop l.start l.self);
  rest : l.start + l.counter < length l.self → l.rest ≡ encodings (drop (l.start + l.counter) l.self);
  upto : l.counter ≤ l.count;
}
