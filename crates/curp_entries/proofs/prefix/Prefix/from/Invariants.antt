use Rattle.std.proofs.Common.{◌≡◌, ◌+◌, ◌*◌, ◌/◌, ◌≤◌, drop}
use Rattle.curp_entries.specs.Packed.{encodings}
use Rattle.curp_entries.proofs.prefix.Prefix.from.Given as goal

-- so many entries of the run are read past
abbrev pub invariant-loop : goal.invariant-loop
invariant-loop l = record {
  rest : l.rest ≡ encodings (drop (64 * (l.index / 64) + l.counter) l.self);
  upto : l.counter ≤ l.end;
}
