use Rattle.std.proofs.Common.{◌≡◌, take}
use Rattle.curp_base.specs.Words.{Each}
use Rattle.curp_entries.specs.Packed.{encodings}
use Rattle.curp_items.specs.Encoding.{IsEntry}
use Rattle.curp_entries.proofs.prefix.encodings_of.Given as goal

-- the entries so far are encoded
abbrev pub invariant-loop-entry : goal.invariant-loop-entry
invariant-loop-entry l = record {
  bytes : l.bytes.items ≡ encodings (take l.entry-index l.entries);
  are : Each IsEntry (take l.entry-index l.entries);
}
