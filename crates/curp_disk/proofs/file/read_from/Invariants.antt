use Rattle.std.proofs.Common.{◌≤◌, length}
use Rattle.curp_disk.proofs.file.read_from.Given as goal

abbrev pub invariant-reads : goal.invariant-reads
invariant-reads l = record {
  within : l.count ≤ length l.buf;
}
