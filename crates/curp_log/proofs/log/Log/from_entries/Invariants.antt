use Rattle.std.proofs.Common.{◌≡◌, take, true}
use Rattle.curp_model.specs.Log.{is_log}
use Rattle.curp_log.proofs.log.Log.from_entries.Given as goal

-- the entries so far are pushed, and make a log
abbrev pub invariant-loop-entry : goal.invariant-loop-entry
invariant-loop-entry l = record {
  lo : l.log.lo ≡ l.lo;
  hi : l.log.hi ≡ l.hi;
  entries : l.log.entries ≡ take l.entry-index l.entries;
  so_far : is_log l.lo l.hi (take l.entry-index l.entries) ≡ true;
}
