use Rattle.std.proofs.Common.{◌≡◌, ◌*◌, ◌++◌, ◌≤◌, take}
use Rattle.curp_entries.proofs.runs.push_runs.Given as goal

-- the runs so far are packed
abbrev pub invariant-loop-runs : goal.invariant-loop-runs
invariant-loop-runs l = record {
  prefix : l.prefix ≡ l.fn.prefix ++ take (l.runs * 64) l.tail;
  upto : l.runs ≤ l.runs-end;
}
