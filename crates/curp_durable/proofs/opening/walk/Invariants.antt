use Rattle.std.proofs.Common.{◌-◌, ◌<◌, List, ℕ, length}
use Rattle.curp_durable.specs.Opening.{WalkedFrom}
use Rattle.curp_durable.proofs.opening.walk.Given as goal

-- a commit byte is there, and what was found before it led the node to where it stands
abbrev pub invariant-commits : goal.invariant-commits
invariant-commits g l = record {
  within : l.at < length l.bytes;
  led : (content title : List ℕ) (opening : g.row.N.Denot) → WalkedFrom g.N.Core.machine l.bytes l.base l.first l.fn.stand content title opening → WalkedFrom g.N.Core.machine l.bytes l.base l.at l.stand content title opening;
}

abbrev pub decreases-commits : goal.decreases-commits
decreases-commits g l = length l.bytes - l.at
