use Rattle.std.proofs.Common.{◌≡◌, ◌≤◌, ◌-◌, ◌+◌, true}
use Rattle.curp_check.specs.Claim.{claim_in, claim_limit}
use Rattle.curp_io.specs.Streams.{SameCount}
use Rattle.curp_runner.specs.Reading.{IsBehind}
use Rattle.curp_runner.specs.Check.{claim_due}
use Rattle.curp_runner.proofs.claim.read_claim.Given as goal

-- what was read so far, and what is due of the claim
abbrev pub invariant-lines : goal.invariant-lines
invariant-lines g l = record {
  counted : l.count ≤ claim_limit;
  behind : IsBehind l.lines l.count;
  source_tells : g.S.Source.tells l.fn.source ≡ true → g.S.Source.tells l.source ≡ true;
  source_faults : SameCount (g.S.Source.faults l.fn.source) (g.S.Source.faults l.source);
  due : g.S.Source.tells l.fn.source ≡ true → claim_in (g.S.Source.left l.fn.source) ≡ claim_due l.lines l.claim (g.S.Source.left l.source);
}

abbrev pub decreases-lines : goal.decreases-lines
decreases-lines g l = claim_limit + 1 - l.count
