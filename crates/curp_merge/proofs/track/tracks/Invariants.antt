use Rattle.std.proofs.Common.{◌≡◌, replicate, []}
use Rattle.curp_merge.proofs.track.tracks.Given as goal

abbrev pub invariant-loop : goal.invariant-loop
invariant-loop l = l.tracks.items ≡ replicate l.counter []
