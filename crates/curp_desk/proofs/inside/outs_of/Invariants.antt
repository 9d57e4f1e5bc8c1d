use Rattle.std.proofs.Common.{◌≡◌, map}
use Rattle.curp_desk.specs.Outbox.{out_of}
use Rattle.curp_desk.proofs.inside.outs_of.Given as goal

-- so many are made
abbrev pub invariant-loop-message : goal.invariant-loop-message
invariant-loop-message l = l.outs.items ≡ map (out_of l.number) l.yielded
