use Rattle.std.proofs.Common.{◌≡◌, [], take}
use Rattle.curp_base.specs.Words.{Each}
use Rattle.curp_batches.specs.Arrivals.{arrival}
use Rattle.curp_batches.specs.Batches.{arrivals_of}
use Rattle.curp_batches.proofs.batch.encode_arrivals.Given as goal

abbrev pub invariant-loop-arrived : goal.invariant-loop-arrived
invariant-loop-arrived l = record {
  written : l.out ≡ record { prefix = []; text = arrivals_of (take l.arrived-index l.batch) };
  fits : Each arrival.Fits (take l.arrived-index l.batch);
}
