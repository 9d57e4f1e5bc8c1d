use Rattle.std.proofs.Common.{subst, arith}
use Rattle.curp_batches.specs.Arrivals.{arrival}
use Rattle.curp_batches.specs.Prefixes.{Begins, PrefixFails}
use Rattle.curp_batches.proofs.Sequences.{moves, refused_so}
use Rattle.curp_batches.proofs.Encodings.{rest_is}
use Rattle.curp_batches.proofs.batch.arrivals_in.Goals as goal

pub arrivals-smaller : goal.arrivals-smaller
arrivals-smaller c =
    let bytes = c.args.bytes.now in
    let begins = subst (λ l. Begins arrival l c.in-Ok.arrived c.in-Ok.length) (rest_is c.arrivals.at bytes) c.in-Ok.ensures in
    let m = moves bytes c.arrivals.batch.items c.arrivals.at c.in-Ok.arrived c.in-Ok.length c.arrivals.invariant.so begins in
    omega (arith, m.0, m.1)

pub returns-in-Err : goal.returns-in-Err
returns-in-Err c =
    let bytes = c.args.bytes.now in
    let fails = subst (λ l. PrefixFails arrival l c.in-Err.why) (rest_is c.arrivals.at bytes) c.in-Err.ensures in
    refused_so (λ batch. batch.items) bytes c.arrivals.batch.items c.arrivals.at c.in-Err.why c.no_arrivals.result c.arrivals.invariant.so c.arrivals-test.true fails c.no_arrivals.ensures
