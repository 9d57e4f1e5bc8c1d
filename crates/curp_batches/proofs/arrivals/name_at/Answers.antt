use Rattle.std.proofs.Common.{arith}
use Rattle.curp_items.proofs.Prefixes.{are_bytes}
use Rattle.curp_batches.proofs.Encodings.{name_found, name_not}
use Rattle.curp_batches.proofs.arrivals.name_at.Goals as goal

pub returns-in-Ok : goal.returns-in-Ok
returns-in-Ok c =
    let bytes = c.args.bytes.now in
    name_found bytes c.new-reader.result c.read-found.new.reader c.in-Ok.found c.place-length.result (are_bytes bytes (λ i. omega (arith, c.type_inv.bytes i))) c.new-reader.ensures c.in-Ok.ensures c.place-length.ensures

pub returns-in-Err : goal.returns-in-Err
returns-in-Err c = name_not c.args.bytes.now c.new-reader.result c.in-Err.fault.place c.new-reader.ensures c.in-Err.ensures
