use Rattle.std.proofs.Common.{◌∙◌, arith}
use Rattle.curp_items.proofs.Prefixes.{are_bytes, found_of, request_found, request_is}
use Rattle.curp_items.proofs.packed.read_request.Goals as goal

pub returns-clause-found : goal.returns-clause-found
returns-clause-found c =
    let from_start = rw c.new.ensures at c.op_at.ensures in
    found_of c.op_at.result _ (request_found c.args.bytes.now c.op_at.result (are_bytes c.args.bytes.now (λ i. omega (arith, c.type_inv.bytes i))) from_start)

pub returns-clause-only : goal.returns-clause-only
returns-clause-only c = λ r acknowledge len b.
    let from_start = rw c.new.ensures at c.op_at.ensures in
    from_start ∙ request_is c.args.bytes.now r acknowledge len b
