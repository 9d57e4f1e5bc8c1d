use Rattle.std.proofs.Common.{arith}
use Rattle.curp_items.proofs.Prefixes.{are_bytes}
use Rattle.curp_parcels.proofs.Found.{no_plain_so, plain_there_so}
use Rattle.curp_parcels.proofs.saying.plain_in.Goals as goal

pub returns-in-Ok : goal.returns-in-Ok
returns-in-Ok c = λ tag rest is other.
    plain_there_so c.args.content.now tag rest c.in-Ok.said (are_bytes c.args.content.now (λ i. omega (arith, c.type_inv.content i))) is other c.in-Ok.ensures

pub returns-in-Err : goal.returns-in-Err
returns-in-Err c = λ tag rest is other. no_plain_so c.args.content.now tag rest c.in-Err.field-0.place is other c.in-Err.ensures
