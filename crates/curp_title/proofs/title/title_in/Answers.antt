use Rattle.std.proofs.Common.{arith}
use Rattle.curp_items.proofs.Prefixes.{are_bytes}
use Rattle.curp_title.proofs.Titles.{no_title, title_found}
use Rattle.curp_title.proofs.title.title_in.Goals as goal

pub returns-in-Ok-clause-some : goal.returns-in-Ok-clause-some
returns-in-Ok-clause-some c =
    title_found c.args.bytes.now c.in-Ok.title (are_bytes c.args.bytes.now (λ i. omega (arith, c.type_inv.bytes i))) c.in-Ok.ensures

pub returns-in-Err-clause-none : goal.returns-in-Err-clause-none
returns-in-Err-clause-none c = no_title c.args.bytes.now c.in-Err.field-0.place c.in-Err.ensures
