use Rattle.std.proofs.Common.{Some, ap, arith, ◌∙◌}
use Rattle.curp_items.proofs.Prefixes.{are_bytes, begins_from, not_skipped, read_same}
use Rattle.curp_items.proofs.packed.encoded.Goals as goal

pub returns-in-Err-clause-only : goal.returns-in-Err-clause-only
returns-in-Err-clause-only c = λ e len b.
    let from_start = rw c.new-reader.ensures at c.in-Err.ensures in
    absurd (not_skipped c.args.bytes.now e len c.in-Err.field-0.place b from_start)

pub returns-in-Ok-clause-found : goal.returns-in-Ok-clause-found
returns-in-Ok-clause-found c =
    let from_start = rw c.new-reader.ensures at c.in-Ok.ensures in
    (from_start.0, rw c.place.ensures (begins_from c.args.bytes.now from_start.0 c.skip_entry.new.reader (are_bytes c.args.bytes.now (λ i. omega (arith, c.type_inv.bytes i))) from_start.1))

pub returns-in-Ok-clause-only : goal.returns-in-Ok-clause-only
returns-in-Ok-clause-only c = λ e len b.
    let from_start = rw c.new-reader.ensures at c.in-Ok.ensures in
    ap Some (c.place.ensures ∙ (read_same c.args.bytes.now e len from_start.0 c.skip_entry.new.reader b from_start.1).1)
