use Rattle.std.proofs.Common.{Err, ap, arith, refl}
use Rattle.std.proofs.lemmas.Result.{err_from_is_err_and}
use Rattle.curp_items.proofs.Prefixes.{are_bytes, begins_from, not_read, read_same}
use Rattle.curp_items.proofs.packed.read_entry.Goals as goal

pub returns-in_err-entry-clause-only : goal.returns-in_err-entry-clause-only
returns-in_err-entry-clause-only c = λ e len b other.
    let p = err_from_is_err_and c.from_residual.result c.from_residual.ensures.1 in
    let from_start = rw c.new-reader.ensures at c.in_err-entry.ensures in
    absurd (other (rw (p.1, p.2) (ap Err (not_read c.args.bytes.now e len b c.in_err-entry.field-0.0 from_start))))

pub returns-clause-found : goal.returns-clause-found
returns-clause-found c =
    let from_start = rw c.new-reader.ensures at c.in_ok-entry.ensures in
    rw c.place.ensures (begins_from c.args.bytes.now c.in_ok-entry.entry c.read_entry_at.new.reader (are_bytes c.args.bytes.now (λ i. omega (arith, c.type_inv.bytes i))) from_start)

pub returns-clause-only : goal.returns-clause-only
returns-clause-only c = λ e len b other.
    let from_start = rw c.new-reader.ensures at c.in_ok-entry.ensures in
    let same = read_same c.args.bytes.now e len c.in_ok-entry.entry c.read_entry_at.new.reader b from_start in
    rw (same.0, c.place.ensures, same.1) refl
