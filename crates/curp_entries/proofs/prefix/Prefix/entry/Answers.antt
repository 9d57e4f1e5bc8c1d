use Rattle.std.proofs.Common.{◌∙◌, ℕ, Some, ap, sym}
use Rattle.std.proofs.lemmas.Option.{slice_get_past}
use Rattle.curp_cmd.specs.declared.entry.Entry.{Entry}
use Rattle.curp_entries.proofs.Packs.{first_at}
use Rattle.curp_entries.proofs.prefix.Prefix.entry.Goals as goal

pub returns-in_ok-next_entry-in-Some : goal.returns-in_ok-next_entry-in-Some
returns-in_ok-next_entry-in-Some c =
    let f = first_at c.args.self.now c.args.index c.in-Some.bytes.now c.in-Some.ensures.encoded c.in-Some.ensures.within c.in-Some.ensures.bytes in
    let read = c.in_ok-next_entry-in-Some.ensures f.entry _ f.fits f.laid in
    ap (λ (p : Entry × ℕ). Some p.0) read ∙ sym f.there

pub returns-in-None : goal.returns-in-None
returns-in-None c = sym (slice_get_past c.args.self.now c.args.index c.in-None.ensures.none)
