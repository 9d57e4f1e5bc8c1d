use Rattle.std.proofs.Common.{◌≡◌, ◌<◌, ◌*◌, ◌∙◌, ℕ, List, length, drop, get_or, Some, sym, ap, subst, arith, rules}
use Rattle.std.proofs.lemmas.Option.{get_or_from_slice_get, slice_get-get_or}
use Rattle.curp_base.specs.Words.{Each}
use Rattle.curp_cmd.specs.declared.entry.Entry.{Entry}
use Rattle.curp_items.specs.Encoding.{IsEntry}
use Rattle.curp_entries.specs.Packed.{encodings}
use Rattle.curp_entries.proofs.Packs.{at_place}
use Rattle.curp_entries.proofs.prefix.Prefix.from_run.Goals as goal

pub returns-clause-bytes : goal.returns-clause-bytes
returns-clause-bytes c =
    let past : c.past.result.now ≡ drop c.index.result.now c.self.inside.bytes.items = search rules in
    let within : c.args.run < length c.self.inside.places.items = omega (arith, c.requires, ap length c.self.view_is, c.self.invariant.count) in
    let same : c.index.result.now ≡ get_or c.self.inside.places.items c.args.run c.index.result.now = search rules in
    let there = slice_get-get_or c.self.inside.places.items c.args.run c.index.result.now within ∙ ap (λ (n : ℕ). Some n) (sym same) in
    let place : c.index.result.now ≡ get_or c.self.inside.places.items c.args.run 0 = sym (get_or_from_slice_get c.self.inside.places.items c.args.run c.index.result.now 0 there) in
    past
    ∙ ap (λ (n : ℕ). drop n c.self.inside.bytes.items) place
    ∙ at_place _ c.self.inside.places.items c.self.inside.bytes.items c.self.invariant c.args.run within
    ∙ ap (λ (es : List Entry). encodings (drop (64 * c.args.run) es)) c.self.view_is

pub returns-clause-encoded : goal.returns-clause-encoded
returns-clause-encoded c = subst (λ (es : List Entry). Each IsEntry es) c.self.view_is c.self.invariant.encoded
