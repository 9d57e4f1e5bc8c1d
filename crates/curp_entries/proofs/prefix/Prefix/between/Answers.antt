use Rattle.std.proofs.Common.{◌≡◌, ◌+◌, ◌<◌, ◌-◌, ℕ, List, length, min, ap, sym, subst, arith, ◌∙◌}
use Rattle.curp_base.specs.Words.{At, Each}
use Rattle.curp_cmd.specs.declared.entry.Entry.{Entry}
use Rattle.curp_items.specs.Encoding.{IsEntry}
use Rattle.curp_entries.proofs.Packs.{after_first, first_at}
use Rattle.curp_entries.proofs.Parts.{as_far, one_more}
use Rattle.curp_entries.proofs.prefix.Prefix.between.Goals as goal

pub loop-preserved : goal.loop-preserved
loop-preserved c =
    let k = c.args.start + c.loop.counter in
    let within : k < length c.args.self.now = omega (arith, c.loop-test.true, c.saturating_sub-count.ensures, c.min.ensures, c.len.ensures.value) in
    let are = subst (λ (es : List Entry). Each IsEntry es) c.self.view_is c.self.invariant.encoded in
    let f = first_at c.args.self.now k c.loop.rest.now are within (c.loop.invariant.rest within) in
    let read = c.in_ok-entry.ensures f.entry _ f.fits f.laid in
    let entry : c.in_ok-entry.entry ≡ f.entry = ap (λ (p : Entry × ℕ). p.0) read in
    record {
      entries = one_more c.args.start c.loop.counter c.args.self.now _ _ c.in_ok-entry.entry (subst (λ (e : Entry). At c.args.self.now k e) (sym entry) f.there) c.loop.invariant.entries c.in_ok-push.ensures.items;
      rest = λ l. after_first c.args.self.now k _ _ c.loop.rest.now c.past-rest.result.now f (ap (λ (p : Entry × ℕ). p.1) read) c.past-rest.ensures (omega arith);
      upto = omega (arith, c.loop-test.true);
    }

pub returns : goal.returns
returns c =
    let count : c.loop.counter ≡ min c.args.end (length c.args.self.now) - c.args.start = omega (arith, c.loop-test.false, c.loop.invariant.upto, c.saturating_sub-count.ensures, c.min.ensures, c.len.ensures.value) in
    c.loop.invariant.entries ∙ as_far c.args.start c.args.end c.loop.counter c.args.self.now count
