use Rattle.std.proofs.Common.{◌≡◌, ◌∙◌, ℕ, length, true, ap, sym, subst}
use Rattle.curp_model.specs.Log.{LogState, after_entry, fits_at, meaning}
use Rattle.curp_log.specs.Content.{Content}
use Rattle.curp_log.specs.State.{meant_by, take_after, untaken}
use Rattle.curp_log.proofs.Keeps.{kept_as, kept_more, pushed_length, untaken_fits}
use Rattle.curp_log.proofs.log.Log.push.Goals as goal

pub apply-requires-clause-fits : goal.apply-requires-clause-fits
apply-requires-clause-fits c =
    ap (λ (s : LogState). fits_at s c.args.entry) c.self.invariant.means
    ∙ untaken_fits (meaning c.self.inside.lo c.self.inside.hi c.self.inside.entries.entries) c.args.entry
    ∙ subst (λ (l : Content). fits_at (meaning l.lo l.hi l.entries) c.args.entry ≡ true) (sym c.self.view_is) c.requires.fits

pub invariant_of-self : goal.invariant_of-self
invariant_of-self c =
    let index : c.len-index.result ≡ length c.self.inside.entries.entries = c.len-index.ensures.value in
    kept_as c.self.inside.lo c.self.inside.hi _ _ _ _ _ _ c.apply.new.self _ _
    c.push.ensures.entries
    c.push.ensures.packed
    c.apply.ensures.answer
    (c.follow.ensures ∙ ap (λ (n : ℕ). take_after c.self.inside.taken n c.args.entry) index)
    (kept_more c.self.inside.lo c.self.inside.hi c.self.inside.entries.entries c.self.inside.entries.packed c.self.inside.answers.items c.self.inside.state c.apply.new.self c.self.inside.taken c.args.entry c.self.invariant
    c.len-index.ensures.packed
    (pushed_length c.self.inside.entries.entries c.args.entry)
    (subst (λ (l : Content). fits_at (meaning l.lo l.hi l.entries) c.args.entry ≡ true) (sym c.self.view_is) c.requires.fits)
    (c.apply.ensures.means ∙ ap (λ (n : ℕ). untaken (after_entry (meant_by c.self.inside.state) n c.args.entry)) index))
