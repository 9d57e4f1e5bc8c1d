use Rattle.std.proofs.Common.{◌≡◌, ◌<◌, ℕ, List, get_or, length, map, take, sym, subst, ◌∙◌}
use Rattle.curp_base.specs.Words.{Each}
use Rattle.std.proofs.lemmas.List.{get_or_default}
use Rattle.curp_slots.specs.Register.{IsFilled, IndexPlace, held_at, nobody}
use Rattle.curp_slots.proofs.Registers.{each_get}
use Rattle.curp_slots.proofs.Sortings.{filled_taken, places_within, sorted_more}
use Rattle.curp_slots.proofs.register.places_by_hash.Goals as goal

pub loop-at-preserved : goal.loop-at-preserved
loop-at-preserved c =
    let none : IndexPlace = (record { client = 0; seq = 0 }, 0) in
    let p : IndexPlace = get_or c.args.index.now c.loop-at.at-index none in
    let filled : IsFilled c.args.kept.now p = each_get (IsFilled c.args.kept.now) c.args.index.now c.loop-at.at-index none c.requires c.loop-at-test.true in
    let held : c.index-kept-at.result ≡ held_at c.args.kept.now p = c.index-kept-at.is ∙ get_or_default c.args.kept.now p.1 c.index-kept-at.result nobody filled.within in
    c.in_ok-insert.ensures.entries
    ∙ rw (c.least_hash.ensures, c.request-request.ensures, held)
    (sorted_more c.args.kept.now c.args.index.now c.loop-at.sorted.entries c.loop-at.at-index none c.loop-at-test.true c.loop-at.invariant)

pub returns-clause-within : goal.returns-clause-within
returns-clause-within c =
    subst (λ (es : List (ℕ × ℕ)). Each (λ (at : ℕ). at < length c.args.kept.now) (map (λ (e : ℕ × ℕ). e.1) es)) (sym c.loop-at.invariant)
    (places_within c.args.kept.now (take c.loop-at.at-index c.args.index.now) (filled_taken c.args.kept.now c.loop-at.at-index c.args.index.now c.requires))
