use Rattle.std.proofs.Common.{◌≡◌, List, Some, set, suc, refl, ap, sym, subst, ◌∙◌, add-one, arith}
use Rattle.curp_line.specs.Cuts.{epoch_place, epochs_of, how_many, is_epoch_of, is_epoch_to}
use Rattle.curp_line.specs.declared.epochs.CutEpoch.{CutEpoch}
use Rattle.curp_line.proofs.Ascending.{how_many_both, how_many_most, is_low}
use Rattle.curp_line.proofs.Ranks.{IsCarried, IsRanked, carried_ascend, carried_place, carry_begins, carry_on, place_is_some, ranked_at}
use Rattle.curp_line.proofs.epochs.add_epoch.Goals as goal
use Rattle.curp_line.proofs.epochs.add_epoch.Goals.{After-unwrap-at}

pub loop-rank-init : goal.loop-rank-init
loop-rank-init c =
    let count = c.count_to-rank.ensures ∙ ap (λ (es : List CutEpoch). how_many (is_epoch_to c.args.added.part c.args.added.epoch) es) c.deref.ensures.value in
    let both = how_many_both (is_epoch_of c.args.added.part) (is_low c.args.added.epoch) c.args.epochs.now.items in
    let most = how_many_most (is_low c.args.added.epoch) (epochs_of c.args.added.part c.args.epochs.now.items) in
    record {
      carried = carry_begins c.args.epochs.now.items c.args.added c.count_to-rank.result count;
      within = omega (arith, count, both, most, c.requires.count);
      room = refl;
    }

pub unwrap-at-requires : goal.unwrap-at-requires
unwrap-at-requires c =
    rw (c.value_of.ensures ∙ c.requires.placed c.args.added.part c.loop-rank.rank)
    (place_is_some c.args.added.part c.loop-rank.rank c.args.epochs.now.items (omega (arith, c.loop-rank-test.true, c.requires.count)))

place : (c : After-unwrap-at) → epoch_place c.args.added.part c.loop-rank.rank c.args.epochs.now.items ≡ Some c.unwrap-at.result
place c = sym (c.value_of.ensures ∙ c.requires.placed c.args.added.part c.loop-rank.rank) ∙ c.unwrap-at.ensures

ranked : (c : After-unwrap-at) → IsRanked c.args.added.part c.loop-rank.rank c.loop-rank.epochs.items c.unwrap-at.result
ranked c =
    ranked_at c.args.added.part c.loop-rank.rank c.loop-rank.epochs.items c.unwrap-at.result
    (carried_place c.args.epochs.now.items c.args.added c.loop-rank.epochs.items c.loop-rank.rank c.loop-rank.carried c.loop-rank.invariant.carried c.loop-rank.rank ∙ place c)

pub index-higher-requires : goal.index-higher-requires
index-higher-requires c = let r = ranked c in r.within

pub set-requires : goal.set-requires
set-requires c = let r = ranked ((goal.at.set-requires c).After-unwrap-at) in r.within

pub loop-rank-preserved : goal.loop-rank-preserved
loop-rank-preserved c =
    let next =
    carry_on c.args.epochs.now.items c.args.added c.loop-rank.epochs.items c.loop-rank.rank c.loop-rank.carried c.loop-rank.invariant.carried c.unwrap-at.result c.index-higher.result.now
    (omega (arith, c.loop-rank-test.true, c.requires.count)) (place ((goal.at.loop-rank-preserved c).After-unwrap-at))
    in
    record {
      carried = rw (c.set.ensures.items, add-one) (subst (λ (e : CutEpoch). IsCarried c.args.epochs.now.items c.args.added (set c.loop-rank.epochs.items c.unwrap-at.result c.loop-rank.carried) (suc c.loop-rank.rank) e) (sym c.index-higher.ensures) next);
      within = omega (arith, c.loop-rank-test.true);
      room = c.set.ensures.spare ∙ c.loop-rank.invariant.room;
    }

pub returns-clause-ascend : goal.returns-clause-ascend
returns-clause-ascend c =
    rw c.push.ensures.items
    (carried_ascend c.args.epochs.now.items c.args.added c.loop-rank.epochs.items c.loop-rank.rank c.loop-rank.carried c.loop-rank.invariant.carried
    (omega (arith, c.loop-rank-test.false, c.loop-rank.invariant.within, c.requires.count)) c.requires.ascend)
