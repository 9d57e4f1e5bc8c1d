use Rattle.std.proofs.Common.{◌≡◌, ℕ, ◌+◌, ◌-◌, ◌/◌, ◌<◌, ◌≤◌, Some, sym, ◌∙◌, arith}
use Rattle.curp_line.specs.Cuts.{epoch_place, epochs_of, is_epoch_of}
use Rattle.curp_line.proofs.Ascending.{how_many_both, how_many_most, is_low}
use Rattle.curp_line.proofs.Ranks.{high_before, low_behind, place_is_some, ranked_at}
use Rattle.curp_line.proofs.epochs.count_to.Goals as goal
use Rattle.curp_line.proofs.epochs.count_to.Goals.{After-unwrap-at}

pub loop-low-init : goal.loop-low-init
loop-low-init c =
    let most = how_many_most (is_low c.args.top.epoch) (epochs_of c.args.top.part c.args.epochs.now) in
    record {
      low = omega arith;
      high = omega (arith, most, c.requires.count);
      within = omega arith;
    }

-- the rank in the middle
abbrev middle : ℕ → ℕ → ℕ
middle low high = low + (high - low) / 2

within_ranks : (low high count many : ℕ) → low < high → high ≤ count → count ≡ many → middle low high < many
within_ranks low high count many l m e = omega (arith, l, m, e)

pub unwrap-at-requires : goal.unwrap-at-requires
unwrap-at-requires c =
    let rank = middle c.loop-low.low c.loop-low.high in
    rw (c.value_of.ensures ∙ c.requires.placed c.args.top.part rank)
    (place_is_some c.args.top.part rank c.args.epochs.now
    (within_ranks c.loop-low.low c.loop-low.high c.args.count _ c.loop-low-test.true c.loop-low.invariant.within c.requires.count))

place : (c : After-unwrap-at) → epoch_place c.args.top.part (middle c.loop-low.low c.loop-low.high) c.args.epochs.now ≡ Some c.unwrap-at.result
place c = sym (c.value_of.ensures ∙ c.requires.placed c.args.top.part (middle c.loop-low.low c.loop-low.high)) ∙ c.unwrap-at.ensures

pub offset_bounds-epochs-at : goal.offset_bounds-epochs-at
offset_bounds-epochs-at c =
    let r = ranked_at c.args.top.part (middle c.loop-low.low c.loop-low.high) c.args.epochs.now c.unwrap-at.result (place c) in omega (arith, r.within)

pub bounds-epochs-at : goal.bounds-epochs-at
bounds-epochs-at c =
    let r = ranked_at c.args.top.part (middle c.loop-low.low c.loop-low.high) c.args.epochs.now c.unwrap-at.result (place c) in r.within

pub loop-low-preserved-then-epochs-at : goal.loop-low-preserved-then-epochs-at
loop-low-preserved-then-epochs-at c =
    let ranked = within_ranks c.loop-low.low c.loop-low.high c.args.count _ c.loop-low-test.true c.loop-low.invariant.within c.requires.count in
    let low =
    low_behind c.args.top.part c.args.top.epoch (middle c.loop-low.low c.loop-low.high) c.args.epochs.now c.unwrap-at.result _ c.requires.ascend ranked
    (place ((goal.at.loop-low-preserved-then-epochs-at c).After-unwrap-at)) c.if-epochs-at.true
    in
    record {
      low = omega (arith, low);
      high = c.loop-low.invariant.high;
      within = c.loop-low.invariant.within;
    }

pub loop-low-preserved : goal.loop-low-preserved
loop-low-preserved c =
    let ranked = within_ranks c.loop-low.low c.loop-low.high c.args.count _ c.loop-low-test.true c.loop-low.invariant.within c.requires.count in
    let high =
    high_before c.args.top.part c.args.top.epoch (middle c.loop-low.low c.loop-low.high) c.args.epochs.now c.unwrap-at.result _ c.requires.ascend ranked
    (place ((goal.at.loop-low-preserved c).After-unwrap-at)) c.if-epochs-at.false
    in
    record {
      low = c.loop-low.invariant.low;
      high = high;
      within = omega (arith, ranked, c.requires.count);
    }

pub returns : goal.returns
returns c =
    let both = how_many_both (is_epoch_of c.args.top.part) (is_low c.args.top.epoch) c.args.epochs.now in
    omega (arith, both, c.loop-low-test.false, c.loop-low.invariant.low, c.loop-low.invariant.high)
