use Rattle.std.proofs.Common.{◌≡◌, ◌+◌, ◌==◌, ℕ, true, length, ap, sym, ◌∙◌, arith}
use Rattle.std.specs.Map.{lookup}
use Rattle.curp_line.specs.Cuts.{how_many, is_epoch_of}
use Rattle.curp_line.proofs.Ascending.{how_many_all, how_many_most}
use Rattle.curp_line.proofs.Ranks.{ranked_push}
use Rattle.curp_line.proofs.cut_epochs.CutEpochs.add.Goals as goal
use Rattle.curp_line.proofs.cut_epochs.CutEpochs.add.Goals.{After-len-place}

-- how many epochs the partition has
counted : (c : After-len-place) → c.count_of-count.result ≡ how_many (is_epoch_of c.args.added.part) c.self.inside.epochs.items
counted c = c.count_of-count.ensures ∙ ap (λ e. how_many (is_epoch_of c.args.added.part) e.epochs) (sym c.self.view_is)

-- how many there are
long : (c : After-len-place) → c.len-place.result ≡ length c.self.inside.epochs.items + 1
long c =
    let before = how_many_all c.self.inside.epochs.items in
    let after = how_many_all c.add_epoch.new.epochs.items in
    let more = c.add_epoch.ensures.counted (λ _. true) in
    omega (arith, before, after, more, c.len-place.ensures)

pub overflow_add-count : goal.overflow_add-count
overflow_add-count c =
    let before = (goal.at.overflow_add-count c).After-len-place in
    let most = how_many_most (is_epoch_of c.args.added.part) c.self.inside.epochs.items in
    omega (arith, counted before, long before, most)

pub invariant_of-self : goal.invariant_of-self
invariant_of-self c =
    let before = (goal.at.invariant_of-self c).After-len-place in
    ranked_push (λ part. lookup (λ (key : ℕ). part == key) c.self.inside.counts.items) (λ part. lookup (λ (key : ℕ). part == key) c.put-2.new.self.items)
    c.self.inside.places.items c.put.new.self.items c.self.inside.epochs.items c.add_epoch.new.epochs.items c.args.added c.count_of-count.result _
    (counted before) (omega (arith, long before)) c.add_epoch.ensures.parts c.add_epoch.ensures.counted c.add_epoch.ensures.ascend c.put-2.ensures.found c.put.ensures.found c.self.invariant
