use Rattle.std.proofs.Common.{◌≡◌, refl, ap, sym, ◌∙◌}
use Rattle.curp_journal.specs.Journal.{NodeJournal}
use Rattle.curp_seat.proofs.Agains.{begun_again, does_own, journal_again}
use Rattle.curp_seat.proofs.kept.Kept.begun_with.Goals as goal

pub returns-then-not-branch-clause-exact : goal.returns-then-not-branch-clause-exact
returns-then-not-branch-clause-exact g c = rw (sym c.self.view_is) (
  λ never. absurd (cc never),
  λ is.
      let all = does_own g.N.Core.machine c.args.node c.args.node c.self.inside.items.items c.as_slice.result.now is.items_are refl c.as_slice.ensures.value in
      absurd (cc (c.in_ok-does_all.ensures.all.1 all, c.if-not-branch.true)),
)

pub returns-then-not-branch-clause-same : goal.returns-then-not-branch-clause-same
returns-then-not-branch-clause-same g c = λ same.
    let begins : c.args.node ≡ c.self.inside.opening.value = same ∙ sym (ap (λ (log : NodeJournal g.row.N.Denot). log.opening) c.self.view_is) in
    let all = does_own g.N.Core.machine c.self.inside.opening.value c.args.node c.self.inside.items.items c.as_slice.result.now c.self.invariant.0.items_are begins c.as_slice.ensures.value in
    absurd (cc (c.in_ok-does_all.ensures.all.1 all, c.if-not-branch.true))

pub invariant_of-self : goal.invariant_of-self
invariant_of-self g c = (
  begun_again g.N.Core.machine c.self.inside.opening.value c.of-opening.result.value c.args.node c.self.inside.node c.does_all.new.node c.self.inside.items.items c.as_slice.result.now c.self.inside.last
      c.self.invariant.0 c.of-opening.ensures c.as_slice.ensures.value (c.in_ok-does_all.ensures.all.0 c.if-not-branch.false) (c.in_ok-does_all.ensures.state c.if-not-branch.false),
  c.self.invariant.1,
)

pub returns-clause-exact : goal.returns-clause-exact
returns-clause-exact g c = rw (sym c.self.view_is) (
  λ _. journal_again g.N.Core.machine c.self.inside.opening.value c.args.node c.self.inside.node c.self.inside.items.items c.as_slice.result.now c.self.inside.last
      c.self.invariant.0 c.as_slice.ensures.value (c.in_ok-does_all.ensures.all.0 c.if-not-branch.false),
  λ _. refl,
)
