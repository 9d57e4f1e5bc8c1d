use Rattle.std.proofs.Common.{◌≡◌, ◌++◌, ◌∷◌, [], List, length, OnOk, ap, subst, ◌∙◌}
use Rattle.curp_model.specs.Master.{Acknowledged}
use Rattle.curp_rounds.specs.Backups.{IsFirst, NoneBelow}
use Rattle.curp_rounds.proofs.Acks.{places_raised, raised_none, raised_there}
use Rattle.curp_rounds.proofs.acknowledgements.Acknowledgements.raise.Goals as goal

pub invariant_of-self : goal.invariant_of-self
invariant_of-self c =
    places_raised _ c.self.inside.each.items c.in-Some.at c.raise.new.self c.index_mut.result.now c.self.invariant
    (ap (λ (a : Acknowledged). a.backup) c.raise.ensures ∙ ap (λ (a : Acknowledged). a.backup) c.index_mut.ensures.value)

pub returns-in-Some-clause-raised : goal.returns-in-Some-clause-raised
returns-in-Some-clause-raised c =
    let first : IsFirst c.self.inside.each.items c.args.more.now.backup c.in-Some.at = rw (c.self.view_is, ← c.backup.ensures) c.in-Some.ensures.first in
    rw (c.raise.ensures, ← c.self.view_is)
    (raised_there c.self.inside.each.items c.args.more.now.backup c.in-Some.at c.args.more.now.length c.args.more.now.round c.index_mut.result.now c.index_mut.ensures.value first)

pub returns-in-None-clause-raised : goal.returns-in-None-clause-raised
returns-in-None-clause-raised c =
    let none : NoneBelow c.args.self.now c.args.more.now.backup (length c.args.self.now) = rw (← c.backup.ensures) c.in-None.ensures.none in
    subst (λ (all : List Acknowledged). OnOk c.add.result (c.add.new.self ≡ all))
    (ap (λ (a : Acknowledged). c.args.self.now ++ a ∷ []) c.copy.ensures
    ∙ raised_none c.args.self.now c.args.more.now.backup c.args.more.now.length c.args.more.now.round none)
    c.add.ensures.added
