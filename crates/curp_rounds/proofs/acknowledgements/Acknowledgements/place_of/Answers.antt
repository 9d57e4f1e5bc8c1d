use Rattle.std.proofs.Common.{◌∙◌}
use Rattle.curp_rounds.proofs.Acks.{found_first, found_none}
use Rattle.curp_rounds.proofs.acknowledgements.Acknowledgements.place_of.Goals as goal

pub returns-clause-first : goal.returns-clause-first
returns-clause-first c =
    rw (← c.self.view_is)
    (found_first c.self.inside.each.items c.args.backup.now c.copied.result (c.copied.ensures ∙ c.get.ensures.value ∙ c.self.invariant c.args.backup.now))

pub returns-clause-none : goal.returns-clause-none
returns-clause-none c =
    rw (← c.self.view_is)
    (found_none c.self.inside.each.items c.args.backup.now c.copied.result (c.copied.ensures ∙ c.get.ensures.value ∙ c.self.invariant c.args.backup.now))
