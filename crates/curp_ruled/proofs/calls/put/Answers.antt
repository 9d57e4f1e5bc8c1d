use Rattle.std.proofs.Common.{◌∙◌, ap, sym}
use Rattle.curp_ruled.specs.declared.rule.Hand.{Hand}
use Rattle.curp_ruled.proofs.Keeps.{sends}
use Rattle.curp_ruled.proofs.calls.put.Goals as goal

pub send_as-requires-clause-rule : goal.send_as-requires-clause-rule
send_as-requires-clause-rule g c =
    let seen = c.loop.invariant.2 in (
      sends _ _ _ _ (ap (λ (v : Hand). v.sends) seen ∙ c.requires.sends) (ap (λ x. x.sender) c.loop.invariant.0 ∙ c.requires.own ∙ sym (ap (λ (v : Hand). v.number) seen)),
      λ items views h at. tt,
    )
