use Rattle.std.proofs.Common.{rules}
use Rattle.curp_sent.proofs.BatchLaws.{kept_push}
use Rattle.curp_sent.proofs.sent.SentMessages.push.Goals as goal

pub invariant_of-self : goal.invariant_of-self
invariant_of-self c =
    rw (c.push.ensures.items, c.push-2.ensures.items, c.new.ensures, c.saturating_add-self-inside.ensures)
    (kept_push _ _ c.self.inside.next c.self.inside.weight c.args.messages _ _ (search rules) (search rules) (search rules) (search rules) c.self.invariant)
