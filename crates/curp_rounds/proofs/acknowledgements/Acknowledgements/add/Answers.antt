use Rattle.std.proofs.Common.{◌∙◌, List, length, ap, arith}
use Rattle.curp_model.specs.Master.{Acknowledged}
use Rattle.curp_rounds.proofs.Acks.{places_pushed}
use Rattle.curp_rounds.proofs.acknowledgements.Acknowledgements.add.Goals as goal

pub invariant_of-self : goal.invariant_of-self
invariant_of-self c = rw c.reserve.ensures.items c.self.invariant

pub invariant_of-self-in_err-note : goal.invariant_of-self-in_err-note
invariant_of-self-in_err-note c = rw c.reserve.ensures.items (λ b. c.in_err-note.ensures.err b ∙ c.self.invariant b)

pub invariant_of-self-2 : goal.invariant_of-self-2
invariant_of-self-2 c =
    rw (c.push_reserved.ensures.items, c.reserve.ensures.items)
    (places_pushed _ _ c.self.inside.each.items c.args.acknowledged c.len.result c.self.invariant (omega (arith, c.len.ensures, ap (λ (xs : List Acknowledged). length xs) c.reserve.ensures.items))
    (λ b. rw c.backup.ensures at (c.in_ok-note.ensures.noted b)))
