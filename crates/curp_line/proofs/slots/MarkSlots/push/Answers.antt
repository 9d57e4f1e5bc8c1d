use Rattle.std.proofs.Common.{◌≡◌, ◌==◌, ℕ, false, [], ◌∷◌, ◌++◌, length, Option, ap, ◌∙◌, arith}
use Rattle.std.specs.Map.{lookup}
use Rattle.curp_cmd.specs.RequestId.{same_id}
use Rattle.curp_line.specs.declared.key.RequestKey.{RequestKey}
use Rattle.curp_line.specs.declared.slot.MarkSlot.{MarkSlot}
use Rattle.curp_line.specs.Slots.{is_of_part, is_of_request, last_place, with_slot}
use Rattle.curp_line.proofs.Links.{linked_push}
use Rattle.curp_line.proofs.slots.MarkSlots.push.Goals as goal

pub invariant_of-self : goal.invariant_of-self
invariant_of-self c =
    let long : c.len-at.result ≡ length c.self.inside.list.items = omega (arith, c.len-at.ensures) in
    rw c.push_reserved.ensures.items
    (linked_push
    (λ id. lookup (λ (key : RequestKey). same_id id key.0) c.self.inside.requests.items)
    (λ id. lookup (λ (key : RequestKey). same_id id key.0) c.put-earlier_of_request.new.self.items)
    (λ part. lookup (λ (key : ℕ). part == key) c.self.inside.parts.items)
    (λ part. lookup (λ (key : ℕ). part == key) c.put-earlier_of_part.new.self.items)
    c.self.inside.list.items
    (record { mark = c.args.mark; cuts_before = c.args.cuts_before; dropped = false; earlier_of_request = c.put-earlier_of_request.result; earlier_of_part = c.put-earlier_of_part.result })
    (rw c.id.ensures at c.put-earlier_of_request.ensures.before) (rw c.part.ensures at c.put-earlier_of_part.ensures.before)
    (λ id. rw (c.id.ensures, long) at (c.put-earlier_of_request.ensures.found (record { 0 = id })))
    (λ part. rw (c.part.ensures, long) at (c.put-earlier_of_part.ensures.found part))
    c.self.invariant)

pub returns-clause-slots : goal.returns-clause-slots
returns-clause-slots c =
    let request : c.put-earlier_of_request.result ≡ last_place (is_of_request c.args.mark.id) c.self.inside.list.items = (rw c.id.ensures at c.put-earlier_of_request.ensures.before) ∙ c.self.invariant.latest_of_request c.args.mark.id in
    let part : c.put-earlier_of_part.result ≡ last_place (is_of_part c.args.mark.part) c.self.inside.list.items = (rw c.part.ensures at c.put-earlier_of_part.ensures.before) ∙ c.self.invariant.latest_of_part c.args.mark.part in
    let slot : Option ℕ → Option ℕ → MarkSlot = λ r p. record { mark = c.args.mark; cuts_before = c.args.cuts_before; dropped = false; earlier_of_request = r; earlier_of_part = p } in
    c.push_reserved.ensures.items ∙ ap (λ r. c.self.inside.list.items ++ slot r c.put-earlier_of_part.result ∷ []) request
    ∙ ap (λ p. c.self.inside.list.items ++ slot (last_place (is_of_request c.args.mark.id) c.self.inside.list.items) p ∷ []) part
    ∙ ap (λ l. with_slot c.args.mark c.args.cuts_before l.slots) c.self.view_is
