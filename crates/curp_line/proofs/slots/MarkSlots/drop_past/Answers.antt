use Rattle.std.proofs.Common.{◌≡◌, length, map, take, drop, ◌++◌, ap, ◌∙◌, arith}
use Rattle.std.proofs.lemmas.List.{length-map}
use Rattle.curp_line.specs.Slots.{dropped_slot}
use Rattle.curp_line.proofs.Kept.{drops_keep_links, written}
use Rattle.curp_line.proofs.Links.{linked_map}
use Rattle.curp_line.proofs.slots.MarkSlots.drop_past.Goals as goal

dropped_in_place : (c : goal.After-self-1) → take c.self.inside.list.len (c.drop_marks.new.slots ++ drop (length c.drop_marks.new.slots) c.self.inside.list.items) ≡ map (dropped_slot c.args.part c.args.cut) c.self.inside.list.items
dropped_in_place c =
    let new : c.drop_marks.new.slots ≡ map (dropped_slot c.args.part c.args.cut) c.self.inside.list.items = c.drop_marks.ensures ∙ ap (map (dropped_slot c.args.part c.args.cut)) c.deref_mut.ensures.value in
    let long : length c.drop_marks.new.slots ≡ length c.self.inside.list.items = ap length new ∙ length-map c.self.inside.list.items (dropped_slot c.args.part c.args.cut) in
    written c.self.inside.list.len c.drop_marks.new.slots c.self.inside.list.items (omega (arith, long, c.deref_mut.ensures.len, ap length c.deref_mut.ensures.value)) ∙ new

pub invariant_of-self : goal.invariant_of-self
invariant_of-self c = rw (dropped_in_place c) (linked_map _ _ (dropped_slot c.args.part c.args.cut) (drops_keep_links c.args.part c.args.cut) c.self.inside.list.items c.self.invariant)

pub returns-clause-slots : goal.returns-clause-slots
returns-clause-slots c = dropped_in_place c ∙ ap (λ l. map (dropped_slot c.args.part c.args.cut) l.slots) c.self.view_is
