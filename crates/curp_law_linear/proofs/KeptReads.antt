-- The values that were sent, and the captures that wait, have their marks.
use Rattle.std.proofs.Common.{◌≡◌, ◌⊎◌, inl, inr, ℕ, ◌<◌, refl, sym, ◌∙◌, subst}
use Rattle.curp_base.proofs.Lists.{Each-weaker}
use Rattle.curp_cmd.specs.declared.command.Answer.{Answer}
use Rattle.curp_cmd.specs.declared.command.RequestId.{RequestId}
use Rattle.curp_cmd.specs.declared.node.NodeId.{NodeId}
use Rattle.curp_msg.specs.Moved.{says}
use Rattle.curp_msg.specs.declared.body.Body.TheVariants as body
use Rattle.curp_model.specs.Master.{Captured, MasterState}
use Rattle.curp_model.specs.Recovery.{Serving}
use Rattle.curp_model.specs.World.{World}
use Rattle.curp_facts.specs.Facts.{Lists, WasSent}
use Rattle.curp_facts.specs.Kept.{CapturesOk, PassedBy, ValueMarked, ValuesMarked, lists_of_master}
use Rattle.curp_facts.specs.Nodes.{ServingOk}
use Rattle.curp_facts.specs.Known.{Known}
use Rattle.curp_law_linear.specs.Line.{LookGives}
use Rattle.curp_law_linear.specs.Ordered.{CaptureOk, Ordered, WorthOk}

-- a look that gives a value has its mark
marked_of : {w : World} (master : NodeId) (part epoch number long : ℕ) (id : RequestId) (a : Answer) → LookGives w.marks (record { master = master; epoch = epoch; number = number }) part long id a
    → ValueMarked w master part epoch number id a
marked_of master part epoch number long id a look = record {
  place = look.place;
  mark = look.mark;
  stands = look.stands;
  its_master = look.its_master;
  its_part = look.its_part;
  its_epoch = look.its_epoch;
  its_id = look.its_id;
  length = long;
  is_capture = look.is_look;
  gives = look.gives;
}

-- each value that was sent has its mark
pub values_kept : {w : World} → Known w → Ordered w → ValuesMarked w
values_kept {w} known ordered l given v sent =
    let ok : WorthOk w l.master v = ordered.worths l.master v sent in
    let home = (known.names.agree ok.lists l ok.adopted.given given).by_master ok.its_master in
    subst (λ (part : ℕ). ValueMarked w l.master part l.epoch v.capture v.id v.answer) home.0
    (subst (λ (epoch : ℕ). ValueMarked w l.master ok.lists.part epoch v.capture v.id v.answer) (sym ok.its_epoch ∙ home.1)
    (marked_of l.master ok.lists.part v.epoch v.capture ok.long v.id v.answer ok.look))

-- what passes a capture by does so whichever lists of the master's partition and epoch it is told by
passed_of : {w : World} (l k : Lists) (m : MasterState) (c : Captured) → k.part ≡ l.part → k.epoch ≡ l.epoch → k.master ≡ l.master → PassedBy w k m c → PassedBy w l m c
passed_of {w} l k m c part epoch master p = record {
  later = p.later;
  adopted = p.adopted;
  its_part = p.its_part ∙ part;
  above = subst (λ (e : ℕ). e < p.later.epoch) epoch p.above;
  first = λ other was same above. p.first other was (same ∙ sym part) (subst (λ (e : ℕ). e < other.epoch) (sym epoch) above);
  order = p.order;
  ordered = p.ordered;
  b = p.b;
  is = p.is;
  fenced = subst (λ (e : ℕ). e < p.b.fence) epoch p.fenced;
  passed = elim p.passed [
    | inl short ↦ inl short
    | inr late ↦ inr (record {
      known = late.known;
      sent = λ a long said its stored. late.sent a long (subst (λ (to : NodeId). WasSent w (says p.order.backup to (body.Appended a))) (sym master) said) (its ∙ sym epoch) stored;
    })
  ];
}

-- each capture that waits is marked or passed by
pub captures_kept : {w : World} → Known w → Ordered w → CapturesOk w
captures_kept {w} known ordered l given m is =
    Each-weaker (CaptureOk w l.master m) (λ c. ValueMarked w l.master l.part l.epoch c.number c.id c.answer ⊎ PassedBy w l m c) one m.captures (ordered.captures l.master m is)
  where
    serving : ServingOk w l.master m
    serving = known.inv.masters l.master (Serving m) is

    home : (m.part ≡ l.part) × (m.epoch ≡ l.epoch)
    home = (known.names.agree (lists_of_master l.master m) l serving.adopted.given given).by_master refl

    one : (c : Captured) → CaptureOk w l.master m c → ValueMarked w l.master l.part l.epoch c.number c.id c.answer ⊎ PassedBy w l m c
    one c (inl look) = inl (subst (λ (part : ℕ). ValueMarked w l.master part l.epoch c.number c.id c.answer) home.0
        (subst (λ (epoch : ℕ). ValueMarked w l.master m.part epoch c.number c.id c.answer) home.1 (marked_of l.master m.part m.epoch c.number c.length c.id c.answer look)))
    one c (inr passed) = inr (passed_of l (lists_of_master l.master m) m c home.0 home.1 refl passed)
