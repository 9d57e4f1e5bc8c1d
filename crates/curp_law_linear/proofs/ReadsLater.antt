-- What a world keeps of reads, after a step in which no master moves.
use Rattle.std.proofs.Common.{◌≡◌, ◌⊎◌, inl, inr, ℕ, ◌<◌, ◌≤◌, true, refl, sym, ◌∙◌, subst, arith, [], ap, ap₂}
use Rattle.curp_base.specs.Words.{At, Each}
use Rattle.curp_base.proofs.Lists.{Each-weaker}
use Rattle.curp_cmd.specs.Node.{client_node}
use Rattle.curp_cmd.specs.declared.node.NodeId.{NodeId}
use Rattle.curp_msg.specs.Moved.{says}
use Rattle.curp_msg.specs.declared.body.Body.TheVariants as body
use Rattle.curp_msg.specs.declared.body.Worth.{Worth}
use Rattle.curp_msg.specs.declared.config.PartConfig.{PartConfig}
use Rattle.curp_model.specs.Marks.{Looked, Mark, Place, Quick, is_capture}
use Rattle.curp_model.specs.Master.{Captured, MasterState}
use Rattle.curp_model.specs.Named.{IsMaster}
use Rattle.curp_model.specs.Recovery.{Serving}
use Rattle.curp_model.specs.World.{World}
use Rattle.curp_facts.specs.Facts.{IsAdoptedNow, WasSent}
use Rattle.curp_facts.specs.Growth.{CoreGrows}
use Rattle.curp_facts.specs.Kept.{PassedBy, lists_of_master}
use Rattle.curp_facts.specs.Known.{Known}
use Rattle.curp_law_linear.specs.Ordered.{CaptureOk, CutsFollow, IsStored, LooksNumbered, LooksReached, LooksStored, Ordered, StoredFrom, WorthOk, CutsTimed, IsLow, QuickOk}
use Rattle.curp_law_linear.specs.Refined.{Refines}
use Rattle.curp_law_linear.proofs.ReadsMoves.{KeepsStored, NoneDrops, worth_later}
use Rattle.curp_law_linear.proofs.ReadsPassed.{NewerLists, NoneLate, capture_later, NoneLives}
use Rattle.curp_law_linear.proofs.ReadsStored.{from_stays, looks_stored, stored_stays}
use Rattle.curp_facts.specs.Predecessors.{Predecessors}
use Rattle.curp_msg.specs.declared.machine.Capture.{Capture}
use Rattle.curp_cmd.specs.declared.command.RequestId.{RequestId}
use Rattle.curp_law_linear.specs.Line.{QuickLow}
use Rattle.curp_law_linear.proofs.QuickLater.{low_later, quick_later}
use Rattle.curp_msg.specs.declared.body.Quick.{Quick as QuickValue}
use Rattle.std.proofs.lemmas.Bool.{eq-eqb}
use Rattle.curp_law_kept.proofs.Gives.{Follows, serving_later}

-- what is kept of reads
pub record ReadsOk (w : World) : Type 0 where
  pub cuts_follow : CutsFollow w
  pub cuts_timed : CutsTimed w
  pub numbered_looks : LooksNumbered w
  pub worths : (node : NodeId) (v : Worth) → WasSent w (says node (client_node v.id.client) (body.Worth v)) → WorthOk w node v
  pub quicks : (node : NodeId) (q : QuickValue) → WasSent w (says node (client_node q.id.client) (body.Quick q)) → QuickOk w node q
  pub captures : (node : NodeId) (m : MasterState) → IsMaster w node (Serving m) → Each (CaptureOk w node m) m.captures
  pub reached : LooksReached w
  pub stored : LooksStored w

-- The mark of a read was there before. It is completed only where it was so before, or where what it saw is stored
pub record ReadWas (w v : World) (m : Mark) : Type 0 where
  pub place : ℕ
  pub old : Mark
  pub stands : At w.marks place old
  pub its_master : old.master ≡ m.master
  pub its_part : old.part ≡ m.part
  pub its_epoch : old.epoch ≡ m.epoch
  pub its_id : old.id ≡ m.id
  pub its_place : old.place ≡ m.place
  pub completed : m.completed ≡ true → (old.completed ≡ true) ⊎ ((number long : ℕ) → m.place ≡ Looked number long → StoredFrom v m.master m.part long)

-- each mark of a read was there before, no two at one place
pub record ReadsWere (w v : World) : Type 0 where
  pub was : (k number : ℕ) (m : Mark) → At v.marks k m → is_capture number m.place ≡ true → ReadWas w v m
  pub apart : (j k number : ℕ) (m o : Mark) (a : At v.marks j m) (b : At v.marks k o) (p : is_capture number m.place ≡ true) (q : is_capture number o.place ≡ true)
      → (was j number m a p).place ≡ (was k number o b q).place → j ≡ k

-- looks and quick marks are of captures
pub looked_capture : (number long : ℕ) (x : Place) → x ≡ Looked number long → is_capture number x ≡ true
looked_capture number long x is = ap (is_capture number) is ∙ eq-eqb number number refl

pub quick_capture : (number : ℕ) (x : Place) → x ≡ Quick number → is_capture number x ≡ true
quick_capture number x is = ap (is_capture number) is ∙ eq-eqb number number refl

-- an entry has the part, the epoch and the master of one that was there before
pub record EntryStays (w : World) (c : PartConfig) : Type 0 where
  pub entry : PartConfig
  pub now : IsAdoptedNow w entry
  pub its_part : entry.part ≡ c.part
  pub its_epoch : entry.epoch ≡ c.epoch
  pub its_master : entry.master ≡ c.master

-- what the looks of its partition saw is stored by the entry's master
abbrev pub LooksStand : World → PartConfig → Type 0
LooksStand v c = (k number long : ℕ) (m : Mark) → At v.marks k m → m.place ≡ Looked number long → m.part ≡ c.part → IsStored v c.master 0 long

module _ {w v : World} (s : Follows w v) where
  -- a read that was there is of a capture that its master has made
  pub made_later : LooksNumbered w → (number : ℕ) (m : Mark) → is_capture number m.place ≡ true → ReadWas w v m
      → (x : MasterState) × IsMaster v m.master (Serving x) × (number ≤ x.captured) × (x.part ≡ m.part) × (x.epoch ≡ m.epoch)
  made_later numbered number m is b =
      let h = numbered.made b.place number b.old b.stands (ap (is_capture number) b.its_place ∙ is) in
      let o = serving_later s b.old.master h.0 h.1 in
      let on : CoreGrows _ _ = o.2.life in (
        o.0,
        subst (λ (node : NodeId). IsMaster v node (Serving o.0)) b.its_master o.1,
        omega (arith, h.2, on.captured),
        on.part ∙ h.3 ∙ b.its_part,
        on.epoch ∙ h.4 ∙ b.its_epoch,
      )

  pub numbered_later : LooksNumbered w → ReadsWere w v → LooksNumbered v
  numbered_later numbered were = record {
    made = λ k number m at is. made_later numbered number m is (were.was k number m at is);
    once = λ j k number m o at there is too same.
        let a = were.was j number m at is in
        let b = were.was k number o there too in
        were.apart j k number m o at there is too
        (numbered.once a.place b.place number a.old b.old a.stands b.stands (ap (is_capture number) a.its_place ∙ is) (ap (is_capture number) b.its_place ∙ too) (a.its_master ∙ same ∙ sym b.its_master));
  }

  -- what a completed look saw stays stored
  pub completed_later : LooksReached w → (number long : ℕ) (m : Mark) → m.place ≡ Looked number long → m.completed ≡ true → ReadWas w v m → StoredFrom v m.master m.part long
  completed_later reached number long m look completed b = elim (b.completed completed) [
    | inl before ↦
        let h = from_stays s b.old.master b.old.part long (reached.completed b.place number long b.old b.stands (b.its_place ∙ look) before) in
        subst (λ (node : NodeId). StoredFrom v node m.part long) b.its_master (subst (λ (part : ℕ). StoredFrom v b.old.master part long) b.its_part h)
    | inr now ↦ now number long look
  ]

  -- and what one of an earlier epoch saw, where the entry has its master
  pub older_later : LooksReached w → (number long : ℕ) (m : Mark) → m.place ≡ Looked number long → ReadWas w v m → (c : PartConfig) → c.part ≡ m.part → m.epoch < c.epoch
      → EntryStays w c → IsStored v c.master 0 long
  older_later reached number long m look b c part earlier e =
      let h = reached.older b.place number long b.old e.entry b.stands (b.its_place ∙ look) e.now (e.its_part ∙ part ∙ sym b.its_part) (omega (arith, earlier, e.its_epoch, b.its_epoch)) in
      stored_stays s c.master 0 long (subst (λ (node : NodeId). IsStored w node 0 long) e.its_master h)

  -- and what is before a quick mark
  pub quick_reached : (ordered : Ordered w) → Refines w v → (number : ℕ) (m : Mark) → m.place ≡ Quick number → ReadWas w v m → IsLow v number m
  quick_reached ordered r number m is b =
      let h : IsLow w number b.old = ordered.reached.quick b.place number b.old b.stands (b.its_place ∙ is) in
      let o : IsLow v number b.old = low_later ordered s r number b.old h in
      let by : Capture = record { master = m.master; epoch = m.epoch; number = number } in
      record {
        long = o.long;
        other = o.other;
        low = subst (λ (id : RequestId). QuickLow v.marks by m.part o.long id) b.its_id
            (subst (λ (part : ℕ). QuickLow v.marks by part o.long b.old.id) b.its_part
            (subst (λ (z : Capture). QuickLow v.marks z b.old.part o.long b.old.id) (ap₂ (λ (node : NodeId) (epoch : ℕ). record { master = node; epoch = epoch; number = number }) b.its_master b.its_epoch) o.low));
        stored = subst (λ (part : ℕ). StoredFrom v o.other part o.long) b.its_part o.stored;
      }

  pub reached_later : (ordered : Ordered w) → Refines w v → ReadsWere w v → ((c : PartConfig) → IsAdoptedNow v c → EntryStays w c ⊎ LooksStand v c) → LooksReached v
  reached_later ordered r were entries = record {
    completed = λ k number long m at look completed. completed_later ordered.reached number long m look completed (were.was k number m at (looked_capture number long m.place look));
    older = λ k number long m c at look now part earlier. elim (entries c now) [
      | inl e ↦ older_later ordered.reached number long m look (were.was k number m at (looked_capture number long m.place look)) c part earlier e
      | inr stand ↦ stand k number long m at look (sym part)
    ];
    quick = λ k number m at is. quick_reached ordered r number m is (were.was k number m at (quick_capture number m.place is));
  }

-- A step in which no master moves: its looks, its entries and what is said in it. What each backup of a present list has, no move
-- drops; of captures that wait it drops none, or they are passed by
pub record ReadStep (w v : World) (r : Refines w v) : Type 0 where
  pub cuts_follow : CutsFollow v
  pub cuts_timed : CutsTimed v
  pub looks : ReadsWere w v
  pub entries : (c : PartConfig) → IsAdoptedNow v c → EntryStays w c ⊎ LooksStand v c
  pub newer : NewerLists w v
  pub late : NoneLate w v
  pub keeps : KeepsStored w r.moves
  pub lives : NoneLives w v
  pub quicks : (node : NodeId) (q : QuickValue) → WasSent v (says node (client_node q.id.client) (body.Quick q)) → WasSent w (says node (client_node q.id.client) (body.Quick q))
  pub worths : (node : NodeId) (x : Worth) → WasSent v (says node (client_node x.id.client) (body.Worth x)) → WasSent w (says node (client_node x.id.client) (body.Worth x))
  pub masters : (node : NodeId) (m : MasterState) → IsMaster v node (Serving m) → IsMaster w node (Serving m) ⊎ (m.captures ≡ [])
  pub waits : (node : NodeId) (m : MasterState) → IsMaster w node (Serving m) → (c : Captured) → CaptureOk w node m c
      → NoneDrops r.moves m.part c.length ⊎ PassedBy v (lists_of_master node m) m c

-- such a step keeps what is kept of reads
pub reads_later : {w v : World} → Known w → Predecessors w → (ordered : Ordered w) → Follows w v → Known v → Predecessors v → (r : Refines w v) → ReadStep w v r → ReadsOk v
reads_later {w} {v} known chain ordered s now later r step = record {
  cuts_follow = step.cuts_follow;
  cuts_timed = step.cuts_timed;
  numbered_looks = numbered_later s ordered.numbered_looks step.looks;
  worths = λ node x sent. worth_later ordered r known chain s step.keeps node x (ordered.worths node x (step.worths node x sent));
  quicks = λ node q sent. quick_later ordered s r step.lives node q (ordered.quicks node q (step.quicks node q sent));
  captures = λ node m is. elim (step.masters node m is) [
    | inl was ↦ waiting node m was
    | inr none ↦ subst (Each (CaptureOk v node m)) (sym none) tt
  ];
  reached = reached;
  stored = looks_stored now later reached;
}
  where
    reached : LooksReached v
    reached = reached_later s ordered r step.looks step.entries

    waiting : (node : NodeId) (m : MasterState) → IsMaster w node (Serving m) → Each (CaptureOk v node m) m.captures
    waiting node m was = Each-weaker (CaptureOk w node m) (CaptureOk v node m) (λ c ok. elim (step.waits node m was c ok) [
      | inl none ↦ capture_later known s ordered r step.newer step.late node m m refl refl c (λ b low never. low) ok none
      | inr passed ↦ inr passed
    ]) m.captures (ordered.captures node m was)
