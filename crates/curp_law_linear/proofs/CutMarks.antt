-- The marks of adoptions among marks: a completion flags none of them, and an adoption adds one.
use Rattle.std.proofs.Common.{◌≡◌, ◌+◌, ◌==◌, ◌&&◌, if◌then◌else◌, ℕ, Bool, true, false, not, List, [], ◌∷◌, ◌++◌, append-nil, drop, length, map, refl, ap, sym, ◌∙◌, Option, Some, None}
use Rattle.std.specs.List.{filter}
use Rattle.std.proofs.lemmas.List.Elements.{filter-append}
use Rattle.curp_base.specs.Words.{Each}
use Rattle.curp_base.proofs.Lists.{Each-append, Each-from_at, Each-map, Each-weaker}
use Rattle.curp_cmd.specs.Node.{same_node}
use Rattle.curp_cmd.specs.RequestId.{same_id}
use Rattle.curp_cmd.specs.declared.command.Request.{Request}
use Rattle.curp_cmd.specs.declared.node.NodeId.{NodeId}
use Rattle.curp_msg.specs.declared.machine.Capture.{Capture}
use Rattle.curp_msg.specs.declared.machine.Completed.{Completed}
use Rattle.curp_model.specs.Marks as mark
use Rattle.curp_model.specs.Marks.{Cut, Executed, Mark, Place, adoptions, cut_mark, cuts_part, flagged, is_capture, is_cut, is_dropped, is_flagged, is_update_mark}
use Rattle.curp_model.specs.Master.{Captured}
use Rattle.curp_model.specs.Recovery.{MasterStage, Serving}
use Rattle.curp_model.specs.World.{World, capture_mark, master_marks, new_captures, op_marks, with_completion}
use Rattle.curp_law_linear.proofs.Lists.{filter_within}
use Rattle.curp_law_linear.proofs.QuicksAdopted.{cut_stays}
use Rattle.curp_law_linear.specs.OfWorld.{cuts}
use Rattle.curp_law_linear.proofs.ReadsDropped.{replayed_more}
use Rattle.curp_cmd.proofs.Nodes.{same_node-true}
use Rattle.curp_law_linear.proofs.ReadsMarks.{ops_only}

-- marks of which none is that of an adoption
pub no_cuts : (part : ℕ) (more : List Mark) → Each (λ (m : Mark). is_cut m.place ≡ false) more → cuts part more ≡ []
no_cuts part [] none = refl
no_cuts part (m ∷ ms) none = rw none.0 (no_cuts part ms none.1)

pub cuts_more : (part : ℕ) (marks more : List Mark) → Each (λ (m : Mark). is_cut m.place ≡ false) more → cuts part (marks ++ more) ≡ cuts part marks
cuts_more part marks more none = filter-append (cuts_part part) marks more ∙ ap (λ (cs : List Mark). cuts part marks ++ cs) (no_cuts part more none) ∙ append-nil (cuts part marks)

-- an update's mark isn't that of an adoption
pub update_no_cut : (m : Mark) → is_update_mark m.place ≡ true → is_cut m.place ≡ false
update_no_cut m = go m.place
  where
    go : (p : Place) → is_update_mark p ≡ true → is_cut p ≡ false
    go (Executed index) e = refl
    go _ e = absurd cc

-- a completion flags none of them
flags_no_cut : (c : Completed) (by : Option Capture) (m : Mark) → is_cut m.place ≡ true → is_flagged c by m ≡ false
flags_no_cut c None m cut = ap (λ (b : Bool). same_id m.id c.id && b) (no_update m.place cut) ∙ and_none (same_id m.id c.id)
  where
    no_update : (p : Place) → is_cut p ≡ true → is_update_mark p ≡ false
    no_update (Executed index) e = absurd cc
    no_update _ e = refl

    and_none : (b : Bool) → (b && false) ≡ false
    and_none true = refl
    and_none false = refl
flags_no_cut c (Some by) m cut =
    ap (λ (b : Bool). same_id m.id c.id && same_node m.master by.master && (m.epoch == by.epoch) && b) (no_capture m.place cut)
    ∙ none (same_id m.id c.id) (same_node m.master by.master) (m.epoch == by.epoch)
  where
    no_capture : (p : Place) → is_cut p ≡ true → is_capture by.number p ≡ false
    no_capture (Cut number long) e = refl
    no_capture _ e = absurd cc

    none : (a b c : Bool) → (a && b && c && false) ≡ false
    none true true true = refl
    none true true false = refl
    none true false c = refl
    none false b c = refl

pub cuts_completed : (part : ℕ) (c : Completed) (marks : List Mark) → cuts part (flagged c marks) ≡ cuts part marks
cuts_completed part c [] = refl
cuts_completed part c (m ∷ ms) = go (is_flagged c c.by m) (is_cut m.place) refl refl (cuts_completed part c ms)
  where
    flag : Bool → Mark
    flag f = if f then record m { completed = true } else m

    go : (f b : Bool) → is_flagged c c.by m ≡ f → is_cut m.place ≡ b → cuts part (flagged c ms) ≡ cuts part ms
        → (if is_cut (flag f).place && ((flag f).part == part) then flag f ∷ cuts part (flagged c ms) else cuts part (flagged c ms)) ≡ (if is_cut m.place && (m.part == part) then m ∷ cuts part ms else cuts part ms)
    go true true is cut ih = absurd (let bad : true ≡ false = sym is ∙ flags_no_cut c c.by m cut in cc)
    go true false is cut ih = rw cut ih
    go false b is cut ih = ap (λ (cs : List Mark). if is_cut m.place && (m.part == part) then m ∷ cs else cs) ih

pub cuts_after : (part : ℕ) (done : Option Completed) (marks : List Mark) → cuts part (with_completion done marks) ≡ cuts part marks
cuts_after part None marks = refl
cuts_after part (Some c) marks = cuts_completed part c marks

-- an adoption adds one to those of its partition
pub cuts_adopted : (part : ℕ) (node : NodeId) (its epoch cut : ℕ) (rs : List Request) (marks : List Mark)
    → cuts part (mark.adopted node its epoch cut rs marks) ≡ (if its == part then cuts part marks ++ cut_mark node its epoch (adoptions its marks + 1) cut ∷ [] else cuts part marks)
cuts_adopted part node its epoch cut rs marks =
    let more = replayed_more node its epoch cut rs (kept ++ own ∷ []) in
    ap (cuts part) more.is
    ∙ cuts_more part (kept ++ own ∷ []) more.more (Each-weaker (λ (m : Mark). is_update_mark m.place ≡ true) (λ (m : Mark). is_cut m.place ≡ false) update_no_cut more.more more.ops)
    ∙ filter-append (cuts_part part) kept (own ∷ [])
    ∙ ap (λ (cs : List Mark). cs ++ cuts part (own ∷ [])) (filter_within (cuts_part part) stays marks (λ m y. cut_stays its cut m (both (is_cut m.place) (m.part == part) y)))
    ∙ go (its == part)
  where
    stays : Mark → Bool
    stays m = not (is_dropped its cut m)

    kept : List Mark
    kept = filter stays marks

    own : Mark
    own = cut_mark node its epoch (adoptions its marks + 1) cut

    both : (a b : Bool) → (a && b) ≡ true → a ≡ true
    both true b e = refl
    both false b e = absurd cc

    go : (b : Bool) → cuts part marks ++ (if b then own ∷ [] else []) ≡ (if b then cuts part marks ++ own ∷ [] else cuts part marks)
    go true = refl
    go false = append-nil (cuts part marks)

-- what a master pushes and captures adds none
pub pushes_no_cut : (node : NodeId) (m k : MasterStage) → Each (λ (x : Mark). is_cut x.place ≡ false) (master_marks node m k)
pushes_no_cut node (Serving x) (Serving y) =
    Each-append NoCut ops (map (capture_mark node y.part y.epoch) new)
    (Each-weaker (λ (o : Mark). is_update_mark o.place ≡ true) NoCut update_no_cut ops (ops_only node y.part y.epoch (length x.log) (drop (length x.log) y.log)))
    (Each-map NoCut (capture_mark node y.part y.epoch) new (Each-from_at (λ (c : Captured). NoCut (capture_mark node y.part y.epoch c)) new (λ k c at. refl)))
  where
    NoCut : Mark → Type 0
    NoCut o = is_cut o.place ≡ false

    ops : List Mark
    ops = op_marks node y.part y.epoch (length x.log) (drop (length x.log) y.log)

    new : List Captured
    new = new_captures x.captured y.captures
pushes_no_cut node _ _ = tt

pub cuts_marked : (w v : World) (node : NodeId) (m k : MasterStage) (b : Bool) → v.marks ≡ (if b then w.marks ++ master_marks node m k else w.marks) → (part : ℕ) → cuts part v.marks ≡ cuts part w.marks
cuts_marked w v node m k b marked part = ap (cuts part) marked ∙ go b
  where
    go : (b : Bool) → cuts part (if b then w.marks ++ master_marks node m k else w.marks) ≡ cuts part w.marks
    go true = cuts_more part w.marks (master_marks node m k) (pushes_no_cut node m k)
    go false = refl

-- ---- what a completion flags

-- a read that a completion flags is of its capture
pub hit_capture : (c : Completed) (by : Capture) (m : Mark) → is_flagged c (Some by) m ≡ true → (m.master ≡ by.master) × (is_capture by.number m.place ≡ true)
hit_capture c by m flags = let t = all_true (same_id m.id c.id) (same_node m.master by.master) (m.epoch == by.epoch) (is_capture by.number m.place) flags in (same_node-true m.master by.master t.0, t.1)
  where
    all_true : (a b c d : Bool) → (a && b && c && d) ≡ true → (b ≡ true) × (d ≡ true)
    all_true true true true true e = (refl, refl)
    all_true true true true false e = absurd cc
    all_true true true false d e = absurd cc
    all_true true false c d e = absurd cc
    all_true false b c d e = absurd cc
