-- The marks that are kept, as slots come, are flagged and are dropped.
use Rattle.std.proofs.Common.{◌≡◌, ℕ, ◌&&◌, ◌||◌, Bool, true, false, not, if◌then◌else◌, List, [], ◌∷◌, ◌++◌, length, take, drop, map, Option, Some, None, refl, ap}
use Rattle.std.proofs.Math.Bool.{and-false}
use Rattle.std.proofs.lemmas.List.{take_at}
use Rattle.std.specs.List.{filter, list_any}
use Rattle.curp_cmd.specs.RequestId.{same_id}
use Rattle.curp_cmd.specs.declared.command.Command.{Command}
use Rattle.curp_cmd.specs.declared.command.RequestId.{RequestId}
use Rattle.curp_model.specs.Marks.{Mark, flagged, has_completed, is_dropped, is_flagged, is_shown, shown}
use Rattle.curp_msg.specs.declared.machine.Capture.{Capture}
use Rattle.curp_msg.specs.declared.machine.Completed.{Completed}
use Rattle.curp_line.specs.Slots.{asked, completes, dropped_slot, flagged_slot, is_completed, is_kept, is_of_part, is_of_request, is_shown_slot, kept_marks, shown_of}
use Rattle.curp_line.specs.declared.slot.MarkSlot.{MarkSlot}
use Rattle.curp_line.proofs.Links.{KeepsLinks}

-- ---- one more

pub marks_push : (slots : List MarkSlot) (s : MarkSlot) → s.dropped ≡ false → kept_marks (slots ++ s ∷ []) ≡ kept_marks slots ++ s.mark ∷ []
marks_push [] s e = rw e refl
marks_push (t ∷ slots) s e = go t.dropped (marks_push slots s e)
  where
    go : (b : Bool) → kept_marks (slots ++ s ∷ []) ≡ kept_marks slots ++ s.mark ∷ []
        → map (λ (r : MarkSlot). r.mark) (if not b then t ∷ filter is_kept (slots ++ s ∷ []) else filter is_kept (slots ++ s ∷ []))
        ≡ map (λ (r : MarkSlot). r.mark) (if not b then t ∷ filter is_kept slots else filter is_kept slots) ++ s.mark ∷ []
    go true rest = rest
    go false rest = ap (λ ms. t.mark ∷ ms) rest

-- ---- completions

flags : (c : Completed) (s : MarkSlot) (b d : Bool) (ss : List MarkSlot) → s.dropped ≡ d → is_flagged c c.by s.mark ≡ b → kept_marks (map (flagged_slot c) ss) ≡ flagged c (kept_marks ss)
    → kept_marks (map (flagged_slot c) (s ∷ ss)) ≡ flagged c (kept_marks (s ∷ ss))
flags c s true true ss d e rest = simp (e, d) rest
flags c s true false ss d e rest = simp (e, d) (ap (λ ms. record s.mark { completed = true } ∷ ms) rest)
flags c s false true ss d e rest = simp (e, d) rest
flags c s false false ss d e rest = simp (e, d) (ap (λ ms. s.mark ∷ ms) rest)

-- the marks that are kept are flagged where the slots are
pub marks_flagged : (c : Completed) (slots : List MarkSlot) → kept_marks (map (flagged_slot c) slots) ≡ flagged c (kept_marks slots)
marks_flagged c [] = refl
marks_flagged c (s ∷ slots) = flags c s (is_flagged c c.by s.mark) s.dropped slots refl refl (marks_flagged c slots)

-- a completion leaves the marks of other requests
pub other_not_flagged : (c : Completed) (s : MarkSlot) → is_of_request c.id s ≡ false → flagged_slot c s ≡ s
other_not_flagged c s e = go c.by
  where
    go : (by : Option Capture) → (if is_flagged c by s.mark then record s { mark = record s.mark { completed = true } } else s) ≡ s
    go None = rw e refl
    go (Some by) = rw e refl

pub flags_keep_links : (c : Completed) → KeepsLinks (flagged_slot c)
flags_keep_links c = record {
  id = λ s. go_id s (is_flagged c c.by s.mark);
  part = λ s. go_part s (is_flagged c c.by s.mark);
  of_request = λ s. go_request s (is_flagged c c.by s.mark);
  of_part = λ s. go_link s (is_flagged c c.by s.mark);
}
  where
    go_id : (s : MarkSlot) (b : Bool) → (if b then record s { mark = record s.mark { completed = true } } else s).mark.id ≡ s.mark.id
    go_id s true = refl
    go_id s false = refl

    go_part : (s : MarkSlot) (b : Bool) → (if b then record s { mark = record s.mark { completed = true } } else s).mark.part ≡ s.mark.part
    go_part s true = refl
    go_part s false = refl

    go_request : (s : MarkSlot) (b : Bool) → (if b then record s { mark = record s.mark { completed = true } } else s).earlier_of_request ≡ s.earlier_of_request
    go_request s true = refl
    go_request s false = refl

    go_link : (s : MarkSlot) (b : Bool) → (if b then record s { mark = record s.mark { completed = true } } else s).earlier_of_part ≡ s.earlier_of_part
    go_link s true = refl
    go_link s false = refl

-- ---- adoptions

drops : (part cut : ℕ) (s : MarkSlot) (b d : Bool) (ss : List MarkSlot) → s.dropped ≡ d → is_dropped part cut s.mark ≡ b
    → kept_marks (map (dropped_slot part cut) ss) ≡ filter (λ (m : Mark). not (is_dropped part cut m)) (kept_marks ss)
    → kept_marks (map (dropped_slot part cut) (s ∷ ss)) ≡ filter (λ (m : Mark). not (is_dropped part cut m)) (kept_marks (s ∷ ss))
drops part cut s true true ss d e rest = simp (e, d) rest
drops part cut s true false ss d e rest = simp (e, d) rest
drops part cut s false true ss d e rest = simp (e, d) rest
drops part cut s false false ss d e rest = simp (e, d) (ap (λ ms. s.mark ∷ ms) rest)

-- the marks that are kept are those that an adoption leaves
pub marks_dropped : (part cut : ℕ) (slots : List MarkSlot) → kept_marks (map (dropped_slot part cut) slots) ≡ filter (λ (m : Mark). not (is_dropped part cut m)) (kept_marks slots)
marks_dropped part cut [] = refl
marks_dropped part cut (s ∷ slots) = drops part cut s (is_dropped part cut s.mark) s.dropped slots refl refl (marks_dropped part cut slots)

-- an adoption leaves the marks of other partitions
pub other_not_dropped : (part cut : ℕ) (s : MarkSlot) → is_of_part part s ≡ false → dropped_slot part cut s ≡ s
other_not_dropped part cut s e = rw e refl

pub drops_keep_links : (part cut : ℕ) → KeepsLinks (dropped_slot part cut)
drops_keep_links part cut = record {
  id = λ s. go_id s (is_dropped part cut s.mark);
  part = λ s. go_part s (is_dropped part cut s.mark);
  of_request = λ s. go_request s (is_dropped part cut s.mark);
  of_part = λ s. go_link s (is_dropped part cut s.mark);
}
  where
    go_id : (s : MarkSlot) (b : Bool) → (if b then record s { dropped = true } else s).mark.id ≡ s.mark.id
    go_id s true = refl
    go_id s false = refl

    go_part : (s : MarkSlot) (b : Bool) → (if b then record s { dropped = true } else s).mark.part ≡ s.mark.part
    go_part s true = refl
    go_part s false = refl

    go_request : (s : MarkSlot) (b : Bool) → (if b then record s { dropped = true } else s).earlier_of_request ≡ s.earlier_of_request
    go_request s true = refl
    go_request s false = refl

    go_link : (s : MarkSlot) (b : Bool) → (if b then record s { dropped = true } else s).earlier_of_part ≡ s.earlier_of_part
    go_link s true = refl
    go_link s false = refl

-- ---- what is asked of the marks

pub other_completes_none : (id : RequestId) (s : MarkSlot) → is_of_request id s ≡ false → completes id s ≡ false
other_completes_none id s e = rw e (and-false (is_completed s))

any_kept : (id : RequestId) (s : MarkSlot) (d : Bool) (ss : List MarkSlot) → s.dropped ≡ d → has_completed (kept_marks ss) id ≡ list_any (completes id) ss
    → has_completed (kept_marks (s ∷ ss)) id ≡ list_any (completes id) (s ∷ ss)
any_kept id s true ss d rest = simp d rest
any_kept id s false ss d rest = simp d (ap (λ b. (s.mark.completed && same_id s.mark.id id) || b) rest)

pub completed_in_slots : (id : RequestId) (slots : List MarkSlot) → has_completed (kept_marks slots) id ≡ list_any (completes id) slots
completed_in_slots id [] = refl
completed_in_slots id (s ∷ slots) = any_kept id s s.dropped slots refl (completed_in_slots id slots)

shows : (s : MarkSlot) (d b : Bool) (ss : List MarkSlot) → s.dropped ≡ d → is_shown s.mark ≡ b → shown (kept_marks ss) ≡ map asked (map shown_of (filter is_shown_slot ss))
    → shown (kept_marks (s ∷ ss)) ≡ map asked (map shown_of (filter is_shown_slot (s ∷ ss)))
shows s true true ss d e rest = simp (e, d) rest
shows s true false ss d e rest = simp (e, d) rest
shows s false true ss d e rest = simp (e, d) (ap (λ (rs : List (RequestId × Command)). asked (shown_of s) ∷ rs) rest)
shows s false false ss d e rest = simp (e, d) rest

pub shown_in_slots : (slots : List MarkSlot) → shown (kept_marks slots) ≡ map asked (map shown_of (filter is_shown_slot slots))
shown_in_slots [] = refl
shown_in_slots (s ∷ slots) = shows s s.dropped (is_shown s.mark) slots refl refl (shown_in_slots slots)

-- ---- slots that are written in place

pub written : (n : ℕ) (new old : List MarkSlot) → length new ≡ n → take n (new ++ drop (length new) old) ≡ new
written n new old e = take_at new (drop (length new) old) n e
