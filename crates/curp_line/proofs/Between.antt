-- The marks of requests between those of adoptions, as marks come, are flagged and are dropped.
use Rattle.std.proofs.Common.{◌≡◌, ℕ, suc, ◌+◌, ◌<◌, ◌≤◌, ◌==◌, ◌&&◌, ◌||◌, nat_le, if◌then◌else◌, not, Bool, true, false, List, [], ◌∷◌, ◌++◌, length, map, Option, Some, None, refl, ap, sym, ◌∙◌, arith}
use Rattle.std.proofs.Math.Bool.{and-false}
use Rattle.std.proofs.lemmas.Bool.Decides.{nat_tests}
use Rattle.std.proofs.lemmas.List.{append-nil, append_assoc, map-append}
use Rattle.std.proofs.lemmas.List.Elements.{filter-append}
use Rattle.std.proofs.lemmas.List.Folds.{list_any-append}
use Rattle.std.specs.List.{filter, list_any, position_or_len}
use Rattle.curp_base.specs.Words.{Each}
use Rattle.curp_base.proofs.Lists.{Each-append, Each-from_at, Each-map, Each-weaker, Each-filter}
use Rattle.curp_cmd.specs.RequestId.{same_id}
use Rattle.curp_cmd.specs.declared.command.RequestId.{RequestId}
use Rattle.curp_model.proofs.Clashes.{any_or}
use Rattle.curp_model.specs.Marks.{Place, Executed, Looked, Quick, Cut as AtCut, Mark, is_past, adoptions, adoptions_to, cuts_at, cuts_part, flagged, has_completed, is_cut, is_dropped, is_flagged, put_at}
use Rattle.curp_msg.specs.declared.machine.Capture.{Capture}
use Rattle.curp_msg.specs.declared.machine.Completed.{Completed}
use Rattle.curp_line.specs.Cuts.{how_many, is_cut_at, is_cut_of, is_cut_to, mark_of}
use Rattle.curp_line.specs.Slots.{StandsWithin, completes, dropped_slot, flagged_slot, is_of_part, is_of_request, kept_marks, last_place, marks_behind, marks_from, with_slot}
use Rattle.curp_line.specs.declared.cuts.Cut.{Cut}
use Rattle.curp_line.specs.declared.slot.MarkSlot.{MarkSlot}
use Rattle.curp_line.proofs.Ascending.{how_many_append, how_many_cons, one}
use Rattle.curp_line.proofs.Kept.{completed_in_slots, marks_dropped, marks_flagged, marks_push}

-- ---- what passes a test

pub none_passes : {A : Type 0} (p : A → Bool) (xs : List A) → Each (λ x. p x ≡ false) xs → filter p xs ≡ []
none_passes p [] h = refl
none_passes p (x ∷ xs) h = rw h.0 (none_passes p xs h.1)

-- a test that is the same of what becomes of an item
filter_same : {A : Type 0} (p : A → Bool) (f : A → A) → ((x : A) → p (f x) ≡ p x) → (xs : List A) → filter p (map f xs) ≡ map f (filter p xs)
filter_same p f same [] = refl
filter_same {A} p f same (x ∷ xs) = rw (same x) (go (p x) (filter_same p f same xs))
  where
    go : (b : Bool) → filter p (map f xs) ≡ map f (filter p xs) → (if b then f x ∷ filter p (map f xs) else filter p (map f xs)) ≡ map f (if b then x ∷ filter p xs else filter p xs)
    go true rest = ap (λ ys. f x ∷ ys) rest
    go false rest = rest

-- ---- the marks behind so many adoptions

same_number : (a n : ℕ) → a ≡ n → (a == n) ≡ true
same_number a n e = grind (arith, nat_tests)

other_number : (a n : ℕ) → (a ≡ n → ⊥) → (a == n) ≡ false
other_number a n e = grind (arith, nat_tests, e)

behind_here : (n : ℕ) (slots : List MarkSlot) (s : MarkSlot) → s.cuts_before ≡ n → s.dropped ≡ false → marks_behind n (slots ++ s ∷ []) ≡ marks_behind n slots ++ s.mark ∷ []
behind_here n slots s e kept =
    let here : (s.cuts_before == n) ≡ true = same_number s.cuts_before n e in
    let itself : filter (λ (t : MarkSlot). t.cuts_before == n) (s ∷ []) ≡ s ∷ [] = rw here refl in
    ap kept_marks (filter-append (λ (t : MarkSlot). t.cuts_before == n) slots (s ∷ []) ∙ ap (λ ss. filter (λ (t : MarkSlot). t.cuts_before == n) slots ++ ss) itself)
    ∙ marks_push (filter (λ (t : MarkSlot). t.cuts_before == n) slots) s kept

behind_other : (n : ℕ) (slots : List MarkSlot) (s : MarkSlot) → (s.cuts_before == n) ≡ false → marks_behind n (slots ++ s ∷ []) ≡ marks_behind n slots
behind_other n slots s e =
    let none : filter (λ (t : MarkSlot). t.cuts_before == n) (s ∷ []) ≡ [] = rw e refl in
    ap kept_marks (filter-append (λ (t : MarkSlot). t.cuts_before == n) slots (s ∷ []) ∙ ap (λ ss. filter (λ (t : MarkSlot). t.cuts_before == n) slots ++ ss) none ∙ append-nil (filter (λ (t : MarkSlot). t.cuts_before == n) slots))

-- a slot that stands lower
push_low : (n : ℕ) (cuts : List Cut) (slots : List MarkSlot) (s : MarkSlot) → s.cuts_before < n → marks_from n cuts (slots ++ s ∷ []) ≡ marks_from n cuts slots
push_low n [] slots s low = behind_other n slots s (other_number s.cuts_before n (λ e. omega arith))
push_low n (c ∷ cuts) slots s low =
    ap (λ ms. ms ++ mark_of c ∷ marks_from (suc n) cuts (slots ++ s ∷ [])) (behind_other n slots s (other_number s.cuts_before n (λ e. omega arith)))
    ∙ ap (λ ms. marks_behind n slots ++ mark_of c ∷ ms) (push_low (suc n) cuts slots s (omega arith))

-- a mark that came in turn stands behind all adoptions
push_last : (n : ℕ) (cuts : List Cut) (slots : List MarkSlot) (s : MarkSlot) → s.dropped ≡ false → s.cuts_before ≡ n + length cuts → marks_from n cuts (slots ++ s ∷ []) ≡ marks_from n cuts slots ++ s.mark ∷ []
push_last n [] slots s kept e = behind_here n slots s (omega (arith, e)) kept
push_last n (c ∷ cuts) slots s kept e =
    ap (λ ms. ms ++ mark_of c ∷ marks_from (suc n) cuts (slots ++ s ∷ [])) (behind_other n slots s (other_number s.cuts_before n (λ h. omega (arith, e, h))))
    ∙ ap (λ ms. marks_behind n slots ++ mark_of c ∷ ms) (push_last (suc n) cuts slots s kept (omega (arith, e)))
    ∙ sym (append_assoc (marks_behind n slots) (mark_of c ∷ marks_from (suc n) cuts slots) (s.mark ∷ []))

-- ---- a mark that comes late

put_after : (part number : ℕ) (new : Mark) (xs ys : List Mark) → Each (λ m. cuts_at part number m ≡ false) xs → put_at part number new (xs ++ ys) ≡ xs ++ put_at part number new ys
put_after part number new [] ys h = refl
put_after part number new (m ∷ xs) ys h = rw h.0 (ap (λ ms. m ∷ ms) (put_after part number new xs ys h.1))

-- the slots are those of requests' marks
abbrev pub AreOfRequests : List MarkSlot → Type 0
AreOfRequests slots = Each (λ s. is_cut s.mark.place ≡ false) slots

each_mark : (P : Mark → Type 0) (slots : List MarkSlot) → Each (λ s. P s.mark) slots → Each P (map (λ s. s.mark) slots)
each_mark P [] h = tt
each_mark P (s ∷ slots) h = (h.0, each_mark P slots h.1)

each_behind : (P : Mark → Type 0) (n : ℕ) (slots : List MarkSlot) → Each (λ s. P s.mark) slots → Each P (marks_behind n slots)
each_behind P n slots h =
    each_mark P (filter (λ (s : MarkSlot). not s.dropped) (filter (λ (s : MarkSlot). s.cuts_before == n) slots))
    (Each-filter (λ (s : MarkSlot). P s.mark) (λ (s : MarkSlot). not s.dropped) (filter (λ (s : MarkSlot). s.cuts_before == n) slots) (Each-filter (λ (s : MarkSlot). P s.mark) (λ (s : MarkSlot). s.cuts_before == n) slots h))

no_cuts : (part number n : ℕ) (slots : List MarkSlot) → AreOfRequests slots → Each (λ m. cuts_at part number m ≡ false) (marks_behind n slots)
no_cuts part number n slots h =
    each_behind (λ (m : Mark). cuts_at part number m ≡ false) n slots
    (Each-weaker (λ (s : MarkSlot). is_cut s.mark.place ≡ false) (λ (s : MarkSlot). cuts_at part number s.mark ≡ false) (λ s e. rw e refl) slots h)

same_next : (a b : ℕ) → ((a + 1) == (b + 1)) ≡ (a == b)
same_next a b = grind (arith, nat_tests)

its_number : (part earlier : ℕ) (c : Cut) (b : Bool) → is_cut_at part earlier c ≡ b → cuts_at part (earlier + 1) (mark_of c) ≡ b
its_number part earlier c b e = ap (λ r. (c.term.part == part) && r) (same_next c.earlier earlier) ∙ e

-- a mark that comes late stands before the adoption of its number
put_in_turn : (part earlier n : ℕ) (cuts : List Cut) (slots : List MarkSlot) (s : MarkSlot) → AreOfRequests slots → s.dropped ≡ false
    → s.cuts_before ≡ n + position_or_len (is_cut_at part earlier) cuts → marks_from n cuts (slots ++ s ∷ []) ≡ put_at part (earlier + 1) s.mark (marks_from n cuts slots)
put_in_turn part earlier n [] slots s requests kept e =
    behind_here n slots s (omega (arith, e)) kept
    ∙ sym (ap (put_at part (earlier + 1) s.mark) (sym (append-nil (marks_behind n slots))) ∙ put_after part (earlier + 1) s.mark (marks_behind n slots) [] (no_cuts part (earlier + 1) n slots requests))
put_in_turn part earlier n (c ∷ cuts) slots s requests kept e = go (is_cut_at part earlier c) refl e (put_in_turn part earlier (suc n) cuts slots s requests kept)
  where
    go : (b : Bool) → is_cut_at part earlier c ≡ b → s.cuts_before ≡ n + (if not b then 1 + position_or_len (is_cut_at part earlier) cuts else 0)
        → (s.cuts_before ≡ suc n + position_or_len (is_cut_at part earlier) cuts → marks_from (suc n) cuts (slots ++ s ∷ []) ≡ put_at part (earlier + 1) s.mark (marks_from (suc n) cuts slots))
        → marks_from n (c ∷ cuts) (slots ++ s ∷ []) ≡ put_at part (earlier + 1) s.mark (marks_from n (c ∷ cuts) slots)
    go true here e rest =
        let its : cuts_at part (earlier + 1) (mark_of c) ≡ true = its_number part earlier c true here in
        let found : put_at part (earlier + 1) s.mark (mark_of c ∷ marks_from (suc n) cuts slots) ≡ s.mark ∷ mark_of c ∷ marks_from (suc n) cuts slots = rw its refl in
        ap (λ ms. ms ++ mark_of c ∷ marks_from (suc n) cuts (slots ++ s ∷ [])) (behind_here n slots s (omega (arith, e)) kept)
        ∙ ap (λ ms. (marks_behind n slots ++ s.mark ∷ []) ++ mark_of c ∷ ms) (push_low (suc n) cuts slots s (omega (arith, e)))
        ∙ append_assoc (marks_behind n slots) (s.mark ∷ []) (mark_of c ∷ marks_from (suc n) cuts slots)
        ∙ sym (put_after part (earlier + 1) s.mark (marks_behind n slots) (mark_of c ∷ marks_from (suc n) cuts slots) (no_cuts part (earlier + 1) n slots requests)
        ∙ ap (λ ms. marks_behind n slots ++ ms) found)
    go false other e rest =
        let its : cuts_at part (earlier + 1) (mark_of c) ≡ false = its_number part earlier c false other in
        let past : put_at part (earlier + 1) s.mark (mark_of c ∷ marks_from (suc n) cuts slots) ≡ mark_of c ∷ put_at part (earlier + 1) s.mark (marks_from (suc n) cuts slots) = rw its refl in
        ap (λ ms. ms ++ mark_of c ∷ marks_from (suc n) cuts (slots ++ s ∷ [])) (behind_other n slots s (other_number s.cuts_before n (λ h. omega (arith, e, h))))
        ∙ ap (λ ms. marks_behind n slots ++ mark_of c ∷ ms) (rest (omega (arith, e)))
        ∙ sym (put_after part (earlier + 1) s.mark (marks_behind n slots) (mark_of c ∷ marks_from (suc n) cuts slots) (no_cuts part (earlier + 1) n slots requests)
        ∙ ap (λ ms. marks_behind n slots ++ ms) past)

-- ---- a mark more

abbrev new_slot : Mark → ℕ → List MarkSlot → MarkSlot
new_slot mark n slots = record {
  mark = mark;
  cuts_before = n;
  dropped = false;
  earlier_of_request = last_place (is_of_request mark.id) slots;
  earlier_of_part = last_place (is_of_part mark.part) slots;
}

pub in_turn : (cuts : List Cut) (slots : List MarkSlot) (mark : Mark) (n : ℕ) → n ≡ length cuts → marks_from 0 cuts (with_slot mark n slots) ≡ marks_from 0 cuts slots ++ mark ∷ []
in_turn cuts slots mark n e = push_last 0 cuts slots (new_slot mark n slots) (λ i. false) (omega (arith, e))

pub late : (part earlier : ℕ) (cuts : List Cut) (slots : List MarkSlot) (mark : Mark) (n : ℕ) → AreOfRequests slots → n ≡ position_or_len (is_cut_at part earlier) cuts
    → marks_from 0 cuts (with_slot mark n slots) ≡ put_at part (earlier + 1) mark (marks_from 0 cuts slots)
late part earlier cuts slots mark n requests e = put_in_turn part earlier 0 cuts slots (new_slot mark n slots) requests (λ i. false) (omega (arith, e))

pub place_within : {A : Type 0} (p : A → Bool) (xs : List A) → position_or_len p xs ≤ length xs
place_within p [] = omega arith
place_within p (x ∷ xs) = go (p x) (place_within p xs)
  where
    go : (b : Bool) → position_or_len p xs ≤ length xs → (if not b then 1 + position_or_len p xs else 0) ≤ suc (length xs)
    go true l = omega arith
    go false l = omega (arith, l)

-- ---- what becomes of all marks

module _ (f : MarkSlot → MarkSlot) (F : List Mark → List Mark) (same : (s : MarkSlot) → (f s).cuts_before ≡ s.cuts_before) (splits : (xs ys : List Mark) → F (xs ++ ys) ≡ F xs ++ F ys)
    (cut : (c : Cut) (xs : List Mark) → F (mark_of c ∷ xs) ≡ mark_of c ∷ F xs) (kept : (slots : List MarkSlot) → kept_marks (map f slots) ≡ F (kept_marks slots)) where
  behind_changed : (n : ℕ) (slots : List MarkSlot) → marks_behind n (map f slots) ≡ F (marks_behind n slots)
  behind_changed n slots =
      ap kept_marks (filter_same (λ (s : MarkSlot). s.cuts_before == n) f (λ s. ap (λ (k : ℕ). k == n) (same s)) slots) ∙ kept (filter (λ (s : MarkSlot). s.cuts_before == n) slots)

  -- what becomes of the slots' marks becomes of all, where those of adoptions stay
  pub all_changed : (n : ℕ) (cuts : List Cut) (slots : List MarkSlot) → marks_from n cuts (map f slots) ≡ F (marks_from n cuts slots)
  all_changed n [] slots = behind_changed n slots
  all_changed n (c ∷ cuts) slots =
      ap (λ ms. ms ++ mark_of c ∷ marks_from (suc n) cuts (map f slots)) (behind_changed n slots)
      ∙ ap (λ ms. F (marks_behind n slots) ++ mark_of c ∷ ms) (all_changed (suc n) cuts slots)
      ∙ sym (splits (marks_behind n slots) (mark_of c ∷ marks_from (suc n) cuts slots) ∙ ap (λ ms. F (marks_behind n slots) ++ ms) (cut c (marks_from (suc n) cuts slots)))

flag_stands : (c : Completed) (s : MarkSlot) → (flagged_slot c s).cuts_before ≡ s.cuts_before
flag_stands c s = go (is_flagged c c.by s.mark)
  where
    go : (b : Bool) → (if b then record s { mark = record s.mark { completed = true } } else s).cuts_before ≡ s.cuts_before
    go true = refl
    go false = refl

flag_same_place : (c : Completed) (s : MarkSlot) → (flagged_slot c s).mark.place ≡ s.mark.place
flag_same_place c s = go (is_flagged c c.by s.mark)
  where
    go : (b : Bool) → (if b then record s { mark = record s.mark { completed = true } } else s).mark.place ≡ s.mark.place
    go true = refl
    go false = refl

cut_not_flagged : (c : Completed) (by : Option Capture) (d : Cut) → is_flagged c by (mark_of d) ≡ false
cut_not_flagged c None d = and-false _
cut_not_flagged c (Some by) d = and-false _

flag_cut : (c : Completed) (d : Cut) (xs : List Mark) → flagged c (mark_of d ∷ xs) ≡ mark_of d ∷ flagged c xs
flag_cut c d xs = rw (cut_not_flagged c c.by d) refl

pub all_flagged : (c : Completed) (cuts : List Cut) (slots : List MarkSlot) → marks_from 0 cuts (map (flagged_slot c) slots) ≡ flagged c (marks_from 0 cuts slots)
all_flagged c = all_changed (flagged_slot c) (flagged c) (flag_stands c) (λ xs ys. map-append _ xs ys) (flag_cut c) (marks_flagged c) 0

drop_stands : (part cut : ℕ) (s : MarkSlot) → (dropped_slot part cut s).cuts_before ≡ s.cuts_before
drop_stands part cut s = go (is_dropped part cut s.mark)
  where
    go : (b : Bool) → (if b then record s { dropped = true } else s).cuts_before ≡ s.cuts_before
    go true = refl
    go false = refl

drop_same_place : (part cut : ℕ) (s : MarkSlot) → (dropped_slot part cut s).mark.place ≡ s.mark.place
drop_same_place part cut s = go (is_dropped part cut s.mark)
  where
    go : (b : Bool) → (if b then record s { dropped = true } else s).mark.place ≡ s.mark.place
    go true = refl
    go false = refl

drop_cut : (part cut : ℕ) (d : Cut) (xs : List Mark) → filter (λ (m : Mark). not (is_dropped part cut m)) (mark_of d ∷ xs) ≡ mark_of d ∷ filter (λ (m : Mark). not (is_dropped part cut m)) xs
drop_cut part cut d xs = let stays : is_dropped part cut (mark_of d) ≡ false = and-false _ in rw stays refl

pub all_dropped : (part cut : ℕ) (cuts : List Cut) (slots : List MarkSlot) → marks_from 0 cuts (map (dropped_slot part cut) slots) ≡ filter (λ (m : Mark). not (is_dropped part cut m)) (marks_from 0 cuts slots)
all_dropped part cut =
    all_changed (dropped_slot part cut) (filter (λ (m : Mark). not (is_dropped part cut m))) (drop_stands part cut) (filter-append (λ (m : Mark). not (is_dropped part cut m))) (drop_cut part cut) (marks_dropped part cut) 0

-- ---- where the slots stand

-- what becomes of a slot leaves where it stands
stand_map : (cuts : ℕ) (f : MarkSlot → MarkSlot) → ((s : MarkSlot) → (f s).cuts_before ≡ s.cuts_before) → ((s : MarkSlot) → (f s).mark.place ≡ s.mark.place)
    → (slots : List MarkSlot) → Each (StandsWithin cuts) slots → Each (StandsWithin cuts) (map f slots)
stand_map cuts f same place slots h =
    Each-map (StandsWithin cuts) f slots
    (Each-weaker (StandsWithin cuts) (λ (s : MarkSlot). StandsWithin cuts (f s)) (λ s w. record { within = rw (same s) w.within; of_request = rw (place s) w.of_request }) slots h)

pub flags_stand : (cuts : ℕ) (c : Completed) (slots : List MarkSlot) → Each (StandsWithin cuts) slots → Each (StandsWithin cuts) (map (flagged_slot c) slots)
flags_stand cuts c = stand_map cuts (flagged_slot c) (flag_stands c) (flag_same_place c)

pub drops_stand : (cuts part cut : ℕ) (slots : List MarkSlot) → Each (StandsWithin cuts) slots → Each (StandsWithin cuts) (map (dropped_slot part cut) slots)
drops_stand cuts part cut = stand_map cuts (dropped_slot part cut) (drop_stands part cut) (drop_same_place part cut)

pub stand_push : (cuts : ℕ) (slots : List MarkSlot) (mark : Mark) (n : ℕ) → Each (StandsWithin cuts) slots → n ≤ cuts → is_cut mark.place ≡ false → Each (StandsWithin cuts) (with_slot mark n slots)
stand_push cuts slots mark n h within request = Each-append (StandsWithin cuts) slots (new_slot mark n slots ∷ []) h (record { within = within; of_request = request }, tt)

pub stand_more : (cuts : ℕ) (slots : List MarkSlot) → Each (StandsWithin cuts) slots → Each (StandsWithin (cuts + 1)) slots
stand_more cuts slots = Each-weaker (StandsWithin cuts) (StandsWithin (cuts + 1)) (λ s w. record { within = let l = w.within in omega (arith, l); of_request = w.of_request }) slots

pub are_of_requests : (cuts : ℕ) (slots : List MarkSlot) → Each (StandsWithin cuts) slots → AreOfRequests slots
are_of_requests cuts slots = Each-weaker (StandsWithin cuts) (λ (s : MarkSlot). is_cut s.mark.place ≡ false) (λ s w. w.of_request) slots

-- ---- one adoption more

none_higher : (n : ℕ) (slots : List MarkSlot) → Each (λ s. s.cuts_before ≤ n) slots → marks_behind (suc n) slots ≡ []
none_higher n slots h =
    ap kept_marks (none_passes (λ (s : MarkSlot). s.cuts_before == suc n) slots
    (Each-weaker (λ (s : MarkSlot). s.cuts_before ≤ n) (λ (s : MarkSlot). (s.cuts_before == suc n) ≡ false) (λ s l. other_number s.cuts_before (suc n) (λ e. omega (arith, l, e))) slots h))

cut_last : (n : ℕ) (cuts : List Cut) (c : Cut) (slots : List MarkSlot) → Each (λ s. s.cuts_before ≤ n + length cuts) slots → marks_from n (cuts ++ c ∷ []) slots ≡ marks_from n cuts slots ++ mark_of c ∷ []
cut_last n [] c slots h =
    ap (λ ms. marks_behind n slots ++ mark_of c ∷ ms) (none_higher n slots (Each-weaker (λ (s : MarkSlot). s.cuts_before ≤ n + 0) (λ (s : MarkSlot). s.cuts_before ≤ n) (λ s l. omega (arith, l)) slots h))
cut_last n (d ∷ cuts) c slots h =
    ap (λ ms. marks_behind n slots ++ mark_of d ∷ ms)
    (cut_last (suc n) cuts c slots (Each-weaker (λ (s : MarkSlot). s.cuts_before ≤ n + length (d ∷ cuts)) (λ (s : MarkSlot). s.cuts_before ≤ suc n + length cuts) (λ s l. omega (arith, l)) slots h))
    ∙ sym (append_assoc (marks_behind n slots) (mark_of d ∷ marks_from (suc n) cuts slots) (mark_of c ∷ []))

-- an adoption's mark comes behind all that stand behind those before it
pub cut_behind : (cuts : List Cut) (c : Cut) (slots : List MarkSlot) → Each (StandsWithin (length cuts)) slots → marks_from 0 (cuts ++ c ∷ []) slots ≡ marks_from 0 cuts slots ++ mark_of c ∷ []
cut_behind cuts c slots h = cut_last 0 cuts c slots (Each-weaker (StandsWithin (length cuts)) (λ (s : MarkSlot). s.cuts_before ≤ 0 + length cuts) (λ s w. let l = w.within in omega (arith, l)) slots h)

-- ---- counts

counted : (q : Mark → Bool) (p : Cut → Bool) → ((c : Cut) → q (mark_of c) ≡ p c) → (n : ℕ) (cuts : List Cut) (slots : List MarkSlot) → Each (λ s. q s.mark ≡ false) slots
    → how_many q (marks_from n cuts slots) ≡ how_many p cuts
counted q p same n [] slots none = ap length (none_passes q (marks_behind n slots) (each_behind (λ (m : Mark). q m ≡ false) n slots none))
counted q p same n (c ∷ cuts) slots none =
    let prefix = how_many_append q (marks_behind n slots) (mark_of c ∷ marks_from (suc n) cuts slots) in
    let in_prefix : how_many q (marks_behind n slots) ≡ 0 = ap length (none_passes q (marks_behind n slots) (each_behind (λ (m : Mark). q m ≡ false) n slots none)) in
    let itself = how_many_cons q (mark_of c) (marks_from (suc n) cuts slots) in
    let its = how_many_cons p c cuts in
    let rest = counted q p same (suc n) cuts slots none in
    let one_same = ap one (same c) in
    omega (arith, prefix, in_prefix, itself, its, rest, one_same)

pub adoptions_counted : (part : ℕ) (cuts : List Cut) (slots : List MarkSlot) → AreOfRequests slots → adoptions part (marks_from 0 cuts slots) ≡ how_many (is_cut_of part) cuts
adoptions_counted part cuts slots h =
    counted (cuts_part part) (is_cut_of part) (λ c. refl) 0 cuts slots
    (Each-weaker (λ (s : MarkSlot). is_cut s.mark.place ≡ false) (λ (s : MarkSlot). cuts_part part s.mark ≡ false) (λ s e. rw e refl) slots h)

pub adoptions_counted_to : (part epoch : ℕ) (cuts : List Cut) (slots : List MarkSlot) → AreOfRequests slots → adoptions_to part epoch (marks_from 0 cuts slots) ≡ how_many (is_cut_to part epoch) cuts
adoptions_counted_to part epoch cuts slots h =
    counted (λ (m : Mark). cuts_part part m && nat_le m.epoch epoch) (is_cut_to part epoch) (λ c. refl) 0 cuts slots
    (Each-weaker (λ (s : MarkSlot). is_cut s.mark.place ≡ false) (λ (s : MarkSlot). (cuts_part part s.mark && nat_le s.mark.epoch epoch) ≡ false) (λ s e. rw e refl) slots h)

-- ---- what is asked of the marks

any_agree : {A : Type 0} (p q : A → Bool) (xs : List A) → Each (λ x. p x ≡ q x) xs → list_any p xs ≡ list_any q xs
any_agree p q [] h = refl
any_agree p q (x ∷ xs) h = rw h.0 (ap (λ b. q x || b) (any_agree p q xs h.1))

any_filter : {A : Type 0} (p q : A → Bool) (xs : List A) → list_any q (filter p xs) ≡ list_any (λ x. p x && q x) xs
any_filter p q [] = refl
any_filter {A} p q (x ∷ xs) = go (p x) (any_filter p q xs)
  where
    go : (b : Bool) → list_any q (filter p xs) ≡ list_any (λ x. p x && q x) xs → list_any q (if b then x ∷ filter p xs else filter p xs) ≡ ((b && q x) || list_any (λ x. p x && q x) xs)
    go true rest = ap (λ b. q x || b) rest
    go false rest = rest

completed_behind : (id : RequestId) (n : ℕ) (slots : List MarkSlot) → has_completed (marks_behind n slots) id ≡ list_any (λ s. (s.cuts_before == n) && completes id s) slots
completed_behind id n slots = completed_in_slots id (filter (λ (s : MarkSlot). s.cuts_before == n) slots) ∙ any_filter (λ (s : MarkSlot). s.cuts_before == n) (completes id) slots

last_of_all : (a n : ℕ) (b : Bool) → a ≤ n → ((a == n) && b) ≡ (nat_le n a && b)
last_of_all a n b l = ap (λ r. r && b) (same l)
  where
    same : a ≤ n → (a == n) ≡ nat_le n a
    same l = grind (arith, nat_tests, l)

here_or_behind : (a n : ℕ) (b : Bool) → (((a == n) && b) || (nat_le (suc n) a && b)) ≡ (nat_le n a && b)
here_or_behind a n true = grind (arith, nat_tests)
here_or_behind a n false = grind (arith, nat_tests)

completed_from : (id : RequestId) (n : ℕ) (cuts : List Cut) (slots : List MarkSlot) → Each (λ s. s.cuts_before ≤ n + length cuts) slots
    → has_completed (marks_from n cuts slots) id ≡ list_any (λ s. nat_le n s.cuts_before && completes id s) slots
completed_from id n [] slots h =
    completed_behind id n slots
    ∙ any_agree (λ (s : MarkSlot). (s.cuts_before == n) && completes id s) (λ (s : MarkSlot). nat_le n s.cuts_before && completes id s) slots
    (Each-weaker (λ (s : MarkSlot). s.cuts_before ≤ n + 0) (λ (s : MarkSlot). ((s.cuts_before == n) && completes id s) ≡ (nat_le n s.cuts_before && completes id s))
    (λ s l. last_of_all s.cuts_before n (completes id s) (omega (arith, l))) slots h)
completed_from id n (c ∷ cuts) slots h =
    list_any-append (λ (m : Mark). m.completed && same_id m.id id) (marks_behind n slots) (mark_of c ∷ marks_from (suc n) cuts slots)
    ∙ ap (λ b. b || has_completed (marks_from (suc n) cuts slots) id) (completed_behind id n slots)
    ∙ ap (λ b. list_any (λ s. (s.cuts_before == n) && completes id s) slots || b)
    (completed_from id (suc n) cuts slots (Each-weaker (λ (s : MarkSlot). s.cuts_before ≤ n + length (c ∷ cuts)) (λ (s : MarkSlot). s.cuts_before ≤ suc n + length cuts) (λ s l. omega (arith, l)) slots h))
    ∙ sym (any_or (λ (s : MarkSlot). (s.cuts_before == n) && completes id s) (λ (s : MarkSlot). nat_le (suc n) s.cuts_before && completes id s) slots)
    ∙ any_agree (λ (s : MarkSlot). ((s.cuts_before == n) && completes id s) || (nat_le (suc n) s.cuts_before && completes id s)) (λ (s : MarkSlot). nat_le n s.cuts_before && completes id s) slots
    (Each-from_at (λ (s : MarkSlot). (((s.cuts_before == n) && completes id s) || (nat_le (suc n) s.cuts_before && completes id s)) ≡ (nat_le n s.cuts_before && completes id s)) slots
    (λ k s at. here_or_behind s.cuts_before n (completes id s)))

-- the request has completed by a mark where its slots say so
pub completed_by_slots : (id : RequestId) (cuts : List Cut) (slots : List MarkSlot) → Each (StandsWithin (length cuts)) slots → has_completed (marks_from 0 cuts slots) id ≡ list_any (completes id) slots
completed_by_slots id cuts slots h =
    completed_from id 0 cuts slots (Each-weaker (StandsWithin (length cuts)) (λ (s : MarkSlot). s.cuts_before ≤ 0 + length cuts) (λ s w. let l = w.within in omega (arith, l)) slots h)
    ∙ any_agree (λ (s : MarkSlot). nat_le 0 s.cuts_before && completes id s) (completes id) slots
    (Each-from_at (λ (s : MarkSlot). (nat_le 0 s.cuts_before && completes id s) ≡ completes id s) slots (λ k s at. ap (λ b. b && completes id s) (from_none s.cuts_before)))
  where
    from_none : (a : ℕ) → nat_le 0 a ≡ true
    from_none a = grind (arith, nat_tests)

-- ---- an adoption drops no other

cut_past : (cut : ℕ) (p : Place) (e c : Bool) → (is_cut p && e) ≡ true → (e && not c && is_past cut p) ≡ false
cut_past cut (Executed index) e c h = absurd cc
cut_past cut (Looked capture length) e c h = absurd cc
cut_past cut (Quick capture) e c h = absurd cc
cut_past cut (AtCut number length) e c h = none_past e (not c)
  where
    none_past : (a b : Bool) → (a && b && false) ≡ false
    none_past true true = refl
    none_past true false = refl
    none_past false true = refl
    none_past false false = refl

pub adoptions_left : (part cut : ℕ) (marks : List Mark) → adoptions part (filter (λ (m : Mark). not (is_dropped part cut m)) marks) ≡ adoptions part marks
adoptions_left part cut [] = refl
adoptions_left part cut (m ∷ marks) = go (cuts_part part m) (is_dropped part cut m) refl refl (adoptions_left part cut marks)
  where
    stays : cuts_part part m ≡ true → is_dropped part cut m ≡ false
    stays e = cut_past cut m.place (m.part == part) m.completed e

    go : (b d : Bool) → cuts_part part m ≡ b → is_dropped part cut m ≡ d → adoptions part (filter (λ (m : Mark). not (is_dropped part cut m)) marks) ≡ adoptions part marks
        → adoptions part (if not d then m ∷ filter (λ (m : Mark). not (is_dropped part cut m)) marks else filter (λ (m : Mark). not (is_dropped part cut m)) marks)
        ≡ length (if b then m ∷ filter (cuts_part part) marks else filter (cuts_part part) marks)
    go true true e h rest = absurd (let odd : true ≡ false = sym h ∙ stays e in cc)
    go true false e h rest = rw e (ap suc rest)
    go false true e h rest = rest
    go false false e h rest = rw e rest
