-- The runs of those with the same key, in ascending order of the keys, and what a stable sort makes of a list.
use Rattle.std.proofs.Common.{◌≡◌, ℕ, zero, suc, ◌+◌, ◌<◌, ◌≤◌, ◌==◌, ◌&&◌, if◌then◌else◌, not, Bool, true, false, List, [], ◌∷◌, ◌++◌, length, get_or, map, refl, ap, sym, ◌∙◌, arith}
use Rattle.std.proofs.lemmas.Bool.Decides.{nat_tests}
use Rattle.std.proofs.lemmas.List.{map-append}
use Rattle.std.proofs.lemmas.List.Elements.{filter-append, filter_agree}
use Rattle.std.proofs.lemmas.List.Sorted.{All-permutation}
use Rattle.std.specs.List.{filter}
use Rattle.std.specs.List.Sorted.{IsNonDecreasingBy, IsPermutation, IsStableByKey, ties}
use Rattle.std.specs.Ordering.{is_lt, nat_cmp}
use Rattle.curp_base.specs.Words.{Each}
use Rattle.curp_base.proofs.Lists.{Each-map, Each-weaker, Each-filter}
use Rattle.curp_model.specs.Marks.{shown}
use Rattle.curp_line.specs.Cuts.{mark_of}
use Rattle.curp_line.specs.Slots.{StandsWithin, asked, in_runs, is_shown_slot, marks_behind, marks_from, shown_of}
use Rattle.curp_line.specs.declared.cuts.Cut.{Cut}
use Rattle.curp_line.specs.declared.slot.ShownMark.{ShownMark}
use Rattle.curp_line.specs.declared.slot.MarkSlot.{MarkSlot}
use Rattle.curp_line.proofs.Ascending.{each_read}
use Rattle.curp_line.proofs.Between.{none_passes}
use Rattle.curp_line.proofs.Kept.{shown_in_slots}
use Rattle.curp_model.proofs.Marks.{shown_append}

each_from : {A : Type 0} (P : A → Type 0) (xs : List A) → ((k : ℕ) (d : A) → k < length xs → P (get_or xs k d)) → Each P xs
each_from P [] h = tt
each_from P (x ∷ xs) h = (h 0 x (omega arith), each_from P xs (λ k d l. h (suc k) d (omega arith)))

-- ---- a list in order is its runs

module _ {A : Type 0} (key : A → ℕ) where
  runs_low : (n more : ℕ) (y : A) (ys : List A) → key y < n → in_runs key n more (y ∷ ys) ≡ in_runs key n more ys
  runs_low n zero y ys low = let other : (key y == n) ≡ false = grind (arith, nat_tests) in rw other refl
  runs_low n (suc more) y ys low =
      let other : (key y == n) ≡ false = grind (arith, nat_tests) in
      rw other (ap (λ zs. filter (λ x. key x == n) ys ++ zs) (runs_low (suc n) more y ys (omega arith)))

  none_here : (n : ℕ) (y : A) (ys : List A) → n < key y → Each (λ z. key y ≤ key z) ys → filter (λ x. key x == n) ys ≡ []
  none_here n y ys high h =
      none_passes (λ x. key x == n) ys (Each-weaker (λ z. key y ≤ key z) (λ z. (key z == n) ≡ false) (λ z l. other (key z) (key y) l high) ys h)
    where
      other : (a b : ℕ) → b ≤ a → n < b → (a == n) ≡ false
      other a b l m = grind (arith, nat_tests, l, m)

  -- the first of a list in order is the first of its run, and no run before has any
  runs_first : (n more : ℕ) (y : A) (ys : List A) → n ≤ key y → key y ≤ n + more → Each (λ z. key y ≤ key z) ys → in_runs key n more (y ∷ ys) ≡ y ∷ in_runs key n more ys
  runs_first n zero y ys low high h = let here : (key y == n) ≡ true = grind (arith, nat_tests) in rw here refl
  runs_first n (suc more) y ys low high h = go (key y == n) refl (λ l. runs_first (suc n) more y ys l (omega arith) h)
    where
      its : (key y == n) ≡ true → key y < suc n
      its e = grind (arith, nat_tests, e)

      past : (key y == n) ≡ false → suc n ≤ key y
      past e = grind (arith, nat_tests, e, low)

      go : (b : Bool) → (key y == n) ≡ b → (suc n ≤ key y → in_runs key (suc n) more (y ∷ ys) ≡ y ∷ in_runs key (suc n) more ys)
          → (if b then y ∷ filter (λ x. key x == n) ys else filter (λ x. key x == n) ys) ++ in_runs key (suc n) more (y ∷ ys) ≡ y ∷ (filter (λ x. key x == n) ys ++ in_runs key (suc n) more ys)
      go true e rest = ap (λ zs. y ∷ (filter (λ x. key x == n) ys ++ zs)) (runs_low (suc n) more y ys (its e))
      go false e rest =
          let none = none_here n y ys (past e) h in
          rw none (rest (past e))

  pub runs_of_sorted : (n more : ℕ) (ys : List A) → IsNonDecreasingBy key ys → Each (λ y. (n ≤ key y) × (key y ≤ n + more)) ys → in_runs key n more ys ≡ ys
  runs_of_sorted n zero [] up h = refl
  runs_of_sorted n (suc more) [] up h = runs_of_sorted (suc n) more [] up tt
  runs_of_sorted n more (y ∷ ys) up h =
      runs_first n more y ys h.0.0 h.0.1 (each_from (λ z. key y ≤ key z) ys (λ k d l. up 0 (suc k) d (omega arith) (omega arith)))
      ∙ ap (λ zs. y ∷ zs) (runs_of_sorted n more ys (λ i j d l m. up (suc i) (suc j) d (omega arith) (omega arith)) h.1)

  -- the runs are the same where those of each key are
  pub runs_same : (n more : ℕ) (xs ys : List A) → ((k : ℕ) → filter (λ x. key x == k) ys ≡ filter (λ x. key x == k) xs) → in_runs key n more ys ≡ in_runs key n more xs
  runs_same n zero xs ys same = same n
  runs_same n (suc more) xs ys same = λ i. same n i ++ runs_same (suc n) more xs ys same i

-- ---- the runs of what is made of some

run_made : {A B : Type 0} (key : B → ℕ) (f : A → B) (p : A → Bool) (n : ℕ) (xs : List A) → filter (λ y. key y == n) (map f (filter p xs)) ≡ map f (filter p (filter (λ x. key (f x) == n) xs))
run_made key f p n [] = refl
run_made {A} {B} key f p n (x ∷ xs) = go (p x) (key (f x) == n) refl refl (run_made key f p n xs)
  where
    go : (b c : Bool) → p x ≡ b → (key (f x) == n) ≡ c → filter (λ y. key y == n) (map f (filter p xs)) ≡ map f (filter p (filter (λ x. key (f x) == n) xs))
        → filter (λ y. key y == n) (map f (if b then x ∷ filter p xs else filter p xs)) ≡ map f (filter p (if c then x ∷ filter (λ x. key (f x) == n) xs else filter (λ x. key (f x) == n) xs))
    go true true d e rest = rw (d, e) (ap (λ ys. f x ∷ ys) rest)
    go true false d e rest = rw e rest
    go false true d e rest = rw d rest
    go false false d e rest = rest

pub runs_made : {A B : Type 0} (key : B → ℕ) (f : A → B) (p : A → Bool) (n more : ℕ) (xs : List A) → in_runs key n more (map f (filter p xs)) ≡ map f (filter p (in_runs (λ x. key (f x)) n more xs))
runs_made key f p n zero xs = run_made key f p n xs
runs_made key f p n (suc more) xs =
    ap (λ ys. ys ++ in_runs key (suc n) more (map f (filter p xs))) (run_made key f p n xs)
    ∙ ap (λ ys. map f (filter p (filter (λ x. key (f x) == n) xs)) ++ ys) (runs_made key f p (suc n) more xs)
    ∙ sym (ap (map f) (filter-append p (filter (λ x. key (f x) == n) xs) (in_runs (λ x. key (f x)) (suc n) more xs))
    ∙ map-append f (filter p (filter (λ x. key (f x) == n) xs)) (filter p (in_runs (λ x. key (f x)) (suc n) more xs)))

-- ---- a stable sort

tied : (a b : ℕ) → (not (is_lt (nat_cmp a b)) && not (is_lt (nat_cmp b a))) ≡ (b == a)
tied a b = grind (arith, nat_tests)

-- it leaves those of each key as they were
pub stable_run : {A : Type 0} (key : A → ℕ) (xs ys : List A) (x : A) → IsStableByKey key nat_cmp xs ys → filter (λ y. key y == key x) ys ≡ filter (λ y. key y == key x) xs
stable_run {A} key xs ys x stable =
    let same : (y : A) → ties (λ a b. is_lt (nat_cmp (key a) (key b))) x y ≡ (key y == key x) = λ y. tied (key x) (key y) in
    sym (filter_agree (ties (λ a b. is_lt (nat_cmp (key a) (key b))) x) (λ y. key y == key x) same ys) ∙ stable x
    ∙ filter_agree (ties (λ a b. is_lt (nat_cmp (key a) (key b))) x) (λ y. key y == key x) same xs

pub bounded_after : {A : Type 0} (key : A → ℕ) (most : ℕ) (xs ys : List A) → IsPermutation xs ys → Each (λ x. key x ≤ most) xs → Each (λ y. (0 ≤ key y) × (key y ≤ 0 + most)) ys
bounded_after key most xs ys moved h =
    let all = All-permutation (λ x. key x ≤ most) xs ys moved (each_read (λ x. key x ≤ most) xs h) in
    each_from (λ y. (0 ≤ key y) × (key y ≤ 0 + most)) ys (λ k d l. let m = all k d l in (omega arith, omega (arith, m)))

-- ---- the order of the marks

asked_append : (xs ys : List MarkSlot) → map asked (map shown_of (filter is_shown_slot (xs ++ ys))) ≡ map asked (map shown_of (filter is_shown_slot xs)) ++ map asked (map shown_of (filter is_shown_slot ys))
asked_append xs ys =
    ap (λ (ss : List MarkSlot). map asked (map shown_of ss)) (filter-append is_shown_slot xs ys)
    ∙ ap (map asked) (map-append shown_of (filter is_shown_slot xs) (filter is_shown_slot ys))
    ∙ map-append asked (map shown_of (filter is_shown_slot xs)) (map shown_of (filter is_shown_slot ys))

shown_from : (n : ℕ) (cuts : List Cut) (slots : List MarkSlot) → shown (marks_from n cuts slots) ≡ map asked (map shown_of (filter is_shown_slot (in_runs (λ s. s.cuts_before) n (length cuts) slots)))
shown_from n [] slots = shown_in_slots (filter (λ (s : MarkSlot). s.cuts_before == n) slots)
shown_from n (c ∷ cuts) slots =
    shown_append (marks_behind n slots) (mark_of c ∷ marks_from (suc n) cuts slots)
    ∙ ap (λ rs. rs ++ shown (marks_from (suc n) cuts slots)) (shown_in_slots (filter (λ (s : MarkSlot). s.cuts_before == n) slots))
    ∙ ap (λ rs. map asked (map shown_of (filter is_shown_slot (filter (λ (s : MarkSlot). s.cuts_before == n) slots))) ++ rs) (shown_from (suc n) cuts slots)
    ∙ sym (asked_append (filter (λ (s : MarkSlot). s.cuts_before == n) slots) (in_runs (λ s. s.cuts_before) (suc n) (length cuts) slots))

-- what the order shows are the runs of what the slots show
pub shown_in_runs : (cuts : List Cut) (slots : List MarkSlot) → shown (marks_from 0 cuts slots) ≡ map asked (in_runs (λ s. s.cuts_before) 0 (length cuts) (map shown_of (filter is_shown_slot slots)))
shown_in_runs cuts slots = shown_from 0 cuts slots ∙ sym (ap (map asked) (runs_made (λ (s : ShownMark). s.cuts_before) shown_of is_shown_slot 0 (length cuts) slots))

pub shown_within : (cuts : ℕ) (slots : List MarkSlot) → Each (StandsWithin cuts) slots → Each (λ s. s.cuts_before ≤ cuts) (map shown_of (filter is_shown_slot slots))
shown_within cuts slots h =
    Each-map (λ (s : ShownMark). s.cuts_before ≤ cuts) shown_of (filter is_shown_slot slots)
    (Each-filter (λ (s : MarkSlot). s.cuts_before ≤ cuts) is_shown_slot slots (Each-weaker (StandsWithin cuts) (λ (s : MarkSlot). s.cuts_before ≤ cuts) (λ s w. w.within) slots h))
