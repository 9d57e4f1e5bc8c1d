-- What stands between two places of a list that is two lists.
use Rattle.std.proofs.Common.{◌≡◌, ℕ, zero, suc, ◌+◌, ◌-◌, List, [], ◌∷◌, ◌++◌, length, take, drop, slice_get, refl, sym, ap, ◌∙◌, append_assoc, arith, ◌*◌, min, inl, inr}
use Rattle.std.proofs.Math.Seq.{take-add}
use Rattle.std.proofs.lemmas.Bool.{cases_lt}
use Rattle.curp_base.proofs.Lists.{take_one}
use Rattle.curp_base.specs.Words.{At}
use Rattle.curp_cmd.specs.declared.entry.Entry.{Entry}
use Rattle.curp_entries.specs.EntryList.{AreLast}
use Rattle.std.proofs.lemmas.List.{append-nil, length-drop, take-append-drop, take_all}

pub take_two : {A : Type 0} (n : ℕ) (xs ys : List A) → take n (xs ++ ys) ≡ take n xs ++ take (n - length xs) ys
take_two zero [] ys = refl
take_two zero (x ∷ xs) ys =
    let none : zero - length (x ∷ xs) ≡ zero = omega arith in
    sym (ap (λ (k : ℕ). take k ys) none)
take_two (suc n) [] ys =
    let all : suc n - zero ≡ suc n = omega arith in
    sym (ap (λ (k : ℕ). take k ys) all)
take_two (suc n) (x ∷ xs) ys =
    let less : suc n - suc (length xs) ≡ n - length xs = omega arith in
    ap (λ (l : List _). x ∷ l) (take_two n xs ys) ∙ ap (λ (k : ℕ). x ∷ take n xs ++ take k ys) (sym less)

pub drop_two : {A : Type 0} (n : ℕ) (xs ys : List A) → drop n (xs ++ ys) ≡ drop n xs ++ drop (n - length xs) ys
drop_two zero [] ys = refl
drop_two zero (x ∷ xs) ys =
    let none : zero - length (x ∷ xs) ≡ zero = omega arith in
    sym (ap (λ (k : ℕ). x ∷ xs ++ drop k ys) none)
drop_two (suc n) [] ys =
    let all : suc n - zero ≡ suc n = omega arith in
    sym (ap (λ (k : ℕ). drop k ys) all)
drop_two (suc n) (x ∷ xs) ys =
    let less : suc n - suc (length xs) ≡ n - length xs = omega arith in
    drop_two n xs ys ∙ ap (λ (k : ℕ). drop n xs ++ drop k ys) (sym less)

pub between_two : {A : Type 0} (start end : ℕ) (xs ys : List A)
    → take (end - start) (drop start (xs ++ ys)) ≡ take (end - start) (drop start xs) ++ take ((end - length xs) - (start - length xs)) (drop (start - length xs) ys)
between_two start end xs ys =
    let left : (end - start) - length (drop start xs) ≡ (end - length xs) - (start - length xs) = omega (arith, length-drop start xs) in
    ap (take (end - start)) (drop_two start xs ys)
    ∙ take_two (end - start) (drop start xs) (drop (start - length xs) ys)
    ∙ ap (λ (k : ℕ). take (end - start) (drop start xs) ++ take k (drop (start - length xs) ys)) left

-- ---- run after run

pub run_more : {A : Type 0} (n : ℕ) (xs old prefix after : List A) → prefix ≡ old ++ take (n * 64) xs → after ≡ prefix ++ take 64 (drop (n * 64) xs) → after ≡ old ++ take ((n + 1) * 64) xs
run_more n xs old prefix after before is =
    let more : n * 64 + 64 ≡ (n + 1) * 64 = omega arith in
    is
    ∙ ap (λ (l : List _). l ++ take 64 (drop (n * 64) xs)) before
    ∙ append_assoc old (take (n * 64) xs) (take 64 (drop (n * 64) xs))
    ∙ ap (λ (l : List _). old ++ l) (sym (take-add (n * 64) 64 xs) ∙ ap (λ (k : ℕ). take k xs) more)

-- what was taken from the tail stands in front of it
pub moved : {A : Type 0} (n : ℕ) (prefix tail now left : List A) → now ≡ prefix ++ take n tail → left ≡ drop n tail → now ++ left ≡ prefix ++ tail
moved n prefix tail now left a b =
    (λ i. a i ++ b i) ∙ append_assoc prefix (take n tail) (drop n tail) ∙ ap (λ (l : List _). prefix ++ l) (take-append-drop n tail)

-- ---- the last of a list

pub last_dropped : (n : ℕ) (entries last : List Entry) → last ≡ drop n entries → AreLast last entries
last_dropped n entries last is = record { others = take n entries; behind = sym (take-append-drop n entries) ∙ ap (λ (l : List Entry). take n entries ++ l) (sym is) }

pub last_none : (entries last : List Entry) → last ≡ [] → AreLast last entries
last_none entries last is = record { others = entries; behind = sym (append-nil entries) ∙ ap (λ (l : List Entry). entries ++ l) (sym is) }

-- the last of what stands behind others
pub last_of_more : (last old more : List Entry) → AreLast last more → AreLast last (old ++ more)
last_of_more last old more of_these =
    record { others = old ++ of_these.others; behind = ap (λ (l : List Entry). old ++ l) of_these.behind ∙ sym (append_assoc old of_these.others last) }

-- the last of the last ones, and of more behind them
pub last_behind : (last recent old more : List Entry) → AreLast last (recent ++ more) → AreLast recent old → AreLast last (old ++ more)
last_behind last recent old more of_these of_all = record {
  others = of_all.others ++ of_these.others;
  behind =
      ap (λ (l : List Entry). l ++ more) of_all.behind
      ∙ append_assoc of_all.others recent more
      ∙ ap (λ (l : List Entry). of_all.others ++ l) of_these.behind
      ∙ sym (append_assoc of_all.others of_these.others last);
}

-- ---- one more

at_from : {A : Type 0} (n k : ℕ) (xs : List A) → slice_get (drop n xs) k ≡ slice_get xs (n + k)
at_from zero k xs =
    let none : zero + k ≡ k = omega arith in
    sym (ap (slice_get xs) none)
at_from (suc n) k [] = refl
at_from (suc n) k (x ∷ xs) =
    let more : suc n + k ≡ suc (n + k) = omega arith in
    at_from n k xs ∙ sym (ap (slice_get (x ∷ xs)) more)

pub one_more : {A : Type 0} (start k : ℕ) (xs before after : List A) (x : A) → At xs (start + k) x → before ≡ take k (drop start xs) → after ≡ before ++ x ∷ [] → after ≡ take (k + 1) (drop start xs)
one_more start k xs before after x there so_far is =
    is ∙ ap (λ (l : List _). l ++ x ∷ []) so_far ∙ sym (take_one (drop start xs) k x (at_from start k xs ∙ there))

-- no further than the end
pub as_far : {A : Type 0} (start end count : ℕ) (xs : List A) → count ≡ min end (length xs) - start → take count (drop start xs) ≡ take (end - start) (drop start xs)
as_far start end count xs is = elim (cases_lt end (length xs)) [
  | inl c ↦
      let same : count ≡ end - start = omega (arith, c, is) in
      ap (λ (n : ℕ). take n (drop start xs)) same
  | inr c ↦
      take_all count (drop start xs) (omega (arith, c, is, length-drop start xs))
      ∙ sym (take_all (end - start) (drop start xs) (omega (arith, c, length-drop start xs)))
]

-- as far as the end of a first part
pub between_prefix : {A : Type 0} (start end : ℕ) (xs ys : List A) → take (min end (length xs) - start) (drop start (xs ++ ys)) ≡ take (end - start) (drop start xs)
between_prefix start end xs ys =
    let last = min end (length xs) in
    let none : (last - length xs) - (start - length xs) ≡ 0 = omega arith in
    let rest : take ((last - length xs) - (start - length xs)) (drop (start - length xs) ys) ≡ [] = rw none refl in
    between_two start last xs ys ∙ ap (λ (l : List _). take (last - start) (drop start xs) ++ l) rest ∙ append-nil (take (last - start) (drop start xs))
    ∙ as_far start end (last - start) xs refl
