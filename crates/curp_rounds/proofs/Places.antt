-- Ascending indexes: where one of them stands, and what is put in.
use Rattle.std.proofs.Common.{◌≡◌, ℕ, zero, suc, ◌-◌, ◌<◌, ◌≤◌, ◌==◌, ◌⊎◌, inl, inr, Bool, false, nat_lt, List, [], ◌∷◌, ◌++◌, length, get_or, Result, Ok, Err, is_ok, IfOk, IfErr, refl, ap, sym, arith}
use Rattle.std.specs.BTreeSet.{insert_key}
use Rattle.std.specs.List.{insert}
use Rattle.std.specs.List.Sorted.{IsBinarySearchResult, IsNonDecreasing}
use Rattle.std.specs.Cmp.{nat_cmp_is}
use Rattle.std.specs.Ordering.{nat_cmp}
use Rattle.std.specs.declared.cmp.Ordering.TheVariants.{Less, Equal, Greater}
use Rattle.std.proofs.lemmas.Bool.{cases_lt}
use Rattle.std.proofs.lemmas.Bool.Decides.{nat_tests}
use Rattle.std.proofs.lemmas.List.{get_or_default}
use Rattle.std.proofs.lemmas.List.Folds.{list_any_at, list_any_none}
use Rattle.std.proofs.lemmas.List.Sorted.{IsNonDecreasingBy-insert, IsNonDecreasingBy-push, searched}
use Rattle.std.proofs.lemmas.Option.{slice_get-get_or}
use Rattle.curp_base.specs.Words.{Each}
use Rattle.curp_base.proofs.Lists.{Each-at}
use Rattle.curp_model.specs.Master.{has}
use Rattle.curp_rounds.specs.Indexes.{IsBetween}

-- what a binary search doesn't find would stand where it tells
pub absent : (xs : List ℕ) (n : ℕ) (r : Result ℕ ℕ) → IsNonDecreasing xs → IsBinarySearchResult (λ k. nat_cmp k n) xs r → IfErr r (IsBetween xs n)
absent xs n (Ok at) rise is = tt
absent xs n (Err at) rise is =
    let s = searched xs n (Err at) is (λ i j le within. rise i j 0 le within) in
    record { within = s.0; below = s.1; above = s.2 }

between_tail : (x : ℕ) (xs : List ℕ) (n at : ℕ) → IsBetween (x ∷ xs) n (suc at) → IsBetween xs n at
between_tail x xs n at b = record {
  within = omega (arith, b.within);
  below = λ k l. b.below (suc k) (omega arith);
  above = λ k l m. b.above (suc k) (omega arith) (omega arith);
}

-- ---- put in

less : (a b : ℕ) → a < b → nat_cmp a b ≡ Less
less a b l = sym (nat_cmp_is a b Less l)

equal : (a b : ℕ) → a ≡ b → nat_cmp a b ≡ Equal
equal a b e = sym (nat_cmp_is a b Equal e)

greater : (a b : ℕ) → b < a → nat_cmp a b ≡ Greater
greater a b l = sym (nat_cmp_is a b Greater l)

pub put_between : (xs : List ℕ) (n at : ℕ) → IsBetween xs n at → insert xs at n ≡ insert_key nat_cmp xs n
put_between [] n zero b = refl
put_between [] n (suc at) b = absurd (omega (arith, b.within))
put_between (x ∷ xs) n zero b = rw (less n x (b.above 0 (omega arith) (omega arith))) refl
put_between (x ∷ xs) n (suc at) b =
    rw (greater n x (b.below 0 (omega arith))) (ap (λ ys. x ∷ ys) (put_between xs n at (between_tail x xs n at b)))

pub rise_put : (xs : List ℕ) (n at : ℕ) → IsNonDecreasing xs → IsBetween xs n at → IsNonDecreasing (insert xs at n)
rise_put xs n at rise b =
    IsNonDecreasingBy-insert (λ k. k) xs at n rise b.within
    (λ k d l. let within = b.within in let below : get_or xs k 0 < n = b.below k l in rw (get_or_default xs k d 0 (omega arith)) (omega arith))
    (λ k d l within. let above : n < get_or xs k 0 = b.above k l within in rw (get_or_default xs k d 0 within) (omega arith))

pub rise_push : (xs : List ℕ) (n : ℕ) → IsNonDecreasing xs → Each (λ k. k < n) xs → IsNonDecreasing (xs ++ n ∷ [])
rise_push xs n rise below =
    IsNonDecreasingBy-push (λ k. k) xs n rise
    (λ d some. let last : get_or xs (length xs - 1) d < n = Each-at (λ k. k < n) xs below (length xs - 1) (get_or xs (length xs - 1) d) (slice_get-get_or xs (length xs - 1) d (omega arith)) in omega arith)

rise_tail : (x : ℕ) (xs : List ℕ) → IsNonDecreasing (x ∷ xs) → IsNonDecreasing xs
rise_tail x xs rise i j d le within = rise (suc i) (suc j) d (omega arith) (omega arith)

pub put_again : (xs : List ℕ) (n at : ℕ) → IsNonDecreasing xs → at < length xs → get_or xs at 0 ≡ n → xs ≡ insert_key nat_cmp xs n
put_again [] n at rise within is = absurd (omega arith)
put_again (x ∷ xs) n zero rise within is = rw (equal n x (sym is)) refl
put_again (x ∷ xs) n (suc at) rise within is = by (cases_lt x n) (put_again xs n at (rise_tail x xs rise) (omega arith) is)
  where
    by : (x < n) ⊎ (n ≤ x) → xs ≡ insert_key nat_cmp xs n → x ∷ xs ≡ insert_key nat_cmp (x ∷ xs) n
    by (inl l) rest = rw (greater n x l) (ap (λ ys. x ∷ ys) rest)
    by (inr l) rest = let first : x ≤ get_or xs at 0 = rise 0 (suc at) 0 (omega arith) within in rw (equal n x (omega arith)) refl

-- ---- found

pub contained : (xs : List ℕ) (n : ℕ) (r : Result ℕ ℕ) → IfOk r (λ at. (at < length xs) × (get_or xs at 0 ≡ n)) → IfErr r (IsBetween xs n) → is_ok r ≡ has n xs
contained xs n (Ok at) there none = sym (list_any_at (λ k. k == n) xs at 0 there.0 (let is = there.1 in grind (arith, nat_tests)))
contained xs n (Err at) there none =
    sym (list_any_none (λ k. k == n) xs (λ k d within. other k d within (cases_lt k at)))
  where
    other : (k d : ℕ) → k < length xs → (k < at) ⊎ (at ≤ k) → (get_or xs k d == n) ≡ false
    other k d within (inl l) =
        let same : get_or xs k d ≡ get_or xs k 0 = get_or_default xs k d 0 within in
        let below : get_or xs k 0 < n = none.below k l in
        grind (arith, nat_tests)
    other k d within (inr l) =
        let same : get_or xs k d ≡ get_or xs k 0 = get_or_default xs k d 0 within in
        let above : n < get_or xs k 0 = none.above k l within in
        grind (arith, nat_tests)

-- ---- those below a limit

abbrev pub is_below : ℕ → ℕ → Bool
is_below limit n = nat_lt n limit
