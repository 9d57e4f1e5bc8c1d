-- Batches of items that are numbered through: where a number stands, and one more batch.
use Rattle.std.proofs.Common.{◌≡◌, ◌≢◌, ℕ, zero, suc, ◌+◌, ◌-◌, ◌<◌, ◌≤◌, ◌^◌, min, map, None, Result, Ok, Err, IfErr, MatchResult, List, [], ◌∷◌, ◌++◌, length, get_or, slice_get, refl, ap, sym, ◌∙◌, arith, append-nil, length-append}
use Rattle.std.specs.List.{sum, sum_by}
use Rattle.std.specs.List.Sorted.{IsBinarySearchResult}
use Rattle.std.proofs.lemmas.List.Sums.{sum-map, sum_by-append}
use Rattle.std.specs.Ordering.{nat_cmp}
use Rattle.std.proofs.lemmas.List.Sorted.{searched}
use Rattle.std.proofs.lemmas.Bool.Decides.{nat_tests}
use Rattle.curp_base.specs.Words.{Each, numbered, all_of}
use Rattle.curp_base.proofs.Lists.{Each-append}
use Rattle.curp_msg.specs.declared.message.Message.{Message}
use Rattle.curp_msg.specs.Weight.{weight_of}
use Rattle.curp_model.specs.World.{sent_at}
use Rattle.curp_sent.specs.Batches.{firsts_from, SentSome, IsIndexOf, weight_of_all, Rise, NumberStandsAt, IsGapAt, IsBatchOf}
use Rattle.curp_base.proofs.Numbered.{all_of-push}

-- ---- the search

gap_found : (ns : List ℕ) (n : ℕ) (r : Result ℕ ℕ)
    → MatchResult r (λ i. (i < length ns) × (get_or ns i 0 ≡ n)) (λ i. (i ≤ length ns) × ((k : ℕ) → k < i → get_or ns k 0 < n) × ((k : ℕ) → i ≤ k → k < length ns → n < get_or ns k 0))
    → IfErr r (IsGapAt ns n)
gap_found ns n (Ok at) h = tt
gap_found ns n (Err at) h = record { in_range = h.0; lesser_before = h.1; greater_after = h.2 }

-- what a binary search doesn't find among rising numbers would go at the place that it gives
pub absent_at : (ns : List ℕ) (n : ℕ) (r : Result ℕ ℕ) → Rise ns → IsBinarySearchResult (λ m. nat_cmp m n) ns r → IfErr r (IsGapAt ns n)
absent_at ns n r rise position = gap_found ns n r (searched ns n r position (λ i j le within. grind (arith, rise i j, λ (same : i ≡ j). ap (λ k. get_or ns k 0) same)))

-- ---- the numbers of the first items

pub length-firsts_from : {A : Type 0} (n : ℕ) (lists : List (List A)) → length (firsts_from n lists) ≡ length lists
length-firsts_from n [] = refl
length-firsts_from n (xs ∷ rest) = omega (arith, length-firsts_from (n + length xs) rest)

-- as many as lists
pub firsts_counted : (firsts : List ℕ) (lists : List (List Message)) (next weight : ℕ) → IsIndexOf firsts lists next weight → length firsts ≡ length lists
firsts_counted firsts lists next weight is = ap length is.firsts_are ∙ length-firsts_from 1 lists

-- no first number is below the one they begin with
firsts_from_low : {A : Type 0} (n : ℕ) (lists : List (List A)) (i : ℕ) → i < length (firsts_from n lists) → n ≤ get_or (firsts_from n lists) i 0
firsts_from_low n [] i within = absurd (omega arith)
firsts_from_low n (xs ∷ rest) zero within = omega arith
firsts_from_low n (xs ∷ rest) (suc i) within = omega (arith, firsts_from_low (n + length xs) rest i (omega arith))

pub firsts_from_rise : {A : Type 0} (n : ℕ) (lists : List (List A)) → Each SentSome lists → Rise (firsts_from n lists)
firsts_from_rise n [] some i j less within = absurd (omega arith)
firsts_from_rise n (xs ∷ rest) some i zero less within = absurd (omega arith)
firsts_from_rise n (xs ∷ rest) some zero (suc j) less within = omega (arith, some.0, firsts_from_low (n + length xs) rest j (omega arith))
firsts_from_rise n (xs ∷ rest) some (suc i) (suc j) less within = firsts_from_rise (n + length xs) rest some.1 i j (omega arith) (omega arith)

firsts_from-push : {A : Type 0} (n : ℕ) (lists : List (List A)) (xs : List A) → firsts_from n (lists ++ xs ∷ []) ≡ firsts_from n lists ++ (n + length (all_of lists)) ∷ []
firsts_from-push n [] xs = ap (λ k. k ∷ []) (omega arith)
firsts_from-push n (ys ∷ rest) xs =
    let e : n + length ys + length (all_of rest) ≡ n + length (ys ++ all_of rest) = omega (arith, length-append ys (all_of rest)) in
    ap (λ firsts. n ∷ firsts) (firsts_from-push (n + length ys) rest xs ∙ ap (λ k. firsts_from (n + length ys) rest ++ k ∷ []) e)

-- ---- the weight

sum_map-append : (xs ys : List Message) → sum (map weight_of (xs ++ ys)) ≡ sum (map weight_of xs) + sum (map weight_of ys)
sum_map-append xs ys = sum-map weight_of (xs ++ ys) ∙ sum_by-append weight_of xs ys ∙ sym (ap (λ n. n + sum (map weight_of ys)) (sum-map weight_of xs) ∙ ap (λ n. sum_by weight_of xs + n) (sum-map weight_of ys))

-- two sums that stand still, added, and their sum
sums_stand : (a b n : ℕ) → min (min a n + min b n) n ≡ min (a + b) n
sums_stand a b n = omega arith

-- one more batch adds its weight
weight_push : (lists : List (List Message)) (xs : List Message) → min (weight_of_all (all_of lists) + weight_of_all xs) (2 ^ 64 - 1) ≡ weight_of_all (all_of (lists ++ xs ∷ []))
weight_push lists xs =
    sums_stand (sum (map weight_of (all_of lists))) (sum (map weight_of xs)) (2 ^ 64 - 1)
    ∙ ap (λ n. min n (2 ^ 64 - 1)) (sym (ap (λ l. sum (map weight_of l)) (all_of-push lists xs) ∙ sum_map-append (all_of lists) xs))

-- ---- one more batch

-- one more batch has the numbers from the next one on
pub kept_push : (firsts : List ℕ) (lists : List (List Message)) (next weight : ℕ) (xs : List Message) (count added : ℕ) → count ≡ length xs → added ≡ weight_of_all xs → 1 ≤ count → next + count < 2 ^ 64
    → IsIndexOf firsts lists next weight → IsIndexOf (firsts ++ next ∷ []) (lists ++ xs ∷ []) (next + count) (min (weight + added) (2 ^ 64 - 1))
kept_push firsts lists next weight xs count added counted weighed some fits is = record {
  firsts_are =
      let e : next ≡ 1 + length (all_of lists) = omega (arith, is.next_is) in
      rw (firsts_from-push 1 lists xs, is.firsts_are, e) refl;
  none_empty = Each-append SentSome lists (xs ∷ []) is.none_empty (omega arith, tt);
  next_is = omega (arith, is.next_is, ap length (all_of-push lists xs), length-append (all_of lists) xs);
  fits = fits;
  weight_is = rw (is.weight_is, weighed) (weight_push lists xs);
}

-- ---- the item of a number

get_left : {A : Type 0} (xs ys : List A) (i : ℕ) → i < length xs → slice_get (xs ++ ys) i ≡ slice_get xs i
get_left [] ys i less = absurd (omega arith)
get_left (x ∷ xs) ys zero less = refl
get_left (x ∷ xs) ys (suc i) less = get_left xs ys i (omega arith)

get_right : {A : Type 0} (xs ys : List A) (i j : ℕ) → i ≡ length xs + j → slice_get (xs ++ ys) i ≡ slice_get ys j
get_right [] ys i j e = ap (slice_get ys) (omega arith)
get_right (x ∷ xs) ys zero j e = absurd (omega arith)
get_right (x ∷ xs) ys (suc i) j e = get_right xs ys i j (omega arith)

get_in_batch : {A : Type 0} (n : ℕ) (lists : List (List A)) (number at : ℕ) → IsBatchOf (firsts_from n lists) number at
    → slice_get (get_or lists at []) (number - get_or (firsts_from n lists) at 0) ≡ slice_get (all_of lists) (number - n)
get_in_batch n [] number at is = absurd (omega (arith, is.in_range))
get_in_batch n (xs ∷ []) number zero is = ap (λ l. slice_get l (number - n)) (sym (append-nil xs))
get_in_batch n (xs ∷ ys ∷ rest) number zero is = sym (get_left xs (all_of (ys ∷ rest)) (number - n) (omega (arith, is.from, is.before 1 (omega arith) (omega arith))))
get_in_batch n (xs ∷ rest) number (suc at) is =
    let low : n + length xs ≤ get_or (firsts_from (n + length xs) rest) at 0 = firsts_from_low (n + length xs) rest at (omega (arith, is.in_range)) in
    let behind : IsBatchOf (firsts_from (n + length xs) rest) number at = record {
      in_range = omega (arith, is.in_range);
      from = is.from;
      before = λ i behind within. is.before (suc i) (omega arith) (omega arith);
    } in
    get_in_batch (n + length xs) rest number at behind ∙ sym (get_right xs (all_of rest) (number - n) (number - (n + length xs)) (omega (arith, is.from)))

numbered_from_one : {A : Type 0} (xs : List A) (number : ℕ) → 1 ≤ number → slice_get xs (number - 1) ≡ numbered xs number
numbered_from_one xs zero low = absurd (omega arith)
numbered_from_one xs (suc k) low = ap (slice_get xs) (omega arith)

-- the batch at that place has the item of the number
pub numbered_in_batch : {A : Type 0} (lists : List (List A)) (number at : ℕ) → IsBatchOf (firsts_from 1 lists) number at
    → slice_get (get_or lists at []) (number - get_or (firsts_from 1 lists) at 0) ≡ numbered (all_of lists) number
numbered_in_batch lists number at is =
    get_in_batch 1 lists number at is ∙ numbered_from_one (all_of lists) number (omega (arith, firsts_from_low 1 lists at is.in_range, is.from))

-- nothing has a number below all first ones
pub numbered_below : {A : Type 0} (lists : List (List A)) (number : ℕ) → IsGapAt (firsts_from 1 lists) number 0 → None ≡ numbered (all_of lists) number
numbered_below lists zero gap = refl
numbered_below [] (suc k) gap = refl
numbered_below (xs ∷ rest) (suc k) gap = absurd (omega (arith, gap.greater_after 0 (omega arith) (omega arith)))

-- ---- the batch of a first number

pub sent_at-stands : (n : ℕ) (lists : List (List Message)) (first at : ℕ) → Each SentSome lists → NumberStandsAt (firsts_from n lists) first at → get_or lists at [] ≡ sent_at n lists first
sent_at-stands n [] first at some stands = absurd (omega (arith, stands.in_range))
sent_at-stands n (xs ∷ rest) first zero some stands = grind (arith, nat_tests, stands.is)
sent_at-stands n (xs ∷ rest) first (suc at) some stands =
    let behind : NumberStandsAt (firsts_from (n + length xs) rest) first at = record { in_range = omega (arith, stands.in_range); is = stands.is } in
    let low : n + length xs ≤ first = omega (arith, firsts_from_low (n + length xs) rest at behind.in_range, stands.is) in
    let later : n ≢ first = omega (arith, some.0) in
    grind (arith, nat_tests, sent_at-stands (n + length xs) rest first at some.1 behind)

-- a batch ends before the next number
pub batch_below : {A : Type 0} (n : ℕ) (lists : List (List A)) (at : ℕ) → at < length lists → get_or (firsts_from n lists) at 0 + length (get_or lists at []) ≤ n + length (all_of lists)
batch_below n [] at within = absurd (omega arith)
batch_below n (xs ∷ rest) zero within = omega (arith, length-append xs (all_of rest))
batch_below n (xs ∷ rest) (suc at) within = omega (arith, length-append xs (all_of rest), batch_below (n + length xs) rest at (omega arith))

no_first : (n : ℕ) (lists : List (List Message)) (first : ℕ) → ((i : ℕ) → i < length (firsts_from n lists) → get_or (firsts_from n lists) i 0 ≢ first) → [] ≡ sent_at n lists first
no_first n [] first none = refl
no_first n (xs ∷ rest) first none =
    let later : n ≢ first = none 0 (omega arith) in
    grind (arith, nat_tests, no_first (n + length xs) rest first (λ i within. none (suc i) (omega arith)))

-- no batch has a first number that would go between others
pub sent_at-gap : (lists : List (List Message)) (first at : ℕ) → IsGapAt (firsts_from 1 lists) first at → [] ≡ sent_at 1 lists first
sent_at-gap lists first at gap = no_first 1 lists first (λ i within same. grind (arith, gap.lesser_before i, gap.greater_after i))
