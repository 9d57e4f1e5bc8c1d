-- The owned hashes of a log, one hash at a time: no order of spans is needed.
use Rattle.std.proofs.Common.{◌≡◌, ℕ, ◌<◌, ◌≤◌, ◌+◌, min, max, nat_le, nat_lt, ◌&&◌, ◌||◌, inl, inr, ◌⊎◌, Bool, true, false, not, cond, List, [], ◌∷◌, ◌++◌, length, refl, ap, sym, ◌∙◌, arith}
use Rattle.std.specs.List.{list_any}
use Rattle.std.proofs.lemmas.Bool.{and_from, and_parts, cases_Bool, or_cases, or_left, or_parts, or_right}
use Rattle.std.proofs.lemmas.Bool.Decides.{nat_tests}
use Rattle.curp_range.specs.Spans.{Span, is_in, is_owned, with_range, without}
use Rattle.curp_range.proofs.Ascending.{in_range, range_bounds}
use Rattle.curp_cmd.specs.declared.entry.Entry.{Entry}
use Rattle.curp_cmd.specs.declared.entry.Entry.TheVariants.{Expire, Give, Op, Take}
use Rattle.curp_cmd.specs.declared.migration.Package.{Package}
use Rattle.curp_model.specs.Log.{LogState, after_entries, after_entry, meaning}
use Rattle.curp_model.proofs.Logs.{meaning_append}
use Rattle.curp_law_kept.specs.Hashes.{NoGive}
use Rattle.curp_law_linear.specs.Hashes.{Part, owns}
use Rattle.curp_law_kept.proofs.Gives.{owned_without}

outside : (lo hi h : ℕ) → is_in lo hi h ≡ false → (h < lo) ⊎ (hi < h)
outside lo hi h e = go (nat_le lo h) (nat_le h hi) refl refl e
  where
    go : (a b : Bool) → nat_le lo h ≡ a → nat_le h hi ≡ b → (a && b) ≡ false → (h < lo) ⊎ (hi < h)
    go true true ea eb n = absurd cc
    go true false ea eb n = inr (grind (arith, nat_tests))
    go false b ea eb n = inl (grind (arith, nat_tests))

-- a hash off a range that comes is one of the spans
pub with_range_owned : (spans : List Span) (lo hi h : ℕ) → is_owned (with_range spans lo hi) h ≡ true → is_in lo hi h ≡ false → is_owned spans h ≡ true
with_range_owned [] lo hi h e out = absurd (let bad : true ≡ false = sym e ∙ (λ i. out i || false) in cc)
with_range_owned (s ∷ spans) lo hi h e out = go (nat_lt (s.1 + 1) lo) (nat_lt (hi + 1) s.0) refl refl e (λ l u. with_range_owned spans l u h)
  where
    joined : nat_lt (s.1 + 1) lo ≡ false → nat_lt (hi + 1) s.0 ≡ false → is_in (min s.0 lo) (max s.1 hi) h ≡ true → is_in s.0 s.1 h ≡ true
    joined ea eb i =
        let a : lo ≤ s.1 + 1 = grind (arith, nat_tests) in
        let b : s.0 ≤ hi + 1 = grind (arith, nat_tests) in
        let r = range_bounds (min s.0 lo) (max s.1 hi) h i in
        elim (outside lo hi h out) [
          | inl low ↦ let u : s.0 ≤ h = omega (arith, r.0) in let v : h ≤ s.1 = omega (arith, low) in in_range s.0 s.1 h u v
          | inr high ↦ let u : s.0 ≤ h = omega (arith, high) in let v : h ≤ s.1 = omega (arith, r.1) in in_range s.0 s.1 h u v
        ]

    go : (a b : Bool) → nat_lt (s.1 + 1) lo ≡ a → nat_lt (hi + 1) s.0 ≡ b → is_owned (cond a (s ∷ with_range spans lo hi) (cond b ((lo, hi) ∷ s ∷ spans) (with_range spans (min s.0 lo) (max s.1 hi)))) h ≡ true
        → ((l u : ℕ) → is_owned (with_range spans l u) h ≡ true → is_in l u h ≡ false → is_owned spans h ≡ true) → (is_in s.0 s.1 h || is_owned spans h) ≡ true
    go true b ea eb e ih = elim (or_cases (is_in s.0 s.1 h) _ e) [ inl y ↦ or_left _ _ y | inr y ↦ or_right (is_in s.0 s.1 h) _ (ih lo hi y out) ]
    go false true ea eb e ih = elim (or_cases (is_in lo hi h) _ e) [ inl y ↦ absurd (let bad : true ≡ false = sym y ∙ out in cc) | inr y ↦ y ]
    go false false ea eb e ih = elim (cases_Bool (is_in (min s.0 lo) (max s.1 hi) h)) [
      | inl y ↦ or_left _ _ (joined ea eb y)
      | inr n ↦ or_right (is_in s.0 s.1 h) _ (ih (min s.0 lo) (max s.1 hi) e n)
    ]

-- a range that comes is owned, and takes nothing
pub with_range_has : (spans : List Span) (lo hi h : ℕ) → (is_in lo hi h || is_owned spans h) ≡ true → is_owned (with_range spans lo hi) h ≡ true
with_range_has [] lo hi h e = e
with_range_has (s ∷ spans) lo hi h e = go (nat_lt (s.1 + 1) lo) (nat_lt (hi + 1) s.0) (λ l u. with_range_has spans l u h)
  where
    wider : (is_in lo hi h ≡ true) ⊎ (is_in s.0 s.1 h ≡ true) → is_in (min s.0 lo) (max s.1 hi) h ≡ true
    wider (inl y) = let r = range_bounds lo hi h y in let u : min s.0 lo ≤ h = omega (arith, r.0) in let v : h ≤ max s.1 hi = omega (arith, r.1) in in_range (min s.0 lo) (max s.1 hi) h u v
    wider (inr y) = let r = range_bounds s.0 s.1 h y in let u : min s.0 lo ≤ h = omega (arith, r.0) in let v : h ≤ max s.1 hi = omega (arith, r.1) in in_range (min s.0 lo) (max s.1 hi) h u v

    go : (a b : Bool) → ((l u : ℕ) → (is_in l u h || is_owned spans h) ≡ true → is_owned (with_range spans l u) h ≡ true)
        → is_owned (cond a (s ∷ with_range spans lo hi) (cond b ((lo, hi) ∷ s ∷ spans) (with_range spans (min s.0 lo) (max s.1 hi)))) h ≡ true
    go true b ih = elim (or_cases (is_in lo hi h) _ e) [
      | inl y ↦ or_right (is_in s.0 s.1 h) _ (ih lo hi (or_left _ _ y))
      | inr r ↦ elim (or_cases (is_in s.0 s.1 h) _ r) [ inl y ↦ or_left _ _ y | inr y ↦ or_right (is_in s.0 s.1 h) _ (ih lo hi (or_right (is_in lo hi h) _ y)) ]
    ]
    go false true ih = e
    go false false ih = elim (or_cases (is_in lo hi h) _ e) [
      | inl y ↦ ih (min s.0 lo) (max s.1 hi) (or_left _ _ (wider (inl y)))
      | inr r ↦ elim (or_cases (is_in s.0 s.1 h) _ r) [ inl y ↦ ih (min s.0 lo) (max s.1 hi) (or_left _ _ (wider (inr y))) | inr y ↦ ih (min s.0 lo) (max s.1 hi) (or_right (is_in (min s.0 lo) (max s.1 hi) h) _ y) ]
    ]

-- ---- a range goes

-- so it was there
pub without_owned : (spans : List Span) (lo hi h : ℕ) → is_owned (without spans lo hi) h ≡ true → is_owned spans h ≡ true
without_owned spans lo hi h e = (and_parts (is_owned spans h) _ (sym (owned_without spans lo hi h) ∙ e)).0

-- nothing of the range is
pub without_out : (spans : List Span) (lo hi h : ℕ) → is_in lo hi h ≡ true → is_owned (without spans lo hi) h ≡ true → ⊥
without_out spans lo hi h inside e = let bad : not true ≡ true = ap not (sym inside) ∙ (and_parts (is_owned spans h) _ (sym (owned_without spans lo hi h) ∙ e)).1 in cc

-- and all off the range that was
without_has : (spans : List Span) (lo hi h : ℕ) → is_owned spans h ≡ true → is_in lo hi h ≡ false → is_owned (without spans lo hi) h ≡ true
without_has spans lo hi h e out = owned_without spans lo hi h ∙ and_from (is_owned spans h) _ e (ap not out)

-- ---- entries

-- a take that covers the hash
abbrev pub takes : ℕ → Entry → Bool
takes h (Op r acknowledged) = false
takes h (Take migration taken) = is_in taken.lo taken.hi h
takes h (Give migration given) = false
takes h (Expire client) = false

-- what is owned behind entries that give nothing on a hash was owned before
pub owned_back : (h : ℕ) (es : List Entry) (s : LogState) (k : ℕ) → is_owned (after_entries s k es).owned h ≡ true → NoGive h es → is_owned s.owned h ≡ true
unfolding after_entry
owned_back h [] s k e none = e
owned_back h (Op r a ∷ es) s k e none = owned_back h es (after_entry s k (Op r a)) (k + 1) e none
owned_back h (Take n p ∷ es) s k e none = without_owned s.owned p.lo p.hi h (owned_back h es (after_entry s k (Take n p)) (k + 1) e none)
owned_back h (Give n p ∷ es) s k e none =
    let c = or_parts (is_in p.lo p.hi h) _ none in
    with_range_owned s.owned p.lo p.hi h (owned_back h es (after_entry s k (Give n p)) (k + 1) e c.1) c.0
owned_back h (Expire client ∷ es) s k e none = owned_back h es (after_entry s k (Expire client)) (k + 1) e none

-- what is owned stays so behind entries that take nothing on the hash
pub owned_on : (h : ℕ) (es : List Entry) (s : LogState) (k : ℕ) → is_owned s.owned h ≡ true → list_any (takes h) es ≡ false → is_owned (after_entries s k es).owned h ≡ true
unfolding after_entry
owned_on h [] s k e none = e
owned_on h (Op r a ∷ es) s k e none = owned_on h es (after_entry s k (Op r a)) (k + 1) e none
owned_on h (Take n p ∷ es) s k e none =
    let c = or_parts (is_in p.lo p.hi h) _ none in
    owned_on h es (after_entry s k (Take n p)) (k + 1) (without_has s.owned p.lo p.hi h e c.0) c.1
owned_on h (Give n p ∷ es) s k e none = owned_on h es (after_entry s k (Give n p)) (k + 1) (with_range_has s.owned p.lo p.hi h (or_right (is_in p.lo p.hi h) _ e)) none
owned_on h (Expire client ∷ es) s k e none = owned_on h es (after_entry s k (Expire client)) (k + 1) e none

-- what is owned behind entries that give nothing on a hash was owned before
pub owned_before : (lo hi h : ℕ) (prefix back : List Entry) → is_owned (meaning lo hi (prefix ++ back)).owned h ≡ true → NoGive h back → is_owned (meaning lo hi prefix).owned h ≡ true
owned_before lo hi h prefix back e none = owned_back h back (meaning lo hi prefix) (length prefix) (ap (λ (s : LogState). is_owned s.owned h) (sym (meaning_append lo hi prefix back)) ∙ e) none

-- what is owned stays so behind entries that take nothing of it
pub owned_after : (lo hi h : ℕ) (prefix back : List Entry) → is_owned (meaning lo hi prefix).owned h ≡ true → list_any (takes h) back ≡ false → is_owned (meaning lo hi (prefix ++ back)).owned h ≡ true
owned_after lo hi h prefix back e none = ap (λ (s : LogState). is_owned s.owned h) (meaning_append lo hi prefix back) ∙ owned_on h back (meaning lo hi prefix) (length prefix) e none

-- what a partition owns behind a give, off its range, it owned before
pub owned_give : (p : Part) (number : ℕ) (k : Package) (h : ℕ) → owns (record p { log = p.log ++ Give number k ∷ [] }) h ≡ true → is_in k.lo k.hi h ≡ false → owns p h ≡ true
owned_give p number k h e out = owned_before p.lo p.hi h p.log (Give number k ∷ []) e (ap (λ (b : Bool). b || false) out)
