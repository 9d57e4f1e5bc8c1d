-- What the place of a hash among spans in ascending order tells of the hashes from there on.
use Rattle.std.proofs.Common.{◌≡◌, inl, inr, ℕ, zero, suc, ◌+◌, ◌^◌, ◌<◌, ◌≤◌, Bool, true, false, List, [], ◌∷◌, length, get_or, IsTrue, MatchBool, ◌↔◌, nat_le, nat_lt, ap, refl, arith}
use Rattle.std.proofs.Math.Bool.{or-true}
use Rattle.std.specs.List.Sorted.{IsPartitionedBy, IsPartitionPoint}
use Rattle.std.proofs.lemmas.Bool.{cases_lt}
use Rattle.std.proofs.lemmas.Bool.Decides.{nat_tests}
use Rattle.curp_range.specs.Spans.{Span, is_in, is_owned, Covers, Lacks, Meets, AscendWithin, SpansAscend}
use Rattle.curp_range.specs.Places.{IsSpanPlace, IsSpanOf}
use Rattle.curp_range.proofs.Ascending.{in_range, above_range, range_bounds, from_first, starts, ends, rise, none_below}

abbrev pub ends_before : ℕ → Span → Bool
ends_before hash span = nat_lt span.1 hash

-- the spans that end before the hash stand in front
pub parted : (xs : List Span) (hash : ℕ) → SpansAscend xs → IsPartitionedBy (ends_before hash) xs
parted xs hash a i j d le within ended = elim (cases_lt i j) [
  | inl l ↦ let apart = rise 0 (2 ^ 64) xs i j d d a l within in let order = ends 0 (2 ^ 64) xs j d a within in grind (arith, nat_tests)
  | inr l ↦ let same : i ≡ j = omega arith in rw same ended
]

pub place_from_point : (xs : List Span) (hash at : ℕ) → at ≤ length xs → IsPartitionPoint (λ (s : Span). ends_before hash s ≡ true) (λ (s : Span). ends_before hash s ≡ false) xs at → IsSpanPlace xs hash at
place_from_point xs hash at within point = record {
  within = within;
  before = λ k d l. let test = point.0 k d (omega arith) l in grind (arith, nat_tests);
  from = λ k d l m. let test = point.1 k d l m in grind (arith, nat_tests);
}

place_tail : (s : Span) (xs : List Span) (hash at : ℕ) → IsSpanPlace (s ∷ xs) hash (suc at) → IsSpanPlace xs hash at
place_tail s xs hash at p = record {
  within = omega (arith, p.within);
  before = λ k d l. p.before (suc k) d (omega arith);
  from = λ k d l m. p.from (suc k) d (omega arith) (omega arith);
}

-- no span has a hash from there to the next span's first one
pub gap : (f t : ℕ) (xs : List Span) (lo at h : ℕ) (d : Span) → AscendWithin f t xs → IsSpanPlace xs lo at → lo ≤ h → (at < length xs → h < (get_or xs at d).0) → is_owned xs h ≡ false
gap f t [] lo at h d a p l next = refl
gap f t (s ∷ xs) lo zero h d a p l next = none_below s.0 t (s ∷ xs) h (from_first f t s xs a) (next (omega arith))
gap f t (s ∷ xs) lo (suc at) h d a p l next =
    rw (above_range s.0 s.1 h (omega (arith, p.before 0 d (omega arith)))) (gap (s.1 + 2) t xs lo at h d a.3 (place_tail s xs lo at p) l (λ m. next (omega arith)))

-- nor the hash after a span's last one
pub none_next : (f t : ℕ) (xs : List Span) (at : ℕ) (d : Span) → AscendWithin f t xs → at < length xs → is_owned xs ((get_or xs at d).1 + 1) ≡ false
none_next f t [] at d a l = absurd (omega arith)
none_next f t (s ∷ xs) zero d a l = rw (above_range s.0 s.1 (s.1 + 1) (omega arith)) (none_below (s.1 + 2) t xs (s.1 + 1) a.3 (omega arith))
none_next f t (s ∷ xs) (suc at) d a l =
    rw (above_range s.0 s.1 ((get_or xs at d).1 + 1) (omega (arith, starts (s.1 + 2) t xs at d a.3 (omega arith), ends (s.1 + 2) t xs at d a.3 (omega arith)))) (none_next (s.1 + 2) t xs at d a.3 (omega arith))

pub owned_at : (xs : List Span) (at : ℕ) (d : Span) (h : ℕ) → at < length xs → is_in (get_or xs at d).0 (get_or xs at d).1 h ≡ true → is_owned xs h ≡ true
owned_at [] at d h l e = absurd (omega arith)
owned_at (s ∷ xs) zero d h l e = rw e refl
owned_at (s ∷ xs) (suc at) d h l e = rw (owned_at xs at d h (omega arith) e) (or-true (is_in s.0 s.1 h))

pub covered : (xs : List Span) (lo hi at : ℕ) (d : Span) → at < length xs → (get_or xs at d).0 ≤ lo → hi ≤ (get_or xs at d).1 → Covers xs lo hi
covered xs lo hi at d l first last h e =
    let bounds = range_bounds lo hi h e in
    owned_at xs at d h l (in_range _ _ h (omega (arith, bounds.0)) (omega (arith, bounds.1)))

-- the first hash of the range lacks
pub lacks_first : (xs : List Span) (lo hi at : ℕ) (d : Span) → SpansAscend xs → lo ≤ hi → IsSpanPlace xs lo at → (at < length xs → lo < (get_or xs at d).0) → Lacks xs lo hi
lacks_first xs lo hi at d a o p next = (lo, in_range lo hi lo (omega arith) o, gap 0 (2 ^ 64) xs lo at lo d a p (omega arith) next)

-- the range goes on behind the span that has its first hash
pub lacks_later : (xs : List Span) (lo hi at : ℕ) (d : Span) → SpansAscend xs → IsSpanPlace xs lo at → at < length xs → (get_or xs at d).1 < hi → Lacks xs lo hi
lacks_later xs lo hi at d a p l last =
    let reached : lo ≤ (get_or xs at d).1 = p.from at d (omega arith) l in
    ((get_or xs at d).1 + 1, in_range lo hi _ (omega arith) (omega arith), none_next 0 (2 ^ 64) xs at d a l)

pub met : (xs : List Span) (lo hi at : ℕ) (d : Span) → SpansAscend xs → lo ≤ hi → IsSpanPlace xs lo at → at < length xs → (get_or xs at d).0 ≤ hi → Meets xs lo hi
met xs lo hi at d a o p l first =
    let reached : lo ≤ (get_or xs at d).1 = p.from at d (omega arith) l in
    let order = ends 0 (2 ^ 64) xs at d a l in
    elim (cases_lt lo (get_or xs at d).0) [
      | inl below ↦ ((get_or xs at d).0, in_range lo hi _ (omega arith) first, owned_at xs at d _ l (in_range _ _ _ (omega arith) order.0))
      | inr above ↦ (lo, in_range lo hi lo (omega arith) o, owned_at xs at d lo l (in_range _ _ lo above reached))
    ]

pub not_met : (xs : List Span) (lo hi at : ℕ) (d : Span) → SpansAscend xs → IsSpanPlace xs lo at → (at < length xs → hi < (get_or xs at d).0) → Meets xs lo hi → ⊥
not_met xs lo hi at d a p next m =
    let bounds = range_bounds lo hi m.0 m.1 in
    cc (m.2, gap 0 (2 ^ 64) xs lo at m.0 d a p bounds.0 (λ l. omega (arith, next l, bounds.1)))

-- a range that is covered lacks no hash
pub not_lacking : (xs : List Span) (lo hi : ℕ) → Covers xs lo hi → Lacks xs lo hi → ⊥
not_lacking xs lo hi c l = cc (c l.0 l.1, l.2)

-- the two tests of `covers`, and the one of `meets`, at the span that stands at the place
same_ends : (s r : Span) → s ≡ r → (s.0 ≡ r.0) × (s.1 ≡ r.1)
same_ends s r e = (ap (λ (x : Span). x.0) e, ap (λ (x : Span). x.1) e)

pub tested_last : (xs : List Span) (lo hi at : ℕ) (s : Span) → SpansAscend xs → IsSpanPlace xs lo at → at < length xs → s ≡ get_or xs at s → s.0 ≤ lo → MatchBool (nat_le hi s.1) (Covers xs lo hi) (Lacks xs lo hi)
tested_last xs lo hi at s a p l is first = go (nat_le hi s.1) refl
  where
    go : (b : Bool) → nat_le hi s.1 ≡ b → MatchBool b (Covers xs lo hi) (Lacks xs lo hi)
    go true e = let reads = same_ends s _ is in let last : hi ≤ s.1 = grind (arith, nat_tests) in covered xs lo hi at s l (omega arith) (omega arith)
    go false e = let reads = same_ends s _ is in let last : s.1 < hi = grind (arith, nat_tests) in lacks_later xs lo hi at s a p l (omega arith)

pub tested_first : (xs : List Span) (lo hi at : ℕ) (s : Span) → SpansAscend xs → lo ≤ hi → IsSpanPlace xs lo at → s ≡ get_or xs at s → lo < s.0 → MatchBool (nat_le s.0 lo) (Covers xs lo hi) (Lacks xs lo hi)
tested_first xs lo hi at s a o p is first = let reads = same_ends s _ is in let test : nat_le s.0 lo ≡ false = grind (arith, nat_tests) in rw test (lacks_first xs lo hi at s a o p (λ _. omega arith))

pub tested_met : (xs : List Span) (lo hi at : ℕ) (s : Span) → SpansAscend xs → lo ≤ hi → IsSpanPlace xs lo at → at < length xs → s ≡ get_or xs at s → IsTrue (nat_le s.0 hi) ↔ Meets xs lo hi
tested_met xs lo hi at s a o p l is = go (nat_le s.0 hi) refl
  where
    go : (b : Bool) → nat_le s.0 hi ≡ b → IsTrue b ↔ Meets xs lo hi
    go true e = let reads = same_ends s _ is in let first : s.0 ≤ hi = grind (arith, nat_tests) in (λ _. met xs lo hi at s a o p l (omega arith), λ _. refl)
    go false e = let reads = same_ends s _ is in let first : hi < s.0 = grind (arith, nat_tests) in (λ t. absurd cc, λ m. absurd (not_met xs lo hi at s a p (λ _. omega arith) m))

-- a range of which each hash is owned lies in the span at its first hash's place
pub span_of_covered : (xs : List Span) (lo hi at : ℕ) → SpansAscend xs → lo ≤ hi → IsSpanPlace xs lo at → Covers xs lo hi → IsSpanOf xs lo hi at
span_of_covered xs lo hi at a o p c = record { within = within; first = first; last = last }
  where
    lacks : Lacks xs lo hi → ⊥
    lacks l = not_lacking xs lo hi c l

    within : at < length xs
    within = elim (cases_lt at (length xs)) [ inl l ↦ l | inr past ↦ absurd (lacks (lacks_first xs lo hi at (0, 0) a o p (λ l. absurd (omega arith)))) ]

    first : (d : Span) → (get_or xs at d).0 ≤ lo
    first d = elim (cases_lt lo (get_or xs at d).0) [ inl above ↦ absurd (lacks (lacks_first xs lo hi at d a o p (λ _. above))) | inr l ↦ l ]

    last : (d : Span) → hi ≤ (get_or xs at d).1
    last d = elim (cases_lt (get_or xs at d).1 hi) [ inl short ↦ absurd (lacks (lacks_later xs lo hi at d a p within short)) | inr l ↦ l ]
