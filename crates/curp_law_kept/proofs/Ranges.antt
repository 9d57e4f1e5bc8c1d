-- Owned ranges at one hash.
use Rattle.std.proofs.Common.{◌≡◌, ℕ, zero, suc, ◌+◌, ◌-◌, ◌≤◌, min, max, nat_lt, ◌==◌, Some, Bool, true, false, cond, ◌&&◌, ◌||◌, not, inl, inr, List, [], ◌∷◌, ◌++◌, refl, ap, sym, ◌∙◌, arith}
use Rattle.std.specs.List.{list_any, list_all}
use Rattle.std.proofs.lemmas.Bool.{and_parts, and_from, or_cases, or_left, or_right, cond_both}
use Rattle.std.proofs.lemmas.Bool.Decides.{nat_tests}
use Rattle.std.proofs.lemmas.List.Folds.{list_any-append}
use Rattle.curp_base.specs.Words.{At, Each}
use Rattle.curp_base.proofs.Lists.{Each-append, Each-at, Each-from_at}
use Rattle.curp_cmd.specs.Hash.{touches, hashes, hashes_of}
use Rattle.curp_cmd.specs.declared.command.Command.{Command}
use Rattle.curp_cmd.proofs.Ascendings.{any_ascending}
use Rattle.curp_range.specs.Spans.{Span, is_in, is_owned, is_covered, part_above, part_below, with_range, without}
use Rattle.curp_range.proofs.Tests.{covers_if_covered}
use Rattle.curp_facts.specs.Facts.{IsAmong}
use Rattle.curp_model.specs.Ranges.{owns_all}
use Rattle.curp_cmd.proofs.Apart.{number_is, same_number}

-- no span ends before it begins
abbrev pub Ordered : List Span → Type 0
Ordered spans = Each (λ (s : Span). s.0 ≤ s.1) spans

-- ---- a range goes

below_at : (s : Span) (lo h : ℕ) → is_owned (part_below s lo) h ≡ (is_in s.0 s.1 h && nat_lt h lo)
below_at s lo h = cond_both (nat_lt s.0 lo) _ _ (λ (spans : List Span). is_owned spans h ≡ (is_in s.0 s.1 h && nat_lt h lo)) (λ y. here y) (λ n. none n)
  where
    here : nat_lt s.0 lo ≡ true → (is_in s.0 (min s.1 (lo - 1)) h || false) ≡ (is_in s.0 s.1 h && nat_lt h lo)
    here y = grind (arith, nat_tests)

    none : nat_lt s.0 lo ≡ false → false ≡ (is_in s.0 s.1 h && nat_lt h lo)
    none n = grind (arith, nat_tests)

above_at : (s : Span) (hi h : ℕ) → is_owned (part_above s hi) h ≡ (is_in s.0 s.1 h && nat_lt hi h)
above_at s hi h = cond_both (nat_lt hi s.1) _ _ (λ (spans : List Span). is_owned spans h ≡ (is_in s.0 s.1 h && nat_lt hi h)) (λ y. here y) (λ n. none n)
  where
    here : nat_lt hi s.1 ≡ true → (is_in (max s.0 (hi + 1)) s.1 h || false) ≡ (is_in s.0 s.1 h && nat_lt hi h)
    here y = grind (arith, nat_tests)

    none : nat_lt hi s.1 ≡ false → false ≡ (is_in s.0 s.1 h && nat_lt hi h)
    none n = grind (arith, nat_tests)

one_without : (a : Bool) (lo hi h : ℕ) → ((a && nat_lt h lo) || (a && nat_lt hi h)) ≡ (a && not (is_in lo hi h))
one_without true lo hi h = grind (arith, nat_tests)
one_without false lo hi h = refl

both_without : (a b c : Bool) → ((a && not c) || (b && not c)) ≡ ((a || b) && not c)
both_without true b true = both_none b
  where
    both_none : (b : Bool) → (b && false) ≡ false
    both_none true = refl
    both_none false = refl
both_without true b false = refl
both_without false b c = refl

-- a hash is owned behind it, if it was and is not of the range
pub owned_without : (spans : List Span) (lo hi h : ℕ) → is_owned (without spans lo hi) h ≡ (is_owned spans h && not (is_in lo hi h))
owned_without [] lo hi h = refl
owned_without (s ∷ spans) lo hi h =
    list_any-append (λ (s : Span). is_in s.0 s.1 h) (part_below s lo ++ part_above s hi) (without spans lo hi)
    ∙ (λ i. list_any-append (λ (s : Span). is_in s.0 s.1 h) (part_below s lo) (part_above s hi) i || owned_without spans lo hi h i)
    ∙ (λ i. (below_at s lo h i || above_at s hi h i) || (is_owned spans h && not (is_in lo hi h)))
    ∙ ap (λ (b : Bool). b || (is_owned spans h && not (is_in lo hi h))) (one_without (is_in s.0 s.1 h) lo hi h)
    ∙ both_without (is_in s.0 s.1 h) (is_owned spans h) (is_in lo hi h)

pub ordered_without : (spans : List Span) (lo hi : ℕ) → Ordered spans → Ordered (without spans lo hi)
ordered_without [] lo hi o = tt
ordered_without (s ∷ spans) lo hi o = Each-append (λ (s : Span). s.0 ≤ s.1) (part_below s lo ++ part_above s hi) (without spans lo hi)
    (Each-append (λ (s : Span). s.0 ≤ s.1) (part_below s lo) (part_above s hi) (left o.0) (right o.0)) (ordered_without spans lo hi o.1)
  where
    left : s.0 ≤ s.1 → Ordered (part_below s lo)
    left l = cond_both (nat_lt s.0 lo) _ _ Ordered (λ y. (grind (arith, nat_tests), tt)) (λ n. tt)

    right : s.0 ≤ s.1 → Ordered (part_above s hi)
    right l = cond_both (nat_lt hi s.1) _ _ Ordered (λ y. (grind (arith, nat_tests), tt)) (λ n. tt)

-- ---- a range comes

swap_or : (a b c : Bool) → (a || (b || c)) ≡ ((a || b) || c)
swap_or true b c = refl
swap_or false b c = refl

turn_or : (a b : Bool) → (a || b) ≡ (b || a)
turn_or true true = refl
turn_or true false = refl
turn_or false true = refl
turn_or false false = refl

joined : (a b first last h : ℕ) → a ≤ b → first ≤ last → nat_lt (b + 1) first ≡ false → nat_lt (last + 1) a ≡ false → is_in (min a first) (max b last) h ≡ (is_in a b h || is_in first last h)
joined a b first last h o q prefix back = grind (arith, nat_tests)

-- a hash is owned behind it, if it was or is of the range
pub owned_with_range : (spans : List Span) (lo hi h : ℕ) → Ordered spans → lo ≤ hi → is_owned (with_range spans lo hi) h ≡ (is_owned spans h || is_in lo hi h)
owned_with_range [] lo hi h o l = turn_or (is_in lo hi h) false
owned_with_range (s ∷ spans) lo hi h o l =
    go (nat_lt (s.1 + 1) lo) refl (nat_lt (hi + 1) s.0) refl (owned_with_range spans lo hi h o.1 l) (owned_with_range spans (min s.0 lo) (max s.1 hi) h o.1 (omega (arith, o.0)))
  where
    go : (a : Bool) → nat_lt (s.1 + 1) lo ≡ a → (b : Bool) → nat_lt (hi + 1) s.0 ≡ b
        → is_owned (with_range spans lo hi) h ≡ (is_owned spans h || is_in lo hi h)
        → is_owned (with_range spans (min s.0 lo) (max s.1 hi)) h ≡ (is_owned spans h || is_in (min s.0 lo) (max s.1 hi) h)
        → is_owned (cond a (s ∷ with_range spans lo hi) (cond b ((lo, hi) ∷ s ∷ spans) (with_range spans (min s.0 lo) (max s.1 hi)))) h ≡ ((is_in s.0 s.1 h || is_owned spans h) || is_in lo hi h)
    go true e b f rest wide = ap (λ (c : Bool). is_in s.0 s.1 h || c) rest ∙ swap_or (is_in s.0 s.1 h) (is_owned spans h) (is_in lo hi h)
    go false e true f rest wide = turn_or (is_in lo hi h) (is_in s.0 s.1 h || is_owned spans h)
    go false e false f rest wide = wide ∙ ap (λ (c : Bool). is_owned spans h || c) (joined s.0 s.1 lo hi h o.0 l e f)
        ∙ swap_or (is_owned spans h) (is_in s.0 s.1 h) (is_in lo hi h) ∙ ap (λ (c : Bool). c || is_in lo hi h) (turn_or (is_owned spans h) (is_in s.0 s.1 h))

pub ordered_with_range : (spans : List Span) (lo hi : ℕ) → Ordered spans → lo ≤ hi → Ordered (with_range spans lo hi)
ordered_with_range [] lo hi o l = (l, tt)
ordered_with_range (s ∷ spans) lo hi o l = go (nat_lt (s.1 + 1) lo) (nat_lt (hi + 1) s.0) (ordered_with_range spans lo hi o.1 l) (ordered_with_range spans (min s.0 lo) (max s.1 hi) o.1 (omega (arith, o.0)))
  where
    go : (a b : Bool) → Ordered (with_range spans lo hi) → Ordered (with_range spans (min s.0 lo) (max s.1 hi)) → Ordered (cond a (s ∷ with_range spans lo hi) (cond b ((lo, hi) ∷ s ∷ spans) (with_range spans (min s.0 lo) (max s.1 hi))))
    go true b rest wide = (o.0, rest)
    go false true rest wide = (l, o)
    go false false rest wide = wide

-- ---- a covered range is owned

pub covered_owns : (spans : List Span) (lo hi h : ℕ) → is_covered spans lo hi ≡ true → is_in lo hi h ≡ true → is_owned spans h ≡ true
covered_owns spans lo hi h e i = covers_if_covered spans lo hi e h i

-- ---- the hashes of a command, in ascending order, are those that it touches

pub any_hashes : (p : ℕ → Bool) (c : Command) → list_any p (hashes c) ≡ list_any p (hashes_of c)
any_hashes p c = any_ascending p (hashes_of c)

among_any : (h : ℕ) (xs : List ℕ) → list_any (λ x. x == h) xs ≡ true → IsAmong h xs
among_any h [] e = absurd cc
among_any h (x ∷ xs) e = elim (or_cases (x == h) (list_any (λ x. x == h) xs) e) [
  | inl here ↦ record { place = 0; stands = ap (λ (y : ℕ). Some y) (number_is x h here) }
  | inr later ↦ let m = among_any h xs later in record { place = suc m.place; stands = m.stands }
]

any_among : (h : ℕ) (xs : List ℕ) → IsAmong h xs → list_any (λ x. x == h) xs ≡ true
any_among h xs m = go xs m.place m.stands
  where
    go : (xs : List ℕ) (k : ℕ) → At xs k h → list_any (λ x. x == h) xs ≡ true
    go [] k at = absurd cc
    go (x ∷ xs) zero at = let same : x ≡ h = cc in or_left _ _ (ap (λ (y : ℕ). y == h) same ∙ same_number h)
    go (x ∷ xs) (suc k) at = or_right (x == h) _ (go xs k at)

-- what a command touches stands among its hashes
pub touched_among : (c : Command) (h : ℕ) → touches c h ≡ true → IsAmong h (hashes c)
touched_among c h t = among_any h (hashes c) (any_hashes (λ x. x == h) c ∙ t)

-- and the other way round
pub among_touched : (c : Command) (h : ℕ) → IsAmong h (hashes c) → touches c h ≡ true
among_touched c h m = sym (any_hashes (λ x. x == h) c) ∙ any_among h (hashes c) m

-- what holds of each hash of a command holds of what it touches
pub each_touched : (P : ℕ → Type 0) (c : Command) → Each P (hashes c) → (h : ℕ) → touches c h ≡ true → P h
each_touched P c each h t = let m = touched_among c h t in Each-at P (hashes c) each m.place h m.stands

-- and the other way round
pub touched_each : (P : ℕ → Type 0) (c : Command) → ((h : ℕ) → touches c h ≡ true → P h) → Each P (hashes c)
touched_each P c all = Each-from_at P (hashes c) (λ k h at. all h (among_touched c h (record { place = k; stands = at })))

all_at : (p : ℕ → Bool) (hs : List ℕ) → list_all p hs ≡ true → Each (λ h. p h ≡ true) hs
all_at p [] e = tt
all_at p (h ∷ hs) e = let parts = and_parts (p h) (list_all p hs) e in (parts.0, all_at p hs parts.1)

all_from : (p : ℕ → Bool) (hs : List ℕ) → Each (λ h. p h ≡ true) hs → list_all p hs ≡ true
all_from p [] each = refl
all_from p (h ∷ hs) each = and_from _ _ each.0 (all_from p hs each.1)

-- all hashes of a command are owned, if each that it touches is
pub owns_touched : (spans : List Span) (c : Command) → owns_all spans (hashes c) ≡ true → (h : ℕ) → touches c h ≡ true → is_owned spans h ≡ true
owns_touched spans c e = each_touched (λ h. is_owned spans h ≡ true) c (all_at (is_owned spans) (hashes c) e)

-- and the other way round
pub owns_from_touched : (spans : List Span) (c : Command) → ((h : ℕ) → touches c h ≡ true → is_owned spans h ≡ true) → owns_all spans (hashes c) ≡ true
owns_from_touched spans c all = all_from (is_owned spans) (hashes c) (touched_each (λ h. is_owned spans h ≡ true) c all)
