-- The first of a list that has a property: where it stands, and what an edit there leaves.
use Rattle.std.proofs.Common.{◌≡◌, ℕ, suc, ◌<◌, ◌≤◌, nat_lt, cond, Bool, true, false, List, [], ◌∷◌, ◌++◌, length, Some, None, refl, ap, sym, ◌∙◌, subst, arith}
use Rattle.std.specs.Prelude.{option_map, slice_index_or, slice_set, if◌then◌else◌}
use Rattle.std.specs.List.{position, position_or_len}
use Rattle.std.proofs.lemmas.Bool.Decides.{nat_tests}
use Rattle.curp_front.specs.Finding.{Found, StandsAt, found_behind, found_by, in_place}

-- the first that has it stands at this place
pub record Finds {A : Type 0} (has : A → Bool) (xs : List A) (at : ℕ) : Type 0 where
  pub found : Found A
  pub is : found_by has xs ≡ Some found
  pub stands : StandsAt xs at found

finds : {A : Type 0} (has : A → Bool) (xs : List A) (at : ℕ) → at ≡ position_or_len has xs → at < length xs → Finds has xs at
finds has [] at e within = absurd (omega arith)
finds has (x ∷ xs) at e within = go (has x) refl (finds has xs (position_or_len has xs) refl)
  where
    go : (b : Bool) → has x ≡ b → (position_or_len has xs < length xs → Finds has xs (position_or_len has xs)) → Finds has (x ∷ xs) at
    go true h rest = record {
      found = record { before = []; it = x; behind = xs };
      is = rw h refl;
      stands = record { is = refl; place = e ∙ rw h refl };
    }
    go false h rest =
        let one_more : at ≡ suc (position_or_len has xs) = e ∙ rw h (omega arith) in
        let later = rest (omega (arith, one_more, within)) in
        record {
          found = found_behind x later.found;
          is = subst (λ b. (if b then Some (record { before = []; it = x; behind = xs }) else option_map (found_behind x) (found_by has xs)) ≡ Some (found_behind x later.found)) (sym h)
              (ap (option_map (found_behind x)) later.is);
          stands = record { is = ap (λ w. x ∷ w) later.stands.is; place = one_more ∙ ap suc later.stands.place };
        }

pub found_at : {A : Type 0} (has : A → Bool) (xs : List A) (at : ℕ) → Some at ≡ position has xs → Finds has xs at
found_at has xs at e = go (nat_lt (position_or_len has xs) (length xs)) refl e
  where
    go : (b : Bool) → nat_lt (position_or_len has xs) (length xs) ≡ b → Some at ≡ cond b (Some (position_or_len has xs)) None → Finds has xs at
    go true l is = let same : at ≡ position_or_len has xs = cc in finds has xs at same (grind (arith, nat_tests))
    go false l is = absurd cc

nowhere : {A : Type 0} (has : A → Bool) (xs : List A) → length xs ≤ position_or_len has xs → found_by has xs ≡ None
nowhere has [] l = refl
nowhere has (x ∷ xs) l = go (has x) refl (nowhere has xs)
  where
    go : (b : Bool) → has x ≡ b → (length xs ≤ position_or_len has xs → found_by has xs ≡ None) → found_by has (x ∷ xs) ≡ None
    go true h rest =
        let first : position_or_len has (x ∷ xs) ≡ 0 = rw h refl in
        absurd (omega (arith, l, first))
    go false h rest =
        let one_more : position_or_len has (x ∷ xs) ≡ suc (position_or_len has xs) = rw h (omega arith) in
        rw h (ap (option_map (found_behind x)) (rest (omega (arith, l, one_more))))

pub found_none : {A : Type 0} (has : A → Bool) (xs : List A) → None ≡ position has xs → found_by has xs ≡ None
found_none has xs e = go (nat_lt (position_or_len has xs) (length xs)) refl e
  where
    go : (b : Bool) → nat_lt (position_or_len has xs) (length xs) ≡ b → None ≡ cond b (Some (position_or_len has xs)) None → found_by has xs ≡ None
    go true l is = absurd cc
    go false l is = nowhere has xs (grind (arith, nat_tests))

-- ---- what stands between the two sides

set_between : {A : Type 0} (before behind : List A) (it new : A) → slice_set (before ++ it ∷ behind) (length before) new ≡ before ++ new ∷ behind
set_between [] behind it new = refl
set_between (x ∷ before) behind it new = ap (λ w. x ∷ w) (set_between before behind it new)

get_between : {A : Type 0} (before behind : List A) (it d : A) → slice_index_or (before ++ it ∷ behind) (length before) d ≡ it
get_between [] behind it d = refl
get_between (x ∷ before) behind it d = get_between before behind it d

-- ---- where it stands

module _ {A : Type 0} (xs : List A) (at : ℕ) (found : Found A) (s : StandsAt xs at found) where
  -- what stands at its place
  pub it_there : (was : A) → was ≡ slice_index_or xs at was → was ≡ found.it
  it_there was e =
      e
      ∙ ap (λ w. slice_index_or w at was) s.is
      ∙ ap (λ n. slice_index_or (found.before ++ found.it ∷ found.behind) n was) s.place
      ∙ get_between found.before found.behind found.it was

  -- another stands in its place
  pub set_there : (new : A) → slice_set xs at new ≡ in_place (new ∷ []) found
  set_there new =
      ap (λ w. slice_set w at new) s.is
      ∙ ap (λ n. slice_set (found.before ++ found.it ∷ found.behind) n new) s.place
      ∙ set_between found.before found.behind found.it new

  -- what it became stands in its place
  pub became_there : (f : A → A) (was new : A) → was ≡ slice_index_or xs at was → new ≡ f was → slice_set xs at new ≡ in_place (f found.it ∷ []) found
  became_there f was new e is = set_there new ∙ ap (λ x. in_place (x ∷ []) found) (is ∙ ap f (it_there was e))

  pub stands_then : (f : A → A) (was new : A) → was ≡ slice_index_or xs at was → new ≡ f was → StandsAt (slice_set xs at new) at (record found { it = f found.it })
  stands_then f was new e is = record { is = became_there f was new e is; place = s.place }
