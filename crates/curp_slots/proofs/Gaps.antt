-- A hash that is put in its place among others.
use Rattle.std.proofs.Common.{◌≡◌, ℕ, zero, suc, ◌+◌, ◌-◌, ◌<◌, ◌≤◌, List, [], ◌∷◌, ◌++◌, length, set, get_or, take, drop, Option, Some, None, refl, ap, sym, ◌∙◌, append_assoc, length-take-le, arith}
use Rattle.std.proofs.Math.Seq.{paste, set-append_seam, take-set-lt}
use Rattle.std.proofs.lemmas.List.{drop-take, length-drop, take-take, take_more}
use Rattle.std.proofs.lemmas.List.Edits.{take-paste}
use Rattle.std.specs.BTreeSet.{insert_key}
use Rattle.std.specs.List.{insert}
use Rattle.std.specs.Option.{option_map}
use Rattle.std.specs.Ordering.{nat_cmp, match_ordering}
use Rattle.std.specs.declared.cmp.Ordering.{Ordering}
use Rattle.std.specs.declared.cmp.Ordering.TheVariants.{Less, Equal, Greater}
use Rattle.curp_slots.specs.Slots.{gap}

pub put_in_gap : (xs : List ℕ) (k at : ℕ) → gap xs k ≡ Some at → insert xs at k ≡ insert_key nat_cmp xs k
put_in_gap [] k zero e = refl
put_in_gap [] k (suc at) e = absurd cc
put_in_gap (x ∷ xs) k at e = go (nat_cmp k x) e (λ j. put_in_gap xs k j)
  where
    behind : (o : Option ℕ) → gap xs k ≡ o → option_map (λ at. at + 1) o ≡ Some at → ((j : ℕ) → gap xs k ≡ Some j → insert xs j k ≡ insert_key nat_cmp xs k)
        → insert (x ∷ xs) at k ≡ x ∷ insert_key nat_cmp xs k
    behind None here e rest = absurd cc
    behind (Some j) here e rest =
        let next : at ≡ j + 1 = cc in
        let here_too : suc j ≡ at = omega (arith, next) in
        rw (← here_too) (ap (λ ys. x ∷ ys) (rest j here))

    go : (r : Ordering) → match_ordering r (Some 0) None (option_map (λ at. at + 1) (gap xs k)) ≡ Some at
        → ((j : ℕ) → gap xs k ≡ Some j → insert xs j k ≡ insert_key nat_cmp xs k)
        → insert (x ∷ xs) at k ≡ match_ordering r (k ∷ x ∷ xs) (x ∷ xs) (x ∷ insert_key nat_cmp xs k)
    go Less e rest = let first : 0 ≡ at = cc in rw (← first) refl
    go Equal e rest = absurd cc
    go Greater e rest = behind (gap xs k) refl e rest

pub no_gap : (xs : List ℕ) (k : ℕ) → gap xs k ≡ None → xs ≡ insert_key nat_cmp xs k
no_gap [] k e = absurd cc
no_gap (x ∷ xs) k e = go (nat_cmp k x) e (no_gap xs k)
  where
    behind : (o : Option ℕ) → gap xs k ≡ o → option_map (λ at. at + 1) o ≡ None → (gap xs k ≡ None → xs ≡ insert_key nat_cmp xs k) → x ∷ xs ≡ x ∷ insert_key nat_cmp xs k
    behind None here e rest = ap (λ ys. x ∷ ys) (rest here)
    behind (Some j) here e rest = absurd cc

    go : (r : Ordering) → match_ordering r (Some 0) None (option_map (λ at. at + 1) (gap xs k)) ≡ None → (gap xs k ≡ None → xs ≡ insert_key nat_cmp xs k)
        → x ∷ xs ≡ match_ordering r (k ∷ x ∷ xs) (x ∷ xs) (x ∷ insert_key nat_cmp xs k)
    go Less e rest = absurd cc
    go Equal e rest = refl
    go Greater e rest = behind (gap xs k) refl e rest

-- ---- in the first places of an array

-- those from a place on move up by one, and another comes to that place
pub shifted : (held : List ℕ) (len at n : ℕ) → at ≤ len → len < length held → take (len + 1) (set (paste held (at + 1) (drop at held) (len - at)) at n) ≡ insert (take len held) at n
shifted held len at n within fits =
    let behind : List ℕ = take (len - at) (drop at held) in
    let left : length (drop at held) ≡ length held - at = length-drop at held in
    let end : len + 1 ≡ (at + 1) + (len - at) = omega arith in
    let whole : at + (len - at) ≡ len = omega arith in
    let moved : take (len + 1) (paste held (at + 1) (drop at held) (len - at)) ≡ take at held ++ get_or held at 0 ∷ behind =
    ap (λ k. take k (paste held (at + 1) (drop at held) (len - at))) end
    ∙ take-paste held (at + 1) (drop at held) (len - at) (omega arith) (omega arith)
    ∙ ap (λ xs. xs ++ behind) (take_more held at 0 (omega arith))
    ∙ append_assoc (take at held) (get_or held at 0 ∷ []) behind in
    let prefix : length (take at held) ≡ at = length-take-le at held (omega arith) in
    let put : set (take at held ++ get_or held at 0 ∷ behind) at n ≡ take at held ++ n ∷ behind =
    ap (λ k. set (take at held ++ get_or held at 0 ∷ behind) k n) (sym prefix) ∙ set-append_seam (take at held) (get_or held at 0) behind n in
    take-set-lt (len + 1) (paste held (at + 1) (drop at held) (len - at)) at n (omega arith)
    ∙ ap (λ xs. set xs at n) moved
    ∙ put
    ∙ λ i. sym (take-take at len held within) i ++ n ∷ (sym (drop-take at (len - at) held) ∙ ap (λ k. drop at (take k held)) whole) i
