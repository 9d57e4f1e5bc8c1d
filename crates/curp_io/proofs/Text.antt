-- Lemmas on lines.
use Rattle.std.proofs.Common.{◌≡◌, ◌≢◌, ℕ, suc, ◌+◌, ◌<◌, Bool, true, false, not, cond, List, [], ◌∷◌, ◌++◌, length, take, drop, refl, ap, arith}
use Rattle.std.specs.Prelude.{◌==◌}
use Rattle.std.specs.List.{position_or_len}
use Rattle.curp_io.specs.Text.{line_of, rest_of, lines_of, begin_first}

-- a text that isn't empty is its first line and the lines of the rest
pub lines_of_first : (bytes : List ℕ) → bytes ≢ [] → lines_of bytes ≡ line_of bytes ∷ lines_of (rest_of bytes)
lines_of_first [] more = absurd (more refl)
lines_of_first (byte ∷ []) more =
    elim (byte == 10) as (λ t. cond t ([] ∷ []) ((byte ∷ []) ∷ []) ≡ cond t [] (byte ∷ []) ∷ lines_of (cond t [] [])) [
      | true ↦ refl
      | false ↦ refl
    ]
lines_of_first (byte ∷ next ∷ bytes) more =
    let rest : List ℕ = next ∷ bytes in
    let e : lines_of rest ≡ line_of rest ∷ lines_of (rest_of rest) = lines_of_first (next ∷ bytes) (λ h. absurd cc) in
    elim (byte == 10) as (λ t. cond t ([] ∷ lines_of rest) (begin_first byte (lines_of rest)) ≡ cond t [] (byte ∷ line_of rest) ∷ lines_of (cond t rest (rest_of rest))) [
      | true ↦ refl
      | false ↦ ap (λ w. begin_first byte w) e
    ]

-- Below, bytes xs with no line feed are their own first line.

pub line_of-append_none : (xs ys : List ℕ) → line_of xs ≡ xs → line_of (xs ++ ys) ≡ xs ++ line_of ys
line_of-append_none [] ys h = refl
line_of-append_none (x ∷ xs) ys h =
    elim (x == 10) as (λ t. cond t [] (x ∷ line_of xs) ≡ x ∷ xs → cond t [] (x ∷ line_of (xs ++ ys)) ≡ x ∷ xs ++ line_of ys) [
      | true ↦ λ e. absurd cc
      | false ↦ λ e. ap (λ w. x ∷ w) (line_of-append_none xs ys cc)
    ] h

pub line_of-append_some : (xs ys : List ℕ) → length (line_of xs) < length xs → line_of (xs ++ ys) ≡ line_of xs
line_of-append_some [] ys h = absurd (omega arith)
line_of-append_some (x ∷ xs) ys h =
    elim (x == 10) as (λ t. length (cond t [] (x ∷ line_of xs)) < length (x ∷ xs) → cond t [] (x ∷ line_of (xs ++ ys)) ≡ cond t [] (x ∷ line_of xs)) [
      | true ↦ λ e. refl
      | false ↦ λ e. ap (λ w. x ∷ w) (line_of-append_some xs ys (omega arith))
    ] h

pub rest_of-append_some : (xs ys : List ℕ) → length (line_of xs) < length xs → rest_of (xs ++ ys) ≡ rest_of xs ++ ys
rest_of-append_some [] ys h = absurd (omega arith)
rest_of-append_some (x ∷ xs) ys h =
    elim (x == 10) as (λ t. length (cond t [] (x ∷ line_of xs)) < length (x ∷ xs) → cond t (xs ++ ys) (rest_of (xs ++ ys)) ≡ cond t xs (rest_of xs) ++ ys) [
      | true ↦ λ e. refl
      | false ↦ λ e. rest_of-append_some xs ys (omega arith)
    ] h

pub take_line : (xs : List ℕ) → take (length (line_of xs)) xs ≡ line_of xs
take_line [] = refl
take_line (x ∷ xs) =
    elim (x == 10) as (λ t. take (length (cond t [] (x ∷ line_of xs))) (x ∷ xs) ≡ cond t [] (x ∷ line_of xs)) [
      | true ↦ refl
      | false ↦ ap (λ w. x ∷ w) (take_line xs)
    ]

pub drop_line : (xs : List ℕ) → drop (suc (length (line_of xs))) xs ≡ rest_of xs
drop_line [] = refl
drop_line (x ∷ xs) =
    elim (x == 10) as (λ t. drop (suc (length (cond t [] (x ∷ line_of xs)))) (x ∷ xs) ≡ cond t xs (rest_of xs)) [
      | true ↦ refl
      | false ↦ drop_line xs
    ]

-- the first line feed stands after the first line
pub feed_place : (xs : List ℕ) → position_or_len (λ byte. byte == 10) xs ≡ length (line_of xs)
feed_place [] = refl
feed_place (x ∷ xs) =
    elim (x == 10) as (λ t. cond (not t) (1 + position_or_len (λ byte. byte == 10) xs) 0 ≡ length (cond t [] (x ∷ line_of xs))) [
      | true ↦ refl
      | false ↦ omega (arith, feed_place xs)
    ]

-- ---- the first line with its line feed

abbrev pub prefix_of : List ℕ → List ℕ
prefix_of [] = []
prefix_of (byte ∷ bytes) = cond (byte == 10) (byte ∷ []) (byte ∷ prefix_of bytes)

-- the rest stands behind it
pub prefix_and_rest : (bytes : List ℕ) → prefix_of bytes ++ rest_of bytes ≡ bytes
prefix_and_rest [] = refl
prefix_and_rest (byte ∷ bytes) =
    elim (byte == 10) as (λ t. cond t (byte ∷ []) (byte ∷ prefix_of bytes) ++ cond t bytes (rest_of bytes) ≡ byte ∷ bytes) [
      | true ↦ refl
      | false ↦ ap (λ w. byte ∷ w) (prefix_and_rest bytes)
    ]

-- alone it is the first line
pub lines_of_prefix : (bytes : List ℕ) → bytes ≢ [] → lines_of (prefix_of bytes) ≡ line_of bytes ∷ []
lines_of_prefix [] more = absurd (more refl)
lines_of_prefix (byte ∷ []) more =
    elim (byte == 10) as (λ t. (byte == 10) ≡ t → lines_of (cond t (byte ∷ []) (byte ∷ [])) ≡ cond t [] (byte ∷ []) ∷ []) [
      | true ↦ λ is. rw is refl
      | false ↦ λ is. rw is refl
    ] refl
lines_of_prefix (byte ∷ next ∷ bytes) more =
    let rest : List ℕ = next ∷ bytes in
    let first : lines_of (prefix_of rest) ≡ line_of rest ∷ [] = lines_of_prefix (next ∷ bytes) (λ h. absurd cc) in
    elim (byte == 10) as (λ t. (byte == 10) ≡ t → lines_of (cond t (byte ∷ []) (byte ∷ prefix_of rest)) ≡ cond t [] (byte ∷ line_of rest) ∷ []) [
      | true ↦ λ is. rw is refl
      | false ↦ λ is. rw is (ap (λ w. begin_first byte w) first)
    ] refl

-- and before other bytes, where a rest stands behind it, since it ends in a line feed then
pub lines_behind_prefix : (bytes others : List ℕ) → rest_of bytes ≢ [] → lines_of (prefix_of bytes ++ others) ≡ line_of bytes ∷ lines_of others
lines_behind_prefix [] others more = absurd (more refl)
lines_behind_prefix (byte ∷ bytes) others more =
    elim (byte == 10) as (λ t. (byte == 10) ≡ t → cond t bytes (rest_of bytes) ≢ []
    → lines_of (cond t (byte ∷ []) (byte ∷ prefix_of bytes) ++ others) ≡ cond t [] (byte ∷ line_of bytes) ∷ lines_of others) [
      | true ↦ λ is some. rw is refl
      | false ↦ λ is some. rw is (ap (λ w. begin_first byte w) (lines_behind_prefix bytes others some))
    ] refl more
