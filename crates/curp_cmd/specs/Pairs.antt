-- Lists of pairs of a key and its value, and those that a multi-put holds.
use Rattle.std.specs.Prelude.{◌≡◌, ℕ, ◌≤◌, ◌-◌, Bool, false, ◌&&◌, ◌||◌, List, [], ◌∷◌, ◌++◌, length, take, replicate, slice_index_or}
use Rattle.std.specs.List.{list_any}
use Rattle.std.specs.Cmp.Lexicographic.{pointwise}
use Rattle.std.specs.Str.{bytes_eq}
use Rattle.std.proofs.Common.{sym, subst, arith, length-append, length-take-le}
use Rattle.std.proofs.lemmas.List.{length-replicate}

-- a key, then its value
abbrev pub Pair : Type 0
Pair = List ℕ × List ℕ

-- the same keys with the same values, in the same order
abbrev pub pairs_eq : List Pair → List Pair → Bool
pairs_eq = pointwise (λ p q. bytes_eq p.0 q.0 && bytes_eq p.1 q.1)

-- two of the pairs have one key
abbrev pub names_twice : List Pair → Bool
names_twice [] = false
names_twice (p ∷ ps) = list_any (λ q. bytes_eq q.0 p.0) ps || names_twice ps

-- the pairs, with copies of the first up to four
abbrev pub filled : List Pair → List Pair
filled pairs = pairs ++ replicate (4 - length pairs) (slice_index_or pairs 0 ([], []))

-- the array holds so many pairs for a multi-put, and copies of the first behind them
pub record IsMulti (len : ℕ) (held : List Pair) : Type 0 where
  pub least : 1 ≤ len
  pub most : len ≤ 4
  pub distinct : names_twice (take len held) ≡ false
  pub copies : held ≡ filled (take len held)

-- the pairs that are held give the array back
pub filled_again : {len : ℕ} {held : List Pair} → IsMulti len held → filled (take len held) ≡ held
filled_again h = sym h.copies

size_filled : (pairs : List Pair) → 4 ≤ length (filled pairs)
size_filled pairs = simp (length-append, length-replicate) (omega arith)

-- and their number
pub length_filled : {len : ℕ} {held : List Pair} → IsMulti len held → length (take len held) ≡ len
length_filled {len} {held} h =
    let room : 4 ≤ length held = subst (λ (ps : List Pair). 4 ≤ length ps) (sym h.copies) (size_filled (take len held)) in
    length-take-le len held (omega (arith, h.most))
