-- Byte strings that are held in place, in an array of a fixed size.
use Rattle.std.specs.Prelude.{◌≡◌, ℕ, ◌≤◌, ◌-◌, List, ◌++◌, length, take, replicate}
use Rattle.curp_base.specs.Words.{AreBytes}
use Rattle.std.proofs.Common.{sym, subst, arith, length-append, length-take-le}
use Rattle.std.proofs.lemmas.List.{length-replicate}

-- the bytes, with zeros up to the array's size
abbrev pub padded : ℕ → List ℕ → List ℕ
padded size bytes = bytes ++ replicate (size - length bytes) 0

-- the array holds so many bytes, at least as many as it has to, and zeros behind them
pub record IsInPlace (size least len : ℕ) (array : List ℕ) : Type 0 where
  pub least_ok : least ≤ len
  pub fits : len ≤ size
  pub range : AreBytes array
  pub zeros : array ≡ padded size (take len array)

-- the bytes that are held give the array back
pub held_again : {size least len : ℕ} {array : List ℕ} → IsInPlace size least len array → padded size (take len array) ≡ array
held_again h = sym h.zeros

size_padded : (size : ℕ) (bytes : List ℕ) → size ≤ length (padded size bytes)
size_padded size bytes = simp (length-append, length-replicate) (omega arith)

-- and their number
pub length_held : {size least len : ℕ} {array : List ℕ} → IsInPlace size least len array → length (take len array) ≡ len
length_held {size} {least} {len} {array} h =
    let room : size ≤ length array = subst (λ (xs : List ℕ). size ≤ length xs) (sym h.zeros) (size_padded size (take len array)) in
    length-take-le len array (omega (arith, h.fits))
