-- A changed byte shows in the checksum: each step of FNV-1a is one to one, in what it begins with and in its byte.
use Rattle.std.specs.Prelude.{◌≡◌, ◌≢◌, ℕ, suc, ◌+◌, ◌-◌, ◌*◌, ◌%◌, ◌^◌, ◌<◌, ◌≤◌, ◌⊎◌, bit_xor, List, [], ◌∷◌, ◌++◌, length, take, drop, get_or, refl}
use Rattle.std.specs.Int.{to_be_bytes, from_be_bytes, w64, bit_at}
use Rattle.std.proofs.Common.{inl, inr, sym, ◌∙◌, ap, arith, append_assoc, length-append, length-drop, take-append-drop}
use Rattle.std.proofs.Math.Nat.{add-mul-mod_self_right, mod-eq_of_lt}
use Rattle.std.proofs.lemmas.List.{append_cancel_left, drop_at, length-take-le, take-append-le, take_at}
use Rattle.std.proofs.lemmas.List.Elements.{All-head, All-tail, All-take}
use Rattle.std.proofs.lemmas.Bool.{cases_lt}
use Rattle.std.proofs.lemmas.Nat.{from_be_bytes-to_be_bytes_8, mod_below, mul-mod_first, xor_lt}
use Rattle.std.proofs.lemmas.Nat.Bits.{bit_at-lt, bit_at_xor, same_from_bits}
use Rattle.curp_base.specs.Words.{AreBytes}
use Rattle.curp_cmd.specs.Hash.{hash_of, hashed_from, offset_basis, prime}
use Rattle.curp_journal.specs.declared.arrived.Arrived.{Arrived}
use Rattle.curp_batches.specs.Batches.{IsEncoding, arrivals_of, checksum_of}
use Rattle.curp_batches.proofs.Checksums.{parts, batch-length}

abbrev IsByte : ℕ → Type 0
IsByte n = n < 256

abbrev step : ℕ → ℕ → ℕ
step h byte = (bit_xor h byte * prime) % 2 ^ 64

-- prime * inverse ≡ 1 + turns * 2 ^ 64
abbrev inverse : ℕ
inverse = 14886173955864302971

abbrev turns : ℕ
turns = 887285111055

multiplied : (x : ℕ) → x * prime * inverse ≡ x + x * turns * 2 ^ 64
multiplied x = omega arith

back : (x : ℕ) → x < 2 ^ 64 → ((x * prime) % 2 ^ 64 * inverse) % 2 ^ 64 ≡ x
back x small =
    mul-mod_first (x * prime) inverse (2 ^ 64)
    ∙ ap (λ (n : ℕ). n % 2 ^ 64) (multiplied x)
    ∙ add-mul-mod_self_right x (x * turns) (2 ^ 64)
    ∙ mod-eq_of_lt small

same_xor : (h g b : ℕ) → bit_xor h b ≡ bit_xor g b → h ≡ g
same_xor h g b e =
    same_from_bits h g (λ i. omega (arith, bit_at-lt h i, bit_at-lt g i, bit_at-lt b i, bit_at_xor h b i, bit_at_xor g b i, ap (λ (n : ℕ). bit_at n i) e))

same_byte : (h x y : ℕ) → bit_xor h x ≡ bit_xor h y → x ≡ y
same_byte h x y e =
    same_from_bits x y (λ i. omega (arith, bit_at-lt h i, bit_at-lt x i, bit_at-lt y i, bit_at_xor h x i, bit_at_xor h y i, ap (λ (n : ℕ). bit_at n i) e))

same_mixed : (h g x y : ℕ) → h < 2 ^ 64 → g < 2 ^ 64 → x < 256 → y < 256 → step h x ≡ step g y → bit_xor h x ≡ bit_xor g y
same_mixed h g x y hs gs xs ys e =
    sym (back (bit_xor h x) (xor_lt 64 h x hs (omega (arith, xs))))
    ∙ ap (λ (n : ℕ). (n * inverse) % 2 ^ 64) e
    ∙ back (bit_xor g y) (xor_lt 64 g y gs (omega (arith, ys)))

step_small : (h byte : ℕ) → step h byte < 2 ^ 64
step_small h byte = mod_below (bit_xor h byte * prime) (2 ^ 64) (omega arith)

-- the bytes behind tell apart what stands before them
same_start : (bytes : List ℕ) (h g : ℕ) → AreBytes bytes → h < 2 ^ 64 → g < 2 ^ 64 → hashed_from h bytes ≡ hashed_from g bytes → h ≡ g
same_start [] h g are hs gs e = e
same_start (byte ∷ bytes) h g are hs gs e =
    let next = same_start bytes (step h byte) (step g byte) (All-tail IsByte byte bytes are) (step_small h byte) (step_small g byte) e in
    let small = All-head IsByte byte bytes are in
    same_xor h g byte (same_mixed h g byte byte hs gs small small next)

changed_from : (before after : List ℕ) (x y h : ℕ) → AreBytes after → h < 2 ^ 64 → x < 256 → y < 256 → hashed_from h (before ++ x ∷ after) ≡ hashed_from h (before ++ y ∷ after) → x ≡ y
changed_from [] after x y h are hs xs ys e =
    same_byte h x y (same_mixed h h x y hs hs xs ys (same_start after (step h x) (step h y) are (step_small h x) (step_small h y) e))
changed_from (byte ∷ before) after x y h are hs xs ys e = changed_from before after x y (step h byte) are (step_small h byte) xs ys e

-- bytes that differ in one place have other hashes
same_hash : (before after : List ℕ) (x y : ℕ) → AreBytes after → x < 256 → y < 256 → hash_of (before ++ x ∷ after) ≡ hash_of (before ++ y ∷ after) → x ≡ y
unfolding hash_of
same_hash before after x y are xs ys e = changed_from before after x y offset_basis are (omega arith) xs ys e

hashed_small : (bytes : List ℕ) (h : ℕ) → h < 2 ^ 64 → hashed_from h bytes < 2 ^ 64
hashed_small [] h small = small
hashed_small (byte ∷ bytes) h small = hashed_small bytes (step h byte) (step_small h byte)

hash_small : (bytes : List ℕ) → hash_of bytes < 2 ^ 64
unfolding hash_of
hash_small bytes = hashed_small bytes offset_basis (omega arith)

-- a checksum tells its hash
same_checksum : (one other : List ℕ) → checksum_of one ≡ checksum_of other → hash_of one ≡ hash_of other
same_checksum one other e =
    sym (from_be_bytes-to_be_bytes_8 (hash_of one) (hash_small one))
    ∙ ap (λ (l : List ℕ). from_be_bytes w64 l) e
    ∙ from_be_bytes-to_be_bytes_8 (hash_of other) (hash_small other)

-- bytes of which the place n is at or before the changed one
module _ (before after : List ℕ) where
  same_before : (n z : ℕ) → n ≤ length before → take n (before ++ z ∷ after) ≡ take n before
  same_before n z le = take-append-le n before (z ∷ after) le

  abbrev to_place : ℕ → ℕ → List ℕ
  to_place k z = before ++ z ∷ take k after

  split_at : (k z : ℕ) → before ++ z ∷ after ≡ to_place k z ++ drop k after
  split_at k z = ap (λ (l : List ℕ). before ++ z ∷ l) (sym (take-append-drop k after)) ∙ sym (append_assoc before (z ∷ take k after) (drop k after))

  place_length : (k z : ℕ) → k ≤ length after → length (to_place k z) ≡ length before + 1 + k
  place_length k z le = omega (arith, length-append before (z ∷ take k after), length-take-le k after le)

  -- a byte that was changed in the checksum
  changed_sum : (n x y : ℕ) → n ≤ length before → drop n (before ++ x ∷ after) ≡ checksum_of (take n (before ++ x ∷ after)) → drop n (before ++ y ∷ after) ≡ checksum_of (take n (before ++ y ∷ after)) → x ≡ y
  changed_sum n x y le e f =
      let prefix : take n (before ++ x ∷ after) ≡ take n (before ++ y ∷ after) = same_before n x le ∙ sym (same_before n y le) in
      let back : drop n (before ++ x ∷ after) ≡ drop n (before ++ y ∷ after) = e ∙ ap checksum_of prefix ∙ sym f in
      let whole : before ++ x ∷ after ≡ before ++ y ∷ after =
      sym (take-append-drop n (before ++ x ∷ after)) ∙ ap (λ (l : List ℕ). l ++ drop n (before ++ x ∷ after)) prefix ∙ ap (λ (l : List ℕ). take n (before ++ y ∷ after) ++ l) back ∙ take-append-drop n (before ++ y ∷ after) in
      ap (λ (l : List ℕ). get_or l 0 0) (append_cancel_left before (x ∷ after) (y ∷ after) whole)

  -- and one before it
  changed_content : (k n x y : ℕ) → k ≤ length after → n ≡ length before + 1 + k → AreBytes after → x < 256 → y < 256
      → drop n (before ++ x ∷ after) ≡ checksum_of (take n (before ++ x ∷ after)) → drop n (before ++ y ∷ after) ≡ checksum_of (take n (before ++ y ∷ after)) → x ≡ y
  changed_content k n x y le is are xs ys e f =
      let long = λ (z : ℕ). place_length k z le ∙ sym is in
      let prefix = λ (z : ℕ). ap (λ (l : List ℕ). take n l) (split_at k z) ∙ take_at (to_place k z) (drop k after) n (long z) in
      let back = λ (z : ℕ). ap (λ (l : List ℕ). drop n l) (split_at k z) ∙ drop_at (to_place k z) (drop k after) n (long z) in
      let sums : checksum_of (to_place k x) ≡ checksum_of (to_place k y) = ap checksum_of (sym (prefix x)) ∙ sym e ∙ back x ∙ sym (back y) ∙ f ∙ ap checksum_of (prefix y) in
      same_hash before (take k after) x y (All-take IsByte k after are) xs ys (same_checksum (to_place k x) (to_place k y) sums)

-- an encoding with one byte changed is no encoding
module _ (batch other : List Arrived) (before after : List ℕ) (x y : ℕ) (are : AreBytes after) (xs : x < 256) (ys : y < 256) (e : IsEncoding batch (before ++ x ∷ after)) (f : IsEncoding other (before ++ y ∷ after)) where
  abbrev size : ℕ
  size = length (arrivals_of batch)

  long : size + 8 ≡ length before + 1 + length after
  long = omega (arith, batch-length batch, ap length e.is, length-append before (x ∷ after))

  sum : drop size (before ++ x ∷ after) ≡ checksum_of (take size (before ++ x ∷ after))
  sum = (parts batch (before ++ x ∷ after) size (omega (arith, long, length-append before (x ∷ after))) e).1

  sum_other : drop size (before ++ y ∷ after) ≡ checksum_of (take size (before ++ y ∷ after))
  sum_other = (parts other (before ++ y ∷ after) size (omega (arith, long, length-append before (y ∷ after))) f).1

  same_there : (length before < size) ⊎ (size ≤ length before) → x ≡ y
  same_there (inl lt) =
      changed_content before after (size - length before - 1) size x y (omega (arith, long, lt)) (omega (arith, lt)) are xs ys sum sum_other
  same_there (inr le) = changed_sum before after size x y le sum sum_other

  pub same_bytes : x ≡ y
  same_bytes = same_there (cases_lt (length before) size)

pub changed : (batch other : List Arrived) (before after : List ℕ) (x y : ℕ) → AreBytes after → x < 256 → y < 256 → x ≢ y → IsEncoding batch (before ++ x ∷ after) → IsEncoding other (before ++ y ∷ after) → ⊥
changed batch other before after x y are xs ys apart e f = apart (same_bytes batch other before after x y are xs ys e f)
