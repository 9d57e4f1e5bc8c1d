-- Bytes behind those that an array holds.
use Rattle.std.proofs.Common.{◌≡◌, ℕ, ◌+◌, ◌-◌, ◌<◌, ◌≤◌, List, ◌++◌, length, take, drop, replicate, Some, None, nat_le, if◌then◌else◌, ap, sym, ◌∙◌, arith, append_assoc, length-append}
use Rattle.std.proofs.lemmas.List.{drop-replicate, length-replicate}
use Rattle.std.proofs.lemmas.List.Elements.{All-append, All-take, All-drop}
use Rattle.std.proofs.lemmas.Slice.{take-put_mid}
use Rattle.std.proofs.Math.Seq.{drop-append_seam}
use Rattle.std.proofs.lemmas.Bool.Decides.{nat_tests}
use Rattle.curp_base.specs.Words.{AreBytes}
use Rattle.curp_cmd.specs.InPlace.{padded, IsInPlace, length_held}
use borrow.Rule.Slice.PartMut.{put_mid}

size_held : {least len : ℕ} {array : List ℕ} → IsInPlace 128 least len array → length array ≡ 128
size_held {least} {len} {array} h = ap length h.zeros ∙ simp (length-append, length-replicate) (omega (arith, h.fits, length_held h))

fewer : (m n k : ℕ) → m + n ≡ k → 128 - m - n ≡ 128 - k
fewer m n k e = omega arith

-- the zeros that are left behind both
zeros_left : (prefix ys : List ℕ) → drop (length ys) (drop (length prefix) (padded 128 prefix)) ≡ replicate (128 - length (prefix ++ ys)) 0
zeros_left prefix ys =
    ap (drop (length ys)) (drop-append_seam prefix (replicate (128 - length prefix) 0)) ∙ drop-replicate (length ys) (128 - length prefix) 0
    ∙ ap (λ (m : ℕ). replicate m 0) (fewer (length prefix) (length ys) (length (prefix ++ ys)) (sym (length-append prefix ys)))

-- the array after the bytes are written behind those that it holds
pub joined_held : (len k n : ℕ) (array ys : List ℕ) → IsInPlace 128 0 len array → k ≡ length ys → n ≡ len + k → n ≤ 128 → AreBytes ys → IsInPlace 128 0 n (put_mid len k array ys)
joined_held len k n array ys h e f g range =
    let prefix = take len array in
    let is_prefix : length prefix ≡ len = length_held h in
    let taken : take n (put_mid len k array ys) ≡ prefix ++ ys = take-put_mid len k array ys n (omega arith) (omega (arith, h.fits, size_held h)) in
    let rest : drop k (drop len array) ≡ replicate (128 - length (prefix ++ ys)) 0 =
    ap (λ (w : List ℕ). drop k (drop len w)) h.zeros ∙ ap (λ (m : ℕ). drop k (drop m (padded 128 prefix))) (sym is_prefix)
    ∙ ap (λ (m : ℕ). drop m (drop (length prefix) (padded 128 prefix))) e ∙ zeros_left prefix ys in
    record {
      least_ok = omega arith;
      fits = g;
      range = All-append (λ b. b < 256) prefix (ys ++ drop k (drop len array)) (All-take (λ b. b < 256) len array h.range)
          (All-append (λ b. b < 256) ys (drop k (drop len array)) range (All-drop (λ b. b < 256) k (drop len array) (All-drop (λ b. b < 256) len array h.range)));
      zeros = ap (λ (w : List ℕ). prefix ++ (ys ++ w)) rest ∙ sym (append_assoc prefix ys (replicate (128 - length (prefix ++ ys)) 0)) ∙ ap (padded 128) (sym taken);
    }

pub joined_are : (len k n : ℕ) (array ys : List ℕ) → IsInPlace 128 0 len array → k ≡ length ys → n ≡ len + k → take n (put_mid len k array ys) ≡ take len array ++ ys
joined_are len k n array ys h e f = take-put_mid len k array ys n (omega arith) (omega (arith, h.fits, size_held h))

pub fits_whole : (xs : List ℕ) → length xs ≤ 128 → Some xs ≡ (if nat_le (length xs) 128 then Some xs else None)
fits_whole xs h = grind (arith, nat_tests)
