-- What stands at the start of bytes.
use Rattle.std.specs.Prelude.{◌≡◌, ℕ, ◌+◌, ◌^◌, ◌<◌, List, ◌∷◌, ◌++◌, length, take, drop, get_or, Option, Some, None, option_map, refl}
use Rattle.std.specs.Int.{to_be_bytes, from_be_bytes, w32}
use Rattle.std.proofs.Common.{sym, ◌∙◌, ap, subst, arith, append_assoc, length-append, take-append-drop}
use Rattle.std.proofs.lemmas.Nat.{from_be_bytes-to_be_bytes_4}
use Rattle.std.proofs.lemmas.List.{length-take-le, take_at, drop_at, drop_more, drop-drop}
use Rattle.curp_batches.proofs.Checksums.{one_batch}
use Rattle.curp_batches.specs.Batches.{IsBatchIn, IsEncoding, batch_of}
use Rattle.curp_durable.specs.Journal.{Batch, HasEncoding, framed}
use Rattle.curp_durable.specs.Opening.{FindsNone, FindsPiece, FindsRecord}

length-be : (n : ℕ) → length (to_be_bytes w32 n) ≡ 4
length-be n = refl

pub length-framed : (b : Batch) → length (framed b) ≡ 4 + length (batch_of b)
length-framed b = omega (arith, length-append (to_be_bytes w32 (length (batch_of b))) (batch_of b), length-be (length (batch_of b)))

-- a length and what stands behind it, where a record of a batch stands
pub record Opens (len : ℕ) (rest : List ℕ) (b : Batch) (more : List ℕ) : Type 0 where
  pub long : len ≡ length (batch_of b)
  pub tail : rest ≡ batch_of b ++ more

pub opens : (len : ℕ) (rest : List ℕ) (b : Batch) (more : List ℕ) → HasEncoding b → len < 2 ^ 32 → to_be_bytes w32 len ++ rest ≡ framed b ++ more → Opens len rest b more
opens len rest b more has small same =
    let n = length (batch_of b) in
    let whole : to_be_bytes w32 len ++ rest ≡ to_be_bytes w32 n ++ (batch_of b ++ more) = same ∙ append_assoc (to_be_bytes w32 n) (batch_of b) more in
    let prefix : to_be_bytes w32 len ≡ to_be_bytes w32 n =
    sym (take_at (to_be_bytes w32 len) rest 4 (length-be len)) ∙ ap (λ (l : List ℕ). take 4 l) whole ∙ take_at (to_be_bytes w32 n) (batch_of b ++ more) 4 (length-be n) in
    record {
      long = sym (from_be_bytes-to_be_bytes_4 len small) ∙ ap (λ (l : List ℕ). from_be_bytes w32 l) prefix ∙ from_be_bytes-to_be_bytes_4 n has.short;
      tail = sym (drop_at (to_be_bytes w32 len) rest 4 (length-be len)) ∙ ap (λ (l : List ℕ). drop 4 l) whole ∙ drop_at (to_be_bytes w32 n) (batch_of b ++ more) 4 (length-be n);
    }

-- a record tells its batch, and what stands behind it
pub same_framed : (b c : Batch) (x y : ℕ) (xs ys : List ℕ) → HasEncoding b → HasEncoding c → framed b ++ x ∷ xs ≡ framed c ++ y ∷ ys → (b ≡ c) × (x ∷ xs ≡ y ∷ ys)
same_framed b c x y xs ys has other same =
    let n = length (batch_of b) in
    let o = opens n (batch_of b ++ x ∷ xs) c (y ∷ ys) other has.short (sym (append_assoc (to_be_bytes w32 n) (batch_of b) (x ∷ xs)) ∙ same) in (
      one_batch b c has.fits other.fits
          (sym (take_at (batch_of b) (x ∷ xs) n refl) ∙ ap (λ (l : List ℕ). take n l) o.tail ∙ take_at (batch_of c) (y ∷ ys) n (sym o.long)),
      sym (drop_at (batch_of b) (x ∷ xs) n refl) ∙ ap (λ (l : List ℕ). drop n l) o.tail ∙ drop_at (batch_of c) (y ∷ ys) n (sym o.long),
    )

-- ---- an open commit byte

-- ---- the bytes behind a length

module _ (content : List ℕ) (commit len : ℕ) (f : FindsPiece (drop commit content) len) where
  behind : drop (commit + 5) content ≡ f.rest
  behind = sym (drop-drop 5 commit content) ∙ ap (λ (l : List ℕ). drop 5 l) f.is

  pub record_found : (b : Batch) → IsEncoding b (take len (drop (commit + 5) content)) → FindsRecord (drop commit content) b (5 + len)
  record_found b s =
      let encodes : batch_of b ≡ take len f.rest = sym s.is ∙ ap (λ (l : List ℕ). take len l) behind in
      let long : length (batch_of b) ≡ len = ap length encodes ∙ length-take-le len f.rest (omega (arith, f.within)) in
      let next : f.rest ≡ batch_of b ++ get_or f.rest len 0 ∷ drop (len + 1) f.rest =
      sym (take-append-drop len f.rest) ∙ ap (λ (l : List ℕ). l ++ drop len f.rest) (sym encodes) ∙ ap (λ (l : List ℕ). batch_of b ++ l) (drop_more f.rest len 0 f.within) in
      record {
        byte = get_or f.rest len 0;
        rest = drop (len + 1) f.rest;
        is = f.is ∙ ap (λ (l : List ℕ). 1 ∷ (to_be_bytes w32 len ++ l)) next
            ∙ ap (λ (n : ℕ). 1 ∷ (to_be_bytes w32 n ++ (batch_of b ++ get_or f.rest len 0 ∷ drop (len + 1) f.rest))) (sym long)
            ∙ ap (λ (l : List ℕ). 1 ∷ l) (sym (append_assoc (to_be_bytes w32 (length (batch_of b))) (batch_of b) (get_or f.rest len 0 ∷ drop (len + 1) f.rest)));
        encodes = record { fits = s.fits; short = omega (arith, long, f.small) };
        far = omega (arith, length-framed b, long);
      }

  pub none_found : IsBatchIn (take len (drop (commit + 5) content)) None → FindsNone (drop commit content)
  none_found none = record {
    rest = to_be_bytes w32 len ++ f.rest;
    is = f.is;
    none = λ b byte tail has same.
        let o = opens len f.rest b (byte ∷ tail) has f.small same in
        none b (record {
          fits = has.fits;
          is = ap (λ (l : List ℕ). take len l) (behind ∙ o.tail) ∙ take_at (batch_of b) (byte ∷ tail) len (sym o.long);
        });
  }

-- ---- as the code tells it

pub some_encoded : {V : Type 0} (items : V → Batch) (bytes : List ℕ) (read : Option V) (v : V) → read ≡ Some v → IsBatchIn bytes (option_map items read) → IsEncoding (items v) bytes
some_encoded {V} items bytes read v is there = subst (λ (o : Option V). IsBatchIn bytes (option_map items o)) is there

pub none_encoded : {V : Type 0} (items : V → Batch) (bytes : List ℕ) (read : Option V) → read ≡ None → IsBatchIn bytes (option_map items read) → IsBatchIn bytes None
none_encoded {V} items bytes read is there = subst (λ (o : Option V). IsBatchIn bytes (option_map items o)) is there
