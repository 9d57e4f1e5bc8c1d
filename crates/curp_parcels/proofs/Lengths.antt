-- Bytes behind their length.
use Rattle.std.specs.Prelude.{◌≡◌, ℕ, ◌+◌, ◌-◌, ◌^◌, ◌<◌, ◌≤◌, List, ◌++◌, length, take, drop, refl}
use Rattle.std.specs.Int.{to_be_bytes, from_be_bytes, w32}
use Rattle.std.proofs.Common.{sym, ◌∙◌, ap, arith, append_assoc, length-append, length-drop, take-append-drop}
use Rattle.std.proofs.lemmas.Nat.{from_be_bytes-to_be_bytes_4}
use Rattle.std.proofs.lemmas.List.{length-take-le, take_at, drop_at}
use Rattle.curp_items.specs.Format.{Format}
use Rattle.curp_items.proofs.Combining.{IsFormat}
use Rattle.curp_batches.proofs.Encodings.{one_prefix}
use Rattle.curp_parcels.specs.Parcels.{IsParcel, behind_length, parcel_limit}
use Rattle.curp_parcels.specs.Reading.{FindsFirst, StandsFirst}
use Rattle.curp_parcels.specs.declared.framing.First.TheVariants as first

pub length-be : (n : ℕ) → length (to_be_bytes w32 n) ≡ 4
length-be n = refl

-- a length tells itself, and what stands behind it
pub same_count : (n m : ℕ) (xs ys : List ℕ) → n < 2 ^ 32 → m < 2 ^ 32 → to_be_bytes w32 n ++ xs ≡ to_be_bytes w32 m ++ ys → (n ≡ m) × (xs ≡ ys)
same_count n m xs ys hn hm e =
    let prefix : to_be_bytes w32 n ≡ to_be_bytes w32 m =
    sym (take_at (to_be_bytes w32 n) xs 4 (length-be n)) ∙ ap (λ (l : List ℕ). take 4 l) e ∙ take_at (to_be_bytes w32 m) ys 4 (length-be m) in (
      sym (from_be_bytes-to_be_bytes_4 n hn) ∙ ap (λ (l : List ℕ). from_be_bytes w32 l) prefix ∙ from_be_bytes-to_be_bytes_4 m hm,
      sym (drop_at (to_be_bytes w32 n) xs 4 (length-be n)) ∙ ap (λ (l : List ℕ). drop 4 l) e ∙ drop_at (to_be_bytes w32 m) ys 4 (length-be m),
    )

-- what stands first, with its length apart
pub opened : (bytes content rest : List ℕ) → StandsFirst bytes content rest → bytes ≡ to_be_bytes w32 (length content) ++ (content ++ rest)
opened bytes content rest s = s.is ∙ append_assoc (to_be_bytes w32 (length content)) content rest

-- ---- what a look at the length finds

pub whole_first : (count : ℕ) (rest : List ℕ) → count ≤ parcel_limit → count ≤ length rest → FindsFirst (to_be_bytes w32 count ++ rest) (first.Whole count)
whole_first count rest short within =
    let content = take count rest in
    let long : length content ≡ count = length-take-le count rest within in (
      content,
      drop count rest,
      record {
        is = ap (λ (l : List ℕ). to_be_bytes w32 count ++ l) (sym (take-append-drop count rest))
            ∙ ap (λ (n : ℕ). to_be_bytes w32 n ++ (content ++ drop count rest)) (sym long)
            ∙ sym (append_assoc (to_be_bytes w32 (length content)) content (drop count rest));
        short = omega (arith, long, short);
      },
      sym long,
    )

-- ---- a parcel that is written

pub parcel_there : (bytes : List ℕ) → 4 ≤ length bytes → to_be_bytes w32 (length bytes - 4) ++ drop 4 bytes ≡ behind_length (drop 4 bytes)
parcel_there bytes four =
    let many : length bytes - 4 ≡ length (drop 4 bytes) = omega (arith, length-drop 4 bytes, four) in
    ap (λ (n : ℕ). to_be_bytes w32 n ++ drop 4 bytes) many

-- bytes behind room for their length
pub record HasRoomBefore (content all : List ℕ) : Type 0 where
  pub long : length all ≡ 4 + length content
  pub content_is : drop 4 all ≡ content

pub room_before : (content zeros all : List ℕ) → all ≡ zeros ++ content → length zeros ≡ 4 → HasRoomBefore content all
room_before content zeros all is len = record {
  long = omega (arith, ap length is, length-append zeros content, len);
  content_is = ap (drop 4) is ∙ drop_at zeros content 4 len;
}

pub made_parcel : {A : Type 0} (f : Format A) (x : A) (all parcel : List ℕ) → f.Fits x → HasRoomBefore (f.of x) all → length all ≤ 4 + parcel_limit → parcel ≡ behind_length (drop 4 all) → IsParcel f x parcel
made_parcel f x all parcel fits r short is = record {
  fits = fits;
  short = omega (arith, short, r.long);
  is = is ∙ ap behind_length r.content_is;
}

pub no_parcel : {A : Type 0} (f : Format A) (x : A) (all bytes : List ℕ) → HasRoomBefore (f.of x) all → 4 + parcel_limit < length all → IsParcel f x bytes → ⊥
no_parcel f x all bytes r long p = absurd (omega (arith, p.short, r.long, long))

-- ---- laws

pub same_first : (bytes one other rest rest_other : List ℕ) → StandsFirst bytes one rest → StandsFirst bytes other rest_other → (one ≡ other) × (rest ≡ rest_other)
same_first bytes one other rest rest_other s t =
    let same = same_count (length one) (length other) (one ++ rest) (other ++ rest_other) (omega (arith, s.short)) (omega (arith, t.short)) (sym (opened bytes one rest s) ∙ opened bytes other rest_other t) in (
      sym (take_at one rest (length one) refl) ∙ ap (λ (l : List ℕ). take (length one) l) same.1 ∙ take_at other rest_other (length one) (sym same.0),
      sym (drop_at one rest (length one) refl) ∙ ap (λ (l : List ℕ). drop (length one) l) same.1 ∙ drop_at other rest_other (length one) (sym same.0),
    )

pub no_parcel_begins : {A : Type 0} (f : Format A) → IsFormat f → (one other : A) (prefix prefix_other rest rest_other : List ℕ) → IsParcel f one prefix → IsParcel f other prefix_other
    → prefix ++ rest ≡ prefix_other ++ rest_other → (one ≡ other) × (rest ≡ rest_other)
no_parcel_begins {A} f is one other prefix prefix_other rest rest_other p q e =
    let whole : (to_be_bytes w32 (length (f.of one)) ++ f.of one) ++ rest ≡ (to_be_bytes w32 (length (f.of other)) ++ f.of other) ++ rest_other =
    ap (λ (l : List ℕ). l ++ rest) (sym p.is) ∙ e ∙ ap (λ (l : List ℕ). l ++ rest_other) q.is in
    let same = same_count (length (f.of one)) (length (f.of other)) (f.of one ++ rest) (f.of other ++ rest_other) (omega (arith, p.short)) (omega (arith, q.short))
    (sym (append_assoc (to_be_bytes w32 (length (f.of one))) (f.of one) rest) ∙ whole ∙ append_assoc (to_be_bytes w32 (length (f.of other))) (f.of other) rest_other) in
    one_prefix f is one other rest rest_other p.fits q.fits same.1
