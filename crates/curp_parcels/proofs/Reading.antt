-- What the next parcel is, of bytes that are read ahead and of those behind them.
use Rattle.std.specs.Prelude.{◌≡◌, ◌≢◌, ℕ, ◌+◌, ◌≤◌, List, [], ◌∷◌, ◌++◌, length, take, drop, Option, Some, None, refl}
use Rattle.std.specs.Int.{to_be_bytes, w32}
use Rattle.std.proofs.Common.{sym, ◌∙◌, ap, subst, arith, append_assoc, length-append}
use Rattle.std.proofs.lemmas.List.{append-nil, drop_at, take_at}
use Rattle.curp_journal.specs.declared.arrived.Arrived.{Arrived}
use Rattle.curp_parcels.specs.Buffer.{AddsBytes}
use Rattle.curp_parcels.specs.Parcels.{IsEncoding, IsIn, behind_length, incoming}
use Rattle.curp_parcels.specs.Reading.{FindsFirst, IsAtEnd, IsNextParcel, IsReady, OfBytes, LeavesAll, ParcelsRead, StandsFirst, StandsNot, StandsTooLong, place_behind}
use Rattle.curp_parcels.specs.declared.framing.First.TheVariants as first
use Rattle.curp_parcels.specs.declared.parcels.NextParcel.{NextParcel}
use Rattle.curp_parcels.specs.declared.parcels.NextParcel.TheVariants as next
use Rattle.curp_parcels.proofs.Lengths.{length-be, opened}

-- with more bytes behind
pub more_first : (bytes content rest left : List ℕ) → StandsFirst bytes content rest → StandsFirst (bytes ++ left) content (rest ++ left)
more_first bytes content rest left s = record { is = ap (λ (l : List ℕ). l ++ left) s.is ∙ append_assoc (behind_length content) rest left; short = s.short }

pub more_long : (bytes left : List ℕ) → StandsTooLong bytes → StandsTooLong (bytes ++ left)
more_long bytes left t = record {
  count = t.count;
  rest = t.rest ++ left;
  is = ap (λ (l : List ℕ). l ++ left) t.is ∙ append_assoc (to_be_bytes w32 t.count) t.rest left;
  long = t.long;
  small = t.small;
}

module _ (bytes content rest : List ℕ) (s : StandsFirst bytes content rest) where
  parcel_size : length (behind_length content) ≡ 4 + length content
  parcel_size = omega (arith, length-append (to_be_bytes w32 (length content)) content, length-be (length content))

  pub room : 4 + length content ≤ length bytes
  room = omega (arith, ap length s.is, length-append (behind_length content) rest, parcel_size)

  pub content_is : take (length content) (drop 4 bytes) ≡ content
  content_is =
      ap (λ (l : List ℕ). take (length content) (drop 4 l)) (opened bytes content rest s)
      ∙ ap (λ (l : List ℕ). take (length content) l) (drop_at (to_be_bytes w32 (length content)) (content ++ rest) 4 (length-be (length content)))
      ∙ take_at content rest (length content) refl

  pub rest_is : drop (4 + length content) bytes ≡ rest
  rest_is = ap (drop (4 + length content)) s.is ∙ drop_at (behind_length content) rest (4 + length content) parcel_size

-- ---- an answer from what is ahead

module _ (old : ParcelsRead) (content rest : List ℕ) (s : StandsFirst old.ahead content rest) (new : ParcelsRead)
    (moves : new ≡ record { ahead = drop (4 + length content) old.ahead; passed = place_behind old.passed (4 + length content) }) where
  left_is : new.ahead ≡ rest
  left_is = ap (λ (p : ParcelsRead). p.ahead) moves ∙ rest_is old.ahead content rest s

  counted_is : new.passed ≡ place_behind old.passed (4 + length content)
  counted_is = ap (λ (p : ParcelsRead). p.passed) moves

  first_with : (left : List ℕ) → StandsFirst (old.ahead ++ left) content (new.ahead ++ left)
  first_with left = subst (λ (r : List ℕ). StandsFirst (old.ahead ++ left) content (r ++ left)) (sym left_is) (more_first old.ahead content rest left s)

  pub gives : (a : Arrived) → IsEncoding incoming a content → IsReady old (Some (next.Arrived a)) new
  gives a e left = record { content = content; first = first_with left; encoding = e; counted = counted_is }

  pub skips : IsIn incoming content None → IsReady old (Some (next.NoParcel old.passed)) new
  skips none left = (refl, record { content = content; first = first_with left; none = none; counted = counted_is })

all_left : (old : ParcelsRead) (left : List ℕ) → LeavesAll (old.ahead ++ left) old.passed (old.ahead ++ left) old.passed
all_left old left = record { left = refl; counted = refl }

pub too_long : (old : ParcelsRead) → StandsTooLong old.ahead → IsReady old (Some (next.TooLong old.passed)) old
too_long old t left = (more_long old.ahead left t, refl, all_left old left)

-- ---- as the code finds it

pub room_of : (bytes : List ℕ) (count : ℕ) → FindsFirst bytes (first.Whole count) → 4 + count ≤ length bytes
room_of bytes count f = omega (arith, room bytes f.0 f.1 f.2, f.3)

module _ (old new : ParcelsRead) (count : ℕ) (f : FindsFirst old.ahead (first.Whole count)) (read : Option Arrived) (is : IsIn incoming (take count (drop 4 old.ahead)) read)
    (moves : new ≡ record { ahead = drop (4 + count) old.ahead; passed = place_behind old.passed (4 + count) }) where
  moves_so : new ≡ record { ahead = drop (4 + length f.0) old.ahead; passed = place_behind old.passed (4 + length f.0) }
  moves_so = subst (λ (n : ℕ). new ≡ record { ahead = drop (4 + n) old.ahead; passed = place_behind old.passed (4 + n) }) f.3 moves

  read_so : IsIn incoming f.0 read
  read_so = subst (λ (l : List ℕ). IsIn incoming l read) (ap (λ (n : ℕ). take n (drop 4 old.ahead)) f.3 ∙ content_is old.ahead f.0 f.1 f.2) is

  pub gives_found : (a : Arrived) → read ≡ Some a → IsReady old (Some (next.Arrived a)) new
  gives_found a e = gives old f.0 f.1 f.2 new moves_so a (subst (λ (o : Option Arrived). IsIn incoming f.0 o) e read_so)

  pub skips_found : (at : ℕ) → at ≡ old.passed → read ≡ None → IsReady old (Some (next.NoParcel at)) new
  skips_found at same e =
      subst (λ (n : ℕ). IsReady old (Some (next.NoParcel n)) new) (sym same) (skips old f.0 f.1 f.2 new moves_so (subst (λ (o : Option Arrived). IsIn incoming f.0 o) e read_so))

pub too_long_at : (old : ParcelsRead) (at : ℕ) → at ≡ old.passed → StandsTooLong old.ahead → IsReady old (Some (next.TooLong at)) old
too_long_at old at same t = subst (λ (n : ℕ). IsReady old (Some (next.TooLong n)) old) (sym same) (too_long old t)

-- where none stands first, none does
pub not_due : (old mid : ParcelsRead) (content rest : List ℕ) → mid ≡ old → StandsNot mid.ahead → StandsFirst old.ahead content rest → ⊥
not_due old mid content rest same none s = none.none content rest (subst (λ (p : ParcelsRead). StandsFirst p.ahead content rest) (sym same) s)

pub no_read_fault : (answer : NextParcel) → OfBytes answer → answer ≢ next.ReadFault
no_read_fault answer of is = subst OfBytes is of

pub no_fault_at_end : (p : ParcelsRead) (answer : NextParcel) → IsAtEnd p answer → answer ≢ next.ReadFault
no_fault_at_end p answer of is = subst (IsAtEnd p) is of

-- ---- while bytes are read

-- the bytes that were due are those that are due, none was passed over
pub record Still (tells : Type 0) (old new : ParcelsRead) (left left_now : List ℕ) : Type 0 where
  pub bytes : tells → new.ahead ++ left_now ≡ old.ahead ++ left
  pub passed : new.passed ≡ old.passed

pub still_filled : (tells : Type 0) (old mid looked new : ParcelsRead) (left left_mid left_now : List ℕ) → Still tells old mid left left_mid → looked ≡ mid → new.passed ≡ looked.passed
    → (tells → new.ahead ++ left_now ≡ looked.ahead ++ left_mid) → Still tells old new left left_now
still_filled tells old mid looked new left left_mid left_now s at passed same = record {
  bytes = λ told. same told ∙ ap (λ (p : ParcelsRead). p.ahead ++ left_mid) at ∙ s.bytes told;
  passed = passed ∙ ap (λ (p : ParcelsRead). p.passed) at ∙ s.passed;
}

pub answered : (tells : Type 0) (old mid new : ParcelsRead) (left left_now : List ℕ) (answer : NextParcel) → Still tells old mid left left_now → IsReady mid (Some answer) new → tells
    → IsNextParcel (old.ahead ++ left) old.passed answer (new.ahead ++ left_now) new.passed
answered tells old mid new left left_now answer s r told =
    subst (λ (bytes : List ℕ). IsNextParcel bytes old.passed answer (new.ahead ++ left_now) new.passed) (s.bytes told)
    (subst (λ (n : ℕ). IsNextParcel (mid.ahead ++ left_now) n answer (new.ahead ++ left_now) new.passed) s.passed (r left_now))

pub leaves : (tells : Type 0) (old new : ParcelsRead) (left left_now : List ℕ) → Still tells old new left left_now → tells → LeavesAll (old.ahead ++ left) old.passed (new.ahead ++ left_now) new.passed
leaves tells old new left left_now s told = record { left = s.bytes told; counted = s.passed }

nothing_more : (old new : List ℕ) → AddsBytes old new 0 → new ≡ old
nothing_more old new a = elim a.more as (λ m. length m ≡ 0 → new ≡ old ++ m → new ≡ old) [
  | [] ↦ λ l e. e ∙ append-nil old
  | x ∷ xs ↦ λ l e. absurd (omega (arith, l))
] a.many a.is

module _ (tells : Type 0) (old mid new : ParcelsRead) (left left_now : List ℕ) (s : Still tells old new left left_now) (adds : AddsBytes mid.ahead new.ahead 0) (empty : tells → left_now ≡ []) where
  due : tells → new.ahead ≡ old.ahead ++ left
  due told = sym (append-nil new.ahead) ∙ ap (λ (l : List ℕ). new.ahead ++ l) (sym (empty told)) ∙ s.bytes told

  pub ends : new.ahead ≡ [] → tells → IsNextParcel (old.ahead ++ left) old.passed next.End (new.ahead ++ left_now) new.passed
  ends none told = (sym (due told) ∙ none, leaves tells old new left left_now s told)

  pub ends_inside : StandsNot mid.ahead → new.ahead ≢ [] → tells → IsNextParcel (old.ahead ++ left) old.passed (next.Inside new.passed) (new.ahead ++ left_now) new.passed
  ends_inside none some told = (
    λ e. some (due told ∙ e),
    subst StandsNot (sym (nothing_more mid.ahead new.ahead adds) ∙ due told) none,
    s.passed,
    leaves tells old new left left_now s told,
  )

  -- the answer where no more bytes are to come
  pub ended : (answer : NextParcel) → StandsNot mid.ahead → IsAtEnd new answer → tells → IsNextParcel (old.ahead ++ left) old.passed answer (new.ahead ++ left_now) new.passed
  ended next.End none at told = ends at told
  ended (next.Inside place) none at told =
      subst (λ (n : ℕ). IsNextParcel (old.ahead ++ left) old.passed (next.Inside n) (new.ahead ++ left_now) new.passed) (sym at.1) (ends_inside none at.0 told)
  ended (next.Arrived a) none at told = absurd at
  ended (next.NoParcel place) none at told = absurd at
  ended (next.TooLong place) none at told = absurd at
  ended next.ReadFault none at told = absurd at
  ended next.NoMemory none at told = absurd at
