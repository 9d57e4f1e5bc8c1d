-- Reading the items of a list one after the other, as loops do.
use Rattle.std.proofs.Common.{◌≡◌, ℕ, zero, suc, ◌+◌, ◌-◌, ◌<◌, ◌≤◌, List, [], ◌∷◌, ◌++◌, Option, Some, None, Result, Ok, Err, refl, sym, ap, subst, ◌∙◌, arith}
use Rattle.std.specs.Prelude.{option_map}
use Rattle.curp_base.specs.Words.{last_of}
use Rattle.curp_base.specs.declared.failed.Failed.{Failed}
use Rattle.curp_base.specs.declared.failed.Failed.TheVariants as failed
use Rattle.curp_items.specs.Calls.{ReadsNot}
use Rattle.curp_items.specs.Format.{Format, Input, key_after, listed, read_more, ◌▸◌}
use Rattle.curp_items.specs.declared.fault.Fault.{Fault}

module _ {A : Type 0} (next : List A → Format A) (before : List A) (count i : ℕ) (at : Input) (whole : Result (List A × Input) ℕ) (so_far : read_more next before (count - i) at ≡ whole) where
  pub more_read : (x : A) (after : Input) → i < count → (next before).read at ≡ Ok (x, after) → read_more next (before ++ x ∷ []) (count - (i + 1)) after ≡ whole
  more_read x after l e =
      let k : count - i ≡ suc (count - (i + 1)) = omega arith in
      let one : read_more next before (count - i) at ≡ read_more next (before ++ x ∷ []) (count - (i + 1)) after = rw (k, e) refl in
      sym one ∙ so_far

  pub more_faults : (place : ℕ) → i < count → (next before).read at ≡ Err place → whole ≡ Err place
  more_faults place l e =
      let k : count - i ≡ suc (count - (i + 1)) = omega arith in
      let one : read_more next before (count - i) at ≡ Err place = rw (k, e) refl in
      sym so_far ∙ one

  pub more_fails : (why : Failed Fault) → i < count → ReadsNot why ((next before).read at) → ReadsNot why whole
  more_fails failed.NoMemory l e = tt
  more_fails (failed.Because fault) l e = more_faults fault.place l e

  pub more_done : count ≤ i → whole ≡ Ok (before, at)
  more_done l =
      let k : count - i ≡ 0 = omega arith in
      let one : read_more next before (count - i) at ≡ Ok (before, at) = rw k refl in
      sym so_far ∙ one

pub last-push : {A : Type 0} (xs : List A) (x : A) → last_of (xs ++ x ∷ []) ≡ Some x
last-push [] x = refl
last-push (y ∷ []) x = refl
last-push (y ∷ z ∷ rest) x = last-push (z ∷ rest) x

-- so many items of a list are read, the last of them with this key; what is left gives the whole
pub record Partway {A K : Type 0} (next : List A → Format A) (key_of : A → K) (whole : Result (List A × Input) ℕ) (before : List A) (last : Option K) (count i : ℕ) (at : Input) : Type 0 where
  pub read : read_more next before (count - i) at ≡ whole
  pub last_is : last ≡ option_map key_of (last_of before)

module _ {A K : Type 0} (next : List A → Format A) (key_of : A → K) (whole : Result (List A × Input) ℕ) where
  pub begins : (count : ℕ) (at : Input) → whole ≡ read_more next [] count at → Partway next key_of whole [] None count 0 at
  begins count at e = record { read = let k : count - 0 ≡ count = omega arith in rw k (sym e); last_is = refl }

  module _ (before : List A) (last : Option K) (count i : ℕ) (at : Input) (p : Partway next key_of whole before last count i at) where
    pub goes_on : (x : A) (after : Input) → i < count → (next before).read at ≡ Ok (x, after) → Partway next key_of whole (before ++ x ∷ []) (Some (key_of x)) count (i + 1) after
    goes_on x after l e = record { read = more_read next before count i at whole p.read x after l e; last_is = sym (ap (option_map key_of) (last-push before x)) }

    pub stops : (place : ℕ) → i < count → (next before).read at ≡ Err place → whole ≡ Err place
    stops place l e = more_faults next before count i at whole p.read place l e

    pub ends : count ≤ i → whole ≡ Ok (before, at)
    ends l = more_done next before count i at whole p.read l

-- ---- pairs whose keys ascend

-- the format of the next pair
abbrev pub next_pair : {K V : Type 0} → Format K → (K → Format K) → Format V → List (K × V) → Format (K × V)
next_pair key above value before = key_after key above (option_map (λ p. p.0) (last_of before)) ▸ value

module _ {K V : Type 0} (key : Format K) (above : K → Format K) (value : Format V) (before : List (K × V)) (last : Option K) (at : Input) (e : last ≡ option_map (λ p. p.0) (last_of before)) where
  pub pair_read : (k : K) (v : V) (mid after : Input) → (key_after key above last).read at ≡ Ok (k, mid) → value.read mid ≡ Ok (v, after) → (next_pair key above value before).read at ≡ Ok ((k, v), after)
  pair_read k v mid after f g =
      let first : (key_after key above (option_map (λ p. p.0) (last_of before))).read at ≡ Ok (k, mid) = subst (λ (o : Option K). (key_after key above o).read at ≡ Ok (k, mid)) e f in
      rw (first, g) refl

  pub key_faults : (place : ℕ) → (key_after key above last).read at ≡ Err place → (next_pair key above value before).read at ≡ Err place
  key_faults place f =
      let first : (key_after key above (option_map (λ p. p.0) (last_of before))).read at ≡ Err place = subst (λ (o : Option K). (key_after key above o).read at ≡ Err place) e f in
      rw first refl

  pub value_faults : (k : K) (mid : Input) (place : ℕ) → (key_after key above last).read at ≡ Ok (k, mid) → value.read mid ≡ Err place → (next_pair key above value before).read at ≡ Err place
  value_faults k mid place f g =
      let first : (key_after key above (option_map (λ p. p.0) (last_of before))).read at ≡ Ok (k, mid) = subst (λ (o : Option K). (key_after key above o).read at ≡ Ok (k, mid)) e f in
      rw (first, g) refl

-- ---- keys that ascend

-- the format of the next key
abbrev pub next_key : {K : Type 0} → Format K → (K → Format K) → List K → Format K
next_key key above before = key_after key above (last_of before)

pub same_last : {K : Type 0} (o : Option K) → option_map (λ k. k) o ≡ o
same_last None = refl
same_last (Some k) = refl

pub key_next : {K : Type 0} (key : Format K) (above : K → Format K) (before : List K) (last : Option K) (at : Input) (r : Result (K × Input) ℕ) → last ≡ option_map (λ k. k) (last_of before) → (key_after key above last).read at ≡ r → (next_key key above before).read at ≡ r
key_next {K} key above before last at r e f = subst (λ (o : Option K). (key_after key above o).read at ≡ r) (e ∙ same_last (last_of before)) f
