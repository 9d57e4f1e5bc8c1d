-- Binary formats: which values have an encoding, which it is, and how values are read from the prefix of bytes.
use Rattle.std.specs.Prelude.{◌≡◌, ℕ, zero, suc, ◌+◌, ◌<◌, ◌^◌, ◌==◌, nat_lt, nat_le, ◌&&◌, if◌then◌else◌, Bool, true, false, List, [], ◌∷◌, ◌++◌, length, take, drop, Option, Some, None, option_map, Result, Ok, Err, ⊤}
use Rattle.std.specs.Int.{Width, byte_len, to_be_bytes, from_be_bytes}
use Rattle.std.specs.List.{flat_map}
use Rattle.std.specs.declared.cmp.Ordering.{Ordering}
use Rattle.curp_base.specs.Cases.{◌>>=◌}
use Rattle.curp_base.specs.Words.{AreBytes, Ascend, Each, KeysAscend, last_of}

-- where reading stands: the place of the next byte, and the bytes from there on
pub record Input : Type 0 where
  pub place : ℕ
  pub rest : List ℕ

-- a value and where reading stands behind it, or the place of the first fault
abbrev pub Reading : Type 0 → Type 0
Reading A = Input → Result (A × Input) ℕ

-- A format: which values have an encoding, which it is, and how one is read
pub record Format (A : Type 0) : Type 1 where
  pub Fits : A → Type 0
  pub of : A → List ℕ
  pub read : Reading A

-- what an input has behind so many bytes
abbrev pub behind : ℕ → Input → Input
behind size at = record { place = at.place + size; rest = drop size at.rest }

-- ---- items: what is there whole or not at all. A fault in one is at its first byte

-- a value, or the fault at this place
abbrev pub found : {A : Type 0} → ℕ → Option A → Input → Result (A × Input) ℕ
found place None at = Err place
found place (Some x) at = Ok (x, at)

-- so many bytes
abbrev pub bytes_at : ℕ → Input → Result (List ℕ × Input) ℕ
bytes_at size at = if nat_lt (length at.rest) size then Err at.place else Ok (take size at.rest, behind size at)

-- items of so many bytes
abbrev pub item : {A : Type 0} → ℕ → (A → Type 0) → (A → List ℕ) → (List ℕ → Option A) → Format A
item size Fits text value = record {
  Fits = Fits;
  of = text;
  read = λ at. bytes_at size at >>= λ bytes. found at.place (value bytes.0) bytes.1;
}

-- numbers below a limit, the highest byte first
abbrev pub number : Width → ℕ → Format ℕ
number w limit = item (byte_len w) (λ n. n < limit) (to_be_bytes w) (λ bytes. Some (from_be_bytes w bytes))

-- one byte
abbrev pub first_byte : ℕ → List ℕ → Result (ℕ × Input) ℕ
first_byte place [] = Err place
first_byte place (b ∷ rest) = Ok (b, record { place = place + 1; rest = rest })

abbrev pub byte : Format ℕ
byte = record { Fits = λ b. b < 256; of = λ b. b ∷ []; read = λ at. first_byte at.place at.rest }

-- a byte that says how many bytes follow, and these
abbrev pub counted_bytes : ℕ → List ℕ → Result (List ℕ × Input) ℕ
counted_bytes place [] = Err place
counted_bytes place (n ∷ rest) = if nat_lt (length rest) n then Err place else Ok (take n rest, record { place = place + 1 + n; rest = drop n rest })

abbrev pub string : Format (List ℕ)
string = record {
  Fits = λ bytes. (length bytes < 256) × AreBytes bytes;
  of = λ bytes. length bytes ∷ bytes;
  read = λ at. counted_bytes at.place at.rest;
}

-- items that pass a test, and no others
abbrev pub passed : {A : Type 0} → Bool → ℕ → A → Input → Result (A × Input) ℕ
passed ok place x at = if ok then Ok (x, at) else Err place

abbrev pub only : {A : Type 0} → (A → Bool) → Format A → Format A
only test f = record {
  Fits = λ x. f.Fits x × (test x ≡ true);
  of = f.of;
  read = λ at. f.read at >>= λ x. passed (test x.0) at.place x.0 x.1;
}

-- ---- fields

-- nothing at all
abbrev pub nothing : Format ⊤
nothing = record { Fits = λ x. ⊤; of = λ x. []; read = λ at. Ok (tt, at) }

-- one behind the other, where the second format may depend on the first value
abbrev pub then_by : {A B : Type 0} → Format A → (A → Format B) → Format (A × B)
then_by first second = record {
  Fits = λ x. first.Fits x.0 × (second x.0).Fits x.1;
  of = λ x. first.of x.0 ++ (second x.0).of x.1;
  read = λ at. first.read at >>= λ x. (second x.0).read x.1 >>= λ y. Ok ((x.0, y.0), y.1);
}

infixr 20 ◌▸◌
abbrev pub ◌▸◌ : {A B : Type 0} → Format A → Format B → Format (A × B)
first ▸ second = then_by first (λ x. second)

-- values that are made of others, and are encoded as these
abbrev pub shaped : {A B : Type 0} → (B → A) → (A → B) → Format B → Format A
shaped make parts f = record {
  Fits = λ x. f.Fits (parts x);
  of = λ x. f.of (parts x);
  read = λ at. f.read at >>= λ x. Ok (make x.0, x.1);
}

-- ---- variants

-- a value of a variant: its tag, and its fields' encoding
pub record Tagged : Type 1 where
  pub tag : ℕ
  pub Fits : Type 0
  pub text : List ℕ

abbrev pub tagged : {A : Type 0} → ℕ → Format A → A → Tagged
tagged tag fields x = record { tag = tag; Fits = fields.Fits x; text = fields.of x }

-- how the fields behind a tag are read
pub record Variant (A : Type 0) : Type 0 where
  pub tag : ℕ
  pub fields : Reading A

abbrev pub variant : {A B : Type 0} → ℕ → Format B → (B → A) → Variant A
variant tag fields make = record { tag = tag; fields = λ at. fields.read at >>= λ x. Ok (make x.0, x.1) }

-- the variant of a tag that stood at a place
abbrev pub by_tag : {A : Type 0} → List (Variant A) → ℕ → ℕ → Reading A
by_tag [] tag place at = Err place
by_tag (v ∷ variants) tag place at = if tag == v.tag then v.fields at else by_tag variants tag place at

-- a tag of one byte, and the fields of that variant
abbrev pub one_of : {A : Type 0} → (A → Tagged) → List (Variant A) → Format A
one_of parts variants = record {
  Fits = λ x. (parts x).Fits;
  of = λ x. (parts x).tag ∷ (parts x).text;
  read = λ at. byte.read at >>= λ tag. by_tag variants tag.0 at.place tag.1;
}

abbrev pub option_parts : {A : Type 0} → Format A → Option A → Tagged
option_parts f None = tagged 0 nothing tt
option_parts f (Some x) = tagged 1 f x

abbrev pub option_variants : {A : Type 0} → Format A → List (Variant (Option A))
option_variants f = variant 0 nothing (λ x. None) ∷ variant 1 f Some ∷ []

abbrev pub optional : {A : Type 0} → Format A → Format (Option A)
optional f = one_of (option_parts f) (option_variants f)

-- ---- lists

-- reading so many more items, each by the format that those before it decide
abbrev pub read_more : {A : Type 0} → (List A → Format A) → List A → ℕ → Input → Result (List A × Input) ℕ
read_more next before zero at = Ok (before, at)
read_more next before (suc count) at = (next before).read at >>= λ x. read_more next (before ++ x.0 ∷ []) count x.1

-- A list that is in order: its count, and its items. Which items may stand behind others is decided as each is read
abbrev pub listed : {A : Type 0} → Format ℕ → Format A → (List A → Type 0) → (List A → Format A) → Format (List A)
listed count each InOrder next = record {
  Fits = λ xs. count.Fits (length xs) × Each each.Fits xs × InOrder xs;
  of = λ xs. count.of (length xs) ++ flat_map each.of xs;
  read = λ at. count.read at >>= λ n. read_more next [] n.0 n.1;
}

-- a list in any order
abbrev pub list_of : {A : Type 0} → Format ℕ → Format A → Format (List A)
list_of count each = listed count each (λ xs. ⊤) (λ before. each)

-- the first key, or one behind a last one
abbrev pub key_after : {K : Type 0} → Format K → (K → Format K) → Option K → Format K
key_after key above None = key
key_after key above (Some last) = above last

-- keys in strictly ascending order, where `above` has those above a last one
abbrev pub ascending_keys : {K : Type 0} → (K → K → Ordering) → Format ℕ → Format K → (K → Format K) → Format (List K)
ascending_keys R count key above = listed count key (Ascend R) (λ before. key_after key above (last_of before))

-- pairs in strictly ascending order of their keys
abbrev pub ascending_pairs : {K V : Type 0} → (K → K → Ordering) → Format ℕ → Format K → (K → Format K) → Format V → Format (List (K × V))
ascending_pairs R count key above value =
    listed count (key ▸ value) (KeysAscend R) (λ before. key_after key above (option_map (λ p. p.0) (last_of before)) ▸ value)
