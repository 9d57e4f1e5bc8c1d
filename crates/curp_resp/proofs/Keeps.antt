-- What is kept of the arguments says what the whole arguments say.
use Rattle.std.proofs.Common.{◌≡◌, ◌≢◌, ℕ, suc, ◌+◌, ◌-◌, ◌^◌, ◌<◌, ◌≤◌, inl, inr, List, [], ◌∷◌, ◌++◌, length, take, map, refl, ap, sym, ◌∙◌, arith, length-append}
use Rattle.std.specs.Prelude.{nat_lt, min, Bool, true, false, if◌then◌else◌, Option, Some, None, Err}
use Rattle.std.specs.Char.{to_ascii_lowercase}
use Rattle.std.specs.Str.{bytes_eq, str_to_ascii_lowercase}
use Rattle.std.proofs.lemmas.Bool.{cases_lt, lt-ltb}
use Rattle.std.proofs.lemmas.Bool.Decides.{nat_tests}
use Rattle.std.proofs.lemmas.List.{take_all, take-append-le, length-map, length-take-le, map-append}
use Rattle.std.proofs.lemmas.Slice.Eq.{bytes_eq-Decides}
use Rattle.curp_io.specs.Streams.{one_more}
use Rattle.curp_resp.specs.Frames.{frame_step}
use Rattle.curp_resp.specs.Kept.{KeptArguments, Parts, kept_by, parts_by}
use Rattle.curp_resp.specs.KeptMeaning.{asked_behind_kept, asked_of_kept, meaning_of_kept}
use Rattle.curp_resp.specs.Meaning.{are_pairs, asked_behind, asked_by, asked_of, key_alone, key_in, key_of_increment, meaning, multi_alone, of_command, one_in, or_wrong, pair_alone, pair_in, pairs_in, spells, swap_alone, text_alone, value_in, word_of, word_text}
use Rattle.curp_resp.specs.Read.{Read, Inside, Gives, Refuses, read_by}
use Rattle.curp_resp.specs.declared.asked.Wrong.TheVariants as wrong
use Rattle.curp_resp.specs.declared.frame.Effect.{Effect}
use Rattle.curp_resp.specs.declared.frame.Effect.TheVariants as effect
use Rattle.curp_resp.specs.declared.frame.Frame.{Frame}
use Rattle.curp_resp.specs.declared.frame.Step.TheVariants as step
use Rattle.curp_resp.specs.declared.word.Word.{Word}
use Rattle.curp_resp.specs.declared.word.Word.TheVariants as word
use Rattle.curp_resp.proofs.Integers.{integer_long}
use Rattle.curp_resp.proofs.Runs.{read_on, read_refused, read_whole}

-- ---- the first bytes, and the first arguments

-- one more item, of which the first n are kept
first_more : {A : Type 0} (n : ℕ) (xs : List A) (x : A) → take n (xs ++ x ∷ []) ≡ (if nat_lt (length (take n xs)) n then take n xs ++ x ∷ [] else take n xs)
first_more n xs x =
    elim (cases_lt (length xs) n) [
      | inl fewer ↦
          let all : take n xs ≡ xs = take_all n xs (omega arith) in
          let more : take n (xs ++ x ∷ []) ≡ xs ++ x ∷ [] = take_all n (xs ++ x ∷ []) (omega (arith, length-append xs (x ∷ []))) in
          let test : nat_lt (length xs) n ≡ true = lt-ltb (length xs) n fewer in
          more ∙ rw (all, test) refl
      | inr enough ↦
          let same : take n (xs ++ x ∷ []) ≡ take n xs = take-append-le n xs (x ∷ []) enough in
          let len : length (take n xs) ≡ n = length-take-le n xs enough in
          same ∙ rw (len, not_below n) refl
    ]
  where
    not_below : (n : ℕ) → nat_lt n n ≡ false
    not_below n = grind (arith, nat_tests)

-- what is kept, where n arguments are, by m bytes each
abbrev pub kept_with : ℕ → ℕ → Parts → KeptArguments
kept_with n m parts = record {
  whole = map (λ a. take m a) (take n parts.whole);
  count = min (length parts.whole) (2 ^ 64 - 1);
  present = take m parts.present;
}

abbrev pub kept_of : Parts → KeptArguments
kept_of parts = kept_with 9 129 parts

whole_more : (n m : ℕ) (whole : List (List ℕ)) (present : List ℕ)
    → map (λ a. take m a) (take n (whole ++ present ∷ []))
    ≡ (if nat_lt (length (map (λ a. take m a) (take n whole))) n then map (λ a. take m a) (take n whole) ++ take m present ∷ [] else map (λ a. take m a) (take n whole))
whole_more n m whole present =
    ap (λ w. map (λ a. take m a) w) (first_more n whole present)
    ∙ mapped (nat_lt (length (take n whole)) n) (take n whole)
    ∙ ap (λ k. if nat_lt k n then map (λ a. take m a) (take n whole) ++ take m present ∷ [] else map (λ a. take m a) (take n whole)) (sym (length-map (take n whole) (λ a. take m a)))
  where
    mapped : (t : Bool) (xs : List (List ℕ)) → map (λ a. take m a) (if t then xs ++ present ∷ [] else xs) ≡ (if t then map (λ a. take m a) xs ++ take m present ∷ [] else map (λ a. take m a) xs)
    mapped true xs = map-append (λ a. take m a) xs (present ∷ [])
    mapped false xs = refl

count_more : (n : ℕ) → min (n + 1) (2 ^ 64 - 1) ≡ one_more (min n (2 ^ 64 - 1))
count_more n = omega arith

pub kept_after : (does : Effect) (byte : ℕ) (parts : Parts) → kept_of (parts_by does byte parts) ≡ kept_by does byte (kept_of parts)
kept_after effect.Nothing byte parts = refl
kept_after effect.Begin byte parts = refl
kept_after effect.Keep byte parts =
    ap (λ p. record { whole = map (λ a. take 129 a) (take 9 parts.whole); count = min (length parts.whole) (2 ^ 64 - 1); present = p }) (first_more 129 parts.present byte)
kept_after effect.End byte parts =
    let whole = whole_more 9 129 parts.whole parts.present in
    let count : min (length (parts.whole ++ parts.present ∷ [])) (2 ^ 64 - 1) ≡ one_more (min (length parts.whole) (2 ^ 64 - 1)) =
    ap (λ n. min n (2 ^ 64 - 1)) (length-append parts.whole (parts.present ∷ [])) ∙ count_more (length parts.whole) in
    cc (whole, count)

-- what bytes come to, by what is kept
abbrev pub kept_read : Read Parts → Read KeptArguments
kept_read (Inside frame parts) = Inside frame (kept_of parts)
kept_read (Gives parts rest) = Gives (kept_of parts) rest
kept_read (Refuses rest) = Refuses rest

pub reads_kept : (bytes : List ℕ) (frame : Frame) (parts : Parts) → read_by kept_by bytes frame (kept_of parts) ≡ kept_read (read_by parts_by bytes frame parts)
reads_kept [] frame parts = refl
reads_kept (byte ∷ bytes) frame parts =
    elim (frame_step frame byte) as (λ s. frame_step frame byte ≡ s → read_by kept_by (byte ∷ bytes) frame (kept_of parts) ≡ kept_read (read_by parts_by (byte ∷ bytes) frame parts)) [
      | step.On next does ↦ λ e.
          read_on kept_by byte bytes frame (kept_of parts) next does e
          ∙ ap (λ k. read_by kept_by bytes next k) (sym (kept_after does byte parts))
          ∙ reads_kept bytes next (parts_by does byte parts)
          ∙ ap kept_read (sym (read_on parts_by byte bytes frame parts next does e))
      | step.Whole does ↦ λ e.
          read_whole kept_by byte bytes frame (kept_of parts) does e
          ∙ ap (λ k. Gives k bytes) (sym (kept_after does byte parts))
          ∙ ap kept_read (sym (read_whole parts_by byte bytes frame parts does e))
      | step.Refused ↦ λ e.
          read_refused kept_by byte bytes frame (kept_of parts) e ∙ ap kept_read (sym (read_refused parts_by byte bytes frame parts e))
    ] refl

-- ---- an argument that isn't kept whole is too long

key_long : (bytes : List ℕ) → 32 < length bytes → key_in bytes ≡ Err wrong.Size
key_long bytes long = grind (arith, nat_tests)

value_long : (bytes : List ℕ) → 128 < length bytes → value_in bytes ≡ Err wrong.Size
value_long bytes long = grind (arith, nat_tests)

key_kept : (m : ℕ) (bytes : List ℕ) → 129 ≤ m → key_in (take m bytes) ≡ key_in bytes
key_kept m bytes room =
    elim (cases_lt m (length bytes)) [
      | inl long ↦
          let len : length (take m bytes) ≡ m = length-take-le m bytes (omega arith) in
          key_long (take m bytes) (omega arith) ∙ sym (key_long bytes (omega arith))
      | inr short ↦ ap key_in (take_all m bytes short)
    ]

value_kept : (m : ℕ) (bytes : List ℕ) → 129 ≤ m → value_in (take m bytes) ≡ value_in bytes
value_kept m bytes room =
    elim (cases_lt m (length bytes)) [
      | inl long ↦
          let len : length (take m bytes) ≡ m = length-take-le m bytes (omega arith) in
          value_long (take m bytes) (omega arith) ∙ sym (value_long bytes (omega arith))
      | inr short ↦ ap value_in (take_all m bytes short)
    ]

one_long : (bytes : List ℕ) → 20 < length bytes → one_in bytes ≡ Err wrong.NotInteger
one_long bytes long = rw (integer_long bytes long) refl

one_kept : (m : ℕ) (bytes : List ℕ) → 129 ≤ m → one_in (take m bytes) ≡ one_in bytes
one_kept m bytes room =
    elim (cases_lt m (length bytes)) [
      | inl long ↦
          let len : length (take m bytes) ≡ m = length-take-le m bytes (omega arith) in
          one_long (take m bytes) (omega arith) ∙ sym (one_long bytes (omega arith))
      | inr short ↦ ap one_in (take_all m bytes short)
    ]

pair_kept : (m : ℕ) (key value : List ℕ) → 129 ≤ m → pair_in (take m key) (take m value) ≡ pair_in key value
pair_kept m key value room = rw (key_kept m key room, value_kept m value room) refl

pairs_kept : (m : ℕ) (arguments : List (List ℕ)) → 129 ≤ m → pairs_in (map (λ a. take m a) arguments) ≡ pairs_in arguments
pairs_kept m [] room = refl
pairs_kept m (key ∷ []) room = refl
pairs_kept m (key ∷ value ∷ rest) room = rw (pair_kept m key value room, pairs_kept m rest room) refl

key_alone_kept : (m : ℕ) (arguments : List (List ℕ)) → 129 ≤ m → key_alone (map (λ a. take m a) arguments) ≡ key_alone arguments
key_alone_kept m [] room = refl
key_alone_kept m (key ∷ []) room = key_kept m key room
key_alone_kept m (key ∷ other ∷ rest) room = refl

increment_kept : (m : ℕ) (arguments : List (List ℕ)) → 129 ≤ m → key_of_increment (map (λ a. take m a) arguments) ≡ key_of_increment arguments
increment_kept m [] room = refl
increment_kept m (key ∷ []) room = refl
increment_kept m (key ∷ increment ∷ []) room = rw (key_kept m key room, one_kept m increment room) refl
increment_kept m (key ∷ increment ∷ other ∷ rest) room = refl

pair_alone_kept : (m : ℕ) (arguments : List (List ℕ)) → 129 ≤ m → pair_alone (map (λ a. take m a) arguments) ≡ pair_alone arguments
pair_alone_kept m [] room = refl
pair_alone_kept m (key ∷ []) room = refl
pair_alone_kept m (key ∷ value ∷ []) room = pair_kept m key value room
pair_alone_kept m (key ∷ value ∷ other ∷ rest) room = refl

swap_alone_kept : (m : ℕ) (arguments : List (List ℕ)) → 129 ≤ m → swap_alone (map (λ a. take m a) arguments) ≡ swap_alone arguments
swap_alone_kept m [] room = refl
swap_alone_kept m (key ∷ []) room = refl
swap_alone_kept m (key ∷ expected ∷ []) room = refl
swap_alone_kept m (key ∷ expected ∷ value ∷ []) room = rw (pair_kept m key value room, value_kept m expected room) refl
swap_alone_kept m (key ∷ expected ∷ value ∷ other ∷ rest) room = refl

multi_alone_kept : (m : ℕ) (arguments : List (List ℕ)) → 129 ≤ m → multi_alone (map (λ a. take m a) arguments) ≡ multi_alone arguments
multi_alone_kept m arguments room = rw (length-map arguments (λ a. take m a), pairs_kept m arguments room) refl

text_alone_kept : (m : ℕ) (arguments : List (List ℕ)) → 129 ≤ m → text_alone (map (λ a. take m a) arguments) ≡ text_alone arguments
text_alone_kept m [] room = refl
text_alone_kept m (text ∷ []) room = value_kept m text room
text_alone_kept m (text ∷ other ∷ rest) room = refl

asked_kept : (w : Word) (m : ℕ) (arguments : List (List ℕ)) → 129 ≤ m → asked_by w (map (λ a. take m a) arguments) ≡ asked_by w arguments
asked_kept word.Get m arguments room = rw (key_alone_kept m arguments room) refl
asked_kept word.Set m arguments room = rw (pair_alone_kept m arguments room) refl
asked_kept word.Del m arguments room = rw (key_alone_kept m arguments room) refl
asked_kept word.Incr m arguments room = rw (key_alone_kept m arguments room) refl
asked_kept word.IncrBy m arguments room = rw (increment_kept m arguments room) refl
asked_kept word.Append m arguments room = rw (pair_alone_kept m arguments room) refl
asked_kept word.CondPut m arguments room = ap of_command (swap_alone_kept m arguments room)
asked_kept word.CondNew m arguments room = rw (pair_alone_kept m arguments room) refl
asked_kept word.SetNx m arguments room = rw (pair_alone_kept m arguments room) refl
asked_kept word.MSet m arguments room = ap of_command (multi_alone_kept m arguments room)
asked_kept word.Echo m arguments room = rw (text_alone_kept m arguments room) refl

-- ---- more arguments than are kept are too many

key_alone_long : (arguments : List (List ℕ)) → 9 ≤ length arguments → key_alone arguments ≡ Err wrong.Arguments
key_alone_long [] many = absurd (omega arith)
key_alone_long (key ∷ []) many = absurd (omega arith)
key_alone_long (key ∷ other ∷ rest) many = refl

increment_long : (arguments : List (List ℕ)) → 9 ≤ length arguments → key_of_increment arguments ≡ Err wrong.Arguments
increment_long [] many = absurd (omega arith)
increment_long (key ∷ []) many = absurd (omega arith)
increment_long (key ∷ increment ∷ []) many = absurd (omega arith)
increment_long (key ∷ increment ∷ other ∷ rest) many = refl

pair_alone_long : (arguments : List (List ℕ)) → 9 ≤ length arguments → pair_alone arguments ≡ Err wrong.Arguments
pair_alone_long [] many = absurd (omega arith)
pair_alone_long (key ∷ []) many = absurd (omega arith)
pair_alone_long (key ∷ value ∷ []) many = absurd (omega arith)
pair_alone_long (key ∷ value ∷ other ∷ rest) many = refl

swap_alone_long : (arguments : List (List ℕ)) → 9 ≤ length arguments → swap_alone arguments ≡ Err wrong.Arguments
swap_alone_long [] many = absurd (omega arith)
swap_alone_long (key ∷ []) many = absurd (omega arith)
swap_alone_long (key ∷ expected ∷ []) many = absurd (omega arith)
swap_alone_long (key ∷ expected ∷ value ∷ []) many = absurd (omega arith)
swap_alone_long (key ∷ expected ∷ value ∷ other ∷ rest) many = refl

no_pairs : (count : ℕ) → 9 ≤ count → are_pairs count ≡ false
no_pairs count many = grind (arith, nat_tests)

multi_alone_long : (arguments : List (List ℕ)) → 9 ≤ length arguments → multi_alone arguments ≡ Err wrong.Arguments
multi_alone_long arguments many = rw (no_pairs (length arguments) many) refl

text_alone_long : (arguments : List (List ℕ)) → 9 ≤ length arguments → text_alone arguments ≡ Err wrong.Arguments
text_alone_long [] many = absurd (omega arith)
text_alone_long (text ∷ []) many = absurd (omega arith)
text_alone_long (text ∷ other ∷ rest) many = refl

asked_long : (w : Word) (arguments : List (List ℕ)) → 9 ≤ length arguments → asked_by w arguments ≡ Err wrong.Arguments
asked_long word.Get arguments many = rw (key_alone_long arguments many) refl
asked_long word.Set arguments many = rw (pair_alone_long arguments many) refl
asked_long word.Del arguments many = rw (key_alone_long arguments many) refl
asked_long word.Incr arguments many = rw (key_alone_long arguments many) refl
asked_long word.IncrBy arguments many = rw (increment_long arguments many) refl
asked_long word.Append arguments many = rw (pair_alone_long arguments many) refl
asked_long word.CondPut arguments many = ap of_command (swap_alone_long arguments many)
asked_long word.CondNew arguments many = rw (pair_alone_long arguments many) refl
asked_long word.SetNx arguments many = rw (pair_alone_long arguments many) refl
asked_long word.MSet arguments many = ap of_command (multi_alone_long arguments many)
asked_long word.Echo arguments many = rw (text_alone_long arguments many) refl

-- ---- words are short

bytes_apart : (xs ys : List ℕ) → length xs ≢ length ys → bytes_eq xs ys ≡ false
bytes_apart xs ys apart =
    elim (bytes_eq xs ys) as (λ t. bytes_eq xs ys ≡ t → t ≡ false) [
      | true ↦ λ e. absurd (apart (ap length ((bytes_eq-Decides xs ys).0 e)))
      | false ↦ λ e. refl
    ] refl

word_short : (w : Word) → length (word_text w) ≤ 7
word_short word.Get = omega arith
word_short word.Set = omega arith
word_short word.Del = omega arith
word_short word.Incr = omega arith
word_short word.IncrBy = omega arith
word_short word.Append = omega arith
word_short word.CondPut = omega arith
word_short word.CondNew = omega arith
word_short word.SetNx = omega arith
word_short word.MSet = omega arith
word_short word.Echo = omega arith

spells_long : (bytes : List ℕ) (w : Word) → 7 < length bytes → spells bytes w ≡ false
spells_long bytes w long =
    bytes_apart (str_to_ascii_lowercase bytes) (str_to_ascii_lowercase (word_text w))
    (λ e. absurd (omega (arith, length-map bytes to_ascii_lowercase, length-map (word_text w) to_ascii_lowercase, word_short w, e)))

word_long : (bytes : List ℕ) → 7 < length bytes → word_of bytes ≡ None
word_long bytes long =
    rw (
      spells_long bytes word.Get long,
      spells_long bytes word.Set long,
      spells_long bytes word.Del long,
      spells_long bytes word.Incr long,
      spells_long bytes word.IncrBy long,
      spells_long bytes word.Append long,
      spells_long bytes word.CondPut long,
      spells_long bytes word.CondNew long,
      spells_long bytes word.SetNx long,
      spells_long bytes word.MSet long,
      spells_long bytes word.Echo long,
    ) refl

word_kept : (m : ℕ) (bytes : List ℕ) → 129 ≤ m → word_of (take m bytes) ≡ word_of bytes
word_kept m bytes room =
    elim (cases_lt m (length bytes)) [
      | inl long ↦
          let len : length (take m bytes) ≡ m = length-take-le m bytes (omega arith) in
          word_long (take m bytes) (omega arith) ∙ sym (word_long bytes (omega arith))
      | inr short ↦ ap word_of (take_all m bytes short)
    ]

-- ---- so the meaning is told

-- whether there are more arguments than the kept ones
more_than : (n : ℕ) → 9 < n → nat_lt 9 (min n (2 ^ 64 - 1)) ≡ true
more_than n many = lt-ltb 9 (min n (2 ^ 64 - 1)) (omega arith)

no_more : (n : ℕ) → nat_lt n (min n (2 ^ 64 - 1)) ≡ false
no_more n = not_less n (min n (2 ^ 64 - 1)) (omega arith)
  where
    not_less : (m k : ℕ) → k ≤ m → nat_lt m k ≡ false
    not_less m k h = grind (arith, nat_tests)

behind_kept : (w : Option Word) (first : List ℕ) (arguments : List (List ℕ))
    → asked_behind_kept w (nat_lt (length (take 129 first ∷ map (λ a. take 129 a) (take 8 arguments))) (min (length (first ∷ arguments)) (2 ^ 64 - 1))) (map (λ a. take 129 a) (take 8 arguments))
    ≡ asked_behind w arguments
behind_kept None first arguments = refl
behind_kept (Some w) first arguments =
    elim (cases_lt 8 (length arguments)) [
      | inl many ↦
          let len : length (take 129 first ∷ map (λ a. take 129 a) (take 8 arguments)) ≡ 9 =
          ap suc (length-map (take 8 arguments) (λ a. take 129 a) ∙ length-take-le 8 arguments (omega arith)) in
          rw (len, more_than (length (first ∷ arguments)) (omega arith)) (sym (asked_long w arguments many))
      | inr few ↦
          let all : take 8 arguments ≡ arguments = take_all 8 arguments few in
          let len : length (take 129 first ∷ map (λ a. take 129 a) arguments) ≡ length (first ∷ arguments) = ap suc (length-map arguments (λ a. take 129 a)) in
          rw (all, len, no_more (length (first ∷ arguments))) (asked_kept w 129 arguments (omega arith))
    ]

asked_of_all : (arguments : List (List ℕ))
    → asked_of_kept (map (λ a. take 129 a) (take 9 arguments)) (min (length arguments) (2 ^ 64 - 1)) ≡ asked_of arguments
asked_of_all [] = refl
asked_of_all (first ∷ arguments) = rw (word_kept 129 first (omega arith)) (behind_kept (word_of first) first arguments)

pub meaning_kept : (parts : Parts) → meaning_of_kept (kept_of parts) ≡ meaning parts.whole
meaning_kept parts = ap or_wrong (asked_of_all parts.whole)
