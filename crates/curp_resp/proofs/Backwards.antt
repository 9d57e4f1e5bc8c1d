-- What completes a request behind a byte that is taken completes it with that byte, and something always does.
use Rattle.std.proofs.Common.{◌≡◌, inl, inr, ℕ, zero, suc, ◌+◌, ◌≤◌, List, [], ◌∷◌, ◌++◌, refl, ap, sym, ◌∙◌, subst, arith, add-one, append_assoc, append-nil}
use Rattle.std.specs.Prelude.{◌==◌, Bool, true, false, if◌then◌else◌, replicate}
use Rattle.std.proofs.lemmas.Bool.{eqb-true}
use Rattle.std.proofs.lemmas.List.{length-replicate}
use Rattle.curp_resp.specs.Frames.{after_byte, argument_step, bytes_step, count_step, is_minus, no_digits, number_step, size_step, stage_step}
use Rattle.curp_resp.specs.Kept.{Parts, parts_by}
use Rattle.curp_resp.specs.Language.{AreBulks, IsDigit, IsNumber, carriage_return, dollar, line_before, line_feed, star}
use Rattle.curp_resp.specs.declared.frame.Effect.{Effect}
use Rattle.curp_resp.specs.declared.frame.Effect.TheVariants as effect
use Rattle.curp_resp.specs.declared.frame.Stage.{Stage}
use Rattle.curp_resp.specs.declared.frame.Stage.TheVariants as stage
use Rattle.curp_resp.specs.declared.frame.Step.{Step}
use Rattle.curp_resp.specs.declared.frame.Step.TheVariants as step
use Rattle.curp_resp.specs.declared.number.Digits.{Digits}
use Rattle.curp_resp.specs.declared.number.NumberStep.{NumberStep}
use Rattle.curp_resp.specs.declared.number.NumberStep.TheVariants as number
use Rattle.curp_resp.proofs.Completes.{Completes, CompletesBehind, EndsArgument, EndsBulks, EndsCount, EndsEmpty, EndsFirst, EndsLength, EndsSize, bulk_append, line_end}
use Rattle.curp_resp.proofs.Numbers.{EndsNumber, NumberSteps, SomeEnd, begins_ends, both_true, end_ends, fresh_ends, more_ends, number_steps, zero_ends}

-- ---- with the byte

after_tested : (t : Bool) (wanted : ℕ) (next : Stage) (does : Effect) (behind : ℕ) (parts : Parts) (byte : ℕ) (arguments : List (List ℕ)) (bytes : List ℕ)
    → (byte == wanted) ≡ t
    → CompletesBehind (if t then step.On (record { stage = next; behind = behind }) does else step.Refused) parts byte arguments bytes
    → (byte ≡ wanted) × Completes next behind (parts_by does byte parts) arguments bytes
after_tested true wanted next does behind parts byte arguments bytes e h = (eqb-true byte wanted e, h)
after_tested false wanted next does behind parts byte arguments bytes e h = absurd h

after_back : (wanted : ℕ) (next : Stage) (does : Effect) (behind : ℕ) (parts : Parts) (byte : ℕ) (arguments : List (List ℕ)) (bytes : List ℕ)
    → CompletesBehind (after_byte wanted next does behind byte) parts byte arguments bytes
    → (byte ≡ wanted) × Completes next behind (parts_by does byte parts) arguments bytes
after_back wanted next does behind parts byte arguments bytes h =
    after_tested (byte == wanted) wanted next does behind parts byte arguments bytes refl h

count_back : (n : NumberStep) (parts : Parts) (read : Digits) (byte : ℕ) (arguments : List (List ℕ)) (bytes : List ℕ)
    → NumberSteps 64 read byte n → CompletesBehind (count_step n) parts byte arguments bytes
    → EndsCount parts.whole arguments read (byte ∷ bytes)
count_back (number.More more) parts read byte arguments bytes is (inl h) = record {
  digits = byte ∷ h.digits;
  count = h.count;
  rest = h.rest;
  ends = more_ends 64 read byte h.digits h.count is.1 is.2 (subst (λ d. EndsNumber 64 d h.digits h.count) is.0 h.ends);
  bulks = h.bulks;
  is = ap (λ w. byte ∷ w) h.is;
}
count_back (number.More more) parts read byte arguments bytes is (inr h) = absurd (omega (arith, ap (λ d. d.count) is.0, h.0))
count_back (number.Ends zero) parts read byte arguments bytes is h =
    let within : read.value ≤ 64 = omega (arith, is.0) in
    record {
      digits = [];
      count = read.value;
      rest = [];
      ends = end_ends 64 read is.2 within;
      bulks = record { more = []; each = refl; len = is.0; all = append-nil parts.whole ∙ h.1 };
      is = ap (λ b. b ∷ line_feed ∷ []) (sym is.1) ∙ ap (λ w. byte ∷ w) (sym h.0);
    }
count_back (number.Ends (suc behind)) parts read byte arguments [] is h = absurd h
count_back (number.Ends (suc behind)) parts read byte arguments (feed ∷ bytes) is h =
    let same : behind + 1 ≡ read.value = omega (arith, is.0) in
    let within : read.value ≤ 64 = omega (arith, is.0, is.3) in
    record {
      digits = [];
      count = read.value;
      rest = bytes;
      ends = end_ends 64 read is.2 within;
      bulks = subst (λ n. EndsBulks parts.whole arguments n bytes) same h.1;
      is = cc (is.1, h.0);
    }
count_back number.Refused parts read byte arguments bytes is h = absurd h

length_back : (t : Bool) (parts : Parts) (behind : ℕ) (read : Digits) (byte : ℕ) (arguments : List (List ℕ)) (bytes : List ℕ)
    → is_minus read byte ≡ t
    → CompletesBehind (if t then step.On (record { stage = stage.NullDigit; behind = behind }) effect.Nothing else count_step (number_step 64 read byte)) parts byte arguments bytes
    → EndsLength parts.whole arguments read (byte ∷ bytes)
length_back true parts behind read byte arguments bytes e h =
    let both = both_true (byte == 45) (read.count == 0) e in
    inr (eqb-true read.count 0 both.1, (ap (λ b. b ∷ bytes) (eqb-true byte 45 both.0) ∙ ap (λ w. 45 ∷ w) h.0, h.1))
length_back false parts behind read byte arguments bytes e h =
    inl (count_back (number_step 64 read byte) parts read byte arguments bytes (number_steps 64 read byte) h)

first_back : (t u : Bool) (parts : Parts) (behind byte : ℕ) (arguments : List (List ℕ)) (bytes : List ℕ)
    → (byte == line_feed) ≡ t → (byte == carriage_return) ≡ u
    → CompletesBehind (if t then step.Whole effect.Nothing
    else (if u then step.On (record { stage = stage.EmptyFeed; behind = behind }) effect.Nothing else after_byte star (stage.Count no_digits) effect.Nothing behind byte)) parts byte arguments bytes
    → EndsFirst parts.whole arguments (byte ∷ bytes)
first_back true u parts behind byte arguments bytes e f h =
    inr (inr (ap (λ b. b ∷ bytes) (eqb-true byte line_feed e) ∙ ap (λ w. line_feed ∷ w) h.0, h.1))
first_back false true parts behind byte arguments bytes e f h =
    inr (inl (ap (λ b. b ∷ bytes) (eqb-true byte carriage_return f) ∙ ap (λ w. carriage_return ∷ w) h.0, h.1))
first_back false false parts behind byte arguments bytes e f h =
    inl (after_back star (stage.Count no_digits) effect.Nothing behind parts byte arguments bytes h)

-- the next byte of those that end a request of no arguments
empty_back : (wanted : ℕ) (next : Stage) (last : List ℕ) (parts : Parts) (behind byte : ℕ) (arguments : List (List ℕ)) (bytes : List ℕ)
    → CompletesBehind (after_byte wanted next effect.Nothing behind byte) parts byte arguments bytes
    → (Completes next behind parts arguments bytes → EndsEmpty parts.whole arguments last bytes)
    → EndsEmpty parts.whole arguments (wanted ∷ last) (byte ∷ bytes)
empty_back wanted next last parts behind byte arguments bytes h off =
    let both = after_back wanted next effect.Nothing behind parts byte arguments bytes h in
    let on = off both.1 in
    (ap (λ b. b ∷ bytes) both.0 ∙ ap (λ w. wanted ∷ w) on.0, on.1)

last_back : (t : Bool) (parts : Parts) (byte : ℕ) (arguments : List (List ℕ)) (bytes : List ℕ) → (byte == line_feed) ≡ t
    → CompletesBehind (if t then step.Whole effect.Nothing else step.Refused) parts byte arguments bytes
    → EndsEmpty parts.whole arguments (line_feed ∷ []) (byte ∷ bytes)
last_back true parts byte arguments bytes e h =
    (ap (λ b. b ∷ bytes) (eqb-true byte line_feed e) ∙ ap (λ w. line_feed ∷ w) h.0, h.1)
last_back false parts byte arguments bytes e h = absurd h

size_back : (n : NumberStep) (parts : Parts) (behind : ℕ) (read : Digits) (byte : ℕ) (arguments : List (List ℕ)) (bytes : List ℕ)
    → NumberSteps 65536 read byte n → CompletesBehind (size_step behind n) parts byte arguments bytes
    → EndsSize parts.whole arguments read behind (byte ∷ bytes)
size_back (number.More more) parts behind read byte arguments bytes is h = record {
  digits = byte ∷ h.digits;
  size = h.size;
  rest = h.rest;
  ends = more_ends 65536 read byte h.digits h.size is.1 is.2 (subst (λ d. EndsNumber 65536 d h.digits h.size) is.0 h.ends);
  argument = h.argument;
  is = ap (λ w. byte ∷ w) h.is;
}
size_back (number.Ends value) parts behind read byte arguments [] is h = absurd h
size_back (number.Ends value) parts behind read byte arguments (feed ∷ bytes) is h =
    let within : read.value ≤ 65536 = omega (arith, is.0, is.3) in
    record {
      digits = [];
      size = read.value;
      rest = bytes;
      ends = end_ends 65536 read is.2 within;
      argument = subst (λ n. EndsArgument parts.whole arguments [] n behind bytes) is.0 h.1;
      is = cc (is.1, h.0);
    }
size_back number.Refused parts behind read byte arguments bytes is h = absurd h

dollar_back : (parts : Parts) (behind byte : ℕ) (arguments : List (List ℕ)) (bytes : List ℕ)
    → byte ≡ dollar → EndsSize parts.whole arguments no_digits behind bytes → EndsBulks parts.whole arguments (behind + 1) (byte ∷ bytes)
dollar_back parts behind byte arguments bytes first h =
    let argument = h.argument in
    let bulk : List ℕ = dollar ∷ line_before h.digits (line_before argument.text []) in
    let whole : bulk ++ argument.rest ≡ byte ∷ bytes =
    ap (λ w. dollar ∷ w) (bulk_append h.digits argument.text argument.rest ∙ ap (λ w. line_before h.digits w) argument.is ∙ h.is) ∙ ap (λ b. b ∷ bytes) (sym first) in
    let size = subst (λ n. IsNumber 65536 h.digits n) (sym argument.len) (fresh_ends 65536 h.digits h.size h.ends) in
    record {
      more = argument.text ∷ argument.bulks.more;
      each = record {
        bulk = bulk;
        rest = argument.rest;
        first = record { digits = h.digits; size = size; is = refl };
        behind = argument.bulks.each;
        is = whole;
      };
      len = omega (arith, argument.bulks.len);
      all = sym (append_assoc parts.whole (argument.text ∷ []) argument.bulks.more) ∙ argument.bulks.all;
    }

text_back : (parts : Parts) (left behind byte : ℕ) (arguments : List (List ℕ)) (bytes : List ℕ)
    → CompletesBehind (bytes_step left behind byte) parts byte arguments bytes
    → EndsArgument parts.whole arguments parts.present left behind (byte ∷ bytes)
text_back parts zero behind byte arguments [] h =
    absurd (after_back carriage_return stage.BytesFeed effect.Nothing behind parts byte arguments [] h).1
text_back parts zero behind byte arguments (feed ∷ bytes) h =
    let last = after_back carriage_return stage.BytesFeed effect.Nothing behind parts byte arguments (feed ∷ bytes) h in
    record {
      text = [];
      rest = bytes;
      len = refl;
      bulks = subst (λ p. EndsBulks (parts.whole ++ p ∷ []) arguments behind bytes) (sym (append-nil parts.present)) last.1.1;
      is = cc (last.0, last.1.0);
    }
text_back parts (suc left) behind byte arguments bytes h = record {
  text = byte ∷ h.text;
  rest = h.rest;
  len = ap suc h.len;
  bulks = subst (λ p. EndsBulks (parts.whole ++ p ∷ []) arguments behind h.rest) (append_assoc parts.present (byte ∷ []) h.text) h.bulks;
  is = ap (λ w. byte ∷ w) h.is;
}

argument_back : (parts : Parts) (behind byte : ℕ) (arguments : List (List ℕ)) (bytes : List ℕ)
    → CompletesBehind (argument_step behind) parts byte arguments bytes → EndsBulks (parts.whole ++ parts.present ∷ []) arguments behind bytes
argument_back parts zero byte arguments bytes h =
    record { more = []; each = h.0; len = refl; all = append-nil (parts.whole ++ parts.present ∷ []) ∙ h.1 }
argument_back parts (suc behind) byte arguments bytes h =
    subst (λ n. EndsBulks (parts.whole ++ parts.present ∷ []) arguments n bytes) (add-one behind) h

feed_tested : (t : Bool) (parts : Parts) (behind byte : ℕ) (arguments : List (List ℕ)) (bytes : List ℕ) → (byte == line_feed) ≡ t
    → CompletesBehind (if t then argument_step behind else step.Refused) parts byte arguments bytes
    → (byte ≡ line_feed) × EndsBulks (parts.whole ++ parts.present ∷ []) arguments behind bytes
feed_tested true parts behind byte arguments bytes e h = (eqb-true byte line_feed e, argument_back parts behind byte arguments bytes h)
feed_tested false parts behind byte arguments bytes e h = absurd h

pub back : (s : Stage) (behind : ℕ) (parts : Parts) (byte : ℕ) (arguments : List (List ℕ)) (bytes : List ℕ)
    → CompletesBehind (stage_step s behind byte) parts byte arguments bytes → Completes s behind parts arguments (byte ∷ bytes)
back stage.Star behind parts byte arguments bytes h =
    first_back (byte == line_feed) (byte == carriage_return) parts behind byte arguments bytes refl refl h
back (stage.Count read) behind parts byte arguments bytes h =
    length_back (is_minus read byte) parts behind read byte arguments bytes refl h
back stage.CountFeed behind parts byte arguments bytes h =
    after_back line_feed stage.Dollar effect.Nothing behind parts byte arguments bytes h
back stage.Dollar behind parts byte arguments bytes h =
    let first = after_back dollar (stage.Size no_digits) effect.Nothing behind parts byte arguments bytes h in
    dollar_back parts behind byte arguments bytes first.0 first.1
back (stage.Size read) behind parts byte arguments bytes h =
    size_back (number_step 65536 read byte) parts behind read byte arguments bytes (number_steps 65536 read byte) h
back (stage.SizeFeed size) behind parts byte arguments bytes h =
    after_back line_feed (stage.Bytes size) effect.Begin behind parts byte arguments bytes h
back (stage.Bytes left) behind parts byte arguments bytes h = text_back parts left behind byte arguments bytes h
back stage.BytesFeed behind parts byte arguments bytes h =
    feed_tested (byte == line_feed) parts behind byte arguments bytes refl h
back stage.NullDigit behind parts byte arguments bytes h =
    empty_back 49 stage.NullEnd line_end parts behind byte arguments bytes h (λ on. on)
back stage.NullEnd behind parts byte arguments bytes h =
    empty_back carriage_return stage.EmptyFeed (line_feed ∷ []) parts behind byte arguments bytes h (λ on. on)
back stage.EmptyFeed behind parts byte arguments bytes h = last_back (byte == line_feed) parts byte arguments bytes refl h

-- ---- something completes it

-- a request that is completed, and its arguments
pub record SomeCompletion (s : Stage) (behind : ℕ) (parts : Parts) : Type 0 where
  pub arguments : List (List ℕ)
  pub bytes : List ℕ
  pub completes : Completes s behind parts arguments bytes

-- so many empty bulk strings
empty_bulks : ℕ → List ℕ
empty_bulks zero = []
empty_bulks (suc n) = dollar ∷ line_before (48 ∷ []) (line_before [] (empty_bulks n))

empty_number : IsNumber 65536 (48 ∷ []) 0
empty_number =
    let digit : IsDigit 48 = (omega arith, omega arith) in
    record { some = omega arith; few = omega arith; decimal = (digit, tt); value = refl; within = omega arith }

are_empty : (n : ℕ) → AreBulks (replicate n []) (empty_bulks n)
unfolding empty_bulks
are_empty zero = refl
are_empty (suc n) = record {
  bulk = dollar ∷ line_before (48 ∷ []) (line_before [] []);
  rest = empty_bulks n;
  first = record { digits = 48 ∷ []; size = empty_number; is = refl };
  behind = are_empty n;
  is = refl;
}

some_bulks : (whole : List (List ℕ)) (n : ℕ) → EndsBulks whole (whole ++ replicate n []) n (empty_bulks n)
some_bulks whole n = record { more = replicate n []; each = are_empty n; len = length-replicate n []; all = refl }

-- an argument of zeros
some_argument : (whole : List (List ℕ)) (present : List ℕ) (left behind : ℕ)
    → EndsArgument whole ((whole ++ (present ++ replicate left 0) ∷ []) ++ replicate behind []) present left behind (line_before (replicate left 0) (empty_bulks behind))
some_argument whole present left behind = record {
  text = replicate left 0;
  rest = empty_bulks behind;
  len = length-replicate left 0;
  bulks = some_bulks (whole ++ (present ++ replicate left 0) ∷ []) behind;
  is = refl;
}

count_completion : (behind : ℕ) (parts : Parts) (read : Digits) → SomeEnd 64 read → SomeCompletion (stage.Count read) behind parts
count_completion behind parts read h = record {
  arguments = parts.whole ++ replicate h.value [];
  bytes = line_before h.digits (empty_bulks h.value);
  completes = inl (record { digits = h.digits; count = h.value; rest = empty_bulks h.value; ends = h.ends; bulks = some_bulks parts.whole h.value; is = refl });
}

size_completion : (behind : ℕ) (parts : Parts) (read : Digits) → SomeEnd 65536 read → SomeCompletion (stage.Size read) behind parts
size_completion behind parts read h = record {
  arguments = (parts.whole ++ ([] ++ replicate h.value 0) ∷ []) ++ replicate behind [];
  bytes = line_before h.digits (line_before (replicate h.value 0) (empty_bulks behind));
  completes = record {
    digits = h.digits;
    size = h.value;
    rest = line_before (replicate h.value 0) (empty_bulks behind);
    ends = h.ends;
    argument = some_argument parts.whole [] h.value behind;
    is = refl;
  };
}

-- something completes what a byte goes on to
abbrev pub Completable : Step → Type 0
Completable (step.On frame effect) = (parts : Parts) → SomeCompletion frame.stage frame.behind parts
Completable (step.Whole effect) = Unit {0}
Completable step.Refused = Unit {0}

after_completable : (t : Bool) (next : Stage) (does : Effect) (behind : ℕ) → ((parts : Parts) → SomeCompletion next behind parts)
    → Completable (if t then step.On (record { stage = next; behind = behind }) does else step.Refused)
after_completable true next does behind h = h
after_completable false next does behind h = tt

-- the bytes that end a request of no arguments
last_completion : (behind : ℕ) (parts : Parts) → SomeCompletion stage.EmptyFeed behind parts
last_completion behind parts = record { arguments = parts.whole; bytes = line_feed ∷ []; completes = (refl, refl) }

null_end_completion : (behind : ℕ) (parts : Parts) → SomeCompletion stage.NullEnd behind parts
null_end_completion behind parts = record { arguments = parts.whole; bytes = line_end; completes = (refl, refl) }

null_digit_completion : (behind : ℕ) (parts : Parts) → SomeCompletion stage.NullDigit behind parts
null_digit_completion behind parts = record { arguments = parts.whole; bytes = 49 ∷ line_end; completes = (refl, refl) }

counted_completable : (n : NumberStep) (read : Digits) (byte : ℕ) → NumberSteps 64 read byte n → Completable (count_step n)
counted_completable (number.More more) read byte is =
    let some : 1 ≤ more.count = omega (arith, ap (λ d. d.count) is.0) in
    let ends = begins_ends 64 more some is.3 in
    λ parts. count_completion 0 parts more ends
counted_completable (number.Ends zero) read byte is = last_completion 0
counted_completable (number.Ends (suc behind)) read byte is = λ parts. record {
  arguments = parts.whole ++ replicate (behind + 1) [];
  bytes = line_feed ∷ empty_bulks (behind + 1);
  completes = (refl, some_bulks parts.whole (behind + 1));
}
counted_completable number.Refused read byte is = tt

sized_completable : (n : NumberStep) (behind : ℕ) (read : Digits) (byte : ℕ) → NumberSteps 65536 read byte n → Completable (size_step behind n)
sized_completable (number.More more) behind read byte is =
    let some : 1 ≤ more.count = omega (arith, ap (λ d. d.count) is.0) in
    let ends = begins_ends 65536 more some is.3 in
    λ parts. size_completion behind parts more ends
sized_completable (number.Ends value) behind read byte is = λ parts. record {
  arguments = (parts.whole ++ ([] ++ replicate value 0) ∷ []) ++ replicate behind [];
  bytes = line_feed ∷ line_before (replicate value 0) (empty_bulks behind);
  completes = (refl, some_argument parts.whole [] value behind);
}
sized_completable number.Refused behind read byte is = tt

dollar_completion : (behind : ℕ) (parts : Parts) → SomeCompletion stage.Dollar behind parts
dollar_completion behind parts = record {
  arguments = parts.whole ++ replicate (behind + 1) [];
  bytes = empty_bulks (behind + 1);
  completes = some_bulks parts.whole (behind + 1);
}

bytes_completion : (left behind : ℕ) (parts : Parts) → SomeCompletion (stage.Bytes left) behind parts
bytes_completion left behind parts = record {
  arguments = (parts.whole ++ (parts.present ++ replicate left 0) ∷ []) ++ replicate behind [];
  bytes = line_before (replicate left 0) (empty_bulks behind);
  completes = some_argument parts.whole parts.present left behind;
}

feed_completion : (behind : ℕ) (parts : Parts) → SomeCompletion stage.BytesFeed behind parts
feed_completion behind parts = record {
  arguments = (parts.whole ++ parts.present ∷ []) ++ replicate behind [];
  bytes = line_feed ∷ empty_bulks behind;
  completes = (refl, some_bulks (parts.whole ++ parts.present ∷ []) behind);
}

text_completable : (left behind byte : ℕ) → Completable (bytes_step left behind byte)
text_completable zero behind byte = after_completable (byte == carriage_return) stage.BytesFeed effect.Nothing behind (feed_completion behind)
text_completable (suc left) behind byte = bytes_completion left behind

argument_completable : (t : Bool) (behind : ℕ) → Completable (if t then argument_step behind else step.Refused)
argument_completable true zero = tt
argument_completable true (suc behind) = dollar_completion behind
argument_completable false behind = tt

length_completable : (t : Bool) (read : Digits) (behind byte : ℕ)
    → Completable (if t then step.On (record { stage = stage.NullDigit; behind = behind }) effect.Nothing else count_step (number_step 64 read byte))
length_completable true read behind byte = null_digit_completion behind
length_completable false read behind byte = counted_completable (number_step 64 read byte) read byte (number_steps 64 read byte)

first_completable : (t u : Bool) (behind byte : ℕ)
    → Completable (if t then step.Whole effect.Nothing
    else (if u then step.On (record { stage = stage.EmptyFeed; behind = behind }) effect.Nothing else after_byte star (stage.Count no_digits) effect.Nothing behind byte))
first_completable true u behind byte = tt
first_completable false true behind byte = last_completion behind
first_completable false false behind byte =
    after_completable (byte == star) (stage.Count no_digits) effect.Nothing behind (λ parts. count_completion behind parts no_digits (zero_ends 64))

last_completable : (t : Bool) → Completable (if t then step.Whole effect.Nothing else step.Refused)
last_completable true = tt
last_completable false = tt

pub completable : (s : Stage) (behind byte : ℕ) → Completable (stage_step s behind byte)
completable stage.Star behind byte = first_completable (byte == line_feed) (byte == carriage_return) behind byte
completable (stage.Count read) behind byte = length_completable (is_minus read byte) read behind byte
completable stage.CountFeed behind byte = after_completable (byte == line_feed) stage.Dollar effect.Nothing behind (dollar_completion behind)
completable stage.Dollar behind byte =
    after_completable (byte == dollar) (stage.Size no_digits) effect.Nothing behind (λ parts. size_completion behind parts no_digits (zero_ends 65536))
completable (stage.Size read) behind byte = sized_completable (number_step 65536 read byte) behind read byte (number_steps 65536 read byte)
completable (stage.SizeFeed size) behind byte = after_completable (byte == line_feed) (stage.Bytes size) effect.Begin behind (bytes_completion size behind)
completable (stage.Bytes left) behind byte = text_completable left behind byte
completable stage.BytesFeed behind byte = argument_completable (byte == line_feed) behind
completable stage.NullDigit behind byte = after_completable (byte == 49) stage.NullEnd effect.Nothing behind (null_end_completion behind)
completable stage.NullEnd behind byte = after_completable (byte == carriage_return) stage.EmptyFeed effect.Nothing behind (last_completion behind)
completable stage.EmptyFeed behind byte = last_completable (byte == line_feed)

-- and a request of which nothing was read
pub fresh_completion : (behind : ℕ) (parts : Parts) → SomeCompletion stage.Star behind parts
fresh_completion behind parts = record { arguments = parts.whole; bytes = line_feed ∷ []; completes = inr (inr (refl, refl)) }
