-- Which bytes complete a request of which a prefix was read.
use Rattle.std.proofs.Common.{◌≡◌, ◌⊎◌, inl, inr, ℕ, zero, suc, ◌+◌, List, [], ◌∷◌, ◌++◌, length, refl, ap, sym, ◌∙◌, subst, arith, append_assoc, append-nil}
use Rattle.std.specs.Prelude.{◌==◌, true, false, if◌then◌else◌}
use Rattle.std.proofs.lemmas.Bool.{eq-eqb}
use Rattle.std.proofs.lemmas.Bool.Decides.{nat_tests}
use Rattle.curp_resp.specs.Frames.{after_byte, argument_step, bytes_step, count_step, first_step, is_minus, length_step, no_digits, number_step, size_step, stage_step}
use Rattle.curp_resp.specs.Kept.{Parts, parts_by}
use Rattle.curp_resp.specs.Language.{AreBulks, IsArray, IsDigit, IsEmpty, IsNumber, IsRequest, carriage_return, dollar, line_before, line_feed, star}
use Rattle.curp_resp.specs.declared.frame.Effect.{Effect}
use Rattle.curp_resp.specs.declared.frame.Effect.TheVariants as effect
use Rattle.curp_resp.specs.declared.frame.Stage.{Stage}
use Rattle.curp_resp.specs.declared.frame.Stage.TheVariants as stage
use Rattle.curp_resp.specs.declared.frame.Step.{Step}
use Rattle.curp_resp.specs.declared.frame.Step.TheVariants as step
use Rattle.curp_resp.specs.declared.number.Digits.{Digits}
use Rattle.curp_resp.specs.declared.number.NumberStep.TheVariants as number
use Rattle.curp_resp.proofs.Numbers.{EndsNumber, ends_fresh, fresh_ends, step_end, step_more}

-- ---- what is to come, by the stage

-- this byte, and then such bytes
abbrev pub After : ℕ → (List ℕ → Type 0) → List ℕ → Type 0
After byte IsRest [] = ⊥
After byte IsRest (first ∷ rest) = (first ≡ byte) × IsRest rest

-- so many bulk strings, with which the arguments are all
pub record EndsBulks (whole arguments : List (List ℕ)) (count : ℕ) (bytes : List ℕ) : Type 0 where
  pub more : List (List ℕ)
  pub each : AreBulks more bytes
  pub len : length more ≡ count
  pub all : whole ++ more ≡ arguments

-- the other digits of their number, and the bulk strings
pub record EndsCount (whole arguments : List (List ℕ)) (read : Digits) (bytes : List ℕ) : Type 0 where
  pub digits : List ℕ
  pub count : ℕ
  pub rest : List ℕ
  pub ends : EndsNumber 64 read digits count
  pub bulks : EndsBulks whole arguments count rest
  pub is : line_before digits rest ≡ bytes

-- so many bytes of an argument behind those that were read, and the others behind it
pub record EndsArgument (whole arguments : List (List ℕ)) (present : List ℕ) (left behind : ℕ) (bytes : List ℕ) : Type 0 where
  pub text : List ℕ
  pub rest : List ℕ
  pub len : length text ≡ left
  pub bulks : EndsBulks (whole ++ (present ++ text) ∷ []) arguments behind rest
  pub is : line_before text rest ≡ bytes

-- the other digits of an argument's size, and the argument
pub record EndsSize (whole arguments : List (List ℕ)) (read : Digits) (behind : ℕ) (bytes : List ℕ) : Type 0 where
  pub digits : List ℕ
  pub size : ℕ
  pub rest : List ℕ
  pub ends : EndsNumber 65536 read digits size
  pub argument : EndsArgument whole arguments [] size behind rest
  pub is : line_before digits rest ≡ bytes

-- these bytes, and no more arguments
abbrev pub EndsEmpty : (whole arguments : List (List ℕ)) → (last bytes : List ℕ) → Type 0
EndsEmpty whole arguments last bytes = (bytes ≡ last) × (whole ≡ arguments)

-- a carriage return and a line feed
abbrev pub line_end : List ℕ
line_end = line_before [] []

-- the length of an array, and its bulk strings; or that of one that is none
abbrev pub EndsLength : (whole arguments : List (List ℕ)) → Digits → List ℕ → Type 0
EndsLength whole arguments read bytes =
    EndsCount whole arguments read bytes ⊎ ((read.count ≡ 0) × EndsEmpty whole arguments (45 ∷ 49 ∷ line_end) bytes)

-- an array, or an empty line
abbrev pub EndsFirst : (whole arguments : List (List ℕ)) → List ℕ → Type 0
EndsFirst whole arguments bytes =
    After star (EndsLength whole arguments no_digits) bytes
    ⊎ EndsEmpty whole arguments line_end bytes
    ⊎ EndsEmpty whole arguments (line_feed ∷ []) bytes

-- what completes a request, so that it has these arguments
abbrev pub Completes : Stage → ℕ → Parts → List (List ℕ) → List ℕ → Type 0
Completes stage.Star behind parts arguments bytes = EndsFirst parts.whole arguments bytes
Completes (stage.Count digits) behind parts arguments bytes = EndsLength parts.whole arguments digits bytes
Completes stage.CountFeed behind parts arguments bytes = After line_feed (EndsBulks parts.whole arguments (behind + 1)) bytes
Completes stage.Dollar behind parts arguments bytes = EndsBulks parts.whole arguments (behind + 1) bytes
Completes (stage.Size digits) behind parts arguments bytes = EndsSize parts.whole arguments digits behind bytes
Completes (stage.SizeFeed size) behind parts arguments bytes =
    After line_feed (EndsArgument parts.whole arguments [] size behind) bytes
Completes (stage.Bytes left) behind parts arguments bytes = EndsArgument parts.whole arguments parts.present left behind bytes
Completes stage.BytesFeed behind parts arguments bytes =
    After line_feed (EndsBulks (parts.whole ++ parts.present ∷ []) arguments behind) bytes
Completes stage.NullDigit behind parts arguments bytes = EndsEmpty parts.whole arguments (49 ∷ line_end) bytes
Completes stage.NullEnd behind parts arguments bytes = EndsEmpty parts.whole arguments line_end bytes
Completes stage.EmptyFeed behind parts arguments bytes = EndsEmpty parts.whole arguments (line_feed ∷ []) bytes

-- what has to follow a byte that does this
abbrev pub CompletesBehind : Step → Parts → ℕ → List (List ℕ) → List ℕ → Type 0
CompletesBehind (step.On frame effect) parts byte arguments bytes =
    Completes frame.stage frame.behind (parts_by effect byte parts) arguments bytes
CompletesBehind (step.Whole effect) parts byte arguments bytes =
    (bytes ≡ []) × ((parts_by effect byte parts).whole ≡ arguments)
CompletesBehind step.Refused parts byte arguments bytes = ⊥

-- ---- a request is what completes nothing

array_completes : (spelled : List ℕ) (arguments : List (List ℕ)) → IsArray spelled arguments → After star (EndsLength [] arguments no_digits) spelled
array_completes spelled arguments h =
    subst (λ w. After star (EndsLength [] arguments no_digits) w) h.is (
      refl,
      inl (record {
        digits = h.digits;
        count = length arguments;
        rest = h.bulks;
        ends = ends_fresh 64 h.digits (length arguments) h.count;
        bulks = record { more = arguments; each = h.each; len = refl; all = refl };
        is = refl;
      }),
    )

empty_completes : (spelled : List ℕ) (arguments : List (List ℕ)) → arguments ≡ [] → IsEmpty spelled → EndsFirst [] arguments spelled
empty_completes spelled arguments none (inl feed) = inr (inr (feed, sym none))
empty_completes spelled arguments none (inr (inl line)) = inr (inl (line, sym none))
empty_completes spelled arguments none (inr (inr null)) =
    inl (subst (λ w. After star (EndsLength [] arguments no_digits) w) (sym null) (refl, inr (refl, (refl, sym none))))

pub completes_request : (spelled : List ℕ) (arguments : List (List ℕ)) → IsRequest spelled arguments → EndsFirst [] arguments spelled
completes_request spelled arguments (inl array) = inl (array_completes spelled arguments array)
completes_request spelled arguments (inr empty) = empty_completes spelled arguments empty.0 empty.1

length_request : (byte : ℕ) (bytes : List ℕ) (arguments : List (List ℕ)) → byte ≡ star → EndsLength [] arguments no_digits bytes → IsRequest (byte ∷ bytes) arguments
length_request byte bytes arguments first (inl c) = inl (record {
  digits = c.digits;
  bulks = c.rest;
  count = subst (λ n. IsNumber 64 c.digits n) (sym c.bulks.len ∙ ap length c.bulks.all) (fresh_ends 64 c.digits c.count c.ends);
  each = subst (λ a. AreBulks a c.rest) c.bulks.all c.bulks.each;
  is = ap (λ w. star ∷ w) c.is ∙ ap (λ b. b ∷ bytes) (sym first);
})
length_request byte bytes arguments first (inr null) =
    inr (sym null.1.1, inr (inr (ap (λ b. b ∷ bytes) first ∙ ap (λ w. star ∷ w) null.1.0)))

pub request_completes : (spelled : List ℕ) (arguments : List (List ℕ)) → EndsFirst [] arguments spelled → IsRequest spelled arguments
request_completes [] arguments (inl h) = absurd h
request_completes (byte ∷ bytes) arguments (inl h) = length_request byte bytes arguments h.0 h.1
request_completes spelled arguments (inr (inl line)) = inr (sym line.1, inr (inl line.0))
request_completes spelled arguments (inr (inr feed)) = inr (sym feed.1, inl feed.0)

-- ---- nothing is to come of no request

line_some : (bytes rest : List ℕ) → line_before bytes rest ≡ [] → ⊥
line_some [] rest e = absurd cc
line_some (byte ∷ bytes) rest e = absurd cc

bulks_some : (more : List (List ℕ)) (count : ℕ) → AreBulks more [] → length more ≡ count + 1 → ⊥
bulks_some [] count each len = absurd (omega arith)
bulks_some (text ∷ more) count each len =
    let first : dollar ∷ line_before each.first.digits (line_before text []) ++ each.rest ≡ [] = ap (λ w. w ++ each.rest) each.first.is ∙ each.is in
    absurd cc

pub none_completes : (s : Stage) (behind : ℕ) (parts : Parts) (arguments : List (List ℕ)) → Completes s behind parts arguments [] → ⊥
none_completes stage.Star behind parts arguments (inl h) = h
none_completes stage.Star behind parts arguments (inr (inl line)) = absurd (cc line.0)
none_completes stage.Star behind parts arguments (inr (inr feed)) = absurd (cc feed.0)
none_completes (stage.Count read) behind parts arguments (inl h) = line_some h.digits h.rest h.is
none_completes (stage.Count read) behind parts arguments (inr null) = absurd (cc null.1.0)
none_completes stage.CountFeed behind parts arguments h = h
none_completes stage.Dollar behind parts arguments h = bulks_some h.more behind h.each h.len
none_completes (stage.Size read) behind parts arguments h = line_some h.digits h.rest h.is
none_completes (stage.SizeFeed size) behind parts arguments h = h
none_completes (stage.Bytes left) behind parts arguments h = line_some h.text h.rest h.is
none_completes stage.BytesFeed behind parts arguments h = h
none_completes stage.NullDigit behind parts arguments h = absurd (cc h.0)
none_completes stage.NullEnd behind parts arguments h = absurd (cc h.0)
none_completes stage.EmptyFeed behind parts arguments h = absurd (cc h.0)

-- ---- what completes a request completes it behind its first byte

after_forth : (wanted : ℕ) (next : Stage) (does : Effect) (behind : ℕ) (parts : Parts) (byte : ℕ) (arguments : List (List ℕ)) (bytes : List ℕ)
    → byte ≡ wanted → Completes next behind (parts_by does byte parts) arguments bytes
    → CompletesBehind (after_byte wanted next does behind byte) parts byte arguments bytes
after_forth wanted next does behind parts byte arguments bytes is h = rw (eq-eqb byte wanted is) h

-- a whole number of arguments
counted_forth : (parts : Parts) (byte : ℕ) (arguments : List (List ℕ)) (rest : List ℕ) (count : ℕ)
    → EndsBulks parts.whole arguments count rest → CompletesBehind (count_step (number.Ends count)) parts byte arguments (line_feed ∷ rest)
counted_forth parts byte arguments rest zero h = none h.more h.each h.len h.all
  where
    none : (more : List (List ℕ)) → AreBulks more rest → length more ≡ 0 → parts.whole ++ more ≡ arguments
        → EndsEmpty parts.whole arguments (line_feed ∷ []) (line_feed ∷ rest)
    none [] each len all = (ap (λ w. line_feed ∷ w) each, sym (append-nil parts.whole) ∙ all)
    none (a ∷ more) each len all = absurd (omega arith)
counted_forth parts byte arguments rest (suc behind) h =
    (refl, subst (λ n. EndsBulks parts.whole arguments n rest) (omega arith) h)

count_forth : (parts : Parts) (behind : ℕ) (read : Digits) (byte : ℕ) (arguments : List (List ℕ)) (bytes digits : List ℕ) (count : ℕ) (rest : List ℕ)
    → EndsNumber 64 read digits count → EndsBulks parts.whole arguments count rest → line_before digits rest ≡ byte ∷ bytes
    → CompletesBehind (length_step read behind byte) parts byte arguments bytes
count_forth parts behind read byte arguments bytes [] count rest ends bulks is =
    let first : byte ≡ carriage_return = cc in
    let tail : line_feed ∷ rest ≡ bytes = cc in
    let last = step_end 64 read count ends in
    rw (first, last.0, sym tail) (counted_forth parts carriage_return arguments rest read.value (subst (λ n. EndsBulks parts.whole arguments n rest) last.1 bulks))
count_forth parts behind read byte arguments bytes (digit ∷ digits) count rest ends bulks is =
    let first : byte ≡ digit = cc in
    let tail : line_before digits rest ≡ bytes = cc in
    let more = step_more 64 read digit digits count ends in
    rw (first, no_minus digit ends.decimal.0, more.0) (inl (record { digits = digits; count = count; rest = rest; ends = more.1; bulks = bulks; is = tail }))
  where
    no_minus : (digit : ℕ) → IsDigit digit → (digit == 45) ≡ false
    no_minus digit is = grind (arith, nat_tests)

length_forth : (parts : Parts) (behind : ℕ) (read : Digits) (byte : ℕ) (arguments : List (List ℕ)) (bytes : List ℕ)
    → EndsLength parts.whole arguments read (byte ∷ bytes) → CompletesBehind (length_step read behind byte) parts byte arguments bytes
length_forth parts behind read byte arguments bytes (inl h) =
    count_forth parts behind read byte arguments bytes h.digits h.count h.rest h.ends h.bulks h.is
length_forth parts behind read byte arguments bytes (inr h) =
    let same = h.1.0 in
    let first : byte ≡ 45 = cc in
    let tail : bytes ≡ 49 ∷ line_end = cc in
    let test : is_minus read byte ≡ true = rw (first, h.0) refl in
    rw test (tail, h.1.1)

first_forth : (parts : Parts) (behind byte : ℕ) (arguments : List (List ℕ)) (bytes : List ℕ)
    → EndsFirst parts.whole arguments (byte ∷ bytes) → CompletesBehind (first_step behind byte) parts byte arguments bytes
first_forth parts behind byte arguments bytes (inl h) = rw h.0 h.1
first_forth parts behind byte arguments bytes (inr (inl h)) =
    let same = h.0 in
    let first : byte ≡ carriage_return = cc in
    let tail : bytes ≡ line_feed ∷ [] = cc in
    rw first (tail, h.1)
first_forth parts behind byte arguments bytes (inr (inr h)) =
    let same = h.0 in
    let first : byte ≡ line_feed = cc in
    let tail : bytes ≡ [] = cc in
    rw first (tail, h.1)

-- the next byte of those that end a request of no arguments
empty_forth : (wanted : ℕ) (next : Stage) (last : List ℕ) (parts : Parts) (behind byte : ℕ) (arguments : List (List ℕ)) (bytes : List ℕ)
    → EndsEmpty parts.whole arguments (wanted ∷ last) (byte ∷ bytes)
    → (EndsEmpty parts.whole arguments last bytes → Completes next behind parts arguments bytes)
    → CompletesBehind (after_byte wanted next effect.Nothing behind byte) parts byte arguments bytes
empty_forth wanted next last parts behind byte arguments bytes h on =
    let same = h.0 in
    let first : byte ≡ wanted = cc in
    let tail : bytes ≡ last = cc in
    after_forth wanted next effect.Nothing behind parts byte arguments bytes first (on (tail, h.1))

last_forth : (parts : Parts) (byte : ℕ) (arguments : List (List ℕ)) (bytes : List ℕ)
    → EndsEmpty parts.whole arguments (line_feed ∷ []) (byte ∷ bytes)
    → CompletesBehind (if byte == line_feed then step.Whole effect.Nothing else step.Refused) parts byte arguments bytes
last_forth parts byte arguments bytes h =
    let same = h.0 in
    let first : byte ≡ line_feed = cc in
    let tail : bytes ≡ [] = cc in
    rw (eq-eqb byte line_feed first) (tail, h.1)

size_forth : (parts : Parts) (behind : ℕ) (read : Digits) (byte : ℕ) (arguments : List (List ℕ)) (bytes digits : List ℕ) (size : ℕ) (rest : List ℕ)
    → EndsNumber 65536 read digits size → EndsArgument parts.whole arguments [] size behind rest → line_before digits rest ≡ byte ∷ bytes
    → CompletesBehind (size_step behind (number_step 65536 read byte)) parts byte arguments bytes
size_forth parts behind read byte arguments bytes [] size rest ends argument is =
    let first : byte ≡ carriage_return = cc in
    let tail : line_feed ∷ rest ≡ bytes = cc in
    let last = step_end 65536 read size ends in
    rw (first, last.0) (subst (λ w. After line_feed (EndsArgument parts.whole arguments [] read.value behind) w) tail (refl, subst (λ n. EndsArgument parts.whole arguments [] n behind rest) last.1 argument))
size_forth parts behind read byte arguments bytes (digit ∷ digits) size rest ends argument is =
    let first : byte ≡ digit = cc in
    let tail : line_before digits rest ≡ bytes = cc in
    let more = step_more 65536 read digit digits size ends in
    rw (first, more.0) (record { digits = digits; size = size; rest = rest; ends = more.1; argument = argument; is = tail })

-- a bulk string, and what stands behind it
pub bulk_append : (digits text rest : List ℕ) → line_before digits (line_before text []) ++ rest ≡ line_before digits (line_before text rest)
bulk_append digits text rest =
    append_assoc digits (carriage_return ∷ line_feed ∷ line_before text []) rest
    ∙ ap (λ w. line_before digits w) (append_assoc text (carriage_return ∷ line_feed ∷ []) rest)

dollar_forth : (parts : Parts) (behind : ℕ) (byte : ℕ) (arguments : List (List ℕ)) (bytes : List ℕ) (more : List (List ℕ))
    → AreBulks more (byte ∷ bytes) → length more ≡ behind + 1 → parts.whole ++ more ≡ arguments
    → CompletesBehind (after_byte dollar (stage.Size no_digits) effect.Nothing behind byte) parts byte arguments bytes
dollar_forth parts behind byte arguments bytes [] each len all = absurd (omega arith)
dollar_forth parts behind byte arguments bytes (text ∷ more) each len all =
    let bulk = each.first in
    let whole : dollar ∷ line_before bulk.digits (line_before text each.rest) ≡ byte ∷ bytes =
    sym (ap (λ w. dollar ∷ w) (bulk_append bulk.digits text each.rest)) ∙ ap (λ w. w ++ each.rest) bulk.is ∙ each.is in
    let first : byte ≡ dollar = cc in
    let tail : line_before bulk.digits (line_before text each.rest) ≡ bytes = cc in
    after_forth dollar (stage.Size no_digits) effect.Nothing behind parts byte arguments bytes first (record {
      digits = bulk.digits;
      size = length text;
      rest = line_before text each.rest;
      ends = ends_fresh 65536 bulk.digits (length text) bulk.size;
      argument = record {
        text = text;
        rest = each.rest;
        len = refl;
        bulks = record { more = more; each = each.behind; len = omega arith; all = append_assoc parts.whole (text ∷ []) more ∙ all };
        is = refl;
      };
      is = tail;
    })

text_forth : (parts : Parts) (left behind byte : ℕ) (arguments : List (List ℕ)) (bytes text rest : List ℕ)
    → length text ≡ left → EndsBulks (parts.whole ++ (parts.present ++ text) ∷ []) arguments behind rest → line_before text rest ≡ byte ∷ bytes
    → CompletesBehind (bytes_step left behind byte) parts byte arguments bytes
text_forth parts zero behind byte arguments bytes [] rest len bulks is =
    let first : byte ≡ carriage_return = cc in
    let tail : line_feed ∷ rest ≡ bytes = cc in
    after_forth carriage_return stage.BytesFeed effect.Nothing behind parts byte arguments bytes first
    (subst (λ w. After line_feed (EndsBulks (parts.whole ++ parts.present ∷ []) arguments behind) w) tail (refl, subst (λ p. EndsBulks (parts.whole ++ p ∷ []) arguments behind rest) (append-nil parts.present) bulks))
text_forth parts zero behind byte arguments bytes (first ∷ text) rest len bulks is = absurd (omega arith)
text_forth parts (suc left) behind byte arguments bytes [] rest len bulks is = absurd (omega arith)
text_forth parts (suc left) behind byte arguments bytes (first ∷ text) rest len bulks is =
    let first : first ≡ byte = cc in
    let tail : line_before text rest ≡ bytes = cc in
    record {
      text = text;
      rest = rest;
      len = omega arith;
      bulks = subst (λ p. EndsBulks (parts.whole ++ p ∷ []) arguments behind rest) (ap (λ b. parts.present ++ b ∷ text) first ∙ sym (append_assoc parts.present (byte ∷ []) text)) bulks;
      is = tail;
    }

feed_forth : (parts : Parts) (behind byte : ℕ) (arguments : List (List ℕ)) (bytes : List ℕ) (more : List (List ℕ))
    → AreBulks more bytes → length more ≡ behind → (parts.whole ++ parts.present ∷ []) ++ more ≡ arguments
    → CompletesBehind (argument_step behind) parts byte arguments bytes
feed_forth parts zero byte arguments bytes [] each len all = (each, sym (append-nil (parts.whole ++ parts.present ∷ [])) ∙ all)
feed_forth parts zero byte arguments bytes (a ∷ others) each len all = absurd (omega arith)
feed_forth parts (suc behind) byte arguments bytes more each len all = record { more = more; each = each; len = omega (arith, len); all = all }

pub forth : (s : Stage) (behind : ℕ) (parts : Parts) (byte : ℕ) (arguments : List (List ℕ)) (bytes : List ℕ)
    → Completes s behind parts arguments (byte ∷ bytes) → CompletesBehind (stage_step s behind byte) parts byte arguments bytes
forth stage.Star behind parts byte arguments bytes h = first_forth parts behind byte arguments bytes h
forth (stage.Count read) behind parts byte arguments bytes h = length_forth parts behind read byte arguments bytes h
forth stage.CountFeed behind parts byte arguments bytes h =
    after_forth line_feed stage.Dollar effect.Nothing behind parts byte arguments bytes h.0 h.1
forth stage.Dollar behind parts byte arguments bytes h = dollar_forth parts behind byte arguments bytes h.more h.each h.len h.all
forth (stage.Size read) behind parts byte arguments bytes h =
    size_forth parts behind read byte arguments bytes h.digits h.size h.rest h.ends h.argument h.is
forth (stage.SizeFeed size) behind parts byte arguments bytes h =
    after_forth line_feed (stage.Bytes size) effect.Begin behind parts byte arguments bytes h.0 h.1
forth (stage.Bytes left) behind parts byte arguments bytes h =
    text_forth parts left behind byte arguments bytes h.text h.rest h.len h.bulks h.is
forth stage.BytesFeed behind parts byte arguments bytes h =
    rw (eq-eqb byte line_feed h.0) (feed_forth parts behind byte arguments bytes h.1.more h.1.each h.1.len h.1.all)
forth stage.NullDigit behind parts byte arguments bytes h =
    empty_forth 49 stage.NullEnd line_end parts behind byte arguments bytes h (λ on. on)
forth stage.NullEnd behind parts byte arguments bytes h =
    empty_forth carriage_return stage.EmptyFeed (line_feed ∷ []) parts behind byte arguments bytes h (λ on. on)
forth stage.EmptyFeed behind parts byte arguments bytes h = last_forth parts byte arguments bytes h
