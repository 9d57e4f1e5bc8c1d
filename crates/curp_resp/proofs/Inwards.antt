-- A request of which a prefix was read, and what the next bytes make of it.
use Rattle.std.proofs.Common.{◌≡◌, ◌≢◌, ℕ, zero, suc, ◌+◌, ◌-◌, ◌^◌, ◌<◌, Bool, true, false, List, [], ◌∷◌, ◌++◌, length, take, drop, refl, ap, sym, ◌∙◌, subst, arith, append_assoc, append-nil, length-append, length-drop}
use Rattle.std.specs.Prelude.{◌==◌, if◌then◌else◌}
use Rattle.std.proofs.Math.Seq.{drop-append_seam, take-append_seam}
use Rattle.curp_resp.specs.Ahead.{Ahead}
use Rattle.curp_resp.specs.Feeds.{Feeds, Passes, read_first, read_on}
use Rattle.curp_resp.specs.First.{IsFirst, first_by, first_in}
use Rattle.curp_resp.specs.Frames.{after_byte, argument_step, bytes_step, count_step, frame_step, fresh_frame, is_fresh, is_minus, no_digits, number_step, rest_most, size_step, stage_rest, stage_step}
use Rattle.curp_resp.specs.Input.{BreaksOff, NoneStandsFirst, SomeStandsFirst, StandsFirst, place_behind}
use Rattle.curp_resp.specs.Kept.{KeptArguments, Parts, kept_by, no_parts, nothing_kept}
use Rattle.curp_resp.specs.KeptMeaning.{meaning_of_kept}
use Rattle.curp_resp.specs.Language.{IsRequest, carriage_return, dollar, line_feed, star}
use Rattle.curp_resp.specs.Next.{GivesRequest, LosesPrefix, RefusesBytes}
use Rattle.curp_resp.specs.Read.{Read, Inside, Gives, Refuses, read_by}
use Rattle.curp_resp.specs.declared.first.FirstRequest.TheVariants as first
use Rattle.curp_resp.specs.declared.frame.Effect.{Effect}
use Rattle.curp_resp.specs.declared.frame.Effect.TheVariants as effect
use Rattle.curp_resp.specs.declared.frame.Frame.{Frame}
use Rattle.curp_resp.specs.declared.frame.Stage.{Stage}
use Rattle.curp_resp.specs.declared.frame.Stage.TheVariants as stage
use Rattle.curp_resp.specs.declared.frame.Step.{Step}
use Rattle.curp_resp.specs.declared.frame.Step.TheVariants as step
use Rattle.curp_resp.specs.declared.number.NumberStep.{NumberStep}
use Rattle.curp_resp.specs.declared.number.NumberStep.TheVariants as number
use Rattle.curp_resp.specs.declared.number.Digits.{Digits}
use Rattle.curp_resp.specs.declared.reading.Progress.TheVariants as progress
use Rattle.curp_resp.specs.declared.reading.Reading.{Reading}
use Rattle.curp_resp.proofs.Prefixes.{breaks_at, breaks_at_end, inside_none, place_more, reads, refuses_at, refuses_none, some_ahead}
use Rattle.curp_resp.proofs.Keeps.{kept_of, kept_read, meaning_kept, reads_kept}
use Rattle.curp_resp.proofs.Numbers.{NumberSteps, number_steps}
use Rattle.curp_resp.proofs.Runs as runs

-- ---- a step leaves less to come, and is past the first byte

-- what a step goes on to has less to come than this
abbrev Lowers : Step → ℕ → Type 0
Lowers (step.On frame does) most = (rest_most frame < most) × (is_fresh frame ≡ false)
Lowers (step.Whole does) most = Unit {0}
Lowers step.Refused most = Unit {0}

after_lowers : (t : Bool) (next : Stage) (does : Effect) (behind most : ℕ) → stage_rest next behind < most → is_fresh (record { stage = next; behind = behind }) ≡ false
    → Lowers (if t then step.On (record { stage = next; behind = behind }) does else step.Refused) most
after_lowers true next does behind most h past = (h, past)
after_lowers false next does behind most h past = tt

count_lowers : (n : NumberStep) (read : Digits) (byte : ℕ) → NumberSteps 64 read byte n → Lowers (count_step n) (stage_rest (stage.Count read) 0)
count_lowers (number.More more) read byte is = (omega (arith, ap (λ d. d.count) is.0, is.2), refl)
count_lowers (number.Ends zero) read byte is = (omega arith, refl)
count_lowers (number.Ends (suc behind)) read byte is = (omega (arith, is.3), refl)
count_lowers number.Refused read byte is = tt

length_lowers : (t : Bool) (read : Digits) (behind byte : ℕ)
    → Lowers (if t then step.On (record { stage = stage.NullDigit; behind = behind }) effect.Nothing else count_step (number_step 64 read byte)) (stage_rest (stage.Count read) 0)
length_lowers true read behind byte = (omega arith, refl)
length_lowers false read behind byte = count_lowers (number_step 64 read byte) read byte (number_steps 64 read byte)

first_lowers : (t u : Bool) (behind byte : ℕ)
    → Lowers (if t then step.Whole effect.Nothing
    else (if u then step.On (record { stage = stage.EmptyFeed; behind = behind }) effect.Nothing else after_byte star (stage.Count no_digits) effect.Nothing behind byte)) (stage_rest stage.Star behind)
first_lowers true u behind byte = tt
first_lowers false true behind byte = (omega arith, refl)
first_lowers false false behind byte =
    after_lowers (byte == star) (stage.Count no_digits) effect.Nothing behind (stage_rest stage.Star behind) (omega arith) refl

last_lowers : (t : Bool) (most : ℕ) → Lowers (if t then step.Whole effect.Nothing else step.Refused) most
last_lowers true most = tt
last_lowers false most = tt

size_lowers : (n : NumberStep) (behind : ℕ) (read : Digits) (byte : ℕ) → NumberSteps 65536 read byte n → Lowers (size_step behind n) (stage_rest (stage.Size read) behind)
size_lowers (number.More more) behind read byte is = (omega (arith, ap (λ d. d.count) is.0, is.2), refl)
size_lowers (number.Ends value) behind read byte is = (omega (arith, is.3), refl)
size_lowers number.Refused behind read byte is = tt

bytes_lowers : (left behind byte : ℕ) → Lowers (bytes_step left behind byte) (stage_rest (stage.Bytes left) behind)
bytes_lowers zero behind byte =
    after_lowers (byte == carriage_return) stage.BytesFeed effect.Nothing behind (stage_rest (stage.Bytes zero) behind) (omega arith) refl
bytes_lowers (suc left) behind byte = (omega arith, refl)

feed_lowers : (t : Bool) (behind : ℕ) → Lowers (if t then argument_step behind else step.Refused) (stage_rest stage.BytesFeed behind)
feed_lowers true zero = tt
feed_lowers true (suc behind) = (omega arith, refl)
feed_lowers false behind = tt

stage_lowers : (s : Stage) (behind byte : ℕ) → Lowers (stage_step s behind byte) (stage_rest s behind)
stage_lowers stage.Star behind byte = first_lowers (byte == line_feed) (byte == carriage_return) behind byte
stage_lowers (stage.Count read) behind byte = length_lowers (is_minus read byte) read behind byte
stage_lowers stage.CountFeed behind byte =
    after_lowers (byte == line_feed) stage.Dollar effect.Nothing behind (stage_rest stage.CountFeed behind) (omega arith) refl
stage_lowers stage.Dollar behind byte =
    after_lowers (byte == dollar) (stage.Size no_digits) effect.Nothing behind (stage_rest stage.Dollar behind) (omega arith) refl
stage_lowers (stage.Size read) behind byte = size_lowers (number_step 65536 read byte) behind read byte (number_steps 65536 read byte)
stage_lowers (stage.SizeFeed size) behind byte =
    after_lowers (byte == line_feed) (stage.Bytes size) effect.Begin behind (stage_rest (stage.SizeFeed size) behind) (omega arith) refl
stage_lowers (stage.Bytes left) behind byte = bytes_lowers left behind byte
stage_lowers stage.BytesFeed behind byte = feed_lowers (byte == line_feed) behind
stage_lowers stage.NullDigit behind byte =
    after_lowers (byte == 49) stage.NullEnd effect.Nothing behind (stage_rest stage.NullDigit behind) (omega arith) refl
stage_lowers stage.NullEnd behind byte =
    after_lowers (byte == carriage_return) stage.EmptyFeed effect.Nothing behind (stage_rest stage.NullEnd behind) (omega arith) refl
stage_lowers stage.EmptyFeed behind byte = last_lowers (byte == line_feed) (stage_rest stage.EmptyFeed behind)

-- and some bytes do

lower_on : (bytes : List ℕ) (frame last : Frame) (kept later : KeptArguments) (most : ℕ) → read_by kept_by bytes frame kept ≡ Inside last later
    → (rest_most frame < most) × (is_fresh frame ≡ false) → (rest_most last < most) × (is_fresh last ≡ false)
lower_on [] frame last kept later most h low =
    let stands : Inside frame kept ≡ Inside last later = h in
    let same : frame ≡ last = cc in
    subst (λ f. (rest_most f < most) × (is_fresh f ≡ false)) same low
lower_on (byte ∷ bytes) frame last kept later most h low =
    elim (frame_step frame byte) as (λ s. frame_step frame byte ≡ s → Lowers s (rest_most frame) → (rest_most last < most) × (is_fresh last ≡ false)) [
      | step.On next does ↦ λ e lower.
          lower_on bytes next last (kept_by does byte kept) later most (sym (runs.read_on kept_by byte bytes frame kept next does e) ∙ h) (omega (arith, lower.0, low.0), lower.1)
      | step.Whole does ↦ λ e lower.
          let none : Gives (kept_by does byte kept) bytes ≡ Inside last later = sym (runs.read_whole kept_by byte bytes frame kept does e) ∙ h in
          absurd cc
      | step.Refused ↦ λ e lower.
          let none : Refuses (byte ∷ bytes) ≡ Inside last later = sym (runs.read_refused kept_by byte bytes frame kept e) ∙ h in
          absurd cc
    ] refl (stage_lowers frame.stage frame.behind byte)

pub bytes_lower : (bytes : List ℕ) (frame last : Frame) (kept later : KeptArguments) → bytes ≢ [] → read_by kept_by bytes frame kept ≡ Inside last later
    → (rest_most last < rest_most frame) × (is_fresh last ≡ false)
bytes_lower [] frame last kept later some h = absurd (some refl)
bytes_lower (byte ∷ bytes) frame last kept later some h =
    elim (frame_step frame byte) as (λ s. frame_step frame byte ≡ s → Lowers s (rest_most frame) → (rest_most last < rest_most frame) × (is_fresh last ≡ false)) [
      | step.On next does ↦ λ e low.
          lower_on bytes next last (kept_by does byte kept) later (rest_most frame) (sym (runs.read_on kept_by byte bytes frame kept next does e) ∙ h) low
      | step.Whole does ↦ λ e low.
          let none : Gives (kept_by does byte kept) bytes ≡ Inside last later = sym (runs.read_whole kept_by byte bytes frame kept does e) ∙ h in
          absurd cc
      | step.Refused ↦ λ e low.
          let none : Refuses (byte ∷ bytes) ≡ Inside last later = sym (runs.read_refused kept_by byte bytes frame kept e) ∙ h in
          absurd cc
    ] refl (stage_lowers frame.stage frame.behind byte)

-- ---- by whole arguments

firsts : (bytes : List ℕ) → read_first bytes ≡ kept_read (reads bytes)
firsts bytes = reads_kept bytes fresh_frame no_parts

pub inside_parts : (bytes : List ℕ) (frame : Frame) (kept : KeptArguments) → read_first bytes ≡ Inside frame kept → (parts : Parts) × (reads bytes ≡ Inside frame parts)
inside_parts bytes frame kept h =
    elim (reads bytes) as (λ r. reads bytes ≡ r → kept_read r ≡ Inside frame kept → (parts : Parts) × (reads bytes ≡ Inside frame parts)) [
      | Inside last parts ↦ λ e k.
          let same : last ≡ frame = cc in
          (parts, e ∙ ap (λ f. Inside f parts) same)
      | Gives parts rest ↦ λ e k. absurd cc
      | Refuses rest ↦ λ e k. absurd cc
    ] refl (sym (firsts bytes) ∙ h)

gives_parts : (bytes : List ℕ) (kept : KeptArguments) (rest : List ℕ) → read_first bytes ≡ Gives kept rest → (parts : Parts) × (reads bytes ≡ Gives parts rest) × (kept ≡ kept_of parts)
gives_parts bytes kept rest h =
    elim (reads bytes) as (λ r. reads bytes ≡ r → kept_read r ≡ Gives kept rest → (parts : Parts) × (reads bytes ≡ Gives parts rest) × (kept ≡ kept_of parts)) [
      | Inside last parts ↦ λ e k. absurd cc
      | Gives parts left ↦ λ e k.
          let same : left ≡ rest = cc in
          (parts, e ∙ ap (λ w. Gives parts w) same, cc)
      | Refuses left ↦ λ e k. absurd cc
    ] refl (sym (firsts bytes) ∙ h)

refuses_parts : (bytes rest : List ℕ) → read_first bytes ≡ Refuses rest → reads bytes ≡ Refuses rest
refuses_parts bytes rest h =
    elim (reads bytes) as (λ r. reads bytes ≡ r → kept_read r ≡ Refuses rest → reads bytes ≡ Refuses rest) [
      | Inside last parts ↦ λ e k. absurd cc
      | Gives parts left ↦ λ e k. absurd cc
      | Refuses left ↦ λ e k.
          let same : left ≡ rest = cc in
          e ∙ ap (λ w. Refuses w) same
    ] refl (sym (firsts bytes) ∙ h)

-- ---- where the reading stands

-- a prefix of the bytes was passed over, and counted, and the reading stands behind it
pub record Inwards (tells : Bool) (start now : Ahead) (left_start left_now : List ℕ) (reading : Reading) : Type 0 where
  pub prefix : List ℕ
  pub inside : read_first prefix ≡ Inside reading.frame reading.arguments
  pub counted : now.passed ≡ place_behind start.passed (length prefix)
  pub bytes : tells ≡ true → prefix ++ (now.bytes ++ left_now) ≡ start.bytes ++ left_start

abbrev pub fresh_reading : Reading
fresh_reading = record { frame = fresh_frame; arguments = nothing_kept }

pub inwards_filled : (tells : Bool) (start now new : Ahead) (left_start left_now left_new : List ℕ) (reading : Reading) → Inwards tells start now left_start left_now reading
    → new.passed ≡ now.passed → (tells ≡ true → new.bytes ++ left_new ≡ now.bytes ++ left_now) → Inwards tells start new left_start left_new reading
inwards_filled tells start now new left_start left_now left_new reading h passed same = record {
  prefix = h.prefix;
  inside = h.inside;
  counted = passed ∙ h.counted;
  bytes = λ told. ap (λ w. h.prefix ++ w) (same told) ∙ h.bytes told;
}

-- what the bytes ahead come to behind the prefix
behind_prefix : (prefix bytes : List ℕ) (reading : Reading) → read_first prefix ≡ Inside reading.frame reading.arguments → read_first (prefix ++ bytes) ≡ read_on bytes reading
behind_prefix prefix bytes reading inside =
    runs.read_append kept_by prefix bytes fresh_frame nothing_kept ∙ ap (λ r. runs.read_behind kept_by r bytes) inside

fed_inside : (r : Read KeptArguments) (reading : Reading) (rest : List ℕ) → Feeds r progress.More reading rest → (r ≡ Inside reading.frame reading.arguments) × (rest ≡ [])
fed_inside (Inside frame kept) reading rest h = (ap (λ n. Inside n.frame n.arguments) (sym h.1), h.2)
fed_inside (Gives kept others) reading rest h = absurd (cc h.0)
fed_inside (Refuses others) reading rest h = absurd (cc h.0)

fed_gives : (r : Read KeptArguments) (reading : Reading) (rest : List ℕ) → Feeds r progress.Whole reading rest → r ≡ Gives reading.arguments rest
fed_gives (Inside frame kept) reading rest h = absurd (cc h.0)
fed_gives (Gives kept others) reading rest h = cc (h.1, h.2)
fed_gives (Refuses others) reading rest h = absurd (cc h.0)

fed_refuses : (r : Read KeptArguments) (reading : Reading) (rest : List ℕ) → Feeds r progress.Refused reading rest → r ≡ Refuses rest
fed_refuses (Inside frame kept) reading rest h = absurd (cc h.0)
fed_refuses (Gives kept others) reading rest h = absurd (cc h.0)
fed_refuses (Refuses others) reading rest h = cc h.1

module _ (tells : Bool) (start now new : Ahead) (left_start left : List ℕ) (reading later : Reading) (h : Inwards tells start now left_start left reading)
    (passed : List ℕ) (passes : Passes now new passed) where
  counts : new.passed ≡ place_behind start.passed (length (h.prefix ++ passed))
  counts =
      passes.counted ∙ ap (λ p. place_behind p (length passed)) h.counted ∙ place_more start.passed (length h.prefix) (length passed)
      ∙ ap (λ n. place_behind start.passed n) (sym (length-append h.prefix passed))

  whole_is : tells ≡ true → (h.prefix ++ now.bytes) ++ left ≡ start.bytes ++ left_start
  whole_is told = append_assoc h.prefix now.bytes left ∙ h.bytes told

  prefix_is : (h.prefix ++ passed) ++ new.bytes ≡ h.prefix ++ now.bytes
  prefix_is = append_assoc h.prefix passed new.bytes ∙ ap (λ w. h.prefix ++ w) passes.prefix_is

  pub inwards_more : Feeds (read_on now.bytes reading) progress.More later new.bytes → Inwards tells start new left_start left later
  inwards_more fed =
      let inside = fed_inside (read_on now.bytes reading) later new.bytes fed in
      let all : h.prefix ++ passed ≡ h.prefix ++ now.bytes = sym (append-nil (h.prefix ++ passed)) ∙ ap (λ w. (h.prefix ++ passed) ++ w) (sym inside.1) ∙ prefix_is in
      record {
        prefix = h.prefix ++ passed;
        inside = ap read_first all ∙ behind_prefix h.prefix now.bytes reading h.inside ∙ inside.0;
        counted = counts;
        bytes = λ told. sym (append_assoc (h.prefix ++ passed) new.bytes left) ∙ ap (λ w. w ++ left) prefix_is ∙ whole_is told;
      }

  pub lower_more : now.bytes ≢ [] → Feeds (read_on now.bytes reading) progress.More later new.bytes → rest_most later.frame < rest_most reading.frame
  lower_more some fed =
      let inside = fed_inside (read_on now.bytes reading) later new.bytes fed in
      (bytes_lower now.bytes reading.frame later.frame reading.arguments later.arguments some inside.0).0

  pub gives_request : tells ≡ true → Feeds (read_on now.bytes reading) progress.Whole later new.bytes
      → GivesRequest (start.bytes ++ left_start) start.passed (meaning_of_kept later.arguments) (new.bytes ++ left) new.passed
  gives_request told fed =
      let gives = fed_gives (read_on now.bytes reading) later new.bytes fed in
      let whole = gives_parts (h.prefix ++ now.bytes) later.arguments new.bytes (behind_prefix h.prefix now.bytes reading h.inside ∙ gives) in
      let first = runs.read_first (h.prefix ++ now.bytes) whole.0 new.bytes whole.1 in
      let len : length (h.prefix ++ passed) ≡ length first.spelled =
      omega (arith, ap length prefix_is, ap length first.is, length-append (h.prefix ++ passed) new.bytes, length-append first.spelled new.bytes) in
      record {
        spelled = first.spelled;
        arguments = whole.0.whole;
        request = first.request;
        left = sym (append_assoc first.spelled new.bytes left) ∙ ap (λ w. w ++ left) first.is ∙ whole_is told;
        meant = ap meaning_of_kept whole.2 ∙ meaning_kept whole.0;
        counted = counts ∙ ap (λ n. place_behind start.passed n) len;
      }

  pub refuses_bytes : tells ≡ true → Feeds (read_on now.bytes reading) progress.Refused later new.bytes
      → RefusesBytes (start.bytes ++ left_start) start.passed new.passed (new.bytes ++ left)
  refuses_bytes told fed =
      let refuses = fed_refuses (read_on now.bytes reading) later new.bytes fed in
      let refused = refuses_parts (h.prefix ++ now.bytes) new.bytes (behind_prefix h.prefix now.bytes reading h.inside ∙ refuses) in
      let at = refuses_at (h.prefix ++ now.bytes) new.bytes fresh_frame no_parts refused in
      let len : length (h.prefix ++ passed) ≡ length at.prefix =
      omega (arith, ap length prefix_is, ap length at.is, ap length at.left_is, length-append (h.prefix ++ passed) new.bytes, length-append at.prefix (at.byte ∷ at.others)) in
      let all : at.prefix ++ (at.byte ∷ at.others ++ left) ≡ start.bytes ++ left_start =
      sym (append_assoc at.prefix (at.byte ∷ at.others) left) ∙ ap (λ w. w ++ left) at.is ∙ whole_is told in
      record {
        place = length at.prefix;
        broken = subst (λ w. BreaksOff w (length at.prefix)) all (breaks_at at.prefix at.byte (at.others ++ left) at.last at.parts at.inside at.refused);
        told = counts ∙ ap (λ n. place_behind start.passed n) len;
        left = ap (λ w. w ++ left) at.left_is ∙ sym (ap (λ w. drop (length at.prefix) w) (sym all) ∙ drop-append_seam at.prefix (at.byte ∷ at.others ++ left));
      }

-- ---- where no byte comes

pub no_bytes : (bytes : List ℕ) → length bytes ≡ 0 → bytes ≡ []
no_bytes [] h = refl
no_bytes (byte ∷ bytes) h = absurd (omega arith)

fresh_prefix : (prefix : List ℕ) (frame : Frame) (kept : KeptArguments) → read_first prefix ≡ Inside frame kept → is_fresh frame ≡ true → prefix ≡ []
fresh_prefix [] frame kept h fresh = refl
fresh_prefix (byte ∷ prefix) frame kept h fresh =
    let past = bytes_lower (byte ∷ prefix) fresh_frame frame nothing_kept kept (λ e. absurd cc) h in
    absurd (cc past.1)

not_fresh_prefix : (prefix : List ℕ) (frame : Frame) (kept : KeptArguments) → read_first prefix ≡ Inside frame kept → is_fresh frame ≡ false → prefix ≢ []
not_fresh_prefix prefix frame kept h past = λ none.
    let stands : Inside fresh_frame nothing_kept ≡ Inside frame kept = ap read_first (sym none) ∙ h in
    let same : fresh_frame ≡ frame = cc in
    absurd (cc (ap is_fresh same))

module _ (tells : Bool) (start now : Ahead) (left_start left : List ℕ) (reading : Reading) (h : Inwards tells start now left_start left reading) where
  all_is : tells ≡ true → now.bytes ≡ [] → left ≡ [] → h.prefix ≡ start.bytes ++ left_start
  all_is told none ended = sym (append-nil h.prefix) ∙ ap (λ w. h.prefix ++ w) (sym (ap (λ w. now.bytes ++ w) ended ∙ append-nil now.bytes ∙ none)) ∙ h.bytes told

  pub loses_prefix : tells ≡ true → LosesPrefix (start.bytes ++ left_start) (now.bytes ++ left)
  loses_prefix told =
      let parts = inside_parts h.prefix reading.frame reading.arguments h.inside in
      record {
        lost = h.prefix;
        prefix = runs.read_prefix h.prefix reading.frame parts.0 parts.1;
        none = inside_none h.prefix reading.frame parts.0 parts.1;
        left = h.bytes told;
      }

  pub ends_fresh : start.passed < 2 ^ 64 → tells ≡ true → now.bytes ≡ [] → left ≡ [] → is_fresh reading.frame ≡ true
      → (start.bytes ++ left_start ≡ []) × (now.bytes ++ left ≡ []) × (now.passed ≡ start.passed)
  ends_fresh range told none ended fresh =
      let prefix = fresh_prefix h.prefix reading.frame reading.arguments h.inside fresh in (
        sym (all_is told none ended) ∙ prefix,
        ap (λ w. w ++ left) none ∙ ended,
        omega (arith, h.counted, ap length prefix),
      )

  pub ends_inside : tells ≡ true → now.bytes ≡ [] → left ≡ [] → is_fresh reading.frame ≡ false
      → RefusesBytes (start.bytes ++ left_start) start.passed now.passed (now.bytes ++ left)
  ends_inside told none ended past =
      let parts = inside_parts h.prefix reading.frame reading.arguments h.inside in
      let all = all_is told none ended in
      record {
        place = length h.prefix;
        broken = subst (λ w. BreaksOff w (length h.prefix)) all (breaks_at_end h.prefix reading.frame parts.0 (not_fresh_prefix h.prefix reading.frame reading.arguments h.inside past) parts.1);
        told = h.counted;
        left =
            ap (λ w. w ++ left) none ∙ ended
            ∙ sym (ap (λ w. drop (length h.prefix) w) (sym all ∙ sym (append-nil h.prefix)) ∙ drop-append_seam h.prefix []);
      }

-- ---- where a whole request is ahead at first, nothing is read

pub no_more_ahead : (bytes : List ℕ) (arguments : List (List ℕ)) (rest : List ℕ) (later : Reading) (left : List ℕ) → StandsFirst bytes arguments rest
    → Feeds (read_on bytes fresh_reading) progress.More later left → ⊥
no_more_ahead bytes arguments rest later left stands fed =
    let inside = fed_inside (read_on bytes fresh_reading) later left fed in
    let parts = inside_parts bytes later.frame later.arguments inside.0 in
    inside_none bytes later.frame parts.0 parts.1 arguments rest stands

-- what is read where bytes are ahead, if nothing was read before, is nothing
pub untouched : {A : Type 0} (start window new : Ahead) (old source then_left : A) (arguments : List (List ℕ)) (rest : List ℕ) → StandsFirst start.bytes arguments rest
    → source ≡ old → window ≡ start → (window.bytes ≢ [] → (new ≡ window) × (then_left ≡ source)) → (new ≡ start) × (then_left ≡ old)
untouched start window new old source then_left arguments rest stands same_source same_window same =
    let both = same (λ none. some_ahead start.bytes arguments rest stands (ap (λ w. w.bytes) (sym same_window) ∙ none)) in
    (both.0 ∙ same_window, both.1 ∙ same_source)

-- ---- whether bytes begin with a whole request

pub begins_whole : (bytes rest : List ℕ) (kept : KeptArguments) → read_first bytes ≡ Gives kept rest → SomeStandsFirst bytes
begins_whole bytes rest kept h =
    let whole = gives_parts bytes kept rest h in (whole.0.whole, rest, runs.read_first bytes whole.0 rest whole.1)

pub begins_refused : (bytes rest : List ℕ) → read_first bytes ≡ Refuses rest → NoneStandsFirst bytes
begins_refused bytes rest h = refuses_none bytes rest (refuses_parts bytes rest h)

pub begins_inside : (bytes : List ℕ) (frame : Frame) (kept : KeptArguments) → read_first bytes ≡ Inside frame kept → NoneStandsFirst bytes
begins_inside bytes frame kept h = let parts = inside_parts bytes frame kept h in inside_none bytes frame parts.0 parts.1

-- ---- what stands first

pub first_stands : (bytes : List ℕ) → IsFirst bytes (first_in bytes)
first_stands bytes =
    elim (read_first bytes) as (λ r. read_first bytes ≡ r → IsFirst bytes (first_by bytes r)) [
      | Inside frame kept ↦ λ e.
          let parts = inside_parts bytes frame kept e in
          record { prefix = runs.read_prefix bytes frame parts.0 parts.1; none = inside_none bytes frame parts.0 parts.1 }
      | Gives kept rest ↦ λ e.
          let whole = gives_parts bytes kept rest e in
          let first = runs.read_first bytes whole.0 rest whole.1 in
          let len : length bytes - length rest ≡ length first.spelled = omega (arith, ap length first.is, length-append first.spelled rest) in
          let prefix : take (length bytes - length rest) bytes ≡ first.spelled =
          ap (λ n. take n bytes) len ∙ ap (λ w. take (length first.spelled) w) (sym first.is) ∙ take-append_seam first.spelled rest in
          record {
            arguments = whole.0.whole;
            within = omega arith;
            request = subst (λ w. IsRequest w whole.0.whole) (sym prefix) first.request;
            meant = ap meaning_of_kept whole.2 ∙ meaning_kept whole.0;
          }
      | Refuses rest ↦ λ e.
          let at = refuses_at bytes rest fresh_frame no_parts (refuses_parts bytes rest e) in
          record {
            place = length at.prefix;
            within = omega (arith, ap length at.is, length-append at.prefix (at.byte ∷ at.others));
            broken = subst (λ w. BreaksOff w (length at.prefix)) at.is (breaks_at at.prefix at.byte at.others at.last at.parts at.inside at.refused);
          }
    ] refl

-- a request ends behind the byte at this place
pub whole_first : (bytes : List ℕ) (at : ℕ) (kept : KeptArguments) → at < length bytes → read_first bytes ≡ Gives kept (drop (suc at) bytes)
    → first.Whole (meaning_of_kept kept) (at + 1) ≡ first_in bytes
whole_first bytes at kept within e =
    sym (ap (first_by bytes) e ∙ ap (λ n. first.Whole (meaning_of_kept kept) n) (omega (arith, length-drop (suc at) bytes)))
