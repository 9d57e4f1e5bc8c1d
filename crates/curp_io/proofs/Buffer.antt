-- Lemmas on a buffer of lines.
use Rattle.std.proofs.Common.{◌≡◌, ◌≢◌, ℕ, suc, ◌+◌, ◌-◌, ◌<◌, ◌≤◌, Option, Some, None, IfSome, MatchOption, List, [], ◌∷◌, ◌++◌, length, take, drop, refl, ap, sym, ◌∙◌, subst, arith, append-nil, length-append, length-drop, length-take}
use Rattle.std.proofs.Math.Seq.{take-add}
use Rattle.std.proofs.lemmas.List.{take_all, take-append-drop, length-take-le, drop-drop, drop-take, drop_all}
use Rattle.std.proofs.lemmas.Slice.{between_from_start}
use Rattle.std.proofs.lemmas.List.Quantifiers.{position-Some}
use Rattle.std.specs.Prelude.{◌==◌}
use Rattle.std.specs.List.{between, position, position_or_len}
use Rattle.curp_io.specs.Text.{line_of, rest_of}
use Rattle.curp_io.specs.Buffer.{AddsBytes, FindsLine, IsFeedPlace}
use Rattle.curp_io.proofs.Text.{line_of-append_none, line_of-append_some, rest_of-append_some, take_line, drop_line, feed_place}

drop_between : (xs : List ℕ) (i j n : ℕ) → i + n ≤ j → between (i + n) j xs ≡ drop n (between i j xs)
drop_between xs i j n h =
    let e : j - i ≡ n + (j - (i + n)) = omega arith in
    sym (ap (λ m. drop n (take m (drop i xs))) e ∙ drop-take n (j - (i + n)) (drop i xs) ∙ ap (λ w. take (j - (i + n)) w) (drop-drop n i xs))

-- bytes among which no line feed is found are their own first line
no_feed : (xs : List ℕ) → position (λ byte. byte == 10) xs ≡ None → line_of xs ≡ xs
no_feed xs h =
    let long : length xs ≤ length (line_of xs) = subst (λ (n : ℕ). length xs ≤ n) (feed_place xs) (grind arith) in
    sym (take_line xs) ∙ take_all (length (line_of xs)) xs long

feed : (xs : List ℕ) (n : ℕ) → position (λ byte. byte == 10) xs ≡ Some n → (n < length xs) × (line_of xs ≡ take n xs)
feed xs n h =
    let e : n ≡ position_or_len (λ byte. byte == 10) xs = grind arith in
    let f : n ≡ length (line_of xs) = e ∙ feed_place xs in
    ((position-Some (λ byte. byte == 10) xs n 0 h).0, sym (ap (λ k. take k xs) f ∙ take_line xs))

pub no_feed_behind : (ahead : List ℕ) (from : ℕ) → line_of (take from ahead) ≡ take from ahead → position (λ byte. byte == 10) (drop from ahead) ≡ None → line_of ahead ≡ ahead
no_feed_behind ahead from none_before none =
    let all = take-append-drop from ahead in
    ap line_of (sym all) ∙ line_of-append_none (take from ahead) (drop from ahead) none_before ∙ ap (λ w. take from ahead ++ w) (no_feed (drop from ahead) none) ∙ all

pub feed_behind : (ahead : List ℕ) (from n : ℕ) → line_of (take from ahead) ≡ take from ahead → position (λ byte. byte == 10) (drop from ahead) ≡ Some n → IsFeedPlace ahead (from + n)
feed_behind ahead from n none_before found =
    let f = feed (drop from ahead) n found in
    let within : from + n < length ahead = omega (arith, f.0, length-drop from ahead) in
    let line : line_of ahead ≡ take (from + n) ahead =
    ap line_of (sym (take-append-drop from ahead))
    ∙ line_of-append_none (take from ahead) (drop from ahead) none_before
    ∙ ap (λ w. take from ahead ++ w) f.1
    ∙ sym (take-add from n ahead) in
    let len : suc (length (line_of ahead)) ≡ from + n + 1 = omega (arith, ap length line, length-take-le (from + n) ahead (omega arith)) in
    record {
      within = within;
      line = line;
      rest = sym (drop_line ahead) ∙ ap (λ k. drop k ahead) len;
    }

-- the part of the buffer behind its first bytes
pub part_behind : (xs ahead : List ℕ) (start end from : ℕ) → start ≤ end → between start end xs ≡ ahead → from ≤ length ahead → between (start + from) end xs ≡ drop from ahead
part_behind xs ahead start end from ordered is h =
    drop_between xs start end from (omega (arith, ap length is, length-take (end - start) (drop start xs))) ∙ ap (drop from) is

-- the bytes ahead were moved to the prefix, and so many bytes were read behind them
pub filled : (ahead moved read : List ℕ) (len count : ℕ) → between 0 len moved ≡ ahead → take len read ≡ take len moved → between 0 (len + count) read ≡ ahead ++ take count (drop len read)
filled ahead moved read len count prefix same =
    between_from_start read (len + count)
    ∙ take-add len count read
    ∙ ap (λ w. w ++ take count (drop len read)) (same ∙ sym (between_from_start moved len) ∙ prefix)

pub filled_adds : (ahead moved read : List ℕ) (len count : ℕ) → between 0 len moved ≡ ahead → take len read ≡ take len moved → count ≤ length (drop len read) → length read ≡ 65537 → AddsBytes ahead (between 0 (len + count) read) count
filled_adds ahead moved read len count prefix same fits full =
    let is = filled ahead moved read len count prefix same in
    record {
      prefix = record { rest = take count (drop len read); is = sym is };
      len = omega (arith, ap length is, length-append ahead (take count (drop len read)), length-take-le count (drop len read) fits);
      room = omega (arith, full, ap length (between_from_start read (len + count)), length-take (len + count) read);
    }

pub finds_feed : (ahead left bytes : List ℕ) (n : ℕ) → IsFeedPlace ahead n → ahead ++ left ≡ bytes → FindsLine bytes ahead left n
finds_feed ahead left bytes n place all =
    let short : length (line_of ahead) < length ahead = omega (arith, place.within, ap length place.line, length-take-le n ahead (omega (arith, place.within))) in
    record {
      more = λ none. omega (arith, place.within, ap length (all ∙ none), length-append ahead left);
      line = ap line_of (sym all) ∙ line_of-append_some ahead left short ∙ place.line;
      rest = ap rest_of (sym all) ∙ rest_of-append_some ahead left short ∙ ap (λ w. w ++ left) place.rest;
    }

pub too_long : (ahead left bytes : List ℕ) → line_of ahead ≡ ahead → length ahead ≡ 65537 → ahead ++ left ≡ bytes → 65536 < length (line_of bytes)
too_long ahead left bytes none full all =
    omega (arith, full, ap length (ap line_of (sym all) ∙ line_of-append_none ahead left none), length-append ahead (line_of left))

nothing_added : (old new : List ℕ) → AddsBytes old new 0 → new ≡ old
nothing_added old new adds =
    let len : length adds.prefix.rest ≡ 0 = omega (arith, adds.len, ap length adds.prefix.is, length-append old adds.prefix.rest) in
    elim adds.prefix.rest as (λ r. length r ≡ 0 → old ++ r ≡ new → new ≡ old) [
      | [] ↦ λ l e. sym e ∙ append-nil old
      | x ∷ xs ↦ λ l e. absurd (omega arith)
    ] len adds.prefix.is

pub finds_last : (old ahead left bytes : List ℕ) (n : ℕ) → AddsBytes old ahead 0 → line_of old ≡ old → n ≡ length old → n ≢ 0 → left ≡ [] → ahead ++ left ≡ bytes → FindsLine bytes ahead left n
finds_last old ahead left bytes n adds none len some empty all =
    let same = nothing_added old ahead adds in
    let whole : bytes ≡ ahead = sym all ∙ ap (λ w. ahead ++ w) empty ∙ append-nil ahead in
    let is_line : line_of ahead ≡ ahead = ap line_of same ∙ none ∙ sym same in
    let len_ahead : n ≡ length ahead = len ∙ sym (ap length same) in
    record {
      more = λ e. some (len_ahead ∙ ap length (sym whole ∙ e));
      line = ap line_of whole ∙ is_line ∙ sym (take_all n ahead (omega arith));
      rest =
          ap rest_of whole
          ∙ sym (drop_line ahead)
          ∙ drop_all (suc (length (line_of ahead))) ahead (omega (arith, ap length is_line))
          ∙ sym (ap (λ w. drop (n + 1) ahead ++ w) empty ∙ append-nil (drop (n + 1) ahead) ∙ drop_all (n + 1) ahead (omega arith));
    }

-- ---- a first line that is looked for among the bytes ahead

pub feed_within : (place : Option ℕ) (ahead : List ℕ) → MatchOption place (line_of ahead ≡ ahead) (IsFeedPlace ahead) → length ahead ≤ 65537
    → IfSome place (λ n. (n ≤ length ahead) × (n ≤ 65536))
feed_within None ahead is room = tt
feed_within (Some n) ahead is room = (omega (arith, is.within), omega (arith, is.within))

pub feed_finds : (place : Option ℕ) (ahead left : List ℕ) → MatchOption place (line_of ahead ≡ ahead) (IsFeedPlace ahead)
    → IfSome place (FindsLine (ahead ++ left) ahead left)
feed_finds None ahead left is = tt
feed_finds (Some n) ahead left is = finds_feed ahead left (ahead ++ left) n is refl

pub no_feed_place : (place : Option ℕ) (ahead : List ℕ) → MatchOption place (line_of ahead ≡ ahead) (IsFeedPlace ahead) → place ≡ None → line_of ahead ≡ ahead
no_feed_place None ahead is none = is
no_feed_place (Some n) ahead is none = absurd cc
