-- What stands at the prefix of bytes, and where they break off.
use Rattle.std.proofs.Common.{◌+◌, ◌≡◌, ◌≢◌, ℕ, zero, suc, ◌<◌, ◌≤◌, inl, inr, List, [], ◌∷◌, ◌++◌, length, take, refl, ap, sym, ◌∙◌, subst, arith, append-nil, length-append}
use Rattle.std.proofs.Math.Seq.{take-append_seam}
use Rattle.std.proofs.lemmas.Bool.{cases_lt}
use Rattle.std.proofs.lemmas.List.{take_all}
use Rattle.curp_resp.specs.Frames.{fresh_frame, frame_step}
use Rattle.curp_resp.specs.Input.{BreaksOff, Decomposes, IsLongestPrefix, NoneStandsFirst, StandsFirst, place_behind}
use Rattle.curp_resp.specs.Kept.{Parts, no_parts, parts_by}
use Rattle.curp_resp.specs.Language.{IsEmpty, IsViablePrefix, IsRequest}
use Rattle.curp_resp.specs.Read.{Read, Inside, Gives, Refuses, read_by}
use Rattle.curp_resp.specs.declared.frame.Frame.{Frame}
use Rattle.curp_resp.specs.declared.frame.Step.TheVariants as step
use Rattle.curp_resp.proofs.Runs.{GivesWhole, read_append, read_behind, read_first, read_prefix, read_on, read_refused, read_whole, request_read}

-- what bytes come to from the beginning of a request
abbrev pub reads : List ℕ → Read Parts
reads bytes = read_by parts_by bytes fresh_frame no_parts

-- ---- what stands first

pub stands_read : (bytes : List ℕ) (arguments : List (List ℕ)) (rest : List ℕ) → StandsFirst bytes arguments rest → GivesWhole bytes fresh_frame no_parts arguments rest
stands_read bytes arguments rest h =
    subst (λ w. GivesWhole w fresh_frame no_parts arguments rest) h.is (request_read h.spelled rest arguments h.request)

pub one_stands_first : (bytes : List ℕ) (arguments others : List (List ℕ)) (rest left : List ℕ) → StandsFirst bytes arguments rest → StandsFirst bytes others left
    → (arguments ≡ others) × (rest ≡ left)
one_stands_first bytes arguments others rest left h i =
    let one = stands_read bytes arguments rest h in
    let two = stands_read bytes others left i in
    let same : Gives one.given rest ≡ Gives two.given left = sym one.read ∙ two.read in
    let given : one.given ≡ two.given = cc in
    (sym one.whole ∙ ap (λ p. p.whole) given ∙ two.whole, cc)

pub inside_none : (bytes : List ℕ) (frame : Frame) (parts : Parts) → reads bytes ≡ Inside frame parts → NoneStandsFirst bytes
inside_none bytes frame parts h = λ arguments rest stands.
    let one = stands_read bytes arguments rest stands in
    let none : Gives one.given rest ≡ Inside frame parts = sym one.read ∙ h in
    absurd cc

pub refuses_none : (bytes left : List ℕ) → reads bytes ≡ Refuses left → NoneStandsFirst bytes
refuses_none bytes left h = λ arguments rest stands.
    let one = stands_read bytes arguments rest stands in
    let none : Gives one.given rest ≡ Refuses left = sym one.read ∙ h in
    absurd cc

-- ---- no request begins with what is refused

pub refuses_no_prefix : (bytes left : List ℕ) → reads bytes ≡ Refuses left → IsViablePrefix bytes → ⊥
refuses_no_prefix bytes left h prefix =
    let whole = request_read (bytes ++ prefix.rest) [] prefix.arguments prefix.request in
    let read : reads (bytes ++ prefix.rest) ≡ Gives whole.given [] = ap reads (sym (append-nil (bytes ++ prefix.rest))) ∙ whole.read in
    let refused : reads (bytes ++ prefix.rest) ≡ Refuses (left ++ prefix.rest) =
    read_append parts_by bytes prefix.rest fresh_frame no_parts ∙ ap (λ r. read_behind parts_by r prefix.rest) h in
    let none : Gives whole.given [] ≡ Refuses (left ++ prefix.rest) = sym read ∙ refused in
    absurd cc

-- the bytes up to one that can't follow
pub record RefusesAt (bytes : List ℕ) (frame : Frame) (before : Parts) (left : List ℕ) : Type 0 where
  pub prefix : List ℕ
  pub byte : ℕ
  pub others : List ℕ
  pub last : Frame
  pub parts : Parts
  pub is : prefix ++ (byte ∷ others) ≡ bytes
  pub left_is : left ≡ byte ∷ others
  pub inside : read_by parts_by prefix frame before ≡ Inside last parts
  pub refused : frame_step last byte ≡ step.Refused

pub refuses_at : (bytes left : List ℕ) (frame : Frame) (parts : Parts) → read_by parts_by bytes frame parts ≡ Refuses left → RefusesAt bytes frame parts left
refuses_at [] left frame parts h = absurd cc
refuses_at (byte ∷ bytes) left frame parts h =
    elim (frame_step frame byte) as (λ s. frame_step frame byte ≡ s → RefusesAt (byte ∷ bytes) frame parts left) [
      | step.On next does ↦ λ e.
          let more = refuses_at bytes left next (parts_by does byte parts) (sym (read_on parts_by byte bytes frame parts next does e) ∙ h) in
          record {
            prefix = byte ∷ more.prefix;
            byte = more.byte;
            others = more.others;
            last = more.last;
            parts = more.parts;
            is = ap (λ w. byte ∷ w) more.is;
            left_is = more.left_is;
            inside = read_on parts_by byte more.prefix frame parts next does e ∙ more.inside;
            refused = more.refused;
          }
      | step.Whole does ↦ λ e.
          let none : Gives (parts_by does byte parts) bytes ≡ Refuses left = sym (read_whole parts_by byte bytes frame parts does e) ∙ h in
          absurd cc
      | step.Refused ↦ λ e.
          let same : Refuses (byte ∷ bytes) ≡ Refuses left = sym (read_refused parts_by byte bytes frame parts e) ∙ h in
          record {
            prefix = [];
            byte = byte;
            others = bytes;
            last = frame;
            parts = parts;
            is = refl;
            left_is = cc;
            inside = refl;
            refused = e;
          }
    ] refl

-- more bytes than those of the prefix have the byte behind it
take_past : (prefix : List ℕ) (byte : ℕ) (others : List ℕ) (more : ℕ) → length prefix < more → (rest : List ℕ) × (take more (prefix ++ byte ∷ others) ≡ prefix ++ byte ∷ rest)
take_past [] byte others zero h = absurd (omega arith)
take_past [] byte others (suc more) h = (take more others, refl)
take_past (first ∷ prefix) byte others zero h = absurd (omega arith)
take_past (first ∷ prefix) byte others (suc more) h =
    let past = take_past prefix byte others more (omega (arith, h)) in
    (past.0, ap (λ w. first ∷ w) past.1)

pub breaks_at : (prefix : List ℕ) (byte : ℕ) (others : List ℕ) (last : Frame) (then : Parts) → reads prefix ≡ Inside last then → frame_step last byte ≡ step.Refused
    → BreaksOff (prefix ++ byte ∷ others) (length prefix)
breaks_at prefix byte others last then inside refused = record {
  some = some prefix;
  none = refuses_none (prefix ++ byte ∷ others) (byte ∷ others) (refuses others);
  longest = record {
    within = omega (arith, length-append prefix (byte ∷ others));
    prefix = subst (λ w. IsViablePrefix w) (sym (take-append_seam prefix (byte ∷ others))) (read_prefix prefix last then inside);
    longest = λ more above within begins.
        let past = take_past prefix byte others more above in
        refuses_no_prefix (prefix ++ byte ∷ past.0) (byte ∷ past.0) (refuses past.0) (subst (λ w. IsViablePrefix w) past.1 begins);
  };
}
  where
    some : (prefix : List ℕ) → prefix ++ byte ∷ others ≢ []
    some [] = λ e. absurd cc
    some (first ∷ prefix) = λ e. absurd cc

    refuses : (rest : List ℕ) → reads (prefix ++ byte ∷ rest) ≡ Refuses (byte ∷ rest)
    refuses rest =
        read_append parts_by prefix (byte ∷ rest) fresh_frame no_parts
        ∙ ap (λ r. read_behind parts_by r (byte ∷ rest)) inside
        ∙ read_refused parts_by byte rest last then refused

pub breaks_at_end : (bytes : List ℕ) (last : Frame) (then : Parts) → bytes ≢ [] → reads bytes ≡ Inside last then → BreaksOff bytes (length bytes)
breaks_at_end bytes last then some inside = record {
  some = some;
  none = inside_none bytes last then inside;
  longest = record {
    within = omega arith;
    prefix = subst (λ w. IsViablePrefix w) (sym (take_all (length bytes) bytes (omega arith))) (read_prefix bytes last then inside);
    longest = λ more above within begins. absurd (omega arith);
  };
}

pub breaks_off : (bytes : List ℕ) → bytes ≢ [] → NoneStandsFirst bytes → (place : ℕ) × BreaksOff bytes place
breaks_off bytes some none =
    elim (reads bytes) as (λ r. reads bytes ≡ r → (place : ℕ) × BreaksOff bytes place) [
      | Inside last then ↦ λ e. (length bytes, breaks_at_end bytes last then some e)
      | Gives given rest ↦ λ e. absurd (none given.whole rest (read_first bytes given rest e))
      | Refuses left ↦ λ e.
          let at = refuses_at bytes left fresh_frame no_parts e in
          (length at.prefix, subst (λ w. BreaksOff w (length at.prefix)) at.is (breaks_at at.prefix at.byte at.others at.last at.parts at.inside at.refused))
    ] refl

-- ---- one place, one decomposition

not_longer : (bytes : List ℕ) (one other : ℕ) → IsLongestPrefix bytes one → IsLongestPrefix bytes other → one < other → ⊥
not_longer bytes one other h i below = h.longest other below i.within i.prefix

pub one_place : (bytes : List ℕ) (one other : ℕ) → IsLongestPrefix bytes one → IsLongestPrefix bytes other → one ≡ other
one_place bytes one other h i =
    elim (cases_lt one other) [
      | inl below ↦ absurd (not_longer bytes one other h i below)
      | inr above ↦ elim (cases_lt other one) [
        | inl below ↦ absurd (not_longer bytes other one i h below)
        | inr beneath ↦ omega arith
      ]
    ]

pub one_decomposition : (requests others : List (List (List ℕ))) (input rest left : List ℕ) → Decomposes requests input rest → Decomposes others input left
    → (requests ≡ others) × (rest ≡ left)
one_decomposition [] [] input rest left h i = (refl, sym h.0 ∙ i.0)
one_decomposition [] (arguments ∷ others) input rest left h i =
    absurd (h.1 arguments i.0 (subst (λ w. StandsFirst w arguments i.0) h.0 i.1))
one_decomposition (arguments ∷ requests) [] input rest left h i =
    absurd (i.1 arguments h.0 (subst (λ w. StandsFirst w arguments h.0) i.0 h.1))
one_decomposition (arguments ∷ requests) (its ∷ others) input rest left h i =
    let first = one_stands_first input arguments its h.0 i.0 h.1 i.1 in
    let more = one_decomposition requests others h.0 rest left h.2 (subst (λ w. Decomposes others w left) (sym first.1) i.2) in
    (cc (first.0, more.0), more.1)

-- a request takes bytes
request_takes : (spelled : List ℕ) (arguments : List (List ℕ)) → IsRequest spelled arguments → 1 ≤ length spelled
request_takes spelled arguments (inl array) = omega (arith, ap length array.is)
request_takes spelled arguments (inr empty) = empty_takes spelled empty.1
  where
    empty_takes : (spelled : List ℕ) → IsEmpty spelled → 1 ≤ length spelled
    empty_takes spelled (inl feed) = omega (arith, ap length feed)
    empty_takes spelled (inr (inl line)) = omega (arith, ap length line)
    empty_takes spelled (inr (inr null)) = omega (arith, ap length null)

pub request_some : (bytes : List ℕ) (arguments : List (List ℕ)) (rest : List ℕ) → StandsFirst bytes arguments rest → length rest < length bytes
request_some bytes arguments rest h =
    omega (arith, ap length h.is, length-append h.spelled rest, request_takes h.spelled arguments h.request)

-- the input is requests and a rest
abbrev pub Decomposed : List ℕ → Type 0
Decomposed input = (requests : List (List (List ℕ))) × (rest : List ℕ) × Decomposes requests input rest

-- where each shorter input is
decompose_by : (input : List ℕ) → ((rest : List ℕ) → length rest < length input → Decomposed rest) → Decomposed input
decompose_by input shorter =
    elim (reads input) as (λ r. reads input ≡ r → Decomposed input) [
      | Inside last then ↦ λ e. ([], input, (refl, inside_none input last then e))
      | Gives given rest ↦ λ e.
          let first = read_first input given rest e in
          let more = shorter rest (request_some input given.whole rest first) in
          (given.whole ∷ more.0, more.1, (rest, first, more.2))
      | Refuses left ↦ λ e. ([], input, (refl, refuses_none input left e))
    ] refl

decompose : (most : ℕ) (input : List ℕ) → length input ≤ most → Decomposed input
decompose zero input h = decompose_by input (λ rest below. absurd (omega arith))
decompose (suc most) input h = decompose_by input (λ rest below. decompose most rest (omega arith))

pub decomposition : (input : List ℕ) → Decomposed input
decomposition input = decompose (length input) input (omega arith)

-- of two requests at the prefix of the same bytes, neither is longer
pub one_request : (one other : List ℕ) (its others : List (List ℕ)) (rest left : List ℕ) → IsRequest one its → IsRequest other others → one ++ rest ≡ other ++ left
    → (one ≡ other) × (its ≡ others) × (rest ≡ left)
one_request one other its others rest left h i same =
    let first = one_stands_first (one ++ rest) its others rest left (record { spelled = one; request = h; is = refl }) (record { spelled = other; request = i; is = sym same }) in
    let len : length one ≡ length other =
    omega (arith, ap length same, ap length first.1, length-append one rest, length-append other left) in
    let spelled = sym (take-append_seam one rest) ∙ ap (λ n. take n (one ++ rest)) len ∙ ap (λ w. take (length other) w) same ∙ take-append_seam other left in
    (spelled, first.0, first.1)

pub some_ahead : (bytes : List ℕ) (arguments : List (List ℕ)) (rest : List ℕ) → StandsFirst bytes arguments rest → bytes ≢ []
some_ahead bytes arguments rest h = λ none. absurd (omega (arith, request_some bytes arguments rest h, ap length none))

-- bytes behind others are counted as all of them are
pub place_more : (place one other : ℕ) → place_behind (place_behind place one) other ≡ place_behind place (one + other)
place_more place one other = omega arith
