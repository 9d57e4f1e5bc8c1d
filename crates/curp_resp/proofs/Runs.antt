-- What bytes come to, read one by one, and what a request says of them.
use Rattle.std.proofs.Common.{◌≡◌, ℕ, List, [], ◌∷◌, ◌++◌, refl, ap, sym, ◌∙◌}
use Rattle.curp_resp.specs.Frames.{fresh_frame, frame_step}
use Rattle.curp_resp.specs.Input.{StandsFirst}
use Rattle.curp_resp.specs.Kept.{Parts, no_parts, parts_by}
use Rattle.curp_resp.specs.Language.{IsRequest, IsViablePrefix}
use Rattle.curp_resp.specs.Read.{Read, Inside, Gives, Refuses, read_by}
use Rattle.curp_resp.specs.declared.frame.Effect.{Effect}
use Rattle.curp_resp.specs.declared.frame.Frame.{Frame}
use Rattle.curp_resp.specs.declared.frame.Step.TheVariants as step
use Rattle.curp_resp.proofs.Completes.{Completes, CompletesBehind, completes_request, forth, none_completes, request_completes}
use Rattle.curp_resp.proofs.Backwards.{Completable, SomeCompletion, back, completable, fresh_completion}

-- ---- one byte

module _ {A : Type 0} (keep : Effect → ℕ → A → A) (byte : ℕ) (bytes : List ℕ) (frame : Frame) (kept : A) where
  pub read_on : (next : Frame) (does : Effect) → frame_step frame byte ≡ step.On next does → read_by keep (byte ∷ bytes) frame kept ≡ read_by keep bytes next (keep does byte kept)
  read_on next does e = rw (e, read_by) refl

  pub read_whole : (does : Effect) → frame_step frame byte ≡ step.Whole does → read_by keep (byte ∷ bytes) frame kept ≡ Gives (keep does byte kept) bytes
  read_whole does e = rw (e, read_by) refl

  pub read_refused : frame_step frame byte ≡ step.Refused → read_by keep (byte ∷ bytes) frame kept ≡ Refuses (byte ∷ bytes)
  read_refused e = rw (e, read_by) refl

-- ---- bytes behind others

-- what bytes come to behind those that came to this
abbrev pub read_behind : {A : Type 0} → (Effect → ℕ → A → A) → Read A → List ℕ → Read A
read_behind keep (Inside frame kept) bytes = read_by keep bytes frame kept
read_behind keep (Gives kept rest) bytes = Gives kept (rest ++ bytes)
read_behind keep (Refuses rest) bytes = Refuses (rest ++ bytes)

pub read_append : {A : Type 0} (keep : Effect → ℕ → A → A) (prefix bytes : List ℕ) (frame : Frame) (kept : A)
    → read_by keep (prefix ++ bytes) frame kept ≡ read_behind keep (read_by keep prefix frame kept) bytes
read_append keep [] bytes frame kept = refl
read_append keep (byte ∷ prefix) bytes frame kept =
    elim (frame_step frame byte) as (λ s. frame_step frame byte ≡ s → read_by keep (byte ∷ prefix ++ bytes) frame kept ≡ read_behind keep (read_by keep (byte ∷ prefix) frame kept) bytes) [
      | step.On next does ↦ λ e.
          read_on keep byte (prefix ++ bytes) frame kept next does e
          ∙ read_append keep prefix bytes next (keep does byte kept)
          ∙ ap (λ r. read_behind keep r bytes) (sym (read_on keep byte prefix frame kept next does e))
      | step.Whole does ↦ λ e. read_whole keep byte (prefix ++ bytes) frame kept does e ∙ ap (λ r. read_behind keep r bytes) (sym (read_whole keep byte prefix frame kept does e))
      | step.Refused ↦ λ e. read_refused keep byte (prefix ++ bytes) frame kept e ∙ ap (λ r. read_behind keep r bytes) (sym (read_refused keep byte prefix frame kept e))
    ] refl

-- ---- what completes a request is read to its end

-- the bytes come to a whole request with these arguments, and the rest
pub record GivesWhole (bytes : List ℕ) (frame : Frame) (parts : Parts) (arguments : List (List ℕ)) (rest : List ℕ) : Type 0 where
  pub given : Parts
  pub read : read_by parts_by bytes frame parts ≡ Gives given rest
  pub whole : given.whole ≡ arguments

pub completes_read : (spelled rest : List ℕ) (frame : Frame) (parts : Parts) (arguments : List (List ℕ))
    → Completes frame.stage frame.behind parts arguments spelled → GivesWhole (spelled ++ rest) frame parts arguments rest
completes_read [] rest frame parts arguments h = absurd (none_completes frame.stage frame.behind parts arguments h)
completes_read (byte ∷ spelled) rest frame parts arguments h =
    elim (frame_step frame byte) as (λ s. frame_step frame byte ≡ s → CompletesBehind s parts byte arguments spelled → GivesWhole (byte ∷ spelled ++ rest) frame parts arguments rest) [
      | step.On next does ↦ λ e c.
          let more = completes_read spelled rest next (parts_by does byte parts) arguments c in
          record { given = more.given; read = read_on parts_by byte (spelled ++ rest) frame parts next does e ∙ more.read; whole = more.whole }
      | step.Whole does ↦ λ e c. record {
        given = parts_by does byte parts;
        read = read_whole parts_by byte (spelled ++ rest) frame parts does e ∙ ap (λ w. Gives (parts_by does byte parts) (w ++ rest)) c.0;
        whole = c.1;
      }
      | step.Refused ↦ λ e c. absurd c
    ] refl (forth frame.stage frame.behind parts byte arguments spelled h)

-- ---- and what is read to its end completes a request

-- the first bytes complete a request with these arguments, and the rest stands behind them
pub record CompletesFirst (bytes : List ℕ) (frame : Frame) (parts : Parts) (arguments : List (List ℕ)) (rest : List ℕ) : Type 0 where
  pub spelled : List ℕ
  pub completes : Completes frame.stage frame.behind parts arguments spelled
  pub is : spelled ++ rest ≡ bytes

pub read_completes : (bytes : List ℕ) (frame : Frame) (parts given : Parts) (rest : List ℕ) → read_by parts_by bytes frame parts ≡ Gives given rest
    → CompletesFirst bytes frame parts given.whole rest
read_completes [] frame parts given rest e = absurd cc
read_completes (byte ∷ bytes) frame parts given rest h =
    elim (frame_step frame byte) as (λ s. frame_step frame byte ≡ s → CompletesFirst (byte ∷ bytes) frame parts given.whole rest) [
      | step.On next does ↦ λ e.
          let more = read_completes bytes next (parts_by does byte parts) given rest (sym (read_on parts_by byte bytes frame parts next does e) ∙ h) in
          record {
            spelled = byte ∷ more.spelled;
            completes = back frame.stage frame.behind parts byte given.whole more.spelled (rw e more.completes);
            is = ap (λ w. byte ∷ w) more.is;
          }
      | step.Whole does ↦ λ e.
          let whole : Gives (parts_by does byte parts) bytes ≡ Gives given rest = sym (read_whole parts_by byte bytes frame parts does e) ∙ h in
          let same : parts_by does byte parts ≡ given = cc in
          record {
            spelled = byte ∷ [];
            completes = back frame.stage frame.behind parts byte given.whole [] (rw e (refl, ap (λ p. p.whole) same));
            is = cc;
          }
      | step.Refused ↦ λ e.
          let none : Refuses (byte ∷ bytes) ≡ Gives given rest = sym (read_refused parts_by byte bytes frame parts e) ∙ h in
          absurd cc
    ] refl

-- ---- bytes that end inside a request begin one

pub inside_completes : (bytes tail : List ℕ) (frame last : Frame) (parts then : Parts) (arguments : List (List ℕ))
    → read_by parts_by bytes frame parts ≡ Inside last then → Completes last.stage last.behind then arguments tail
    → Completes frame.stage frame.behind parts arguments (bytes ++ tail)
inside_completes [] tail frame last parts then arguments h c =
    let stands : Inside frame parts ≡ Inside last then = h in
    let same : frame ≡ last = cc in
    let also : parts ≡ then = cc in
    rw (same, also) c
inside_completes (byte ∷ bytes) tail frame last parts then arguments h c =
    elim (frame_step frame byte) as (λ s. frame_step frame byte ≡ s → Completes frame.stage frame.behind parts arguments (byte ∷ bytes ++ tail)) [
      | step.On next does ↦ λ e.
          back frame.stage frame.behind parts byte arguments (bytes ++ tail)
          (rw e (inside_completes bytes tail next last (parts_by does byte parts) then arguments (sym (read_on parts_by byte bytes frame parts next does e) ∙ h) c))
      | step.Whole does ↦ λ e.
          let none : Gives (parts_by does byte parts) bytes ≡ Inside last then = sym (read_whole parts_by byte bytes frame parts does e) ∙ h in
          absurd cc
      | step.Refused ↦ λ e.
          let none : Refuses (byte ∷ bytes) ≡ Inside last then = sym (read_refused parts_by byte bytes frame parts e) ∙ h in
          absurd cc
    ] refl

pub inside_completable : (bytes : List ℕ) (frame last : Frame) (parts then : Parts) → ((p : Parts) → SomeCompletion frame.stage frame.behind p)
    → read_by parts_by bytes frame parts ≡ Inside last then → SomeCompletion last.stage last.behind then
inside_completable [] frame last parts then some h =
    let stands : Inside frame parts ≡ Inside last then = h in
    let same : frame ≡ last = cc in
    rw (sym same) (some then)
inside_completable (byte ∷ bytes) frame last parts then some h =
    elim (frame_step frame byte) as (λ s. frame_step frame byte ≡ s → Completable s → SomeCompletion last.stage last.behind then) [
      | step.On next does ↦ λ e more. inside_completable bytes next last (parts_by does byte parts) then more (sym (read_on parts_by byte bytes frame parts next does e) ∙ h)
      | step.Whole does ↦ λ e more.
          let none : Gives (parts_by does byte parts) bytes ≡ Inside last then = sym (read_whole parts_by byte bytes frame parts does e) ∙ h in
          absurd cc
      | step.Refused ↦ λ e more.
          let none : Refuses (byte ∷ bytes) ≡ Inside last then = sym (read_refused parts_by byte bytes frame parts e) ∙ h in
          absurd cc
    ] refl (completable frame.stage frame.behind byte)

-- ---- from the beginning of a request

pub request_read : (spelled rest : List ℕ) (arguments : List (List ℕ)) → IsRequest spelled arguments → GivesWhole (spelled ++ rest) fresh_frame no_parts arguments rest
request_read spelled rest arguments h = completes_read spelled rest fresh_frame no_parts arguments (completes_request spelled arguments h)

pub read_first : (bytes : List ℕ) (given : Parts) (rest : List ℕ) → read_by parts_by bytes fresh_frame no_parts ≡ Gives given rest → StandsFirst bytes given.whole rest
read_first bytes given rest h =
    let first = read_completes bytes fresh_frame no_parts given rest h in
    record { spelled = first.spelled; request = request_completes first.spelled given.whole first.completes; is = first.is }

pub read_prefix : (bytes : List ℕ) (last : Frame) (then : Parts) → read_by parts_by bytes fresh_frame no_parts ≡ Inside last then → IsViablePrefix bytes
read_prefix bytes last then h =
    let some = inside_completable bytes fresh_frame last no_parts then (fresh_completion 0) h in
    record {
      rest = some.bytes;
      arguments = some.arguments;
      request = request_completes (bytes ++ some.bytes) some.arguments (inside_completes bytes some.bytes fresh_frame last no_parts then some.arguments h some.completes);
    }
