-- What was answered of the bytes that were taken.
use Rattle.std.proofs.Common.{◌≡◌, ◌≢◌, ◌+◌, ℕ, List, [], ◌∷◌, ◌++◌, map, Option, Some, None, Ok, refl, ap, sym, ◌∙◌, append_assoc, append-nil}
use Rattle.std.proofs.lemmas.List.{map-append}
use Rattle.curp_law_served.specs.Served.{Limit, Served, begun}
use Rattle.curp_resp.specs.Input.{Decomposes, NoneStandsFirst, StandsFirst}
use Rattle.curp_resp.specs.Language.{IsRequest}
use Rattle.curp_resp.specs.Meaning.{meaning}
use Rattle.curp_resp.specs.Next.{GivesRequest, LosesPrefix}
use Rattle.curp_resp.specs.declared.asked.Asked.{Asked}
use Rattle.curp_session.specs.Answering.{HasAnswered, ended_by, so_far}
use Rattle.curp_session.specs.Session.{HoldsAnswers, Session, fresh, most_requests, reads, reads_all, session, unless_stopped}
use Rattle.curp_words.specs.declared.task.RespPlan.{RespPlan}
use Rattle.curp_session.proofs.Standing.{counted_more, free_by, none_first}
use Rattle.curp_session.proofs.Texts.{reads_answers, text_ended}

-- ---- requests one behind the other

-- bytes behind a request stand behind all that it begins
first_of_more : (bytes more : List ℕ) (arguments : List (List ℕ)) (rest : List ℕ) → StandsFirst bytes arguments rest
    → StandsFirst (bytes ++ more) arguments (rest ++ more)
first_of_more bytes more arguments rest h = record {
  spelled = h.spelled;
  request = h.request;
  is = sym (append_assoc h.spelled rest more) ∙ ap (λ (b : List ℕ). b ++ more) h.is;
}

-- requests, and behind them what begins with none
rest_behind : (requests : List (List (List ℕ))) (read rest : List ℕ) → Decomposes requests read [] → NoneStandsFirst rest
    → Decomposes requests (read ++ rest) rest
rest_behind [] read rest d none = (ap (λ (b : List ℕ). b ++ rest) d.0, none)
rest_behind (arguments ∷ more) read rest d none =
    (d.0 ++ rest, first_of_more read rest arguments d.0 d.1, rest_behind more d.0 rest d.2 none)

-- one more behind requests
one_behind : (requests : List (List (List ℕ))) (read spelled : List ℕ) (arguments : List (List ℕ)) → Decomposes requests read []
    → IsRequest spelled arguments → Decomposes (requests ++ arguments ∷ []) (read ++ spelled) []
one_behind [] read spelled arguments d request =
    ([], record { spelled = spelled; request = request; is = append-nil spelled ∙ sym (ap (λ (b : List ℕ). b ++ spelled) d.0) }, (refl, none_first [] refl))
one_behind (its ∷ more) read spelled arguments d request =
    (d.0 ++ spelled, first_of_more read spelled its d.0 d.1, one_behind more d.0 spelled arguments d.2 request)

-- ---- before any

pub none_answered : (plan : RespPlan) (input before held : List ℕ) → held ≡ before ++ so_far plan.output plan.f (fresh plan.f)
    → HasAnswered plan input before held (begun plan.f) 0 input
none_answered plan input before held wrote = record {
  requests = [];
  read = [];
  decomposes = (refl, none_first [] refl);
  left = refl;
  at = record { served = refl; counted = refl; free = refl };
  wrote = wrote;
}

-- ---- the session of one more

last_alone : (every : ℕ) (k : Session) (stopped : Option Limit) → unless_stopped stopped k (reads_all every []) ≡ k
last_alone every k None = refl
last_alone every k (Some why) = refl

reads_last : (every : ℕ) (requests : List Asked) (last : Asked) (k : Session) → (reads_all every requests k).served.stopped ≡ None
    → reads_all every (requests ++ last ∷ []) k ≡ reads every last (reads_all every requests k)
reads_last every [] last k free = last_alone every (reads every last k) (reads every last k).served.stopped
reads_last every (first ∷ more) last k free =
    by (reads every first k).served.stopped refl free (reads_last every more last (reads every first k))
  where
    by : (stopped : Option Limit) → (reads every first k).served.stopped ≡ stopped
        → (unless_stopped stopped (reads every first k) (reads_all every more)).served.stopped ≡ None
        → ((reads_all every more (reads every first k)).served.stopped ≡ None
        → reads_all every (more ++ last ∷ []) (reads every first k) ≡ reads every last (reads_all every more (reads every first k)))
        → unless_stopped stopped (reads every first k) (reads_all every (more ++ last ∷ []))
        ≡ reads every last (unless_stopped stopped (reads every first k) (reads_all every more))
    by None is free further = further free
    by (Some why) is free further = let none : Some why ≡ None = sym is ∙ free in absurd cc

session_more : (plan : RespPlan) (requests : List (List (List ℕ))) (arguments : List (List ℕ)) → (session plan requests).served.stopped ≡ None
    → session plan (requests ++ arguments ∷ []) ≡ reads plan.every (meaning arguments) (session plan requests)
session_more plan requests arguments free =
    ap (λ (all : List Asked). reads_all plan.every all (fresh plan.f)) (map-append meaning requests (arguments ∷ []))
    ∙ reads_last plan.every (map meaning requests) (meaning arguments) (fresh plan.f) free

-- ---- what was answered

-- one request more
pub answered_more : (plan : RespPlan) (input before held new : List ℕ) (old state : Served) (count : ℕ) (bytes rest : List ℕ) (passed then : ℕ) (given : Asked)
    → (h : HasAnswered plan input before held old count bytes) → GivesRequest bytes passed given rest then
    → let next = reads plan.every given (session plan h.requests) in
    count ≢ most_requests → Ok tt ≡ ended_by next.served.stopped → state ≡ next.served
    → new ≡ before ++ so_far plan.output plan.f next → HasAnswered plan input before new state (count + 1) rest
answered_more plan input before held new old state count bytes rest passed then given h g room limit is wrote =
    let now = session plan h.requests in
    let next = reads plan.every given now in
    let whole : next ≡ session plan (h.requests ++ g.arguments ∷ []) =
    ap (λ (a : Asked). reads plan.every a now) g.meant ∙ sym (session_more plan h.requests g.arguments h.at.free) in
    let answers = reads_answers plan.every given now (λ e. room (sym h.at.counted ∙ e)) in
    record {
      requests = h.requests ++ g.arguments ∷ [];
      read = h.read ++ g.spelled;
      decomposes = one_behind h.requests h.read g.spelled g.arguments h.decomposes g.request;
      left = append_assoc h.read g.spelled rest ∙ ap (λ (b : List ℕ). h.read ++ b) g.left ∙ h.left;
      at = record {
        served = ap (λ (k : Session). k.served) (sym whole) ∙ sym is;
        counted = ap (λ (k : Session). k.requests) (sym whole) ∙ ap (λ (k : Session). k.requests) answers ∙ counted_more plan.every given now
            ∙ ap (λ (n : ℕ). n + 1) h.at.counted;
        free = ap (λ (k : Session). k.served.stopped) (sym whole) ∙ free_by next.served.stopped limit;
      };
      wrote = wrote ∙ ap (λ (k : Session). before ++ so_far plan.output plan.f k) whole;
    }

-- the source failed, and what was taken behind the requests is lost
pub answered_lost : (plan : RespPlan) (input before held new : List ℕ) (state : Served) (count : ℕ) (bytes ahead left : List ℕ)
    → HasAnswered plan input before held state count bytes → LosesPrefix bytes (ahead ++ left) → ahead ≡ [] → new ≡ held
    → HoldsAnswers plan input left before new
answered_lost plan input before held new state count bytes ahead left h lost none same = record {
  taken = h.read ++ lost.lost;
  requests = h.requests;
  rest = lost.lost;
  is = sym h.left ∙ ap (λ (b : List ℕ). h.read ++ b) (sym lost.left ∙ ap (λ (b : List ℕ). lost.lost ++ (b ++ left)) none)
      ∙ sym (append_assoc h.read lost.lost left);
  decomposes = rest_behind h.requests h.read lost.lost h.decomposes lost.none;
  begins = lost.prefix;
  held = same ∙ h.wrote
      ∙ ap (λ (t : List ℕ). before ++ t) (sym (text_ended plan.output plan.f (session plan h.requests) [] h.at.free refl));
}
