-- The lines of a history and of an order, written one by one.
use Rattle.std.proofs.Common.{◌≡◌, ◌≤◌, ◌<◌, ◌+◌, ◌∙◌, ℕ, List, [], ◌∷◌, ◌++◌, get_or, length, drop, take, Result, Ok, Err, OnOk, refl, ap, sym, arith}
use Rattle.std.proofs.lemmas.List.{drop_all}
use Rattle.curp_base.specs.Words.{Each}
use Rattle.curp_base.proofs.Lists.{Each-map, drop_index}
use Rattle.curp_check.proofs.Items.{next_too}
use Rattle.curp_check.specs.Claim.{IsClaimOfOrder, claim_in, claim_limit}
use Rattle.curp_cmd.specs.Store.{nothing}
use Rattle.curp_cmd.specs.declared.command.Answer.{Answer}
use Rattle.curp_cmd.specs.declared.command.Command.{Command}
use Rattle.curp_cmd.specs.declared.command.RequestId.{RequestId}
use Rattle.curp_law_print.specs.EventRanges.{AskedInRange, EventInRange}
use Rattle.curp_msg.specs.declared.script.Header.{Header}
use Rattle.curp_model.specs.World.{World, answered_order, opening, order, with_answers}
use Rattle.curp_order.proofs.Laws.{length-answers}
use Rattle.curp_order.specs.Order.{IsHistory, IsOrder, answers, Asked}
use Rattle.curp_order.specs.declared.Event as seen
use Rattle.curp_play.specs.Play.{asked_of}
use Rattle.curp_script.specs.EventTexts.{claim_lines, event_line, history_lines, order_lines}
use Rattle.curp_msg.specs.Limits.{step_limit}
use Rattle.curp_script.specs.Script.{Whole}
use Rattle.curp_script.specs.declared.event.EventLine.TheVariants.{Event, Place}

-- ---- the order without its answers

asked-with_answers : (asked : List Asked) (given : List Answer) → length given ≡ length asked → asked_of (with_answers asked given) ≡ asked
asked-with_answers [] given same = refl
asked-with_answers (x ∷ asked) [] same = absurd (omega (arith, same))
asked-with_answers (x ∷ asked) (a ∷ given) same = ap (λ (xs : List Asked). x ∷ xs) (asked-with_answers asked given (omega (arith, same)))

pub asked_of_order : (w : World) → asked_of (answered_order w) ≡ order w
asked_of_order w = asked-with_answers (order w) (answers (order w)) (length-answers nothing (order w))

-- ---- what is left to write

pub next_event : (events : List seen.Event) (k : ℕ) (e : seen.Event) → k < length events → e ≡ get_or events k e
    → history_lines (drop k events) ≡ event_line (Event e) ++ history_lines (drop (k + 1) events)
next_event events k e within here =
    ap history_lines (drop_index events k e within) ∙ ap (λ (x : seen.Event). event_line (Event x) ++ history_lines (drop (k + 1) events)) (sym here)

pub next_place : (asked : List (RequestId × Command × Answer)) (k : ℕ) (x : RequestId × Command × Answer) → k < length asked → x ≡ get_or asked k x
    → order_lines (asked_of (drop k asked)) ≡ event_line (Place x.0 x.1) ++ order_lines (asked_of (drop (k + 1) asked))
next_place asked k x within here =
    ap (λ (xs : List (RequestId × Command × Answer)). order_lines (asked_of xs)) (drop_index asked k x within)
    ∙ ap (λ (y : RequestId × Command × Answer). event_line (Place y.0 y.1) ++ order_lines (asked_of (drop (k + 1) asked))) (sym here)

pub no_event_left : (events : List seen.Event) (k : ℕ) → length events ≤ k → history_lines (drop k events) ≡ []
no_event_left events k all = ap history_lines (drop_all k events all)

pub no_place_left : (asked : List (RequestId × Command × Answer)) (k : ℕ) → length asked ≤ k → order_lines (asked_of (drop k asked)) ≡ []
no_place_left asked k all = ap (λ (xs : List (RequestId × Command × Answer)). order_lines (asked_of xs)) (drop_all k asked all)

-- ---- what is read back

-- what holds where there is a value leads to what follows from it
pub on_ok_then : {A E P Q : Type 0} (r : Result A E) → (P → Q) → OnOk r P → OnOk r Q
on_ok_then (Ok _) f p = f p
on_ok_then (Err _) f p = tt

pub claim_of_order : (w : World) → Each EventInRange w.history → Each AskedInRange (order w) → IsHistory w.history → IsOrder w.history (order w)
    → length w.history ≤ step_limit → length (order w) ≤ length w.history
    → ((events : List seen.Event) (asked : List Asked) → Each EventInRange events → Each AskedInRange asked → IsHistory events → length events + length asked ≤ claim_limit
    → claim_in (claim_lines events asked) ≡ record { claim = record { events = events; order = asked }; ending = Whole })
    → IsClaimOfOrder (claim_lines w.history (order w))
claim_of_order w of_events of_order history ordered few short read =
    let back = read w.history (order w) of_events of_order history (omega (arith, few, short)) in
    record {
      whole = ap (λ t. t.ending) back;
      is_order = rw back ordered;
    }

pub next_place_too : (asked : List (RequestId × Command × Answer)) (k : ℕ) (x : RequestId × Command × Answer) → k < length asked → x ≡ get_or asked k x
    → Each AskedInRange (asked_of (take k asked)) → AskedInRange (x.0, x.1) → Each AskedInRange (asked_of (take (k + 1) asked))
next_place_too asked k x within here so_far next =
    let P : RequestId × Command × Answer → Type 0 = λ y. AskedInRange (y.0, y.1) in
    Each-map AskedInRange (λ (y : RequestId × Command × Answer). (y.0, y.1)) (take (k + 1) asked)
    (next_too P asked k x within here (unmapped (take k asked) so_far) next)
  where
    unmapped : (xs : List (RequestId × Command × Answer)) → Each AskedInRange (asked_of xs) → Each (λ (y : RequestId × Command × Answer). AskedInRange (y.0, y.1)) xs
    unmapped [] each = tt
    unmapped (y ∷ ys) each = (each.0, unmapped ys each.1)

-- before any step clients saw nothing
pub nothing_seen : (h : Header) (w : World) → w ≡ opening h → w.history ≡ []
unfolding opening
nothing_seen h w is = ap (λ (v : World). v.history) is
