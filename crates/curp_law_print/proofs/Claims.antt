-- The lines of a history and of an order, read.
use Rattle.std.proofs.Common.{◌≡◌, ◌≤◌, ◌<◌, ◌+◌, ℕ, List, [], ◌∷◌, ◌++◌, length, Bool, true, false, nat_lt, refl, ap, sym, ◌∙◌, subst, arith, append_assoc, append-nil, length-append}
use Rattle.std.proofs.lemmas.Bool.Decides.{nat_tests}
use Rattle.serde_json.specs.Written.{compact_text}
use Rattle.curp_base.specs.Words.{At, Each}
use Rattle.curp_base.proofs.Lists.{at_append, at_within, prefix_back, prefix_push}
use Rattle.curp_io.specs.Text.{lines_of}
use Rattle.curp_order.specs.Order.{IsHistory, Asked}
use Rattle.curp_order.specs.declared.Event as order
use Rattle.curp_script.specs.EventTexts.{claim_lines, event_data, event_line, history_lines, order_lines}
use Rattle.curp_base.specs.Limits.{line_limit}
use Rattle.curp_script.specs.Script.{Whole}
use Rattle.curp_script.specs.declared.event.EventLine.{EventLine}
use Rattle.curp_script.specs.declared.event.EventLine.TheVariants.{Event, Place}
use Rattle.curp_check.proofs.Stages.{no_history}
use Rattle.curp_check.specs.Claim.{ClaimText, Claimed, claim_from, claim_in, claim_limit, may_follow, nothing_claimed, read_on, with_line}
use Rattle.curp_law_print.proofs.Events.{IsEventLine, is_event_line}
use Rattle.curp_law_print.proofs.Lines.{line_first, not_below}
use Rattle.curp_law_print.specs.EventRanges.{AskedInRange, EventInRange}

-- one line more
line_read : (n : ℕ) (claim : Claimed) (line : EventLine) (rest : List ℕ) → IsEventLine line → n ≤ claim_limit
    → claim_from n claim (lines_of (event_line line ++ rest)) ≡ read_on n claim (λ more. claim_from (n + 1) more (lines_of rest)) (with_line claim line)
line_read n claim line rest is within =
    let text = compact_text (event_data line) in
    ap (claim_from n claim) (line_first text rest is.all_shown)
    ∙ rw (not_below line_limit (length text) is.fits, not_below claim_limit n within, is.read) refl

-- a prefix of a history is one
prefix_of_history : (xs ys : List order.Event) → IsHistory (xs ++ ys) → IsHistory xs
prefix_of_history xs ys h = record {
  invoked_once = λ i j id c d at_i at_j. h.invoked_once i j id c d (at_append xs ys i _ at_i) (at_append xs ys j _ at_j);
  completed_once = λ i j id a b at_i at_j. h.completed_once i j id a b (at_append xs ys i _ at_i) (at_append xs ys j _ at_j);
  after_invoked = λ j id a at.
      let was = h.after_invoked j id a (at_append xs ys j _ at) in
      let within = at_within xs j _ at in
      (was.0, was.1, was.2, prefix_back (prefix_push xs ys) was.0 _ (omega (arith, within, was.2)) was.3);
}

-- what comes next in a history may follow
next_may : (done : List order.Event) (e : order.Event) (rest : List order.Event) → IsHistory (done ++ e ∷ rest) → may_follow done e ≡ true
next_may done e rest h = by (may_follow done e) refl
  where
    by : (b : Bool) → may_follow done e ≡ b → b ≡ true
    by true is = refl
    by false is =
        absurd (no_history done e is (prefix_of_history (done ++ e ∷ []) rest (subst (λ (es : List order.Event). IsHistory es) (sym (append_assoc done (e ∷ []) rest)) h)))

history_read : (n : ℕ) (done rest : List order.Event) (more : List ℕ) → Each EventInRange rest → IsHistory (done ++ rest) → n + length rest ≤ claim_limit + 1
    → claim_from n (record { events = done; order = [] }) (lines_of (history_lines rest ++ more))
    ≡ claim_from (n + length rest) (record { events = done ++ rest; order = [] }) (lines_of more)
history_read n done [] more each h fits = let none : n + 0 ≡ n = omega arith in rw (append-nil done, none) refl
history_read n done (e ∷ rest) more each h fits =
    let claim : Claimed = record { events = done; order = [] } in
    let counted : (n + 1) + length rest ≡ n + length (e ∷ rest) = omega arith in
    let goes_on : List ℕ → ClaimText = λ text. claim_from n claim (lines_of text) in
    ap goes_on (append_assoc (event_line (Event e)) (history_lines rest) more)
    ∙ line_read n claim (Event e) (history_lines rest ++ more) (is_event_line (Event e) each.0) (omega (arith, fits))
    ∙ rw (next_may done e rest h) (history_read (n + 1) (done ++ e ∷ []) rest more each.1 (subst (λ (es : List order.Event). IsHistory es) (sym (append_assoc done (e ∷ []) rest)) h) (omega (arith, fits))
    ∙ rw (append_assoc done (e ∷ []) rest, counted) refl)

order_read : (n : ℕ) (events : List order.Event) (done rest : List Asked) → Each AskedInRange rest → n + length rest ≤ claim_limit + 1
    → claim_from n (record { events = events; order = done }) (lines_of (order_lines rest))
    ≡ record { claim = record { events = events; order = done ++ rest }; ending = Whole }
order_read n events done [] each fits = rw (append-nil done) refl
order_read n events done (x ∷ rest) each fits =
    line_read n (record { events = events; order = done }) (Place x.0 x.1) (order_lines rest) (is_event_line (Place x.0 x.1) each.0) (omega (arith, fits))
    ∙ order_read (n + 1) events (done ++ x ∷ []) rest each.1 (omega (arith, fits))
    ∙ rw (append_assoc done (x ∷ []) rest) refl

-- a history and an order whose lines are read one by one are read whole
pub claim_read : (events : List order.Event) (asked : List Asked) → Each EventInRange events → Each AskedInRange asked → IsHistory events
    → length events + length asked ≤ claim_limit
    → claim_in (claim_lines events asked) ≡ record { claim = record { events = events; order = asked }; ending = Whole }
claim_read events asked of_events of_order h fits =
    history_read 1 [] events (order_lines asked) of_events h (omega (arith, fits))
    ∙ order_read (1 + length events) events [] asked of_order (omega (arith, fits))
