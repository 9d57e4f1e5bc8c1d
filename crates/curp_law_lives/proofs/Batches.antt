-- A batch goes on with a run.
use Rattle.std.specs.Prelude.{◌≡◌, ℕ, ◌+◌, ◌==◌, Bool, true, false, List, [], ◌∷◌, ◌++◌, length, refl}
use Rattle.std.proofs.Common.{sym, ◌∙◌, ap, subst, arith, append_assoc, length-append, cond}
use Rattle.std.proofs.lemmas.Bool.{eqb-true}
use Rattle.std.proofs.lemmas.List.{append-nil}
use Rattle.curp_journal.proofs.Replays.{one_more}
use Rattle.curp_journal.specs.Given.{given}
use Rattle.curp_journal.specs.Journal as journal
use Rattle.curp_journal.specs.Journal.{IsJournal, IsReplay, last_stamp, made}
use Rattle.curp_journal.specs.declared.arrived.Arrived.{Arrived}
use Rattle.curp_journal.specs.declared.item.Item.{Item}
use Rattle.curp_msg.specs.Moved.{Moved}
use Rattle.curp_msg.specs.Input.{Input}
use Rattle.curp_durable.proofs.Standings.{after-append, after_taken}
use Rattle.curp_durable.specs.Standing.{Standing, after, answers_of, begun, moved_by, number_of, stepped, taken, taken_one}
use Rattle.curp_durable.specs.declared.stand.Answered.{Answered}
use Rattle.curp_durable.specs.declared.stand.Answered.TheVariants as answered
use Rattle.curp_law_lives.specs.OneRun.{behind, inputs_of, made_answer, made_answers, told_from}

-- ---- one list behind another

inputs-append : (xs ys : List Item) → inputs_of (xs ++ ys) ≡ inputs_of xs ++ inputs_of ys
inputs-append [] ys = refl
inputs-append (x ∷ xs) ys = ap (λ (l : List Arrived). x.input ∷ l) (inputs-append xs ys)

pub made-append : (xs ys : List Answered) → made_answers (xs ++ ys) ≡ made_answers xs ++ made_answers ys
made-append [] ys = refl
made-append (x ∷ xs) ys = ap (λ (l : List Answered). made_answer x ++ l) (made-append xs ys) ∙ sym (append_assoc (made_answer x) (made_answers xs) (made_answers ys))

pub told-append : (xs ys : List Item) (n m : ℕ) → m ≡ n + length xs → told_from n (xs ++ ys) ≡ told_from n xs ++ told_from m ys
told-append [] ys n m e = ap (λ (k : ℕ). told_from k ys) (omega (arith, e))
told-append (x ∷ xs) ys n m e = ap (λ (l : List Answered). answered.Made n x ∷ l) (told-append xs ys (n + 1) m (omega (arith, e)))

refused_by : (below : Bool) (refused : ℕ) → (cond below refused 255 == 0) ≡ true → refused ≡ 0
refused_by true refused is = eqb-true refused 0 is
refused_by false refused is = absurd cc

abbrev standing : {N : Type 0} → N → ℕ → ℕ → Standing N
standing node count last = record { node = node; count = count; last = last }

same_standing : {N : Type 0} (n m : N) (c d l k : ℕ) → n ≡ m → c ≡ d → l ≡ k → standing n c l ≡ standing m d k
same_standing n m c d l k node count last = cc

module _ {N : Type 0} (machine : N → Input → Moved N) (opening : N) where
  -- a node that made these items stands so
  record HasMade (items : List Item) (s : Standing N) : Type 0 where
    replay : IsReplay machine opening items s.node s.last
    count : s.count ≡ length items

  -- the node makes more items, of those that it takes, and stands so
  record GoesOn (items : List Item) (s : Standing N) (took : List Arrived) (told : List Answered) : Type 0 where
    more : List Item
    made_all : HasMade (items ++ more) s
    inputs : inputs_of more ≡ took
    answers : made_answers told ≡ told_from (length items + 1) more

  none_more : (items : List Item) (s : Standing N) (told : List Answered) → HasMade items s → made_answers told ≡ [] → GoesOn items s [] told
  none_more items s told h none = record { more = []; made_all = subst (λ (l : List Item). HasMade l s) (sym (append-nil items)) h; inputs = refl; answers = none }

  one : (takes : Bool) (items : List Item) (s : Standing N) (a : Arrived) → HasMade items s → (takes ≡ true → (machine s.node (given a)).refused ≡ 0)
      → GoesOn items (cond takes (moved_by machine s a) s) (cond takes (a ∷ []) [])
      (cond takes (answered.Made (s.count + 1) (made machine s.node s.last a)) (answered.Refused (number_of machine s a)) ∷ [])
  one true items s a h zero =
      let item = made machine s.node s.last a in
      record {
        more = item ∷ [];
        made_all = record {
          replay = one_more machine opening items s.node s.last a h.replay (zero refl);
          count = omega (arith, h.count, length-append items (item ∷ []));
        };
        inputs = refl;
        answers = ap (λ (n : ℕ). answered.Made (n + 1) item ∷ []) h.count;
      }
  one false items s a h zero = none_more items s (answered.Refused (number_of machine s a) ∷ []) h refl

  both : (items : List Item) (s t : Standing N) (xs ys : List Arrived) (told next : List Answered) (first : GoesOn items s xs told) → GoesOn (items ++ first.more) t ys next → GoesOn items t (xs ++ ys) (told ++ next)
  both items s t xs ys told next first second = record {
    more = first.more ++ second.more;
    made_all = subst (λ (l : List Item). HasMade l t) (append_assoc items first.more second.more) second.made_all;
    inputs = inputs-append first.more second.more ∙ ap (λ (l : List Arrived). l ++ inputs_of second.more) first.inputs ∙ ap (λ (l : List Arrived). xs ++ l) second.inputs;
    answers =
        let place : length (items ++ first.more) + 1 ≡ (length items + 1) + length first.more = omega (arith, length-append items first.more) in
        made-append told next ∙ ap (λ (l : List Answered). l ++ made_answers next) first.answers ∙ ap (λ (l : List Answered). told_from (length items + 1) first.more ++ l) second.answers
        ∙ sym (told-append first.more second.more (length items + 1) (length (items ++ first.more) + 1) place);
  }

  goes_on : (batch : List Arrived) (items : List Item) (s : Standing N) → HasMade items s → GoesOn items (after machine s batch) (taken machine s batch) (answers_of machine s batch)
  goes_on [] items s h = none_more items s [] h refl
  goes_on (a ∷ batch) items s h =
      let takes = number_of machine s a == 0 in
      let first = one takes items s a h (λ is. refused_by _ (machine s.node (given a)).refused is) in
      both items (stepped machine s a) (after machine s (a ∷ batch)) (taken_one machine s a) (taken machine (stepped machine s a) batch) _ (answers_of machine (stepped machine s a) batch) first
      (goes_on batch (items ++ first.more) (stepped machine s a) first.made_all)

  -- ---- a run, and where it leads

  -- the items are a run, and what came with them leads behind them
  pub record IsRun (items : List Item) : Type 0 where
    pub run : IsJournal machine opening items
    pub opens : after machine (begun opening) (inputs_of items) ≡ behind machine opening items

  stands_behind : (items : List Item) (s : Standing N) → HasMade items s → s ≡ behind machine opening items
  stands_behind items s h = same_standing s.node (journal.after machine opening items) s.count (length items) s.last (last_stamp 0 items) h.replay.node_is h.count h.replay.last_is

  is_journal : (items : List Item) (s : Standing N) → HasMade items s → IsJournal machine opening items
  is_journal items s h = record { node_is = refl; items_are = h.replay.items_are; none_refused = h.replay.none_refused; last_is = refl }

  -- what a batch makes of a run
  pub record IsExtended (items : List Item) (s : Standing N) (batch : List Arrived) : Type 0 where
    pub more : List Item
    pub is_run : IsRun (items ++ more)
    pub inputs : inputs_of (items ++ more) ≡ inputs_of items ++ taken machine s batch
    pub stands : after machine s batch ≡ behind machine opening (items ++ more)
    pub answers : made_answers (answers_of machine s batch) ≡ told_from (length items + 1) more

  extended : (items : List Item) (batch : List Arrived) → IsRun items → IsExtended items (behind machine opening items) batch
  extended items batch r =
      let s = behind machine opening items in
      let more = goes_on batch items s (record { replay = r.run; count = refl }) in
      let inputs : inputs_of (items ++ more.more) ≡ inputs_of items ++ taken machine s batch = inputs-append items more.more ∙ ap (λ (l : List Arrived). inputs_of items ++ l) more.inputs in
      let stands : after machine s batch ≡ behind machine opening (items ++ more.more) = stands_behind (items ++ more.more) (after machine s batch) more.made_all in
      record {
        more = more.more;
        is_run = record {
          run = is_journal (items ++ more.more) (after machine s batch) more.made_all;
          opens =
              ap (after machine (begun opening)) inputs ∙ after-append machine (inputs_of items) (taken machine s batch) (begun opening)
              ∙ ap (λ (t : Standing N). after machine t (taken machine s batch)) r.opens ∙ after_taken machine batch s ∙ stands;
        };
        inputs = inputs;
        stands = stands;
        answers = more.answers;
      }

  pub extended_from : (items : List Item) (s : Standing N) (batch : List Arrived) → IsRun items → s ≡ behind machine opening items → IsExtended items s batch
  extended_from items s batch r same = subst (λ (t : Standing N). IsExtended items t batch) (sym same) (extended items batch r)
