-- The take of the migration in work.
use Rattle.std.proofs.Common.{◌≡◌, ℕ, ◌&&◌, inl, inr, Bool, true, false, cond, List, [], ◌∷◌, ◌++◌, Option, Some, None, refl, ap, sym, ◌∙◌, subst}
use Rattle.std.specs.List.{list_any}
use Rattle.std.proofs.lemmas.Bool.{and_parts, cond_both, or_cases, or_left}
use Rattle.curp_base.specs.Words.{numbered}
use Rattle.curp_range.specs.Spans.{Span, is_in, is_owned, without}
use Rattle.curp_range.proofs.Tests.{covers_if_covered}
use Rattle.curp_cmd.specs.declared.command.Request.{Request}
use Rattle.curp_cmd.specs.declared.entry.Entry.{Entry}
use Rattle.curp_cmd.specs.declared.entry.Entry.TheVariants.{Op, Take}
use Rattle.curp_cmd.specs.declared.migration.Package.{Package}
use Rattle.curp_model.specs.Log.{LogState, after_entry, meaning}
use Rattle.curp_model.specs.Manager.{Migration}
use Rattle.curp_model.proofs.Logs.{meaning_append}
use Rattle.curp_law_kept.specs.Hashes.{behind, updates}
use Rattle.curp_order.specs.Order.{Asked}
use Rattle.curp_law_linear.specs.Hashes.{HashOk, HashesOk, Part, given_on, has_take, holds, is_give, is_take, onward, owns, state_of}
use Rattle.curp_law_linear.specs.Line.{LineState, OrderOk, Ungiven}
use Rattle.curp_law_linear.specs.Moves.{PushTake, PushTakeFits, pushed, take_pushed, taken_by}
use Rattle.curp_law_linear.proofs.Spans.{without_owned}
use Rattle.curp_law_linear.proofs.Hashes.{any_push}
use Rattle.curp_law_linear.proofs.Lines.{known_push}
use Rattle.curp_law_linear.proofs.Pushes as pushes
use Rattle.curp_law_kept.proofs.Gives.{behind_from_append, came_from_append}

-- what a take leaves
pub owned_take : (lo hi : ℕ) (log : List Entry) (number : ℕ) (k : Package) → (meaning lo hi (log ++ Take number k ∷ [])).owned ≡ without (meaning lo hi log).owned k.lo k.hi
unfolding after_entry
owned_take lo hi log number k = ap (λ (s : LogState). s.owned) (meaning_append lo hi log (Take number k ∷ []))

-- ---- nothing goes on where the give is nowhere

-- where no log has the give, nothing went on elsewhere
pub onward_ungiven : (m : Migration) (parts : List Part) (log : List Entry) (h : ℕ) → Ungiven parts m.number → onward (Some m) parts log h ≡ []
onward_ungiven m parts log h none =
    cond_both (is_in m.range.lo m.range.hi h && list_any (is_take m.number) log) _ _ (λ (xs : List Asked). xs ≡ []) (λ y. at_target (numbered parts m.target) refl) (λ n. refl)
  where
    at_target : (t : Option Part) → numbered parts m.target ≡ t → given_on h m.number t ≡ []
    at_target None e = refl
    at_target (Some t) e = ap (λ (b : Bool). cond b (behind h t.log) []) (none m.target t e)

module _ (s : LineState) (ok : OrderOk s) (o : PushTake) (fits : PushTakeFits s o) where
  abbrev p : Part
  p = o.p

  abbrev e : Entry
  e = Take o.m.number (taken_by o)

  abbrev after : List Part
  after = pushed s.parts o.part o.p (Take o.m.number (taken_by o))

  abbrev longer : Part
  longer = record o.p { log = o.p.log ++ Take o.m.number (taken_by o) ∷ [] }

  no_op : (r : Request) (a : ℕ) → e ≡ Op r a → ⊥
  no_op r a is = absurd cc

  still_ungiven : Ungiven after o.m.number
  still_ungiven k q hk = elim (pushes.cases s.parts o.part p e fits.here k q hk) [
    | inl old ↦ fits.ungiven k q old.1
    | inr new ↦ subst (λ (y : Part). list_any (is_give o.m.number) y.log ≡ false) new.1 (any_push (is_give o.m.number) p.log e refl ∙ fits.ungiven o.part p fits.here)
  ]

  -- what it holds now it owned before
  owned_before : (h : ℕ) → holds (Some o.m) longer h ≡ true → owns p h ≡ true
  owned_before h held = elim (or_cases (owns longer h) (has_take (Some o.m) h longer.log) held) [
    | inl own ↦
        without_owned (state_of p).owned o.m.range.lo o.m.range.hi h (sym (ap (λ (spans : List Span). is_owned spans h) (owned_take p.lo p.hi p.log o.m.number (taken_by o))) ∙ own)
    | inr out ↦ covers_if_covered (state_of p).owned o.m.range.lo o.m.range.hi fits.covered h (and_parts _ _ out).0
  ]

  take_hashes : HashesOk (Some o.m) after (updates s.marks)
  take_hashes k q hk h held = elim (pushes.cases s.parts o.part p e fits.here k q hk) [
    | inl old ↦
        let here : HashOk (Some o.m) s.parts (updates s.marks) q h = before k q old.1 h held in
        record {
          past = here.past;
          alike = here.alike ∙ ap (λ w. here.past ++ (behind h q.log ++ w)) (onward_ungiven o.m s.parts q.log h fits.ungiven ∙ sym (onward_ungiven o.m after q.log h still_ungiven));
          values = here.values;
          known = here.known;
        }
    | inr new ↦ subst (λ (y : Part). HashOk (Some o.m) after (updates s.marks) y h) new.1 (own h (subst (λ (y : Part). holds (Some o.m) y h ≡ true) (sym new.1) held))
  ]
    where
      before : (k : ℕ) (q : Part) → numbered s.parts k ≡ Some q → (h : ℕ) → holds (Some o.m) q h ≡ true → HashOk (Some o.m) s.parts (updates s.marks) q h
      before = subst (λ (moving : Option Migration). HashesOk moving s.parts (updates s.marks)) fits.in_work ok.hashes

      own : (h : ℕ) → holds (Some o.m) longer h ≡ true → HashOk (Some o.m) after (updates s.marks) longer h
      own h held =
          let here = before o.part p fits.here h (or_left _ _ (owned_before h held)) in
          record {
            past = here.past;
            alike = here.alike ∙ (λ i. here.past ++ (sym (behind_from_append h [] p.log (e ∷ [])) i ++ (onward_ungiven o.m s.parts p.log h fits.ungiven ∙ sym (onward_ungiven o.m after longer.log h still_ungiven)) i));
            values = λ key k. here.values key k ∙ sym (came_from_append h key None p.log (e ∷ []));
            known = λ y m. known_push p.lo p.hi h p.log e y.0 (here.known y m);
          }

  -- a take keeps the facts
  pub take_keeps : OrderOk (take_pushed s o)
  take_keeps = record {
    history = ok.history;
    hashes = subst (λ (moving : Option Migration). HashesOk moving after (updates s.marks)) (sym fits.in_work) take_hashes;
    waiting = pushes.waiting_stays s.parts o.part p e fits.here s.marks ok.waiting;
    standing = pushes.standing_stays s.parts o.part p e fits.here s.marks ok.standing;
    flags = ok.flags;
    unflagged = ok.unflagged;
    invoked = ok.invoked;
    marked = ok.marked;
    kinds = ok.kinds;
    reads = ok.reads;
    one_flag = ok.one_flag;
    distinct = ok.distinct;
    answered = pushes.answers_stay s.parts o.part p e fits.here no_op (updates s.marks) ok.answered;
    once = pushes.once_stays s.parts o.part p e fits.here no_op ok.once;
    in_time = ok.in_time;
  }
