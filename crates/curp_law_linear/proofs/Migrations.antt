-- A migration begins, its take, its give, and its end.
use Rattle.std.proofs.Common.{◌≡◌, ℕ, ◌&&◌, inl, inr, Bool, true, false, [], ◌++◌, Option, Some, None, ap, sym, ◌∙◌}
use Rattle.std.proofs.Math.Bool.{and-false}
use Rattle.std.proofs.lemmas.Bool.{cases_Bool, or_cases, or_left}
use Rattle.curp_base.specs.Words.{numbered}
use Rattle.curp_range.specs.Spans.{is_in}
use Rattle.curp_model.specs.Manager.{Migration}
use Rattle.curp_law_kept.specs.Hashes.{behind, updates}
use Rattle.curp_law_linear.specs.Hashes.{HashesOk, Part, has_take, onward, owns}
use Rattle.curp_law_linear.specs.Line.{LineState, OrderOk, Owned}
use Rattle.curp_law_linear.specs.Moves.{MigrateFits, given_done, migrating}
use Rattle.curp_law_linear.proofs.Hashes.{no_onward}

-- where only the equation changes
rehashed : (s : LineState) → OrderOk s → (moving : Option Migration) → HashesOk moving s.parts (updates s.marks) → OrderOk (record s { moving = moving })
rehashed s ok moving hashes = record {
  history = ok.history;
  hashes = hashes;
  waiting = ok.waiting;
  standing = ok.standing;
  flags = ok.flags;
  unflagged = ok.unflagged;
  invoked = ok.invoked;
  marked = ok.marked;
  kinds = ok.kinds;
  reads = ok.reads;
  one_flag = ok.one_flag;
  distinct = ok.distinct;
  answered = ok.answered;
  once = ok.once;
  in_time = ok.in_time;
}

-- ---- the beginning and the end

module _ (s : LineState) (ok : OrderOk s) (m : Migration) (fits : MigrateFits s m) where
  untaken : (n : ℕ) (p : Part) (h : ℕ) → numbered s.parts n ≡ Some p → has_take (Some m) h p.log ≡ false
  untaken n p h here = ap (λ (b : Bool). is_in m.range.lo m.range.hi h && b) (fits.untaken n p here) ∙ and-false _

  migrate_hashes : HashesOk (Some m) s.parts (updates s.marks)
  migrate_hashes n p here h held =
      let none : has_take (Some m) h p.log ≡ false = untaken n p h here in
      let own : owns p h ≡ true = elim (or_cases (owns p h) (has_take (Some m) h p.log) held) [ inl y ↦ y | inr t ↦ absurd (let e : false ≡ true = sym none ∙ t in cc) ] in
      let was = ok.hashes n p here h (or_left _ _ own) in
      let nothing : onward s.moving s.parts p.log h ≡ [] = ap (λ (moving : Option Migration). onward moving s.parts p.log h) fits.none in
      record {
        past = was.past;
        alike = was.alike ∙ ap (λ w. was.past ++ (behind h p.log ++ w)) (nothing ∙ sym (no_onward (Some m) s.parts p.log h none));
        values = was.values;
        known = was.known;
      }

  -- the beginning of a migration keeps the facts
  pub migrate_keeps : OrderOk (migrating s m)
  migrate_keeps = rehashed s ok (Some m) migrate_hashes

module _ (s : LineState) (ok : OrderOk s) (below : Owned s.moving s.parts) where
  given_hashes : HashesOk None s.parts (updates s.marks)
  given_hashes n p here h held =
      let own : owns p h ≡ true = elim (or_cases (owns p h) false held) [ inl y ↦ y | inr t ↦ absurd cc ] in
      let was = ok.hashes n p here h (or_left _ _ own) in
      let none : has_take s.moving h p.log ≡ false = elim (cases_Bool (has_take s.moving h p.log)) [ inl t ↦ absurd (below.gone n p h here own t) | inr f ↦ f ] in
      record { past = was.past; alike = was.alike ∙ ap (λ w. was.past ++ (behind h p.log ++ w)) (no_onward s.moving s.parts p.log h none); values = was.values; known = was.known }

  -- its end keeps the facts
  pub given_keeps : OrderOk (given_done s)
  given_keeps = rehashed s ok None given_hashes
