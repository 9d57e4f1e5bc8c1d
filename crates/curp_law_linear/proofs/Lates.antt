-- A quick mark that comes between others keeps the facts of the order.
use Rattle.std.proofs.Common.{◌≡◌, ◌≤◌, ℕ, inl, inr, true, false, List, length, refl, ap, sym, ◌∙◌, subst, arith, map}
use Rattle.curp_base.specs.Words.{At}
use Rattle.curp_base.proofs.Lists.{at_within}
use Rattle.curp_cmd.specs.Store.{is_update}
use Rattle.curp_law_kept.specs.Hashes.{asked, updates}
use Rattle.curp_order.specs.Order.{Asked}
use Rattle.curp_model.specs.Marks.{Executed, Mark, is_timed, is_update_mark, quick}
use Rattle.curp_law_linear.specs.Hashes.{HashesOk}
use Rattle.curp_law_linear.specs.Line.{AnswersOk, DistinctOk, InTimeOk, InvokedOk, KindsOk, LineState, MarkedOk, OneFlagOk, OrderOk, ReadsOk, WasInvoked}
use Rattle.curp_law_linear.specs.Moves.{Late, LateFits, late_quickly, put_before}
use Rattle.curp_law_linear.proofs.Puts.{Was, put_cases, put_filter, put_stands, was_order, was_same}

module _ (s : LineState) (ok : OrderOk s) (o : Late) (fits : LateFits s o) where
  abbrev pub late_mark : Mark
  late_mark = quick o.node o.part o.epoch o.capture o.id o.command

  abbrev pub late_marks : List Mark
  late_marks = put_before o.place (quick o.node o.part o.epoch o.capture o.id o.command) s.marks

  -- the place stands in the list
  pub late_low : o.place ≤ length s.marks
  late_low = let l = at_within s.marks o.place fits.mark fits.stands in omega (arith, l)

  same_order : updates s.marks ≡ updates late_marks
  same_order = sym (ap (map asked) (put_filter late_mark (λ (m : Mark). is_update_mark m.place) refl o.place s.marks))

  old_update : (k i : ℕ) (m : Mark) → At late_marks k m → m.place ≡ Executed i → (j : ℕ) × Was o.place k j × At s.marks j m
  old_update k i m h is = elim (put_cases late_mark o.place s.marks k m h) [
    | inl old ↦ old
    | inr new ↦ absurd (let e : false ≡ true = ap (λ (y : Mark). is_update_mark y.place) new.0 ∙ ap is_update_mark is in cc)
  ]

  old_flagged : (k : ℕ) (m : Mark) → At late_marks k m → m.completed ≡ true → (j : ℕ) × Was o.place k j × At s.marks j m
  old_flagged k m h f = elim (put_cases late_mark o.place s.marks k m h) [
    | inl old ↦ old
    | inr new ↦ absurd (let e : false ≡ true = ap (λ (y : Mark). y.completed) new.0 ∙ f in cc)
  ]

  late_invoked : InvokedOk late_marks s.history
  late_invoked k m h uncut = elim (put_cases late_mark o.place s.marks k m h) [
    | inl old ↦ ok.invoked old.0 m old.2 uncut
    | inr new ↦ subst (λ (y : Mark). WasInvoked s.history y.id y.command) new.0 fits.was_invoked
  ]

  late_kinds : KindsOk late_marks
  late_kinds k m h = elim (put_cases late_mark o.place s.marks k m h) [
    | inl old ↦ ok.kinds old.0 m old.2
    | inr new ↦ subst (λ (y : Mark). is_update y.command ≡ is_update_mark y.place) new.0 fits.reads
  ]

  late_reads : ReadsOk late_marks s.history
  late_reads id c done inv read =
      let f = ok.reads id c done inv read in
      let n = put_stands late_mark o.place s.marks f.place f.m late_low f.stands in
      record { place = n.0; m = f.m; stands = n.2; its_id = f.its_id; is_flagged = f.is_flagged }

  late_one_flag : OneFlagOk late_marks
  late_one_flag j k m y hj hk f g same =
      let a = old_flagged j m hj f in
      let b = old_flagged k y hk g in
      was_same o.place j k a.0 b.0 a.1 b.1 (ok.one_flag a.0 b.0 m y a.2 b.2 f g same)

  late_in_time : InTimeOk late_marks s.history
  late_in_time k y hk t j e m a lt hj f hc = elim (put_cases late_mark o.place s.marks k y hk) [
    | inr new ↦ absurd (let bad : false ≡ true = ap is_timed new.0 ∙ t in cc)
    | inl old ↦
        let b = old_flagged j m hj f in
        ok.in_time old.0 y old.2 t b.0 e m a (was_order o.place k j old.0 b.0 old.1 b.1 lt) b.2 f hc
  ]

  -- it keeps the facts
  pub late_keeps : OrderOk (late_quickly s o)
  late_keeps = record {
    history = ok.history;
    hashes = subst (HashesOk s.moving s.parts) same_order ok.hashes;
    waiting = λ k i m hk is f. let w = old_update k i m hk is in ok.waiting w.0 i m w.2 is f;
    standing = λ k i m hk is. let w = old_update k i m hk is in ok.standing w.0 i m w.2 is;
    flags = λ k m hk f. let w = old_flagged k m hk f in ok.flags w.0 m w.2 f;
    unflagged = λ k i m hk is f c. let w = old_update k i m hk is in ok.unflagged w.0 i m w.2 is f c;
    invoked = late_invoked;
    marked = subst (λ (l : List Asked). MarkedOk l s.history) same_order ok.marked;
    kinds = late_kinds;
    reads = late_reads;
    one_flag = late_one_flag;
    distinct = subst DistinctOk same_order ok.distinct;
    answered = subst (AnswersOk s.parts) same_order ok.answered;
    once = ok.once;
    in_time = late_in_time;
  }
