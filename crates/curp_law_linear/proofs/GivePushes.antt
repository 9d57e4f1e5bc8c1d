-- The give of the migration in work.
use Rattle.std.proofs.Common.{◌≡◌, ℕ, ◌&&◌, ◌||◌, inl, inr, Bool, true, false, cond, if◌then◌else◌, List, [], ◌∷◌, ◌++◌, Option, Some, None, refl, ap, sym, ◌∙◌, subst, append-nil}
use Rattle.std.specs.Cmp.Lexicographic.{slice_cmp}
use Rattle.std.specs.FinMap.Entries.{find}
use Rattle.std.specs.List.{list_any}
use Rattle.std.specs.Ordering.{nat_cmp}
use Rattle.std.proofs.lemmas.Bool.{cases_Bool, eq-eqb, or_cases, or_left, or_parts}
use Rattle.std.proofs.lemmas.List.Folds.{list_any-append}
use Rattle.curp_base.specs.Words.{numbered}
use Rattle.curp_range.specs.Spans.{is_in}
use Rattle.curp_cmd.specs.Hash.{hash_of}
use Rattle.curp_cmd.specs.declared.command.Request.{Request}
use Rattle.curp_cmd.specs.declared.entry.Entry.{Entry}
use Rattle.curp_cmd.specs.declared.entry.Entry.TheVariants.{Give, Op, Take}
use Rattle.curp_cmd.specs.declared.migration.Package.{Package}
use Rattle.curp_model.specs.Manager.{Migration}
use Rattle.curp_model.specs.Table.{check}
use Rattle.curp_model.proofs.Logs.{op_not_new}
use Rattle.curp_law_kept.specs.Hashes.{In, NoGive, NotNew, behind, came, gives, on, updates, value}
use Rattle.curp_order.specs.Order.{Asked}
use Rattle.curp_law_linear.specs.Hashes.{HashOk, HashesOk, Part, given_on, has_take, holds, is_give, is_take, onward, owns, state_of}
use Rattle.curp_law_linear.specs.Line.{LineState, OrderOk}
use Rattle.curp_law_linear.specs.Moves.{PushGive, PushGiveFits, give_pushed, pushed}
use Rattle.curp_law_linear.proofs.Carried.{at_source, carried_line, carried_value, quiet_gives}
use Rattle.curp_law_linear.proofs.Given.{LogValue, Pure}
use Rattle.curp_law_linear.proofs.Hashes.{behind_in}
use Rattle.curp_law_linear.proofs.Lines.{known_push, split_push}
use Rattle.curp_law_linear.proofs.Lists.{in_any, in_cases, in_head, in_none, in_right}
use Rattle.curp_law_linear.proofs.Pushes as pushes
use Rattle.curp_law_linear.proofs.Spans.{owned_give}
use Rattle.curp_law_linear.proofs.Takes.{onward_ungiven}
use Rattle.curp_law_kept.proofs.Gives.{behind_from_append, came_from_append}

module _ (pure : Pure) (s : LineState) (ok : OrderOk s) (o : PushGive) (fits : PushGiveFits s o) (its_value : LogValue (record fits.way.source { log = fits.way.before })) where
  abbrev p : Part
  p = o.p

  abbrev os : List Asked
  os = updates s.marks

  abbrev e : Entry
  e = Give o.m.number o.brought

  abbrev after : List Part
  after = pushed s.parts o.part o.p (Give o.m.number o.brought)

  abbrev longer : Part
  longer = record o.p { log = o.p.log ++ Give o.m.number o.brought ∷ [] }

  abbrev cut : Part
  cut = record fits.way.source { log = fits.way.before }

  no_op : (r : Request) (a : ℕ) → e ≡ Op r a → ⊥
  no_op r a is = absurd cc

  before : HashesOk (Some o.m) s.parts os
  before = subst (λ (moving : Option Migration). HashesOk moving s.parts os) fits.in_work ok.hashes

  brought_is : (h : ℕ) → is_in o.brought.lo o.brought.hi h ≡ is_in o.m.range.lo o.m.range.hi h
  brought_is h = λ i. is_in (fits.way.lo i) (fits.way.hi i) h

  -- the give's range at the target
  behind_now : (h : ℕ) → behind h longer.log ≡ (if is_in o.m.range.lo o.m.range.hi h then [] else behind h p.log)
  behind_now h = behind_from_append h [] p.log (e ∷ []) ∙ ap (λ (b : Bool). cond b [] (behind h p.log)) (brought_is h)

  came_now : (h : ℕ) (key : List ℕ) → came h key longer.log ≡ (if is_in o.m.range.lo o.m.range.hi h then find (slice_cmp nat_cmp) key o.brought.pairs else came h key p.log)
  came_now h key = came_from_append h key None p.log (e ∷ []) ∙ ap (λ (b : Bool). cond b (find (slice_cmp nat_cmp) key o.brought.pairs) (came h key p.log)) (brought_is h)

  gives_now : list_any (is_give o.m.number) longer.log ≡ true
  gives_now = in_any (is_give o.m.number) longer.log e (in_right p.log (e ∷ []) e (in_head e [])) (eq-eqb o.m.number o.m.number refl)

  nothing_on : (log : List Entry) (h : ℕ) → onward (Some o.m) after log h ≡ []
  nothing_on log h = go (is_in o.m.range.lo o.m.range.hi h) refl (list_any (is_take o.m.number) log)
    where
      target : numbered after o.m.target ≡ Some longer
      target = subst (λ (j : ℕ). numbered after j ≡ Some longer) (sym fits.its_target) (pushes.own s.parts o.part p e fits.here)

      go : (b : Bool) → is_in o.m.range.lo o.m.range.hi h ≡ b → (t : Bool) → cond (b && t) (given_on h o.m.number (numbered after o.m.target)) [] ≡ []
      go true y true =
          ap (given_on h o.m.number) target ∙ ap (λ (d : Bool). cond d (behind h longer.log) []) gives_now ∙ behind_now h ∙ ap (λ (d : Bool). cond d [] (behind h p.log)) y
      go true y false = refl
      go false n t = refl

  -- ---- at a hash of the range

  module _ (h : ℕ) (inside : is_in o.m.range.lo o.m.range.hi h ≡ true) where
    value_now : (key : List ℕ) → hash_of key ≡ h → value key (on h os) ≡ came h key longer.log
    value_now key k =
        carried_value s ok o.m fits.in_work o.brought fits.way h inside its_value key k
        ∙ sym (came_now h key ∙ ap (λ (d : Bool). cond d (find (slice_cmp nat_cmp) key o.brought.pairs) (came h key p.log)) inside)

    abbrev there : HashOk s.moving s.parts os fits.way.source h
    there = at_source s ok o.m fits.in_work o.brought fits.way h inside

    known_there : (x : Asked) → In x (on h os) → NotNew fits.way.source.lo fits.way.source.hi fits.way.before x.0
    known_there x m = elim (in_cases there.past (behind h fits.way.before) x (subst (In x) (carried_line s ok o.m fits.in_work o.brought fits.way h inside) m)) [
      | inl past ↦ there.known x past fits.way.before (Take o.m.number o.brought ∷ fits.way.after) (sym fits.way.taken) (quiet_gives h fits.way.after (fits.way.quiet h inside))
      | inr back ↦ elim (behind_in h [] fits.way.before x back) [
        | inl none ↦ in_none x _ none
        | inr op ↦ λ new. op_not_new fits.way.source.lo fits.way.source.hi fits.way.before op.place op.request op.acknowledged op.stands (ap (λ (z : Asked). check (state_of cut).table z.0) op.is ∙ new)
      ]
    ]

    known_now : (x : Asked) → In x (on h os) → (prefix back : List Entry) → prefix ++ back ≡ longer.log → NoGive h back → NotNew p.lo p.hi prefix x.0
    known_now x m prefix back is none = elim (split_push prefix back p.log e is) [
      | inl last ↦ subst (λ (es : List Entry). NotNew p.lo p.hi es x.0) (sym last.1)
          (pure.packed_known fits.way.source.lo fits.way.source.hi fits.way.before x.0 (known_there x m) p.lo p.hi p.log o.m.number o.brought (ap (λ (k : Package). k.table) fits.way.its_package))
      | inr mid ↦
          let all : list_any (gives h) (mid.0 ++ e ∷ []) ≡ false = subst (NoGive h) mid.1 none in
          let own : (is_in o.brought.lo o.brought.hi h || false) ≡ false = (or_parts (list_any (gives h) mid.0) _ (sym (list_any-append (gives h) mid.0 (e ∷ [])) ∙ all)).1 in
          let no : is_in o.brought.lo o.brought.hi h ≡ false = (or_parts _ false own).0 in
          let bad : true ≡ false = sym (brought_is h ∙ inside) ∙ no in
          absurd cc
    ]

    inside_ok : HashOk (Some o.m) after os longer h
    inside_ok =
        let empty : behind h longer.log ≡ [] = behind_now h ∙ ap (λ (d : Bool). cond d [] (behind h p.log)) inside in
        record {
          past = on h os;
          alike = sym ((λ i. on h os ++ (empty i ++ nothing_on longer.log h i)) ∙ append-nil (on h os));
          values = value_now;
          known = known_now;
        }

  -- ---- at another one

  outside_ok : (h : ℕ) → is_in o.m.range.lo o.m.range.hi h ≡ false → holds (Some o.m) longer h ≡ true → HashOk (Some o.m) after os longer h
  outside_ok h outside held =
      let no_take : has_take (Some o.m) h longer.log ≡ false = ap (λ (b : Bool). b && list_any (is_take o.m.number) longer.log) outside in
      let own_now : owns longer h ≡ true = elim (or_cases (owns longer h) (has_take (Some o.m) h longer.log) held) [ inl y ↦ y | inr t ↦ absurd (let bad : false ≡ true = sym no_take ∙ t in cc) ] in
      let own : owns p h ≡ true = owned_give p o.m.number o.brought h own_now (brought_is h ∙ outside) in
      let here = before o.part p fits.here h (or_left _ _ own) in
      let same : behind h longer.log ≡ behind h p.log = behind_now h ∙ ap (λ (d : Bool). cond d [] (behind h p.log)) outside in
      record {
        past = here.past;
        alike = here.alike ∙ (λ i. here.past ++ (sym same i ++ (onward_ungiven o.m s.parts p.log h fits.way.ungiven ∙ sym (nothing_on longer.log h)) i));
        values = λ key k. here.values key k ∙ sym (came_now h key ∙ ap (λ (d : Bool). cond d (find (slice_cmp nat_cmp) key o.brought.pairs) (came h key p.log)) outside);
        known = λ y m. known_push p.lo p.hi h p.log e y.0 (here.known y m);
      }

  give_hashes : HashesOk (Some o.m) after os
  give_hashes k q hk h held = elim (pushes.cases s.parts o.part p e fits.here k q hk) [
    | inl old ↦
        let here = before k q old.1 h held in
        record {
          past = here.past;
          alike = here.alike ∙ ap (λ w. here.past ++ (behind h q.log ++ w)) (onward_ungiven o.m s.parts q.log h fits.way.ungiven ∙ sym (nothing_on q.log h));
          values = here.values;
          known = here.known;
        }
    | inr new ↦ subst (λ (y : Part). HashOk (Some o.m) after os y h) new.1 (own (subst (λ (y : Part). holds (Some o.m) y h ≡ true) (sym new.1) held))
  ]
    where
      own : holds (Some o.m) longer h ≡ true → HashOk (Some o.m) after os longer h
      own held = elim (cases_Bool (is_in o.m.range.lo o.m.range.hi h)) [ inl y ↦ inside_ok h y | inr n ↦ outside_ok h n held ]

  -- a give keeps the facts
  pub give_keeps : OrderOk (give_pushed s o)
  give_keeps = record {
    history = ok.history;
    hashes = subst (λ (moving : Option Migration). HashesOk moving after (updates s.marks)) (sym fits.in_work) give_hashes;
    waiting = pushes.waiting_stays s.parts o.part p e fits.here s.marks ok.waiting;
    standing = pushes.standing_stays s.parts o.part p e fits.here s.marks ok.standing;
    flags = ok.flags;
    unflagged = ok.unflagged;
    invoked = ok.invoked;
    marked = ok.marked;
    kinds = ok.kinds;
    reads = ok.reads;
    one_flag = ok.one_flag;
    distinct = ok.distinct;
    answered = pushes.answers_stay s.parts o.part p e fits.here no_op (updates s.marks) ok.answered;
    once = pushes.once_stays s.parts o.part p e fits.here no_op ok.once;
    in_time = ok.in_time;
  }
