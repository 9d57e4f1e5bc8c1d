-- Takes in adopted logs were told, or are of the migration in work; so an op elsewhere on an owned hash has a told take behind it.
use Rattle.std.proofs.Common.{◌≡◌, ◌≢◌, ◌⊎◌, inl, inr, ℕ, zero, ◌<◌, ◌+◌, suc, ◌||◌, Bool, true, false, Option, Some, None, List, [], ◌∷◌, ◌++◌, take, drop, refl, ap, sym, ◌∙◌, subst, arith}
use Rattle.std.proofs.Math.Bool.{or-false}
use Rattle.std.specs.List.{list_any}
use Rattle.std.proofs.lemmas.Bool.{and_from, cases_Bool, eq-eqb, or_parts}
use Rattle.std.proofs.lemmas.List.{take-append-drop}
use Rattle.std.proofs.lemmas.List.Folds.{list_any-append}
use Rattle.curp_base.specs.Words.{At, numbered}
use Rattle.curp_base.proofs.Lists.{at_append, at_append_cases, at_drop, at_push_cases, at_same}
use Rattle.curp_range.specs.Spans.{is_in}
use Rattle.curp_cmd.specs.Hash.{touches}
use Rattle.curp_cmd.specs.declared.command.Request.{Request}
use Rattle.curp_cmd.specs.declared.entry.Entry.{Entry}
use Rattle.curp_cmd.specs.declared.entry.Entry.TheVariants.{Give, Op, Take}
use Rattle.curp_cmd.specs.declared.migration.Package.{Package}
use Rattle.curp_model.specs.Log.{IsLog}
use Rattle.curp_model.specs.Manager.{Migration}
use Rattle.curp_facts.specs.Facts.{IsAmong}
use Rattle.curp_law_linear.specs.Hashes.{Part, has_take, is_give, is_take, owns}
use Rattle.curp_law_linear.specs.Line.{IsTakeInWork, LineState, Owned, TakesOk, ToldTake, Ungiven}
use Rattle.curp_law_linear.specs.Moves.{Adopt, AdoptFits, GivenFits, MigrateFits, PushGive, PushGiveFits, PushTake, PushTakeFits, ops, pushed, relogged, replayed_of, taken_by}
use Rattle.curp_law_linear.proofs.Entries.{take_of}
use Rattle.curp_law_linear.proofs.Hashes.{any_push}
use Rattle.curp_law_linear.proofs.Lists.{in_any, some_same}
use Rattle.curp_base.proofs.Numbered.{any_at, numbered_set_cases}
use Rattle.curp_law_linear.proofs.Owning.{op_owned}
use Rattle.curp_law_linear.proofs.Pushes as pushes
use Rattle.curp_law_linear.proofs.Requests.{ops_any}
use Rattle.curp_law_linear.proofs.Spans.{owned_after, takes}

-- ---- the moves

-- one more entry that is no give, where a take is of the migration in work
pub takes_push : (parts : List Part) (moving : Option Migration) (told : List ℕ) (n : ℕ) (p : Part) (e : Entry) → numbered parts n ≡ Some p → ((number : ℕ) → is_give number e ≡ false)
    → ((number : ℕ) (k : Package) → e ≡ Take number k → IsTakeInWork parts moving number k) → TakesOk parts moving told → TakesOk (pushed parts n p e) moving told
takes_push parts moving told n p e here no_give own ok m q i number k hm hi = elim (pushes.cases parts n p e here m q hm) [
  | inl old ↦ stays (ok m q i number k old.1 hi)
  | inr new ↦ elim (at_push_cases p.log e i (Take number k) (subst (λ (y : Part). At y.log i (Take number k)) (sym new.1) hi)) [
    | inl older ↦ stays (ok n p i number k here older)
    | inr last ↦ inr (moves (own number k last.1))
  ]
]
  where
    still : (number : ℕ) → Ungiven parts number → Ungiven (pushed parts n p e) number
    still number none j y hj = elim (pushes.cases parts n p e here j y hj) [
      | inl old ↦ none j y old.1
      | inr new ↦ subst (λ (x : Part). list_any (is_give number) x.log ≡ false) new.1 (any_push (is_give number) p.log e (no_give number) ∙ none n p here)
    ]

    moves : IsTakeInWork parts moving number k → IsTakeInWork (pushed parts n p e) moving number k
    moves w = record { m = w.m; in_work = w.in_work; its_number = w.its_number; lo = w.lo; hi = w.hi; ungiven = still number w.ungiven }

    stays : IsAmong number told ⊎ IsTakeInWork parts moving number k → IsAmong number told ⊎ IsTakeInWork (pushed parts n p e) moving number k
    stays w = elim w [ inl t ↦ inl t | inr v ↦ inr (moves v) ]

-- one more take is of the migration in work
pub takes_take : (s : LineState) (o : PushTake) → PushTakeFits s o → TakesOk s.parts s.moving s.told → TakesOk (pushed s.parts o.part o.p (Take o.m.number (taken_by o))) s.moving s.told
takes_take s o fits ok = takes_push s.parts s.moving s.told o.part o.p (Take o.m.number (taken_by o)) fits.here (λ number. refl)
    (λ number k is. record {
      m = o.m;
      in_work = fits.in_work;
      its_number = number_of is;
      lo = ap (λ (y : Package). y.lo) (sym (package_of_take is));
      hi = ap (λ (y : Package). y.hi) (sym (package_of_take is));
      ungiven = subst (Ungiven s.parts) (number_of is) fits.ungiven;
    }) ok
  where
    number_of : {a b : ℕ} {k l : Package} → Take a k ≡ Take b l → a ≡ b
    number_of e = cc

    package_of_take : {a b : ℕ} {k l : Package} → Take a k ≡ Take b l → k ≡ l
    package_of_take e = cc

-- a give comes once its take was told
pub takes_give : (s : LineState) (o : PushGive) → PushGiveFits s o → TakesOk s.parts s.moving s.told → TakesOk (pushed s.parts o.part o.p (Give o.m.number o.brought)) s.moving s.told
takes_give s o fits ok n q i number k hn hi = elim (pushes.cases s.parts o.part o.p (Give o.m.number o.brought) fits.here n q hn) [
  | inl old ↦ told_now (ok n q i number k old.1 hi)
  | inr new ↦ elim (at_push_cases o.p.log (Give o.m.number o.brought) i (Take number k) (subst (λ (y : Part). At y.log i (Take number k)) (sym new.1) hi)) [
    | inl older ↦ told_now (ok o.part o.p i number k fits.here older)
    | inr last ↦ absurd (cc (last.1))
  ]
]
  where
    told_now : IsAmong number s.told ⊎ IsTakeInWork s.parts s.moving number k → IsAmong number s.told ⊎ IsTakeInWork (pushed s.parts o.part o.p (Give o.m.number o.brought)) s.moving number k
    told_now w = elim w [
      | inl t ↦ inl t
      | inr v ↦
          let same : o.m ≡ v.m = some_same (sym fits.in_work ∙ v.in_work) in
          inl (subst (λ (x : ℕ). IsAmong x s.told) (ap (λ (m : Migration). m.number) same ∙ v.its_number) fits.told)
    ]

-- one more is told
pub takes_tell : (parts : List Part) (moving : Option Migration) (told : List ℕ) (number : ℕ) → TakesOk parts moving told → TakesOk parts moving (told ++ number ∷ [])
takes_tell parts moving told number ok n q i other k hn hi = elim (ok n q i other k hn hi) [
  | inl t ↦ inl (record { place = t.place; stands = at_append told (number ∷ []) t.place other t.stands })
  | inr v ↦ inr v
]

-- a migration begins where each take was told
pub takes_migrate : (s : LineState) (m : Migration) → MigrateFits s m → TakesOk s.parts s.moving s.told → TakesOk s.parts (Some m) s.told
takes_migrate s m fits ok n q i number k hn hi = elim (ok n q i number k hn hi) [
  | inl t ↦ inl t
  | inr v ↦ absurd (let e : None ≡ Some v.m = sym fits.none ∙ v.in_work in cc)
]

-- a migration is done once its take was told
pub takes_given : (s : LineState) (m : Migration) → GivenFits s m → TakesOk s.parts s.moving s.told → TakesOk s.parts None s.told
takes_given s m fits ok n q i number k hn hi = elim (ok n q i number k hn hi) [
  | inl t ↦ inl t
  | inr v ↦
      let same : m ≡ v.m = some_same (sym fits.in_work ∙ v.in_work) in
      let there : list_any (is_give number) fits.target.log ≡ true = subst (λ (x : ℕ). list_any (is_give x) fits.target.log ≡ true) (ap (λ (y : Migration). y.number) same ∙ v.its_number) fits.given in
      absurd (let e : true ≡ false = sym there ∙ v.ungiven m.target fits.target fits.its_target in cc)
]

-- an adoption: what stays has its takes, and there are no more gives
pub takes_adopt : (s : LineState) (o : Adopt) → AdoptFits s o → TakesOk s.parts s.moving s.told → TakesOk (relogged s.parts o.part o.p (o.stays ++ ops (replayed_of o))) s.moving s.told
takes_adopt s o fits ok n q i number k hn hi = elim (numbered_set_cases s.parts o.part o.p new fits.here n q hn) [
  | inl old ↦ stays (ok n q i number k old.1 hi)
  | inr is ↦ elim (at_append_cases o.stays (ops (replayed_of o)) i (Take number k) (subst (λ (y : Part). At y.log i (Take number k)) (sym is.1) hi)) [
    | inl older ↦ stays (ok o.part o.p i number k fits.here (subst (λ (l : List Entry). At l i (Take number k)) (sym fits.is) (at_append o.stays o.goes i _ older)))
    | inr g ↦ absurd (no_take g.0 g.2)
  ]
]
  where
    new : Part
    new = record o.p { log = o.stays ++ ops (replayed_of o) }

    no_take : (j : ℕ) → At (ops (replayed_of o)) j (Take number k) → ⊥
    no_take j h =
        let there : list_any (is_take number) (ops (replayed_of o)) ≡ true = in_any (is_take number) (ops (replayed_of o)) (Take number k) (j, h) (eq-eqb number number refl) in
        let e : true ≡ false = sym there ∙ ops_any (is_take number) (λ r. refl) (replayed_of o) in
        cc

    still : Ungiven s.parts number → Ungiven (relogged s.parts o.part o.p (o.stays ++ ops (replayed_of o))) number
    still none j y hj = elim (numbered_set_cases s.parts o.part o.p new fits.here j y hj) [
      | inl old ↦ none j y old.1
      | inr is ↦
          let all : (list_any (is_give number) o.stays || list_any (is_give number) o.goes) ≡ false = sym (list_any-append (is_give number) o.stays o.goes) ∙ ap (list_any (is_give number)) (sym fits.is) ∙ none o.part o.p fits.here in
          subst (λ (x : Part). list_any (is_give number) x.log ≡ false) is.1
          (list_any-append (is_give number) o.stays (ops (replayed_of o)) ∙ ap (λ (b : Bool). list_any (is_give number) o.stays || b) (ops_any (is_give number) (λ r. refl) (replayed_of o)) ∙ or-false _ ∙ (or_parts _ _ all).0)
    ]

    stays : IsAmong number s.told ⊎ IsTakeInWork s.parts s.moving number k → IsAmong number s.told ⊎ IsTakeInWork (relogged s.parts o.part o.p (o.stays ++ ops (replayed_of o))) s.moving number k
    stays w = elim w [
      | inl t ↦ inl t
      | inr v ↦ inr (record { m = v.m; in_work = v.in_work; its_number = v.its_number; lo = v.lo; hi = v.hi; ungiven = still v.ungiven })
    ]

-- ---- ops elsewhere

-- an op in another log than its hash's owner's has a told take of the hash behind it
pub told_behind : (s : LineState) → TakesOk s.parts s.moving s.told → Owned s.moving s.parts → (part : ℕ) (p : Part) → numbered s.parts part ≡ Some p
    → (n i h a : ℕ) (q : Part) (r : Request) → n ≢ part → numbered s.parts n ≡ Some q → IsLog q.lo q.hi q.log → At q.log i (Op r a) → touches r.command h ≡ true → owns p h ≡ true → ToldTake s.told q.log i h
told_behind s takes_ok below part p here n i h a q r ne hn log hi t own = elim (cases_Bool (list_any (takes h) (drop i q.log))) [
  | inr none ↦
      let first = op_owned q.lo q.hi q.log i r a h log hi t in
      let whole : owns q h ≡ true = subst (λ (l : List Entry). owns (record q { log = l }) h ≡ true) (take-append-drop i q.log) (owned_after q.lo q.hi h (take i q.log) (drop i q.log) first none) in
      absurd (ne (below.one n part q p h hn here whole own))
  | inl some ↦
      let w = any_at (takes h) (drop i q.log) some in
      let k = take_of h w.1 w.3 in
      let d = at_drop i q.log w.0 w.1 w.2 in
      found w.0 d.0 d.1 k.0 k.1 (subst (At q.log d.0) k.2 d.2) k.3
]
  where
    found : (j place : ℕ) → place ≡ i + j → (number : ℕ) (k : Package) → At q.log place (Take number k) → is_in k.lo k.hi h ≡ true → ToldTake s.told q.log i h
    found j place is number k at covers = elim (takes_ok n q place number k hn at) [
      | inl told ↦ record { place = place; number = number; taken = k; stands = at; behind = behind j place is at; covers = covers; is_told = told }
      | inr v ↦
          let inside : is_in v.m.range.lo v.m.range.hi h ≡ true = ap (λ (x : ℕ). is_in x v.m.range.hi h) (sym v.lo) ∙ ap (λ (x : ℕ). is_in k.lo x h) (sym v.hi) ∙ covers in
          let there : list_any (is_take v.m.number) q.log ≡ true = in_any (is_take v.m.number) q.log (Take number k) (place, at) (eq-eqb number v.m.number (sym v.its_number)) in
          let out : has_take (Some v.m) h q.log ≡ true = and_from _ _ inside there in
          let given = (below.moved part n p q h v.m v.in_work here hn own (subst (λ (mv : Option Migration). has_take mv h q.log ≡ true) (sym v.in_work) out)).1 in
          absurd (let e : true ≡ false = sym given ∙ ap (λ (x : ℕ). list_any (is_give x) p.log) v.its_number ∙ v.ungiven part p here in cc)
    ]
      where
        behind : (j place : ℕ) → place ≡ i + j → At q.log place (Take number k) → i < place
        behind zero place is at =
            let same : place ≡ i = omega (arith, is) in
            absurd (let e : Op r a ≡ Take number k = at_one_place (subst (λ (x : ℕ). At q.log x (Take number k)) same at) in cc)
          where
            at_one_place : At q.log i (Take number k) → Op r a ≡ Take number k
            at_one_place g = at_same q.log i _ _ hi g
        behind (suc j) place is at = omega (arith, is)
