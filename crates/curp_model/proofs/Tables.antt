-- What a reply table has of an id, as it changes.
use Rattle.std.proofs.Common.{◌≡◌, ℕ, zero, suc, ◌≤◌, ◌==◌, ◌||◌, ◌&&◌, max, not, nat_le, nat_lt, Bool, true, false, cond, if◌then◌else◌, List, [], ◌∷◌, fold, Option, Some, None, unwrap_or, rules, refl, ap, sym, ◌∙◌, subst, arith}
use Rattle.std.specs.BTreeSet.{insert_key}
use Rattle.std.specs.Cmp.{IsTotalOrder, nat_cmp_total}
use Rattle.std.specs.Cmp.Rules.{comparing}
use Rattle.std.specs.FinMap.{IsAntisymmetric, nat_cmp-IsAntisymmetric}
use Rattle.std.specs.FinMap.Entries.{find, find-put, find-where_key}
use Rattle.std.specs.List.{filter, list_any}
use Rattle.std.specs.Option.{IsSomeAnd}
use Rattle.std.specs.Ordering.{nat_cmp, ordering_reverse, ordering_then, eq_by_cmp, match_ordering}
use Rattle.std.specs.declared.cmp.Ordering.{Ordering}
use Rattle.std.specs.declared.cmp.Ordering.TheVariants.{Less, Equal, Greater}
use Rattle.std.proofs.lemmas.Bool.{and_parts, and_from, or_left, or_right, not-true, not_from_false, cond_both}
use Rattle.std.proofs.lemmas.Bool.Decides.{nat_tests}
use Rattle.std.proofs.lemmas.Cmp.{tied_itself}
use Rattle.std.proofs.lemmas.Map.Views.{tells_apart}
use Rattle.curp_cmd.specs.RequestId.{id_cmp, same_id}
use Rattle.curp_cmd.specs.declared.command.Answer.{Answer}
use Rattle.curp_cmd.specs.declared.command.RequestId.{RequestId}
use Rattle.curp_cmd.specs.declared.migration.TablePart.{TablePart}
use Rattle.curp_model.specs.declared.Check.{Check}
use Rattle.curp_model.specs.declared.Check.TheVariants.{Expired, Stale, Known, New}
use Rattle.curp_model.specs.Laws.{IsStillKnown}
use Rattle.curp_model.specs.Table.{Noted, Table, is_gone, first_number, known, check, is_below, is_of_use, of_use, note, raise_first, acknowledge, expire, note_once, merge}
use Rattle.curp_cmd.proofs.Apart.{same_number}
use Rattle.curp_cmd.proofs.Ids.{apart_not_same}

-- ---- ids

pub ids_total : IsTotalOrder id_cmp
ids_total = search (comparing, rules)

pub ids_same : IsAntisymmetric id_cmp
ids_same x y e = go (nat_cmp x.client y.client) refl e
  where
    go : (r : Ordering) → nat_cmp x.client y.client ≡ r → ordering_then r (nat_cmp x.seq y.seq) ≡ Equal → x ≡ y
    go Less p e = absurd cc
    go Equal p e =
        let c = nat_cmp-IsAntisymmetric x.client y.client p in
        let s = nat_cmp-IsAntisymmetric x.seq y.seq e in
        λ i. record { client = c i; seq = s i }
    go Greater p e = absurd cc

-- an id that is new is another one than an id that isn't
pub another : (t : Table) (id other : RequestId) → ¬ (check t id ≡ New) → check t other ≡ New → eq_by_cmp id_cmp id other ≡ false
another t id other old new = go (eq_by_cmp id_cmp id other) refl
  where
    go : (b : Bool) → eq_by_cmp id_cmp id other ≡ b → b ≡ false
    go true e = absurd (old (ap (check t) (tells_apart ids_same id other e) ∙ new))
    go false e = refl

-- ---- what a table has of an id, where that is of use

abbrev pub Has : Table → RequestId → (Noted → Type 0) → Type 0
Has t id P = is_of_use t id ≡ true → IsSomeAnd (find id_cmp id t.records) P

pub kept_from : (t : Table) (id : RequestId) → is_gone t id.client ≡ false → nat_lt id.seq (first_number t id.client) ≡ false → is_of_use t id ≡ true
kept_from t id g l = and_from _ _ (not_from_false _ g) (grind (arith, nat_tests))

-- what the check finds
pub by_check : (t : Table) (id : RequestId) (Q : Check → Type 0) → Q Expired → ((first : ℕ) → Q (Stale first)) → (is_of_use t id ≡ true → Q (known (find id_cmp id t.records))) → Q (check t id)
unfolding check
by_check t id Q expired stale kept =
    cond_both (is_gone t id.client) _ _ Q (λ g. expired)
    (λ g. cond_both (nat_lt id.seq (first_number t id.client)) _ _ Q (λ l. stale (first_number t id.client)) (λ l. kept (kept_from t id g l)))

abbrev pub Is : Answer → ℕ → Noted → Type 0
Is a index n = (n.answer ≡ a) × (n.index ≡ index)

still_of : (a : Answer) (index : ℕ) (o : Option Noted) → IsSomeAnd o (Is a index) → IsStillKnown a index (known o)
still_of a index None h = absurd h
still_of a index (Some n) h = h

pub still_known : (t : Table) (id : RequestId) (a : Answer) (index : ℕ) → Has t id (Is a index) → IsStillKnown a index (check t id)
still_known t id a index has = by_check t id (IsStillKnown a index) tt (λ first. tt) (λ k. still_of a index (find id_cmp id t.records) (has k))

has_of : (a : Answer) (index : ℕ) (o : Option Noted) → known o ≡ Known a index → IsSomeAnd o (Is a index)
has_of a index None e = absurd cc
has_of a index (Some n) e = (cc, cc)

pub has_from : (t : Table) (id : RequestId) (a : Answer) (index : ℕ) → check t id ≡ Known a index → Has t id (Is a index)
has_from t id a index =
    by_check t id (λ (c : Check). c ≡ Known a index → Has t id (Is a index)) (λ e. absurd cc) (λ first e. absurd cc) (λ k e _. has_of a index (find id_cmp id t.records) e)

found_of : (P : Noted → Type 0) (o : Option Noted) → IsSomeAnd o P → ¬ (known o ≡ New)
found_of P None h e = h
found_of P (Some n) h e = absurd cc

pub not_new : (t : Table) (id : RequestId) (P : Noted → Type 0) → Has t id P → ¬ (check t id ≡ New)
not_new t id P has =
    by_check t id (λ (c : Check). ¬ (c ≡ New)) (λ e. absurd cc) (λ first e. absurd cc) (λ k. found_of P (find id_cmp id t.records) (has k))

-- ---- what is of use later was of use before

pub first_rises : (firsts : List (ℕ × ℕ)) (client n q : ℕ) → unwrap_or (find nat_cmp q firsts) 0 ≤ unwrap_or (find nat_cmp q (raise_first firsts client n)) 0
first_rises firsts client zero q = omega arith
first_rises firsts client (suc n) q =
    subst (λ (o : Option ℕ). unwrap_or (find nat_cmp q firsts) 0 ≤ unwrap_or o 0) (sym (find-put nat_cmp nat_cmp_total q client _ firsts)) (go (eq_by_cmp nat_cmp q client) refl)
  where
    go : (b : Bool) → eq_by_cmp nat_cmp q client ≡ b → unwrap_or (find nat_cmp q firsts) 0 ≤ unwrap_or (cond b (Some (max (suc n) (unwrap_or (find nat_cmp client firsts) 0))) (find nat_cmp q firsts)) 0
    go true e =
        let same : q ≡ client = tells_apart nat_cmp-IsAntisymmetric q client e in
        subst (λ (x : ℕ). unwrap_or (find nat_cmp x firsts) 0 ≤ max (suc n) (unwrap_or (find nat_cmp client firsts) 0)) (sym same) (omega arith)
    go false e = omega arith

firsts_rise : (es firsts : List (ℕ × ℕ)) (q : ℕ) → unwrap_or (find nat_cmp q firsts) 0 ≤ unwrap_or (find nat_cmp q (fold (λ (fs : List (ℕ × ℕ)) (e : ℕ × ℕ). raise_first fs e.0 e.1) firsts es)) 0
firsts_rise [] firsts q = omega arith
firsts_rise (e ∷ es) firsts q = omega (arith, first_rises firsts e.0 e.1 q, firsts_rise es (raise_first firsts e.0 e.1) q)

gone_stays : (gone : List ℕ) (k q : ℕ) → list_any (λ c. c == q) gone ≡ true → list_any (λ c. c == q) (insert_key nat_cmp gone k) ≡ true
gone_stays [] k q e = absurd cc
gone_stays (x ∷ gone) k q e = go (nat_cmp k x) (x == q) refl (gone_stays gone k q) e
  where
    go : (r : Ordering) (b : Bool) → (x == q) ≡ b → (list_any (λ c. c == q) gone ≡ true → list_any (λ c. c == q) (insert_key nat_cmp gone k) ≡ true) → ((x == q) || list_any (λ c. c == q) gone) ≡ true
        → list_any (λ c. c == q) (match_ordering r (k ∷ x ∷ gone) (x ∷ gone) (x ∷ insert_key nat_cmp gone k)) ≡ true
    go Less b is ih h = or_right (k == q) _ h
    go Equal b is ih h = h
    go Greater true is ih h = or_left _ _ is
    go Greater false is ih h = or_right (x == q) _ (ih (subst (λ (b : Bool). (b || list_any (λ c. c == q) gone) ≡ true) is h))

all_gone_stay : (ks gone : List ℕ) (q : ℕ) → list_any (λ c. c == q) gone ≡ true → list_any (λ c. c == q) (fold (insert_key nat_cmp) gone ks) ≡ true
all_gone_stay [] gone q e = e
all_gone_stay (k ∷ ks) gone q e = all_gone_stay ks (insert_key nat_cmp gone k) q (gone_stays gone k q e)

pub kept_before : (t u : Table) (id : RequestId) → (is_gone t id.client ≡ true → is_gone u id.client ≡ true) → first_number t id.client ≤ first_number u id.client → is_of_use u id ≡ true → is_of_use t id ≡ true
kept_before t u id gone rises k =
    let parts = and_parts (not (is_gone u id.client)) (nat_le (first_number u id.client) id.seq) k in
    let here : is_gone u id.client ≡ false = not-true _ parts.0 in
    let low : nat_le (first_number u id.client) id.seq ≡ true = parts.1 in
    and_from _ _ (not_from_false _ (go (is_gone t id.client) refl here)) (grind (arith, nat_tests))
  where
    go : (b : Bool) → is_gone t id.client ≡ b → is_gone u id.client ≡ false → b ≡ false
    go true e here = absurd (cc (gone e))
    go false e here = refl

-- what is of use once a client has acknowledged isn't below its number
pub first_raised : (firsts : List (ℕ × ℕ)) (client first : ℕ) → first ≤ unwrap_or (find nat_cmp client (raise_first firsts client first)) 0
first_raised firsts client zero = omega arith
first_raised firsts client (suc n) =
    subst (λ (o : Option ℕ). suc n ≤ unwrap_or o 0) (sym (find-put nat_cmp nat_cmp_total client client _ firsts)) (go (eq_by_cmp nat_cmp client client) (same_number client))
  where
    same_number : (k : ℕ) → eq_by_cmp nat_cmp k k ≡ true
    same_number k = grind (arith, nat_tests)

    go : (b : Bool) → b ≡ true → suc n ≤ unwrap_or (cond b (Some (max (suc n) (unwrap_or (find nat_cmp client firsts) 0))) (find nat_cmp client firsts)) 0
    go true e = omega arith
    go false e = absurd cc

pub not_below : (t : Table) (id : RequestId) (client first : ℕ) → is_of_use (acknowledge t client first) id ≡ true → not (is_below client first id) ≡ true
not_below t id client first k = go (id.client == client) refl (nat_lt id.seq first) refl
  where
    go : (c : Bool) → (id.client == client) ≡ c → (l : Bool) → nat_lt id.seq first ≡ l → not (c && l) ≡ true
    go true same true low =
        let parts = and_parts (not (is_gone t id.client)) (nat_le (first_number (acknowledge t client first) id.client) id.seq) k in
        let is : id.client ≡ client = grind (arith, nat_tests) in
        let raised : first ≤ first_number (acknowledge t client first) id.client = subst (λ (x : ℕ). first ≤ unwrap_or (find nat_cmp x (raise_first t.firsts client first)) 0) (sym is) (first_raised t.firsts client first) in
        absurd (grind (arith, nat_tests))
    go true same false high = refl
    go false other l e = refl

-- and what is of use once a client is gone isn't that client's
gone_now : (gone : List ℕ) (k : ℕ) → list_any (λ c. c == k) (insert_key nat_cmp gone k) ≡ true
gone_now [] k = or_left (k == k) false (same_number k)
gone_now (x ∷ gone) k = go (nat_cmp k x) refl (gone_now gone k)
  where
    go : (r : Ordering) → nat_cmp k x ≡ r → list_any (λ c. c == k) (insert_key nat_cmp gone k) ≡ true
        → list_any (λ c. c == k) (match_ordering r (k ∷ x ∷ gone) (x ∷ gone) (x ∷ insert_key nat_cmp gone k)) ≡ true
    go Less e ih = or_left (k == k) _ (same_number k)
    go Equal e ih = or_left (x == k) _ (let same : k ≡ x = nat_cmp-IsAntisymmetric k x e in grind (arith, nat_tests))
    go Greater e ih = or_right (x == k) _ ih

not_gone : (t : Table) (id : RequestId) (client : ℕ) → is_of_use (expire t client) id ≡ true → not (id.client == client) ≡ true
not_gone t id client k = go (id.client == client) refl
  where
    go : (c : Bool) → (id.client == client) ≡ c → not c ≡ true
    go true same =
        let parts = and_parts (not (is_gone (expire t client) id.client)) (nat_le (first_number t id.client) id.seq) k in
        let is : id.client ≡ client = grind (arith, nat_tests) in
        absurd (cc (not-true _ parts.0, subst (λ (x : ℕ). list_any (λ c. c == x) (insert_key nat_cmp t.gone client) ≡ true) (sym is) (gone_now t.gone client)))
    go false other = refl

-- ---- each change keeps what a table has

-- what a look-up finds once an id is noted
pub found_noted : (t : Table) (id other : RequestId) (a : Answer) (index : ℕ)
    → find id_cmp id (note t other a index).records ≡ cond (eq_by_cmp id_cmp id other) (Some (record { answer = a; index = index })) (find id_cmp id t.records)
found_noted t id other a index = find-put id_cmp ids_total id other (record { answer = a; index = index }) t.records

-- and once only what is of use is kept
found_kept : (t : Table) (id : RequestId) → is_of_use t id ≡ true → find id_cmp id (of_use t).records ≡ find id_cmp id t.records
found_kept t id k =
    find-where_key id_cmp (is_of_use t) id (λ x e. ap (is_of_use t) (sym (ids_same id x e))) t.records ∙ ap (λ (b : Bool). cond b (find id_cmp id t.records) None) k

module _ (id : RequestId) (P : Noted → Type 0) where
  pub has_note : (t : Table) (other : RequestId) (a : Answer) (index : ℕ) → (eq_by_cmp id_cmp id other ≡ true → P (record { answer = a; index = index })) → (eq_by_cmp id_cmp id other ≡ false → Has t id P)
      → Has (note t other a index) id P
  has_note t other a index own has k =
      subst (λ (o : Option Noted). IsSomeAnd o P) (sym (found_noted t id other a index))
      (cond_both (eq_by_cmp id_cmp id other) _ _ (λ (o : Option Noted). IsSomeAnd o P) own (λ apart. has apart k))

  pub has_only : (t : Table) → Has t id P → Has (of_use t) id P
  has_only t has k = subst (λ (o : Option Noted). IsSomeAnd o P) (sym (found_kept t id k)) (has k)

  -- records are dropped of which the test says so, but not that of this id
  has_where : (t : Table) (test : RequestId → Bool) → Has t id P → test id ≡ true → (is_of_use t id ≡ true → IsSomeAnd (find id_cmp id (filter (λ (e : RequestId × Noted). test e.0) t.records)) P)
  has_where t test has passes k =
      subst (λ (o : Option Noted). IsSomeAnd o P)
      (sym (find-where_key id_cmp test id (λ x e. ap test (sym (ids_same id x e))) t.records ∙ ap (λ (b : Bool). cond b (find id_cmp id t.records) None) passes)) (has k)

  pub has_acknowledge : (t : Table) (client first : ℕ) → Has t id P → Has (acknowledge t client first) id P
  has_acknowledge t client first has k =
      let before = kept_before t (acknowledge t client first) id (λ e. e) (first_rises t.firsts client first id.client) k in
      has_where t (λ (x : RequestId). not (is_below client first x)) has (not_below t id client first k) before

  pub has_expire : (t : Table) (client : ℕ) → Has t id P → Has (expire t client) id P
  has_expire t client has k =
      let before = kept_before t (expire t client) id (gone_stays t.gone client id.client) (omega arith) k in
      has_where t (λ (x : RequestId). not (x.client == client)) has (not_gone t id client k) before

  has_once : (t : Table) (other : RequestId) (a : Answer) (index : ℕ) (o : Option Noted) → find id_cmp other t.records ≡ o → Has t id P → Has (note_once index o t other a) id P
  has_once t other a index (Some noted) e has k = has k
  has_once t other a index None e has k = has_note t other a index
      (λ same. absurd (subst (λ (o : Option Noted). IsSomeAnd o P) (ap (λ (x : RequestId). find id_cmp x t.records) (tells_apart ids_same id other same) ∙ e) (has k)))
      (λ apart. has) k

  has_all : (index : ℕ) (es : List (RequestId × Answer)) (t : Table) → Has t id P → Has (fold (λ (u : Table) (e : RequestId × Answer). note_once index (find id_cmp e.0 u.records) u e.0 e.1) t es) id P
  has_all index [] t has = has
  has_all index (e ∷ es) t has = has_all index es (note_once index (find id_cmp e.0 t.records) t e.0 e.1) (has_once t e.0 e.1 index (find id_cmp e.0 t.records) refl has)

  pub has_merge : (t : Table) (part : TablePart) (index : ℕ) → Has t id P → Has (merge t part index) id P
  unfolding merge
  has_merge t part index has =
      let noted = fold (λ (u : Table) (e : RequestId × Answer). note_once index (find id_cmp e.0 u.records) u e.0 e.1) t part.records in
      let raised = fold (λ (firsts : List (ℕ × ℕ)) (e : ℕ × ℕ). raise_first firsts e.0 e.1) noted.firsts part.firsts in
      let gone = fold (insert_key nat_cmp) noted.gone part.gone in
      let u : Table = record { records = noted.records; firsts = raised; gone = gone } in
      has_only u (λ k. has_all index part.records t has (kept_before noted u id (all_gone_stay part.gone noted.gone id.client) (firsts_rise part.firsts noted.firsts id.client) k))

-- ---- another id that is noted, and acknowledges nothing, is no matter to the check

-- nothing is below 0
none_below : (client : ℕ) (id : RequestId) → not (is_below client 0 id) ≡ true
none_below client id = go (id.client == client) (nat_lt id.seq 0) (grind (arith, nat_tests))
  where
    go : (c l : Bool) → l ≡ false → not (c && l) ≡ true
    go true true e = absurd cc
    go true false e = refl
    go false l e = refl

check_none : (t : Table) (id : RequestId) (client : ℕ) → check (acknowledge t client 0) id ≡ check t id
unfolding check
check_none t id client =
    ap (λ (o : Option Noted). if is_gone t id.client then Expired else if nat_lt id.seq (first_number t id.client) then Stale (first_number t id.client) else known o)
    (find-where_key id_cmp (λ (x : RequestId). not (is_below client 0 x)) id (λ x e. ap (λ (y : RequestId). not (is_below client 0 y)) (sym (ids_same id x e))) t.records
    ∙ ap (λ (b : Bool). cond b (find id_cmp id t.records) None) (none_below client id))

check_noted : (t : Table) (id other : RequestId) (a : Answer) (index : ℕ) → eq_by_cmp id_cmp id other ≡ false → check (note t other a index) id ≡ check t id
unfolding check
check_noted t id other a index apart =
    ap (λ (o : Option Noted). if is_gone t id.client then Expired else if nat_lt id.seq (first_number t id.client) then Stale (first_number t id.client) else known o)
    (found_noted t id other a index ∙ ap (λ (b : Bool). cond b (Some (record { answer = a; index = index })) (find id_cmp id t.records)) apart)

pub check_other : (t : Table) (id other : RequestId) (a : Answer) (index client : ℕ) → eq_by_cmp id_cmp id other ≡ false → check (acknowledge (note t other a index) client 0) id ≡ check t id
check_other t id other a index client apart = check_none (note t other a index) id client ∙ check_noted t id other a index apart

pub greater_back : (a b : RequestId) → id_cmp a b ≡ Less → id_cmp b a ≡ Greater
greater_back a b e = ids_total.antisymm b a ∙ ap ordering_reverse e

pub less_not_self : (a b : RequestId) → id_cmp a b ≡ Less → a ≡ b → ⊥
less_not_self a b e same =
    let tied : id_cmp a b ≡ Equal = subst (λ (x : RequestId). id_cmp a x ≡ Equal) same (tied_itself ids_total a) in
    let no : Less ≡ Equal = sym e ∙ tied in
    absurd cc

pub less_not_same : (a b : RequestId) → id_cmp a b ≡ Less → same_id a b ≡ false
less_not_same a b e = apart_not_same a b (less_not_self a b e)
