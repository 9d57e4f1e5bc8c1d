-- What a reply table knows of a request, through each change, and through a migration.
use Rattle.std.proofs.Common.{◌≡◌, inl, inr, ◌≤◌, ◌<◌, ℕ, zero, suc, ◌==◌, ◌||◌, not, nat_le, nat_lt, Bool, true, false, cond, if◌then◌else◌, List, [], ◌∷◌, fold, map, Option, Some, None, unwrap_or, refl, ap, sym, ◌∙◌, subst, arith}
use Rattle.std.specs.Bool.{⊤}
use Rattle.std.specs.BTreeSet.{insert_key}
use Rattle.std.specs.FinMap.{nat_cmp-IsAntisymmetric}
use Rattle.std.specs.FinMap.Entries.{find}
use Rattle.std.specs.List.{list_any}
use Rattle.std.specs.Option.{IsSomeAnd}
use Rattle.std.specs.Ordering.{nat_cmp, eq_by_cmp, is_eq, match_ordering}
use Rattle.std.specs.declared.cmp.Ordering.{Ordering}
use Rattle.std.specs.declared.cmp.Ordering.TheVariants.{Less, Equal, Greater}
use Rattle.std.proofs.lemmas.Bool.{and_from, and_parts, or_left, or_right, not-true}
use Rattle.std.proofs.lemmas.Bool.Decides.{nat_tests}
use Rattle.std.proofs.lemmas.Cmp.{tied_itself}
use Rattle.std.proofs.lemmas.Map.Views.{tells_apart}
use Rattle.curp_base.specs.Words.{At}
use Rattle.curp_cmd.specs.RequestId.{id_cmp}
use Rattle.curp_cmd.specs.declared.command.Answer.{Answer}
use Rattle.curp_cmd.specs.declared.command.RequestId.{RequestId}
use Rattle.curp_cmd.specs.declared.migration.TablePart.{TablePart}
use Rattle.curp_model.specs.declared.Check.TheVariants.{Expired, Stale, New}
use Rattle.curp_facts.specs.Facts.{IsAmong}
use Rattle.curp_model.specs.Table.{Noted, Table, check, known, is_gone, first_number, is_of_use, note_once, raise_first, packed, merge}
use Rattle.curp_model.proofs.Tables.{ids_total, ids_same, Has, has_note, has_only, has_merge, not_new, first_rises, kept_before, first_raised}
use Rattle.curp_law_kept.specs.Standing.{Carries}

-- ---- numbers put in their places

any_inserted : (p : ℕ → Bool) (k : ℕ) (xs : List ℕ) → list_any p (insert_key nat_cmp xs k) ≡ (p k || list_any p xs)
any_inserted p k [] = refl
any_inserted p k (x ∷ xs) = go (nat_cmp k x) refl (any_inserted p k xs)
  where
    swap : (a b c : Bool) → (a || (b || c)) ≡ (b || (a || c))
    swap true true c = refl
    swap true false c = refl
    swap false b c = refl

    twice : (a b : Bool) → (a || b) ≡ (a || (a || b))
    twice true b = refl
    twice false b = refl

    go : (r : Ordering) → nat_cmp k x ≡ r → list_any p (insert_key nat_cmp xs k) ≡ (p k || list_any p xs)
        → list_any p (match_ordering r (k ∷ x ∷ xs) (x ∷ xs) (x ∷ insert_key nat_cmp xs k)) ≡ (p k || (p x || list_any p xs))
    go Less e ih = refl
    go Equal e ih = twice (p x) (list_any p xs) ∙ ap (λ (y : ℕ). p y || (p x || list_any p xs)) (sym (nat_cmp-IsAntisymmetric k x e))
    go Greater e ih = ap (λ (b : Bool). p x || b) ih ∙ swap (p x) (p k) (list_any p xs)

-- some of the numbers that are there, or that come
pub any_folded : (p : ℕ → Bool) (ks xs : List ℕ) → list_any p (fold (insert_key nat_cmp) xs ks) ≡ (list_any p ks || list_any p xs)
any_folded p [] xs = refl
any_folded p (k ∷ ks) xs = any_folded p ks (insert_key nat_cmp xs k) ∙ ap (λ (b : Bool). list_any p ks || b) (any_inserted p k xs) ∙ turn (list_any p ks) (p k) (list_any p xs)
  where
    turn : (a b c : Bool) → (a || (b || c)) ≡ ((b || a) || c)
    turn true true c = refl
    turn true false c = refl
    turn false true c = refl
    turn false false c = refl

-- ---- the check of what is there

abbrev pub Any : Noted → Type 0
Any n = ⊤

-- a request is known to the table, or its client is gone or acknowledged it
abbrev pub Seen : Table → RequestId → Type 0
Seen t id = Has t id Any

pub some_any : (o : Option Noted) → (known o ≡ New → ⊥) → IsSomeAnd o Any
some_any None old = old refl
some_any (Some n) old = tt

kept_parts : (t : Table) (id : RequestId) → is_of_use t id ≡ true → (is_gone t id.client ≡ false) × (nat_lt id.seq (first_number t id.client) ≡ false)
kept_parts t id k =
    let parts = and_parts (not (is_gone t id.client)) (nat_le (first_number t id.client) id.seq) k in
    (not-true _ parts.0, let low : nat_le (first_number t id.client) id.seq ≡ true = parts.1 in grind (arith, nat_tests))

-- what is of use is checked by its record
pub check_kept : (t : Table) (id : RequestId) → is_of_use t id ≡ true → check t id ≡ known (find id_cmp id t.records)
unfolding check
check_kept t id k =
    let p = kept_parts t id k in
    ap (λ (b : Bool). if b then Expired else if nat_lt id.seq (first_number t id.client) then Stale (first_number t id.client) else known (find id_cmp id t.records)) p.0
    ∙ ap (λ (b : Bool). if b then Stale (first_number t id.client) else known (find id_cmp id t.records)) p.1

-- what isn't new is seen, and the other way round
pub seen_from : (t : Table) (id : RequestId) → (check t id ≡ New → ⊥) → Seen t id
seen_from t id old k = some_any (find id_cmp id t.records) (λ e. old (check_kept t id k ∙ e))

-- and what is seen is not new
pub seen_old : (t : Table) (id : RequestId) → Seen t id → check t id ≡ New → ⊥
seen_old t id seen = not_new t id Any seen

-- ---- what a record says

-- each record that a migration brings, once
abbrev pub noted_all : ℕ → List (RequestId × Answer) → Table → Table
noted_all index es t = fold (λ (u : Table) (e : RequestId × Answer). note_once index (find id_cmp e.0 u.records) u e.0 e.1) t es

-- the record was there, or is one of those brought
abbrev pub IsBroughtBy : List (RequestId × Answer) → ℕ → RequestId → Noted → Type 0
IsBroughtBy es index id n = (n.index ≡ index) × IsAmong {A = RequestId × Answer} (id, n.answer) es

-- ---- a migration takes along what is known

first_of_found : (id : RequestId) (t : Table) (n : Noted) → find id_cmp id t.records ≡ Some n → (a : Answer) × IsAmong {A = RequestId × Answer} (id, a) (packed t).records
first_of_found id t n f = go t.records f
  where
    go : (es : List (RequestId × Noted)) → find id_cmp id es ≡ Some n → (a : Answer) × IsAmong {A = RequestId × Answer} (id, a) (map (λ (e : RequestId × Noted). (e.0, e.1.answer)) es)
    go [] f = absurd cc
    go (e ∷ es) f = at_first (eq_by_cmp id_cmp id e.0) refl f (go es)
      where
        at_first : (b : Bool) → eq_by_cmp id_cmp id e.0 ≡ b → cond b (Some e.1) (find id_cmp id es) ≡ Some n
            → (find id_cmp id es ≡ Some n → (a : Answer) × IsAmong {A = RequestId × Answer} (id, a) (map (λ (e : RequestId × Noted). (e.0, e.1.answer)) es))
            → (a : Answer) × IsAmong {A = RequestId × Answer} (id, a) ((e.0, e.1.answer) ∷ map (λ (e : RequestId × Noted). (e.0, e.1.answer)) es)
        at_first true same f rest = (e.1.answer, record { place = 0; stands = λ i. Some (sym (tells_apart ids_same id e.0 same) i, e.1.answer) })
        at_first false same f rest = let r = rest f in (r.0, record { place = suc r.1.place; stands = r.1.stands })

some_of : (o : Option Noted) → IsSomeAnd o Any → (n : Noted) × (o ≡ Some n)
some_of None s = absurd s
some_of (Some n) s = (n, refl)

-- what a table knows goes along
pub packed_carries : (t : Table) (id : RequestId) → (check t id ≡ New → ⊥) → Carries (packed t) id
packed_carries t id old = go (is_gone t id.client) refl (nat_lt id.seq (first_number t id.client)) refl
  where
    go : (g : Bool) → is_gone t id.client ≡ g → (l : Bool) → nat_lt id.seq (first_number t id.client) ≡ l → Carries (packed t) id
    go true g l e = inl g
    go false g true e = inr (inl (grind (arith, nat_tests)))
    go false g false e =
        let kept : is_of_use t id ≡ true = kept_from g e in
        let s = some_of (find id_cmp id t.records) (seen_from t id old kept) in
        inr (inr (first_of_found id t s.0 s.1))
      where
        kept_from : is_gone t id.client ≡ false → nat_lt id.seq (first_number t id.client) ≡ false → is_of_use t id ≡ true
        kept_from g e = and_from _ _ (ap not g) (grind (arith, nat_tests))

-- ---- and what it takes along is known behind it

seen_once : (index : ℕ) (t : Table) (e : RequestId × Answer) (id : RequestId) (o : Option Noted) → Seen t id → Seen (note_once index o t e.0 e.1) id
seen_once index t e id (Some noted) seen = seen
seen_once index t e id None seen = has_note id Any t e.0 e.1 index (λ same. tt) (λ apart. seen)

seen_all : (index : ℕ) (es : List (RequestId × Answer)) (t : Table) (id : RequestId) → Seen t id → Seen (noted_all index es t) id
seen_all index [] t id seen = seen
seen_all index (e ∷ es) t id seen = seen_all index es (note_once index (find id_cmp e.0 t.records) t e.0 e.1) id (seen_once index t e id (find id_cmp e.0 t.records) seen)

own_once : (index : ℕ) (t : Table) (id : RequestId) (a : Answer) (o : Option Noted) → find id_cmp id t.records ≡ o → Seen (note_once index o t id a) id
own_once index t id a (Some noted) found = λ k. subst (λ (o : Option Noted). IsSomeAnd o Any) (sym found) tt
own_once index t id a None found = has_note id Any t id a index (λ same. tt) (λ apart. absurd (cc (apart, ap is_eq (tied_itself ids_total id))))

brought_seen : (index : ℕ) (es : List (RequestId × Answer)) (t : Table) (id : RequestId) (a : Answer) (k : ℕ) → At es k (id, a) → Seen (noted_all index es t) id
brought_seen index [] t id a k at = absurd cc
brought_seen index (e ∷ es) t id a zero at =
    let same : e ≡ (id, a) = cc in
    seen_all index es (note_once index (find id_cmp e.0 t.records) t e.0 e.1) id
    (subst (λ (x : RequestId × Answer). Seen (note_once index (find id_cmp x.0 t.records) t x.0 x.1) id) (sym same) (own_once index t id a (find id_cmp id t.records) refl))
brought_seen index (e ∷ es) t id a (suc k) at = brought_seen index es (note_once index (find id_cmp e.0 t.records) t e.0 e.1) id a k at

abbrev raised_all : List (ℕ × ℕ) → List (ℕ × ℕ) → List (ℕ × ℕ)
raised_all firsts es = fold (λ (fs : List (ℕ × ℕ)) (e : ℕ × ℕ). raise_first fs e.0 e.1) firsts es

firsts_rise : (es firsts : List (ℕ × ℕ)) (q : ℕ) → unwrap_or (find nat_cmp q firsts) 0 ≤ unwrap_or (find nat_cmp q (raised_all firsts es)) 0
firsts_rise [] firsts q = omega arith
firsts_rise (e ∷ es) firsts q = omega (arith, first_rises firsts e.0 e.1 q, firsts_rise es (raise_first firsts e.0 e.1) q)

firsts_raised : (es firsts : List (ℕ × ℕ)) (q : ℕ) → unwrap_or (find nat_cmp q es) 0 ≤ unwrap_or (find nat_cmp q (raised_all firsts es)) 0
firsts_raised [] firsts q = omega arith
firsts_raised (e ∷ es) firsts q = go (eq_by_cmp nat_cmp q e.0) refl (firsts_raised es (raise_first firsts e.0 e.1) q)
  where
    go : (b : Bool) → eq_by_cmp nat_cmp q e.0 ≡ b → unwrap_or (find nat_cmp q es) 0 ≤ unwrap_or (find nat_cmp q (raised_all (raise_first firsts e.0 e.1) es)) 0
        → unwrap_or (cond b (Some e.1) (find nat_cmp q es)) 0 ≤ unwrap_or (find nat_cmp q (raised_all (raise_first firsts e.0 e.1) es)) 0
    go true same ih =
        let is : q ≡ e.0 = tells_apart nat_cmp-IsAntisymmetric q e.0 same in
        let own : e.1 ≤ unwrap_or (find nat_cmp q (raise_first firsts e.0 e.1)) 0 = subst (λ (x : ℕ). e.1 ≤ unwrap_or (find nat_cmp q (raise_first firsts x e.1)) 0) is (first_raised firsts q e.1) in
        omega (arith, own, firsts_rise es (raise_first firsts e.0 e.1) q)
    go false same ih = ih

-- a table that says of a request that its client is gone, or that it is acknowledged, has seen it
gone_seen : (t : Table) (id : RequestId) → is_gone t id.client ≡ true → Seen t id
gone_seen t id gone k = absurd (cc (gone, (kept_parts t id k).0))

acknowledged_seen : (t : Table) (id : RequestId) → id.seq < first_number t id.client → Seen t id
acknowledged_seen t id l k = let no_less = (kept_parts t id k).1 in absurd (grind (arith, nat_tests))

records_seen : (t u : Table) (id : RequestId) → u.records ≡ t.records → (is_gone t id.client ≡ true → is_gone u id.client ≡ true) → first_number t id.client ≤ first_number u id.client → Seen t id → Seen u id
records_seen t u id same gone rises seen k = subst (λ (es : List (RequestId × Noted)). IsSomeAnd (find id_cmp id es) Any) (sym same) (seen (kept_before t u id gone rises k))

-- what goes along is known where it is given
pub merge_known : (t : Table) (part : TablePart) (index : ℕ) (id : RequestId) → Carries part id → check (merge t part index) id ≡ New → ⊥
unfolding merge
merge_known t part index id carries =
    let noted = noted_all index part.records t in
    let raised = raised_all noted.firsts part.firsts in
    let gone = fold (insert_key nat_cmp) noted.gone part.gone in
    let u : Table = record { records = noted.records; firsts = raised; gone = gone } in
    let all_gone : is_gone u id.client ≡ (list_any (λ c. c == id.client) part.gone || is_gone noted id.client) = any_folded (λ c. c == id.client) part.gone noted.gone in
    seen_old (merge t part index) id (has_only id Any u (elim carries [
      | inl g ↦ gone_seen u id (all_gone ∙ or_left _ _ g)
      | inr more ↦ elim more [
        | inl low ↦ acknowledged_seen u id (omega (arith, low, firsts_raised part.firsts noted.firsts id.client))
        | inr r ↦ records_seen noted u id refl (λ g. all_gone ∙ or_right (list_any (λ c. c == id.client) part.gone) _ g) (firsts_rise part.firsts noted.firsts id.client)
            (brought_seen index part.records t id r.0 r.1.place r.1.stands)
      ]
    ]))
