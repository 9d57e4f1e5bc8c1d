-- Each record of a log's table stands in the log.
use Rattle.std.proofs.Common.{◌≡◌, ◌⊎◌, inl, inr, ◌==◌, not, Bool, true, false, cond, ℕ, zero, suc, List, [], ◌∷◌, ◌++◌, fold, length, take, Option, Some, None, refl, ap, sym, ◌∙◌, subst, append_assoc, append-nil}
use Rattle.std.specs.BTreeSet.{insert_key}
use Rattle.std.specs.FinMap.Entries.{by_order, find, put}
use Rattle.std.specs.List.{filter}
use Rattle.std.specs.Ordering.{nat_cmp, is_eq, eq_by_cmp}
use Rattle.std.specs.declared.cmp.Ordering.{Ordering}
use Rattle.std.specs.declared.cmp.Ordering.TheVariants.{Less, Equal, Greater}
use Rattle.std.proofs.Math.Seq.{take-append_seam}
use Rattle.std.proofs.lemmas.Map.Views.{tells_apart}
use Rattle.curp_base.specs.Words.{At}
use Rattle.curp_base.proofs.Lists.{at_push, prefix_push}
use Rattle.curp_cmd.specs.RequestId.{id_cmp}
use Rattle.curp_cmd.specs.Store.{applied}
use Rattle.curp_cmd.specs.declared.command.Answer.{Answer}
use Rattle.curp_cmd.specs.declared.command.Request.{Request}
use Rattle.curp_cmd.specs.declared.command.RequestId.{RequestId}
use Rattle.curp_cmd.specs.declared.entry.Entry.{Entry}
use Rattle.curp_cmd.specs.declared.entry.Entry.TheVariants.{Op, Take, Give, Expire}
use Rattle.curp_cmd.specs.declared.migration.Package.{Package}
use Rattle.curp_cmd.specs.declared.migration.TablePart.{TablePart}
use Rattle.curp_facts.specs.Facts.{IsAmong}
use Rattle.curp_model.specs.Log.{LogState, after_entry, answer_after, meaning}
use Rattle.curp_model.specs.Table.{Noted, Table, is_below, is_of_use, merge, note, note_once, raise_first}
use Rattle.curp_model.proofs.Logs.{meaning_append}
use Rattle.curp_model.proofs.Tables.{ids_same}
use Rattle.curp_law_kept.specs.Standing.{StandsHere}
use Rattle.curp_law_kept.proofs.Standings.{stands_longer}
use Rattle.curp_law_kept.proofs.Tables.{IsBroughtBy, noted_all}
use Rattle.curp_base.proofs.Numbered.{filter_at}

-- the first, or one behind it
among_cases : {A : Type 0} (x y : A) (ys : List A) → IsAmong x (y ∷ ys) → (y ≡ x) ⊎ IsAmong x ys
among_cases {A} x y ys a = go a.place a.stands
  where
    go : (k : ℕ) → At (y ∷ ys) k x → (y ≡ x) ⊎ IsAmong x ys
    go zero at = inl cc
    go (suc k) at = inr (record { place = k; stands = at })

abbrev among_later : {A : Type 0} (x y : A) (ys : List A) → IsAmong x ys → IsAmong x (y ∷ ys)
among_later x y ys a = record { place = suc a.place; stands = a.stands }

filter_among : {A : Type 0} (p : A → Bool) (xs : List A) (x : A) → IsAmong x (filter p xs) → IsAmong x xs
filter_among p xs x a = let was = filter_at p xs a.place x a.stands in record { place = was.0; stands = was.1 }

-- a line of records
abbrev Line : Type 0
Line = RequestId × Noted

-- a record that is found
pub found_among : (id : RequestId) (es : List Line) (n : Noted) → find id_cmp id es ≡ Some n → IsAmong {A = Line} (id, n) es
found_among id [] n f = absurd cc
found_among id (e ∷ es) n f = at_first (eq_by_cmp id_cmp id e.0) refl f (found_among id es n)
  where
    at_first : (b : Bool) → eq_by_cmp id_cmp id e.0 ≡ b → cond b (Some e.1) (find id_cmp id es) ≡ Some n
        → (find id_cmp id es ≡ Some n → IsAmong {A = Line} (id, n) es) → IsAmong {A = Line} (id, n) (e ∷ es)
    at_first true same f rest = let value : e.1 ≡ n = cc in record { place = 0; stands = λ i. Some (sym (tells_apart ids_same id e.0 same) i, value i) }
    at_first false same f rest = among_later (id, n) e es (rest f)

-- a record is the one that is put, or was there
put_among : (id : RequestId) (n : Noted) (es : List Line) (x : Line) → IsAmong x (put id_cmp id n es) → (x ≡ (id, n)) ⊎ IsAmong x es
put_among id n [] x a = elim (among_cases x (id, n) [] a) [ inl own ↦ inl (sym own) | inr more ↦ inr more ]
put_among id n (e ∷ es) x a = go (id_cmp id e.0) refl a (put_among id n es x)
  where
    go : (o : Ordering) → id_cmp id e.0 ≡ o → IsAmong x (by_order o ((id, n) ∷ e ∷ es) ((e.0, n) ∷ es) (e ∷ put id_cmp id n es)) → (IsAmong x (put id_cmp id n es) → (x ≡ (id, n)) ⊎ IsAmong x es)
        → (x ≡ (id, n)) ⊎ IsAmong x (e ∷ es)
    go Less is a more = elim (among_cases x (id, n) (e ∷ es) a) [ inl own ↦ inl (sym own) | inr old ↦ inr old ]
    go Equal is a more = elim (among_cases x (e.0, n) es a) [
      | inl own ↦ let same : id ≡ e.0 = tells_apart ids_same id e.0 (ap is_eq is) in inl (sym own ∙ ap (λ (k : RequestId). (k, n)) (sym same))
      | inr old ↦ inr (among_later x e es old)
    ]
    go Greater is a more = elim (among_cases x e (put id_cmp id n es) a) [
      | inl first ↦ inr (record { place = 0; stands = ap Some first })
      | inr later ↦ elim (more later) [ inl own ↦ inl own | inr old ↦ inr (among_later x e es old) ]
    ]

-- a record is one of those that are noted, or was there
all_among : (index : ℕ) (es : List (RequestId × Answer)) (t : Table) (id : RequestId) (n : Noted) → IsAmong {A = Line} (id, n) (noted_all index es t).records
    → IsBroughtBy es index id n ⊎ IsAmong {A = Line} (id, n) t.records
all_among index [] t id n a = inr a
all_among index (e ∷ es) t id n a = elim (all_among index es (note_once index (find id_cmp e.0 t.records) t e.0 e.1) id n a) [
  | inl later ↦ inl (later.0, record { place = suc later.1.place; stands = later.1.stands })
  | inr old ↦ once (find id_cmp e.0 t.records) old
]
  where
    once : (o : Option Noted) → IsAmong {A = Line} (id, n) (note_once index o t e.0 e.1).records → IsBroughtBy (e ∷ es) index id n ⊎ IsAmong {A = Line} (id, n) t.records
    once (Some noted) a = inr a
    once None a = elim (put_among e.0 (record { answer = e.1; index = index }) t.records (id, n) a) [
      | inl own ↦
          let its : n ≡ record { answer = e.1; index = index } = ap (λ (x : Line). x.1) own in
          let key : id ≡ e.0 = ap (λ (x : Line). x.0) own in
          inl (ap (λ (m : Noted). m.index) its, record { place = 0; stands = λ i. Some (sym key i, sym (ap (λ (m : Noted). m.answer) its) i) })
      | inr old ↦ inr old
    ]

merged_among : (t : Table) (part : TablePart) (index : ℕ) (id : RequestId) (n : Noted) → IsAmong {A = Line} (id, n) (merge t part index).records
    → IsBroughtBy part.records index id n ⊎ IsAmong {A = Line} (id, n) t.records
unfolding merge
merged_among t part index id n a =
    let noted = noted_all index part.records t in
    let raised = fold (λ (firsts : List (ℕ × ℕ)) (e : ℕ × ℕ). raise_first firsts e.0 e.1) noted.firsts part.firsts in
    let gone = fold (insert_key nat_cmp) noted.gone part.gone in
    all_among index part.records t id n (filter_among (λ (e : Line). is_of_use (record { records = noted.records; firsts = raised; gone = gone }) e.0) noted.records (id, n) a)

-- ---- through each entry

abbrev AmongRecords : LogState → RequestId → Noted → Type 0
AmongRecords s id n = IsAmong {A = Line} (id, n) s.table.records

after_op_among : (s : LogState) (k : ℕ) (r : Request) (acknowledged : ℕ) (id : RequestId) (n : Noted) → AmongRecords (after_entry s k (Op r acknowledged)) id n
    → ((id ≡ r.id) × ((record { answer = (applied s.store r.command).answer; index = k }) ≡ n)) ⊎ AmongRecords s id n
unfolding after_entry
after_op_among s k r acknowledged id n a =
    let new : Noted = record { answer = (applied s.store r.command).answer; index = k } in
    let noted = note s.table r.id new.answer new.index in
    elim (put_among r.id new s.table.records (id, n) (filter_among (λ (e : Line). not (is_below r.id.client acknowledged e.0)) noted.records (id, n) a)) [
      | inl own ↦ inl (ap (λ (x : Line). x.0) own, sym (ap (λ (x : Line). x.1) own))
      | inr old ↦ inr old
    ]

after_take_among : (s : LogState) (k migration : ℕ) (p : Package) (id : RequestId) (n : Noted) → AmongRecords (after_entry s k (Take migration p)) id n → AmongRecords s id n
unfolding after_entry
after_take_among s k migration p id n a = a

after_give_among : (s : LogState) (k migration : ℕ) (p : Package) (id : RequestId) (n : Noted) → AmongRecords (after_entry s k (Give migration p)) id n
    → IsBroughtBy p.table.records k id n ⊎ AmongRecords s id n
unfolding after_entry
after_give_among s k migration p id n a = merged_among s.table p.table k id n a

after_expire_among : (s : LogState) (k client : ℕ) (id : RequestId) (n : Noted) → AmongRecords (after_entry s k (Expire client)) id n → AmongRecords s id n
unfolding after_entry
after_expire_among s k client id n a = filter_among (λ (e : Line). not (e.0.client == client)) s.table.records (id, n) a

-- ---- through a log

-- each record stands in the log
abbrev IsRecorded : ℕ → ℕ → List Entry → Type 0
IsRecorded lo hi log = (id : RequestId) (n : Noted) → AmongRecords (meaning lo hi log) id n → StandsHere lo hi log n.index id n.answer

-- one entry more
recorded_push : (lo hi : ℕ) (log : List Entry) (e : Entry) → IsRecorded lo hi log → IsRecorded lo hi (log ++ e ∷ [])
recorded_push lo hi log e ok id n among = by_entry e (subst (λ (x : LogState). AmongRecords x id n) (meaning_append lo hi log (e ∷ [])) among)
  where
    before : (e : Entry) → AmongRecords (meaning lo hi log) id n → StandsHere lo hi (log ++ e ∷ []) n.index id n.answer
    before e old = stands_longer lo hi log (log ++ e ∷ []) n.index id n.answer (prefix_push log (e ∷ [])) (ok id n old)

    by_entry : (e : Entry) → AmongRecords (after_entry (meaning lo hi log) (length log) e) id n → StandsHere lo hi (log ++ e ∷ []) n.index id n.answer
    by_entry (Op r acknowledged) a = elim (after_op_among (meaning lo hi log) (length log) r acknowledged id n a) [
      | inl own ↦
          let place : length log ≡ n.index = ap (λ (m : Noted). m.index) own.1 in
          let answer : answer_after lo hi log r.command ≡ n.answer = ap (λ (m : Noted). m.answer) own.1 in
          record {
            entry = Op r acknowledged;
            stands = at_push log (Op r acknowledged) n.index (sym place);
            tells = (sym own.0, ap (λ (k : ℕ). answer_after lo hi (take k (log ++ Op r acknowledged ∷ [])) r.command) (sym place) ∙ ap (λ (es : List Entry). answer_after lo hi es r.command) (take-append_seam log (Op r acknowledged ∷ [])) ∙ answer);
          }
      | inr old ↦ before (Op r acknowledged) old
    ]
    by_entry (Take migration taken) a = before (Take migration taken) (after_take_among (meaning lo hi log) (length log) migration taken id n a)
    by_entry (Give migration p) a = elim (after_give_among (meaning lo hi log) (length log) migration p id n a) [
      | inl own ↦ record { entry = Give migration p; stands = at_push log (Give migration p) n.index own.0; tells = own.1 }
      | inr old ↦ before (Give migration p) old
    ]
    by_entry (Expire client) a = before (Expire client) (after_expire_among (meaning lo hi log) (length log) client id n a)

recorded_more : (lo hi : ℕ) (log more : List Entry) → IsRecorded lo hi log → IsRecorded lo hi (log ++ more)
recorded_more lo hi log [] ok = subst (IsRecorded lo hi) (sym (append-nil log)) ok
recorded_more lo hi log (e ∷ es) ok = subst (IsRecorded lo hi) (append_assoc log (e ∷ []) es) (recorded_more lo hi (log ++ e ∷ []) es (recorded_push lo hi log e ok))

-- each record of a log's table stands in the log, at its index and with its answer
pub recorded : (lo hi : ℕ) (log : List Entry) → IsRecorded lo hi log
recorded lo hi log = recorded_more lo hi [] log (λ id n among. absurd (let at = among.stands in cc))
