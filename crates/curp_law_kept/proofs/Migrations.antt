-- What the state of a log knows of its takes and gives, whose numbers ascend, and what changes no range.
use Rattle.std.proofs.Common.{◌≡◌, ◌<◌, inl, inr, ℕ, suc, ◌+◌, List, [], ◌∷◌, ◌++◌, length, Option, Some, None, refl, ap, sym, ◌∙◌, subst, arith, append_assoc, append-nil}
use Rattle.std.proofs.lemmas.Bool.{cases_order}
use Rattle.curp_base.specs.Words.{At}
use Rattle.curp_base.proofs.Lists.{at_append, at_push, at_push_cases, at_within}
use Rattle.curp_cmd.specs.declared.entry.Entry.{Entry}
use Rattle.curp_cmd.specs.declared.entry.Entry.TheVariants.{Op, Take, Give, Expire}
use Rattle.curp_cmd.specs.declared.migration.Package.{Package}
use Rattle.curp_model.specs.Log.{LastGive, LastTake, LogState, after_entry, after_entries, meaning}
use Rattle.curp_model.proofs.Logs.{meaning_append}
use Rattle.curp_law_kept.specs.Migrations.{GivenIs, MovesNothing, NumbersAscend, TakenIs, give_number, take_number}

-- ---- a list, entry by entry

by_pushes : (P : List Entry → Type 0) → P [] → ((log : List Entry) (e : Entry) → P log → P (log ++ e ∷ [])) → (log : List Entry) → P log
by_pushes P none push log = go [] log none
  where
    go : (prefix back : List Entry) → P prefix → P (prefix ++ back)
    go prefix [] p = subst P (sym (append-nil prefix)) p
    go prefix (e ∷ back) p = subst P (append_assoc prefix (e ∷ []) back) (go (prefix ++ e ∷ []) back (push prefix e p))

-- ---- the last take

taken_other : (log : List Entry) (e : Entry) (o : Option LastTake) → take_number e ≡ None → TakenIs log o → TakenIs (log ++ e ∷ []) o
taken_other log e None other is = λ k migration p at. elim (at_push_cases log e k (Take migration p) at) [
  | inl old ↦ is k migration p old
  | inr new ↦ absurd (let bad : None ≡ Some migration = sym other ∙ ap take_number new.1 in cc)
]
taken_other log e (Some last) other is = (
  at_append log (e ∷ []) last.index (Take last.migration last.taken) is.0,
  λ k migration p at. elim (at_push_cases log e k (Take migration p) at) [
    | inl old ↦ is.1 k migration p old
    | inr new ↦ absurd (let bad : None ≡ Some migration = sym other ∙ ap take_number new.1 in cc)
  ],
)

taken_own : (log : List Entry) (migration : ℕ) (p : Package) → TakenIs (log ++ Take migration p ∷ []) (Some (record { migration = migration; taken = p; index = length log }))
taken_own log migration p = (
  at_push log (Take migration p) (length log) refl,
  λ k m x at. elim (at_push_cases log (Take migration p) k (Take m x) at) [
    | inl old ↦ let within : k < length log = at_within log k (Take m x) old in omega arith
    | inr new ↦ omega (arith, new.0)
  ],
)

taken_entry : (log : List Entry) (s : LogState) (e : Entry) → TakenIs log s.taken → TakenIs (log ++ e ∷ []) (after_entry s (length log) e).taken
unfolding after_entry
taken_entry log s (Op r acknowledged) is = taken_other log (Op r acknowledged) s.taken refl is
taken_entry log s (Take migration p) is = taken_own log migration p
taken_entry log s (Give migration p) is = taken_other log (Give migration p) s.taken refl is
taken_entry log s (Expire client) is = taken_other log (Expire client) s.taken refl is

-- the last take of the state is that of the log
pub taken_is : (lo hi : ℕ) (log : List Entry) → TakenIs log (meaning lo hi log).taken
taken_is lo hi log = by_pushes (λ log. TakenIs log (meaning lo hi log).taken) (λ k migration p at. absurd cc)
    (λ log e is. subst (λ (s : LogState). TakenIs (log ++ e ∷ []) s.taken) (sym (meaning_append lo hi log (e ∷ []))) (taken_entry log (meaning lo hi log) e is)) log

-- ---- the last give

given_other : (log : List Entry) (e : Entry) (o : Option LastGive) → give_number e ≡ None → GivenIs log o → GivenIs (log ++ e ∷ []) o
given_other log e None other is = λ k migration p at. elim (at_push_cases log e k (Give migration p) at) [
  | inl old ↦ is k migration p old
  | inr new ↦ absurd (let bad : None ≡ Some migration = sym other ∙ ap give_number new.1 in cc)
]
given_other log e (Some last) other is = (
  (is.0.0, at_append log (e ∷ []) last.index (Give last.migration is.0.0) is.0.1),
  λ k migration p at. elim (at_push_cases log e k (Give migration p) at) [
    | inl old ↦ is.1 k migration p old
    | inr new ↦ absurd (let bad : None ≡ Some migration = sym other ∙ ap give_number new.1 in cc)
  ],
)

given_own : (log : List Entry) (migration : ℕ) (p : Package) → GivenIs (log ++ Give migration p ∷ []) (Some (record { migration = migration; index = length log }))
given_own log migration p = (
  (p, at_push log (Give migration p) (length log) refl),
  λ k m x at. elim (at_push_cases log (Give migration p) k (Give m x) at) [
    | inl old ↦ let within : k < length log = at_within log k (Give m x) old in omega arith
    | inr new ↦ omega (arith, new.0)
  ],
)

given_entry : (log : List Entry) (s : LogState) (e : Entry) → GivenIs log s.given → GivenIs (log ++ e ∷ []) (after_entry s (length log) e).given
unfolding after_entry
given_entry log s (Op r acknowledged) is = given_other log (Op r acknowledged) s.given refl is
given_entry log s (Take migration p) is = given_other log (Take migration p) s.given refl is
given_entry log s (Give migration p) is = given_own log migration p
given_entry log s (Expire client) is = given_other log (Expire client) s.given refl is

-- the last give of the state is that of the log
pub given_is : (lo hi : ℕ) (log : List Entry) → GivenIs log (meaning lo hi log).given
given_is lo hi log = by_pushes (λ log. GivenIs log (meaning lo hi log).given) (λ k migration p at. absurd cc)
    (λ log e is. subst (λ (s : LogState). GivenIs (log ++ e ∷ []) s.given) (sym (meaning_append lo hi log (e ∷ []))) (given_entry log (meaning lo hi log) e is)) log

-- ---- numbers that ascend

-- a number stands once
pub numbers_once : (number : Entry → Option ℕ) (log : List Entry) → NumbersAscend number log → (i j m : ℕ) (d e : Entry) → At log i d → At log j e → number d ≡ Some m → number e ≡ Some m → i ≡ j
numbers_once number log ascend i j m d e at_i at_j is_d is_e = elim (cases_order i j) [
  | inl same ↦ same
  | inr apart ↦ elim apart [
    | inl below ↦ absurd (let less : m < m = ascend i j m m d e below at_i at_j is_d is_e in omega arith)
    | inr above ↦ absurd (let less : m < m = ascend j i m m e d above at_j at_i is_e is_d in omega arith)
  ]
]

-- so each take stands once
pub takes_once : (log : List Entry) → NumbersAscend take_number log → (i j number : ℕ) (k l : Package) → At log i (Take number k) → At log j (Take number l) → i ≡ j
takes_once log ascend i j number k l at_i at_j = numbers_once take_number log ascend i j number (Take number k) (Take number l) at_i at_j refl refl

-- and each give
pub gives_once : (log : List Entry) → NumbersAscend give_number log → (i j number : ℕ) (k l : Package) → At log i (Give number k) → At log j (Give number l) → i ≡ j
gives_once log ascend i j number k l at_i at_j = numbers_once give_number log ascend i j number (Give number k) (Give number l) at_i at_j refl refl

-- ---- the ranges

owned_other : (s : LogState) (k : ℕ) (e : Entry) → take_number e ≡ None → give_number e ≡ None → (after_entry s k e).owned ≡ s.owned
unfolding after_entry
owned_other s k (Op r acknowledged) t g = refl
owned_other s k (Take migration p) t g = absurd cc
owned_other s k (Give migration p) t g = absurd cc
owned_other s k (Expire client) t g = refl

owned_entries : (es : List Entry) (s : LogState) (k : ℕ) → MovesNothing es → (after_entries s k es).owned ≡ s.owned
owned_entries [] s k none = refl
owned_entries (e ∷ es) s k none = owned_entries es (after_entry s k e) (k + 1) (λ i x at. none (suc i) x at) ∙ owned_other s k e (none 0 e refl).0 (none 0 e refl).1

-- entries that neither take nor give leave what is owned, as a list
pub owned_more : (lo hi : ℕ) (log more : List Entry) → MovesNothing more → (meaning lo hi (log ++ more)).owned ≡ (meaning lo hi log).owned
owned_more lo hi log more none = ap (λ (s : LogState). s.owned) (meaning_append lo hi log more) ∙ owned_entries more (meaning lo hi log) (length log) none
