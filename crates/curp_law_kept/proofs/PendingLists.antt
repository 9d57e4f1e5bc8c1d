-- Lists of pending requests, as one comes, goes or is replaced.
use Rattle.std.proofs.Common.{◌≡◌, ℕ, zero, suc, ◌<◌, ◌≤◌, Bool, true, false, not, cond, List, [], ◌∷◌, ◌++◌, fold, min, Some, refl, ap, sym, ◌∙◌, subst, arith}
use Rattle.std.specs.List.{filter}
use Rattle.std.proofs.lemmas.Bool.{cond_both}
use Rattle.curp_base.specs.Words.{At, Each}
use Rattle.curp_base.proofs.Lists.{Each-append, at_map, Each-filter}
use Rattle.curp_cmd.specs.RequestId.{same_id}
use Rattle.curp_cmd.specs.declared.command.RequestId.{RequestId}
use Rattle.curp_cmd.proofs.Ids.{same_id-true}
use Rattle.curp_model.specs.Client.{Pending, replaced, with_id, without_id, NumbersRise}
use Rattle.curp_facts.specs.ClientNumbers.{IsPending}
use Rattle.curp_law_kept.proofs.ImagesOfLists.{first_at}
use Rattle.curp_base.proofs.Numbered.{filter_at}

-- ---- one comes

-- one with a higher number comes behind the others
pub rise_pushed : (pending : List Pending) (p : Pending) → NumbersRise pending → Each (λ (q : Pending). q.request.id.seq < p.request.id.seq) pending → NumbersRise (pending ++ p ∷ [])
rise_pushed [] p rise below = (tt, tt)
rise_pushed (q ∷ rest) p rise below =
    (Each-append (λ (s : Pending). q.request.id.seq < s.request.id.seq) rest (p ∷ []) rise.0 (below.0, tt), rise_pushed rest p rise.1 below.1)

-- ---- one goes

rise_filter : (t : Pending → Bool) (xs : List Pending) → NumbersRise xs → NumbersRise (filter t xs)
rise_filter t [] rise = tt
rise_filter t (x ∷ xs) rise = go (t x) (rise_filter t xs rise.1)
  where
    go : (b : Bool) → NumbersRise (filter t xs) → NumbersRise (cond b (x ∷ filter t xs) (filter t xs))
    go true rest = (Each-filter (λ (q : Pending). x.request.id.seq < q.request.id.seq) t xs rise.0, rest)
    go false rest = rest

-- those that are left still rise
pub rise_without : (pending : List Pending) (id : RequestId) → NumbersRise pending → NumbersRise (without_id id pending)
rise_without pending id rise = rise_filter (λ (p : Pending). not (same_id p.request.id id)) pending rise

-- what passes a test is left
filter_keeps : {A : Type 0} (t : A → Bool) (xs : List A) (k : ℕ) (x : A) → At xs k x → t x ≡ true → (j : ℕ) × At (filter t xs) j x
filter_keeps t [] k x h e = absurd cc
filter_keeps t (y ∷ xs) zero x h e = let same : y ≡ x = cc in let is : t y ≡ true = ap t same ∙ e in (zero, rw is (ap Some same))
filter_keeps {A} t (y ∷ xs) (suc k) x h e = go (t y) (filter_keeps t xs k x h e)
  where
    go : (b : Bool) → ((j : ℕ) × At (filter t xs) j x) → (j : ℕ) × At (cond b (y ∷ filter t xs) (filter t xs)) j x
    go true rest = (suc rest.0, rest.1)
    go false rest = rest

-- another stays pending
pub pending_without : (pending : List Pending) (id other : RequestId) → IsPending pending other → same_id other id ≡ false → IsPending (without_id id pending) other
pending_without pending id other is apart =
    let passes : not (same_id is.1.request.id id) ≡ true = ap not (ap (λ (x : RequestId). same_id x id) is.3 ∙ apart) in
    let f = filter_keeps (λ (p : Pending). not (same_id p.request.id id)) pending is.0 is.1 is.2 passes in
    (f.0, is.1, f.1, is.3)

-- ---- one is replaced

abbrev in_place : Pending → Pending → Pending
in_place new p = cond (same_id p.request.id new.request.id) new p

same_own_id : (new p : Pending) → (in_place new p).request.id ≡ p.request.id
same_own_id new p = go (same_id p.request.id new.request.id) refl
  where
    go : (b : Bool) → same_id p.request.id new.request.id ≡ b → (cond b new p).request.id ≡ p.request.id
    go true e = sym (same_id-true p.request.id new.request.id e)
    go false e = refl

each_in_place : (P : ℕ → Type 0) (new : Pending) (xs : List Pending) → Each (λ (p : Pending). P p.request.id.seq) xs → Each (λ (p : Pending). P p.request.id.seq) (replaced new xs)
each_in_place P new [] e = tt
each_in_place P new (x ∷ xs) e = (subst P (sym (ap (λ (id : RequestId). id.seq) (same_own_id new x))) e.0, each_in_place P new xs e.1)

-- the numbers stay
pub rise_replaced : (new : Pending) (xs : List Pending) → NumbersRise xs → NumbersRise (replaced new xs)
rise_replaced new [] rise = tt
rise_replaced new (x ∷ xs) rise =
    (subst (λ (n : ℕ). Each (λ (q : Pending). n < q.request.id.seq) (replaced new xs)) (sym (ap (λ (id : RequestId). id.seq) (same_own_id new x))) (each_in_place (λ n. x.request.id.seq < n) new xs rise.0), rise_replaced new xs rise.1)

-- and what is pending
pub pending_replaced : (new : Pending) (xs : List Pending) (id : RequestId) → IsPending xs id → IsPending (replaced new xs) id
pending_replaced new xs id is = (is.0, in_place new is.1, at_map (λ (p : Pending). in_place new p) xs is.0 is.1 is.2, same_own_id new is.1 ∙ is.3)

-- what holds of each, and of the new one, holds then
pub each_replaced : (P : Pending → Type 0) (new : Pending) (xs : List Pending) → P new → Each P xs → Each P (replaced new xs)
each_replaced P new [] one e = tt
each_replaced P new (x ∷ xs) one e = (cond_both (same_id x.request.id new.request.id) new x P (λ y. one) (λ n. e.0), each_replaced P new xs one e.1)

-- ---- one is found

-- what is found by an id is pending, and has that id
pub found : (id : RequestId) (pending : List Pending) (p : Pending) → with_id id pending ≡ Some p → (k : ℕ) × At pending k p × (p.request.id ≡ id)
found id pending p e =
    let f = filter_at (λ (q : Pending). same_id q.request.id id) pending 0 p (first_at _ p e) in
    (f.0, f.1, same_id-true p.request.id id f.2)

-- ---- the least number

abbrev lower : ℕ → Pending → ℕ
lower least p = min least p.request.id.seq

min_left : (a b : ℕ) → min a b ≤ a
min_left a b = omega arith

min_right : (a b : ℕ) → min a b ≤ b
min_right a b = omega arith

least_falls : (xs : List Pending) (n : ℕ) → fold lower n xs ≤ n
least_falls [] n = omega arith
least_falls (x ∷ xs) n = omega (arith, least_falls xs (min n x.request.id.seq), min_left n x.request.id.seq)

-- the least of a number and the pending ones is above none of them
pub least_below : (xs : List Pending) (n : ℕ) → (fold lower n xs ≤ n) × ((k : ℕ) (p : Pending) → At xs k p → fold lower n xs ≤ p.request.id.seq)
least_below xs n = (least_falls xs n, each xs n)
  where
    each : (xs : List Pending) (n : ℕ) (k : ℕ) (p : Pending) → At xs k p → fold lower n xs ≤ p.request.id.seq
    each [] n k p h = absurd cc
    each (x ∷ xs) n zero p h =
        let same : x ≡ p = cc in
        subst (λ (q : Pending). fold lower n (x ∷ xs) ≤ q.request.id.seq) same (omega (arith, least_falls xs (min n x.request.id.seq), min_right n x.request.id.seq))
    each (x ∷ xs) n (suc k) p h = each xs (min n x.request.id.seq) k p h
