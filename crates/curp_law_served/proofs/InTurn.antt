-- Requests that complete before the next is invoked stand in the order as they were invoked, with the answers of one thread.
use Rattle.std.proofs.Common.{◌≡◌, ◌<◌, inl, inr, ℕ, zero, suc, ◌+◌, List, [], ◌∷◌, length, Some, refl, ap, sym, ◌∙◌, subst, arith}
use Rattle.std.proofs.lemmas.Bool.{cases_lt}
use Rattle.curp_base.specs.Words.{At}
use Rattle.curp_base.proofs.Lists.{at_same, at_some, at_within}
use Rattle.curp_cmd.specs.declared.command.Command.{Command}
use Rattle.curp_cmd.specs.declared.command.RequestId.{RequestId}
use Rattle.curp_order.specs.Order.{IsHistory, IsOrder, answers}
use Rattle.curp_order.specs.declared.Event.TheVariants.{Invoke, Complete}
use Rattle.curp_law_served.specs.Served.{AnsweredRequest, in_turn}

invoked_at : (xs : List AnsweredRequest) (k i : ℕ) (x : AnsweredRequest) → i ≡ k + k → At xs k x → At (in_turn xs) i (Invoke x.0 x.1)
invoked_at [] k i x e at = absurd cc
invoked_at (y ∷ ys) zero zero x e at = let same : y ≡ x = cc in ap (λ (z : AnsweredRequest). Some (Invoke z.0 z.1)) same
invoked_at (y ∷ ys) zero (suc i) x e at = absurd (omega (arith, e))
invoked_at (y ∷ ys) (suc k) zero x e at = absurd (omega (arith, e))
invoked_at (y ∷ ys) (suc k) (suc zero) x e at = absurd (omega (arith, e))
invoked_at (y ∷ ys) (suc k) (suc (suc i)) x e at = invoked_at ys k i x (omega (arith, e)) at

completed_at : (xs : List AnsweredRequest) (k i : ℕ) (x : AnsweredRequest) → i ≡ k + k + 1 → At xs k x
    → At (in_turn xs) i (Complete x.0 x.2)
completed_at [] k i x e at = absurd cc
completed_at (y ∷ ys) zero zero x e at = absurd (omega (arith, e))
completed_at (y ∷ ys) zero (suc zero) x e at = let same : y ≡ x = cc in ap (λ (z : AnsweredRequest). Some (Complete z.0 z.2)) same
completed_at (y ∷ ys) zero (suc (suc i)) x e at = absurd (omega (arith, e))
completed_at (y ∷ ys) (suc k) zero x e at = absurd (omega (arith, e))
completed_at (y ∷ ys) (suc k) (suc zero) x e at = absurd (omega (arith, e))
completed_at (y ∷ ys) (suc k) (suc (suc i)) x e at = completed_at ys k i x (omega (arith, e)) at

-- what was invoked is one of them
invoked_is : (xs : List AnsweredRequest) (i : ℕ) (id : RequestId) (c : Command) → At (in_turn xs) i (Invoke id c)
    → (k : ℕ) × (x : AnsweredRequest) × (i ≡ k + k) × At xs k x × (x.0 ≡ id) × (x.1 ≡ c)
invoked_is [] i id c at = absurd cc
invoked_is (y ∷ ys) zero id c at = (0, y, omega arith, refl, cc, cc)
invoked_is (y ∷ ys) (suc zero) id c at = absurd cc
invoked_is (y ∷ ys) (suc (suc i)) id c at = let r = invoked_is ys i id c at in (suc r.0, r.1, omega (arith, r.2), r.3, r.4, r.5)

module _ (xs : List AnsweredRequest) (order : List (RequestId × Command)) (history : IsHistory (in_turn xs))
    (ok : IsOrder (in_turn xs) order) where
  -- the order has it there
  abbrev Has : ℕ → AnsweredRequest → Type 0
  Has k x = (y : RequestId × Command) × At order k y × (y.0 ≡ x.0)

  -- one id is of one of them
  one_place : (j k : ℕ) (x y : AnsweredRequest) → At xs j x → At xs k y → x.0 ≡ y.0 → j ≡ k
  one_place j k x y a b same =
      let e = history.invoked_once (j + j) (k + k) y.0 x.1 y.1 (subst (λ (id : RequestId). At (in_turn xs) (j + j) (Invoke id x.1)) same (invoked_at xs j (j + j) x refl a)) (invoked_at xs k (k + k) y refl b) in
      omega (arith, e)

  step : (k : ℕ) → ((j : ℕ) → j < k → (x : AnsweredRequest) → At xs j x → Has j x) → (x : AnsweredRequest) → At xs k x → Has k x
  step k before x at = elim (cases_lt p k) [
    | inl low ↦
        let o = at_some xs p (omega (arith, low, at_within xs k x at)) in
        let h = before p low o.0 o.1 in
        let same : o.0.0 ≡ x.0 = sym h.2 ∙ ap (λ (z : RequestId × Command). z.0) (at_same order p h.0 y h.1 s.2) ∙ s.3 in
        absurd (omega (arith, low, one_place p k o.0 x o.1 at same))
    | inr high ↦ elim (cases_lt k p) [
      | inl above ↦ absurd (nothing_between above)
      | inr low ↦ (let same : p ≡ k = omega (arith, high, low) in (y, subst (λ (i : ℕ). At order i y) same s.2, s.3))
    ]
  ]
    where
      s : (p : ℕ) × (y : RequestId × Command) × At order p y × (y.0 ≡ x.0)
      s = let r = ok.stands (k + k + 1) x.0 x.2 (completed_at xs k (k + k + 1) x refl at) in (r.0, r.1, r.2, r.3)

      p : ℕ
      p = s.0

      y : RequestId × Command
      y = s.1

      nothing_between : k < p → ⊥
      nothing_between above =
          let z = at_some order k (omega (arith, above, at_within order p y s.2)) in
          let i = ok.invoked k z.0 z.1 in
          let r = invoked_is xs i.0 z.0.0 z.0.1 i.1 in
          elim (cases_lt r.0 k) [
            | inl low ↦
                let h = before r.0 low r.1 r.3 in
                absurd (omega (arith, low, ok.once r.0 k h.0 z.0 h.1 z.1 (h.2 ∙ r.4)))
            | inr high ↦ elim (cases_lt k r.0) [
              | inl late ↦
                  let t = ok.in_time (k + k + 1) i.0 x.0 z.0.0 x.2 z.0.1 (omega (arith, late, r.2)) (completed_at xs k (k + k + 1) x refl at) i.1 p k y z.0 s.2 s.3 z.1 refl in
                  absurd (omega (arith, t, above))
              | inr early ↦
                  let same : r.0 ≡ k = omega (arith, high, early) in
                  let own : r.1 ≡ x = at_same xs k r.1 x (subst (λ (n : ℕ). At xs n r.1) same r.3) at in
                  absurd (omega (arith, above, ok.once k p z.0 y z.1 s.2 (sym r.4 ∙ ap (λ (q : AnsweredRequest). q.0) own ∙ sym s.3)))
            ]
          ]

  all_below : (k : ℕ) → (j : ℕ) → j < k → (x : AnsweredRequest) → At xs j x → Has j x
  all_below zero j low x at = absurd (omega (arith, low))
  all_below (suc k) j low x at = elim (cases_lt j k) [
    | inl less ↦ all_below k j less x at
    | inr more ↦ (let same : k ≡ j = omega (arith, low, more) in step j (subst (λ (n : ℕ). (i : ℕ) → i < n → (z : AnsweredRequest) → At xs i z → Has i z) same (all_below k)) x at)
  ]

  -- each stands in its turn, with its command
  pub in_its_turn : (k : ℕ) (x : AnsweredRequest) → At xs k x → At order k (x.0, x.1)
  in_its_turn k x at =
      let h = all_below (suc k) k (omega arith) x at in
      let i = ok.invoked k h.0 h.1 in
      let same = history.invoked_once i.0 (k + k) x.0 h.0.1 x.1 (subst (λ (id : RequestId). At (in_turn xs) i.0 (Invoke id h.0.1)) h.2 i.1) (invoked_at xs k (k + k) x refl at) in
      let one : Invoke h.0.0 h.0.1 ≡ Invoke x.0 x.1 = at_same (in_turn xs) (k + k) _ _ (subst (λ (n : ℕ). At (in_turn xs) n (Invoke h.0.0 h.0.1)) same i.1) (invoked_at xs k (k + k) x refl at) in
      let command : h.0.1 ≡ x.1 = cc in
      subst (λ (z : RequestId × Command). At order k z) (λ i. (h.2 i, command i)) h.1

  -- nothing else stands in the order
  pub as_many : (k : ℕ) (z : RequestId × Command) → At order k z → k < length xs
  as_many k z at =
      let i = ok.invoked k z at in
      let r = invoked_is xs i.0 z.0 z.1 i.1 in
      let own = in_its_turn r.0 r.1 r.3 in
      omega (arith, ok.once r.0 k (r.1.0, r.1.1) z own at r.4, at_within xs r.0 r.1 r.3)

  -- its answer is that of one thread
  pub answers_in_turn : (k : ℕ) (x : AnsweredRequest) → At xs k x → At (answers order) k x.2
  answers_in_turn k x at = ok.answered (k + k + 1) x.0 x.2 (completed_at xs k (k + k + 1) x refl at) k (x.0, x.1) (in_its_turn k x at) refl
