-- Deliveries, one after the other, until none is left.
use Rattle.std.proofs.Common.{◌≡◌, ◌≢◌, ◌≤◌, ◌<◌, ℕ, zero, suc, ◌+◌, Bool, true, false, cond, length, Option, Some, None, refl, ap, sym, ◌∙◌, arith}
use Rattle.curp_msg.specs.declared.script.Step.TheVariants as steps
use Rattle.curp_law_served.specs.Served.{Limit, Served, after_all, and_then, delivers, is_busy, makes, most_steps, quiets, quiets_in}
use Rattle.curp_serve.proofs.Going.{IsLonger, makes_longer}

-- a delivery is a step more, unless it has stopped
pub delivers_longer : (s : Served) → (delivers s).stopped ≡ None
    → (length s.steps ≢ most_steps) × (length (delivers s).steps ≡ suc (length s.steps))
delivers_longer s = by (makes (steps.Deliver (s.delivered + 1)) s) (makes (steps.Deliver (s.delivered + 1)) s).stopped refl (makes_longer (steps.Deliver (s.delivered + 1)) s)
  where
    by : (t : Served) (o : Option Limit) → t.stopped ≡ o → (t.stopped ≡ None → IsLonger s t)
        → let u = after_all o t (λ k. record k { delivered = k.delivered + 1 }) in u.stopped ≡ None
        → (length s.steps ≢ most_steps) × (length u.steps ≡ suc (length s.steps))
    by t None e longer free = ((longer e).room, (longer e).longer)
    by t (Some why) e longer free = absurd (no_one (sym e ∙ free))
      where
        no_one : Some why ≡ None → ⊥
        no_one e = cc

-- where a message isn't delivered, it comes, and then the others
pub quiets_in_more : (n : ℕ) (s : Served) → is_busy s ≡ true → quiets_in (suc n) s ≡ and_then (delivers s) (quiets_in n)
unfolding quiets_in
quiets_in_more n s busy = ap (λ (b : Bool). cond b (and_then (delivers s) (quiets_in n)) s) busy

-- no more deliveries are made than there is room for steps
quiets_enough : (n m : ℕ) (s : Served) → length s.steps ≤ most_steps → most_steps < length s.steps + n → most_steps < length s.steps + m
    → quiets_in n s ≡ quiets_in m s
unfolding quiets_in
quiets_enough zero m s few one other = absurd (omega (arith, few, one))
quiets_enough (suc n) zero s few one other = absurd (omega (arith, few, other))
quiets_enough (suc n) (suc m) s few one other = by (is_busy s) (λ t small some more. quiets_enough n m t small some more)
  where
    by : (b : Bool) → ((t : Served) → length t.steps ≤ most_steps → most_steps < length t.steps + n → most_steps < length t.steps + m → quiets_in n t ≡ quiets_in m t)
        → cond b (and_then (delivers s) (quiets_in n)) s ≡ cond b (and_then (delivers s) (quiets_in m)) s
    by false same = refl
    by true same = all (delivers s).stopped refl
      where
        all : (o : Option Limit) → (delivers s).stopped ≡ o → after_all o (delivers s) (quiets_in n) ≡ after_all o (delivers s) (quiets_in m)
        all (Some why) e = refl
        all None e =
            let longer = delivers_longer s e in
            let room = longer.0 in
            let long = longer.1 in
            same (delivers s) (omega (arith, few, room, long)) (omega (arith, one, long)) (omega (arith, other, long))

-- where none is left, that is all
quiets_in_none : (n : ℕ) (s : Served) → is_busy s ≡ false → quiets_in (suc n) s ≡ s
unfolding quiets_in
quiets_in_none n s idle = ap (λ (b : Bool). cond b (and_then (delivers s) (quiets_in n)) s) idle

pub quiets_none : (s : Served) → is_busy s ≡ false → quiets s ≡ s
unfolding quiets
quiets_none s idle = quiets_in_none most_steps s idle

-- else one comes, and then the others
pub quiets_first : (s : Served) → is_busy s ≡ true → quiets s ≡ and_then (delivers s) (quiets_in most_steps)
unfolding quiets
quiets_first s busy = quiets_in_more most_steps s busy

-- so what is to be delivered is the same behind it
pub quiets_on : (s : Served) → is_busy s ≡ true → length s.steps ≤ most_steps → (delivers s).stopped ≡ None
    → quiets (delivers s) ≡ quiets s
unfolding quiets
quiets_on s busy few free =
    let longer = delivers_longer s free in
    let room = longer.0 in
    let long = longer.1 in
    quiets_enough (most_steps + 1) most_steps (delivers s) (omega (arith, few, room, long)) (omega (arith, long)) (omega (arith, long))
    ∙ sym (ap (λ (o : Option Limit). after_all o (delivers s) (quiets_in most_steps)) free)
    ∙ sym (quiets_in_more most_steps s busy)
