-- The recoveries of a plan from a number on.
use Rattle.std.proofs.Common.{◌≡◌, ◌<◌, ◌≤◌, ◌+◌, ◌-◌, ℕ, zero, suc, List, [], ◌∷◌, map, refl, ap, arith}
use Rattle.curp_base.specs.Words.{numbers_from}
use Rattle.curp_words.specs.declared.task.LivePlan.{LivePlan}
use Rattle.curp_due.specs.Recoveries.{recoveries_from, recovery_of}

-- the first of them, and those behind it
pub first_recovery : (plan : LivePlan) (number : ℕ) → number ≤ plan.recoveries → recoveries_from plan number ≡ recovery_of plan number ∷ recoveries_from plan (number + 1)
first_recovery plan number high =
    let more : plan.recoveries + 1 - number ≡ suc (plan.recoveries + 1 - (number + 1)) = omega (arith, high) in
    ap (λ (count : ℕ). map (recovery_of plan) (numbers_from number count)) more

-- past the last there is none
pub no_recovery : (plan : LivePlan) (number : ℕ) → plan.recoveries < number → recoveries_from plan number ≡ []
no_recovery plan number past =
    let none : plan.recoveries + 1 - number ≡ 0 = omega (arith, past) in
    ap (λ (count : ℕ). map (recovery_of plan) (numbers_from number count)) none

-- so where none is left, the number is past the last
none_named : {A : Type 0} (f : ℕ → A) (n count : ℕ) → [] ≡ map f (numbers_from n count) → count ≡ 0
none_named f n zero none = refl
none_named f n (suc count) none = absurd cc

pub past_last : (plan : LivePlan) (number : ℕ) → [] ≡ recoveries_from plan number → plan.recoveries < number
past_last plan number none =
    let few : plan.recoveries + 1 - number ≡ 0 = none_named (recovery_of plan) number (plan.recoveries + 1 - number) none in
    omega (arith, few)

-- so where one is due, not all are
pub past_all : (plan : LivePlan) (number : ℕ) → [] ≡ recoveries_from plan number → number ≤ plan.recoveries → ⊥
past_all plan number none high = omega (arith, past_last plan number none, high)
