-- The deeds of the driver, one recovery or one client further.
use Rattle.std.proofs.Common.{◌≡◌, ℕ, ◌+◌, List, [], ◌∷◌, ◌++◌, map, ap, sym, ◌∙◌, arith}
use Rattle.std.proofs.lemmas.List.{append_assoc}
use Rattle.curp_base.specs.Words.{all_of, numbers_from}
use Rattle.curp_base.proofs.Numbered.{all_of-push, named_more}
use Rattle.curp_words.specs.declared.task.LivePlan.{LivePlan}
use Rattle.curp_due.specs.Driving.{fetch_by, recovery_deeds}
use Rattle.curp_due.specs.declared.driving.Deed.{Deed}

-- what the numbers from 1 on name, one more
named_next : {A : Type 0} (f : ℕ → A) (k : ℕ) → map f (numbers_from 1 (k + 1)) ≡ map f (numbers_from 1 k) ++ f (k + 1) ∷ []
named_next {A} f k =
    let next : 1 + k ≡ k + 1 = omega arith in
    named_more f 1 k ∙ ap (λ (n : ℕ). map f (numbers_from 1 k) ++ f n ∷ []) next

-- one client more is told to fetch
pub told_next : (old told : List Deed) (k : ℕ) → told ≡ old ++ map fetch_by (numbers_from 1 k) → told ++ fetch_by (k + 1) ∷ [] ≡ old ++ map fetch_by (numbers_from 1 (k + 1))
told_next old told k is =
    ap (λ (ds : List Deed). ds ++ fetch_by (k + 1) ∷ []) is
    ∙ append_assoc old (map fetch_by (numbers_from 1 k)) (fetch_by (k + 1) ∷ [])
    ∙ ap (λ (ds : List Deed). old ++ ds) (sym (named_next fetch_by k))

-- one recovery more
pub recovered_next : (plan : LivePlan) (done : List Deed) (k : ℕ) → done ≡ all_of (map (recovery_deeds plan) (numbers_from 1 k))
    → done ++ recovery_deeds plan (k + 1) ≡ all_of (map (recovery_deeds plan) (numbers_from 1 (k + 1)))
recovered_next plan done k is =
    ap (λ (ds : List Deed). ds ++ recovery_deeds plan (k + 1)) is
    ∙ sym (all_of-push (map (recovery_deeds plan) (numbers_from 1 k)) (recovery_deeds plan (k + 1)))
    ∙ ap (λ (dss : List (List Deed)). all_of dss) (sym (named_next (recovery_deeds plan) k))
