-- What a frozen witness tells: all that it held and no more, and apart where that was apart.
use Rattle.std.proofs.Common.{◌≡◌, ◌≢◌, ◌⊎◌, inl, inr, ℕ, zero, suc, nat_lt, Bool, true, false, cond, List, [], ◌∷◌, map, fold, ap, sym, ◌∙◌, subst, refl}
use Rattle.std.specs.List.{AllByRecursion, IsDistinct}
use Rattle.curp_base.specs.Words.{At}
use Rattle.curp_base.proofs.Lists.{at_map}
use Rattle.curp_cmd.specs.declared.command.Request.{Request}
use Rattle.curp_facts.specs.Facts.{IsAmong}
use Rattle.curp_model.specs.Laws.{clash}
use Rattle.curp_model.specs.Witness.{HeldRequest, WitnessState, by_least_hash, frozen_requests, least_hash, sorted_in}
use Rattle.curp_model.proofs.Clashes.{all_at, clash_flips, first_apart, rest_apart}

-- ---- one request in its place

first_among : (x : Request) (rs : List Request) → IsAmong x (x ∷ rs)
first_among x rs = record { place = 0; stands = refl }

later_among : (x r : Request) (rs : List Request) → IsAmong x rs → IsAmong x (r ∷ rs)
later_among x r rs m = record { place = suc m.place; stands = m.stands }

among_cases : (x r : Request) (rs : List Request) → IsAmong x (r ∷ rs) → (x ≡ r) ⊎ IsAmong x rs
among_cases x r rs m = go m.place m.stands
  where
    go : (k : ℕ) → At (r ∷ rs) k x → (x ≡ r) ⊎ IsAmong x rs
    go zero at = inl (cc)
    go (suc k) at = inr (record { place = k; stands = at })

sorted_own : (r : Request) (rs : List Request) → IsAmong r (sorted_in rs r)
sorted_own r [] = first_among r []
sorted_own r (s ∷ rs) = go (nat_lt (least_hash r) (least_hash s)) (sorted_own r rs)
  where
    go : (b : Bool) → IsAmong r (sorted_in rs r) → IsAmong r (cond b (r ∷ s ∷ rs) (s ∷ sorted_in rs r))
    go true ih = first_among r (s ∷ rs)
    go false ih = later_among r s (sorted_in rs r) ih

sorted_old : (x r : Request) (rs : List Request) → IsAmong x rs → IsAmong x (sorted_in rs r)
sorted_old x r [] m = absurd (let at = m.stands in cc)
sorted_old x r (s ∷ rs) m = go (nat_lt (least_hash r) (least_hash s)) (sorted_old x r rs)
  where
    go : (b : Bool) → (IsAmong x rs → IsAmong x (sorted_in rs r)) → IsAmong x (cond b (r ∷ s ∷ rs) (s ∷ sorted_in rs r))
    go true ih = later_among x r (s ∷ rs) m
    go false ih = elim (among_cases x s rs m) [
      | inl same ↦ subst (λ (y : Request). IsAmong x (y ∷ sorted_in rs r)) same (first_among x (sorted_in rs r))
      | inr later ↦ later_among x s (sorted_in rs r) (ih later)
    ]

sorted_from : (x r : Request) (rs : List Request) → IsAmong x (sorted_in rs r) → (x ≡ r) ⊎ IsAmong x rs
sorted_from x r [] m = among_cases x r [] m
sorted_from x r (s ∷ rs) m = go (nat_lt (least_hash r) (least_hash s)) m (sorted_from x r rs)
  where
    go : (b : Bool) → IsAmong x (cond b (r ∷ s ∷ rs) (s ∷ sorted_in rs r)) → (IsAmong x (sorted_in rs r) → (x ≡ r) ⊎ IsAmong x rs) → (x ≡ r) ⊎ IsAmong x (s ∷ rs)
    go true m ih = among_cases x r (s ∷ rs) m
    go false m ih = elim (among_cases x s (sorted_in rs r) m) [
      | inl same ↦ inr (subst (λ (y : Request). IsAmong x (y ∷ rs)) same (first_among x rs))
      | inr later ↦ elim (ih later) [ inl own ↦ inl own | inr old ↦ inr (later_among x s rs old) ]
    ]

sorted_all : (P : Request → Type 0) (r : Request) (rs : List Request) → P r → AllByRecursion P rs → AllByRecursion P (sorted_in rs r)
sorted_all P r [] own all = (own, tt)
sorted_all P r (s ∷ rs) own all = go (nat_lt (least_hash r) (least_hash s)) (sorted_all P r rs own all.1)
  where
    go : (b : Bool) → AllByRecursion P (sorted_in rs r) → AllByRecursion P (cond b (r ∷ s ∷ rs) (s ∷ sorted_in rs r))
    go true ih = (own, all)
    go false ih = (all.0, ih)

sorted_apart : (r : Request) (rs : List Request) → AllByRecursion (λ s. clash r s ≡ false) rs → IsDistinct clash rs → IsDistinct clash (sorted_in rs r)
unfolding IsDistinct
sorted_apart r [] own apart = (tt, tt)
sorted_apart r (s ∷ rs) own apart = go (nat_lt (least_hash r) (least_hash s)) (sorted_apart r rs own.1 apart.1)
  where
    go : (b : Bool) → IsDistinct clash (sorted_in rs r) → IsDistinct clash (cond b (r ∷ s ∷ rs) (s ∷ sorted_in rs r))
    go true ih = (own, apart)
    go false ih = (sorted_all (λ y. clash s y ≡ false) r rs (clash_flips s r ∙ own.0) apart.0, ih)

-- ---- all requests in their places

folded_own : (x : Request) (rs done : List Request) → IsAmong x rs ⊎ IsAmong x done → IsAmong x (fold sorted_in done rs)
folded_own x [] done (inl m) = absurd (let at = m.stands in cc)
folded_own x [] done (inr m) = m
folded_own x (r ∷ rs) done (inl m) = elim (among_cases x r rs m) [
  | inl same ↦ folded_own x rs (sorted_in done r) (inr (subst (λ (y : Request). IsAmong y (sorted_in done r)) (sym same) (sorted_own r done)))
  | inr later ↦ folded_own x rs (sorted_in done r) (inl later)
]
folded_own x (r ∷ rs) done (inr m) = folded_own x rs (sorted_in done r) (inr (sorted_old x r done m))

folded_from : (x : Request) (rs done : List Request) → IsAmong x (fold sorted_in done rs) → IsAmong x rs ⊎ IsAmong x done
folded_from x [] done m = inr m
folded_from x (r ∷ rs) done m = elim (folded_from x rs (sorted_in done r) m) [
  | inl later ↦ inl (later_among x r rs later)
  | inr here ↦ elim (sorted_from x r done here) [
    | inl own ↦ inl (subst (λ (y : Request). IsAmong x (y ∷ rs)) own (first_among x rs))
    | inr old ↦ inr old
  ]
]

-- each of the requests is apart from all of the others
abbrev ApartFrom : List Request → List Request → Type 0
ApartFrom done rs = AllByRecursion (λ r. AllByRecursion (λ s. clash r s ≡ false) done) rs

apart_from_more : (r : Request) (done rs : List Request) → AllByRecursion (λ q. clash r q ≡ false) rs → ApartFrom done rs → ApartFrom (sorted_in done r) rs
apart_from_more r done [] own apart = tt
apart_from_more r done (q ∷ rs) own apart = (sorted_all (λ s. clash q s ≡ false) r done (clash_flips q r ∙ own.0) apart.0, apart_from_more r done rs own.1 apart.1)

folded_apart : (rs done : List Request) → IsDistinct clash rs → IsDistinct clash done → ApartFrom done rs → IsDistinct clash (fold sorted_in done rs)
folded_apart [] done apart done_apart between = done_apart
folded_apart (r ∷ rs) done apart done_apart between =
    folded_apart rs (sorted_in done r) (rest_apart r rs apart) (sorted_apart r done between.0 done_apart) (apart_from_more r done rs (first_apart r rs apart) between.1)

from_none : (rs : List Request) → ApartFrom [] rs
from_none [] = tt
from_none (r ∷ rs) = (tt, from_none rs)

-- ---- of a witness

-- it tells each request that it held
pub held_kept : (w : WitnessState) (k : ℕ) (x : HeldRequest) → At w.held k x → IsAmong x.request (frozen_requests w)
held_kept w k x at =
    folded_own x.request (map (λ (x : HeldRequest). x.request) w.held) [] (inl (record { place = k; stands = at_map (λ (x : HeldRequest). x.request) w.held k x at }))

-- and no other
pub kept_held : (w : WitnessState) (r : Request) → IsAmong r (frozen_requests w) → (k : ℕ) × (x : HeldRequest) × At w.held k x × (x.request ≡ r)
kept_held w r m = elim (folded_from r (map (λ (x : HeldRequest). x.request) w.held) [] m) [
  | inl of_held ↦ back w.held of_held.place of_held.stands
  | inr none ↦ absurd (let at = none.stands in cc)
]
  where
    back : (xs : List HeldRequest) (k : ℕ) → At (map (λ (x : HeldRequest). x.request) xs) k r → (j : ℕ) × (x : HeldRequest) × At xs j x × (x.request ≡ r)
    back [] k at = absurd cc
    back (x ∷ xs) zero at = (0, x, refl, cc)
    back (x ∷ xs) (suc k) at = let b = back xs k at in (suc b.0, b.1, b.2, b.3)

-- requests of which no two clash stay so in the order of their least hashes
pub sorted_distinct : (rs : List Request) → IsDistinct clash rs → IsDistinct clash (by_least_hash rs)
unfolding IsDistinct
sorted_distinct rs apart = folded_apart rs [] apart tt (from_none rs)

-- no two that it tells clash, where no two that it held do
pub frozen_apart : (w : WitnessState) → IsDistinct clash (map (λ (x : HeldRequest). x.request) w.held) → IsDistinct clash (frozen_requests w)
frozen_apart w apart = sorted_distinct (map (λ (x : HeldRequest). x.request) w.held) apart
