-- The least set without room: only sets of the request's hashes are looked at.
use Rattle.std.proofs.Common.{◌≡◌, ◌≢◌, inl, inr, ℕ, zero, suc, ◌+◌, ◌%◌, ◌<◌, ◌≤◌, Bool, true, false, cond, List, [], ◌∷◌, length, get_or, Option, Some, None, refl, ap, sym, ◌∙◌, subst, arith}
use Rattle.std.specs.FinMap.Entries.{by_order}
use Rattle.std.specs.List.{filter}
use Rattle.std.specs.Ordering.{nat_cmp}
use Rattle.std.specs.declared.cmp.Ordering.{Ordering}
use Rattle.std.specs.declared.cmp.Ordering.TheVariants.{Less, Equal, Greater}
use Rattle.std.proofs.Math.Nat.{mod-lt}
use Rattle.std.proofs.lemmas.Bool.{cases_lt}
use Rattle.std.proofs.lemmas.Bool.Decides.{nat_tests}
use Rattle.curp_base.specs.Words.{Each, first_of, numbers_from}
use Rattle.curp_model.specs.Witness.{in_set}
use Rattle.curp_slots.specs.Slots.{HasSlotsFor, SlotTable, has_no_room, least_full, lesser}
use Rattle.curp_slots.proofs.Taken.{in_set_cases}

-- ---- the first number that passes a test

first_none : (p : ℕ → Bool) (k m : ℕ) → ((s : ℕ) → k ≤ s → s < k + m → p s ≡ false) → first_of (filter p (numbers_from k m)) ≡ None
first_none p k zero all = refl
first_none p k (suc m) all = rw (all k (omega arith) (omega arith)) (first_none p (k + 1) m (λ s l h. all s (omega arith) (omega arith)))

first_some : (p : ℕ → Bool) (k m x : ℕ) → k ≤ x → x < k + m → p x ≡ true → ((s : ℕ) → k ≤ s → s < x → p s ≡ false) → first_of (filter p (numbers_from k m)) ≡ Some x
first_some p k zero x l h passes below = absurd (omega arith)
first_some p k (suc m) x l h passes below = elim (cases_lt k x) [
  | inl less ↦ rw (below k (omega arith) less) (first_some p (k + 1) m x (omega arith) (omega arith) passes (λ s a b. below s (omega arith) b))
  | inr up ↦
      let here : k ≡ x = omega arith in
      let here_too : p k ≡ true = rw here passes in
      rw here_too (ap (λ (n : ℕ). Some n) here)
]

-- ---- the least of the sets of the hashes

-- it is no set of the hashes
pub none_in_set : (n s : ℕ) (hs : List ℕ) → Each (λ (h : ℕ). h % n ≢ s) hs → in_set n s hs ≡ 0
none_in_set n s [] apart = refl
none_in_set n s (h ∷ hs) apart = elim (in_set_cases n s h hs) [
  | inl e ↦ absurd (apart.0 e.0)
  | inr e ↦ e.1 ∙ none_in_set n s hs apart.1
]

-- what is told by the least full set among those of some hashes
abbrev Tells : SlotTable → List ℕ → List ℕ → Option ℕ → Type 0
Tells t all hs None = Each (λ (h : ℕ). has_no_room t all (h % length t.sets) ≡ false) hs
Tells t all hs (Some x) = (has_no_room t all x ≡ true) × ((x < length t.sets) × Each (λ (h : ℕ). has_no_room t all (h % length t.sets) ≡ true → x ≤ h % length t.sets) hs)

module _ (t : SlotTable) (all : List ℕ) where
  later : (x y : ℕ) (hs : List ℕ) → y ≤ x → Each (λ (h : ℕ). has_no_room t all (h % length t.sets) ≡ true → x ≤ h % length t.sets) hs
      → Each (λ (h : ℕ). has_no_room t all (h % length t.sets) ≡ true → y ≤ h % length t.sets) hs
  later x y [] l each = tt
  later x y (h ∷ hs) l each = ((λ passes. let far = each.0 passes in omega arith), later x y hs l each.1)

  no_one : (x : ℕ) (hs : List ℕ) → Each (λ (h : ℕ). has_no_room t all (h % length t.sets) ≡ false) hs
      → Each (λ (h : ℕ). has_no_room t all (h % length t.sets) ≡ true → x ≤ h % length t.sets) hs
  no_one x [] each = tt
  no_one x (h ∷ hs) each = ((λ passes. let wrong : false ≡ true = sym each.0 ∙ passes in absurd cc), no_one x hs each.1)

  least_tells : (hs : List ℕ) → Each (λ (h : ℕ). h % length t.sets < length t.sets) hs → Tells t all hs (least_full t all hs)
  least_tells [] within = tt
  least_tells (h ∷ hs) within = go (has_no_room t all (h % length t.sets)) refl (least_full t all hs) (least_tells hs within.1)
    where
      both : (x : ℕ) (r : Ordering) → nat_cmp (h % length t.sets) x ≡ r → has_no_room t all (h % length t.sets) ≡ true → Tells t all hs (Some x)
          → Tells t all (h ∷ hs) (by_order r (Some (h % length t.sets)) (Some (h % length t.sets)) (Some x))
      both x Less e passes told = (passes, (within.0, ((λ y. omega arith), later x (h % length t.sets) hs (grind (arith, nat_tests)) told.1.1)))
      both x Equal e passes told = (passes, (within.0, ((λ y. omega arith), later x (h % length t.sets) hs (grind (arith, nat_tests)) told.1.1)))
      both x Greater e passes told = (told.0, (told.1.0, ((λ y. grind (arith, nat_tests)), told.1.1)))

      go : (b : Bool) → has_no_room t all (h % length t.sets) ≡ b → (o : Option ℕ) → Tells t all hs o → Tells t all (h ∷ hs) (lesser nat_cmp (cond b (Some (h % length t.sets)) None) o)
      go true e None told = (e, (within.0, ((λ y. omega arith), no_one (h % length t.sets) hs told)))
      go true e (Some x) told = both x (nat_cmp (h % length t.sets) x) refl e told
      go false e None told = (e, told)
      go false e (Some x) told = (told.0, (told.1.0, ((λ y. let wrong : false ≡ true = sym e ∙ y in absurd cc), told.1.1)))

  -- a set that no hash goes to has room as it is
  has_room_still : (s : ℕ) → length (get_or t.sets s []) ≤ t.ways → in_set (length t.sets) s all ≡ 0 → has_no_room t all s ≡ false
  has_room_still s within none = rw none (grind (arith, nat_tests))

  is_false : (b : Bool) → (b ≡ true → ⊥) → b ≡ false
  is_false true never = absurd (never refl)
  is_false false never = refl

  apart_each : (P : ℕ → Type 0) (s : ℕ) (hs : List ℕ) → Each P hs → ((h : ℕ) → P h → h % length t.sets ≢ s) → Each (λ (h : ℕ). h % length t.sets ≢ s) hs
  apart_each P s [] each apart = tt
  apart_each P s (h ∷ hs) each apart = (apart h each.0, apart_each P s hs each.1 apart)

  room_if_apart : (P : ℕ → Type 0) (s : ℕ) → length (get_or t.sets s []) ≤ t.ways → Each P all → ((h : ℕ) → P h → has_no_room t all s ≡ true → h % length t.sets ≢ s) → has_no_room t all s ≡ false
  room_if_apart P s within each apart =
      is_false (has_no_room t all s) (λ passes.
      let none : in_set (length t.sets) s all ≡ 0 = none_in_set (length t.sets) s all (apart_each P s all each (λ h p. apart h p passes)) in
      let wrong : true ≡ false = sym passes ∙ has_room_still s within none in
      absurd cc)

module _ (t : SlotTable) (all : List ℕ) (within : (s : ℕ) → s < length t.sets → length (get_or t.sets s []) ≤ t.ways) where
  -- none of the sets is full
  pub none_is_full : Tells t all all None → (s : ℕ) → s < length t.sets → has_no_room t all s ≡ false
  none_is_full told s below =
      room_if_apart t all (λ (h : ℕ). has_no_room t all (h % length t.sets) ≡ false) s (within s below) told
      (λ h not_full passes same. let wrong : false ≡ true = sym not_full ∙ ap (has_no_room t all) same ∙ passes in absurd cc)

  none_before : (x : ℕ) → Tells t all all (Some x) → (s : ℕ) → s < x → has_no_room t all s ≡ false
  none_before x told s below =
      room_if_apart t all (λ (h : ℕ). has_no_room t all (h % length t.sets) ≡ true → x ≤ h % length t.sets) s (within s (omega (arith, told.1.0))) told.1.1
      (λ h far passes same. let l : x ≤ h % length t.sets = far (ap (has_no_room t all) same ∙ passes) in absurd (omega arith))

  first_is : (o : Option ℕ) → Tells t all all o → first_of (filter (has_no_room t all) (numbers_from 0 (length t.sets))) ≡ o
  first_is None told = first_none (has_no_room t all) 0 (length t.sets) (λ s l h. none_is_full told s (omega arith))
  first_is (Some x) told = first_some (has_no_room t all) 0 (length t.sets) x (omega arith) (omega (arith, told.1.0)) told.0 (λ s l h. none_before x told s h)

  pub first_full : Each (λ (h : ℕ). h % length t.sets < length t.sets) all → first_of (filter (has_no_room t all) (numbers_from 0 (length t.sets))) ≡ least_full t all all
  first_full in_range = first_is (least_full t all all) (least_tells t all all in_range)

  pub room_for_all : Each (λ (h : ℕ). h % length t.sets < length t.sets) all → least_full t all all ≡ None → HasSlotsFor t all
  room_for_all in_range none s below =
      let test : has_no_room t all s ≡ false = none_is_full (subst (Tells t all all) none (least_tells t all all in_range)) s below in
      grind (arith, nat_tests)

pub filter_below : (p q : ℕ → Bool) (k m : ℕ) → ((s : ℕ) → k ≤ s → s < k + m → p s ≡ q s) → filter p (numbers_from k m) ≡ filter q (numbers_from k m)
filter_below p q k zero same = refl
filter_below p q k (suc m) same = λ i. cond (same k (omega arith) (omega arith) i) (k ∷ filter_below p q (k + 1) m (λ s l h. same s (omega arith) (omega arith)) i) (filter_below p q (k + 1) m (λ s l h. same s (omega arith) (omega arith)) i)

pub in_range : (n : ℕ) (hs : List ℕ) → 1 ≤ n → Each (λ (h : ℕ). h % n < n) hs
in_range n [] some = tt
in_range n (h ∷ hs) some = (mod-lt h (omega arith), in_range n hs some)
