-- The reads that wait, in the order in which they were captured.
use Rattle.std.proofs.Common.{◌≡◌, ℕ, zero, suc, ◌+◌, ◌-◌, ◌<◌, ◌≤◌, ◌&&◌, inl, inr, nat_le, true, List, [], ◌∷◌, ◌++◌, length, get_or, drop, Option, Some, None, refl, ap, sym, ◌∙◌, arith}
use Rattle.std.proofs.lemmas.Bool.{cases_lt}
use Rattle.std.proofs.lemmas.Bool.Decides.{nat_tests}
use Rattle.std.proofs.lemmas.Option.{slice_get-get_or, slice_get_past, slice_get_read}
use Rattle.std.specs.Borrow.{Bor}
use Rattle.std.specs.List.{slice_get}
use Rattle.std.specs.List.Sorted.{IsPartitionedBy}
use Rattle.std.specs.Option.{option_copied}
use Rattle.std.specs.Slice.{IsGetResult}
use Rattle.curp_base.specs.Words.{Each}
use Rattle.curp_base.proofs.Lists.{Each-append, Each-at, Each-drop, Each-weaker}
use Rattle.curp_model.specs.Master.{Captured}
use Rattle.curp_rounds.specs.Backups.{is_within}
use Rattle.curp_rounds.specs.Captures.{AreWaiting, HasCome, InOrder, IsNoLater}
use Rattle.curp_rounds.specs.declared.reach.Reach.{Reach}

-- ---- those that are ready are the first ones

-- what is within a reach stays within it where less is asked
within_earlier : (r : Option Reach) (c d : Captured) → IsNoLater c d → is_within r d.length d.round ≡ true → is_within r c.length c.round ≡ true
within_earlier None c d earlier later = refl
within_earlier (Some r) c d earlier later = less c.length c.round d.length d.round r.long r.round earlier.0 earlier.1 later
  where
    less : (m n k l long round : ℕ) → m ≤ k → n ≤ l → (nat_le k long && nat_le l round) ≡ true → (nat_le m long && nat_le n round) ≡ true
    less m n k l long round low lower is = grind (arith, nat_tests)

earlier_at : (cs : List Captured) → InOrder cs → (i j : ℕ) (d : Captured) → i < j → j < length cs → IsNoLater (get_or cs i d) (get_or cs j d)
earlier_at [] order i j d l within = absurd (omega (arith, within))
earlier_at (c ∷ cs) order i zero d l within = absurd (omega (arith, l))
earlier_at (c ∷ cs) order zero (suc j) d l within =
    Each-at (IsNoLater c) cs order.0 j (get_or cs j d) (slice_get-get_or cs j d (omega (arith, within)))
earlier_at (c ∷ cs) order (suc i) (suc j) d l within = earlier_at cs order.1 i j d (omega (arith, l)) (omega (arith, within))

pub ready_parted : (cs : List Captured) (r : Option Reach) → InOrder cs → IsPartitionedBy (λ (c : Captured). is_within r c.length c.round) cs
ready_parted cs r order i j d le within later = elim (cases_lt i j) [
  | inl l ↦ within_earlier r (get_or cs i d) (get_or cs j d) (earlier_at cs order i j d l within) later
  | inr l ↦ let same : i ≡ j = omega arith in rw same later
]

-- ---- as they come and go

order_left : (n : ℕ) (cs : List Captured) → InOrder cs → InOrder (drop n cs)
order_left zero cs order = order
order_left (suc n) [] order = order
order_left (suc n) (c ∷ cs) order = order_left n cs order.1

pub left : (n : ℕ) (cs : List Captured) (count : ℕ) (last : Reach) → AreWaiting cs count last → AreWaiting (drop n cs) count last
left n cs count last w = record {
  numbered = Each-drop (λ (c : Captured). c.number ≤ count) n cs w.numbered;
  in_order = order_left n cs w.in_order;
  come = Each-drop (HasCome last) n cs w.come;
}

order_joined : (cs : List Captured) (d : Captured) → InOrder cs → Each (λ c. IsNoLater c d) cs → InOrder (cs ++ d ∷ [])
order_joined [] d order earlier = (tt, tt)
order_joined (c ∷ cs) d order earlier = (Each-append (IsNoLater c) cs (d ∷ []) order.0 (earlier.0, tt), order_joined cs d order.1 earlier.1)

pub joined : (cs : List Captured) (count : ℕ) (last next : Reach) (d : Captured) → AreWaiting cs count last
    → d.number ≡ count + 1 → last.long ≤ d.length → last.round ≤ d.round → next.long ≡ d.length → next.round ≡ d.round
    → AreWaiting (cs ++ d ∷ []) d.number next
joined cs count last next d w number long round its_long its_round = record {
  numbered = Each-append (λ (c : Captured). c.number ≤ d.number) cs (d ∷ [])
      (Each-weaker (λ (c : Captured). c.number ≤ count) (λ (c : Captured). c.number ≤ d.number) (λ c h. omega (arith, h, number)) cs w.numbered)
      (omega arith, tt);
  in_order = order_joined cs d w.in_order (Each-weaker (HasCome last) (λ c. IsNoLater c d) (λ c h. (omega (arith, h.0, long), omega (arith, h.1, round))) cs w.come);
  come = Each-append (HasCome next) cs (d ∷ [])
      (Each-weaker (HasCome last) (HasCome next) (λ c h. (omega (arith, h.0, long, its_long), omega (arith, h.1, round, its_round))) cs w.come)
      ((omega (arith, its_long), omega (arith, its_round)), tt);
}

pub numbered_on : (cs : List Captured) (count next : ℕ) (last : Reach) → count ≤ next → AreWaiting cs count last → AreWaiting cs next last
numbered_on cs count next last le w = record {
  numbered = Each-weaker (λ (c : Captured). c.number ≤ count) (λ (c : Captured). c.number ≤ next) (λ c h. omega (arith, h, le)) cs w.numbered;
  in_order = w.in_order;
  come = w.come;
}

-- ---- the last one

pub last_lent : (cs : List Captured) (at : ℕ) (r : Option (Bor Captured)) → at ≡ length cs - 1 → IsGetResult cs 0 at r → option_copied r ≡ slice_get cs (length cs - 1)
last_lent cs at None is item = sym (slice_get_past cs (length cs - 1) (omega (arith, item.3)))
last_lent cs at (Some x) is item = sym (slice_get_read cs (length cs) at x.now refl (omega (arith, item.3.0, is)) item.1) ∙ ap (λ (k : ℕ). slice_get cs k) is
