-- The turns of one journal, and their stamps.
use Rattle.std.proofs.Common.{◌≡◌, ◌⊎◌, inl, inr, ℕ, zero, suc, ◌+◌, ◌<◌, ◌≤◌, if◌then◌else◌, Bool, true, false, List, [], ◌∷◌, length, map, refl, ap, sym, arith}
use Rattle.std.proofs.lemmas.List.{length-map}
use Rattle.curp_base.specs.Words.{At}
use Rattle.curp_base.proofs.Lists.{at_append, at_append_cases, at_map, at_within}
use Rattle.curp_journal.specs.Journal.{Stamped, last_stamp}
use Rattle.curp_journal.specs.declared.item.Item.{Item}
use Rattle.curp_journal.proofs.Replays.{last_above, rising}
use Rattle.curp_journal.specs.Turns.{Did, Journal, Quits, Turn, turn_stamp, turns_of}

-- ---- what stands among the turns

at_map_back : {A B : Type 0} (f : A → B) (xs : List A) (k : ℕ) (y : B) → At (map f xs) k y → (x : A) × (f x ≡ y) × At xs k x
at_map_back f [] k y at = absurd cc
at_map_back f (x ∷ xs) zero y at = (x, cc, refl)
at_map_back f (x ∷ xs) (suc k) y at = at_map_back f xs k y at

stop_alone : (b : Bool) (stamp n : ℕ) (turn : Turn) → At (if b then Quits stamp ∷ [] else []) n turn → (turn ≡ Quits stamp) × (n ≡ 0) × (b ≡ true)
stop_alone true stamp zero turn at = (cc, refl, refl)
stop_alone true stamp (suc n) turn at = absurd cc
stop_alone false stamp n turn at = absurd cc

-- an item, or the last stop behind them all
pub turn_cases : (j : Journal) (t : ℕ) (turn : Turn) → At (turns_of j) t turn
    → ((item : Item) × (turn ≡ Did item) × At j.items t item) ⊎ ((turn ≡ Quits (last_stamp 0 j.items)) × (t ≡ length j.items) × (j.ended ≡ true))
turn_cases j t turn at =
    elim (at_append_cases (map Did j.items) (if j.ended then Quits (last_stamp 0 j.items) ∷ [] else []) t turn at) [
      | inl did ↦ let r = at_map_back Did j.items t turn did in inl (r.0, sym r.1, r.2)
      | inr quits ↦
          let r = stop_alone j.ended (last_stamp 0 j.items) quits.0 turn quits.2 in
          inr (r.0, omega (arith, quits.1, length-map j.items Did, r.1), r.2)
    ]

pub turn_of_item : (j : Journal) (t : ℕ) (item : Item) → At j.items t item → At (turns_of j) t (Did item)
turn_of_item j t item at = at_append (map Did j.items) (if j.ended then Quits (last_stamp 0 j.items) ∷ [] else []) t (Did item) (at_map Did j.items t item at)

-- ---- stamps rise

-- the stamp of the last item is the last
pub last_stamp_at : (last : ℕ) (items : List Item) (k : ℕ) (item : Item) → At items k item → k + 1 ≡ length items → item.stamp ≡ last_stamp last items
last_stamp_at last [] k item at all = absurd cc
last_stamp_at last (first ∷ []) zero item at all = let same : first ≡ item = cc in ap (λ (i : Item). i.stamp) (sym same)
last_stamp_at last (first ∷ second ∷ items) zero item at all = absurd (omega (arith, all))
last_stamp_at last (first ∷ items) (suc k) item at all = last_stamp_at first.stamp items k item at (omega (arith, all))

-- a later turn has no lesser stamp
pub turns_rise : (j : Journal) (t u : ℕ) (a b : Turn) → Stamped 0 j.items → At (turns_of j) t a → At (turns_of j) u b → t < u
    → turn_stamp a ≤ turn_stamp b
turns_rise j t u a b stamped at_a at_b below =
    elim (turn_cases j t a at_a) [
      | inl first ↦
          elim (turn_cases j u b at_b) [
            | inl second ↦
                let less = rising 0 j.items t u first.0 second.0 stamped first.2 second.2 below in
                rw (first.1, second.1) (omega (arith, less))
            | inr stop ↦
                let most = last_above 0 j.items t first.0 stamped first.2 in
                rw (first.1, stop.0) most
          ]
      | inr stop ↦
          elim (turn_cases j u b at_b) [
            | inl second ↦ absurd (omega (arith, at_within j.items u second.0 second.2, stop.1, below))
            | inr other ↦ absurd (omega (arith, stop.1, other.1, below))
          ]
    ]
