-- Requests that a witness holds, as they come and go: which they are, and that no two clash.
use Rattle.std.proofs.Common.{◌≡◌, ◌⊎◌, inl, inr, ℕ, zero, suc, ◌||◌, ◌&&◌, Bool, true, false, not, cond, List, [], ◌∷◌, fold, map, nat_le, None, refl, ap, ◌∙◌}
use Rattle.std.specs.List.{AllByRecursion, IsDistinct, filter, list_any}
use Rattle.std.specs.declared.cmp.Ordering.{Ordering}
use Rattle.std.specs.declared.cmp.Ordering.TheVariants.{Less, Equal, Greater}
use Rattle.std.specs.FinMap.Entries.{by_order}
use Rattle.std.proofs.lemmas.Bool.{cond_both, or_from, or_parts}
use Rattle.curp_base.specs.Words.{At, first_of}
use Rattle.curp_base.proofs.Lists.{at_one}
use Rattle.curp_cmd.specs.Hash.{conflicts, hashes_of}
use Rattle.curp_cmd.specs.RequestId.{has_id, id_cmp, same_id}
use Rattle.curp_cmd.specs.declared.command.Request.{Request}
use Rattle.curp_cmd.specs.declared.command.RequestId.{RequestId}
use Rattle.curp_model.specs.Laws.{clash}
use Rattle.curp_model.specs.Witness.{HeldRequest, WitnessState, conflict, holds, placed, suspect, survives}
use Rattle.curp_model.proofs.Clashes.{clash_flips, common_flips}
use Rattle.curp_facts.specs.Facts.{IsAmong}
use Rattle.curp_law_kept.specs.WitnessEffect.{held_requests}

abbrev asks : HeldRequest → Request
asks h = h.request

-- a request is apart from others
abbrev pub IsApart : Request → List Request → Type 0
IsApart r rs = AllByRecursion (λ s. clash r s ≡ false) rs

later : {A : Type 0} {x : A} (y : A) {xs : List A} → IsAmong x xs → IsAmong x (y ∷ xs)
later y a = record { place = suc a.place; stands = a.stands }

-- ---- one is placed

placed_all : (P : Request → Type 0) (x : HeldRequest) (held : List HeldRequest) → P x.request → AllByRecursion P (map asks held) → AllByRecursion P (map asks (placed x held))
placed_all P x [] one all = (one, tt)
placed_all P x (y ∷ held) one all = go (id_cmp x.request.id y.request.id) (placed_all P x held one all.1)
  where
    go : (r : Ordering) → AllByRecursion P (map asks (placed x held)) → AllByRecursion P (map asks (by_order r (x ∷ y ∷ held) (x ∷ held) (y ∷ placed x held)))
    go Less rest = (one, all)
    go Equal rest = (one, all.1)
    go Greater rest = (all.0, rest)

-- one that is apart from the others keeps them apart
pub placed_apart : (x : HeldRequest) (held : List HeldRequest) → IsApart x.request (map asks held) → IsDistinct clash (map asks held) → IsDistinct clash (map asks (placed x held))
unfolding IsDistinct
placed_apart x [] one all = (tt, tt)
placed_apart x (y ∷ held) one all = go (id_cmp x.request.id y.request.id) (placed_apart x held one.1 all.1)
  where
    go : (r : Ordering) → IsDistinct clash (map asks (placed x held)) → IsDistinct clash (map asks (by_order r (x ∷ y ∷ held) (x ∷ held) (y ∷ placed x held)))
    go Less rest = (one, all)
    go Equal rest = (one.1, all.1)
    go Greater rest = (placed_all (λ s. clash y.request s ≡ false) x held (clash_flips y.request x.request ∙ one.0) all.0, rest)

-- and what is held then is that one, or was held
pub placed_from : (x : HeldRequest) (held : List HeldRequest) (k : ℕ) (q : Request) → At (map asks (placed x held)) k q → IsAmong q (map asks held) ⊎ (x.request ≡ q)
placed_from x [] k q h = inr (at_one x.request k q h).1
placed_from x (y ∷ held) k q h = go (id_cmp x.request.id y.request.id) k h (λ j. placed_from x held j q)
  where
    go : (r : Ordering) (k : ℕ) → At (map asks (by_order r (x ∷ y ∷ held) (x ∷ held) (y ∷ placed x held))) k q
        → ((j : ℕ) → At (map asks (placed x held)) j q → IsAmong q (map asks held) ⊎ (x.request ≡ q)) → IsAmong q (map asks (y ∷ held)) ⊎ (x.request ≡ q)
    go Less zero h rest = inr cc
    go Less (suc k) h rest = inl (record { place = k; stands = h })
    go Equal zero h rest = inr cc
    go Equal (suc k) h rest = inl (record { place = suc k; stands = h })
    go Greater zero h rest = inl (record { place = zero; stands = h })
    go Greater (suc k) h rest = elim (rest k h) [ inl a ↦ inl (later y.request a) | inr e ↦ inr e ]

-- ---- marks of suspicion, and what a collection leaves

suspect_asks : (r : Request) (x : HeldRequest) → (suspect r x).request ≡ x.request
suspect_asks r x = cond_both (conflicts x.request.command r.command && nat_le 3 x.survived) _ _ (λ (y : HeldRequest). y.request ≡ x.request) (λ y. refl) (λ n. refl)

-- suspicion changes no request
pub suspects_ask : (r : Request) (held : List HeldRequest) → map asks (map (suspect r) held) ≡ map asks held
suspects_ask r [] = refl
suspects_ask r (x ∷ held) = λ i. suspect_asks r x i ∷ suspects_ask r held i

module _ (ids : List RequestId) where
  abbrev stays : HeldRequest → Bool
  stays x = not (has_id x.request.id ids)

  left_all : (P : Request → Type 0) (held : List HeldRequest) → AllByRecursion P (map asks held) → AllByRecursion P (map asks (map survives (filter stays held)))
  left_all P [] all = tt
  left_all P (x ∷ held) all = go (stays x) (left_all P held all.1)
    where
      go : (b : Bool) → AllByRecursion P (map asks (map survives (filter stays held))) → AllByRecursion P (map asks (map survives (cond b (x ∷ filter stays held) (filter stays held))))
      go true rest = (all.0, rest)
      go false rest = rest

  -- what a collection leaves is apart
  pub left_apart : (held : List HeldRequest) → IsDistinct clash (map asks held) → IsDistinct clash (map asks (map survives (filter stays held)))
  unfolding IsDistinct
  left_apart [] all = tt
  left_apart (x ∷ held) all = go (stays x) (left_apart held all.1)
    where
      go : (b : Bool) → IsDistinct clash (map asks (map survives (filter stays held))) → IsDistinct clash (map asks (map survives (cond b (x ∷ filter stays held) (filter stays held))))
      go true rest = (left_all (λ s. clash x.request s ≡ false) held all.0, rest)
      go false rest = rest

  -- and was held
  pub left_from : (held : List HeldRequest) (k : ℕ) (q : Request) → At (map asks (map survives (filter stays held))) k q → IsAmong q (map asks held)
  left_from [] k q h = absurd cc
  left_from (x ∷ held) k q h = go (stays x) k h (λ j. left_from held j q)
    where
      go : (b : Bool) (k : ℕ) → At (map asks (map survives (cond b (x ∷ filter stays held) (filter stays held)))) k q
          → ((j : ℕ) → At (map asks (map survives (filter stays held))) j q → IsAmong q (map asks held)) → IsAmong q (map asks (x ∷ held))
      go true zero h rest = record { place = zero; stands = h }
      go true (suc k) h rest = later x.request (rest k h)
      go false k h rest = later x.request (rest k h)

-- ---- what is new is apart

module _ (r : Request) where
  abbrev in_its_way : HeldRequest → Bool
  in_its_way x = conflicts x.request.command r.command

  none_conflicts : (held : List HeldRequest) → first_of (map (λ (x : HeldRequest). x.request.id) (filter in_its_way held)) ≡ None → list_any in_its_way held ≡ false
  none_conflicts [] e = refl
  none_conflicts (x ∷ held) e = go (in_its_way x) (none_conflicts held) e
    where
      go : (b : Bool) → (first_of (map (λ (x : HeldRequest). x.request.id) (filter in_its_way held)) ≡ None → list_any in_its_way held ≡ false)
          → first_of (map (λ (x : HeldRequest). x.request.id) (cond b (x ∷ filter in_its_way held) (filter in_its_way held))) ≡ None → (b || list_any in_its_way held) ≡ false
      go true rest e = absurd cc
      go false rest e = rest e

  all_apart : (held : List HeldRequest) → list_any (λ (x : HeldRequest). same_id r.id x.request.id) held ≡ false → list_any in_its_way held ≡ false → IsApart r (map asks held)
  all_apart [] a b = tt
  all_apart (x ∷ held) a b =
      let i = or_parts (same_id r.id x.request.id) (list_any (λ (y : HeldRequest). same_id r.id y.request.id) held) a in
      let c = or_parts (in_its_way x) (list_any in_its_way held) b in
      let flipped : conflicts r.command x.request.command ≡ false = common_flips (hashes_of r.command) (hashes_of x.request.command) ∙ c.0 in
      (or_from (same_id r.id x.request.id) (conflicts r.command x.request.command) i.0 flipped, all_apart held i.1 c.1)

-- a request whose id isn't held, and that conflicts with nothing, is apart from all that is held
pub new_apart : (w : WitnessState) (r : Request) → holds w r.id ≡ false → conflict w r ≡ None → IsApart r (held_requests w)
new_apart w r other none = all_apart r w.held other (none_conflicts r w.held none)
