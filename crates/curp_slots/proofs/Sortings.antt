-- Requests that are sorted by their least hashes.
use Rattle.std.proofs.Common.{◌≡◌, ◌≢◌, ℕ, zero, suc, ◌+◌, ◌<◌, nat_lt, true, false, List, [], ◌∷◌, length, map, get_or, take, fold, refl, ap, sym, ◌∙◌, subst, arith}
use Rattle.std.specs.BTreeMap.{insert_entry}
use Rattle.std.specs.FinMap.Entries.{by_order, put}
use Rattle.std.specs.Ordering.{nat_cmp, match_ordering}
use Rattle.std.specs.declared.cmp.Ordering.{Ordering}
use Rattle.std.specs.declared.cmp.Ordering.TheVariants.{Less, Equal, Greater}
use Rattle.std.proofs.lemmas.Bool.Decides.{nat_tests}
use Rattle.std.proofs.lemmas.List.{take_more}
use Rattle.std.proofs.lemmas.List.Sums.{fold-append}
use Rattle.curp_base.specs.Words.{Each}
use Rattle.curp_cmd.specs.declared.command.Request.{Request}
use Rattle.curp_model.specs.Witness.{HeldRequest, by_least_hash, least_hash, sorted_in}
use Rattle.curp_slots.specs.Hashed.{LeastHashesApart, least_places, request_at, requests_of}
use Rattle.curp_slots.specs.Register.{IsFilled, IndexPlace, held_at, held_by}

put_inserts : {V : Type 0} (es : List (ℕ × V)) (k : ℕ) (v : V) → insert_entry nat_cmp es k v ≡ put nat_cmp k v es
put_inserts [] k v = refl
put_inserts {V} (e ∷ es) k v = go (nat_cmp k e.0) (put_inserts es k v)
  where
    go : (r : Ordering) → insert_entry nat_cmp es k v ≡ put nat_cmp k v es
        → match_ordering r ((k, v) ∷ e ∷ es) ((e.0, v) ∷ es) (e ∷ insert_entry nat_cmp es k v) ≡ by_order r ((k, v) ∷ e ∷ es) ((e.0, v) ∷ es) (e ∷ put nat_cmp k v es)
    go Less rest = refl
    go Equal rest = refl
    go Greater rest = ap (λ (fs : List (ℕ × V)). e ∷ fs) rest

-- one place more is sorted in
pub sorted_more : (kept : List HeldRequest) (es : List IndexPlace) (sorted : List (ℕ × ℕ)) (at : ℕ) (d : IndexPlace) → at < length es → sorted ≡ least_places kept (take at es)
    → insert_entry nat_cmp sorted (least_hash (held_at kept (get_or es at d)).request) (get_or es at d).1 ≡ least_places kept (take (at + 1) es)
sorted_more kept es sorted at d within so_far =
    let e : IndexPlace = get_or es at d in
    put_inserts sorted (least_hash (held_at kept e).request) e.1
    ∙ ap (put nat_cmp (least_hash (held_at kept e).request) e.1) so_far
    ∙ sym (fold-append (λ (done : List (ℕ × ℕ)) (f : IndexPlace). put nat_cmp (least_hash (held_at kept f).request) f.1 done) [] (take at es) (e ∷ []))
    ∙ ap (least_places kept) (sym (take_more es at d within))

-- ---- what stands at the places

module _ (kept : List HeldRequest) where
  -- the requests at places with a number each
  abbrev at_places : List (ℕ × ℕ) → List Request
  at_places es = map (request_at kept) (map (λ (e : ℕ × ℕ). e.1) es)

  -- the number of a place is the least hash of what stands there
  abbrev HashedPlaces : List (ℕ × ℕ) → Type 0
  HashedPlaces es = Each (λ (e : ℕ × ℕ). e.0 ≡ least_hash (request_at kept e.1)) es

  -- and none of them is that number
  abbrev Without : ℕ → List (ℕ × ℕ) → Type 0
  Without n es = Each (λ (e : ℕ × ℕ). n ≢ e.0) es

  put_hashed : (at : ℕ) (es : List (ℕ × ℕ)) → HashedPlaces es → HashedPlaces (put nat_cmp (least_hash (request_at kept at)) at es)
  put_hashed at [] h = (refl, tt)
  put_hashed at (e ∷ es) h = go (nat_cmp (least_hash (request_at kept at)) e.0) refl (put_hashed at es h.1)
    where
      go : (r : Ordering) → nat_cmp (least_hash (request_at kept at)) e.0 ≡ r → HashedPlaces (put nat_cmp (least_hash (request_at kept at)) at es)
          → HashedPlaces (by_order r ((least_hash (request_at kept at), at) ∷ e ∷ es) ((e.0, at) ∷ es) (e ∷ put nat_cmp (least_hash (request_at kept at)) at es))
      go Less c rest = (refl, h)
      go Equal c rest = (grind (arith, nat_tests), h.1)
      go Greater c rest = (h.0, rest)

  put_without : (n k at : ℕ) (es : List (ℕ × ℕ)) → n ≢ k → Without n es → Without n (put nat_cmp k at es)
  put_without n k at [] apart w = (apart, tt)
  put_without n k at (e ∷ es) apart w = go (nat_cmp k e.0) (put_without n k at es apart w.1)
    where
      go : (r : Ordering) → Without n (put nat_cmp k at es) → Without n (by_order r ((k, at) ∷ e ∷ es) ((e.0, at) ∷ es) (e ∷ put nat_cmp k at es))
      go Less rest = (apart, w)
      go Equal rest = w
      go Greater rest = (w.0, rest)

  -- what has another least hash than all comes in its place
  put_sorts : (at : ℕ) (es : List (ℕ × ℕ)) → HashedPlaces es → Without (least_hash (request_at kept at)) es
      → at_places (put nat_cmp (least_hash (request_at kept at)) at es) ≡ sorted_in (at_places es) (request_at kept at)
  put_sorts at [] h w = refl
  put_sorts at (e ∷ es) h w = go (nat_cmp (least_hash (request_at kept at)) e.0) refl (put_sorts at es h.1 w.1)
    where
      go : (r : Ordering) → nat_cmp (least_hash (request_at kept at)) e.0 ≡ r → at_places (put nat_cmp (least_hash (request_at kept at)) at es) ≡ sorted_in (at_places es) (request_at kept at)
          → at_places (by_order r ((least_hash (request_at kept at), at) ∷ e ∷ es) ((e.0, at) ∷ es) (e ∷ put nat_cmp (least_hash (request_at kept at)) at es))
          ≡ sorted_in (at_places (e ∷ es)) (request_at kept at)
      go Less c rest =
          let here : least_hash (request_at kept at) < least_hash (request_at kept e.1) = subst (λ (n : ℕ). least_hash (request_at kept at) < n) h.0 (grind (arith, nat_tests)) in
          let test : nat_lt (least_hash (request_at kept at)) (least_hash (request_at kept e.1)) ≡ true = grind (arith, nat_tests) in
          rw test refl
      go Equal c rest = absurd (w.0 (grind (arith, nat_tests)))
      go Greater c rest =
          let test : nat_lt (least_hash (request_at kept at)) (least_hash (request_at kept e.1)) ≡ false =
          subst (λ (n : ℕ). nat_lt (least_hash (request_at kept at)) n ≡ false) h.0 (grind (arith, nat_tests)) in
          rw test (ap (λ (rs : List Request). request_at kept e.1 ∷ rs) rest)

  all_without : (r : Request) (rs : List Request) (at : ℕ) (es : List (ℕ × ℕ)) → r ≡ request_at kept at → Each (λ (s : Request). least_hash r ≢ least_hash s) rs
      → Each (λ (s : Request). Without (least_hash s) es) rs → Each (λ (s : Request). Without (least_hash s) (put nat_cmp (least_hash r) at es)) rs
  all_without r [] at es is apart w = tt
  all_without r (s ∷ rs) at es is apart w =
      (put_without (least_hash s) (least_hash r) at es (λ same. apart.0 (sym same)) w.0, all_without r rs at es is apart.1 w.1)

  sorts : (es : List IndexPlace) (done : List (ℕ × ℕ)) → HashedPlaces done → LeastHashesApart (requests_of (held_by kept es)) → Each (λ (s : Request). Without (least_hash s) done) (requests_of (held_by kept es))
      → at_places (fold (λ (d : List (ℕ × ℕ)) (e : IndexPlace). put nat_cmp (least_hash (held_at kept e).request) e.1 d) done es) ≡ fold sorted_in (at_places done) (requests_of (held_by kept es))
  sorts [] done h apart w = refl
  sorts (e ∷ es) done h apart w =
      sorts es (put nat_cmp (least_hash (request_at kept e.1)) e.1 done) (put_hashed e.1 done h) apart.1
      (all_without (request_at kept e.1) (requests_of (held_by kept es)) e.1 done refl apart.0 w.1)
      ∙ ap (λ (rs : List Request). fold sorted_in rs (requests_of (held_by kept es))) (put_sorts e.1 done h w.0)

  none_yet : (rs : List Request) → Each (λ (s : Request). Without (least_hash s) []) rs
  none_yet [] = tt
  none_yet (r ∷ rs) = (tt, none_yet rs)

  pub requests_sorted : (es : List IndexPlace) → LeastHashesApart (requests_of (held_by kept es)) → at_places (least_places kept es) ≡ by_least_hash (requests_of (held_by kept es))
  requests_sorted es apart = sorts es [] tt apart (none_yet (requests_of (held_by kept es)))

-- ---- the places are within

put_within : (n k at : ℕ) (es : List (ℕ × ℕ)) → at < n → Each (λ (m : ℕ). m < n) (map (λ (e : ℕ × ℕ). e.1) es) → Each (λ (m : ℕ). m < n) (map (λ (e : ℕ × ℕ). e.1) (put nat_cmp k at es))
put_within n k at [] below all = (below, tt)
put_within n k at (e ∷ es) below all = go (nat_cmp k e.0) (put_within n k at es below all.1)
  where
    go : (r : Ordering) → Each (λ (m : ℕ). m < n) (map (λ (e : ℕ × ℕ). e.1) (put nat_cmp k at es))
        → Each (λ (m : ℕ). m < n) (map (λ (e : ℕ × ℕ). e.1) (by_order r ((k, at) ∷ e ∷ es) ((e.0, at) ∷ es) (e ∷ put nat_cmp k at es)))
    go Less rest = (below, all)
    go Equal rest = (below, all.1)
    go Greater rest = (all.0, rest)

folded_within : (kept : List HeldRequest) (es : List IndexPlace) (done : List (ℕ × ℕ)) → Each (IsFilled kept) es → Each (λ (m : ℕ). m < length kept) (map (λ (e : ℕ × ℕ). e.1) done)
    → Each (λ (m : ℕ). m < length kept) (map (λ (e : ℕ × ℕ). e.1) (fold (λ (d : List (ℕ × ℕ)) (e : IndexPlace). put nat_cmp (least_hash (held_at kept e).request) e.1 d) done es))
folded_within kept [] done f all = all
folded_within kept (e ∷ es) done f all = folded_within kept es (put nat_cmp (least_hash (held_at kept e).request) e.1 done) f.1 (put_within (length kept) (least_hash (held_at kept e).request) e.1 done f.0.within all)

pub places_within : (kept : List HeldRequest) (es : List IndexPlace) → Each (IsFilled kept) es → Each (λ (m : ℕ). m < length kept) (map (λ (e : ℕ × ℕ). e.1) (least_places kept es))
places_within kept es f = folded_within kept es [] f tt

pub filled_taken : (kept : List HeldRequest) (n : ℕ) (es : List IndexPlace) → Each (IsFilled kept) es → Each (IsFilled kept) (take n es)
filled_taken kept zero es f = tt
filled_taken kept (suc n) [] f = tt
filled_taken kept (suc n) (e ∷ es) f = (f.0, filled_taken kept n es f.1)
