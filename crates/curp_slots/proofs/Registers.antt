-- What is held in the order of an index, as requests come and are marked.
use Rattle.std.proofs.Common.{◌≡◌, ◌≢◌, ◌⊎◌, inl, inr, ℕ, zero, suc, ◌+◌, ◌==◌, ◌<◌, ◌≤◌, ◌||◌, Bool, true, false, cond, T, nat_le, List, [], ◌∷◌, ◌++◌, length, get_or, set, map, Option, Some, None, is_some, refl, ap, sym, ◌∙◌, subst, arith, length-append, length-set}
use Rattle.std.specs.Cmp.{tied_itself}
use Rattle.std.specs.FinMap.Entries.{below_all, by_order, find, length-put, put}
use Rattle.std.specs.List.{filter}
use Rattle.std.specs.Ordering.{eq_by_cmp, is_eq}
use Rattle.std.specs.declared.cmp.Ordering.{Ordering}
use Rattle.std.specs.declared.cmp.Ordering.TheVariants.{Less, Equal, Greater}
use Rattle.std.proofs.lemmas.Bool.{cases_eq, cond_both}
use Rattle.std.proofs.lemmas.Bool.Decides.{nat_tests}
use Rattle.std.proofs.lemmas.List.{get_or_append_left, get_or-set_same, get_or-set_other}
use Rattle.std.proofs.lemmas.List.Elements.{filter-append}
use Rattle.curp_base.specs.Words.{Each, KeysAscend}
use Rattle.curp_base.proofs.Lists.{Each-weaker}
use Rattle.curp_base.proofs.Rising.{is_less, left, right}
use Rattle.curp_cmd.proofs.Ids.{apart_not_same, same_id-self, same_id-true, tied_same}
use Rattle.curp_cmd.specs.RequestId.{id_cmp, same_id}
use Rattle.curp_cmd.specs.declared.command.Request.{Request}
use Rattle.curp_cmd.specs.declared.command.RequestId.{RequestId}
use Rattle.curp_model.specs.Witness.{placed, HeldRequest}
use Rattle.curp_slots.specs.Register.{IdsAscend, IsFilled, IsPlaceGiven, IndexPlace, held_at, held_by, is_held, marked, marked_at, nobody, put_at, times}
use Rattle.curp_model.proofs.Tables.{greater_back, ids_total, less_not_self}

pub less_not_same_back : (a b : RequestId) → id_cmp a b ≡ Less → same_id b a ≡ false
less_not_same_back a b e = apart_not_same b a (λ same. less_not_self a b e (sym same))

pub each_get : {A : Type 0} (P : A → Type 0) (xs : List A) (k : ℕ) (d : A) → Each P xs → k < length xs → P (get_or xs k d)
each_get P [] k d all l = absurd (omega arith)
each_get P (x ∷ xs) zero d all l = all.0
each_get P (x ∷ xs) (suc k) d all l = each_get P xs k d all.1 (omega arith)

-- the ids of what is held rise as those of the index
pub ids_ascend : (kept : List HeldRequest) (es : List IndexPlace) → KeysAscend id_cmp es → Each (IsFilled kept) es → IdsAscend (held_by kept es)
ids_ascend kept [] s f = tt
ids_ascend kept (e ∷ es) s f = (first es (left _ _ s) f.1, ids_ascend kept es (right _ _ s) f.1)
  where
    first : (fs : List IndexPlace) → T (below_all id_cmp e.0 fs) → Each (IsFilled kept) fs → Each (λ (y : HeldRequest). id_cmp (held_at kept e).request.id y.request.id ≡ Less) (held_by kept fs)
    first [] below filled = tt
    first (g ∷ fs) below filled = (rw (f.0.its_id, filled.0.its_id) (is_less _ (left _ _ below)), first fs (right _ _ below) filled.1)

pub held_in_index : (id : RequestId) (kept : List HeldRequest) (es : List IndexPlace) → Each (IsFilled kept) es → is_held id (held_by kept es) ≡ is_some (find id_cmp id es)
held_in_index id kept [] f = refl
held_in_index id kept (e ∷ es) f = (λ i. (ap (same_id id) f.0.its_id ∙ sym (tied_same id e.0)) i || held_in_index id kept es f.1 i) ∙ go (eq_by_cmp id_cmp id e.0)
  where
    go : (b : Bool) → (b || is_some (find id_cmp id es)) ≡ is_some (cond b (Some e.1) (find id_cmp id es))
    go true = refl
    go false = refl

-- what isn't held isn't in the index
pub none_held : (id : RequestId) (kept : List HeldRequest) (es : List IndexPlace) → Each (IsFilled kept) es → is_held id (held_by kept es) ≡ false → find id_cmp id es ≡ None
none_held id kept es f absent = go (find id_cmp id es) (sym (held_in_index id kept es f) ∙ absent)
  where
    go : (o : Option ℕ) → is_some o ≡ false → o ≡ None
    go None e = refl
    go (Some at) e = absurd cc

-- ---- one more

last_is : (kept : List HeldRequest) (x : HeldRequest) → get_or (kept ++ x ∷ []) (length kept) nobody ≡ x
last_is [] x = refl
last_is (y ∷ kept) x = last_is kept x

-- put into the index it comes to its place
placed_put : (kept : List HeldRequest) (x : HeldRequest) (p : IndexPlace) (es : List IndexPlace) → held_at kept p ≡ x → x.request.id ≡ p.0 → Each (IsFilled kept) es → held_by kept (put id_cmp p.0 p.1 es) ≡ placed x (held_by kept es)
placed_put kept x p [] here id f = ap (λ y. y ∷ []) here
placed_put kept x p (e ∷ es) here id f =
    go (id_cmp p.0 e.0) (placed_put kept x p es here id f.1)
    ∙ ap (λ (r : Ordering). by_order r (x ∷ held_by kept (e ∷ es)) (x ∷ held_by kept es) (held_at kept e ∷ placed x (held_by kept es))) (λ i. id_cmp (sym id i) (sym f.0.its_id i))
  where
    go : (r : Ordering) → held_by kept (put id_cmp p.0 p.1 es) ≡ placed x (held_by kept es)
        → held_by kept (by_order r ((p.0, p.1) ∷ e ∷ es) ((e.0, p.1) ∷ es) (e ∷ put id_cmp p.0 p.1 es))
        ≡ by_order r (x ∷ held_by kept (e ∷ es)) (x ∷ held_by kept es) (held_at kept e ∷ placed x (held_by kept es))
    go Less rest = ap (λ y. y ∷ held_by kept (e ∷ es)) here
    go Equal rest = ap (λ y. y ∷ held_by kept es) here
    go Greater rest = ap (λ ys. held_at kept e ∷ ys) rest

filter_push : (b : ℕ) (xs : List ℕ) (x : ℕ) → length (filter (λ f. f == b) (xs ++ x ∷ [])) ≡ length (filter (λ f. f == b) xs) + cond (x == b) 1 0
filter_push b xs x = ap (λ (ns : List ℕ). length ns) (filter-append (λ (f : ℕ). f == b) xs (x ∷ [])) ∙ length-append (filter (λ (f : ℕ). f == b) xs) (filter (λ (f : ℕ). f == b) (x ∷ [])) ∙ ap (λ (n : ℕ). length (filter (λ (f : ℕ). f == b) xs) + n) (one (x == b))
  where
    one : (t : Bool) → length (cond t (x ∷ []) []) ≡ cond t 1 0
    one true = refl
    one false = refl

counted : (t : Bool) (e : IndexPlace) (es : List IndexPlace) → length (cond t (e ∷ es) es) ≡ length es + cond t 1 0
counted true e es = omega arith
counted false e es = omega arith

filter_put : (b : ℕ) (p : IndexPlace) (es : List IndexPlace) → find id_cmp p.0 es ≡ None → length (filter (λ (e : IndexPlace). e.1 == b) (put id_cmp p.0 p.1 es)) ≡ length (filter (λ (e : IndexPlace). e.1 == b) es) + cond (p.1 == b) 1 0
filter_put b p [] none = counted (p.1 == b) p []
filter_put b p (e ∷ es) none = go (id_cmp p.0 e.0) none (filter_put b p es)
  where
    go : (r : Ordering) → cond (is_eq r) (Some e.1) (find id_cmp p.0 es) ≡ None
        → (find id_cmp p.0 es ≡ None → length (filter (λ (e : IndexPlace). e.1 == b) (put id_cmp p.0 p.1 es)) ≡ length (filter (λ (e : IndexPlace). e.1 == b) es) + cond (p.1 == b) 1 0)
        → length (filter (λ (e : IndexPlace). e.1 == b) (by_order r ((p.0, p.1) ∷ e ∷ es) ((e.0, p.1) ∷ es) (e ∷ put id_cmp p.0 p.1 es))) ≡ length (filter (λ (e : IndexPlace). e.1 == b) (e ∷ es)) + cond (p.1 == b) 1 0
    go Less none rest = counted (p.1 == b) p (filter (λ (e : IndexPlace). e.1 == b) (e ∷ es))
    go Equal none rest = absurd cc
    go Greater none rest =
        let with_put = counted (e.1 == b) e (filter (λ (e : IndexPlace). e.1 == b) (put id_cmp p.0 p.1 es)) in
        let without = counted (e.1 == b) e (filter (λ (e : IndexPlace). e.1 == b) es) in
        let more = rest none in
        omega (arith, with_put, without, more)

each_put : (P : IndexPlace → Type 0) (p : IndexPlace) (es : List IndexPlace) → P p → find id_cmp p.0 es ≡ None → Each P es → Each P (put id_cmp p.0 p.1 es)
each_put P p [] own none all = (own, tt)
each_put P p (e ∷ es) own none all = go (id_cmp p.0 e.0) none (λ none. each_put P p es own none all.1)
  where
    go : (r : Ordering) → cond (is_eq r) (Some e.1) (find id_cmp p.0 es) ≡ None → (find id_cmp p.0 es ≡ None → Each P (put id_cmp p.0 p.1 es)) → Each P (by_order r ((p.0, p.1) ∷ e ∷ es) ((e.0, p.1) ∷ es) (e ∷ put id_cmp p.0 p.1 es))
    go Less none rest = (own, all)
    go Equal none rest = absurd cc
    go Greater none rest = (all.0, rest none)

none_at : (b : ℕ) (es : List IndexPlace) → length (filter (λ (e : IndexPlace). e.1 == b) es) ≡ 0 → Each (λ (e : IndexPlace). e.1 ≢ b) es
none_at b [] none = tt
none_at b (e ∷ es) none = go (e.1 == b) refl none (none_at b es)
  where
    go : (t : Bool) → (e.1 == b) ≡ t → length (cond t (e ∷ filter (λ (e : IndexPlace). e.1 == b) es) (filter (λ (e : IndexPlace). e.1 == b) es)) ≡ 0 → (length (filter (λ (e : IndexPlace). e.1 == b) es) ≡ 0 → Each (λ (e : IndexPlace). e.1 ≢ b) es) → Each (λ (e : IndexPlace). e.1 ≢ b) (e ∷ es)
    go true t none rest = absurd (omega arith)
    go false t none rest = ((λ same. absurd (grind (arith, nat_tests))), rest none)

none_from : (b : ℕ) (es : List IndexPlace) → Each (λ (e : IndexPlace). e.1 ≢ b) es → length (filter (λ (e : IndexPlace). e.1 == b) es) ≡ 0
none_from b [] all = refl
none_from b (e ∷ es) all = let no : (e.1 == b) ≡ false = other e.1 all.0 in rw no (none_from b es all.1)
  where
    other : (n : ℕ) → n ≢ b → (n == b) ≡ false
    other n apart = grind (arith, nat_tests)

last_has : (P : ℕ → Type 0) (ns : List ℕ) (n : ℕ) → Each P (ns ++ n ∷ []) → P n
last_has P [] n all = all.0
last_has P (m ∷ ns) n all = last_has P ns n all.1

prefix_has : (P : ℕ → Type 0) (ns : List ℕ) (n : ℕ) → Each P (ns ++ n ∷ []) → Each P ns
prefix_has P [] n all = tt
prefix_has P (m ∷ ns) n all = (all.0, prefix_has P ns n all.1)

-- what is known where a place is given
module _ (kept : List HeldRequest) (x : HeldRequest) (p : IndexPlace) (free left : List ℕ) (es : List IndexPlace) (f : Each (IsFilled kept) es) (inside : Each (λ (at : ℕ). at < length kept) free)
    (once : (at : ℕ) → times at free es ≤ 1) (given : IsPlaceGiven (length kept) free left p.1) (none : find id_cmp p.0 es ≡ None) where
  freed_below : free ≡ left ++ p.1 ∷ [] → p.1 < length kept
  freed_below e = last_has (λ (at : ℕ). at < length kept) left p.1 (subst (λ (ns : List ℕ). Each (λ (at : ℕ). at < length kept) ns) e inside)

  given_most : p.1 ≤ length kept
  given_most = elim given [
    | inl e ↦ let last = freed_below e in omega (arith, last)
    | inr e ↦ omega (arith, e.2)
  ]

  given_apart : Each (λ (e : IndexPlace). e.1 ≢ p.1) es
  given_apart = elim given [
    | inl e ↦
        let here : (p.1 == p.1) ≡ true = self p.1 in
        let count = ap (λ (ns : List ℕ). length (filter (λ (f : ℕ). f == p.1) ns)) e ∙ filter_push p.1 left p.1 ∙ ap (λ (t : Bool). length (filter (λ (f : ℕ). f == p.1) left) + cond t 1 0) here in
        none_at p.1 es (omega (arith, count, once p.1))
    | inr e ↦ Each-weaker (IsFilled kept) (λ (e : IndexPlace). e.1 ≢ p.1) (λ g h same. absurd (omega (arith, same, h.within, e.2))) es f
  ]
    where
      self : (n : ℕ) → (n == n) ≡ true
      self n = grind (arith, nat_tests)

  put_here : held_at (put_at kept p.1 x) p ≡ x
  put_here = go (p.1 == length kept) refl
    where
      go : (t : Bool) → (p.1 == length kept) ≡ t → get_or (cond t (kept ++ x ∷ []) (set kept p.1 x)) p.1 nobody ≡ x
      go true t = let last : p.1 ≡ length kept = grind (arith, nat_tests) in rw last (last_is kept x)
      go false t = let other : p.1 ≢ length kept = grind (arith, nat_tests) in get_or-set_same kept p.1 x nobody (omega (arith, given_most))

  put_other : (e : IndexPlace) → e.1 < length kept → e.1 ≢ p.1 → held_at (put_at kept p.1 x) e ≡ held_at kept e
  put_other e within other = go (p.1 == length kept)
    where
      go : (t : Bool) → get_or (cond t (kept ++ x ∷ []) (set kept p.1 x)) e.1 nobody ≡ get_or kept e.1 nobody
      go true = get_or_append_left kept (x ∷ []) nobody e.1 within
      go false = get_or-set_other kept p.1 e.1 x nobody other

  put_size : ((length (put_at kept p.1 x) ≡ length kept + 1) × (p.1 ≡ length kept)) ⊎ ((length (put_at kept p.1 x) ≡ length kept) × (p.1 < length kept))
  put_size = go (p.1 == length kept) refl
    where
      go : (t : Bool) → (p.1 == length kept) ≡ t
          → ((length (cond t (kept ++ x ∷ []) (set kept p.1 x)) ≡ length kept + 1) × (p.1 ≡ length kept)) ⊎ ((length (cond t (kept ++ x ∷ []) (set kept p.1 x)) ≡ length kept) × (p.1 < length kept))
      go true t = inl (length-append kept (x ∷ []), grind (arith, nat_tests))
      go false t = let other : p.1 ≢ length kept = grind (arith, nat_tests) in inr (length-set kept p.1 x, omega (arith, given_most))

  size_least : length kept ≤ length (put_at kept p.1 x)
  size_least = elim put_size [
    | inl e ↦ omega (arith, e.0)
    | inr e ↦ omega (arith, e.0)
  ]

  given_within : p.1 < length (put_at kept p.1 x)
  given_within = elim put_size [
    | inl e ↦ omega (arith, e.0, e.1)
    | inr e ↦ omega (arith, e.0, e.1)
  ]

  kept_others : (gs : List IndexPlace) → Each (IsFilled kept) gs → Each (λ (e : IndexPlace). e.1 ≢ p.1) gs → Each (IsFilled (put_at kept p.1 x)) gs
  kept_others [] g a = tt
  kept_others (e ∷ gs) g a = (
    record { within = omega (arith, size_least, g.0.within); its_id = ap (λ (y : HeldRequest). y.request.id) (put_other e g.0.within a.0) ∙ g.0.its_id },
    kept_others gs g.1 a.1,
  )

  held_others : (gs : List IndexPlace) → Each (IsFilled kept) gs → Each (λ (e : IndexPlace). e.1 ≢ p.1) gs → held_by (put_at kept p.1 x) gs ≡ held_by kept gs
  held_others [] g a = refl
  held_others (e ∷ gs) g a = λ i. put_other e g.0.within a.0 i ∷ held_others gs g.1 a.1 i

  pub added : x.request.id ≡ p.0 → held_by (put_at kept p.1 x) (put id_cmp p.0 p.1 es) ≡ placed x (held_by kept es)
  added id = placed_put (put_at kept p.1 x) x p es put_here id (kept_others es f given_apart) ∙ ap (placed x) (held_others es f given_apart)

  pub filled_added : x.request.id ≡ p.0 → Each (IsFilled (put_at kept p.1 x)) (put id_cmp p.0 p.1 es)
  filled_added id =
      each_put (IsFilled (put_at kept p.1 x)) p es (record { within = given_within; its_id = ap (λ (y : HeldRequest). y.request.id) put_here ∙ id }) none (kept_others es f given_apart)

  pub within_added : Each (λ (at : ℕ). at < length (put_at kept p.1 x)) left
  within_added = elim given [
    | inl e ↦ Each-weaker (λ (at : ℕ). at < length kept) (λ (at : ℕ). at < length (put_at kept p.1 x)) (λ n l. omega (arith, l, size_least)) left (prefix_has (λ (at : ℕ). at < length kept) left p.1 (subst (λ (ns : List ℕ). Each (λ (at : ℕ). at < length kept) ns) e inside))
    | inr e ↦ subst (λ (ns : List ℕ). Each (λ (at : ℕ). at < length (put_at kept p.1 x)) ns) (sym e.1) tt
  ]

  pub once_added : (b : ℕ) → times b left (put id_cmp p.0 p.1 es) ≤ 1
  once_added b =
      let more = filter_put b p es none in
      elim given [
        | inl e ↦
            let count = ap (λ (ns : List ℕ). length (filter (λ (f : ℕ). f == b) ns)) e ∙ filter_push b left p.1 in
            omega (arith, more, count, once b)
        | inr e ↦ new (p.1 == b) refl more (ap (λ (ns : List ℕ). length (filter (λ (f : ℕ). f == b) ns)) e.1)
      ]
    where
      new : (t : Bool) → (p.1 == b) ≡ t → length (filter (λ (e : IndexPlace). e.1 == b) (put id_cmp p.0 p.1 es)) ≡ length (filter (λ (e : IndexPlace). e.1 == b) es) + cond t 1 0 → length (filter (λ (f : ℕ). f == b) left) ≡ 0 → times b left (put id_cmp p.0 p.1 es) ≤ 1
      new true t more empty =
          let same : p.1 ≡ b = grind (arith, nat_tests) in
          let zero : length (filter (λ (e : IndexPlace). e.1 == b) es) ≡ 0 = none_from b es (subst (λ (n : ℕ). Each (λ (e : IndexPlace). e.1 ≢ n) es) same given_apart) in
          omega (arith, more, empty, zero)
      new false t more empty = omega (arith, more, empty, once b)

  pub size_added : KeysAscend id_cmp es → length (put id_cmp p.0 p.1 es) ≡ length es + 1
  size_added s = length-put id_cmp ids_total p.0 p.1 es s ∙ ap (λ (o : Option ℕ). cond (is_some o) (length es) (length es + 1)) none

  pub as_many_added : KeysAscend id_cmp es → length kept ≡ length free + length es → length (put_at kept p.1 x) ≡ length left + length (put id_cmp p.0 p.1 es)
  as_many_added s same =
      let more = size_added s in
      elim given [
        | inl e ↦
            let shorter = ap (λ (ns : List ℕ). length ns) e ∙ length-append left (p.1 ∷ []) in
            let below = freed_below e in
            elim put_size [
              | inl size ↦ absurd (omega (arith, size.1, below))
              | inr size ↦ omega (arith, size.0, more, shorter, same)
            ]
        | inr e ↦
            let empty = ap (λ (ns : List ℕ). length ns) e.0 in
            let none_left = ap (λ (ns : List ℕ). length ns) e.1 in
            elim put_size [
              | inl size ↦ omega (arith, size.0, more, empty, none_left, same)
              | inr size ↦ absurd (omega (arith, size.1, e.2))
            ]
      ]

  pub size_within : (room : ℕ) → length kept ≤ room → length kept ≡ length free + length es → length es < room → length (put_at kept p.1 x) ≤ room
  size_within room most same few =
      elim put_size [
        | inl size ↦ elim given [
          | inl e ↦ let below = freed_below e in absurd (omega (arith, size.1, below))
          | inr e ↦ let empty = ap (λ (ns : List ℕ). length ns) e.0 in omega (arith, size.0, empty, same, few)
        ]
        | inr size ↦ omega (arith, size.0, most)
      ]

-- ---- one is marked

pub marked_request : (x : HeldRequest) → (marked x).request ≡ x.request
marked_request x = cond_both (nat_le 3 x.survived) _ _ (λ (y : HeldRequest). y.request ≡ x.request) (λ y. refl) (λ n. refl)

-- no other one has the id
pub none_marked : (id : RequestId) (held : List HeldRequest) → is_held id held ≡ false → held ≡ map (marked_at id) held
none_marked id [] none = refl
none_marked id (x ∷ held) none = go (same_id id x.request.id) refl none (none_marked id held)
  where
    go : (b : Bool) → same_id id x.request.id ≡ b → (b || is_held id held) ≡ false → (is_held id held ≡ false → held ≡ map (marked_at id) held) → x ∷ held ≡ cond b (marked x) x ∷ map (marked_at id) held
    go true e none rest = absurd cc
    go false e none rest = ap (λ ys. x ∷ ys) (rest none)

-- the one at that place is marked
abbrev pub with_mark : List HeldRequest → ℕ → List HeldRequest
with_mark kept at = set kept at (marked (get_or kept at nobody))

filled_marked : (kept : List HeldRequest) (at : ℕ) (e : IndexPlace) → IsFilled kept e → IsFilled (with_mark kept at) e
filled_marked kept at e f = record {
  within = rw (length-set kept at (marked (get_or kept at nobody))) f.within;
  its_id = elim (cases_eq at e.1) [
    | inl same ↦
        let here : held_at (with_mark kept at) e ≡ marked (held_at kept e) = rw same (get_or-set_same kept e.1 (marked (get_or kept e.1 nobody)) nobody f.within) in
        rw here (ap (λ (r : Request). r.id) (marked_request (held_at kept e)) ∙ f.its_id)
    | inr other ↦
        let here : held_at (with_mark kept at) e ≡ held_at kept e = get_or-set_other kept at e.1 (marked (get_or kept at nobody)) nobody (omega arith) in
        rw here f.its_id
  ];
}

pub all_filled_marked : (kept : List HeldRequest) (at : ℕ) (es : List IndexPlace) → Each (IsFilled kept) es → Each (IsFilled (with_mark kept at)) es
all_filled_marked kept at es f = Each-weaker (IsFilled kept) (IsFilled (with_mark kept at)) (filled_marked kept at) es f

-- what the index says of its own ids
each_found : (es : List IndexPlace) → KeysAscend id_cmp es → Each (λ (e : IndexPlace). find id_cmp e.0 es ≡ Some e.1) es
each_found [] s = tt
each_found (e ∷ es) s = (rw (tied_itself ids_total e.0) refl, later es (left _ _ s) (each_found es (right _ _ s)))
  where
    later : (fs : List IndexPlace) → T (below_all id_cmp e.0 fs) → Each (λ (f : IndexPlace). find id_cmp f.0 es ≡ Some f.1) fs → Each (λ (f : IndexPlace). find id_cmp f.0 (e ∷ es) ≡ Some f.1) fs
    later [] below all = tt
    later (f ∷ fs) below all =
        let apart : id_cmp f.0 e.0 ≡ Greater = greater_back e.0 f.0 (is_less _ (left _ _ below)) in
        (rw apart all.0, later fs (right _ _ below) all.1)

pub filled_found : (kept : List HeldRequest) (es : List IndexPlace) (id : RequestId) (at : ℕ) → Each (IsFilled kept) es → find id_cmp id es ≡ Some at → IsFilled kept (id, at)
filled_found kept [] id at f found = absurd cc
filled_found kept (e ∷ es) id at f found = go (eq_by_cmp id_cmp id e.0) (tied_same id e.0) found (filled_found kept es id at f.1)
  where
    go : (b : Bool) → b ≡ same_id id e.0 → cond b (Some e.1) (find id_cmp id es) ≡ Some at → (find id_cmp id es ≡ Some at → IsFilled kept (id, at)) → IsFilled kept (id, at)
    go true tied found rest =
        let own : e.0 ≡ id = sym (same_id-true id e.0 (sym tied)) in
        let its : e.1 ≡ at = cc in
        record { within = subst (λ (n : ℕ). n < length kept) its f.0.within; its_id = ap (λ (n : ℕ). (get_or kept n nobody).request.id) (sym its) ∙ f.0.its_id ∙ own }
    go false tied found rest = rest found

module _ (kept : List HeldRequest) (es : List IndexPlace) (id : RequestId) (at : ℕ) (s : KeysAscend id_cmp es) (f : Each (IsFilled kept) es) (found : find id_cmp id es ≡ Some at) where
  marked_one : (e : IndexPlace) → IsFilled kept e → find id_cmp e.0 es ≡ Some e.1 → held_at (with_mark kept at) e ≡ marked_at id (held_at kept e)
  marked_one e filled its = elim (cases_eq at e.1) [
    | inl same ↦
        let here : held_at (with_mark kept at) e ≡ marked (held_at kept e) = rw same (get_or-set_same kept e.1 (marked (get_or kept e.1 nobody)) nobody filled.within) in
        let own : (held_at kept e).request.id ≡ id = ap (λ (n : ℕ). (get_or kept n nobody).request.id) (sym same) ∙ (filled_found kept es id at f found).its_id in
        let test : same_id id (held_at kept e).request.id ≡ true = rw own (same_id-self id) in
        here ∙ ap (λ (b : Bool). cond b (marked (held_at kept e)) (held_at kept e)) (sym test)
    | inr other ↦
        let here : held_at (with_mark kept at) e ≡ held_at kept e = get_or-set_other kept at e.1 (marked (get_or kept at nobody)) nobody (omega arith) in
        let test : same_id id (held_at kept e).request.id ≡ false = apart_not_same id (held_at kept e).request.id (λ own.
        let one : Some at ≡ Some e.1 = sym found ∙ ap (λ (x : RequestId). find id_cmp x es) (own ∙ filled.its_id) ∙ its in
        let no : at ≡ e.1 = cc in
        absurd (omega arith)) in
        here ∙ ap (λ (b : Bool). cond b (marked (held_at kept e)) (held_at kept e)) (sym test)
  ]

  pub held_marked : held_by (with_mark kept at) es ≡ map (marked_at id) (held_by kept es)
  held_marked = go es f (each_found es s)
    where
      go : (gs : List IndexPlace) → Each (IsFilled kept) gs → Each (λ (e : IndexPlace). find id_cmp e.0 es ≡ Some e.1) gs → held_by (with_mark kept at) gs ≡ map (marked_at id) (held_by kept gs)
      go [] filled its = refl
      go (g ∷ gs) filled its = λ i. marked_one g filled.0 its.0 i ∷ go gs filled.1 its.1 i
