-- What a collection leaves of the register.
use Rattle.std.proofs.Common.{◌≡◌, ℕ, ◌+◌, ◌==◌, ◌<◌, Bool, true, false, cond, not, List, [], ◌∷◌, ◌++◌, length, map, refl, ap, sym, ◌∙◌, arith, length-append}
use Rattle.std.specs.FinMap.Entries.{is_sorted-where_key}
use Rattle.std.specs.List.{filter}
use Rattle.std.proofs.lemmas.List.{get_or-map, length-map}
use Rattle.std.proofs.lemmas.List.Elements.{filter-append}
use Rattle.std.proofs.lemmas.List.Filters.{length-filter_both}
use Rattle.curp_base.specs.Words.{Each, KeysAscend}
use Rattle.curp_base.proofs.Lists.{Each-map, Each-weaker, Each-filter}
use Rattle.curp_cmd.specs.RequestId.{has_id, id_cmp}
use Rattle.curp_cmd.specs.declared.command.RequestId.{RequestId}
use Rattle.curp_model.specs.Witness.{HeldRequest, survives}
use Rattle.curp_slots.specs.Collection.{places_freed, places_left, what_remains}
use Rattle.curp_slots.specs.Register.{IsFilled, IndexPlace, held_at, held_by, nobody, times}
use Rattle.curp_slots.proofs.Filters.{counted_apart, map_filter}

module _ (kept : List HeldRequest) (listed : List RequestId) where
  survived_at : (e : IndexPlace) → e.1 < length kept → held_at (map survives kept) e ≡ survives (held_at kept e)
  survived_at e within = get_or-map survives kept e.1 nobody nobody within

  filled_survived : (e : IndexPlace) → IsFilled kept e → IsFilled (map survives kept) e
  filled_survived e f = record {
    within = rw (length-map kept survives) f.within;
    its_id = ap (λ (x : HeldRequest). x.request.id) (survived_at e f.within) ∙ f.its_id;
  }

  pub filled_left : (es : List IndexPlace) → Each (IsFilled kept) es → Each (IsFilled (map survives kept)) (places_left listed es)
  filled_left es f = Each-filter (IsFilled (map survives kept)) (λ (e : IndexPlace). not (has_id e.0 listed)) es (Each-weaker (IsFilled kept) (IsFilled (map survives kept)) filled_survived es f)

  pub held_left : (es : List IndexPlace) → Each (IsFilled kept) es → held_by (map survives kept) (places_left listed es) ≡ map survives (what_remains listed (held_by kept es))
  held_left [] f = refl
  held_left (e ∷ es) f = rw f.0.its_id (go (has_id e.0 listed) (held_left es f.1))
    where
      go : (b : Bool) → held_by (map survives kept) (places_left listed es) ≡ map survives (what_remains listed (held_by kept es))
          → held_by (map survives kept) (cond (not b) (e ∷ places_left listed es) (places_left listed es))
          ≡ map survives (cond (not b) (held_at kept e ∷ what_remains listed (held_by kept es)) (what_remains listed (held_by kept es)))
      go true rest = rest
      go false rest = λ i. survived_at e f.0.within i ∷ rest i

  pub freed_within : (es : List IndexPlace) → Each (IsFilled kept) es → Each (λ (at : ℕ). at < length (map survives kept)) (places_freed listed es)
  freed_within es f =
      rw (length-map kept survives)
      (Each-map (λ (at : ℕ). at < length kept) (λ (e : IndexPlace). e.1) (filter (λ e. has_id e.0 listed) es)
      (Each-filter (λ (e : IndexPlace). e.1 < length kept) (λ (e : IndexPlace). has_id e.0 listed) es (Each-weaker (IsFilled kept) (λ (e : IndexPlace). e.1 < length kept) (λ e g. g.within) es f)))

pub within_survived : (kept : List HeldRequest) (free : List ℕ) → Each (λ (at : ℕ). at < length kept) free → Each (λ (at : ℕ). at < length (map survives kept)) free
within_survived kept free inside = rw (length-map kept survives) inside

pub ascend_left : (listed : List RequestId) (es : List IndexPlace) → KeysAscend id_cmp es → KeysAscend id_cmp (places_left listed es)
ascend_left listed es s = is_sorted-where_key id_cmp (λ (id : RequestId). not (has_id id listed)) es s

pub times_left : (listed : List RequestId) (at : ℕ) (free : List ℕ) (es : List IndexPlace) → times at (free ++ places_freed listed es) (places_left listed es) ≡ times at free es
times_left listed at free es =
    let all = ap (λ (ns : List ℕ). length ns) (filter-append (λ (f : ℕ). f == at) free (places_freed listed es)) ∙ length-append (filter (λ (f : ℕ). f == at) free) (filter (λ (f : ℕ). f == at) (places_freed listed es)) in
    let freed : length (filter (λ (f : ℕ). f == at) (places_freed listed es)) ≡ length (filter (λ (e : IndexPlace). e.1 == at) (filter (λ (e : IndexPlace). has_id e.0 listed) es)) =
    ap (λ (ns : List ℕ). length ns) (sym (map_filter (λ (e : IndexPlace). e.1) (λ (f : ℕ). f == at) (λ (e : IndexPlace). e.1 == at) (λ e. refl) (filter (λ (e : IndexPlace). has_id e.0 listed) es)))
    ∙ length-map (filter (λ (e : IndexPlace). e.1 == at) (filter (λ (e : IndexPlace). has_id e.0 listed) es)) (λ (e : IndexPlace). e.1) in
    let both = counted_apart (λ (e : IndexPlace). e.1 == at) (λ (e : IndexPlace). has_id e.0 listed) es in
    omega (arith, all, freed, both)

pub as_many_left : (listed : List RequestId) (free : List ℕ) (es : List IndexPlace) → length (free ++ places_freed listed es) + length (places_left listed es) ≡ length free + length es
as_many_left listed free es =
    let all = length-append free (places_freed listed es) in
    let freed = length-map (filter (λ (e : IndexPlace). has_id e.0 listed) es) (λ (e : IndexPlace). e.1) in
    let both = length-filter_both (λ (e : IndexPlace). has_id e.0 listed) (λ (e : IndexPlace). not (has_id e.0 listed)) (λ e. refl) es in
    omega (arith, all, freed, both)
