-- What is picked from pairs in ascending order of their keys, by their values.
use Rattle.std.proofs.Common.{◌≡◌, ℕ, Bool, true, false, cond, List, map, Option, Some, None, refl, ap, sym, ◌∙◌}
use Rattle.std.specs.Cmp.{nat_cmp_total}
use Rattle.std.specs.FinMap.{nat_cmp-IsAntisymmetric}
use Rattle.std.specs.FinMap.Entries.{find, put, find-put, is_sorted-put, same_entries}
use Rattle.std.specs.List.{filter}
use Rattle.std.specs.Option.{option_map}
use Rattle.std.specs.Ordering.{eq_by_cmp, nat_cmp}
use Rattle.curp_base.specs.Words.{KeysAscend}
use Rattle.curp_base.proofs.Values.{ascend_passing, ascend_values, find_passing, find_values, is_tied, passing}

module _ {V W : Type 0} (p : V → Bool) (f : V → W) where
  -- the pairs whose values pass the test, with what is wanted of them
  abbrev pub picked : List (ℕ × V) → List (ℕ × W)
  picked es = map (λ (e : ℕ × V). (e.0, f e.1)) (filter (λ (e : ℕ × V). p e.1) es)

  abbrev pub pick : Option V → Option W
  pick None = None
  pick (Some v) = cond (p v) (Some (f v)) None

  pick_is : (o : Option V) → option_map f (passing p o) ≡ pick o
  pick_is None = refl
  pick_is (Some v) = go (p v)
    where
      go : (b : Bool) → option_map f (cond b (Some v) None) ≡ cond b (Some (f v)) None
      go true = refl
      go false = refl

  pub ascend_picked_values : (es : List (ℕ × V)) → KeysAscend nat_cmp es → KeysAscend nat_cmp (picked es)
  ascend_picked_values es s = ascend_values nat_cmp f (filter (λ (e : ℕ × V). p e.1) es) (ascend_passing nat_cmp p es s)

  pub find_picked : (k : ℕ) (es : List (ℕ × V)) → KeysAscend nat_cmp es → find nat_cmp k (picked es) ≡ pick (find nat_cmp k es)
  find_picked k es s = find_values nat_cmp f k (filter (λ (e : ℕ × V). p e.1) es) ∙ ap (option_map f) (find_passing nat_cmp p nat_cmp_total k es s) ∙ pick_is (find nat_cmp k es)

  found_put : (q k : ℕ) (v : V) (es : List (ℕ × V)) → KeysAscend nat_cmp es → find nat_cmp q (picked (put nat_cmp k v es)) ≡ pick (cond (eq_by_cmp nat_cmp q k) (Some v) (find nat_cmp q es))
  found_put q k v es s = find_picked q (put nat_cmp k v es) (is_sorted-put nat_cmp nat_cmp_total k v es s) ∙ ap pick (find-put nat_cmp nat_cmp_total q k v es)

  -- a value that passes the test is put among those that are picked
  pub put_picked : (k : ℕ) (v : V) (es : List (ℕ × V)) → p v ≡ true → KeysAscend nat_cmp es → picked (put nat_cmp k v es) ≡ put nat_cmp k (f v) (picked es)
  put_picked k v es passes s =
      same_entries nat_cmp nat_cmp_total nat_cmp-IsAntisymmetric (picked (put nat_cmp k v es)) (put nat_cmp k (f v) (picked es))
      (ascend_picked_values (put nat_cmp k v es) (is_sorted-put nat_cmp nat_cmp_total k v es s))
      (is_sorted-put nat_cmp nat_cmp_total k (f v) (picked es) (ascend_picked_values es s))
      (λ q. found_put q k v es s ∙ go q (eq_by_cmp nat_cmp q k) ∙ sym (find-put nat_cmp nat_cmp_total q k (f v) (picked es)))
    where
      go : (q : ℕ) (b : Bool) → pick (cond b (Some v) (find nat_cmp q es)) ≡ cond b (Some (f v)) (find nat_cmp q (picked es))
      go q true = rw passes refl
      go q false = sym (find_picked q es s)

  -- one of which the same is picked as of the value that was there changes nothing
  pub put_unseen : (k : ℕ) (v : V) (es : List (ℕ × V)) → pick (Some v) ≡ pick (find nat_cmp k es) → KeysAscend nat_cmp es → picked (put nat_cmp k v es) ≡ picked es
  put_unseen k v es same s =
      same_entries nat_cmp nat_cmp_total nat_cmp-IsAntisymmetric (picked (put nat_cmp k v es)) (picked es)
      (ascend_picked_values (put nat_cmp k v es) (is_sorted-put nat_cmp nat_cmp_total k v es s)) (ascend_picked_values es s)
      (λ q. found_put q k v es s ∙ go q (eq_by_cmp nat_cmp q k) refl ∙ sym (find_picked q es s))
    where
      go : (q : ℕ) (b : Bool) → eq_by_cmp nat_cmp q k ≡ b → pick (cond b (Some v) (find nat_cmp q es)) ≡ pick (find nat_cmp q es)
      go q true e = same ∙ ap (λ (x : ℕ). pick (find nat_cmp x es)) (sym (nat_cmp-IsAntisymmetric q k (is_tied _ e)))
      go q false e = refl
