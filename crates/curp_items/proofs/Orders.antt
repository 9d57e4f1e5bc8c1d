-- The order of each kind of list, as the formats of its items ask for it.
use Rattle.std.proofs.Common.{◌≡◌, ℕ, false, List, [], ◌∷◌, ◌++◌, Option, Some, None, refl, sym, ap, subst, ◌∙◌}
use Rattle.std.specs.Prelude.{IfSome, option_map}
use Rattle.std.specs.Cmp.{IsTotalOrder}
use Rattle.std.specs.declared.cmp.Ordering.{Ordering}
use Rattle.std.specs.declared.cmp.Ordering.TheVariants.{Less}
use Rattle.curp_base.specs.Words.{Ascend, KeysAscend, last_of}
use Rattle.curp_items.proofs.Ascends.{ascend-prefix, ascend-last, keys-prefix, keys-last, keys_on, pairs_on}
use Rattle.curp_items.proofs.Combining.{IsFormat, IsOrder, listed_is, then_is}
use Rattle.curp_items.specs.Format.{Format, ascending_keys, ascending_pairs, key_after, ◌▸◌}

-- what the format of the keys above another asks
pub record IsAbove {K : Type 0} (R : K → K → Ordering) (key : Format K) (above : K → Format K) : Type 0 where
  pub asks : (last k : K) → (above last).Fits k → key.Fits k × (R last k ≡ Less)
  pub enough : (last k : K) → key.Fits k → R last k ≡ Less → (above last).Fits k
  pub alike : (last k : K) → (above last).of k ≡ key.of k
  pub is : (last : K) → IsFormat (above last)

module _ {K : Type 0} (R : K → K → Ordering) (key : Format K) (above : K → Format K) (a : IsAbove R key above) where
  after_asks : (last : Option K) (k : K) → (key_after key above last).Fits k → key.Fits k × IfSome last (λ l. R l k ≡ Less)
  after_asks None k f = (f, tt)
  after_asks (Some last) k f = a.asks last k f

  after_enough : (last : Option K) (k : K) → key.Fits k → ((l : K) → last ≡ Some l → R l k ≡ Less) → (key_after key above last).Fits k
  after_enough None k f l = f
  after_enough (Some last) k f l = a.enough last k f (l last refl)

  after_alike : (last : Option K) (k : K) → (key_after key above last).of k ≡ key.of k
  after_alike None k = refl
  after_alike (Some last) k = a.alike last k

  after_is : IsFormat key → (last : Option K) → IsFormat (key_after key above last)
  after_is is None = is
  after_is is (Some last) = a.is last

  module _ (o : IsTotalOrder R) where
    keys_order : IsOrder key (Ascend R) (λ before. key_after key above (last_of before))
    keys_order = record {
      empty = tt;
      prefix = keys-prefix R;
      grows = λ before k asc f.
          let g = after_asks (last_of before) k f in
          (g.0, keys_on R o before (last_of before) k asc refl g.1);
      shrinks = λ before k asc f. after_enough (last_of before) k f (λ l e. keys-last R before k l asc e);
    }

    pub ascending_keys_is : (count : Format ℕ) → IsFormat count → IsFormat key → IsFormat (ascending_keys R count key above)
    ascending_keys_is count counts is = listed_is key (Ascend R) (λ before. key_after key above (last_of before)) keys_order (λ before. after_is is (last_of before)) (λ before k. after_alike (last_of before) k) count counts

    module _ {V : Type 0} (value : Format V) where
      last_key : (before : List (K × V)) (l : K) → option_map (λ (p : K × V). p.0) (last_of before) ≡ Some l → (p : K × V) × (last_of before ≡ Some p) × (p.0 ≡ l)
      last_key before l e = of_last (last_of before) e
        where
          of_last : (o : Option (K × V)) → option_map (λ (p : K × V). p.0) o ≡ Some l → (p : K × V) × (o ≡ Some p) × (p.0 ≡ l)
          of_last None e = absurd cc
          of_last (Some p) e = (p, refl, cc)

      pairs_order : IsOrder (key ▸ value) (KeysAscend R) (λ before. key_after key above (option_map (λ p. p.0) (last_of before)) ▸ value)
      pairs_order = record {
        empty = tt;
        prefix = ascend-prefix R;
        grows = λ before p asc f.
            let g = after_asks (option_map (λ p. p.0) (last_of before)) p.0 f.0 in
            ((g.0, f.1), pairs_on R o before (option_map (λ p. p.0) (last_of before)) p.0 p.1 asc refl g.1);
        shrinks = λ before p asc f. (
          after_enough (option_map (λ p. p.0) (last_of before)) p.0 f.0 (λ l e.
              let last = last_key before l e in
              subst (λ (k : K). R k p.0 ≡ Less) last.2 (ascend-last R before p last.0 asc last.1)),
          f.1,
        );
      }

      pub ascending_pairs_is : (count : Format ℕ) → IsFormat count → IsFormat key → IsFormat value → IsFormat (ascending_pairs R count key above value)
      ascending_pairs_is count counts is values =
          let next : List (K × V) → Format (K × V) = λ before. key_after key above (option_map (λ p. p.0) (last_of before)) ▸ value in
          listed_is (key ▸ value) (KeysAscend R) next pairs_order
          (λ before. then_is (key_after key above (option_map (λ p. p.0) (last_of before))) value (after_is is (option_map (λ p. p.0) (last_of before))) values)
          (λ before p. ap (λ (r : List ℕ). r ++ value.of p.1) (after_alike (option_map (λ p. p.0) (last_of before)) p.0))
          count counts
