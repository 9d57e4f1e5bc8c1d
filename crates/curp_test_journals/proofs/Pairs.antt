-- Two journals for the tests.
use Rattle.std.proofs.Common.{◌≡◌, ◌≢◌, ℕ, zero, suc, [], ◌∷◌, refl}
use Rattle.curp_base.specs.Words.{At}
use Rattle.curp_base.proofs.Lists.{Each-at}
use Rattle.curp_journal.specs.declared.item.Item.{Item}
use Rattle.curp_journal.specs.Turns.{AreApart, Journal}
use Rattle.curp_test_journals.specs.Lines.{IsLine}
use Rattle.curp_merge.specs.Merging.{AreJournals}
use Rattle.curp_journal.specs.Own.{IsOwn}

module _ (a b : Journal) where
  both_apart : a.id ≢ b.id → AreApart (a ∷ b ∷ [])
  both_apart ne zero zero x y at bt e = refl
  both_apart ne zero (suc zero) x y at bt e =
      let same : a ≡ x = cc in
      let other : b ≡ y = cc in
      absurd (ne (cc (same, other, e)))
  both_apart ne (suc zero) zero x y at bt e =
      let same : b ≡ x = cc in
      let other : a ≡ y = cc in
      absurd (ne (cc (same, other, e)))
  both_apart ne (suc zero) (suc zero) x y at bt e = refl
  both_apart ne (suc (suc i)) k x y at bt e = absurd cc
  both_apart ne i (suc (suc k)) x y at bt e = absurd cc

  each_is : IsLine a → IsLine b → (k : ℕ) (j : Journal) → At (a ∷ b ∷ []) k j → IsLine j
  each_is is_a is_b k j at = Each-at IsLine (a ∷ b ∷ []) (is_a, (is_b, tt)) k j at

  pub both_are : a.id ≢ b.id → IsLine a → IsLine b → AreJournals (a ∷ b ∷ [])
  both_are ne is_a is_b = record {
    apart = both_apart ne;
    one_manager = λ k j at is. absurd ((each_is is_a is_b k j at).runs is);
    stamped = λ k j at. (each_is is_a is_b k j at).stamped;
    own = λ k j t item at_j at. Each-at (λ (i : Item). IsOwn j.id i.input) j.items (each_is is_a is_b k j at_j).own t item at;
  }
