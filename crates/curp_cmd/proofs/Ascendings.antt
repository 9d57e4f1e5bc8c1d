-- A test of numbers finds among them the same in any order, each once or more often.
use Rattle.std.proofs.Common.{◌≡◌, ℕ, Bool, true, false, ◌&&◌, ◌||◌, List, [], ◌∷◌, fold, refl, ap, sym, ◌∙◌}
use Rattle.std.specs.BTreeSet.{insert_key}
use Rattle.std.specs.List.{list_all, list_any}
use Rattle.std.specs.Ordering.{nat_cmp, match_ordering}
use Rattle.std.specs.declared.cmp.Ordering.{Ordering}
use Rattle.std.specs.declared.cmp.Ordering.TheVariants.{Less, Equal, Greater}
use Rattle.std.proofs.Math.Bool.{and_assoc, and_comm, or_assoc, or_comm}
use Rattle.std.proofs.lemmas.Map.Lookups.{exact_unsigned}
use Rattle.curp_cmd.specs.Hash.{ascending}

-- ---- some number passes

or_again : (a b : Bool) → (a || b) ≡ ((a || b) || a)
or_again true b = refl
or_again false true = refl
or_again false false = refl

any_inserted : (p : ℕ → Bool) (xs : List ℕ) (k : ℕ) → list_any p (insert_key nat_cmp xs k) ≡ (list_any p xs || p k)
any_inserted p [] k = or_comm (p k) false
any_inserted p (x ∷ xs) k = go (nat_cmp k x) refl (any_inserted p xs k)
  where
    go : (r : Ordering) → nat_cmp k x ≡ r → list_any p (insert_key nat_cmp xs k) ≡ (list_any p xs || p k)
        → list_any p (match_ordering r (k ∷ x ∷ xs) (x ∷ xs) (x ∷ insert_key nat_cmp xs k)) ≡ ((p x || list_any p xs) || p k)
    go Less e rest = or_comm (p k) (p x || list_any p xs)
    go Equal e rest = let same : k ≡ x = exact_unsigned k x e in rw same (or_again (p x) (list_any p xs))
    go Greater e rest = rw rest (sym (or_assoc (p x) (list_any p xs) (p k)))

any_collected : (p : ℕ → Bool) (xs found : List ℕ) → list_any p (fold (insert_key nat_cmp) found xs) ≡ (list_any p found || list_any p xs)
any_collected p [] found = or_comm false (list_any p found)
any_collected p (x ∷ xs) found =
    any_collected p xs (insert_key nat_cmp found x) ∙ ap (λ (b : Bool). b || list_any p xs) (any_inserted p found x) ∙ or_assoc (list_any p found) (p x) (list_any p xs)

pub any_ascending : (p : ℕ → Bool) (xs : List ℕ) → list_any p (ascending xs) ≡ list_any p xs
any_ascending p xs = any_collected p xs []

-- ---- all numbers pass

and_again : (a b : Bool) → (a && b) ≡ ((a && b) && a)
and_again true true = refl
and_again true false = refl
and_again false b = refl

all_inserted : (p : ℕ → Bool) (xs : List ℕ) (k : ℕ) → list_all p (insert_key nat_cmp xs k) ≡ (list_all p xs && p k)
all_inserted p [] k = and_comm (p k) true
all_inserted p (x ∷ xs) k = go (nat_cmp k x) refl (all_inserted p xs k)
  where
    go : (r : Ordering) → nat_cmp k x ≡ r → list_all p (insert_key nat_cmp xs k) ≡ (list_all p xs && p k)
        → list_all p (match_ordering r (k ∷ x ∷ xs) (x ∷ xs) (x ∷ insert_key nat_cmp xs k)) ≡ ((p x && list_all p xs) && p k)
    go Less e rest = and_comm (p k) (p x && list_all p xs)
    go Equal e rest = let same : k ≡ x = exact_unsigned k x e in rw same (and_again (p x) (list_all p xs))
    go Greater e rest = rw rest (sym (and_assoc (p x) (list_all p xs) (p k)))

all_collected : (p : ℕ → Bool) (xs found : List ℕ) → list_all p (fold (insert_key nat_cmp) found xs) ≡ (list_all p found && list_all p xs)
all_collected p [] found = and_comm true (list_all p found)
all_collected p (x ∷ xs) found =
    all_collected p xs (insert_key nat_cmp found x) ∙ ap (λ (b : Bool). b && list_all p xs) (all_inserted p found x) ∙ and_assoc (list_all p found) (p x) (list_all p xs)

pub all_ascending : (p : ℕ → Bool) (xs : List ℕ) → list_all p (ascending xs) ≡ list_all p xs
all_ascending p xs = all_collected p xs []
