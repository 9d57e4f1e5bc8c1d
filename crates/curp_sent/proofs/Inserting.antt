-- Which numbers a set has in it.
use Rattle.std.proofs.Common.{◌≡◌, ℕ, ◌||◌, eqb, List, [], ◌∷◌, refl, arith}
use Rattle.std.specs.List.{list_any}
use Rattle.std.specs.Ordering.{nat_cmp}
use Rattle.std.specs.BTreeSet.{insert_key}
use Rattle.std.proofs.lemmas.Bool.Decides.{nat_tests}

-- one number more
pub has-insert_key : (keys : List ℕ) (key q : ℕ)
    → list_any (eqb q) (insert_key nat_cmp keys key) ≡ (eqb q key || list_any (eqb q) keys)
has-insert_key [] key q = refl
has-insert_key (k ∷ keys) key q = grind (arith, nat_tests, has-insert_key keys key q)
