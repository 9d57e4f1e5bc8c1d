-- The test of ids tells whether they are one.
use Rattle.std.proofs.Common.{◌≡◌, ℕ, ◌==◌, ◌&&◌, Bool, true, false, refl, arith}
use Rattle.std.proofs.lemmas.Bool.{and_from, and_parts}
use Rattle.std.proofs.lemmas.Bool.Decides.{nat_tests}
use Rattle.std.specs.Ordering.{eq_by_cmp, is_eq, nat_cmp, ordering_then}
use Rattle.std.specs.declared.cmp.Ordering.{Ordering}
use Rattle.std.specs.declared.cmp.Ordering.TheVariants.{Less, Equal, Greater}
use Rattle.curp_cmd.specs.RequestId.{id_cmp, same_id}
use Rattle.curp_cmd.specs.declared.command.RequestId.{RequestId}

pub same_id-true : (a b : RequestId) → same_id a b ≡ true → a ≡ b
same_id-true a b e =
    let parts = and_parts (a.client == b.client) (a.seq == b.seq) e in
    let client : a.client ≡ b.client = grind (arith, nat_tests) in
    let seq : a.seq ≡ b.seq = grind (arith, nat_tests) in
    λ i. record { client = client i; seq = seq i }

pub same_id-self : (a : RequestId) → same_id a a ≡ true
same_id-self a = and_from _ _ (one a.client) (one a.seq)
  where
    one : (n : ℕ) → (n == n) ≡ true
    one n = grind (arith, nat_tests)

pub apart_not_same : (a b : RequestId) → (a ≡ b → ⊥) → same_id a b ≡ false
apart_not_same a b apart = go (same_id a b) refl
  where
    go : (t : Bool) → same_id a b ≡ t → t ≡ false
    go true e = absurd (apart (same_id-true a b e))
    go false e = refl

-- ids that tie are the same
pub tied_same : (a b : RequestId) → eq_by_cmp id_cmp a b ≡ same_id a b
tied_same a b = go (nat_cmp a.client b.client) refl (nat_cmp a.seq b.seq) refl
  where
    go : (r : Ordering) → nat_cmp a.client b.client ≡ r → (s : Ordering) → nat_cmp a.seq b.seq ≡ s → is_eq (ordering_then r s) ≡ ((a.client == b.client) && (a.seq == b.seq))
    go Less c s d = let no : (a.client == b.client) ≡ false = grind (arith, nat_tests) in rw no refl
    go Greater c s d = let no : (a.client == b.client) ≡ false = grind (arith, nat_tests) in rw no refl
    go Equal c Equal d =
        let client : (a.client == b.client) ≡ true = grind (arith, nat_tests) in
        let seq : (a.seq == b.seq) ≡ true = grind (arith, nat_tests) in
        rw (client, seq) refl
    go Equal c Less d =
        let client : (a.client == b.client) ≡ true = grind (arith, nat_tests) in
        let seq : (a.seq == b.seq) ≡ false = grind (arith, nat_tests) in
        rw (client, seq) refl
    go Equal c Greater d =
        let client : (a.client == b.client) ≡ true = grind (arith, nat_tests) in
        let seq : (a.seq == b.seq) ≡ false = grind (arith, nat_tests) in
        rw (client, seq) refl
