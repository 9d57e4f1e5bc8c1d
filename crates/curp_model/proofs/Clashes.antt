-- Requests that have one id or conflict.
use Rattle.std.proofs.Common.{◌≡◌, ℕ, zero, suc, ◌==◌, ◌&&◌, ◌||◌, Bool, true, false, List, [], ◌∷◌, take, refl, ap, sym, ◌∙◌, subst, arith}
use Rattle.std.specs.List.{AllByRecursion, IsDistinct, list_any}
use Rattle.std.specs.Ordering.{eq_by_cmp}
use Rattle.std.proofs.lemmas.Bool.{or_left, or_parts}
use Rattle.std.proofs.lemmas.Bool.Decides.{nat_tests}
use Rattle.std.proofs.lemmas.Map.Keys.{IsDistinct-head, IsDistinct-tail}
use Rattle.std.proofs.lemmas.Map.Views.{tells_apart}
use Rattle.curp_base.specs.Words.{At}
use Rattle.curp_cmd.specs.Hash.{conflicts, hashes_of}
use Rattle.curp_cmd.specs.RequestId.{id_cmp, same_id}
use Rattle.curp_cmd.specs.declared.command.Request.{Request}
use Rattle.curp_cmd.specs.declared.command.RequestId.{RequestId}
use Rattle.curp_model.specs.Laws.{clash}
use Rattle.curp_model.proofs.Tables.{ids_same}
use Rattle.curp_cmd.proofs.Ids.{same_id-self}

-- ---- it is the same the other way round

pub any_or : {A : Type 0} (p q : A → Bool) (xs : List A) → list_any (λ x. p x || q x) xs ≡ (list_any p xs || list_any q xs)
any_or p q [] = refl
any_or p q (x ∷ xs) = ap (λ (b : Bool). (p x || q x) || b) (any_or p q xs) ∙ go (p x) (q x) (list_any p xs) (list_any q xs)
  where
    go : (a b c d : Bool) → ((a || b) || (c || d)) ≡ ((a || c) || (b || d))
    go true b c d = refl
    go false true true d = refl
    go false true false d = refl
    go false false c d = refl

any_alike : {A : Type 0} (p q : A → Bool) → ((x : A) → p x ≡ q x) → (xs : List A) → list_any p xs ≡ list_any q xs
any_alike p q same [] = refl
any_alike p q same (x ∷ xs) = λ i. same x i || any_alike p q same xs i

pub any_none : {A : Type 0} (xs : List A) → list_any (λ x. false) xs ≡ false
any_none [] = refl
any_none (x ∷ xs) = any_none xs

equal_flips : (a b : ℕ) → (a == b) ≡ (b == a)
equal_flips a b = grind (arith, nat_tests)

pub common_flips : (xs ys : List ℕ) → list_any (λ h. list_any (λ x. x == h) ys) xs ≡ list_any (λ h. list_any (λ x. x == h) xs) ys
common_flips [] ys = sym (any_none ys)
common_flips (z ∷ xs) ys =
    (λ i. any_alike (λ (y : ℕ). y == z) (λ (y : ℕ). z == y) (λ y. equal_flips y z) ys i || common_flips xs ys i)
    ∙ sym (any_or (λ (h : ℕ). z == h) (λ (h : ℕ). list_any (λ x. x == h) xs) ys)

pub clash_flips : (r s : Request) → clash r s ≡ clash s r
clash_flips r s = λ i.
    (equal_flips r.id.client s.id.client i && equal_flips r.id.seq s.id.seq i) || common_flips (hashes_of r.command) (hashes_of s.command) i

-- ---- what it says of two

pub one_id_clashes : (r s : Request) → r.id ≡ s.id → clash r s ≡ true
one_id_clashes r s e = or_left _ _ (subst (λ (id : RequestId). same_id r.id id ≡ true) e (same_id-self r.id))

pub no_conflict : (r s : Request) → clash r s ≡ false → conflicts r.command s.command ≡ false
no_conflict r s apart = (or_parts _ _ apart).1

pub other_id : (r s : Request) → clash r s ≡ false → eq_by_cmp id_cmp s.id r.id ≡ false
other_id r s apart = go (eq_by_cmp id_cmp s.id r.id) refl
  where
    go : (b : Bool) → eq_by_cmp id_cmp s.id r.id ≡ b → b ≡ false
    go true e = absurd (cc (apart, one_id_clashes r s (sym (tells_apart ids_same s.id r.id e))))
    go false e = refl

-- ---- lists of which no two clash

pub all_at : {A : Type 0} (P : A → Type 0) (xs : List A) → AllByRecursion P xs → (k : ℕ) (x : A) → At xs k x → P x
all_at P [] all k x h = absurd cc
all_at P (y ∷ xs) all zero x h = let same : y ≡ x = cc in subst P same all.0
all_at P (y ∷ xs) all (suc k) x h = all_at P xs all.1 k x h

pub first_apart : (r : Request) (rs : List Request) → IsDistinct clash (r ∷ rs) → AllByRecursion (λ s. clash r s ≡ false) rs
first_apart r rs d = IsDistinct-head clash r rs d

pub rest_apart : (r : Request) (rs : List Request) → IsDistinct clash (r ∷ rs) → IsDistinct clash rs
rest_apart r rs d = IsDistinct-tail clash r rs d

pub without_second : (r s : Request) (rs : List Request) → IsDistinct clash (r ∷ s ∷ rs) → IsDistinct clash (r ∷ rs)
unfolding IsDistinct
without_second r s rs d = (d.0.1, d.1.1)

-- what stands before a request doesn't conflict with it
pub prefix_apart : (rs : List Request) (j : ℕ) (q : Request) → IsDistinct clash rs → At rs j q → AllByRecursion (λ r. conflicts r.command q.command ≡ false) (take j rs)
prefix_apart [] j q d h = absurd cc
prefix_apart (r ∷ rs) zero q d h = tt
prefix_apart (r ∷ rs) (suc j) q d h = (no_conflict r q (all_at (λ s. clash r s ≡ false) rs (first_apart r rs d) j q h), prefix_apart rs j q (rest_apart r rs d) h)

-- and one id is of one request
pub one_of_id : (rs : List Request) → IsDistinct clash rs → (j k : ℕ) (q r : Request) → At rs j q → At rs k r → q.id ≡ r.id → q ≡ r
one_of_id [] d j k q r hq hr e = absurd cc
one_of_id (x ∷ rs) d zero zero q r hq hr e = cc
one_of_id (x ∷ rs) d zero (suc k) q r hq hr e =
    let same : x ≡ q = cc in
    let apart : clash x r ≡ false = all_at (λ s. clash x s ≡ false) rs (first_apart x rs d) k r hr in
    absurd (cc (apart, one_id_clashes x r (ap (λ (y : Request). y.id) same ∙ e)))
one_of_id (x ∷ rs) d (suc j) zero q r hq hr e =
    let same : x ≡ r = cc in
    let apart : clash x q ≡ false = all_at (λ s. clash x s ≡ false) rs (first_apart x rs d) j q hq in
    absurd (cc (apart, one_id_clashes x q (ap (λ (y : Request). y.id) same ∙ sym e)))
one_of_id (x ∷ rs) d (suc j) (suc k) q r hq hr e = one_of_id rs (rest_apart x rs d) j k q r hq hr e
