-- Ids in a set, and ids in a list.
use Rattle.std.proofs.Common.{◌≡◌, ℕ, ◌+◌, ◌||◌, ◌<◌, Bool, true, false, List, [], ◌∷◌, length, get_or, take, refl, ap, sym, ◌∙◌, subst}
use Rattle.std.specs.BTreeMap.{is_at}
use Rattle.std.specs.BTreeSet.{insert_key}
use Rattle.std.specs.List.{list_any}
use Rattle.std.specs.Ordering.{is_eq, match_ordering}
use Rattle.std.specs.declared.cmp.Ordering.{Ordering}
use Rattle.std.specs.declared.cmp.Ordering.TheVariants.{Less, Equal, Greater}
use Rattle.std.proofs.lemmas.Cmp.{tied_itself}
use Rattle.std.proofs.lemmas.List.Folds.{list_any_more}
use Rattle.curp_cmd.proofs.Ids.{same_id-self, apart_not_same}
use Rattle.curp_cmd.specs.RequestId.{has_id, id_cmp, same_id}
use Rattle.curp_cmd.specs.declared.command.RequestId.{RequestId}
use Rattle.curp_model.proofs.Tables.{ids_total, ids_same, less_not_self}

-- the order's ties are the same ids
pub tie_is_same : (a b : RequestId) → is_eq (id_cmp a b) ≡ same_id a b
tie_is_same a b = go (id_cmp a b) refl
  where
    go : (r : Ordering) → id_cmp a b ≡ r → is_eq r ≡ same_id a b
    go Less e = sym (apart_not_same a b (less_not_self a b e))
    go Equal e = sym (subst (λ (x : RequestId). same_id a x ≡ true) (ids_same a b e) (same_id-self a))
    go Greater e = sym (apart_not_same a b (λ same.
        let tied : id_cmp a b ≡ Equal = subst (λ (x : RequestId). id_cmp a x ≡ Equal) same (tied_itself ids_total a) in
        let no : Greater ≡ Equal = sym e ∙ tied in
        absurd cc))

pub found_in : (id : RequestId) (ids : List RequestId) → list_any (is_at (id_cmp id)) ids ≡ has_id id ids
found_in id [] = refl
found_in id (x ∷ ids) = λ i. tie_is_same id x i || found_in id ids i

pub has_inserted : (id x : RequestId) (ids : List RequestId) → has_id id (insert_key id_cmp ids x) ≡ (same_id id x || has_id id ids)
has_inserted id x [] = refl
has_inserted id x (y ∷ ids) = go (id_cmp x y) refl (has_inserted id x ids)
  where
    swap : (a b c : Bool) → (a || (b || c)) ≡ (b || (a || c))
    swap true true c = refl
    swap true false c = refl
    swap false true c = refl
    swap false false c = refl

    twice : (a c : Bool) → (a || c) ≡ (a || (a || c))
    twice true c = refl
    twice false c = refl

    go : (r : Ordering) → id_cmp x y ≡ r → has_id id (insert_key id_cmp ids x) ≡ (same_id id x || has_id id ids)
        → has_id id (match_ordering r (x ∷ y ∷ ids) (y ∷ ids) (y ∷ insert_key id_cmp ids x)) ≡ (same_id id x || (same_id id y || has_id id ids))
    go Less e rest = refl
    go Equal e rest = subst (λ (z : RequestId). (same_id id y || has_id id ids) ≡ (same_id id z || (same_id id y || has_id id ids))) (sym (ids_same x y e)) (twice (same_id id y) (has_id id ids))
    go Greater e rest = ap (λ (b : Bool). same_id id y || b) rest ∙ swap (same_id id y) (same_id id x) (has_id id ids)

-- one id more, as at a step of a loop
pub has_more : (id x : RequestId) (keys keys' ids : List RequestId) (i : ℕ) (d : RequestId) → i < length ids → x ≡ get_or ids i d → keys' ≡ insert_key id_cmp keys x → has_id id keys ≡ has_id id (take i ids) → has_id id keys' ≡ has_id id (take (i + 1) ids)
has_more id x keys keys' ids i d within is added so_far =
    ap (has_id id) added ∙ has_inserted id x keys ∙ (λ j. same_id id (is j) || so_far j)
    ∙ flip (same_id id (get_or ids i d)) (has_id id (take i ids)) ∙ sym (list_any_more (same_id id) ids i d within)
  where
    flip : (a b : Bool) → (a || b) ≡ (b || a)
    flip true true = refl
    flip true false = refl
    flip false true = refl
    flip false false = refl
