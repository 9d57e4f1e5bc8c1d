-- The backups to which a round goes while the master takes up new lists.
use Rattle.std.proofs.Common.{◌≡◌, Bool, true, false, not, List, [], ◌∷◌, ◌++◌, filter, refl, ap, sym, ◌∙◌}
use Rattle.std.proofs.lemmas.List.Folds.{list_any-append}
use Rattle.curp_cmd.proofs.Nodes.{same_node-true}
use Rattle.curp_cmd.specs.Node.{is_among, same_node}
use Rattle.curp_cmd.specs.declared.node.NodeId.{NodeId}
use Rattle.curp_model.specs.Master.{Phase, Open, Switching, is_open}

-- one that isn't among them is among the next ones that aren't, where it is among the next ones
among_next : (b : NodeId) (xs ys : List NodeId) → is_among b xs ≡ false → is_among b (filter (λ y. not (is_among y xs)) ys) ≡ is_among b ys
among_next b xs [] none = refl
among_next b xs (y ∷ ys) none = go (same_node b y) refl (is_among y xs) refl (among_next b xs ys none)
  where
    go : (same : Bool) → same_node b y ≡ same → (there : Bool) → is_among y xs ≡ there
        → is_among b (filter (λ z. not (is_among z xs)) ys) ≡ is_among b ys
        → is_among b (filter (λ z. not (is_among z xs)) (y ∷ ys)) ≡ is_among b (y ∷ ys)
    go true is true there rest = absurd cc (sym none ∙ ap (λ z. is_among z xs) (same_node-true b y is) ∙ there)
    go true is false there rest = rw (there, is) refl
    go false is true there rest = rw (there, is) rest
    go false is false there rest = rw (there, is) rest

pub among_fresh : (b : NodeId) (xs ys : List NodeId) (here next : Bool) → here ≡ is_among b xs → here ≡ false → next ≡ is_among b ys
    → next ≡ is_among b (xs ++ filter (λ y. not (is_among y xs)) ys)
among_fresh b xs ys here next its missing its_next =
    let none : is_among b xs ≡ false = sym its ∙ missing in
    rw (list_any-append, none) (its_next ∙ sym (among_next b xs ys none))

-- a phase that is open is the one that has no lists
pub open_is : (p : Phase) (is : Bool) → is ≡ is_open p → is ≡ true → p ≡ Open
open_is Open b is there = refl
open_is (Switching s) true is there = absurd cc
open_is (Switching s) false is there = absurd cc
