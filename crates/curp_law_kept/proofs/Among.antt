-- What holds of each item of a list that is made of another one.
use Rattle.std.proofs.Common.{◌≡◌, ◌||◌, suc, Bool, true, false, List, [], ◌∷◌, refl}
use Rattle.std.specs.List.{list_any, list_all}
use Rattle.std.proofs.lemmas.Bool.{and_parts}
use Rattle.curp_base.specs.Words.{Each}
use Rattle.curp_cmd.specs.Node.{is_among, same_node}
use Rattle.curp_cmd.specs.declared.node.NodeId.{NodeId}
use Rattle.curp_cmd.proofs.Nodes.{same_node-true}
use Rattle.curp_facts.specs.Facts.{IsAmong}

-- what a test finds of all
pub each_tested : {A : Type 0} (P : A → Type 0) (p : A → Bool) (xs : List A) → ((x : A) → p x ≡ true → P x) → list_all p xs ≡ true → Each P xs
each_tested P p [] holds e = tt
each_tested P p (x ∷ xs) holds e = let parts = and_parts (p x) (list_all p xs) e in (holds x parts.0, each_tested P p xs holds parts.1)

-- a node that is found among others is among them
pub found_among : (node : NodeId) (nodes : List NodeId) → is_among node nodes ≡ true → IsAmong node nodes
found_among node [] e = absurd cc
found_among node (x ∷ xs) e = go (same_node node x) refl e (found_among node xs)
  where
    go : (b : Bool) → same_node node x ≡ b → (b || list_any (same_node node) xs) ≡ true → (is_among node xs ≡ true → IsAmong node xs) → IsAmong node (x ∷ xs)
    go true same e rest = let is : node ≡ x = same_node-true node x same in record { place = 0; stands = cc }
    go false other e rest = let m = rest e in record { place = suc m.place; stands = m.stands }
