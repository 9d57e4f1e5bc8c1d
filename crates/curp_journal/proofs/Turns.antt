-- Lists of turns.
use Rattle.std.proofs.Common.{◌≡◌, ◌≢◌, if◌then◌else◌, Bool, true, false, List, [], ◌∷◌, ◌++◌, refl, ap, sym, ◌∙◌, append-nil, append_assoc}
use Rattle.curp_cmd.specs.Node.{same_node}
use Rattle.curp_cmd.specs.declared.node.NodeId.{NodeId}
use Rattle.curp_cmd.proofs.Nodes.{same_node-self, other_node}
use Rattle.curp_journal.specs.Turns.{Placed, of, said, sent_by}

-- ---- the turns of a node

chosen : {A : Type 0} (b : Bool) (x : A) (xs ys : List A) → (if b then x ∷ (xs ++ ys) else xs ++ ys) ≡ (if b then x ∷ xs else xs) ++ ys
chosen true x xs ys = refl
chosen false x xs ys = refl

pub of-append : (k : NodeId) (xs ys : List Placed) → of k (xs ++ ys) ≡ of k xs ++ of k ys
of-append k [] ys = refl
of-append k (x ∷ xs) ys = rw (of-append k xs ys) (chosen (same_node x.node k) x.turn (of k xs) (of k ys))

pub of_first : (p : Placed) (ps : List Placed) → of p.node (p ∷ ps) ≡ p.turn ∷ of p.node ps
of_first p ps = rw (same_node-self p.node) refl

pub of_here : (ps : List Placed) (p : Placed) → of p.node (ps ++ p ∷ []) ≡ of p.node ps ++ p.turn ∷ []
of_here ps p = of-append p.node ps (p ∷ []) ∙ ap (λ ts. of p.node ps ++ ts) (of_first p [])

pub of_there : (k : NodeId) (ps : List Placed) (p : Placed) → p.node ≢ k → of k (ps ++ p ∷ []) ≡ of k ps
of_there k ps p ne = of-append k ps (p ∷ []) ∙ (rw (other_node p.node k ne) (append-nil (of k ps)))

-- ---- what was said

pub said-append : (xs ys : List Placed) → said (xs ++ ys) ≡ said xs ++ said ys
said-append [] ys = refl
said-append (x ∷ xs) ys = ap (λ ms. sent_by x.turn ++ ms) (said-append xs ys) ∙ sym (append_assoc (sent_by x.turn) (said xs) (said ys))

pub said-snoc : (ps : List Placed) (p : Placed) → said (ps ++ p ∷ []) ≡ said ps ++ sent_by p.turn
said-snoc ps p = said-append ps (p ∷ []) ∙ ap (λ ms. said ps ++ ms) (append-nil (sent_by p.turn))
