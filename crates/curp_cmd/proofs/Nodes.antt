-- The test of names tells whether they are one.
use Rattle.std.proofs.Common.{◌≡◌, ◌≢◌, ◌⊎◌, inl, inr, Bool, true, false, eqb, refl, sym, ◌∙◌, subst}
use Rattle.std.proofs.lemmas.Bool.{and_parts, and_from, eqb-true, eq-eqb}
use Rattle.curp_cmd.specs.declared.node.NodeId.{NodeId}
use Rattle.curp_cmd.specs.declared.node.NodeKind.{NodeKind}
use Rattle.curp_cmd.specs.declared.node.NodeKind.TheVariants.{Manager, Client, Master, Backup, Witness}
use Rattle.curp_cmd.specs.Node.{same_kind, same_node}

same_kind-true : (a b : NodeKind) → same_kind a b ≡ true → a ≡ b
same_kind-true Manager Manager e = refl
same_kind-true Client Client e = refl
same_kind-true Master Master e = refl
same_kind-true Backup Backup e = refl
same_kind-true Witness Witness e = refl
same_kind-true _ _ e = absurd cc

same_kind-self : (a : NodeKind) → same_kind a a ≡ true
same_kind-self Manager = refl
same_kind-self Client = refl
same_kind-self Master = refl
same_kind-self Backup = refl
same_kind-self Witness = refl

pub same_node-true : (a b : NodeId) → same_node a b ≡ true → a ≡ b
same_node-true a b e =
    let p = and_parts (same_kind a.kind b.kind) (eqb a.number b.number) e in
    let k : a.kind ≡ b.kind = same_kind-true a.kind b.kind p.0 in
    let n : a.number ≡ b.number = eqb-true _ _ p.1 in
    λ i. record { kind = k i; number = n i }

pub same_node-self : (a : NodeId) → same_node a a ≡ true
same_node-self a = and_from _ _ (same_kind-self a.kind) (eq-eqb a.number a.number refl)

one_way : (a b : NodeId) → same_node a b ≡ true → same_node b a ≡ true
one_way a b e = subst (λ (x : NodeId). same_node x a ≡ true) (same_node-true a b e) (same_node-self a)

pub same_node_flips : (a b : NodeId) → same_node a b ≡ same_node b a
same_node_flips a b = go (same_node a b) (same_node b a) refl refl
  where
    go : (x y : Bool) → same_node a b ≡ x → same_node b a ≡ y → x ≡ y
    go true y e f = sym (one_way a b e) ∙ f
    go false true e f = sym e ∙ one_way b a f
    go false false e f = refl

pub other_node : (a b : NodeId) → a ≢ b → same_node a b ≡ false
other_node a b ne = go (same_node a b) refl
  where
    go : (c : Bool) → same_node a b ≡ c → c ≡ false
    go true e = absurd (ne (same_node-true a b e))
    go false e = refl

-- two names are one or differ
pub either_node : (a b : NodeId) → (a ≡ b) ⊎ (a ≢ b)
either_node a b = go (same_node a b) refl
  where
    go : (t : Bool) → same_node a b ≡ t → (a ≡ b) ⊎ (a ≢ b)
    go true e = inl (same_node-true a b e)
    go false e = inr (λ same. let is : same_node a b ≡ true = subst (λ (x : NodeId). same_node a x ≡ true) same (same_node-self a) in absurd cc)
