-- Names with numbers in a row, and lists of which one node was replaced by a fresh one.
use Rattle.std.proofs.Common.{◌≡◌, ◌≤◌, ◌<◌, ◌⊎◌, inl, inr, ℕ, ◌+◌, List, length, map, set, refl, sym, ◌∙◌, ap, subst, arith}
use Rattle.std.proofs.lemmas.List.{length-map, length-set}
use Rattle.curp_base.specs.Words.{Each, numbers_from}
use Rattle.curp_cmd.specs.declared.node.NodeId.{NodeId}
use Rattle.curp_cmd.specs.declared.node.NodeKind.{NodeKind}
use Rattle.curp_model.specs.World.{World}
use Rattle.curp_facts.specs.Facts.{IsAmong}
use Rattle.curp_facts.specs.Names.{AllDiffer, IsOf}
use Rattle.curp_law_kept.proofs.Later.{Later, of_later}
use Rattle.curp_law_kept.proofs.NumberedLists.{among_each, among_set, each_among, set_differs}
use Rattle.curp_base.proofs.Lists.{at_mapped}
use Rattle.curp_base.proofs.Numbered.{numbers_back, length-numbers}

-- ---- names in a row

-- the names of a kind
abbrev pub named : NodeKind → ℕ → NodeId
named k n = record { kind = k; number = n }

-- so many names from a number on
abbrev pub row : NodeKind → ℕ → ℕ → List NodeId
row k first count = map (named k) (numbers_from first count)

-- one of them has a number in the row
pub record InRow (k : NodeKind) (first count : ℕ) (node : NodeId) : Type 0 where
  pub number : ℕ
  pub is : node ≡ named k number
  pub from : first ≤ number
  pub below : number < first + count

pub in_row : (k : NodeKind) (first count : ℕ) (node : NodeId) → IsAmong node (row k first count) → InRow k first count node
in_row k first count node a =
    let m = at_mapped (named k) (numbers_from first count) a.place node a.stands in
    let r = numbers_back first count a.place m.0 m.1 in
    record { number = m.0; is = sym m.2; from = omega (arith, r.0); below = omega (arith, r.0, r.1) }

pub row_each : (k : NodeKind) (first count : ℕ) (P : NodeId → Type 0) → ((i : ℕ) → first ≤ i → i < first + count → P (named k i)) → Each P (row k first count)
row_each k first count P f = each_among P (row k first count) (λ node a. let r = in_row k first count node a in subst P (sym r.is) (f r.number r.from r.below))

pub row_length : (k : NodeKind) (first count : ℕ) → length (row k first count) ≡ count
row_length k first count = length-map (numbers_from first count) (named k) ∙ length-numbers first count

pub row_differs : (k : NodeKind) (first count : ℕ) → AllDiffer (row k first count)
row_differs k first count i j x hi hj =
    let a = at_mapped (named k) (numbers_from first count) i x hi in
    let b = at_mapped (named k) (numbers_from first count) j x hj in
    let same : a.0 ≡ b.0 = ap (λ (y : NodeId). y.number) (a.2 ∙ sym b.2) in
    omega (arith, same, (numbers_back first count i a.0 a.1).0, (numbers_back first count j b.0 b.1).0)

-- ---- lists with a fresh node

-- what stands in the new list is of the later world, differs, and stood in the old one or is no node of the world before
pub record Renewed (w v : World) (k : NodeKind) (old new : List NodeId) : Type 0 where
  pub each : Each (IsOf v k) new
  pub many : length new ≡ length old
  pub differ : AllDiffer new
  pub from : (node : NodeId) → IsAmong node new → IsAmong node old ⊎ (IsOf w k node → ⊥)

pub renewed_self : {w v : World} (g : Later w v) (k : NodeKind) (old : List NodeId) → Each (IsOf w k) old → AllDiffer old → Renewed w v k old old
renewed_self {w} {v} g k old all differ = record {
  each = each_among (IsOf v k) old (λ node a. of_later g k node (among_each (IsOf w k) old all node a));
  many = refl;
  differ = differ;
  from = λ node a. inl a;
}

pub renewed_set : {w v : World} (g : Later w v) (k : NodeKind) (old : List NodeId) (i : ℕ) (fresh : NodeId) → Each (IsOf w k) old → AllDiffer old
    → (IsOf w k fresh → ⊥) → IsOf v k fresh → Renewed w v k old (set old i fresh)
renewed_set {w} {v} g k old i fresh all differ absent there = record {
  each = each_among (IsOf v k) (set old i fresh) (λ node a. elim (among_set old i fresh node a) [
    | inl is ↦ subst (IsOf v k) (sym is) there
    | inr was ↦ of_later g k node (among_each (IsOf w k) old all node was)
  ]);
  many = length-set old i fresh;
  differ = set_differs old i fresh (λ a. absent (among_each (IsOf w k) old all fresh a)) differ;
  from = λ node a. elim (among_set old i fresh node a) [
    | inl is ↦ inr (λ of. absent (subst (IsOf w k) is of))
    | inr was ↦ inl was
  ];
}
