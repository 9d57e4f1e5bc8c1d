-- What backups have acknowledged, as one says more.
use Rattle.std.proofs.Common.{◌≡◌, ◌≤◌, ◌&&◌, ℕ, Bool, true, false, cond, List, [], ◌∷◌, length, map, max, nat_le, refl, sym, subst, arith}
use Rattle.std.proofs.lemmas.Bool.{and_from, le-leb}
use Rattle.std.proofs.lemmas.List.{length-map}
use Rattle.curp_base.specs.Words.{Each}
use Rattle.curp_base.proofs.Lists.{Each-map, Each-weaker}
use Rattle.curp_cmd.specs.Node.{same_node}
use Rattle.curp_cmd.specs.declared.node.NodeId.{NodeId}
use Rattle.curp_cmd.proofs.Nodes.{same_node-self, same_node-true}
use Rattle.curp_model.specs.Master.{Acknowledged, all_have, from_backup, least, nothing_from, raised}
use Rattle.curp_law_served.proofs.Lists.{all_tested}

-- neither falls
pub record Rises (x y : Acknowledged) : Type 0 where
  pub length : x.length ≤ y.length
  pub round : x.round ≤ y.round

abbrev same : (x : Acknowledged) → Rises x x
same x = record { length = omega arith; round = omega arith }

module _ (long round : ℕ) where
  abbrev more : Acknowledged → NodeId → Acknowledged
  more a backup = record { backup = backup; length = max a.length long; round = max a.round round }

  -- what a backup has acknowledged never falls
  pub raised_rises : (acks : List Acknowledged) (backup b : NodeId)
      → Rises (from_backup acks b) (from_backup (raised acks backup long round) b)
  raised_rises [] backup b = one (same_node backup b)
    where
      one : (t : Bool)
          → Rises (nothing_from b) (cond t (record { backup = backup; length = long; round = round }) (nothing_from b))
      one true = record { length = omega arith; round = omega arith }
      one false = same (nothing_from b)
  raised_rises (a ∷ rest) backup b = go (same_node a.backup backup) refl (raised_rises rest backup b)
    where
      own : (t : Bool) → Rises (cond t a (from_backup rest b)) (cond t (more a backup) (from_backup rest b))
      own true = record { length = omega arith; round = omega arith }
      own false = same (from_backup rest b)

      other : (t : Bool) → Rises (from_backup rest b) (from_backup (raised rest backup long round) b)
          → Rises (cond t a (from_backup rest b)) (cond t a (from_backup (raised rest backup long round) b))
      other true up = same a
      other false up = up

      go : (s : Bool) → same_node a.backup backup ≡ s
          → Rises (from_backup rest b) (from_backup (raised rest backup long round) b)
          → Rises (cond (same_node a.backup b) a (from_backup rest b)) (from_backup (cond s (more a backup ∷ rest) (a ∷ raised rest backup long round)) b)
      go true e up = subst (λ (z : NodeId). Rises (cond (same_node z b) a (from_backup rest b)) (cond (same_node backup b) (more a backup) (from_backup rest b))) (sym (same_node-true a.backup backup e)) (own (same_node backup b))
      go false e up = other (same_node a.backup b) up

  -- it has what it says
  pub raised_own : (acks : List Acknowledged) (backup : NodeId)
      → Rises (record { backup = backup; length = long; round = round }) (from_backup (raised acks backup long round) backup)
  raised_own [] backup = at (same_node backup backup) (same_node-self backup) (record { backup = backup; length = long; round = round }) (nothing_from backup) (same _)
    where
      at : (t : Bool) → t ≡ true → (x y : Acknowledged)
          → Rises (record { backup = backup; length = long; round = round }) x
          → Rises (record { backup = backup; length = long; round = round }) (cond t x y)
      at true e x y r = r
      at false e x y r = absurd cc
  raised_own (a ∷ rest) backup = go (same_node a.backup backup) refl (raised_own rest backup)
    where
      at : (t : Bool) → t ≡ true → (x y : Acknowledged)
          → Rises (record { backup = backup; length = long; round = round }) x
          → Rises (record { backup = backup; length = long; round = round }) (cond t x y)
      at true e x y r = r
      at false e x y r = absurd cc

      past : (t : Bool) → t ≡ false → (x y : Acknowledged)
          → Rises (record { backup = backup; length = long; round = round }) y
          → Rises (record { backup = backup; length = long; round = round }) (cond t x y)
      past true e x y r = absurd cc
      past false e x y r = r

      go : (s : Bool) → same_node a.backup backup ≡ s
          → Rises (record { backup = backup; length = long; round = round }) (from_backup (raised rest backup long round) backup)
          → Rises (record { backup = backup; length = long; round = round }) (from_backup (cond s (more a backup ∷ rest) (a ∷ raised rest backup long round)) backup)
      go true e up = at (same_node backup backup) (same_node-self backup) (more a backup) (from_backup rest backup) (record { length = omega arith; round = omega arith })
      go false e up = past (same_node a.backup backup) e a (from_backup (raised rest backup long round) backup) up

-- ---- the least

-- what is below each is below the least of some
pub le_least : (n : ℕ) (xs : List ℕ) → 1 ≤ length xs → Each (λ x. n ≤ x) xs → n ≤ least xs
le_least n [] some all = absurd (omega arith)
le_least n (x ∷ []) some all = all.0
le_least n (x ∷ y ∷ rest) some all = omega (arith, all.0, le_least n (y ∷ rest) (omega arith) all.1)

-- entries that each backup has acknowledged are synced
pub all_synced : (acks : List Acknowledged) (backups : List NodeId) (long : ℕ) → 1 ≤ length backups
    → Each (λ b. long ≤ (from_backup acks b).length) backups
    → long ≤ least (map (λ b. (from_backup acks b).length) backups)
all_synced acks backups long some all =
    le_least long (map (λ b. (from_backup acks b).length) backups) (omega (arith, some, length-map backups (λ b. (from_backup acks b).length))) (Each-map (λ x. long ≤ x) (λ b. (from_backup acks b).length) backups all)

-- a length and a round that each backup has acknowledged are found so
pub all_had : (acks : List Acknowledged) (backups : List NodeId) (long round : ℕ)
    → Each (λ b. (long ≤ (from_backup acks b).length) × (round ≤ (from_backup acks b).round)) backups
    → all_have acks backups long round ≡ true
all_had acks backups long round all = all_tested (λ b. nat_le long (from_backup acks b).length && nat_le round (from_backup acks b).round) backups
    (Each-weaker (λ b. (long ≤ (from_backup acks b).length) × (round ≤ (from_backup acks b).round)) (λ b. (nat_le long (from_backup acks b).length && nat_le round (from_backup acks b).round) ≡ true)
    (λ b both. and_from _ _ (le-leb long (from_backup acks b).length both.0) (le-leb round (from_backup acks b).round both.1)) backups all)
