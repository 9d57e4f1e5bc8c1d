-- What backups have acknowledged, and what is synced by it.
use Rattle.std.proofs.Common.{◌≡◌, ◌≤◌, ◌<◌, ◌&&◌, ℕ, zero, suc, ◌+◌, Bool, true, false, cond, List, [], ◌∷◌, length, map, max, nat_le, Some, refl, ap, sym, ◌∙◌, subst, arith}
use Rattle.std.proofs.lemmas.Bool.{and_parts, leb-true}
use Rattle.std.proofs.lemmas.List.{length-map}
use Rattle.curp_base.specs.Words.{At, Each}
use Rattle.curp_base.proofs.Lists.{Each-from_at, Each-map, Each-weaker, at_map}
use Rattle.curp_model.specs.Named.{IsBackup}
use Rattle.curp_cmd.specs.Node.{same_node}
use Rattle.curp_cmd.specs.declared.node.NodeId.{NodeId}
use Rattle.curp_cmd.proofs.Nodes.{same_node-true}
use Rattle.curp_model.specs.Backup.{BackupState}
use Rattle.curp_model.specs.Master.{Acknowledged, MasterState, synced, all_have, from_backup, least, raised}
use Rattle.curp_model.specs.World.{World}
use Rattle.curp_facts.specs.Nodes.{AcknowledgedOk, IsOnEach}
use Rattle.curp_facts.specs.Reach.{HasMany, HasStored}
use Rattle.curp_law_kept.specs.Moves.{HasAcknowledged}
use Rattle.curp_law_kept.proofs.Among.{each_tested}

-- ---- the least

-- the least is below each
least_le : (xs : List ℕ) (k n : ℕ) → At xs k n → least xs ≤ n
least_le [] k n at = absurd cc
least_le (x ∷ []) zero n at = let same : x ≡ n = cc in omega (arith, same)
least_le (x ∷ []) (suc k) n at = absurd cc
least_le (x ∷ y ∷ rest) zero n at = let same : x ≡ n = cc in omega (arith, same)
least_le (x ∷ y ∷ rest) (suc k) n at = omega (arith, least_le (y ∷ rest) k n at)

-- what is below each is below the least of some
le_least : (n : ℕ) (xs : List ℕ) → 1 ≤ length xs → Each (λ x. n ≤ x) xs → n ≤ least xs
le_least n [] some all = absurd (omega arith)
le_least n (x ∷ []) some all = all.0
le_least n (x ∷ y ∷ rest) some all = omega (arith, all.0, le_least n (y ∷ rest) (omega arith) all.1)

-- where each rises, the least doesn't fall
least_rises : {A : Type 0} (f g : A → ℕ) (xs : List A) → ((x : A) → f x ≤ g x) → least (map f xs) ≤ least (map g xs)
least_rises f g [] up = omega arith
least_rises f g (x ∷ []) up = up x
least_rises f g (x ∷ y ∷ rest) up = omega (arith, up x, least_rises f g (y ∷ rest) up)

-- ---- what a backup has acknowledged

-- it never falls
pub raised_rises : (acks : List Acknowledged) (backup : NodeId) (long round : ℕ) (b : NodeId) → (from_backup acks b).length ≤ (from_backup (raised acks backup long round) b).length
raised_rises [] backup long round b = omega arith
raised_rises (a ∷ rest) backup long round b = go (same_node a.backup backup) refl (raised_rises rest backup long round b)
  where
    own : (t : Bool) (x y : Acknowledged) → x.length ≤ y.length → (cond t x (from_backup rest b)).length ≤ (cond t y (from_backup rest b)).length
    own true x y l = l
    own false x y l = omega arith

    other : (t : Bool) (x y : Acknowledged) → x.length ≤ y.length → (cond t a x).length ≤ (cond t a y).length
    other true x y l = omega arith
    other false x y l = l

    go : (s : Bool) → same_node a.backup backup ≡ s → (from_backup rest b).length ≤ (from_backup (raised rest backup long round) b).length
        → (cond (same_node a.backup b) a (from_backup rest b)).length ≤ (from_backup (cond s (record { backup = backup; length = max a.length long; round = max a.round round } ∷ rest) (a ∷ raised rest backup long round)) b).length
    go true e up =
        let more : Acknowledged = record { backup = backup; length = max a.length long; round = max a.round round } in
        subst (λ (z : NodeId). (cond (same_node z b) a (from_backup rest b)).length ≤ (cond (same_node backup b) more (from_backup rest b)).length) (sym (same_node-true a.backup backup e))
        (own (same_node backup b) a more (omega arith))
    go false e up = other (same_node a.backup b) (from_backup rest b) (from_backup (raised rest backup long round) b) up

-- so what is synced doesn't fall
pub synced_rises : (acks : List Acknowledged) (backup : NodeId) (long round : ℕ) (backups : List NodeId)
    → least (map (λ b. (from_backup acks b).length) backups) ≤ least (map (λ b. (from_backup (raised acks backup long round) b).length) backups)
synced_rises acks backup long round backups =
    least_rises (λ b. (from_backup acks b).length) (λ b. (from_backup (raised acks backup long round) b).length) backups (raised_rises acks backup long round)

-- one name is of one backup
one_backup : (w : World) (node : NodeId) (b c : BackupState) → IsBackup w node b → IsBackup w node c → b ≡ c
one_backup w node b c p q = let same : Some b ≡ Some c = sym p.its_state ∙ q.its_state in cc

stored_max : (w : World) (a b : NodeId) (n k : ℕ) → a ≡ b → HasStored w n a → HasStored w k b → HasStored w (max n k) b
stored_max w a b n k same x y =
    let here : IsBackup w b x.b = subst (λ (z : NodeId). IsBackup w z x.b) same x.is in
    let long : length x.b.log ≡ length y.b.log = ap (λ (s : BackupState). length s.log) (one_backup w b x.b y.b here y.is) in
    record { b = y.b; is = y.is; low = omega (arith, x.low, y.low, long) }

-- what is known of each backup stays so, and so does what is learnt of one
pub raised_ok : (w : World) (m : MasterState) (backup : NodeId) (long round : ℕ) → AcknowledgedOk w m (record { backup = backup; length = long; round = round })
    → (acks : List Acknowledged) → Each (AcknowledgedOk w m) acks → Each (AcknowledgedOk w m) (raised acks backup long round)
raised_ok w m backup long round new [] all = (new, tt)
raised_ok w m backup long round new (a ∷ rest) all = go (same_node a.backup backup) refl all.0 (raised_ok w m backup long round new rest all.1)
  where
    go : (b : Bool) → same_node a.backup backup ≡ b → AcknowledgedOk w m a → Each (AcknowledgedOk w m) (raised rest backup long round)
        → Each (AcknowledgedOk w m) (cond b (record { backup = backup; length = max a.length long; round = max a.round round } ∷ rest) (a ∷ raised rest backup long round))
    go true e here more = (
      record {
        stored = stored_max w a.backup backup a.length long (same_node-true a.backup backup e) here.stored new.stored;
        within = omega (arith, here.within, new.within);
        begun = omega (arith, here.begun, new.begun);
      },
      all.1,
    )
    go false e here more = (here, more)

-- each backup that is found to have acknowledged so many has done so
pub all_acknowledged : (m : MasterState) (backups : List NodeId) (long round : ℕ) → all_have m.acknowledged backups long round ≡ true → Each (HasAcknowledged m long) backups
all_acknowledged m backups long round e = each_tested (HasAcknowledged m long) (λ b. nat_le long (from_backup m.acknowledged b).length && nat_le round (from_backup m.acknowledged b).round) backups
    (λ b y. leb-true long (from_backup m.acknowledged b).length (and_parts (nat_le long (from_backup m.acknowledged b).length) (nat_le round (from_backup m.acknowledged b).round) y).0) e

-- entries that each backup of a list has acknowledged are synced by that list
pub on_each_synced : (m : MasterState) (backups : List NodeId) (index : ℕ) → 1 ≤ length backups → IsOnEach m backups index → index < least (map (λ b. (from_backup m.acknowledged b).length) backups)
on_each_synced m backups index some all = omega (
  arith,
  le_least (index + 1) (map (λ b. (from_backup m.acknowledged b).length) backups) (omega (arith, some, length-map backups (λ b. (from_backup m.acknowledged b).length)))
      (Each-map (λ x. index + 1 ≤ x) (λ b. (from_backup m.acknowledged b).length) backups (Each-weaker (λ b. index < (from_backup m.acknowledged b).length) (λ b. index + 1 ≤ (from_backup m.acknowledged b).length) (λ b l. omega (arith, l)) backups all)),
)

-- ---- what backups have

-- a backup has at least what is known of it
from_many : (w : World) (m : MasterState) (acks : List Acknowledged) → Each (AcknowledgedOk w m) acks → (b : NodeId) → HasMany w (from_backup acks b).length b
from_many w m [] all b c is = omega arith
from_many w m (a ∷ rest) all b c is = go (same_node a.backup b) refl (from_many w m rest all.1 b c is)
  where
    go : (t : Bool) → same_node a.backup b ≡ t → (from_backup rest b).length ≤ length c.log → (cond t a (from_backup rest b)).length ≤ length c.log
    go true e more =
        let here : IsBackup w b all.0.stored.b = subst (λ (z : NodeId). IsBackup w z all.0.stored.b) (same_node-true a.backup b e) all.0.stored.is in
        let long : length all.0.stored.b.log ≡ length c.log = ap (λ (s : BackupState). length s.log) (one_backup w b all.0.stored.b c here is) in
        omega (arith, all.0.stored.low, long)
    go false e more = more

-- so many as each has acknowledged
pub acknowledged_many : (w : World) (m : MasterState) → Each (AcknowledgedOk w m) m.acknowledged → (n : ℕ) (backups : List NodeId) → Each (HasAcknowledged m n) backups → Each (HasMany w n) backups
acknowledged_many w m known n backups all = Each-weaker (HasAcknowledged m n) (HasMany w n) (λ b l c is. omega (arith, l, from_many w m m.acknowledged known b c is)) backups all

-- each backup of the list has what is synced
pub synced_many : (w : World) (m : MasterState) → Each (AcknowledgedOk w m) m.acknowledged → (n : ℕ) → n ≤ synced m → Each (HasMany w n) m.backups
synced_many w m known n low = acknowledged_many w m known n m.backups (Each-from_at (HasAcknowledged m n) m.backups (λ k b at.
    let below = least_le (map (λ (b : NodeId). (from_backup m.acknowledged b).length) m.backups) k (from_backup m.acknowledged b).length (at_map (λ (b : NodeId). (from_backup m.acknowledged b).length) m.backups k b at) in
    omega (arith, low, below)))
