-- What stands in the logs of a partition's master stands in the logs of all its later masters and of their backups.
use Rattle.std.proofs.Common.{◌≡◌, inl, inr, ℕ, zero, suc, ◌+◌, ◌<◌, ◌≤◌, List, length, take, sym, ◌∙◌, subst, arith}
use Rattle.std.proofs.lemmas.Bool.{cases_lt}
use Rattle.std.proofs.lemmas.List.{length-take-le}
use Rattle.curp_base.specs.Words.{At, IsPrefix}
use Rattle.curp_base.proofs.Lists.{Each-at, Each-weaker, prefix_at, prefix_back, prefix_trans}
use Rattle.curp_cmd.specs.declared.entry.Entry.{Entry}
use Rattle.curp_cmd.specs.declared.node.NodeId.{NodeId}
use Rattle.curp_model.specs.Backup.{BackupState}
use Rattle.curp_model.specs.Named.{IsBackup}
use Rattle.curp_model.specs.Recovery.{replay}
use Rattle.curp_model.specs.Witness.{frozen_requests}
use Rattle.curp_model.specs.World.{World}
use Rattle.curp_facts.specs.Facts.{HasLog, IsAmong, Lists, Logged, WasAdopted, hi_of, lo_of}
use Rattle.curp_facts.specs.Invariant.{Invariant}
use Rattle.curp_facts.specs.Kept.{AdoptionOk}
use Rattle.curp_facts.specs.Reach.{Reach}
use Rattle.curp_law_kept.proofs.Gives.{prefix_take, replay_prefix, each_among}
use Rattle.curp_facts.specs.Names.{Names}
use Rattle.curp_law_runs.specs.Along.{HoldsOn, IsLast, IsLasting, IsRecoverable}
use Rattle.curp_facts.specs.Predecessors.{Predecessors}
use Rattle.curp_law_runs.proofs.Adoptions.{adoptions_ok}
use Rattle.curp_law_runs.proofs.Lists.{versions_rise}
use Rattle.curp_law_runs.proofs.Logs.{begins, reached}
use Rattle.curp_law_runs.proofs.Prefixes.{prefix_shorter}

-- what stands below a number stands among the first so many
at_prefix : {A : Type 0} (n : ℕ) (xs : List A) (k : ℕ) (x : A) → n ≤ length xs → k < n → At xs k x → At (take n xs) k x
at_prefix n xs k x low within at = prefix_back (prefix_take n xs) k x (omega (arith, within, length-take-le n xs low)) at

-- what follows of each log holds too
pub holds_weaker : {w : World} (l : Lists) (P Q : List Entry → Type 0) → ((log : List Entry) → P log → Q log) → HoldsOn w l P → HoldsOn w l Q
holds_weaker {w} l P Q f h = record {
  its = h.its;
  its_log = h.its_log;
  in_log = f h.its.log h.in_log;
  on_all = Each-weaker (λ node. (b : BackupState) → IsBackup w node b → P b.log) (λ node. (b : BackupState) → IsBackup w node b → Q b.log)
      (λ node p b is. f b.log (p b is)) l.backups h.on_all;
}

module _ {w : World} (names : Names w) (inv : Invariant w) (chain : Predecessors w) where
  -- what any pair of a master's last lists gives stands in each later epoch
  pub along : (P : List Entry → Type 0) → IsLasting P → (k : Lists) → WasAdopted w k
      → ((j : Lists) → WasAdopted w j → j.master ≡ k.master → IsLast w j → IsRecoverable w j P)
      → (l : Lists) → WasAdopted w l → l.part ≡ k.part → k.epoch < l.epoch → HoldsOn w l P
  along P lasting k first start l was part later = go (l.epoch + 1) l was part later (omega arith)
    where
      -- what holds of a replay that was adopted
      adopted : (l : Lists) → (a : AdoptionOk w l) → P (replay (lo_of w l.part) (hi_of w l.part) a.sources.b.log (frozen_requests a.sources.x)) → HoldsOn w l P
      adopted l a p =
          let replayed : List Entry = replay (lo_of w l.part) (hi_of w l.part) a.sources.b.log (frozen_requests a.sources.x) in
          record {
            its = a.its;
            its_log = a.its_log;
            in_log = lasting replayed a.its.log a.began p;
            on_all = Each-weaker (λ node. (f : BackupState) → IsBackup w node f → IsPrefix replayed f.log) (λ node. (f : BackupState) → IsBackup w node f → P f.log)
                (λ node prefix f is. lasting replayed f.log (prefix f is) p) l.backups a.on_all;
          }

      -- so far as epochs are below a number
      go : (n : ℕ) (l : Lists) → WasAdopted w l → l.part ≡ k.part → k.epoch < l.epoch → l.epoch < n → HoldsOn w l P
      go zero l was part later low = absurd (omega (arith, low))
      go (suc n) l was part later low =
          let its = names.given k first.given in
          let a : AdoptionOk w l = adoptions_ok names inv chain l was (omega (arith, later, its.epoch.0)) in
          adopted l a (elim (cases_lt k.epoch a.before.epoch) [
            | inl above ↦
                let o = go n a.before a.was (a.its_part ∙ part) above (omega (arith, a.earlier, low)) in
                let stands : P a.sources.b.log = Each-at (λ node. (b : BackupState) → IsBackup w node b → P b.log) a.before.backups o.on_all a.named.place a.node a.named.stands a.sources.b a.sources.its_backup in
                lasting a.sources.b.log _ (replay_prefix (lo_of w l.part) (hi_of w l.part) (frozen_requests a.sources.x) a.sources.b.log) stands
            | inr at_most ↦ elim (cases_lt a.before.epoch k.epoch) [
              | inl below ↦
                  let high = a.last k first (sym part) later in
                  let rise = versions_rise names chain a.before k a.was first (a.its_part ∙ part) below in
                  absurd (omega (arith, high, rise))
              | inr same ↦
                  let epoch : a.before.epoch ≡ k.epoch = omega (arith, at_most, same) in
                  let master : a.before.master ≡ k.master = (names.agree a.before k a.was.given first.given).by_epoch (a.its_part ∙ part) epoch in
                  subst (λ (p : ℕ). P (replay (lo_of w p) (hi_of w p) a.sources.b.log (frozen_requests a.sources.x))) a.its_part
                  (start a.before a.was master (λ o adopted its_part below. a.last o adopted (its_part ∙ a.its_part) (omega (arith, below, a.earlier))) a.node a.other a.named a.named_too a.sources.b a.sources.x a.sources.its_backup a.sources.its_witness)
            ]
          ])

  -- what stands in a master's log so far as each backup of its lists has it begins the logs of all later lists of the partition
  pub reach_along : (k : Lists) → WasAdopted w k → (its : Logged) → HasLog w k.master its → (n : ℕ) → n ≤ length its.log → Reach w k.master k.version n
      → (l : Lists) → WasAdopted w l → l.part ≡ k.part → k.version ≤ l.version → HoldsOn w l (IsPrefix (take n its.log))
  reach_along k first its has n low reach l was part above = elim (cases_lt k.epoch l.epoch) [
    | inl later ↦ along (IsPrefix (take n its.log)) (λ xs ys p q. prefix_trans q p) k first start l was part later
    | inr at_most ↦ elim (cases_lt l.epoch k.epoch) [
      | inl earlier ↦ let rise = versions_rise names chain l k was first part earlier in absurd (omega (arith, rise, above))
      | inr same ↦
          let master : l.master ≡ k.master = (names.agree l k was.given first.given).by_epoch part (omega (arith, at_most, same)) in
          record {
            its = its;
            its_log = subst (λ (node : NodeId). HasLog w node its) (sym master) has;
            in_log = prefix_take n its.log;
            on_all = each_among (λ node. (b : BackupState) → IsBackup w node b → IsPrefix (take n its.log) b.log) l.backups (λ node named b is. on_backup l was master above node named b is);
          }
    ]
  ]
    where
      on_backup : (j : Lists) → WasAdopted w j → j.master ≡ k.master → k.version ≤ j.version → (node : NodeId) → IsAmong node j.backups → (b : BackupState) → IsBackup w node b → IsPrefix (take n its.log) b.log
      on_backup j adopted master version node named b is =
          let there : HasLog w j.master its = subst (λ (m : NodeId). HasLog w m its) (sym master) has in
          let reached_there : Reach w j.master k.version n = subst (λ (m : NodeId). Reach w m k.version n) (sym master) reach in
          let many = reached names inv j adopted k.version n reached_there version node named b is in
          prefix_shorter (take n its.log) b.log its.log (prefix_take n its.log) (begins names inv j adopted.given its there node named b is) (omega (arith, length-take-le n its.log low, many))

      start : (j : Lists) → WasAdopted w j → j.master ≡ k.master → IsLast w j → IsRecoverable w j (IsPrefix (take n its.log))
      start j adopted master last node other named named_too b x is its_witness =
          let agree = (names.agree k j first.given adopted.given).by_master (sym master) in
          prefix_trans (on_backup j adopted master (last k first agree.0 (omega (arith, agree.1))) node named b is) (replay_prefix (lo_of w j.part) (hi_of w j.part) (frozen_requests x) b.log)

  -- so each entry below that number stands there
  pub entry_along : (k : Lists) → WasAdopted w k → (its : Logged) → HasLog w k.master its → (n : ℕ) → n ≤ length its.log → Reach w k.master k.version n
      → (i : ℕ) (e : Entry) → i < n → At its.log i e → (l : Lists) → WasAdopted w l → l.part ≡ k.part → k.version ≤ l.version → HoldsOn w l (λ log. At log i e)
  entry_along k first its has n low reach i e within at l was part above =
      holds_weaker l (IsPrefix (take n its.log)) (λ log. At log i e) (λ log prefix. prefix_at prefix i e (at_prefix n its.log i e low within at))
      (reach_along k first its has n low reach l was part above)
