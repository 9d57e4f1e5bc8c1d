-- How far the logs of backups reach stays true, where a list that becomes ready has its master's whole log.
use Rattle.std.proofs.Common.{◌≡◌, ◌⊎◌, ℕ, ◌≤◌, List, [], ◌∷◌, length, sym, subst, arith, inl, inr}
use Rattle.curp_base.specs.Words.{Each}
use Rattle.curp_base.proofs.Lists.{Each-weaker, prefix_length}
use Rattle.curp_cmd.specs.declared.node.NodeId.{NodeId}
use Rattle.curp_model.specs.Backup.{BackupState}
use Rattle.curp_facts.specs.Facts.{HasLog, Lists, Logged}
use Rattle.curp_model.specs.World.{World}
use Rattle.curp_facts.specs.Growth.{Grows}
use Rattle.curp_facts.specs.Reach.{HasMany, IsReady, BackupIsThere, Reach, Whole}

module _ (w v : World) (g : Grows w v) where
  -- a backup that is there has no fewer entries later
  pub many_grows : (n : ℕ) (node : NodeId) → BackupIsThere w node → HasMany w n node → HasMany v n node
  many_grows n node there many c later =
      let o = g.backups node.number there.0 there.1.its_state in
      let low : n ≤ length there.0.log = many there.0 there.1 in
      let same : o.0 ≡ c = cc (o.1, later.its_state) in
      subst (λ (b : BackupState). n ≤ length b.log) same (omega (arith, low, prefix_length o.2.log))

  all_many : (n : ℕ) (nodes : List NodeId) → Each (BackupIsThere w) nodes → Each (HasMany w n) nodes → Each (HasMany v n) nodes
  all_many n [] there many = tt
  all_many n (node ∷ nodes) there many = (many_grows n node there.0 many.0, all_many n nodes there.1 many.1)

  -- what is reached stays so, where it stands in the master's log: a list that becomes ready has that log whole, and the backups of ready lists are there
  pub reach_grows : ((l : Lists) → IsReady v l → IsReady w l ⊎ Whole v l) → ((l : Lists) → IsReady w l → Each (BackupIsThere w) l.backups)
      → (node : NodeId) (version n : ℕ) (its : Logged) → HasLog v node its → n ≤ length its.log → Reach w node version n → Reach v node version n
  reach_grows ready there node version n its log low reach l is_ready its_master above = elim (ready l is_ready) [
    | inl was ↦ all_many n l.backups (there l was) (reach l was its_master above)
    | inr whole ↦ Each-weaker (HasMany v (length its.log)) (HasMany v n) (λ (x : NodeId) many b is. more many b is) l.backups (whole its (subst (λ (x : NodeId). HasLog v x its) (sym its_master) log))
  ]
    where
      more : {x : NodeId} → HasMany v (length its.log) x → HasMany v n x
      more many b is = let m : length its.log ≤ length b.log = many b is in omega (arith, low, m)
