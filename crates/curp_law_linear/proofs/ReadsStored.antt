-- What is stored of a master's log, each backup of the present list of its partition has.
use Rattle.std.proofs.Common.{◌≡◌, inl, inr, ℕ, take, sym, ◌∙◌, subst, arith}
use Rattle.std.proofs.lemmas.List.{length-take-le}
use Rattle.curp_base.specs.Words.{IsPrefix}
use Rattle.curp_base.proofs.Lists.{Each-at, prefix_length}
use Rattle.curp_cmd.specs.declared.node.NodeId.{NodeId}
use Rattle.curp_msg.specs.declared.config.PartConfig.{PartConfig}
use Rattle.curp_model.specs.Backup.{BackupState}
use Rattle.curp_model.specs.Named.{IsBackup}
use Rattle.curp_model.specs.World.{World}
use Rattle.curp_facts.specs.Facts.{IsAdoptedNow, Lists, lists_of_part}
use Rattle.curp_facts.specs.Known.{Known}
use Rattle.curp_law_linear.specs.Ordered.{IsStored, LooksReached, LooksStored, StoredFrom}
use Rattle.curp_facts.specs.Predecessors.{Predecessors}
use Rattle.curp_law_runs.proofs.Gives.{reach_along, reached}
use Rattle.curp_facts.specs.Migrated.{AllStored}
use Rattle.curp_law_kept.proofs.Gives.{Follows, adopted_stays, log_later, reach_later}

-- ---- one step later

module _ {w v : World} (s : Follows w v) where
  -- what is stored stays so
  abbrev pub stored_stays : (node : NodeId) (version long : ℕ) → IsStored w node version long → IsStored v node version long
  stored_stays node version long h =
      let o = log_later s node h.its h.its_log in
      record {
        its = o.0;
        its_log = o.1;
        low = omega (arith, h.low, prefix_length o.2);
        reach = reach_later s node version long o.0 o.1 (omega (arith, h.low, prefix_length o.2)) h.reach;
      }

  abbrev pub from_stays : (node : NodeId) (part long : ℕ) → StoredFrom w node part long → StoredFrom v node part long
  from_stays node part long h = record {
    lists = h.lists;
    adopted = adopted_stays s h.adopted;
    its_master = h.its_master;
    its_part = h.its_part;
    stored = stored_stays node h.lists.version long h.stored;
  }

-- ---- at the present list

module _ {w : World} (known : Known w) (chain : Predecessors w) where
  -- what is stored from an adopted list on, each backup of the present list has
  pub stored_now : (node : NodeId) (part long : ℕ) → StoredFrom w node part long → (c : PartConfig) → IsAdoptedNow w c → c.part ≡ part → AllStored w c long
  stored_now node part long h c now same backup named b is =
      let k : Lists = h.lists in
      let its : IsStored w k.master k.version long = subst (λ (z : NodeId). IsStored w z k.version long) (sym h.its_master) h.stored in
      let here : c.part ≡ k.part = same ∙ sym h.its_part in
      let top = known.names.top c now in
      let on = reach_along known.names known.inv chain k h.adopted its.its its.its_log long its.low its.reach (lists_of_part c) top.was here (top.versions k h.adopted (sym here)) in
      let prefix : IsPrefix (take long its.its.log) b.log = Each-at (λ node. (b : BackupState) → IsBackup w node b → IsPrefix (take long its.its.log) b.log) c.backups on.on_all named.place backup named.stands b is in
      omega (arith, prefix_length prefix, length-take-le long its.its.log its.low)

  -- and so it is with what the present master has stored
  pub stored_present : (c : PartConfig) → IsAdoptedNow w c → (long : ℕ) → IsStored w c.master 0 long → AllStored w c long
  stored_present c now long h node named b is = reached known.names known.inv (lists_of_part c) (known.names.top c now).was 0 long h.reach (omega arith) node named b is

  -- a look that is completed, or of an earlier epoch, saw no more than each backup of the present list has
  pub looks_stored : LooksReached w → LooksStored w
  looks_stored h k number long m c at look now part which = elim which [
    | inl completed ↦ stored_now m.master m.part long (h.completed k number long m at look completed) c now part
    | inr earlier ↦ stored_present c now long (h.older k number long m c at look now part earlier)
  ]
