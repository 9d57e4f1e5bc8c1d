-- What can complete stands in the adopted log of its partition, and any pair of a backup and a witness of the adopted list has it.
use Rattle.std.proofs.Common.{◌≡◌, ◌⊎◌, inl, inr, ℕ, ◌<◌, List, refl, sym, ◌∙◌, subst, arith}
use Rattle.std.proofs.lemmas.Bool.{cases_lt}
use Rattle.curp_base.proofs.Lists.{Each-at}
use Rattle.curp_cmd.specs.declared.command.Answer.{Answer}
use Rattle.curp_cmd.specs.declared.command.RequestId.{RequestId}
use Rattle.curp_cmd.specs.declared.entry.Entry.{Entry}
use Rattle.curp_cmd.specs.declared.node.NodeId.{NodeId}
use Rattle.curp_msg.specs.declared.config.PartConfig.{PartConfig}
use Rattle.curp_model.specs.Backup.{BackupState}
use Rattle.curp_model.specs.Log.{Stands}
use Rattle.curp_model.specs.Named.{IsBackup}
use Rattle.curp_model.specs.Recovery.{replay}
use Rattle.curp_model.specs.Witness.{frozen_requests}
use Rattle.curp_model.specs.World.{World}
use Rattle.curp_facts.specs.Facts.{Completable, HasLog, IsAdoptedNow, Lists, Logged, PairsGood, WasAdopted, hi_of, lists_of_part, lo_of}
use Rattle.curp_facts.specs.Invariant.{Invariant}
use Rattle.curp_law_kept.proofs.Gives.{stands_grows, replay_prefix}
use Rattle.curp_facts.specs.Names.{Names, Top}
use Rattle.curp_law_runs.specs.Along.{HoldsOn, IsLast, IsRecoverable}
use Rattle.curp_law_runs.specs.Answered.{AnsweredBy, PairsHave}
use Rattle.curp_facts.specs.Predecessors.{Predecessors}
use Rattle.curp_law_runs.proofs.Along.{along}
use Rattle.curp_law_runs.proofs.Synced.{synced_answered}
use Rattle.curp_law_runs.proofs.Witnessed.{witnessed_answered}
use Rattle.curp_law_runs.proofs.Words.{one_log}

-- the request stands with that answer
abbrev pub Standing : World → ℕ → RequestId → Answer → List Entry → Type 0
Standing w p id a log = Stands (lo_of w p) (hi_of w p) log id a

module _ {w : World} (names : Names w) (inv : Invariant w) where
  -- what can complete was answered by a master, each pair of whose last lists has it
  pub completable_at : (p : ℕ) (id : RequestId) (a : Answer) → Completable w p id a → AnsweredBy w p id a
  completable_at p id a c = elim c [ inl ans ↦ synced_answered names inv p id a ans | inr ans ↦ witnessed_answered names inv p id a ans ]

  module _ (chain : Predecessors w) where
    -- it stands in the logs of all later masters of the partition, and of their backups
    pub stands_along : (p : ℕ) (id : RequestId) (a : Answer) (k : AnsweredBy w p id a) (l : Lists) → WasAdopted w l → l.part ≡ p → k.lists.epoch < l.epoch
        → HoldsOn w l (Standing w p id a)
    stands_along p id a k l was part later =
        along names inv chain (Standing w p id a) (λ xs ys prefix s. stands_grows (lo_of w p) (hi_of w p) xs ys id a prefix s) k.lists k.adopted start l was (part ∙ sym k.its_part) later
      where
        start : (j : Lists) → WasAdopted w j → j.master ≡ k.lists.master → IsLast w j → IsRecoverable w j (Standing w p id a)
        start j adopted master last node other named named_too b x is its_witness =
            let in_part : j.part ≡ p = ((names.agree j k.lists adopted.given k.adopted.given).by_master master).0 ∙ k.its_part in
            subst (λ (n : ℕ). Standing w p id a (replay (lo_of w n) (hi_of w n) b.log (frozen_requests x))) (sym in_part)
            (elim (k.pairs j adopted master last node other named named_too b x is its_witness) [
              | inl stands ↦ stands_grows (lo_of w p) (hi_of w p) b.log _ id a (replay_prefix (lo_of w p) (hi_of w p) (frozen_requests x) b.log) stands
              | inr replayed ↦ inl replayed.done
            ])

    module _ (c : PartConfig) (now : IsAdoptedNow w c) (id : RequestId) (a : Answer) (k : AnsweredBy w c.part id a) where
      top : Top w (lists_of_part c)
      top = names.top c now

      -- the answer was given before the present epoch, or by the present master
      place : (k.lists.epoch < c.epoch) ⊎ (c.master ≡ k.lists.master)
      place = elim (cases_lt k.lists.epoch c.epoch) [
        | inl later ↦ inl later
        | inr same ↦
            let high = top.epochs k.lists k.adopted k.its_part in
            inr ((names.agree (lists_of_part c) k.lists top.was.given k.adopted.given).by_epoch (sym k.its_part) (omega (arith, same, high)))
      ]

      pair_good : PairsHave w c.part (lists_of_part c) id a
      pair_good node other named named_too b x is its_witness = elim place [
        | inl later ↦
            let o = stands_along c.part id a k (lists_of_part c) top.was refl later in
            inl (Each-at (λ node. (b : BackupState) → IsBackup w node b → Standing w c.part id a b.log) c.backups o.on_all named.place node named.stands b is)
        | inr master ↦ k.pairs (lists_of_part c) top.was master (λ o was part low. top.versions o was part) node other named named_too b x is its_witness
      ]

      in_adopted : (its : Logged) → HasLog w c.master its → Standing w c.part id a its.log
      in_adopted its has = elim place [
        | inl later ↦
            let o = stands_along c.part id a k (lists_of_part c) top.was refl later in
            subst (λ (l : Logged). Standing w c.part id a l.log) (one_log o.its its o.its_log has) o.in_log
        | inr master ↦
            subst (λ (l : Logged). Standing w c.part id a l.log) (one_log k.its its k.its_log (subst (λ (node : NodeId). HasLog w node its) master has)) k.in_log
      ]

    -- what can complete stands in the adopted log of its partition
    pub completable_stands : (c : PartConfig) → IsAdoptedNow w c → (id : RequestId) (a : Answer) → Completable w c.part id a → (its : Logged) → HasLog w c.master its
        → Stands (lo_of w c.part) (hi_of w c.part) its.log id a
    completable_stands c now id a ok its has = in_adopted c now id a (completable_at c.part id a ok) its has

    -- any pair of a backup and a witness of an adopted list is enough to recover from
    pub pairs_good : PairsGood w
    pairs_good c now node other named named_too b x is its_witness =
        record { found = λ id a ok. pair_good c now id a (completable_at c.part id a ok) node other named named_too b x is its_witness }
