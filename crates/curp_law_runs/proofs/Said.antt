-- What was said, and what recoveries and clients go by.
use Rattle.std.proofs.Common.{◌≡◌, ◌≤◌, ◌^◌, ℕ, suc, refl, ap, Option, Some, None}
use Rattle.curp_base.specs.Words.{At, Each, numbered}
use Rattle.curp_base.proofs.Lists.{Each-from_at, Each-weaker}
use Rattle.curp_cmd.specs.declared.node.NodeId.{NodeId}
use Rattle.curp_msg.specs.declared.config.PartConfig.{PartConfig}
use Rattle.curp_model.specs.Client.{Attempt, ClientState, Pending}
use Rattle.curp_model.specs.Manager.{Doing, Recovering, Replacing, Steady}
use Rattle.curp_model.specs.Named.{IsMaster}
use Rattle.curp_model.specs.Recovery as recovery
use Rattle.curp_model.specs.Recovery.{Asking, RecoveryPhase, RecoveryState, Storing, Waiting}
use Rattle.curp_model.specs.World.{World}
use Rattle.curp_facts.specs.Configs.{Configs}
use Rattle.curp_facts.specs.Facts.{AttemptOk, AttemptWas, ConfigOk, EntryWas, IsAdoptedNow, PhaseOk, SaidOk, lists_of_part}
use Rattle.curp_facts.specs.Evidence.{EvidenceOk, IsAttempt}
use Rattle.curp_facts.specs.Invariant.{Invariant}
use Rattle.curp_facts.specs.Nodes.{MayCome, RecovererOk, StageOk}
use Rattle.curp_facts.specs.Names.{Names}
use Rattle.curp_facts.specs.Fits.{Nodes}
use Rattle.curp_law_runs.specs.GivenStand.{GivenStand}
use Rattle.curp_facts.specs.Predecessors.{Predecessors}
use Rattle.curp_law_runs.proofs.Messages.{messages_ok}
use Rattle.curp_law_runs.proofs.Ranges.{config_ok}
use Rattle.curp_base.proofs.Numbered.{at_place}

module _ {w : World} (names : Names w) (inv : Invariant w) where
  -- a recovery that has a log replayed it from the two that its order named
  recoveries : (node : NodeId) (s : RecoveryState) → IsMaster w node (recovery.Recovering s) → PhaseOk w s s.phase
  recoveries node s is = let ok : RecovererOk w node s = inv.masters node (recovery.Recovering s) is in go s.phase ok.stage
    where
      go : (p : RecoveryPhase) → StageOk w s p → PhaseOk w s p
      go (Asking log requests) ok = tt
      go (Storing r) ok = ok.replayed
      go (Waiting r) ok = ok.0.replayed

  -- the newest attempt recovers from two of the adopted list
  attempts : (k : ℕ) (c : PartConfig) → At w.manager.config.parts k c → AttemptOk c (numbered w.manager.doing c.part)
  attempts k c at = go (numbered w.manager.doing c.part) refl
    where
      now : IsAdoptedNow w c
      now = at_place w.manager.config.parts k c.part c (names.entries k c at) at

      go : (d : Option Doing) → numbered w.manager.doing c.part ≡ d → AttemptOk c d
      go None e = tt
      go (Some Steady) e = tt
      go (Some (Replacing kind fresh version backups witnesses)) e = tt
      go (Some (Recovering node o)) e = let ok = names.doing c (Recovering node o) now e in (ok.its_backup, ok.its_witness)

  -- clients send by adopted lists
  sendings : (k : ℕ) (c : ClientState) → At w.clients k c → Each (λ (p : Pending). Each (AttemptWas w) p.attempts) c.pending
  sendings k c at =
      let ok = inv.clients (suc k) c at in
      Each-weaker (EvidenceOk (MayCome w (suc k)) (EntryWas w)) (λ (p : Pending). Each (AttemptWas w) p.attempts)
      (λ p own. Each-weaker (IsAttempt (EntryWas w)) (AttemptWas w) (λ a k. attempted a k) p.attempts own.attempts) c.pending ok.knows.pending
    where
      attempted : (a : Attempt) → IsAttempt (EntryWas w) a → AttemptWas w a
      attempted a k = record {
        lists = lists_of_part k.part;
        adopted = k.adopted;
        its_master = ap (λ (x : Attempt). x.master) k.is;
        its_epoch = ap (λ (x : Attempt). x.epoch) k.is;
        its_version = ap (λ (x : Attempt). x.version) k.is;
        its_witnesses = ap (λ (x : Attempt). x.witnesses) k.is;
      }

  pub said_ok : Nodes w → Predecessors w → GivenStand w → Configs w → w.manager.shape.parts ≤ 2 ^ 64 → SaidOk w
  said_ok nodes chain earlier configs few = record {
    messages_ok = messages_ok names inv chain earlier configs few nodes;
    recoveries = recoveries;
    attempts = Each-from_at (λ (c : PartConfig). AttemptOk c (numbered w.manager.doing c.part)) w.manager.config.parts attempts;
    config = config_ok names few w.manager.config
        (Each-from_at (EntryWas w) w.manager.config.parts (λ k c at. (inv.present c (at_place w.manager.config.parts k c.part c (names.entries k c at) at)).entry))
        configs.present.have;
    configs = Each-from_at (λ (c : ClientState). ConfigOk w c.config) w.clients (λ k c at.
        config_ok names few c.config (inv.clients (suc k) c at).knows.config (configs.known (suc k) c at));
    sendings = Each-from_at (λ (c : ClientState). Each (λ (p : Pending). Each (AttemptWas w) p.attempts) c.pending) w.clients sendings;
  }
