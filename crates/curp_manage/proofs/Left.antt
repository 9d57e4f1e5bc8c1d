-- A journal that a crash left.
use Rattle.std.proofs.Common.{◌≡◌, ◌≢◌, ℕ, List, Option, Some, None, refl, sym, ap, subst, ◌∙◌}
use Rattle.curp_base.specs.declared.failed.Failed.{Failed}
use Rattle.curp_base.specs.declared.failed.Failed.TheVariants as failed
use Rattle.curp_disk.specs.Calls.{seen_of}
use Rattle.curp_disk.specs.InMemory.{StopParts, crashed}
use Rattle.curp_durable.specs.Opening.{IsOfTheMoment, LedTo}
use Rattle.curp_durable.specs.Value.{CheckpointParts, DurableParts, checkpoint_of}
use Rattle.curp_durable.specs.declared.error.OpenError.{OpenError}
use Rattle.curp_durable.specs.declared.error.OpenError.TheVariants as opened
use Rattle.curp_journal.specs.declared.arrived.Arrived.{Arrived}
use Rattle.curp_manage.specs.Kept.{IsJournalOn, IsLeft, standby_of, title_for}
use Rattle.curp_manage.specs.declared.managing.Crash.{Crash}
use Rattle.curp_model.specs.Manager.{ManagerState, opening_manager}
use Rattle.curp_model.specs.World.{shape_of}
use Rattle.curp_msg.specs.declared.script.Header.{Header}
use Rattle.curp_config.specs.Machine.{manager_machine}

-- where it is there, and the disk doesn't fail
pub of_memory : (error : Failed OpenError) → IsOfTheMoment error → error ≢ failed.Because opened.DiskFault → error ≡ failed.NoMemory
of_memory (failed.Because opened.NotFormatted) now other = absurd now
of_memory (failed.Because (opened.Damaged place)) now other = absurd now
of_memory (failed.Because opened.DiskFault) now other = absurd (other refl)
of_memory failed.NoMemory now other = refl

-- a crash was to come, so there is where to open it from
pub standby_there : (d : DurableParts ManagerState StopParts) (crash : Option Crash) (c : Crash) (standby : Option (CheckpointParts ManagerState)) → standby ≡ standby_of d crash → crash ≡ Some c → standby ≡ Some (checkpoint_of d)
standby_there d crash c standby made there = made ∙ ap (standby_of d) there

same_some : {A : Type 0} (x y : A) → Some x ≡ Some y → x ≡ y
same_some {A} x y is = ap (λ (o : Option A). by o) is
  where
    by : Option A → A
    by None = x
    by (Some z) = z

pub standby_is : (d : DurableParts ManagerState StopParts) (crash : Option Crash) (c : Crash) (standby : Option (CheckpointParts ManagerState)) (checkpoint : CheckpointParts ManagerState) → standby ≡ standby_of d crash → crash ≡ Some c → standby ≡ Some checkpoint → checkpoint ≡ checkpoint_of d
standby_is d crash c standby checkpoint made there is = same_some checkpoint (checkpoint_of d) (sym is ∙ standby_there d crash c standby made there)

-- what the disk of a manager is once it crashed
abbrev behind : StopParts → Crash → StopParts
behind disk c = record disk { played = crashed c.kept disk.played }

pub is_left : (h : Header) (disk : StopParts) (c : Crash) (inputs : List Arrived) (commit : ℕ) (d : DurableParts ManagerState StopParts) (checkpoint : CheckpointParts ManagerState) → checkpoint ≡ checkpoint_of d → IsJournalOn h (behind disk c) inputs commit
    → LedTo manager_machine (seen_of (crashed c.kept disk.played)) (title_for h) (opening_manager (shape_of h)) (checkpoint_of d) → IsLeft h (behind disk c) checkpoint
is_left h disk c inputs commit d checkpoint is journal led = record {
  journal = (inputs, commit, journal);
  led = subst (LedTo manager_machine (seen_of (crashed c.kept disk.played)) (title_for h) (opening_manager (shape_of h))) (sym is) led;
}
