-- A step of a backup or of a witness, and one that gives no node an input, make no move of the machine.
use Rattle.std.proofs.Common.{◌≡◌, ℕ, List, [], append-nil, refl, ap, sym, subst, Option, None}
use Rattle.curp_msg.specs.Moved.{within}
use Rattle.curp_msg.specs.declared.body.Body.{Body}
use Rattle.curp_msg.specs.declared.body.Body.TheVariants as body
use Rattle.curp_msg.specs.declared.machine.Completed.{Completed}
use Rattle.curp_msg.specs.Input.{Input}
use Rattle.curp_msg.specs.declared.message.Message.{Message}
use Rattle.curp_order.specs.declared.Event.{Event}
use Rattle.curp_model.specs.Backup.{BackupState, backup_input}
use Rattle.curp_model.specs.Witness.{WitnessState, witness_input}
use Rattle.curp_model.specs.World.{World, kept, messages, with_backup, with_completion, with_witness}
use Rattle.curp_law_kept.specs.BackupEffect.{BackupAnswers, BackupEffect, BackupSays}
use Rattle.curp_law_kept.specs.WitnessEffect.{WitnessAnswers, WitnessEffect, WitnessSays}
use Rattle.curp_law_kept.proofs.Gives.{backup_effect, witness_effect, RestsIn, same_history}
use Rattle.curp_law_linear.specs.OfWorld.{told_by}
use Rattle.curp_law_linear.specs.Refined.{RefinesQuiet}
use Rattle.curp_law_linear.proofs.Quiet.{no_move, tell_nothing}
use Rattle.curp_law_linear.proofs.CutMarks.{cuts_after}
use Rattle.curp_model.proofs.Batches.{all_of-kept}

-- ---- what they tell of

backup_tells : (n : ℕ) (given : Input) (b : BackupState) (m : Message) → BackupSays n given b m → told_by m.body ≡ []
backup_tells n given b m k = go m.body k.says_so
  where
    go : (x : Body) → BackupAnswers given b m.to x → told_by x ≡ []
    go (body.Taken t) said = absurd said
    go _ said = refl

witness_tells : (n : ℕ) (given : Input) (x : WitnessState) (m : Message) → WitnessSays n given x m → told_by m.body ≡ []
witness_tells n given x m k = go m.body k.says_so
  where
    go : (b : Body) → WitnessAnswers given x m.to b → told_by b ≡ []
    go (body.Taken t) said = absurd said
    go _ said = refl

-- ---- steps

module _ {w v : World} where
  -- an input to a backup
  pub backup_refines : (n : ℕ) (given : Input) (b : BackupState) (events : List Event) → events ≡ []
      → v ≡ (kept w events (within (with_backup w n) (backup_input n b given))).world → RefinesQuiet w v
  backup_refines n given b events none is = subst (RefinesQuiet w) (sym is) (no_move (backup_input n b given).messages (record {
    sent = all_of-kept w.sent (backup_input n b given).messages;
    tells_nothing = tell_nothing (BackupSays n given (backup_input n b given).state) (backup_tells n given (backup_input n b given).state) (backup_input n b given).messages effect.says;
    manager = refl;
    masters = refl;
    cuts_same = λ part. cuts_after part (backup_input n b given).completed w.marks;
  }) (ap (λ (o : Option Completed). with_completion o w.marks) effect.idle) (same_history w.history events (backup_input n b given).completed none effect.idle))
    where
      effect : BackupEffect n given b (backup_input n b given)
      effect = backup_effect n b given

  -- an input to a witness
  pub witness_refines : (n : ℕ) (given : Input) (x : WitnessState) (events : List Event) → events ≡ []
      → v ≡ (kept w events (within (with_witness w n) (witness_input n x given))).world → RefinesQuiet w v
  witness_refines n given x events none is = subst (RefinesQuiet w) (sym is) (no_move (witness_input n x given).messages (record {
    sent = all_of-kept w.sent (witness_input n x given).messages;
    tells_nothing = tell_nothing (WitnessSays n given (witness_input n x given).state) (witness_tells n given (witness_input n x given).state) (witness_input n x given).messages effect.says;
    manager = refl;
    masters = refl;
    cuts_same = λ part. cuts_after part (witness_input n x given).completed w.marks;
  }) (ap (λ (o : Option Completed). with_completion o w.marks) effect.idle) (same_history w.history events (witness_input n x given).completed none effect.idle))
    where
      effect : WitnessEffect n given x (witness_input n x given)
      effect = witness_effect n x given

  -- nothing but what is stopped changes
  pub rest_refines : RestsIn w v → RefinesQuiet w v
  rest_refines r = subst (RefinesQuiet w) (sym r.is) (no_move [] (record { sent = all_of-kept w.sent []; tells_nothing = refl; manager = refl; masters = refl; cuts_same = λ part. refl }) refl
      (same_history w.history [] None refl refl))
