-- The effect of each input on a backup.
use Rattle.std.proofs.Common.{◌≡◌, ℕ, ◌+◌, ◌-◌, ◌≤◌, not, List, drop, length, nat_lt, length-append, length-drop, refl, ap, arith, Option, Some, None}
use Rattle.std.proofs.lemmas.Bool.{cond_both, not-false}
use Rattle.std.proofs.lemmas.Bool.Decides.{nat_tests}
use Rattle.curp_cmd.specs.declared.entry.Entry.{Entry}
use Rattle.curp_cmd.specs.declared.node.NodeId.{NodeId}
use Rattle.curp_msg.specs.Moved.{says}
use Rattle.curp_msg.specs.declared.body.Append.{Append}
use Rattle.curp_msg.specs.declared.body.Body.{Body}
use Rattle.curp_msg.specs.declared.body.Body.TheVariants as body
use Rattle.curp_msg.specs.Input.{Input}
use Rattle.curp_msg.specs.Input as input
use Rattle.curp_model.specs.Backup.{AfterAppend, AfterFence, BackupState, append, backup_input, fence, install, installed_once, is_installed_at, longer, on_backup}
use Rattle.curp_law_kept.specs.BackupEffect.{AppendAnswerSays, BackupEffect, BackupMove, ByAppend, ByFence, ByInstall, FenceReplySays, Rests}
use Rattle.curp_law_kept.specs.Brought.{Brings}
use Rattle.curp_model.proofs.Backups.{installed_at}

-- entries that reach behind the log make it as long as they reach
longer_reaches : (log : List Entry) (base : ℕ) (entries : List Entry) → base ≤ length log → base + length entries ≤ length (longer log base entries)
longer_reaches log base entries low =
    let n = length log - base in
    omega (arith, length-append log (drop n entries), length-drop n entries)

module _ (given : Input) (from : NodeId) (b : BackupState) where
  -- ---- an append

  record Takes (a : Append) (k : AfterAppend) : Type 0 where
    move : BackupMove given b k.state
    answer : AppendAnswerSays k.state a k.answer

  takes : (a : Append) → Brings given from (body.Append a) → Takes a (append b a.epoch a.base a.entries)
  unfolding append
  takes a came =
      cond_both (nat_lt a.epoch b.fence) _ _ (Takes a) (λ below. record { move = Rests refl; answer = tt })
      (λ above. cond_both (not (is_installed_at b.installed a.epoch)) _ _ (Takes a) (λ other. record { move = Rests refl; answer = tt })
      (λ own. cond_both (nat_lt (length b.log) a.base) _ _ (Takes a) (λ gap. record { move = Rests refl; answer = tt })
      (λ reaches.
      let low : a.base ≤ length b.log = grind (arith, nat_tests) in
      let above : b.fence ≤ a.epoch = grind (arith, nat_tests) in
      let at : b.installed ≡ Some a.epoch = installed_at b.installed a.epoch (not-false (is_installed_at b.installed a.epoch) own) in
      record {
        move = ByAppend (record { from = from; append = a; came = came; own_epoch = at; not_fenced = above; no_gap = low; after = refl });
        answer = record { long_enough = omega arith; reaches = longer_reaches b.log a.base a.entries low; own_epoch = at; not_fenced = above };
      })))

  -- ---- an install

  installs : (epoch : ℕ) → Brings given from (body.Install epoch) → b.fence ≤ epoch → (own : Option ℕ) → b.installed ≡ own → BackupMove given b (installed_once b epoch own)
  installs epoch came above None is = ByInstall (record { from = from; epoch = epoch; came = came; not_yet = is; not_fenced = above; after = refl })
  installs epoch came above (Some own) is = Rests refl

  installing : (epoch : ℕ) → Brings given from (body.Install epoch) → BackupMove given b (install b epoch)
  installing epoch came = cond_both (nat_lt epoch b.fence) _ _ (BackupMove given b) (λ below. Rests refl) (λ above. installs epoch came (grind (arith, nat_tests)) b.installed refl)

  -- ---- a fence

  record Raises (epoch : ℕ) (k : AfterFence) : Type 0 where
    move : BackupMove given b k.state
    answer : FenceReplySays k.state epoch k.answer

  raises : (epoch : ℕ) → Brings given from (body.Fence epoch) → Raises epoch (fence b epoch)
  unfolding fence
  raises epoch came =
      cond_both (nat_lt epoch b.fence) _ _ (Raises epoch) (λ below. record { move = Rests refl; answer = (refl, grind (arith, nat_tests)) })
      (λ above. record { move = ByFence (record { from = from; epoch = epoch; came = came; not_fenced = grind (arith, nat_tests); after = refl }); answer = record { its_log = refl; fenced = refl } })

by_message : (n : ℕ) (b : BackupState) (from to : NodeId) (m : Body) → BackupEffect n (input.Message (says from to m)) b (on_backup n b from m)
unfolding on_backup
by_message n b from to (body.Append a) =
    let came : Brings (input.Message (says from to (body.Append a))) from (body.Append a) = record { to = to; is = refl } in
    let t = takes (input.Message (says from to (body.Append a))) from b a came in
    record { idle = refl; obeys = refl; move = t.move; says = (record { sender = refl; says_so = record { append = a; came = came; epoch = refl; round = refl; answer = t.answer } }, tt) }
by_message n b from to (body.Install epoch) =
    record { idle = refl; obeys = refl; move = installing (input.Message (says from to (body.Install epoch))) from b epoch (record { to = to; is = refl }); says = tt }
by_message n b from to (body.Fence epoch) =
    let came : Brings (input.Message (says from to (body.Fence epoch))) from (body.Fence epoch) = record { to = to; is = refl } in
    let t = raises (input.Message (says from to (body.Fence epoch))) from b epoch came in
    record { idle = refl; obeys = refl; move = t.move; says = (record { sender = refl; says_so = record { came = came; answer = t.answer } }, tt) }
by_message n b from to _ = record { idle = refl; obeys = refl; move = Rests refl; says = tt }

-- what any input does to a backup
pub backup_effect : (n : ℕ) (b : BackupState) (given : Input) → BackupEffect n given b (backup_input n b given)
backup_effect n b (input.Local order) = record { idle = refl; obeys = refl; move = Rests refl; says = tt }
backup_effect n b (input.Message m) = by_message n b m.from m.to m.body
