-- A backup only grows.
use Rattle.std.proofs.Common.{◌≡◌, ◌≢◌, ℕ, ◌<◌, ◌≤◌, ◌-◌, not, true, List, length, drop, Option, Some, None, nat_lt, refl, ap, arith}
use Rattle.std.proofs.lemmas.Bool.{cond_both, not-false}
use Rattle.std.proofs.lemmas.Bool.Decides.{nat_tests}
use Rattle.curp_base.specs.Words.{IsPrefix}
use Rattle.curp_base.proofs.Lists.{prefix_self, prefix_push}
use Rattle.curp_cmd.specs.declared.entry.Entry.{Entry}
use Rattle.curp_cmd.specs.declared.node.NodeId.{NodeId}
use Rattle.curp_msg.specs.declared.body.Append.{Append as Appending}
use Rattle.curp_msg.specs.declared.body.Body.{Body}
use Rattle.curp_msg.specs.declared.body.Body.TheVariants.{Append, Install, Fence}
use Rattle.curp_model.specs.Backup.{BackupState, append, fence, install, installed_once, is_installed_at, on_backup, AfterAppend, AfterFence}
use Rattle.curp_model.specs.Laws.{IsTaken}

-- what every message leaves of a backup
record Grown (b after : BackupState) : Type 0 where
  log : IsPrefix b.log after.log
  fence : b.fence ≤ after.fence
  installed : (epoch : ℕ) → b.installed ≡ Some epoch → after.installed ≡ Some epoch

stays : (b : BackupState) → Grown b b
stays b = record { log = prefix_self b.log; fence = omega arith; installed = λ epoch e. e }

-- an append, and when it changes the log
record Takes (b after : BackupState) (epoch base : ℕ) : Type 0 where
  grown : Grown b after
  fenced : epoch < b.fence → after ≡ b
  own_epoch : after.log ≢ b.log → b.installed ≡ Some epoch
  not_fenced : after.log ≢ b.log → b.fence ≤ epoch
  no_gap : after.log ≢ b.log → base ≤ length b.log

takes_nothing : (b : BackupState) (epoch base : ℕ) → Takes b b epoch base
takes_nothing b epoch base = record {
  grown = stays b;
  fenced = λ l. refl;
  own_epoch = λ ne. absurd (ne refl);
  not_fenced = λ ne. absurd (ne refl);
  no_gap = λ ne. absurd (ne refl);
}

pub installed_at : (own : Option ℕ) (epoch : ℕ) → is_installed_at own epoch ≡ true → own ≡ Some epoch
installed_at None epoch e = absurd cc
installed_at (Some own) epoch e = let same : own ≡ epoch = grind (arith, nat_tests) in ap (λ (x : ℕ). Some x) same

append_takes : (b : BackupState) (epoch base : ℕ) (entries : List Entry) → Takes b (append b epoch base entries).state epoch base
unfolding append
append_takes b epoch base entries =
    cond_both (nat_lt epoch b.fence) _ _ (λ (k : AfterAppend). Takes b k.state epoch base) (λ below. takes_nothing b epoch base)
    (λ above. cond_both (not (is_installed_at b.installed epoch)) _ _ (λ (k : AfterAppend). Takes b k.state epoch base) (λ other. takes_nothing b epoch base)
    (λ own. cond_both (nat_lt (length b.log) base) _ _ (λ (k : AfterAppend). Takes b k.state epoch base) (λ gap. takes_nothing b epoch base)
    (λ reaches. record {
      grown = record { log = prefix_push b.log (drop (length b.log - base) entries); fence = omega arith; installed = λ e is. is };
      fenced = λ l. absurd (grind (arith, nat_tests));
      own_epoch = λ ne. installed_at b.installed epoch (not-false (is_installed_at b.installed epoch) own);
      not_fenced = λ ne. grind (arith, nat_tests);
      no_gap = λ ne. grind (arith, nat_tests);
    })))

fence_grows : (b : BackupState) (epoch : ℕ) → Grown b (fence b epoch).state
unfolding fence
fence_grows b epoch =
    cond_both (nat_lt epoch b.fence) _ _ (λ (a : AfterFence). Grown b a.state) (λ below. stays b)
    (λ above. record { log = prefix_self b.log; fence = grind (arith, nat_tests); installed = λ e is. is })

fence_keeps_log : (b : BackupState) (epoch : ℕ) → (fence b epoch).state.log ≡ b.log
unfolding fence
fence_keeps_log b epoch = cond_both (nat_lt epoch b.fence) _ _ (λ (a : AfterFence). a.state.log ≡ b.log) (λ below. refl) (λ above. refl)

once_grows : (b : BackupState) (epoch : ℕ) (own : Option ℕ) → b.installed ≡ own → Grown b (installed_once b epoch own)
once_grows b epoch None e = record { log = prefix_self b.log; fence = omega arith; installed = λ x is. absurd (cc) }
once_grows b epoch (Some own) e = stays b

once_keeps_log : (b : BackupState) (epoch : ℕ) (own : Option ℕ) → (installed_once b epoch own).log ≡ b.log
once_keeps_log b epoch None = refl
once_keeps_log b epoch (Some own) = refl

install_grows : (b : BackupState) (epoch : ℕ) → Grown b (install b epoch)
install_grows b epoch = cond_both (nat_lt epoch b.fence) _ _ (Grown b) (λ below. stays b) (λ above. once_grows b epoch b.installed refl)

install_keeps_log : (b : BackupState) (epoch : ℕ) → (install b epoch).log ≡ b.log
install_keeps_log b epoch =
    cond_both (nat_lt epoch b.fence) _ _ (λ (x : BackupState). x.log ≡ b.log) (λ below. refl) (λ above. once_keeps_log b epoch b.installed)

grows : (n : ℕ) (b : BackupState) (from : NodeId) (message : Body) → Grown b (on_backup n b from message).state
unfolding on_backup
grows n b from (Append a) = (append_takes b a.epoch a.base a.entries).grown
grows n b from (Install epoch) = install_grows b epoch
grows n b from (Fence epoch) = fence_grows b epoch
grows n b from _ = stays b

pub log : (n : ℕ) (b : BackupState) (from : NodeId) (message : Body) → IsPrefix b.log (on_backup n b from message).state.log
log n b from message = (grows n b from message).log

pub fence_stays : (n : ℕ) (b : BackupState) (from : NodeId) (message : Body) → b.fence ≤ (on_backup n b from message).state.fence
fence_stays n b from message = (grows n b from message).fence

pub installed : (n : ℕ) (b : BackupState) (from : NodeId) (message : Body) (epoch : ℕ) → b.installed ≡ Some epoch → (on_backup n b from message).state.installed ≡ Some epoch
installed n b from message = (grows n b from message).installed

pub fenced : (n : ℕ) (b : BackupState) (from : NodeId) (a : Appending) → a.epoch < b.fence → (on_backup n b from (Append a)).state ≡ b
unfolding on_backup
fenced n b from a below = (append_takes b a.epoch a.base a.entries).fenced below

pub taken : (n : ℕ) (b : BackupState) (from : NodeId) (message : Body) → (on_backup n b from message).state.log ≢ b.log → IsTaken b message
unfolding on_backup
taken n b from (Append a) ne =
    let t = append_takes b a.epoch a.base a.entries in
    record { append = a; is_append = refl; own_epoch = t.own_epoch ne; not_fenced = t.not_fenced ne; no_gap = t.no_gap ne }
taken n b from (Install epoch) ne = absurd (ne (install_keeps_log b epoch))
taken n b from (Fence epoch) ne = absurd (ne (fence_keeps_log b epoch))
taken n b from _ ne = absurd (ne refl)
