-- What the calls of a backup answer, by its definition.
use Rattle.std.specs.Prelude.{◌≡◌, ℕ, ◌==◌, nat_lt, if◌then◌else◌, IsTrue, Bool, true, false, Option, Some, None, Result, Ok, Err, ⊤}
use Rattle.std.specs.Global.{Vec}
use Rattle.curp_base.specs.declared.failed.Failed.{Failed}
use Rattle.curp_base.specs.declared.failed.Failed.TheVariants as failed
use Rattle.curp_cmd.specs.declared.entry.Entry.{Entry}
use Rattle.curp_msg.specs.declared.answer.AppendAnswer.{AppendAnswer}
use Rattle.curp_msg.specs.declared.answer.AppendAnswer.TheVariants as told
use Rattle.curp_msg.specs.declared.answer.FenceReply.{FenceReply}
use Rattle.curp_msg.specs.declared.answer.FenceReply.TheVariants as reply
use Rattle.curp_model.specs.Backup.{BackupState}
use Rattle.curp_backup.specs.declared.error.Fenced.{Fenced}
use Rattle.curp_backup.specs.declared.error.AppendError.{AppendError}
use Rattle.curp_backup.specs.declared.error.AppendError.TheVariants as error

-- ---- install

-- one that is installed takes its own epoch alone
abbrev pub own_epoch : Option ℕ → ℕ → Result ⊤ Fenced
own_epoch None epoch = Ok tt
own_epoch (Some own) epoch = if own == epoch then Ok tt else Err (record { epoch = own })

-- an epoch below the fence is refused with the fence, and one that isn't its own with its own
abbrev pub install_answer : BackupState → ℕ → Result ⊤ Fenced
install_answer b epoch = if nat_lt epoch b.fence then Err (record { epoch = b.fence }) else own_epoch b.installed epoch

-- ---- append

-- the entries are stored
abbrev pub is_stored : AppendAnswer → Bool
is_stored (told.Stored length) = true
is_stored _ = false

-- the result says what the answer says. Only where the answer is that entries are stored, memory may be wanting
abbrev pub AnswersAppend : Result ℕ (Failed AppendError) → AppendAnswer → Type 0
AnswersAppend (Ok length) answer = answer ≡ told.Stored length
AnswersAppend (Err (failed.Because (error.Fenced epoch))) answer = answer ≡ told.Fenced epoch
AnswersAppend (Err (failed.Because (error.Gap length))) answer = answer ≡ told.Gap length
AnswersAppend (Err (failed.Because error.NotInstalled)) answer = answer ≡ told.NotInstalled
AnswersAppend (Err failed.NoMemory) answer = IsTrue (is_stored answer)

-- ---- fence

-- the log is given
abbrev pub gives_log : FenceReply → Bool
gives_log (reply.Log entries) = true
gives_log (reply.Fenced epoch) = false

-- the result says what the reply says. Only where the reply is the log, memory may be wanting
abbrev pub AnswersFence : Result (Vec Entry) (Failed Fenced) → FenceReply → Type 0
AnswersFence (Ok log) answer = answer ≡ reply.Log log.items
AnswersFence (Err (failed.Because fenced)) answer = answer ≡ reply.Fenced fenced.epoch
AnswersFence (Err failed.NoMemory) answer = IsTrue (gives_log answer)
