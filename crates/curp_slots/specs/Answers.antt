-- What a witness answers.
use Rattle.std.specs.Prelude.{◌≡◌, ◌≢◌, Bool, true, false, IsTrue, Option, Some, None, Result, Ok, Err}
use Rattle.std.specs.Global.{Vec}
use Rattle.curp_base.specs.declared.failed.Failed.{Failed}
use Rattle.curp_base.specs.declared.failed.Failed.TheVariants as failed
use Rattle.curp_cmd.specs.declared.command.Request.{Request}
use Rattle.curp_model.specs.declared.Mode.{Mode}
use Rattle.curp_model.specs.declared.Mode.TheVariants.{Idle}
use Rattle.curp_msg.specs.declared.answer.GcAnswer.{GcAnswer}
use Rattle.curp_msg.specs.declared.answer.GcAnswer.TheVariants as collected
use Rattle.curp_msg.specs.declared.answer.Reason.{Reason}
use Rattle.curp_slots.specs.declared.error.NotIdle.{NotIdle}
use Rattle.curp_slots.specs.declared.error.Stranger.{Stranger}
use Rattle.curp_slots.specs.declared.answer.RecordAnswer.{RecordAnswer}
use Rattle.curp_slots.specs.declared.answer.RecordAnswer.TheVariants.{Accepted, Rejected}

-- why it doesn't hold a request: for none of the reasons where it does
abbrev pub refusal : RecordAnswer → Option Reason
refusal Accepted = None
refusal (Rejected why) = Some why

-- only an idle one is started, and only then memory may be wanting
abbrev pub AnswersStart : Result (Unit {0}) (Failed NotIdle) → Mode → Type 0
AnswersStart (Ok _) mode = mode ≡ Idle
AnswersStart (Err (failed.Because not_idle)) mode = (not_idle.mode ≡ mode) × (mode ≢ Idle)
AnswersStart (Err failed.NoMemory) mode = mode ≡ Idle

-- suspects are told
abbrev pub gives_suspects : GcAnswer → Bool
gives_suspects (collected.Suspects requests) = true
gives_suspects (collected.Stranger epoch) = false

-- the result says what the answer says. Only where the answer is suspects, memory may be wanting
abbrev pub AnswersGc : Result (Vec Request) (Failed Stranger) → GcAnswer → Type 0
AnswersGc (Ok requests) answer = answer ≡ collected.Suspects requests.items
AnswersGc (Err (failed.Because stranger)) answer = answer ≡ collected.Stranger stranger.epoch
AnswersGc (Err failed.NoMemory) answer = IsTrue (gives_suspects answer)
