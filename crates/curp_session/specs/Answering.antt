-- Where a session stands, what it has written so far, and how it finishes.
use Rattle.std.specs.Prelude.{◌≡◌, ◌≤◌, ◌-◌, ◌++◌, ℕ, Bool, true, false, List, [], length, map, Option, Some, None, Result, Ok, Err, ⊤}
use Rattle.curp_base.specs.Words.{Each}
use Rattle.curp_cmd.specs.declared.command.Answer.{Answer}
use Rattle.curp_io.specs.Streams.{HoldsPart}
use Rattle.curp_law_print.specs.Ranges.{StepInRange}
use Rattle.curp_law_served.specs.Served.{Limit, Served, header_of}
use Rattle.curp_msg.specs.Limits.{step_limit}
use Rattle.curp_msg.specs.declared.script.Step.{Step}
use Rattle.curp_runner.specs.Status.{is_cut_short}
use Rattle.curp_runner.specs.declared.status.Status.{Status}
use Rattle.curp_runner.specs.declared.status.Status.TheVariants as status
use Rattle.curp_resp.specs.Input.{Decomposes, place_behind}
use Rattle.curp_resp.specs.Meaning.{meaning}
use Rattle.curp_script.specs.Printed.{NamesNode}
use Rattle.curp_script.specs.Texts.{lines_text, script_lines}
use Rattle.curp_session.specs.Session.{EndsSession, Session, reads_all, reply_to, session, status_of_limit, text_by}
use Rattle.curp_words.specs.declared.task.RespPlan.{RespPlan}
use Rattle.curp_words.specs.declared.task.RespOutput.{RespOutput}
use Rattle.curp_words.specs.declared.task.RespOutput.TheVariants as output

-- ---- what is written

-- what is written of a session before its rest is met
abbrev pub so_far : RespOutput → ℕ → Session → List ℕ
so_far output.Replies f k = k.replies
so_far output.Script f k = script_lines (header_of f) k.served.steps

-- a reply, where replies are written
abbrev pub if_replies : RespOutput → List ℕ → List ℕ
if_replies output.Replies text = text
if_replies output.Script text = []

-- what is due for a command: the reply to its answer, or the lines of its steps
abbrev pub due_of : RespOutput → Option Answer → List Step → List ℕ
due_of output.Replies answer steps = reply_to answer
due_of output.Script answer steps = lines_text steps

-- steps that can be printed, and are read back then
pub record AreReadBack (steps : List Step) : Type 0 where
  pub named : Each NamesNode steps
  pub in_range : Each StepInRange steps
  pub few : length steps ≤ step_limit

-- ---- how a request ends

-- it meets this limit, or none
abbrev pub ended_by : Option Limit → Result ⊤ Status
ended_by None = Ok tt
ended_by (Some limit) = Err (status_of_limit limit)

-- an error of it is a limit, a write fault, or running out of memory
abbrev pub IsOfAnswering : Status → Type 0
IsOfAnswering status.TooManySteps = ⊤
IsOfAnswering (status.TooLarge weight) = ⊤
IsOfAnswering status.WriteFault = ⊤
IsOfAnswering status.NoMemory = ⊤
IsOfAnswering _ = ⊥

-- ---- where a session stands

-- what a session is to come to: what is written, how many backups there are and after how many commands a recovery
-- follows, the session of all requests, the rest behind them, the length of the input, and what was held before
pub record Aim : Type 0 where
  pub output : RespOutput
  pub f : ℕ
  pub every : ℕ
  pub whole : Session
  pub rest : List ℕ
  pub size : ℕ
  pub before : List ℕ

-- that of a plan for requests and a rest, which are the input
abbrev pub aim_of : RespPlan → List (List (List ℕ)) → List ℕ → List ℕ → List ℕ → Aim
aim_of plan requests rest input before = record {
  output = plan.output;
  f = plan.f;
  every = plan.every;
  whole = session plan requests;
  rest = rest;
  size = length input;
  before = before;
}

-- a session with this state of its cluster and so many requests, which no limit has stopped
pub record IsAt (now : Session) (state : Served) (count : ℕ) : Type 0 where
  pub served : now.served ≡ state
  pub counted : now.requests ≡ count
  pub free : now.served.stopped ≡ None

-- Some requests are due, which the bytes begin with and which lead from here to the whole session. A sink that tells
-- holds what is written so far.
pub record IsSession (aim : Aim) (tells : Bool) (held : List ℕ) (state : Served) (count : ℕ) (bytes : List ℕ)
    (passed : ℕ) : Type 0 where
  pub now : Session
  pub at : IsAt now state count
  pub due : List (List (List ℕ))
  pub decomposes : Decomposes due bytes aim.rest
  pub leads : reads_all aim.every (map meaning due) now ≡ aim.whole
  pub passes : passed ≡ place_behind 0 (aim.size - length bytes)
  pub within : length bytes ≤ aim.size
  pub printable : aim.output ≡ output.Script → AreReadBack state.steps
  pub wrote : tells ≡ true → held ≡ aim.before ++ so_far aim.output aim.f now

-- Of the input these requests were read, which lead to this state, and the other bytes are left. The sink holds what is
-- written for them.
pub record HasAnswered (plan : RespPlan) (input before held : List ℕ) (state : Served) (count : ℕ) (bytes : List ℕ) : Type 0 where
  pub requests : List (List (List ℕ))
  pub read : List ℕ
  pub decomposes : Decomposes requests read []
  pub left : read ++ bytes ≡ input
  pub at : IsAt (session plan requests) state count
  pub wrote : held ≡ before ++ so_far plan.output plan.f (session plan requests)

-- it has come to its end with this status, or was cut short
pub record Finishes (aim : Aim) (tells : Bool) (held : List ℕ) (result : Status) : Type 0 where
  pub ends : is_cut_short result ≡ false
      → EndsSession aim.whole.served.stopped (aim.size - length aim.rest) aim.rest result
  pub wrote : tells ≡ true → is_cut_short result ≡ false
      → held ≡ aim.before ++ text_by aim.output aim.f aim.whole aim.rest
  pub prefix : tells ≡ true → HoldsPart aim.before held (text_by aim.output aim.f aim.whole aim.rest)
  pub printable : aim.output ≡ output.Script → is_cut_short result ≡ false → AreReadBack aim.whole.served.steps

-- the next request was answered, or there was none, or it ended there
abbrev pub AnswersNext : Aim → Bool → List ℕ → Served → ℕ → List ℕ → ℕ → Result Bool Status → Type 0
AnswersNext aim tells held state count bytes passed (Ok true) = IsSession aim tells held state count bytes passed
AnswersNext aim tells held state count bytes passed (Ok false) = Finishes aim tells held status.Ok
AnswersNext aim tells held state count bytes passed (Err stop) = Finishes aim tells held stop
