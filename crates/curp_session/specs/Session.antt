-- A session of requests: each is answered, by a cluster that serves its command, before the next one is looked at.
use Rattle.std.specs.Prelude.{◌≡◌, ℕ, ◌+◌, ◌==◌, if◌then◌else◌, List, [], ◌∷◌, ◌++◌, map, Option, Some, None}
use Rattle.curp_base.specs.Words.{IsPrefix}
use Rattle.curp_cmd.specs.declared.command.Answer.{Answer}
use Rattle.curp_cmd.specs.declared.command.Command.{Command}
use Rattle.curp_law_served.specs.Served.{Limit, Served, TooLarge, TooManySteps, answer_behind, answered, begun, header_of, in_turn, serve}
use Rattle.curp_model.specs.World.{world}
use Rattle.curp_runner.specs.declared.status.Status.{Status}
use Rattle.curp_runner.specs.declared.status.Status.TheVariants as status
use Rattle.curp_resp.specs.Input.{BreaksOff, Decomposes, place_behind}
use Rattle.curp_resp.specs.Language.{IsViablePrefix}
use Rattle.curp_resp.specs.Meaning.{meaning}
use Rattle.curp_resp.specs.Reply.{other_of, protocol_error, reply_of}
use Rattle.curp_resp.specs.declared.asked.Asked.{Asked}
use Rattle.curp_resp.specs.declared.asked.Asked.TheVariants as asked
use Rattle.curp_script.specs.Texts.{script_lines}
use Rattle.curp_words.specs.declared.task.RespOutput.{RespOutput}
use Rattle.curp_words.specs.declared.task.RespOutput.TheVariants as output
use Rattle.curp_words.specs.declared.task.RespPlan.{RespPlan}

-- how many requests may be read
abbrev pub most_requests : ℕ
most_requests = 200000

-- the cluster with its steps, how many requests were read, and the replies
pub record Session : Type 0 where
  pub served : Served
  pub requests : ℕ
  pub replies : List ℕ

-- before any request
abbrev pub fresh : ℕ → Session
fresh f = record { served = begun f; requests = 0; replies = [] }

-- ---- one request

-- the reply to a command, where it was completed
abbrev pub reply_to : Option Answer → List ℕ
reply_to None = []
reply_to (Some answer) = reply_of answer

-- a command is served; a request that means none makes no step
abbrev pub answered_by : ℕ → Asked → Session → Session
answered_by every (asked.Other other) k =
    record k { requests = k.requests + 1; replies = k.replies ++ other_of other }
answered_by every (asked.Command command) k = record {
  served = serve every command k.served;
  requests = k.requests + 1;
  replies = k.replies ++ reply_to (serve every command k.served).answer;
}

-- it is one too many
abbrev pub refused : Session → Session
refused k = record k { served = record k.served { stopped = Some TooManySteps } }

-- a request is read
abbrev pub reads : ℕ → Asked → Session → Session
reads every next k = if k.requests == most_requests then refused k else answered_by every next k

-- ---- all requests

-- what comes next, unless a limit has stopped it
abbrev pub unless_stopped : Option Limit → Session → (Session → Session) → Session
unless_stopped None k next = next k
unless_stopped (Some why) k next = k

-- requests in turn, up to a limit
abbrev pub reads_all : ℕ → List Asked → Session → Session
reads_all every [] k = k
reads_all every (next ∷ rest) k = unless_stopped (reads every next k).served.stopped (reads every next k) (reads_all every rest)

-- the session of these requests, each by its arguments
abbrev pub session : RespPlan → List (List (List ℕ)) → Session
session plan requests = reads_all plan.every (map meaning requests) (fresh plan.f)

-- ---- how it ends

abbrev pub status_of_limit : Limit → Status
status_of_limit TooManySteps = status.TooManySteps
status_of_limit (TooLarge weight) = status.TooLarge weight

-- Behind so many bytes of whole requests stands a rest that begins with none. It is empty, or it breaks off.
pub record EndsInput (before : ℕ) (rest : List ℕ) (result : Status) : Type 0 where
  pub ok : rest ≡ [] → result ≡ status.Ok
  pub bad : (place : ℕ) → BreaksOff rest place → result ≡ status.BadRequest (place_behind before place)

-- it ends by the limit that stopped it, or else as the input does
abbrev pub EndsSession : Option Limit → ℕ → List ℕ → Status → Type 0
EndsSession (Some limit) before rest result = result ≡ status_of_limit limit
EndsSession None before rest result = EndsInput before rest result

-- what is replied to a rest
abbrev pub closing : Option Limit → List ℕ → List ℕ
closing (Some limit) rest = []
closing None [] = []
closing None (byte ∷ rest) = protocol_error

-- the replies, and that to the rest; or the script of the steps that were made
abbrev pub text_by : RespOutput → ℕ → Session → List ℕ → List ℕ
text_by output.Replies f k rest = k.replies ++ closing k.served.stopped rest
text_by output.Script f k rest = script_lines (header_of f) k.served.steps

-- what a session writes
abbrev pub session_text : RespPlan → List (List (List ℕ)) → List ℕ → List ℕ
session_text plan requests rest = text_by plan.output plan.f (session plan requests) rest

-- ---- where reading fails

-- The bytes that were taken are these requests, and behind them a rest that only begins one. What stands behind what was
-- held before is what a session of these requests writes.
pub record HoldsAnswers (plan : RespPlan) (left_before left_after held_before held_after : List ℕ) : Type 0 where
  pub taken : List ℕ
  pub requests : List (List (List ℕ))
  pub rest : List ℕ
  pub is : left_before ≡ taken ++ left_after
  pub decomposes : Decomposes requests taken rest
  pub begins : IsViablePrefix rest
  pub held : held_after ≡ held_before ++ session_text plan requests []

-- ---- one thread

-- the commands among requests
abbrev pub commands_in : List Asked → List Command
commands_in [] = []
commands_in (asked.Command command ∷ rest) = command ∷ commands_in rest
commands_in (asked.Other other ∷ rest) = commands_in rest

-- what one thread replies to requests, behind commands
abbrev pub replies_behind : List Command → List Asked → List ℕ
replies_behind before [] = []
replies_behind before (asked.Command command ∷ rest) =
    reply_of (answer_behind before command) ++ replies_behind (before ++ command ∷ []) rest
replies_behind before (asked.Other other ∷ rest) = other_of other ++ replies_behind before rest

-- what one thread replies to the requests, each by its arguments
abbrev pub replies_of_one_thread : List (List (List ℕ)) → List ℕ
replies_of_one_thread requests = replies_behind [] (map meaning requests)

-- ---- what the steps show

-- The replies are those to the first of the requests; the run of the steps first completes the commands of these in turn,
-- each with the answer that one thread gives.
pub record ShowsReplied (f : ℕ) (requests : List Asked) (k : Session) : Type 0 where
  pub replied : List Asked
  pub rest : List Asked
  pub is : requests ≡ replied ++ rest
  pub replies : k.replies ≡ replies_behind [] replied
  pub shown : IsPrefix (in_turn (answered (commands_in replied))) (world (header_of f) k.served.steps).history
