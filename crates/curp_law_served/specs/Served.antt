-- The steps that serve commands by a cluster of one partition: each command is invoked, and then every message that was
-- sent is delivered, in rising number, until none is left (this project's own).
use Rattle.std.specs.Prelude.{◌≡◌, ◌≤◌, ℕ, zero, suc, ◌+◌, ◌%◌, ◌==◌, ◌&&◌, nat_lt, if◌then◌else◌, Bool, true, false, not, List, [], ◌∷◌, ◌++◌, length, Option, Some, None, ⊤}
use Rattle.curp_base.specs.Words.{Each}
use Rattle.curp_cmd.specs.Store.{NamesKey, applied, nothing}
use Rattle.curp_cmd.specs.Node.{master_node}
use Rattle.curp_cmd.specs.declared.command.Answer.{Answer}
use Rattle.curp_cmd.specs.declared.command.Command.{Command}
use Rattle.curp_cmd.specs.declared.command.RequestId.{RequestId}
use Rattle.curp_cmd.specs.declared.node.NodeKind.TheVariants as kind
use Rattle.curp_msg.specs.declared.config.PartConfig.{PartConfig}
use Rattle.curp_msg.specs.declared.machine.Completed.{Completed}
use Rattle.curp_msg.specs.declared.outcome.StepResult.{StepResult}
use Rattle.curp_msg.specs.declared.outcome.StepResult.TheVariants.{Full}
use Rattle.curp_msg.specs.declared.script.Header.{Header}
use Rattle.curp_msg.specs.declared.script.Protocol.TheVariants.{One}
use Rattle.curp_msg.specs.declared.script.Step.{Step}
use Rattle.curp_msg.specs.declared.script.Step.TheVariants as steps
use Rattle.curp_order.specs.declared.Event.{Event}
use Rattle.curp_order.specs.declared.Event.TheVariants.{Complete, Invoke}
use Rattle.curp_order.specs.Order.{answers, store_after}
use Rattle.curp_model.specs.World.{Stepped, World, messages, opening, step, with_answers}

-- ---- what it begins with

-- one client, one partition, fast, protocol 1, 64 sets of 4 ways
abbrev pub header_of : ℕ → Header
header_of f = record { clients = 1; f = f; fast = true; parts = 1; protocol = One; sets = 64; ways = 4 }

-- how many steps may be made
abbrev pub most_steps : ℕ
most_steps = 200000

-- why no further step is made: one more would be too many, or the messages weigh too much
pub data Limit : Type 0 where
  TooManySteps : Limit
  TooLarge : (weight : ℕ) → Limit

-- the world and the steps that were made, how many messages were delivered and how many commands were served, the
-- answer to the command that is being served, and why it went no further
pub record Served : Type 0 where
  pub world : World
  pub steps : List Step
  pub delivered : ℕ
  pub commands : ℕ
  pub answer : Option Answer
  pub stopped : Option Limit

-- before any command
abbrev pub begun : ℕ → Served
begun f =
    record { world = opening (header_of f); steps = []; delivered = 0; commands = 0; answer = None; stopped = None }

-- ---- one step

-- what comes next, unless it has stopped
abbrev pub after_all : Option Limit → Served → (Served → Served) → Served
after_all None s next = next s
after_all (Some why) s next = s

abbrev pub and_then : Served → (Served → Served) → Served
and_then s next = after_all s.stopped s next

-- the answer to the command, once it has one
abbrev pub answer_by : Option Answer → Option Completed → Option Answer
answer_by answer None = answer
answer_by answer (Some c) = Some c.answer

-- a step was made, or refused since the messages weigh too much
abbrev pub stepped : Served → Step → Stepped → StepResult → Served
stepped s made k (Full weight) = record s { stopped = Some (TooLarge weight) }
stepped s made k result =
    record s { world = k.world; steps = s.steps ++ made ∷ []; answer = answer_by s.answer k.outcome.completed }

-- a step, unless it would be one too many
abbrev pub makes : Step → Served → Served
makes made s =
    if length s.steps == most_steps then record s { stopped = Some TooManySteps }
    else stepped s made (step s.world made) (step s.world made).outcome.result

-- ---- quieting

-- some message isn't delivered
abbrev pub is_busy : Served → Bool
is_busy s = nat_lt s.delivered (length (messages s.world))

-- the next message is delivered
abbrev pub delivers : Served → Served
delivers s = and_then (makes (steps.Deliver (s.delivered + 1)) s) (λ k. record k { delivered = k.delivered + 1 })

-- at most so many deliveries
unfoldable pub quiets_in : ℕ → Served → Served
quiets_in zero s = s
quiets_in (suc n) s = if is_busy s then and_then (delivers s) (quiets_in n) else s

-- each message that wasn't delivered, in rising number, until none is left. No more deliveries than steps can be made
unfoldable pub quiets : Served → Served
quiets s = quiets_in (most_steps + 1) s

-- a step, and what it sets off
abbrev pub with_quieting : Step → Served → Served
with_quieting made s = and_then (makes made s) quiets

-- ---- a command

-- the number of the master of the adopted entry
abbrev pub newest_in : List PartConfig → ℕ
newest_in [] = 0
newest_in (c ∷ more) = c.master.number

abbrev pub newest : Served → ℕ
newest s = newest_in s.world.manager.config.parts

-- a round of the newest master, and a collection
abbrev pub tidies : Served → Served
tidies s = and_then (with_quieting (steps.Sync (newest s)) s) (λ k. with_quieting (steps.Collect (newest k)) k)

-- the newest master is stopped, another one recovers the partition, and the client asks for the configuration
abbrev pub replaces_master : Served → Served
replaces_master s =
    and_then (and_then (makes (steps.Stop (master_node (newest s))) s) (with_quieting (steps.Recover 1 1 1)))
    (with_quieting (steps.Fetch 1))

-- the number of commands is a multiple of it, which isn't 0
abbrev pub is_turn : ℕ → ℕ → Bool
is_turn every commands = not (every == 0) && (commands % every == 0)

abbrev pub if_turn : Bool → (Served → Served) → Served → Served
if_turn true act s = act s
if_turn false act s = s

-- one command: it is invoked, and all is delivered. After every sixteenth a round and a collection follow, and after
-- each of the given number a recovery
unfoldable pub serve : ℕ → Command → Served → Served
serve every command s =
    and_then (and_then (with_quieting (steps.Invoke 1 command) (record s { answer = None }))
    (λ k. if_turn (is_turn 16 (k.commands + 1)) tidies (record k { commands = k.commands + 1 })))
    (λ k. if_turn (is_turn every k.commands) replaces_master k)

-- commands in turn
abbrev pub serve_all : ℕ → List Command → Served → Served
serve_all every [] s = s
serve_all every (command ∷ rest) s = and_then (serve every command s) (serve_all every rest)

-- ---- what is served

-- a request with its answer
abbrev pub AnsweredRequest : Type 0
AnsweredRequest = RequestId × Command × Answer

-- each is invoked and completes before the next
abbrev pub in_turn : List AnsweredRequest → List Event
in_turn [] = []
in_turn (x ∷ xs) = Invoke x.0 x.1 ∷ Complete x.0 x.2 ∷ in_turn xs

-- the commands as requests of the only client, the first of them with that number
abbrev pub requests_from : ℕ → List Command → List (RequestId × Command)
requests_from n [] = []
requests_from n (command ∷ rest) = (record { client = 1; seq = n }, command) ∷ requests_from (n + 1) rest

-- its requests are numbered from 1
abbrev pub requests : List Command → List (RequestId × Command)
requests commands = requests_from 1 commands

-- each with the answer of one thread
abbrev pub answered : List Command → List AnsweredRequest
answered commands = with_answers (requests commands) (answers (requests commands))

-- what one thread answers to a command behind others
abbrev pub answer_behind : List Command → Command → Answer
answer_behind commands command = (applied (store_after nothing (requests commands)) command).answer

-- f is in the range of headers, and each command is a value of its type
pub record AreServed (f : ℕ) (commands : List Command) : Type 0 where
  pub some : 1 ≤ f
  pub few : f ≤ 5
  pub keys : Each NamesKey commands

-- the state behind commands
abbrev pub after : ℕ → ℕ → List Command → Served
after f every commands = serve_all every commands (begun f)

-- where a step stops a node, that is a master, and masters are numbered from 1
abbrev pub StopsMaster : Step → Type 0
StopsMaster (steps.Stop node) = (node.kind ≡ kind.Master) × (1 ≤ node.number)
StopsMaster _ = ⊤
