-- How a script is made from a plan: step by step, over the world that the steps so far have led to.
use Rattle.std.specs.Prelude.{◌≤◌, ℕ, zero, suc, ◌+◌, ◌-◌, ◌*◌, ◌/◌, ◌%◌, ◌^◌, ◌==◌, ◌&&◌, nat_le, nat_lt, if◌then◌else◌, Bool, true, false, not, List, [], ◌∷◌, length, Option, Some, None, is_some}
use Rattle.std.specs.Option.{option_map_or}
use Rattle.rand_pcg.specs.Lcg.{Lcg}
use Rattle.curp_base.specs.Words.{numbered}
use Rattle.curp_client.specs.Requests.{least_of}
use Rattle.curp_model.specs.Client.{Pending, most_pending}
use Rattle.curp_model.specs.World.{World, Stepped, messages, opening, order, step, weight}
use Rattle.curp_msg.specs.declared.outcome.StepResult.{StepResult}
use Rattle.curp_msg.specs.declared.outcome.StepResult.TheVariants.{Done}
use Rattle.curp_msg.specs.declared.script.Step.{Step}
use Rattle.curp_msg.specs.declared.script.Step.TheVariants.{Collect, Deliver, Fetch, Invoke, Migrate, Nudge, Recover, Retry, Sync}
use Rattle.curp_words.specs.Plan.{IsPlan, header_of}
use Rattle.curp_words.specs.declared.task.MakePlan.{MakePlan}
use Rattle.curp_gen.specs.Commands.{made_command}
use Rattle.curp_gen.specs.declared.choice.Choice.{Choice}
use Rattle.curp_gen.specs.declared.summary.Summary.{Summary}
use Rattle.curp_gen.specs.Draws.{Draw, ◌>>=◌, drawn, generator, pick, pick_to}

-- ---- a script that is being made

-- The plan, the world after the steps made so far, where the random words are, the number of the message that comes
-- next, and how many steps were made, of these recoveries, steps that couldn't be done, and steps that completed a request
pub record Making : Type 0 where
  pub plan : MakePlan
  pub world : World
  pub words : Lcg
  pub cursor : ℕ
  pub made : ℕ
  pub recoveries : ℕ
  pub refused : ℕ
  pub completed : ℕ

-- no more was counted than was made, and there is a master
pub record IsCounted (m : Making) : Type 0 where
  pub plan : IsPlan m.plan
  pub masters : 1 ≤ length m.world.masters
  pub made : m.made ≤ m.plan.steps
  pub recoveries : m.recoveries ≤ m.plan.recoveries
  pub refused : m.refused ≤ m.made
  pub completed : m.completed ≤ m.made

-- the stream of words that scripts are made from
abbrev pub script_stream : ℕ
script_stream = 54

-- before the first step
abbrev pub begun : MakePlan → Making
begun plan = record {
  plan = plan;
  world = opening (header_of plan);
  words = generator plan.number script_stream;
  cursor = 1;
  made = 0;
  recoveries = 0;
  refused = 0;
  completed = 0;
}

-- ---- choosing a step

-- a step that leaves the cursor where it is
abbrev pub keeping : Making → Step → Choice
keeping m s = record { step = s; cursor = m.cursor }

-- how many messages were sent
abbrev pub sent : Making → ℕ
sent m = length (messages m.world)

-- what client n waits for
abbrev pub pending_of : Making → ℕ → List Pending
pending_of m n = option_map_or (λ c. c.pending) (numbered m.world.clients n) []

-- ---- deliveries

-- any message that was sent comes, maybe once more
abbrev pub any_message : Making → ℕ → Draw Choice
any_message m cursor = do
  number ← pick_to (sent m)
  drawn (record { step = Deliver number; cursor = cursor })

-- the message at the cursor comes; behind the last one, any message
abbrev pub message_at : Making → ℕ → Draw Choice
message_at m cursor =
    if nat_le cursor (sent m) then drawn (record { step = Deliver cursor; cursor = cursor + 1 })
    else any_message m cursor

-- the cursor behind a message that is passed over: it is lost, unless any message that comes later is that one
abbrev pub passing : Making → ℕ
passing m = if nat_le m.cursor (sent m) then m.cursor + 1 else m.cursor

-- once in eight times any message comes, and once in eight times one is passed over
abbrev pub delivery_by : Making → ℕ → Draw Choice
delivery_by m luck =
    if luck == 0 then any_message m m.cursor
    else (if luck == 1 then message_at m (passing m) else message_at m m.cursor)

-- a message comes; where none was ever sent, the manager is nudged
unfoldable pub delivery : Making → Draw Choice
delivery m = if sent m == 0 then drawn (keeping m Nudge) else (pick 8 >>= delivery_by m)

-- ---- orders

-- client n invokes a made command
abbrev pub invoked_by : Making → ℕ → Draw Choice
invoked_by m n = do
  command ← made_command
  drawn (keeping m (Invoke n command))

-- a client invokes a command, unless it waits for eight
abbrev pub invocation : Making → Draw Choice
invocation m = do
  n ← pick_to m.plan.clients
  if nat_le most_pending (length (pending_of m n)) then delivery m else invoked_by m n

-- the least request that client n waits for is sent again, if there is one
abbrev pub resent_by : Making → ℕ → Option ℕ → Draw Choice
resent_by m n None = delivery m
resent_by m n (Some seq) = drawn (keeping m (Retry n seq))

-- a client sends a request again, unless it waits for none
abbrev pub retrial : Making → Draw Choice
retrial m = do
  n ← pick_to m.plan.clients
  resent_by m n (least_of (pending_of m n))

-- a client asks for the configuration
abbrev pub fetching : Making → Draw Choice
fetching m = do
  n ← pick_to m.plan.clients
  drawn (keeping m (Fetch n))

-- an order to any master that was made so far
abbrev pub ordering : Making → (ℕ → Step) → Draw Choice
ordering m order = do
  n ← pick_to (length m.world.masters)
  drawn (keeping m (order n))

-- the hashes with a first byte go to a partition
abbrev pub moving : Making → Draw Choice
moving m = do
  first ← pick 256
  part ← pick_to m.plan.parts
  drawn (keeping m (Migrate (first * 2 ^ 56) (first * 2 ^ 56 + (2 ^ 56 - 1)) part))

-- a migration, once in eight times
abbrev pub migration : Making → Draw Choice
migration m = do
  luck ← pick 8
  if luck == 0 then moving m else delivery m

-- a partition recovers from a backup and a witness
abbrev pub recovery : Making → Draw Choice
recovery m = do
  part ← pick_to m.plan.parts
  backup ← pick_to m.plan.f
  witness ← pick_to m.plan.f
  drawn (keeping m (Recover part backup witness))

-- ---- all steps

-- recoveries stand apart by this many steps
abbrev pub interval : MakePlan → ℕ
interval plan = plan.steps / (plan.recoveries + 1)

-- the next step is to be a recovery
abbrev pub is_recovery_due : Making → Bool
is_recovery_due m =
    nat_le 1 (interval m.plan) && ((m.made + 1) % interval m.plan == 0 && nat_lt m.recoveries m.plan.recoveries)

-- a step of one of 64 kinds, most of which deliver
abbrev pub choice_by : Making → ℕ → Draw Choice
choice_by m kind =
    if nat_lt kind 4 then invocation m
    else (if nat_lt kind 6 then ordering m Sync
    else (if nat_lt kind 8 then ordering m Collect
    else (if kind == 8 then fetching m
    else (if kind == 9 then retrial m
    else (if kind == 10 then drawn (keeping m Nudge)
    else (if kind == 11 then migration m
    else delivery m))))))

-- the next step
unfoldable pub choice : Making → Draw Choice
choice m = if is_recovery_due m then recovery m else (pick 64 >>= choice_by m)

-- ---- the script

-- so much, and one more where it is so
abbrev pub plus_if : Bool → ℕ → ℕ
plus_if so count = if so then count + 1 else count

-- a step was done
abbrev pub is_done : StepResult → Bool
is_done Done = true
is_done _ = false

-- the script with a step more, by the choice of the step and what it did
abbrev pub with_step : Making → Choice × Lcg → Stepped → Making
with_step m chosen stepped = record m {
  world = stepped.world;
  words = chosen.1;
  cursor = chosen.0.cursor;
  made = m.made + 1;
  recoveries = plus_if (is_recovery_due m) m.recoveries;
  refused = plus_if (not (is_done stepped.outcome.result)) m.refused;
  completed = plus_if (is_some stepped.outcome.completed) m.completed;
}

-- the next step of a script
unfoldable pub next_step : Making → Step
next_step m = (choice m m.words).0.step

-- the script with its next step
unfoldable pub with_next : Making → Making
with_next m = with_step m (choice m m.words) (step m.world (choice m m.words).0.step)

-- so many steps more
unfoldable pub steps_from : ℕ → Making → List Step
steps_from zero m = []
steps_from (suc count) m = next_step m ∷ steps_from count (with_next m)

-- the script with so many steps more
unfoldable pub after : ℕ → Making → Making
after zero m = m
after (suc count) m = after count (with_next m)

-- the steps of a made script
abbrev pub made_steps : MakePlan → List Step
made_steps plan = steps_from plan.steps (begun plan)

-- ---- what happened in it

-- how many steps there were, how many of them couldn't be done, the messages that were sent and their weight, how many
-- requests completed, and how many stand in the order
abbrev pub summary_of : Making → Summary
summary_of m = record {
  steps = m.made;
  refused = m.refused;
  messages = sent m;
  weight = weight m.world;
  completed = m.completed;
  order = length (order m.world);
}
