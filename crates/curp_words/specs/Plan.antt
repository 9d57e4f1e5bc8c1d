-- The plans of `make`, `live` and `resp`.
use Rattle.std.specs.Prelude.{◌≤◌, ◌^◌, ◌-◌, true, ⊤}
use Rattle.curp_msg.specs.Limits.{step_limit}
use Rattle.curp_msg.specs.Script.{IsHeader}
use Rattle.curp_msg.specs.declared.script.Header.{Header}
use Rattle.curp_msg.specs.declared.script.Protocol.TheVariants.{One}
use Rattle.curp_words.specs.declared.task.LivePlan.{LivePlan}
use Rattle.curp_words.specs.declared.task.MakePlan.{MakePlan}
use Rattle.curp_words.specs.declared.task.Task.{Task}
use Rattle.curp_words.specs.declared.task.Task.TheVariants.{Play, Make, Live, Check, Resp, Manage}
use Rattle.curp_words.specs.declared.task.RespOutput.TheVariants.{Replies}
use Rattle.curp_words.specs.declared.task.RespPlan.{RespPlan}

-- the plan of `make` with no option
abbrev pub default_plan : MakePlan
default_plan = record { number = 1; f = 3; sets = 64; ways = 4; clients = 8; parts = 2; protocol = One; steps = 4000; recoveries = 3 }

-- the plan of `live` with no option
abbrev pub default_live_plan : LivePlan
default_live_plan = record { number = 1; f = 3; sets = 64; ways = 4; clients = 8; parts = 2; protocol = One; commands = 50; recoveries = 3 }

-- the plan of `resp` with no option
abbrev pub default_resp_plan : RespPlan
default_resp_plan = record { f = 3; every = 0; output = Replies }

-- the header of what `make` makes: clients are fast
abbrev pub header_of : MakePlan → Header
header_of plan = record {
  clients = plan.clients;
  f = plan.f;
  fast = true;
  parts = plan.parts;
  protocol = plan.protocol;
  sets = plan.sets;
  ways = plan.ways;
}

-- the header of what `live` runs
abbrev pub live_header : LivePlan → Header
live_header plan = record {
  clients = plan.clients;
  f = plan.f;
  fast = true;
  parts = plan.parts;
  protocol = plan.protocol;
  sets = plan.sets;
  ways = plan.ways;
}

-- each number of a plan of `make` is in its range, that of a header in a header's
pub record IsPlan (plan : MakePlan) : Type 0 where
  pub number : plan.number ≤ 2 ^ 64 - 1
  pub header : IsHeader (header_of plan)
  pub steps : (1 ≤ plan.steps) × (plan.steps ≤ step_limit)
  pub recoveries : plan.recoveries ≤ 64

-- each number of a plan of `live` is in its range, that of a header in a header's, and there are fewer clients
pub record IsLivePlan (plan : LivePlan) : Type 0 where
  pub number : plan.number ≤ 2 ^ 64 - 1
  pub header : IsHeader (live_header plan)
  pub clients : plan.clients ≤ 16
  pub commands : (1 ≤ plan.commands) × (plan.commands ≤ 100)
  pub recoveries : plan.recoveries ≤ 8

-- each number of a plan of `resp` is in its range
pub record IsRespPlan (plan : RespPlan) : Type 0 where
  pub f : (1 ≤ plan.f) × (plan.f ≤ 5)
  pub every : plan.every ≤ 1000000

-- a task with a plan has one in range
abbrev pub fits : Task → Type 0
fits (Play report) = ⊤
fits (Make plan output) = IsPlan plan
fits (Live plan) = IsLivePlan plan
fits Check = ⊤
fits Manage = ⊤
fits (Resp plan) = IsRespPlan plan
