-- The ranges of plans.
use Rattle.std.proofs.Common.{◌≡◌, ◌≤◌, ◌&&◌, ◌^◌, ◌-◌, ℕ, Bool, cond, true, false, refl, arith, List, Option, Some, None, leb, leb-true, codes, subst}
use Rattle.std.specs.Prelude.{option_and_then, option_map, ⊤}
use Rattle.clap.proofs.WalkLemmas.{both}
use Rattle.clap.specs.Walk.{Text}
use Rattle.curp_msg.specs.Limits.{step_limit}
use Rattle.curp_msg.specs.declared.script.Protocol.{Protocol}
use Rattle.curp_words.specs.Numbers.{number_of, number_within, within}
use Rattle.curp_words.specs.Plan.{IsLivePlan, IsPlan, IsRespPlan, fits}
use Rattle.curp_words.specs.Words.{GivenOptions, Options, given_by, is_text, live_in, live_options, live_task_by, live_plan_by, make_in, make_options, make_task_by, task_with, output_by, plan_by, resp_in, resp_options, resp_task_by, resp_output_by, resp_plan_by, value_of}
use Rattle.curp_words.specs.declared.task.LivePlan.{LivePlan}
use Rattle.curp_words.specs.declared.task.MakePlan.{MakePlan}
use Rattle.curp_words.specs.declared.task.Task.{Task}
use Rattle.curp_words.specs.declared.task.Task.TheVariants.{Live, Make, Resp}
use Rattle.curp_words.specs.declared.task.Output.{Output}
use Rattle.curp_words.specs.declared.task.RespOutput.{RespOutput}
use Rattle.curp_words.specs.declared.task.RespPlan.{RespPlan}

-- what an option holds is so, where it holds something
abbrev IfSomeIs : {X : Type 0} → Option X → (X → Type 0) → Type 0
IfSomeIs None P = ⊤
IfSomeIs (Some x) P = P x

-- in range, both ends with it
abbrev Within : ℕ → ℕ → ℕ → Type 0
Within least most number = (least ≤ number) × (number ≤ most)

in_range : (least most number : ℕ) → IfSomeIs (within least most number) (Within least most)
in_range least most number = go (leb least number && leb number most) refl
  where
    go : (b : Bool) → (leb least number && leb number most) ≡ b → IfSomeIs (cond b (Some number) None) (Within least most)
    go true e = let parts = both (leb least number) (leb number most) e in (leb-true least number parts.0, leb-true number most parts.1)
    go false e = tt

number_in_range : (least most default : ℕ) (text : Option Text) → least ≤ default → default ≤ most
    → IfSomeIs (number_within least most default text) (Within least most)
number_in_range least most default None low high = (low, high)
number_in_range least most default (Some text) low high = go (number_of text)
  where
    go : (o : Option ℕ) → IfSomeIs (option_and_then (within least most) o) (Within least most)
    go None = tt
    go (Some n) = in_range least most n

-- the plan of eight numbers and a protocol, if there is each
abbrev plan_from : {Plan : Type 0} → (ℕ → ℕ → ℕ → ℕ → ℕ → ℕ → Protocol → ℕ → ℕ → Plan) → (a b c d e f : Option ℕ) → Option Protocol → (g h : Option ℕ) → Option Plan
plan_from plan a b c d e f p g h =
    option_and_then (λ number. option_and_then (λ replicas. option_and_then (λ sets. option_and_then (λ ways. option_and_then (λ clients.
    option_and_then (λ parts. option_and_then (λ protocol. option_and_then (λ work. option_and_then (λ recoveries.
    Some (plan number replicas sets ways clients parts protocol work recoveries))
    h) g) p) f) e) d) c) b) a

-- it is so where each number is so
from_fits : {Plan : Type 0} (plan : ℕ → ℕ → ℕ → ℕ → ℕ → ℕ → Protocol → ℕ → ℕ → Plan) (P : Plan → Type 0) (A B C D E F G H : ℕ → Type 0)
    → ((a b c d e f : ℕ) (p : Protocol) (g h : ℕ) → A a → B b → C c → D d → E e → F f → G g → H h → P (plan a b c d e f p g h))
    → (a b c d e f : Option ℕ) (p : Option Protocol) (g h : Option ℕ)
    → IfSomeIs a A → IfSomeIs b B → IfSomeIs c C → IfSomeIs d D → IfSomeIs e E → IfSomeIs f F → IfSomeIs g G → IfSomeIs h H
    → IfSomeIs (plan_from plan a b c d e f p g h) P
from_fits plan P A B C D E F G H fit None b c d e f p g h _ _ _ _ _ _ _ _ = tt
from_fits plan P A B C D E F G H fit (Some a) None c d e f p g h _ _ _ _ _ _ _ _ = tt
from_fits plan P A B C D E F G H fit (Some a) (Some b) None d e f p g h _ _ _ _ _ _ _ _ = tt
from_fits plan P A B C D E F G H fit (Some a) (Some b) (Some c) None e f p g h _ _ _ _ _ _ _ _ = tt
from_fits plan P A B C D E F G H fit (Some a) (Some b) (Some c) (Some d) None f p g h _ _ _ _ _ _ _ _ = tt
from_fits plan P A B C D E F G H fit (Some a) (Some b) (Some c) (Some d) (Some e) None p g h _ _ _ _ _ _ _ _ = tt
from_fits plan P A B C D E F G H fit (Some a) (Some b) (Some c) (Some d) (Some e) (Some f) None g h _ _ _ _ _ _ _ _ = tt
from_fits plan P A B C D E F G H fit (Some a) (Some b) (Some c) (Some d) (Some e) (Some f) (Some p) None h _ _ _ _ _ _ _ _ = tt
from_fits plan P A B C D E F G H fit (Some a) (Some b) (Some c) (Some d) (Some e) (Some f) (Some p) (Some g) None _ _ _ _ _ _ _ _ = tt
from_fits plan P A B C D E F G H fit (Some a) (Some b) (Some c) (Some d) (Some e) (Some f) (Some p) (Some g) (Some h) in_a in_b in_c in_d in_e in_f in_g in_h =
    fit a b c d e f p g h in_a in_b in_c in_d in_e in_f in_g in_h

plan_fits : (value : Text → Option Text) → IfSomeIs (plan_by value) IsPlan
plan_fits value =
    from_fits (λ number f sets ways clients parts protocol steps recoveries. record {
      number = number;
      f = f;
      sets = sets;
      ways = ways;
      clients = clients;
      parts = parts;
      protocol = protocol;
      steps = steps;
      recoveries = recoveries;
    }) IsPlan
    (Within 0 (2 ^ 64 - 1)) (Within 1 5) (Within 1 1024) (Within 1 16) (Within 1 64) (Within 1 16) (Within 1 step_limit) (Within 0 64)
    (λ _ _ _ _ _ _ _ _ recoveries in_number in_f in_sets in_ways in_clients in_parts in_steps in_recoveries. record {
      number = in_number.1;
      header = record { clients = in_clients; f = in_f; parts = in_parts; sets = in_sets; ways = in_ways };
      steps = in_steps;
      recoveries = in_recoveries.1;
    })
    _ _ _ _ _ _ _ _ _
    (number_in_range 0 (2 ^ 64 - 1) 1 (value (codes "number")) (omega arith) (omega arith))
    (number_in_range 1 5 3 (value (codes "f")) (omega arith) (omega arith))
    (number_in_range 1 1024 64 (value (codes "sets")) (omega arith) (omega arith))
    (number_in_range 1 16 4 (value (codes "ways")) (omega arith) (omega arith))
    (number_in_range 1 64 8 (value (codes "clients")) (omega arith) (omega arith))
    (number_in_range 1 16 2 (value (codes "parts")) (omega arith) (omega arith))
    (number_in_range 1 step_limit 4000 (value (codes "steps")) (omega arith) (omega arith))
    (number_in_range 0 64 3 (value (codes "recoveries")) (omega arith) (omega arith))

live_plan_fits : (value : Text → Option Text) → IfSomeIs (live_plan_by value) IsLivePlan
live_plan_fits value =
    from_fits (λ number f sets ways clients parts protocol commands recoveries. record {
      number = number;
      f = f;
      sets = sets;
      ways = ways;
      clients = clients;
      parts = parts;
      protocol = protocol;
      commands = commands;
      recoveries = recoveries;
    }) IsLivePlan
    (Within 0 (2 ^ 64 - 1)) (Within 1 5) (Within 1 1024) (Within 1 16) (Within 1 16) (Within 1 16) (Within 1 100) (Within 0 8)
    (λ _ _ _ _ _ _ _ _ recoveries in_number in_f in_sets in_ways in_clients in_parts in_commands in_recoveries. record {
      number = in_number.1;
      header = record {
        clients = (in_clients.0, omega (arith, in_clients.1));
        f = in_f;
        parts = in_parts;
        sets = in_sets;
        ways = in_ways;
      };
      clients = in_clients.1;
      commands = in_commands;
      recoveries = in_recoveries.1;
    })
    _ _ _ _ _ _ _ _ _
    (number_in_range 0 (2 ^ 64 - 1) 1 (value (codes "number")) (omega arith) (omega arith))
    (number_in_range 1 5 3 (value (codes "f")) (omega arith) (omega arith))
    (number_in_range 1 1024 64 (value (codes "sets")) (omega arith) (omega arith))
    (number_in_range 1 16 4 (value (codes "ways")) (omega arith) (omega arith))
    (number_in_range 1 16 8 (value (codes "clients")) (omega arith) (omega arith))
    (number_in_range 1 16 2 (value (codes "parts")) (omega arith) (omega arith))
    (number_in_range 1 100 50 (value (codes "commands")) (omega arith) (omega arith))
    (number_in_range 0 8 3 (value (codes "recoveries")) (omega arith) (omega arith))

-- the plan of two numbers, if there is each
served_from : (output : RespOutput) (f every : Option ℕ) → IfSomeIs f (Within 1 5) → IfSomeIs every (Within 0 1000000)
    → IfSomeIs (option_and_then (λ n. option_and_then (λ m. Some (record { f = n; every = m; output = output })) every) f) IsRespPlan
served_from output None every in_f in_every = tt
served_from output (Some f) None in_f in_every = tt
served_from output (Some f) (Some every) in_f in_every = record { f = in_f; every = in_every.1 }

resp_plan_fits : (value : Text → Option Text) → IfSomeIs (resp_plan_by value) IsRespPlan
resp_plan_fits value =
    served_from (resp_output_by value) _ _ (number_in_range 1 5 3 (value (codes "f")) (omega arith) (omega arith))
    (number_in_range 0 1000000 0 (value (codes "every")) (omega arith) (omega arith))

made : (output : Output) (o : Option MakePlan) → IfSomeIs o IsPlan → IfSomeIs (option_map (λ plan. Make plan output) o) fits
made output None is = tt
made output (Some plan) is = is

live : (o : Option LivePlan) → IfSomeIs o IsLivePlan → IfSomeIs (option_map (λ plan. Live plan) o) fits
live None is = tt
live (Some plan) is = is

resp : (o : Option RespPlan) → IfSomeIs o IsRespPlan → IfSomeIs (option_map (λ plan. Resp plan) o) fits
resp None is = tt
resp (Some plan) is = is

if_so : (b : Bool) (o : Option Task) → IfSomeIs o fits → IfSomeIs (cond b o None) fits
if_so true o is = is
if_so false o is = tt

task_fits : (value : Text → Option Text) → IfSomeIs (make_task_by value) fits
task_fits value = if_so (is_text (codes "make") (value (codes "command"))) _ (made (output_by value) (plan_by value) (plan_fits value))

live_task_fits : (value : Text → Option Text) → IfSomeIs (live_task_by value) fits
live_task_fits value = if_so (is_text (codes "live") (value (codes "command"))) _ (live (live_plan_by value) (live_plan_fits value))

resp_task_fits : (value : Text → Option Text) → IfSomeIs (resp_task_by value) fits
resp_task_fits value = if_so (is_text (codes "resp") (value (codes "command"))) _ (resp (resp_plan_by value) (resp_plan_fits value))

with_fits : (options : Options) (task : (Text → Option Text) → Option Task) → ((value : Text → Option Text) → IfSomeIs (task value) fits)
    → (words : List Text) → IfSomeIs (task_with options task words) fits
with_fits options task fit words = go (given_by options words)
  where
    go : (o : Option GivenOptions) → IfSomeIs (option_and_then (λ given. task (value_of given)) o) fits
    go None = tt
    go (Some given) = fit (value_of given)

-- a task that the words ask for is in range
pub make_fits : (words : List Text) (task : Task) → make_in words ≡ Some task → fits task
make_fits words task e = subst (λ o. IfSomeIs o fits) e (with_fits make_options make_task_by task_fits words)

pub live_fits : (words : List Text) (task : Task) → live_in words ≡ Some task → fits task
live_fits words task e = subst (λ o. IfSomeIs o fits) e (with_fits live_options live_task_by live_task_fits words)

pub resp_fits : (words : List Text) (task : Task) → resp_in words ≡ Some task → fits task
resp_fits words task e = subst (λ o. IfSomeIs o fits) e (with_fits resp_options resp_task_by resp_task_fits words)
