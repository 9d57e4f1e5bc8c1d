-- Where migrations go, and what stands of them, in every run.
use Rattle.std.proofs.Common.{List, refl}
use Rattle.curp_msg.specs.declared.script.Header.{Header}
use Rattle.curp_msg.specs.declared.script.Step.{Step}
use Rattle.curp_model.specs.World.{World, opening, step, world}
use Rattle.curp_msg.specs.Script.{IsRun, IsStep}
use Rattle.curp_law_kept.proofs.Gives.{follows_step, along, known_step}
use Rattle.curp_facts.specs.Known.{Known}
use Rattle.curp_facts.specs.Predecessors.{Predecessors}
use Rattle.curp_law_runs.proofs.Adopted.{chain_opening}
use Rattle.curp_law_runs.proofs.Chained.{chain_step}
use Rattle.curp_facts.specs.Before.{GivesBefore, Routed}
use Rattle.curp_facts.specs.Configs.{Configs}
use Rattle.curp_facts.specs.Migrated.{Migrated}
use Rattle.curp_facts.specs.Routes.{Routes}
use Rattle.curp_law_runs.proofs.Before.{opening_before}
use Rattle.curp_law_runs.proofs.Configs.{opening_configs, step_configs}
use Rattle.curp_law_runs.proofs.Kept.{routed_migrated, step_before, step_routes}
use Rattle.curp_law_runs.proofs.Steps.{opening_routes}

-- what is kept of migrations beside what nodes and messages keep
pub record Moving (w : World) : Type 0 where
  pub chain : Predecessors w
  pub routes : Routes w
  pub before : GivesBefore w
  pub configs : Configs w

abbrev pub routed : (w : World) → Known w → Moving w → Routed w
routed w known m = record { names = known.names; inv = known.inv; chain = m.chain; routes = m.routes }

pub moving_step : (w : World) → Known w → (x : Step) → IsStep x → Moving w → Moving (step w x).world
moving_step w known x its m =
    let s = follows_step w known x its in
    let chain = chain_step w known x its m.chain in
    let routes = step_routes known m.routes x s in
    let later = known_step w known x in
    record {
      chain = chain;
      routes = routes;
      before = step_before known m.before (routed w known m) x s (record { names = later.names; inv = later.inv; chain = chain; routes = routes });
      configs = step_configs known m.routes m.configs x its s;
    }

pub moving_opening : (h : Header) → Moving (opening h)
unfolding opening
moving_opening h = record { chain = chain_opening (opening h) refl; routes = opening_routes h; before = opening_before h; configs = opening_configs h }

-- all of it holds in every run
pub moving_all : (h : Header) (xs : List Step) → IsRun h xs → Known (world h xs) × Moving (world h xs)
moving_all h xs is = along Moving moving_step h xs is (moving_opening h)

-- and what follows of it
pub migrated_now : (w : World) → Known w → Moving w → Migrated w
migrated_now w known m = routed_migrated w (routed w known m) m.before
