-- Runs of one step more.
use Rattle.std.proofs.Common.{◌≡◌, ◌&&◌, if◌then◌else◌, Bool, true, false, not, Option, Some, None, ◌≤◌, arith, ℕ, List, [], ◌∷◌, ◌++◌, Result, Ok, Err, OnOk, OnErr, IfOk, refl, ap, sym, ◌∙◌, subst}
use Rattle.std.proofs.lemmas.Bool.Decides.{nat_tests}
use Rattle.curp_base.proofs.Lists.{Each-append}
use Rattle.curp_script.specs.Headers.{bad_field, is_within}
use Rattle.curp_script.specs.declared.error.FieldName.TheVariants as field
use Rattle.curp_msg.specs.declared.script.Header.{Header}
use Rattle.curp_msg.specs.declared.script.Step.{Step}
use Rattle.curp_msg.specs.Script.{IsHeader, IsRun, IsStep}
use Rattle.curp_law_linear.specs.Line.{StandsIn}
use Rattle.curp_law_linear.proofs.Gives.{stands_self}
use Rattle.curp_law_linear.specs.Grows.{completed_in_order}
use Rattle.curp_script.specs.declared.error.FieldName.{FieldName}
use Rattle.curp_model.specs.World.{Stepped, World, step, run, opening, result_of, world}
use Rattle.curp_msg.specs.declared.outcome.Outcome.{Outcome}
use Rattle.curp_msg.specs.declared.outcome.StepResult.{StepResult}
use Rattle.curp_cluster.specs.Given.{MakesStep}
use Rattle.curp_world.specs.Reached.{Reached}

pub run_more : (w : World) (ss : List Step) (s : Step) → run w (ss ++ s ∷ []) ≡ (step (run w ss) s).world
run_more w [] s = refl
run_more w (x ∷ ss) s = run_more (step w x).world ss s

-- a step leads on
pub reached_next : (w : World) (s : Step) → IsStep s → Reached w → Reached (step w s).world
reached_next w s named r = record {
  header = r.header;
  steps = r.steps ++ s ∷ [];
  run = record {
    header = r.run.header;
    steps_are = Each-append IsStep r.steps (s ∷ []) r.run.steps_are (named, tt);
  };
  is = run_more (opening r.header) r.steps s ∙ ap (λ (v : World). (step v s).world) r.is;
}

-- a step that may have failed for memory leads on, or leaves the world as it is
pub reached_after : {E : Type 0} (result : Result Outcome E) (w v : World) (s : Step) → IsStep s → Reached w
    → MakesStep w v result (step w s) → Reached v
reached_after (Ok o) w v s named r steps = subst Reached (sym steps.0) (reached_next w s named r)
reached_after (Err e) w v s named r same = subst Reached (sym same) r

-- what is completed stands after it as before
pub grows_after : {E : Type 0} (result : Result Outcome E) (w v : World) (s : Step) → IsStep s → Reached w
    → ((h : Header) (steps : List Step) → IsRun h steps → (s : Step) → IsStep s → StandsIn (completed_in_order (world h steps)) (completed_in_order (step (world h steps) s).world))
    → MakesStep w v result (step w s) → StandsIn (completed_in_order w) (completed_in_order v)
grows_after (Ok o) w v s named r grows steps =
    rw steps.0 (subst (λ (x : World). StandsIn (completed_in_order x) (completed_in_order (step x s).world)) r.is (grows r.header r.steps r.run s named))
grows_after (Err e) w v s named r grows same = rw same (stands_self (completed_in_order w))

-- the world after it, and its outcome
pub state_after : {E : Type 0} (result : Result Outcome E) (w v : World) (s : Stepped) → MakesStep w v result s → OnOk result (v ≡ s.world)
state_after (Ok o) w v s steps = steps.0
state_after (Err e) w v s same = tt

pub outcome_after : {E : Type 0} (result : Result Outcome E) (w v : World) (s : Stepped) → MakesStep w v result s
    → IfOk result (λ o. o ≡ s.outcome)
outcome_after (Ok o) w v s steps = steps.1
outcome_after (Err e) w v s same = tt

pub same_after : {E : Type 0} (result : Result Outcome E) (w v : World) (s : Stepped) → MakesStep w v result s → OnErr result (v ≡ w)
same_after (Ok o) w v s steps = tt
same_after (Err e) w v s same = same

-- ---- headers

none_behind : (bad : Bool) (name : FieldName) (rest : Option FieldName) → (if bad then Some name else rest) ≡ None → (bad ≡ false) × (rest ≡ None)
none_behind true name rest e = absurd cc
none_behind false name rest e = (refl, e)

within : (low high n : ℕ) → not (is_within low high n) ≡ false → (low ≤ n) × (n ≤ high)
within low high n e = (grind (arith, nat_tests), grind (arith, nat_tests))

-- a header without a bad field has its numbers in their ranges
pub in_order : (h : Header) → bad_field h ≡ None → IsHeader h
in_order h none =
    let clients = none_behind _ field.Clients _ none in
    let f = none_behind _ field.F _ clients.1 in
    let parts = none_behind _ field.Parts _ f.1 in
    let sets = none_behind _ field.Sets _ parts.1 in
    let ways = none_behind _ field.Ways _ sets.1 in
    record {
      clients = within 1 64 h.clients clients.0;
      f = within 1 5 h.f f.0;
      parts = within 1 16 h.parts parts.0;
      sets = within 1 1024 h.sets sets.0;
      ways = within 1 16 h.ways ways.0;
    }

-- no step leads to the opening
pub reached_opening : (h : Header) (w : World) → IsHeader h → w ≡ opening h → Reached w
reached_opening h w ordered is = record {
  header = h;
  steps = [];
  run = record { header = ordered; steps_are = tt };
  is = sym is;
}

-- ---- what comes of a step, by its cause

pub by_cause : {E : Type 0} (r : Result Outcome E) (w : World) (s : Step) (P : StepResult → Type 0) → (step w s).outcome.result ≡ result_of w s
    → IfOk r (λ (o : Outcome). o ≡ (step w s).outcome) → P (result_of w s) → IfOk r (λ (o : Outcome). P o.result)
by_cause (Ok o) w s P is same holds = subst P (sym (ap (λ (x : Outcome). x.result) same ∙ is)) holds
by_cause (Err e) w s P is same holds = tt
