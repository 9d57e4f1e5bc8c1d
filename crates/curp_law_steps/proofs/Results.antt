-- The causes of a step's result, and a world that is full.
use Rattle.std.proofs.Common.{◌≡◌, ◌≢◌, ◌↔◌, ◌⊎◌, inl, inr, ℕ, ◌<◌, ◌==◌, ltb, not, Bool, true, false, [], ◌∷◌, Option, Some, None, is_some, refl, ap, sym, ◌∙◌, arith}
use Rattle.std.proofs.lemmas.Bool.Decides.{nat_tests}
use Rattle.curp_base.specs.Cases.{first_case, only_if}
use Rattle.curp_base.specs.Words.{numbered}
use Rattle.curp_msg.specs.declared.message.Message.{Message}
use Rattle.curp_msg.specs.declared.outcome.StepResult.{StepResult}
use Rattle.curp_msg.specs.declared.outcome.StepResult.TheVariants.{Done, NoMessage, NoNode, Manager, Gone, Full, Refused}
use Rattle.curp_msg.specs.declared.script.Step.{Step}
use Rattle.curp_msg.specs.declared.script.Step.TheVariants as steps
use Rattle.curp_model.specs.World.{World, deed_of, delivery, is_lost, is_too_much, messages, names_nobody, names_stopped, refusal, result_of, step, stops_manager, weight}
use Rattle.curp_msg.specs.Limits.{weight_limit}
use Rattle.curp_law_steps.proofs.Moving.{its_result, undone}
use Rattle.curp_model.specs.Causes.{IsLight, IsRunning, IsSent, IsThere, SparesManager}
use Rattle.curp_law_steps.specs.Named.{StopsNone}

-- the first of six causes, in this order
abbrev first_of_six : (lost nobody manager stopped much refused : Bool) → ℕ → ℕ → StepResult
first_of_six lost nobody manager stopped much refused weight number = first_case (
    only_if lost NoMessage
    ∷ only_if nobody NoNode
    ∷ only_if manager Manager
    ∷ only_if stopped Gone
    ∷ only_if much (Full weight)
    ∷ only_if refused (Refused number)
    ∷ []) Done

-- each result exactly where its cause holds, and none of the earlier ones
record Causes (lost nobody manager stopped much refused : Bool) (weight number : ℕ) (r : StepResult) : Type 0 where
  no_message : (r ≡ NoMessage) ↔ (lost ≡ true)
  no_node : (r ≡ NoNode) ↔ ((lost ≡ false) × (nobody ≡ true))
  its_manager : (r ≡ Manager) ↔ ((lost ≡ false) × (nobody ≡ false) × (manager ≡ true))
  gone : (r ≡ Gone) ↔ ((lost ≡ false) × (nobody ≡ false) × (manager ≡ false) × (stopped ≡ true))
  full : (w : ℕ) → (r ≡ Full w) ↔ ((lost ≡ false) × (nobody ≡ false) × (manager ≡ false) × (stopped ≡ false) × (much ≡ true) × (w ≡ weight))
  its_refusal : (n : ℕ) → (r ≡ Refused n) ↔ ((lost ≡ false) × (nobody ≡ false) × (manager ≡ false) × (stopped ≡ false) × (much ≡ false) × (refused ≡ true) × (n ≡ number))
  done : (r ≡ Done) ↔ ((lost ≡ false) × (nobody ≡ false) × (manager ≡ false) × (stopped ≡ false) × (much ≡ false) × (refused ≡ false))

causes : (lost nobody manager stopped much refused : Bool) (weight number : ℕ) → Causes lost nobody manager stopped much refused weight number (first_of_six lost nobody manager stopped much refused weight number)
causes true nobody manager stopped much refused weight number = record {
  no_message = (λ e. refl, λ e. refl);
  no_node = (λ e. absurd cc, λ e. absurd cc);
  its_manager = (λ e. absurd cc, λ e. absurd cc);
  gone = (λ e. absurd cc, λ e. absurd cc);
  full = λ w. (λ e. absurd cc, λ e. absurd cc);
  its_refusal = λ n. (λ e. absurd cc, λ e. absurd cc);
  done = (λ e. absurd cc, λ e. absurd cc);
}
causes false true manager stopped much refused weight number = record {
  no_message = (λ e. absurd cc, λ e. absurd cc);
  no_node = (λ e. (refl, refl), λ e. refl);
  its_manager = (λ e. absurd cc, λ e. absurd cc);
  gone = (λ e. absurd cc, λ e. absurd cc);
  full = λ w. (λ e. absurd cc, λ e. absurd cc);
  its_refusal = λ n. (λ e. absurd cc, λ e. absurd cc);
  done = (λ e. absurd cc, λ e. absurd cc);
}
causes false false true stopped much refused weight number = record {
  no_message = (λ e. absurd cc, λ e. absurd cc);
  no_node = (λ e. absurd cc, λ e. absurd cc);
  its_manager = (λ e. (refl, refl, refl), λ e. refl);
  gone = (λ e. absurd cc, λ e. absurd cc);
  full = λ w. (λ e. absurd cc, λ e. absurd cc);
  its_refusal = λ n. (λ e. absurd cc, λ e. absurd cc);
  done = (λ e. absurd cc, λ e. absurd cc);
}
causes false false false true much refused weight number = record {
  no_message = (λ e. absurd cc, λ e. absurd cc);
  no_node = (λ e. absurd cc, λ e. absurd cc);
  its_manager = (λ e. absurd cc, λ e. absurd cc);
  gone = (λ e. (refl, refl, refl, refl), λ e. refl);
  full = λ w. (λ e. absurd cc, λ e. absurd cc);
  its_refusal = λ n. (λ e. absurd cc, λ e. absurd cc);
  done = (λ e. absurd cc, λ e. absurd cc);
}
causes false false false false true refused weight number = record {
  no_message = (λ e. absurd cc, λ e. absurd cc);
  no_node = (λ e. absurd cc, λ e. absurd cc);
  its_manager = (λ e. absurd cc, λ e. absurd cc);
  gone = (λ e. absurd cc, λ e. absurd cc);
  full = λ w. (λ e. (refl, refl, refl, refl, refl, cc), λ (a, b, c, d, m, e). cc);
  its_refusal = λ n. (λ e. absurd cc, λ e. absurd cc);
  done = (λ e. absurd cc, λ e. absurd cc);
}
causes false false false false false true weight number = record {
  no_message = (λ e. absurd cc, λ e. absurd cc);
  no_node = (λ e. absurd cc, λ e. absurd cc);
  its_manager = (λ e. absurd cc, λ e. absurd cc);
  gone = (λ e. absurd cc, λ e. absurd cc);
  full = λ w. (λ e. absurd cc, λ e. absurd cc);
  its_refusal = λ n. (λ e. (refl, refl, refl, refl, refl, refl, cc), λ (a, b, c, d, m, x, e). cc);
  done = (λ e. absurd cc, λ e. absurd cc);
}
causes false false false false false false weight number = record {
  no_message = (λ e. absurd cc, λ e. absurd cc);
  no_node = (λ e. absurd cc, λ e. absurd cc);
  its_manager = (λ e. absurd cc, λ e. absurd cc);
  gone = (λ e. absurd cc, λ e. absurd cc);
  full = λ w. (λ e. absurd cc, λ e. absurd cc);
  its_refusal = λ n. (λ e. absurd cc, λ e. absurd cc);
  done = (λ e. (refl, refl, refl, refl, refl, refl), λ e. refl);
}

module _ (w : World) (s : Step) where
  of_step : Causes (is_lost w s) (names_nobody w s) (stops_manager s) (names_stopped w s) (is_too_much w (deed_of w s)) (not (refusal w s == 0)) (weight w) (refusal w s) (result_of w s)
  of_step = causes (is_lost w s) (names_nobody w s) (stops_manager s) (names_stopped w s) (is_too_much w (deed_of w s)) (not (refusal w s == 0)) (weight w) (refusal w s)

  pub no_message : (result_of w s ≡ NoMessage) ↔ (is_lost w s ≡ true)
  no_message = of_step.no_message

  pub no_node : (result_of w s ≡ NoNode) ↔ (IsSent w s × (names_nobody w s ≡ true))
  no_node = of_step.no_node

  pub manager : (result_of w s ≡ Manager) ↔ (IsThere w s × (stops_manager s ≡ true))
  manager = (
    λ e. let c = of_step.its_manager.0 e in (record { sent = c.0; named = c.1 }, c.2),
    λ c. of_step.its_manager.1 (c.0.sent, c.0.named, c.1),
  )

  pub gone : (result_of w s ≡ Gone) ↔ (SparesManager w s × (names_stopped w s ≡ true))
  gone = (
    λ e. let c = of_step.gone.0 e in (record { there = record { sent = c.0; named = c.1 }; other = c.2 }, c.3),
    λ c. of_step.gone.1 (c.0.there.sent, c.0.there.named, c.0.other, c.1),
  )

  running : (IsRunning w s) ↔ ((is_lost w s ≡ false) × (names_nobody w s ≡ false) × (stops_manager s ≡ false) × (names_stopped w s ≡ false))
  running = (
    λ r. (r.spares.there.sent, r.spares.there.named, r.spares.other, r.runs),
    λ c. record { spares = record { there = record { sent = c.0; named = c.1 }; other = c.2 }; runs = c.3 },
  )

  pub full : (much : ℕ) → (result_of w s ≡ Full much) ↔ (IsRunning w s × (is_too_much w (deed_of w s) ≡ true) × (much ≡ weight w))
  full much = (
    λ e. let c = (of_step.full much).0 e in (running.1 (c.0, c.1, c.2, c.3), c.4, c.5),
    λ c. let r = running.0 c.0 in (of_step.full much).1 (r.0, r.1, r.2, r.3, c.1, c.2),
  )

  pub refused : (number : ℕ) → (result_of w s ≡ Refused number) ↔ (IsLight w s × (refusal w s ≢ 0) × (number ≡ refusal w s))
  refused number = (
    λ e. let c = (of_step.its_refusal number).0 e in
        (record { running = running.1 (c.0, c.1, c.2, c.3); light = c.4 }, λ z. absurd (grind (arith, nat_tests, c.5)), c.6),
    λ c. let r = running.0 c.0.running in (of_step.its_refusal number).1 (r.0, r.1, r.2, r.3, c.0.light, nonzero (refusal w s) c.1, c.2),
  )
    where
      nonzero : (n : ℕ) → n ≢ 0 → not (n == 0) ≡ true
      nonzero n ne = grind (arith, nat_tests)

  pub done : (result_of w s ≡ Done) ↔ (IsLight w s × (refusal w s ≡ 0))
  done = (
    λ e. let c = of_step.done.0 e in
        (record { running = running.1 (c.0, c.1, c.2, c.3); light = c.4 }, zero_of (refusal w s) c.5),
    λ c. let r = running.0 c.0.running in of_step.done.1 (r.0, r.1, r.2, r.3, c.0.light, is_zero (refusal w s) c.1),
  )
    where
      zero_of : (n : ℕ) → not (n == 0) ≡ false → n ≡ 0
      zero_of n e = grind (arith, nat_tests)

      is_zero : (n : ℕ) → n ≡ 0 → not (n == 0) ≡ false
      is_zero n e = grind (arith, nat_tests)

  pub result : (step w s).outcome.result ≡ result_of w s
  unfolding step
  result = its_result w (deed_of w s) (result_of w s)

  pub unchanged : (step w s).outcome.result ≢ Done → (step w s).world ≡ w
  unfolding step
  unchanged ne = undone w (deed_of w s) (result_of w s) ne

-- ---- a world that is full

module _ (w : World) (heavy : weight_limit < weight w) where
  delivered : (o : Option Message) → (not (is_some o) ≡ true) ⊎ (is_too_much w (delivery o) ≡ true)
  delivered None = inl refl
  delivered (Some m) = inr (grind (arith, nat_tests, heavy))

  too_much : ltb weight_limit (weight w) ≡ true
  too_much = grind (arith, nat_tests, heavy)

  lost_or_too_much : (s : Step) → StopsNone s → (is_lost w s ≡ true) ⊎ (is_too_much w (deed_of w s) ≡ true)
  lost_or_too_much (steps.Deliver number) none = delivered (numbered (messages w) number)
  lost_or_too_much (steps.Stop node) none = absurd (none node refl)
  lost_or_too_much (steps.Invoke n command) none = inr too_much
  lost_or_too_much (steps.Retry n seq) none = inr too_much
  lost_or_too_much (steps.Fetch n) none = inr too_much
  lost_or_too_much (steps.Sync n) none = inr too_much
  lost_or_too_much (steps.Collect n) none = inr too_much
  lost_or_too_much (steps.Recover part backup witness) none = inr too_much
  lost_or_too_much (steps.Replace keeper part place) none = inr too_much
  lost_or_too_much (steps.Migrate lo hi to) none = inr too_much
  lost_or_too_much steps.Nudge none = inr too_much
  lost_or_too_much (steps.Expire n) none = inr too_much

  -- a step that would be made weighs too much, or delivers nothing
  not_done : (s : Step) → StopsNone s → result_of w s ≢ Done
  not_done s none e =
      let light = (done w s).0 e in
      elim (lost_or_too_much s none) [
        | inl lost ↦ absurd (cc (lost, light.0.running.spares.there.sent))
        | inr much ↦ absurd (cc (much, light.0.light))
      ]

  not_refused : (s : Step) → StopsNone s → (number : ℕ) → result_of w s ≢ Refused number
  not_refused s none number e =
      let light = (refused w s number).0 e in
      elim (lost_or_too_much s none) [
        | inl lost ↦ absurd (cc (lost, light.0.running.spares.there.sent))
        | inr much ↦ absurd (cc (much, light.0.light))
      ]

  no_manager : (s : Step) → StopsNone s → stops_manager s ≡ true → ⊥
  no_manager (steps.Stop node) none e = none node refl
  no_manager s none e = absurd cc

  pub world_stands : (s : Step) → StopsNone s → (step w s).world ≡ w
  world_stands s none = unchanged w s (λ e. not_done s none (sym (result w s) ∙ e))

  pub is_full : (s : Step) → StopsNone s → (step w s).outcome.result ≢ NoMessage → (step w s).outcome.result ≢ NoNode → (step w s).outcome.result ≢ Gone → (step w s).outcome.result ≡ Full (weight w)
  is_full s none message node runs = go (result_of w s) refl (result w s)
    where
      go : (r : StepResult) → result_of w s ≡ r → (step w s).outcome.result ≡ result_of w s → (step w s).outcome.result ≡ Full (weight w)
      go NoMessage e is = absurd (message (is ∙ e))
      go NoNode e is = absurd (node (is ∙ e))
      go Gone e is = absurd (runs (is ∙ e))
      go Manager e is = absurd (no_manager s none ((manager w s).0 e).1)
      go (Full much) e is = is ∙ e ∙ ap Full ((full w s much).0 e).2
      go (Refused number) e is = absurd (not_refused s none number e)
      go Done e is = absurd (not_done s none e)
