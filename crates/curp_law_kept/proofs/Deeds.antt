-- A message that a step gives a node was sent to that node, and what is done isn't refused.
use Rattle.std.proofs.Common.{◌≡◌, ℕ, ◌==◌, Bool, true, false, not, [], ◌∷◌, refl, arith, Option, Some, None}
use Rattle.std.proofs.lemmas.Bool.Decides.{nat_tests}
use Rattle.curp_base.specs.Cases.{first_case, only_if}
use Rattle.curp_base.specs.Words.{numbered}
use Rattle.curp_msg.specs.declared.message.Message.{Message}
use Rattle.curp_msg.specs.declared.outcome.StepResult.TheVariants as result
use Rattle.curp_msg.specs.declared.script.Step.{Step}
use Rattle.curp_msg.specs.declared.script.Step.TheVariants as steps
use Rattle.curp_model.specs.World.{World, deed_of, delivery, is_lost, is_too_much, messages, names_nobody, names_stopped, refusal, result_of, stops_manager, weight}
use Rattle.curp_law_kept.specs.Deeds.{IsMeant}
use Rattle.curp_base.proofs.Numbered.{place}

module _ (w : World) where
  delivery_meant : (number : _) (o : Option Message) → numbered (messages w) number ≡ o → IsMeant w (delivery o)
  delivery_meant number None is = tt
  delivery_meant number (Some m) is = let p = place (messages w) number m is in (refl, record { place = p.0; stands = p.2 })

  -- what a step gives a node was meant for it
  pub deed_meant : (s : Step) → IsMeant w (deed_of w s)
  deed_meant (steps.Deliver number) = delivery_meant number (numbered (messages w) number) refl
  deed_meant (steps.Invoke n command) = tt
  deed_meant (steps.Retry n seq) = tt
  deed_meant (steps.Fetch n) = tt
  deed_meant (steps.Sync n) = tt
  deed_meant (steps.Collect n) = tt
  deed_meant (steps.Recover part backup witness) = tt
  deed_meant (steps.Replace keeper part place) = tt
  deed_meant (steps.Migrate lo hi to) = tt
  deed_meant steps.Nudge = tt
  deed_meant (steps.Expire n) = tt
  deed_meant (steps.Stop node) = tt

-- ---- what is done isn't refused

not_full : (weighs : ℕ) → result.Full weighs ≡ result.Done → ⊥
not_full weighs e = cc

not_refused : (number : ℕ) → result.Refused number ≡ result.Done → ⊥
not_refused number e = cc

unrefused : (lost nobody manager stopped much : Bool) (weighs number : ℕ)
    → first_case (only_if lost result.NoMessage ∷ only_if nobody result.NoNode ∷ only_if manager result.Manager ∷ only_if stopped result.Gone ∷ only_if much (result.Full weighs) ∷ only_if (not (number == 0)) (result.Refused number) ∷ []) result.Done ≡ result.Done
    → number ≡ 0
unrefused true nobody manager stopped much weighs number e = absurd cc
unrefused false true manager stopped much weighs number e = absurd cc
unrefused false false true stopped much weighs number e = absurd cc
unrefused false false false true much weighs number e = absurd cc
unrefused false false false false true weighs number e = absurd (not_full weighs e)
unrefused false false false false false weighs number e = go (number == 0) refl e
  where
    go : (b : Bool) → (number == 0) ≡ b → first_case (only_if (not b) (result.Refused number) ∷ []) result.Done ≡ result.Done → number ≡ 0
    go true is e = grind (arith, nat_tests)
    go false is e = absurd (not_refused number e)

-- a step that is done isn't refused
pub done_taken : (w : World) (s : Step) → result_of w s ≡ result.Done → refusal w s ≡ 0
done_taken w s is = unrefused (is_lost w s) (names_nobody w s) (stops_manager s) (names_stopped w s) (is_too_much w (deed_of w s)) (weight w) (refusal w s) is
