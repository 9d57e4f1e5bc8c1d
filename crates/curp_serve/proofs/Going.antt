-- What steps leave: those before them stand, and no command is counted.
use Rattle.std.proofs.Common.{◌≡◌, ◌≢◌, ◌≤◌, ◌==◌, ℕ, zero, suc, ◌+◌, Bool, true, false, cond, [], ◌∷◌, length, Option, Some, None, refl, sym, ◌∙◌, arith}
use Rattle.curp_base.specs.Words.{IsPrefix}
use Rattle.curp_base.proofs.Lists.{prefix_length, prefix_push, prefix_self, prefix_trans}
use Rattle.curp_cmd.specs.Node.{master_node}
use Rattle.curp_msg.specs.declared.outcome.StepResult.{StepResult}
use Rattle.curp_msg.specs.declared.outcome.StepResult.TheVariants.{Full}
use Rattle.curp_msg.specs.declared.script.Step.{Step}
use Rattle.curp_msg.specs.declared.script.Step.TheVariants as steps
use Rattle.curp_model.specs.World.{Stepped, step}
use Rattle.curp_law_served.specs.Served.{Limit, Served, TooManySteps, after_all, and_then, delivers, if_turn, is_busy, makes, most_steps, newest, quiets, quiets_in, replaces_master, stepped, tidies, with_quieting}
use Rattle.curp_law_served.proofs.Gives.{length_push}

-- a state that others lead to
pub record GoesOn (s t : Served) : Type 0 where
  pub steps : IsPrefix s.steps t.steps
  pub commands : t.commands ≡ s.commands

goes_self : (s : Served) → GoesOn s s
goes_self s = record { steps = prefix_self s.steps; commands = refl }

goes_trans : {s t u : Served} → GoesOn s t → GoesOn t u → GoesOn s u
goes_trans one more = record { steps = prefix_trans one.steps more.steps; commands = more.commands ∙ one.commands }

-- what comes next goes on, or nothing comes
pub then_goes : (s t : Served) (next : Served → Served) → GoesOn s t → ((u : Served) → GoesOn u (next u)) → GoesOn s (and_then t next)
then_goes s t next one more = by t.stopped
  where
    by : (o : Option Limit) → GoesOn s (after_all o t next)
    by None = goes_trans one (more t)
    by (Some why) = one

-- ---- one step

stepped_goes : (made : Step) (s : Served) (k : Stepped) (r : StepResult) → GoesOn s (stepped s made k r)
stepped_goes made s k (Full weight) = record { steps = prefix_self s.steps; commands = refl }
stepped_goes made s k _ = record { steps = prefix_push s.steps (made ∷ []); commands = refl }

pub makes_goes : (made : Step) (s : Served) → GoesOn s (makes made s)
makes_goes made s = by (length s.steps == most_steps)
  where
    by : (b : Bool) → GoesOn s (cond b (record s { stopped = Some TooManySteps }) (stepped s made (step s.world made) (step s.world made).outcome.result))
    by true = record { steps = prefix_self s.steps; commands = refl }
    by false = stepped_goes made s (step s.world made) (step s.world made).outcome.result

-- a step more
pub record IsLonger (s t : Served) : Type 0 where
  pub room : length s.steps ≢ most_steps
  pub longer : length t.steps ≡ suc (length s.steps)
  pub delivered : t.delivered ≡ s.delivered

stepped_longer : (made : Step) (s : Served) (k : Stepped) (r : StepResult) → length s.steps ≢ most_steps
    → (stepped s made k r).stopped ≡ None → IsLonger s (stepped s made k r)
stepped_longer made s k (Full weight) room free = absurd cc
stepped_longer made s k _ room free = record { room = room; longer = length_push s.steps made; delivered = refl }

-- unless it has stopped
pub makes_longer : (made : Step) (s : Served) → (makes made s).stopped ≡ None → IsLonger s (makes made s)
makes_longer made s = by (length s.steps == most_steps) refl
  where
    by : (b : Bool) → (length s.steps == most_steps) ≡ b
        → let t = cond b (record s { stopped = Some TooManySteps }) (stepped s made (step s.world made) (step s.world made).outcome.result) in t.stopped ≡ None → IsLonger s t
    by true e free = absurd cc
    by false e free = stepped_longer made s (step s.world made) (step s.world made).outcome.result (λ is. other (length s.steps) e is) free
      where
        other : (n : ℕ) → (n == most_steps) ≡ false → n ≡ most_steps → ⊥
        other n e is = grind arith

-- ---- all steps

delivers_goes : (s : Served) → GoesOn s (delivers s)
delivers_goes s =
    then_goes s (makes (steps.Deliver (s.delivered + 1)) s) (λ k. record k { delivered = k.delivered + 1 })
    (makes_goes (steps.Deliver (s.delivered + 1)) s) (λ u. record { steps = prefix_self u.steps; commands = refl })

pub quiets_in_goes : (n : ℕ) (s : Served) → GoesOn s (quiets_in n s)
unfolding quiets_in
quiets_in_goes zero s = goes_self s
quiets_in_goes (suc n) s = by (is_busy s) (λ u. quiets_in_goes n u)
  where
    by : (b : Bool) → ((u : Served) → GoesOn u (quiets_in n u)) → GoesOn s (cond b (and_then (delivers s) (quiets_in n)) s)
    by true more = then_goes s (delivers s) (quiets_in n) (delivers_goes s) more
    by false more = goes_self s

pub quiets_goes : (s : Served) → GoesOn s (quiets s)
unfolding quiets
quiets_goes s = quiets_in_goes (most_steps + 1) s

pub quieting_goes : (made : Step) (s : Served) → GoesOn s (with_quieting made s)
quieting_goes made s = then_goes s (makes made s) quiets (makes_goes made s) quiets_goes

pub tidies_goes : (s : Served) → GoesOn s (tidies s)
tidies_goes s =
    then_goes s (with_quieting (steps.Sync (newest s)) s) (λ k. with_quieting (steps.Collect (newest k)) k)
    (quieting_goes (steps.Sync (newest s)) s) (λ u. quieting_goes (steps.Collect (newest u)) u)

pub replaces_goes : (s : Served) → GoesOn s (replaces_master s)
replaces_goes s =
    then_goes s (and_then (makes (steps.Stop (master_node (newest s))) s) (with_quieting (steps.Recover 1 1 1))) (with_quieting (steps.Fetch 1))
    (then_goes s (makes (steps.Stop (master_node (newest s))) s) (with_quieting (steps.Recover 1 1 1)) (makes_goes (steps.Stop (master_node (newest s))) s) (quieting_goes (steps.Recover 1 1 1)))
    (quieting_goes (steps.Fetch 1))

pub turn_goes : (turn : Bool) (act : Served → Served) (s : Served) → ((u : Served) → GoesOn u (act u)) → GoesOn s (if_turn turn act s)
turn_goes true act s goes = goes s
turn_goes false act s goes = goes_self s

-- a command's first steps, to where all is delivered, are more than none
pub quieting_longer : (made : Step) (s : Served) → (with_quieting made s).stopped ≡ None → suc (length s.steps) ≤ length (with_quieting made s).steps
quieting_longer made s = by (makes made s).stopped refl
  where
    by : (o : Option Limit) → (makes made s).stopped ≡ o → (after_all o (makes made s) quiets).stopped ≡ None → suc (length s.steps) ≤ length (after_all o (makes made s) quiets).steps
    by None e free = let one = (makes_longer made s e).longer in let more = prefix_length (quiets_goes (makes made s)).steps in omega (arith, one, more)
    by (Some why) e free = absurd (no_one (sym e ∙ free))
      where
        no_one : Some why ≡ None → ⊥
        no_one e = cc
