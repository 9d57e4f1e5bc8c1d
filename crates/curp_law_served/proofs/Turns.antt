-- The parts of a command that is served, one after the other, until no further step is made: whatever they leave is a state of a served
-- run, and what is told of the command goes on.
use Rattle.std.proofs.Common.{◌≡◌, ◌≤◌, ◌<◌, ◌==◌, inl, inr, ℕ, zero, suc, ◌+◌, cond, Bool, true, false, List, [], ◌∷◌, ◌++◌, length, Option, Some, None, refl, ap, sym, ◌∙◌, subst, arith}
use Rattle.std.proofs.lemmas.Bool.{ltb-false, ltb-true}
use Rattle.curp_base.specs.Words.{Each}
use Rattle.curp_base.proofs.Lists.{Each-append}
use Rattle.curp_cmd.specs.declared.command.Command.{Command}
use Rattle.curp_cmd.specs.declared.command.RequestId.{RequestId}
use Rattle.curp_msg.specs.declared.outcome.StepResult.{StepResult}
use Rattle.curp_msg.specs.declared.outcome.StepResult.TheVariants.{Done}
use Rattle.curp_msg.specs.declared.script.Step.{Step}
use Rattle.curp_msg.specs.declared.script.Step.TheVariants as steps
use Rattle.curp_facts.specs.Known.{Known}
use Rattle.curp_msg.specs.Script.{IsHeader}
use Rattle.curp_model.specs.World.{World, messages, opening, run, step, weight, world}
use Rattle.curp_law_kept.proofs.Gives.{known_opening, known_step, step_grows}
use Rattle.curp_base.proofs.Lists.{prefix_length}
use Rattle.curp_law_served.specs.Served.{AnsweredRequest, Served, Limit, TooLarge, TooManySteps, after_all, and_then, answer_by, delivers, header_of, is_busy, makes, most_steps, quiets, quiets_in, stepped}
use Rattle.curp_law_served.proofs.Followed.{Follows, IsServedStep, follows_opening, follows_step}
use Rattle.curp_law_served.proofs.History.{InvokesNone, Tells, tells_step}
use Rattle.curp_law_served.proofs.Made.{IsMade}

-- ---- the worlds of served runs

run_facts : (f : ℕ) (ss : List Step) → Each IsServedStep ss → (w : World) (n : ℕ) → Known w → Follows f w n
    → Known (run w ss) × Follows f (run w ss) (n + length ss)
run_facts f [] all w n known follows = (known, subst (Follows f w) (omega arith) follows)
run_facts f (s ∷ ss) all w n known follows =
    let rest = run_facts f ss all.1 (step w s).world (suc n) (known_step w known s) (follows_step known s all.0 f n follows) in
    (rest.0, subst (Follows f (run (step w s).world ss)) (omega arith) rest.1)

pub run_push : (ss : List Step) (w : World) (s : Step) → run w (ss ++ s ∷ []) ≡ (step (run w ss) s).world
run_push [] w s = refl
run_push (x ∷ ss) w s = run_push ss (step w x).world s

pub length_push : {A : Type 0} (xs : List A) (x : A) → length (xs ++ x ∷ []) ≡ suc (length xs)
length_push [] x = refl
length_push (y ∷ xs) x = ap suc (length_push xs x)

-- ---- a state

-- it is that of its steps, and tells of the command
pub record Stands (f : ℕ) (xs : List AnsweredRequest) (id : RequestId) (command : Command) (s : Served) : Type 0 where
  pub its : Each IsServedStep s.steps
  pub is : world (header_of f) s.steps ≡ s.world
  pub few : length s.steps ≤ most_steps
  pub low : s.delivered ≤ length (messages s.world)
  pub tells : Tells s.world xs id command s.answer

-- what is known of the world of a state
pub facts_of : (f : ℕ) → IsHeader (header_of f) → (ss : List Step) → Each IsServedStep ss
    → Known (world (header_of f) ss) × Follows f (world (header_of f) ss) (length ss)
facts_of f header ss all =
    let r = run_facts f ss all (opening (header_of f)) 0 (known_opening (header_of f) header) (follows_opening f) in
    (r.0, subst (Follows f (world (header_of f) ss)) (omega arith) r.1)

module _ (f : ℕ) (header : IsHeader (header_of f)) (xs : List AnsweredRequest) (id : RequestId) (command : Command) where
  abbrev Its : Served → Type 0
  Its s = Stands f xs id command s

  pub known_of : (s : Served) → Its s → Known s.world
  known_of s st = subst Known st.is (facts_of f header s.steps st.its).0

  pub follows_of : (s : Served) → Its s → Follows f s.world (length s.steps)
  follows_of s st = subst (λ (w : World). Follows f w (length s.steps)) st.is (facts_of f header s.steps st.its).1

  -- whatever is left is a state of the run, and of such a kind if it hasn't stopped
  abbrev pub Leaves : (Served → Type 0) → Served → Type 0
  Leaves P s = Stands f xs id command s × (s.stopped ≡ None → P s)

  -- ---- one after the other

  pub then_leaves : (P Q : Served → Type 0) (s : Served) (next : Served → Served) → Leaves P s
      → (s.stopped ≡ None → Stands f xs id command s → P s → Leaves Q (next s)) → Leaves Q (and_then s next)
  then_leaves P Q s next left goes = by s.stopped refl
    where
      by : (o : Option Limit) → s.stopped ≡ o → Leaves Q (after_all o s next)
      by None is = goes is left.0 (left.1 is)
      by (Some why) is = (left.0, λ none. absurd (no_one (sym none ∙ is)))
        where
          no_one : None ≡ Some why → ⊥
          no_one e = cc

  -- ---- one step

  -- the state where it is made
  abbrev pub made_state : Step → Served → Served
  made_state made s = record s { world = (step s.world made).world; steps = s.steps ++ made ∷ []; answer = answer_by s.answer (step s.world made).outcome.completed }

  stopped_stands : (s : Served) (why : Limit) → Its s → Its (record s { stopped = Some why })
  stopped_stands s why st = record { its = st.its; is = st.is; few = st.few; low = st.low; tells = st.tells }

  module _ (P : Served → Type 0) (made : Step) (its : IsServedStep made) (s : Served) (st : Stands f xs id command s)
      (none : s.stopped ≡ None) where
    stops : (why : Limit) → Leaves P (record s { stopped = Some why })
    stops why = (stopped_stands s why st, λ e. absurd (no_one e))
      where
        no_one : Some why ≡ None → ⊥
        no_one e = cc

    made_stands : length s.steps < most_steps
        → Tells (step s.world made).world xs id command (answer_by s.answer (step s.world made).outcome.completed)
        → Stands f xs id command (made_state made s)
    made_stands room tells = record {
      its = Each-append IsServedStep s.steps (made ∷ []) st.its (its, tt);
      is = run_push s.steps (opening (header_of f)) made ∙ ap (λ (w : World). (step w made).world) st.is;
      few = let long = length_push s.steps made in omega (arith, long, room);
      low = let more = prefix_length (step_grows s.world made).sent in omega (arith, st.low, more);
      tells = tells;
    }

    -- a step leaves such a state
    pub makes_leaves : IsMade s.world made
        → ((step s.world made).outcome.result ≡ Done → Tells (step s.world made).world xs id command (answer_by s.answer (step s.world made).outcome.completed))
        → ((step s.world made).outcome.result ≡ Done → length s.steps < most_steps → P (made_state made s)) → Leaves P (makes made s)
    makes_leaves can tells goes = by (length s.steps == most_steps) refl
      where
        by_result : length s.steps < most_steps
            → Leaves P (stepped s made (step s.world made) (step s.world made).outcome.result)
        by_result room = elim can [
          | inl is ↦ subst (λ (r : StepResult). Leaves P (stepped s made (step s.world made) r)) (sym is) (made_stands room (tells is), λ e. goes is room)
          | inr full ↦ subst (λ (r : StepResult). Leaves P (stepped s made (step s.world made) r)) (sym full) (stops (TooLarge (weight s.world)))
        ]

        by : (t : Bool) → (length s.steps == most_steps) ≡ t
            → Leaves P (cond t (record s { stopped = Some TooManySteps }) (stepped s made (step s.world made) (step s.world made).outcome.result))
        by true e = stops TooManySteps
        by false e = by_result (less (length s.steps) most_steps st.few e)
          where
            less : (a b : ℕ) → a ≤ b → (a == b) ≡ false → a < b
            less a b low e = grind (arith)

    -- one that invokes nothing
    pub later_leaves : InvokesNone made → IsMade s.world made
        → ((step s.world made).outcome.result ≡ Done → length s.steps < most_steps → P (made_state made s))
        → Leaves P (makes made s)
    later_leaves later can goes = makes_leaves can (λ is. tells_step (known_of s st) f (length s.steps) (follows_of s st) made its later xs id command s.answer st.tells) goes

  -- ---- quieting

  -- the state where the next message is delivered
  abbrev pub delivered_state : Served → Served
  delivered_state s = record (made_state (steps.Deliver (s.delivered + 1)) s) { delivered = s.delivered + 1 }

  module _ (P : Served → Type 0)
      (can : (s : Served) → Stands f xs id command s → P s → s.delivered < length (messages s.world) → IsMade s.world (steps.Deliver (suc s.delivered)))
      (goes : (s : Served) → Stands f xs id command s → P s → s.delivered < length (messages s.world) → (step s.world (steps.Deliver (s.delivered + 1))).outcome.result ≡ Done → P (delivered_state s)) where
    delivers_leaves : (s : Served) → s.stopped ≡ None → Stands f xs id command s → P s
        → s.delivered < length (messages s.world)
        → Leaves (λ t. P t × (length t.steps ≡ suc (length s.steps))) (delivers s)
    delivers_leaves s none st kept more =
        let e : s.delivered + 1 ≡ suc s.delivered = omega arith in
        then_leaves (λ t. t ≡ made_state (steps.Deliver (s.delivered + 1)) s × ((step s.world (steps.Deliver (s.delivered + 1))).outcome.result ≡ Done)) (λ t. P t × (length t.steps ≡ suc (length s.steps)))
        (makes (steps.Deliver (s.delivered + 1)) s) (λ k. record k { delivered = k.delivered + 1 })
        (later_leaves (λ t. t ≡ made_state (steps.Deliver (s.delivered + 1)) s × ((step s.world (steps.Deliver (s.delivered + 1))).outcome.result ≡ Done)) (steps.Deliver (s.delivered + 1)) tt s st none tt
        (subst (λ (k : ℕ). IsMade s.world (steps.Deliver k)) (sym e) (can s st kept more)) (λ is room. (refl, is)))
        (λ run stands is. counted (makes (steps.Deliver (s.delivered + 1)) s) stands is.0 is.1)
      where
        counted : (t : Served) → Stands f xs id command t → t ≡ made_state (steps.Deliver (s.delivered + 1)) s
            → (step s.world (steps.Deliver (s.delivered + 1))).outcome.result ≡ Done
            → Leaves (λ u. P u × (length u.steps ≡ suc (length s.steps))) (record t { delivered = t.delivered + 1 })
        counted t stands is done = (
          record { its = stands.its; is = stands.is; few = stands.few; low = low_of t is; tells = stands.tells },
          λ e. (
            subst (λ (k : Served). P (record k { delivered = k.delivered + 1 })) (sym is) (goes s st kept more done),
            ap (λ (k : Served). length k.steps) is ∙ length_push s.steps (steps.Deliver (s.delivered + 1)),
          ),
        )
          where
            low_of : (k : Served) → k ≡ made_state (steps.Deliver (s.delivered + 1)) s
                → k.delivered + 1 ≤ length (messages k.world)
            low_of k e =
                let grown = prefix_length (step_grows s.world (steps.Deliver (s.delivered + 1))).sent in
                let own : k.delivered ≡ s.delivered = ap (λ (x : Served). x.delivered) e in
                let long : length (messages k.world) ≡ length (messages (step s.world (steps.Deliver (s.delivered + 1))).world) = ap (λ (x : Served). length (messages x.world)) e in
                omega (arith, grown, own, long, more)

    -- no message is left, unless it has stopped
    abbrev pub AtEnd : Served → Type 0
    AtEnd t = P t × (t.delivered ≡ length (messages t.world))

    quieted : (n : ℕ) (s : Served) → s.stopped ≡ None → Stands f xs id command s → P s
        → most_steps < length s.steps + n → Leaves AtEnd (quiets_in n s)
    unfolding quiets_in
    quieted zero s none st kept fuel = absurd (omega (arith, fuel, st.few))
    quieted (suc n) s none st kept fuel = by (is_busy s) refl (λ t free stands still room. quieted n t free stands still room)
      where
        by : (b : Bool) → is_busy s ≡ b
            → ((t : Served) → t.stopped ≡ None → Stands f xs id command t → P t → most_steps < length t.steps + n → Leaves AtEnd (quiets_in n t))
            → Leaves AtEnd (cond b (and_then (delivers s) (quiets_in n)) s)
        by false e more = (st, λ free. (kept, (let high = ltb-false s.delivered (length (messages s.world)) e in omega (arith, high, st.low))))
        by true e more =
            then_leaves (λ t. P t × (length t.steps ≡ suc (length s.steps))) AtEnd (delivers s) (quiets_in n)
            (delivers_leaves s none st kept (ltb-true s.delivered (length (messages s.world)) e))
            (λ free stands still. more (delivers s) free stands still.0 (omega (arith, fuel, still.1)))

    pub quiets_leaves : (s : Served) → s.stopped ≡ None → Stands f xs id command s → P s → Leaves AtEnd (quiets s)
    unfolding quiets
    quiets_leaves s none st kept = quieted (most_steps + 1) s none st kept (omega arith)
