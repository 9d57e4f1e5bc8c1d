-- What a cluster has served, and what a command adds to that.
use Rattle.std.proofs.Common.{◌≡◌, ◌≢◌, ◌≤◌, ℕ, false, List, [], ◌∷◌, ◌++◌, Option, Some, None, is_some, Result, Ok, Err, refl, ap, sym, ◌∙◌, subst}
use Rattle.std.specs.Bool.{⊤}
use Rattle.std.specs.Option.{option_and_then}
use Rattle.curp_base.specs.declared.failed.Failed.{Failed}
use Rattle.curp_base.specs.declared.failed.Failed.TheVariants as failed
use Rattle.curp_base.specs.Words.{IsPrefix}
use Rattle.curp_base.proofs.Lists.{Each-append, prefix_self}
use Rattle.curp_cmd.specs.Store.{NamesKey}
use Rattle.curp_cmd.specs.declared.command.Answer.{Answer}
use Rattle.curp_cmd.specs.declared.command.Command.{Command}
use Rattle.curp_msg.specs.Script.{IsRun}
use Rattle.curp_msg.specs.declared.script.Header.{Header}
use Rattle.curp_msg.specs.declared.script.Step.{Step}
use Rattle.curp_model.specs.World.{World, opening, world}
use Rattle.curp_law_served.specs.Served.{AreServed, Limit, Served, TooLarge, TooManySteps, after, answer_behind, answered, header_of, in_turn, serve}
use Rattle.curp_serve.specs.Ended.{Ended, going, limit_of}
use Rattle.curp_serve.specs.Serving.{LedBy, IsServing, answer_in, serving}
use Rattle.curp_serve.specs.declared.served.ServeError.{ServeError}
use Rattle.curp_serve.specs.declared.served.ServeError.TheVariants as error
use Rattle.curp_serve.specs.declared.stepper.Stop.{Stop}
use Rattle.curp_serve.specs.declared.stepper.Stop.TheVariants as stop

-- ---- how a command ends

-- its steps are the first ones
pub prefix_of : (r : Result ⊤ (Failed Stop)) (new next : Served) → Ended r new next → IsPrefix new.steps next.steps
prefix_of (Ok _) new next ended = subst (λ (t : Served). IsPrefix new.steps t.steps) ended.0 (prefix_self new.steps)
prefix_of (Err (failed.Because stop.TooManySteps)) new next ended = subst (λ (t : Served). IsPrefix new.steps t.steps) ended (prefix_self new.steps)
prefix_of (Err (failed.Because (stop.TooLarge weight))) new next ended = subst (λ (t : Served). IsPrefix new.steps t.steps) ended (prefix_self new.steps)
prefix_of (Err failed.NoMemory) new next ended = ended

-- ---- what it has served

pub none_of : (o : Option (Failed Stop)) → is_some o ≡ false → o ≡ None
none_of None e = refl
none_of (Some why) e = absurd cc

-- no command, at opening
pub begun_serving : (f every : ℕ) → 1 ≤ f → f ≤ 5 → (s : Served) → s ≡ going (opening (header_of f)) [] 0 0 None
    → IsServing (header_of f) every s None
begun_serving f every some few s is = record {
  header_is = refl;
  free = ap (λ (t : Served). t.stopped) is;
  commands = [];
  are = record { some = some; few = few; keys = tt };
  prefix = subst (λ (t : Served). IsPrefix t.steps []) (sym is) (prefix_self []);
  whole = λ none. is;
}

pub more_served : (f : ℕ) (commands : List Command) (command : Command) → AreServed f commands → NamesKey command → AreServed f (commands ++ command ∷ [])
more_served f commands command are key = record {
  some = are.some;
  few = are.few;
  keys = Each-append NamesKey commands (command ∷ []) are.keys (key, tt);
}

-- ---- what the law says

-- one command more comes behind the others
abbrev pub Pushes : Type 0
Pushes = (f every : ℕ) (commands : List Command) (command : Command) → (after f every commands).stopped ≡ None
    → after f every (commands ++ command ∷ []) ≡ serve every command (after f every commands)

-- the steps are a script that leads to the world
abbrev pub Runs : Type 0
Runs = (f every : ℕ) (commands : List Command) → AreServed f commands → IsRun (header_of f) (after f every commands).steps
    × (world (header_of f) (after f every commands).steps ≡ (after f every commands).world)

-- an answer is that of one thread
abbrev pub Answers : Type 0
Answers = (f every : ℕ) (commands : List Command) (command : Command) → AreServed f commands → NamesKey command
    → (after f every commands).stopped ≡ None → (a : Answer) → (serve every command (after f every commands)).answer ≡ Some a
    → a ≡ answer_behind commands command

-- the history begins with the commands before it
abbrev pub Keeps : Type 0
Keeps = (f every : ℕ) (commands : List Command) (command : Command) → AreServed f commands → NamesKey command
    → (after f every commands).stopped ≡ None
    → IsPrefix (in_turn (answered commands)) (serve every command (after f every commands)).world.history

-- where there is an answer it has this one too
abbrev pub Shows : Type 0
Shows = (f every : ℕ) (commands : List Command) (command : Command) → AreServed f commands → NamesKey command
    → (after f every commands).stopped ≡ None → (a : Answer) → (serve every command (after f every commands)).answer ≡ Some a
    → (serve every command (after f every commands)).world.history ≡ in_turn (answered (commands ++ command ∷ []))

-- ---- how a limit stops a command

-- what was made is all up to it
limit_leaves : {X : Type 0} (seen : Served → X) → ((t : Served) (o : Option Limit) → seen (record t { stopped = o }) ≡ seen t)
    → (why : Failed Stop) (new next : Served) → why ≢ failed.NoMemory → Ended (Err why) new next → seen new ≡ seen next
limit_leaves seen same (failed.Because stop.TooManySteps) new next other ended = sym (same new (Some TooManySteps)) ∙ ap seen ended
limit_leaves seen same (failed.Because (stop.TooLarge weight)) new next other ended = sym (same new (Some (TooLarge weight))) ∙ ap seen ended
limit_leaves seen same failed.NoMemory new next other ended = absurd (other refl)

pub its_steps : (why : Failed Stop) (new next : Served) → why ≢ failed.NoMemory → Ended (Err why) new next → new.steps ≡ next.steps
its_steps = limit_leaves (λ (t : Served). t.steps) (λ t o. refl)

-- running out of memory tells of no answer
pub tells_more : (told : ServeError) (a : Answer) → answer_in (Err told) ≡ Some a → told ≢ error.NoMemory
tells_more (error.TooManySteps o) a e is = cc
tells_more (error.TooLarge weight o) a e is = cc
tells_more error.NoMemory a e is = cc

-- so an answer that is told is one that the steps have given
pub told_of : (why : Failed Stop) (told : ServeError) (new next : Served) (a : Answer) → Ended (Err why) new next
    → (told ≢ error.NoMemory → answer_in (Err told) ≡ new.answer) → (why ≡ failed.NoMemory → told ≡ error.NoMemory)
    → answer_in (Err told) ≡ Some a → next.answer ≡ Some a
told_of why told new next a ended tells memory e =
    let more = tells_more told a e in
    let same = limit_leaves (λ (t : Served). t.answer) (λ t o. refl) why new next (λ is. more (memory is)) ended in
    sym same ∙ sym (tells more) ∙ e

-- ---- a command more

module _ (pushes : Pushes) (header : Header) (every : ℕ) (s : Served) (k : Option (Failed Stop)) (its : IsServing header every s k) (none : k ≡ None)
    (command : Command) (key : NamesKey command) where
  -- what it leads to is the state behind it too
  behind_it : (commands : List Command) → s ≡ after header.f every commands
      → serve every command s ≡ after header.f every (commands ++ command ∷ [])
  behind_it commands is =
      ap (serve every command) is ∙ sym (pushes header.f every commands command (subst (λ (t : Served). t.stopped ≡ None) is its.free))

  -- it goes on serving
  pub serves_on : (r : Result ⊤ (Failed Stop)) (new : Served) → Ended r new (serve every command s) → new.stopped ≡ None
      → (later : Option (Failed Stop)) → (later ≡ None → new ≡ serve every command s) → IsServing header every new later
  serves_on r new ended still later whole = record {
    header_is = its.header_is;
    free = still;
    commands = its.commands ++ command ∷ [];
    are = more_served header.f its.commands command its.are key;
    prefix = subst (λ (t : Served). IsPrefix new.steps t.steps) (behind_it its.commands (its.whole none)) (prefix_of r new (serve every command s) ended);
    whole = λ free. whole free ∙ behind_it its.commands (its.whole none);
  }

  module _ (commands : List Command) (has : LedBy commands (serving header every s k)) where
    state_is : s ≡ after header.f every commands
    state_is = ap (λ (o : Option Limit). record s { stopped = o }) (its.free ∙ sym (ap (option_and_then limit_of) none)) ∙ has.is

    still_free : (after header.f every commands).stopped ≡ None
    still_free = subst (λ (t : Served). t.stopped ≡ None) state_is its.free

    -- its answer is that of one thread
    pub is_right : Answers → (a : Answer) → (serve every command s).answer ≡ Some a → a ≡ answer_behind commands command
    is_right law a e =
        law header.f every commands command has.are key still_free a (subst (λ (t : Served). (serve every command t).answer ≡ Some a) state_is e)

    -- its steps lead to its world
    leads : Runs → (xs : List Step) → xs ≡ (serve every command s).steps → world (header_of header.f) xs ≡ (serve every command s).world
    leads law xs same =
        ap (world (header_of header.f)) same
        ∙ subst (λ (t : Served). world (header_of header.f) t.steps ≡ t.world) (sym (behind_it commands state_is))
        (law header.f every (commands ++ command ∷ []) (more_served header.f commands command has.are key)).1

    pub keeps_on : Runs → Keeps → (xs : List Step) → xs ≡ (serve every command s).steps
        → IsPrefix (in_turn (answered commands)) (world (header_of header.f) xs).history
    keeps_on runs law xs same =
        subst (λ (w : World). IsPrefix (in_turn (answered commands)) w.history) (sym (leads runs xs same))
        (subst (λ (t : Served). IsPrefix (in_turn (answered commands)) (serve every command t).world.history) (sym state_is) (law header.f every commands command has.are key still_free))

    pub shows_on : Runs → Shows → (xs : List Step) → xs ≡ (serve every command s).steps → (a : Answer) → (serve every command s).answer ≡ Some a
        → (world (header_of header.f) xs).history ≡ in_turn (answered (commands ++ command ∷ []))
    shows_on runs law xs same a e =
        ap (λ (w : World). w.history) (leads runs xs same)
        ∙ ap (λ (t : Served). (serve every command t).world.history) state_is
        ∙ law header.f every commands command has.are key still_free a (subst (λ (t : Served). (serve every command t).answer ≡ Some a) state_is e)
