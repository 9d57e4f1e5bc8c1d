-- What a session replies, and what its steps show.
use Rattle.std.proofs.Common.{◌≡◌, ◌==◌, ℕ, cond, Bool, true, false, List, [], ◌∷◌, ◌++◌, map, Option, Some, None, refl, ap, sym, ◌∙◌, subst, append_assoc, append-nil}
use Rattle.curp_base.specs.Words.{Each, IsPrefix}
use Rattle.curp_base.proofs.Lists.{Each-append, prefix_push, prefix_self}
use Rattle.curp_cmd.specs.Store.{NamesKey}
use Rattle.curp_cmd.specs.declared.command.Answer.{Answer}
use Rattle.curp_cmd.specs.declared.command.Command.{Command}
use Rattle.curp_law_served.specs.Served.{AreServed, Limit, Served, TooManySteps, after, answer_behind, answered, header_of, in_turn, serve}
use Rattle.curp_model.specs.World.{World, world}
use Rattle.curp_msg.specs.Script.{IsRun}
use Rattle.curp_msg.specs.declared.script.Step.{Step}
use Rattle.curp_order.specs.declared.Event.{Event}
use Rattle.curp_resp.specs.Meaning.{meaning}
use Rattle.curp_resp.specs.Reply.{other_of, reply_of}
use Rattle.curp_resp.specs.declared.asked.Asked.{Asked}
use Rattle.curp_resp.specs.declared.asked.Asked.TheVariants as asked
use Rattle.curp_session.specs.Session.{Session, ShowsReplied, answered_by, commands_in, fresh, most_requests, reads_all, refused, replies_behind, reply_to, session, unless_stopped}
use Rattle.curp_words.specs.Plan.{IsRespPlan}
use Rattle.curp_words.specs.declared.task.RespPlan.{RespPlan}
use Rattle.curp_session.proofs.Naming.{NamesKeys, all_name_keys}

-- ---- what the law says

pub record Serves : Type 0 where
  pub pushes : (f every : ℕ) (commands : List Command) (command : Command) → (after f every commands).stopped ≡ None
      → after f every (commands ++ command ∷ []) ≡ serve every command (after f every commands)
  pub completes : (f every : ℕ) (commands : List Command) (command : Command) → AreServed f commands → NamesKey command
      → (after f every commands).stopped ≡ None → (serve every command (after f every commands)).stopped ≡ None
      → (serve every command (after f every commands)).answer ≡ Some (answer_behind commands command)
  pub answers : (f every : ℕ) (commands : List Command) (command : Command) → AreServed f commands → NamesKey command
      → (after f every commands).stopped ≡ None → (a : Answer) → (serve every command (after f every commands)).answer ≡ Some a
      → a ≡ answer_behind commands command
  pub steps : (f every : ℕ) (commands : List Command) → AreServed f commands
      → IsRun (header_of f) (after f every commands).steps
      × (world (header_of f) (after f every commands).steps ≡ (after f every commands).world)
  pub history : (f every : ℕ) (commands : List Command) → AreServed f commands → (after f every commands).stopped ≡ None
      → (after f every commands).world.history ≡ in_turn (answered commands)
  pub keeps : (f every : ℕ) (commands : List Command) (command : Command) → AreServed f commands → NamesKey command
      → (after f every commands).stopped ≡ None
      → IsPrefix (in_turn (answered commands)) (serve every command (after f every commands)).world.history
  pub shows : (f every : ℕ) (commands : List Command) (command : Command) → AreServed f commands → NamesKey command
      → (after f every commands).stopped ≡ None → (a : Answer) → (serve every command (after f every commands)).answer ≡ Some a
      → (serve every command (after f every commands)).world.history ≡ in_turn (answered (commands ++ command ∷ []))

-- ---- from some requests on

-- commands have led to a session
pub record Behind (f every : ℕ) (commands : List Command) (k : Session) : Type 0 where
  pub are : AreServed f commands
  pub is : k.served ≡ after f every commands
  pub free : k.served.stopped ≡ None

-- the replies go on as those of one thread to the first of the requests, and the steps show the commands of these first
pub record Shows (f : ℕ) (commands : List Command) (requests : List Asked) (replies : List ℕ) (whole : Session) : Type 0 where
  pub replied : List Asked
  pub rest : List Asked
  pub is : requests ≡ replied ++ rest
  pub goes_on : whole.replies ≡ replies ++ replies_behind commands replied
  pub shown : IsPrefix (in_turn (answered (commands ++ commands_in replied))) (world (header_of f) whole.served.steps).history

-- the replies go on as those of one thread, up to a limit; with none, all of them, and all commands were served
pub record GoesOn (f every : ℕ) (commands : List Command) (requests : List Asked) (replies : List ℕ) (whole : Session) : Type 0 where
  pub prefix : IsPrefix whole.replies (replies ++ replies_behind commands requests)
  pub all : whole.served.stopped ≡ None → whole.replies ≡ replies ++ replies_behind commands requests
  pub served : whole.served.stopped ≡ None → Behind f every (commands ++ commands_in requests) whole
  pub shows : Shows f commands requests replies whole

more_served : (f : ℕ) (commands : List Command) (command : Command) → AreServed f commands → NamesKey command → AreServed f (commands ++ command ∷ [])
more_served f commands command are key = record {
  some = are.some;
  few = are.few;
  keys = Each-append NamesKey commands (command ∷ []) are.keys (key, tt);
}

-- what steps show whose world has this history
shown_by : (f : ℕ) (steps : List Step) (w : World) (events : List Event) → world (header_of f) steps ≡ w → IsPrefix events w.history
    → IsPrefix events (world (header_of f) steps).history
shown_by f steps w events is p = subst (λ (v : World). IsPrefix events v.history) (sym is) p

-- nothing more is replied behind commands
none_more : (f every : ℕ) → Serves → (commands : List Command) (requests : List Asked) (k whole : Session) → Behind f every commands k
    → whole.replies ≡ k.replies → whole.served.steps ≡ k.served.steps → Shows f commands requests k.replies whole
none_more f every serves commands requests k whole b replies steps =
    let s = after f every commands in
    let same : whole.served.steps ≡ s.steps = steps ∙ ap (λ (x : Served). x.steps) b.is in
    let free : s.stopped ≡ None = ap (λ (x : Served). x.stopped) (sym b.is) ∙ b.free in
    let is : world (header_of f) whole.served.steps ≡ s.world =
    ap (λ (x : List Step). world (header_of f) x) same ∙ (serves.steps f every commands b.are).1 in
    let history : s.world.history ≡ in_turn (answered (commands ++ [])) =
    serves.history f every commands b.are free ∙ ap (λ (cs : List Command). in_turn (answered cs)) (sym (append-nil commands)) in
    record {
      replied = [];
      rest = requests;
      is = refl;
      goes_on = replies ∙ sym (append-nil k.replies);
      shown = shown_by f whole.served.steps s.world (in_turn (answered (commands ++ []))) is
          (subst (λ (h : List Event). IsPrefix (in_turn (answered (commands ++ []))) h) (sym history) (prefix_self (in_turn (answered (commands ++ [])))));
    }

-- it goes on behind a piece
behind_piece : (f every : ℕ) (commands behind : List Command) (requests : List Asked) (a : Asked) (replies piece : List ℕ) (whole : Session)
    → ((rs : List Asked) → replies_behind commands (a ∷ rs) ≡ piece ++ replies_behind behind rs)
    → ((rs : List Asked) → commands ++ commands_in (a ∷ rs) ≡ behind ++ commands_in rs)
    → GoesOn f every behind requests (replies ++ piece) whole → GoesOn f every commands (a ∷ requests) replies whole
behind_piece f every commands behind requests a replies piece whole text order more =
    let same : (rs : List Asked) → (replies ++ piece) ++ replies_behind behind rs ≡ replies ++ replies_behind commands (a ∷ rs) =
    λ rs. append_assoc replies piece (replies_behind behind rs) ∙ ap (λ (t : List ℕ). replies ++ t) (sym (text rs)) in
    let shows = more.shows in
    record {
      prefix = subst (λ (t : List ℕ). IsPrefix whole.replies t) (same requests) more.prefix;
      all = λ free. more.all free ∙ same requests;
      served = λ free. subst (λ (cs : List Command). Behind f every cs whole) (sym (order requests)) (more.served free);
      shows = record {
        replied = a ∷ shows.replied;
        rest = shows.rest;
        is = ap (λ (rs : List Asked). a ∷ rs) shows.is;
        goes_on = shows.goes_on ∙ same shows.replied;
        shown = subst (λ (cs : List Command). IsPrefix (in_turn (answered cs)) (world (header_of f) whole.served.steps).history) (sym (order shows.replied)) shows.shown;
      };
    }

-- a limit stops it behind some of them
stopped_there : (f every : ℕ) (commands : List Command) (requests : List Asked) (replies : List ℕ) (whole : Session) (why : Limit)
    → whole.served.stopped ≡ Some why → IsPrefix whole.replies (replies ++ replies_behind commands requests)
    → Shows f commands requests replies whole → GoesOn f every commands requests replies whole
stopped_there f every commands requests replies whole why is prefix shows = record {
  prefix = prefix;
  all = λ free. absurd (never (sym is ∙ free));
  served = λ free. absurd (never (sym is ∙ free));
  shows = shows;
}
  where
    never : Some why ≡ None → ⊥
    never e = cc

pub goes_on : (f every : ℕ) → Serves → (requests : List Asked) → Each NamesKeys requests
    → (commands : List Command) (k : Session) → Behind f every commands k → GoesOn f every commands requests k.replies (reads_all every requests k)
goes_on f every serves [] names commands k b = record {
  prefix = subst (λ (t : List ℕ). IsPrefix k.replies t) (sym (append-nil k.replies)) (prefix_self k.replies);
  all = λ free. sym (append-nil k.replies);
  served = λ free. subst (λ (cs : List Command). Behind f every cs k) (sym (append-nil commands)) b;
  shows = none_more f every serves commands [] k k b refl refl;
}
goes_on f every serves (asked.Other other ∷ requests) names commands k b =
    by (k.requests == most_requests) (goes_on f every serves requests names.1 commands (answered_by every (asked.Other other) k)
    (record { are = b.are; is = b.is; free = b.free }))
  where
    by : (full : Bool) → let next = cond full (refused k) (answered_by every (asked.Other other) k) in
        GoesOn f every commands requests (k.replies ++ other_of other) (reads_all every requests (answered_by every (asked.Other other) k))
        → GoesOn f every commands (asked.Other other ∷ requests) k.replies (unless_stopped next.served.stopped next (reads_all every requests))
    by true more =
        stopped_there f every commands (asked.Other other ∷ requests) k.replies (refused k) TooManySteps refl
        (prefix_push k.replies (replies_behind commands (asked.Other other ∷ requests)))
        (none_more f every serves commands (asked.Other other ∷ requests) k (refused k) b refl refl)
    by false more =
        let next = answered_by every (asked.Other other) k in
        subst (λ (o : Option Limit). GoesOn f every commands (asked.Other other ∷ requests) k.replies (unless_stopped o next (reads_all every requests))) (sym b.free)
        (behind_piece f every commands commands requests (asked.Other other) k.replies (other_of other) (reads_all every requests next) (λ rs. refl) (λ rs. refl) more)
goes_on f every serves (asked.Command command ∷ requests) names commands k b =
    by (k.requests == most_requests) (λ j behind. goes_on f every serves requests names.1 (commands ++ command ∷ []) j behind)
  where
    More : Type 0
    More = (j : Session) → Behind f every (commands ++ command ∷ []) j
        → GoesOn f every (commands ++ command ∷ []) requests j.replies (reads_all every requests j)

    its : List Asked
    its = asked.Command command ∷ requests

    next : Session
    next = answered_by every (asked.Command command) k

    state : Served
    state = serve every command (after f every commands)

    state_is : next.served ≡ state
    state_is = ap (λ (s : Served). serve every command s) b.is

    free : (after f every commands).stopped ≡ None
    free = ap (λ (s : Served). s.stopped) (sym b.is) ∙ b.free

    first : (o : Option Answer) → state.answer ≡ o → IsPrefix (k.replies ++ reply_to o) (k.replies ++ replies_behind commands its)
    first None is = subst (λ (t : List ℕ). IsPrefix t (k.replies ++ replies_behind commands its)) (sym (append-nil k.replies)) (prefix_push k.replies (replies_behind commands its))
    first (Some a) is =
        let same = serves.answers f every commands command b.are names.0 free a is in
        record {
          rest = replies_behind (commands ++ command ∷ []) requests;
          is = append_assoc k.replies (reply_of a) (replies_behind (commands ++ command ∷ []) requests)
              ∙ ap (λ (x : Answer). k.replies ++ (reply_of x ++ replies_behind (commands ++ command ∷ []) requests)) same;
        }

    prefix : IsPrefix next.replies (k.replies ++ replies_behind commands its)
    prefix =
        subst (λ (o : Option Answer). IsPrefix (k.replies ++ reply_to o) (k.replies ++ replies_behind commands its)) (sym (ap (λ (s : Served). s.answer) state_is))
        (first state.answer refl)

    next_world : world (header_of f) next.served.steps ≡ state.world
    next_world =
        ap (λ (s : Served). world (header_of f) s.steps) state_is
        ∙ subst (λ (s : Served). world (header_of f) s.steps ≡ s.world) (serves.pushes f every commands command free)
        (serves.steps f every (commands ++ command ∷ []) (more_served f commands command b.are names.0)).1

    replies_by : (o : Option Answer) → state.answer ≡ o → next.replies ≡ k.replies ++ reply_to o
    replies_by o is = ap (λ (s : Served). k.replies ++ reply_to s.answer) state_is ∙ ap (λ (a : Option Answer). k.replies ++ reply_to a) is

    -- where a limit stops it: behind the command's reply, or before it
    shown : (o : Option Answer) → state.answer ≡ o → Shows f commands its k.replies next
    shown None is = record {
      replied = [];
      rest = its;
      is = refl;
      goes_on = replies_by None is;
      shown = shown_by f next.served.steps state.world (in_turn (answered (commands ++ []))) next_world
          (subst (λ (cs : List Command). IsPrefix (in_turn (answered cs)) state.world.history) (sym (append-nil commands))
          (serves.keeps f every commands command b.are names.0 free));
    }
    shown (Some a) is =
        let same : a ≡ answer_behind commands command = serves.answers f every commands command b.are names.0 free a is in
        let all = in_turn (answered (commands ++ command ∷ [])) in
        record {
          replied = asked.Command command ∷ [];
          rest = requests;
          is = refl;
          goes_on = replies_by (Some a) is ∙ ap (λ (x : Answer). k.replies ++ reply_of x) same
              ∙ ap (λ (t : List ℕ). k.replies ++ t) (sym (append-nil (reply_of (answer_behind commands command))));
          shown = shown_by f next.served.steps state.world all next_world
              (subst (λ (h : List Event). IsPrefix all h) (sym (serves.shows f every commands command b.are names.0 free a is)) (prefix_self all));
        }

    limited : More → (o : Option Limit) → next.served.stopped ≡ o → GoesOn f every commands its k.replies (unless_stopped o next (reads_all every requests))
    limited more (Some why) is = stopped_there f every commands its k.replies next why is prefix (shown state.answer refl)
    limited more None is =
        let still : state.stopped ≡ None = ap (λ (s : Served). s.stopped) (sym state_is) ∙ is in
        let given = serves.completes f every commands command b.are names.0 free still in
        let replied : next.replies ≡ k.replies ++ reply_of (answer_behind commands command) =
        ap (λ (s : Served). k.replies ++ reply_to s.answer) state_is ∙ ap (λ (o : Option Answer). k.replies ++ reply_to o) given in
        behind_piece f every commands (commands ++ command ∷ []) requests (asked.Command command) k.replies (reply_of (answer_behind commands command))
        (reads_all every requests next) (λ rs. refl) (λ rs. sym (append_assoc commands (command ∷ []) (commands_in rs)))
        (subst (λ (t : List ℕ). GoesOn f every (commands ++ command ∷ []) requests t (reads_all every requests next)) replied
        (more next (record {
          are = more_served f commands command b.are names.0;
          is = state_is ∙ sym (serves.pushes f every commands command free);
          free = is;
        })))

    by : (full : Bool) → let step = cond full (refused k) next in
        More → GoesOn f every commands its k.replies (unless_stopped step.served.stopped step (reads_all every requests))
    by true more =
        stopped_there f every commands its k.replies (refused k) TooManySteps refl (prefix_push k.replies (replies_behind commands its))
        (none_more f every serves commands its k (refused k) b refl refl)
    by false more = limited more next.served.stopped refl

-- ---- a whole session

pub session_goes_on : (plan : RespPlan) (requests : List (List (List ℕ))) → IsRespPlan plan → Serves
    → GoesOn plan.f plan.every [] (map meaning requests) [] (session plan requests)
session_goes_on plan requests fits serves =
    goes_on plan.f plan.every serves (map meaning requests) (all_name_keys requests) [] (fresh plan.f) (record {
      are = record { some = fits.f.0; few = fits.f.1; keys = tt };
      is = refl;
      free = refl;
    })

pub session_shows : (plan : RespPlan) (requests : List (List (List ℕ))) → IsRespPlan plan → Serves
    → ShowsReplied plan.f (map meaning requests) (session plan requests)
session_shows plan requests fits serves =
    let shows = (session_goes_on plan requests fits serves).shows in
    record { replied = shows.replied; rest = shows.rest; is = shows.is; replies = shows.goes_on; shown = shows.shown }
