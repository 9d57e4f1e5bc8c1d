-- Served runs: what is so behind each command, from the first on.
use Rattle.std.proofs.Common.{◌≡◌, ◌≤◌, ◌<◌, ℕ, suc, ◌+◌, ◌*◌, false, List, [], ◌∷◌, ◌++◌, length, map, set, Option, Some, None, append-nil, append_assoc, refl, ap, sym, ◌∙◌, subst, arith}
use Rattle.curp_base.specs.Words.{At, Each, IsPrefix}
use Rattle.curp_base.proofs.Lists.{Each-weaker, prefix_push}
use Rattle.curp_base.proofs.Numbered.{numbered_replicate}
use Rattle.curp_cmd.specs.Store.{NamesKey, applied, nothing}
use Rattle.curp_cmd.specs.declared.command.Answer.{Answer}
use Rattle.curp_cmd.specs.declared.command.Command.{Command}
use Rattle.curp_cmd.specs.declared.command.RequestId.{RequestId}
use Rattle.curp_cmd.specs.declared.node.NodeId.{NodeId}
use Rattle.curp_msg.specs.declared.config.PartConfig.{PartConfig}
use Rattle.curp_msg.specs.declared.message.Message.{Message}
use Rattle.curp_msg.specs.declared.outcome.StepResult.TheVariants.{Done}
use Rattle.curp_msg.specs.declared.script.Step.TheVariants as steps
use Rattle.curp_order.specs.Order.{IsHistory, IsOrder, store_after}
use Rattle.curp_order.specs.declared.Event.{Event}
use Rattle.curp_order.specs.declared.Event.TheVariants.{Complete, Invoke}
use Rattle.curp_msg.specs.Script.{IsHeader, IsRun}
use Rattle.curp_model.specs.Backup.{BackupState, installed_backup}
use Rattle.curp_model.specs.Client.{ClientState, Pending, attempt_at, next_request, sends_first}
use Rattle.curp_model.specs.Manager.{opening_part}
use Rattle.curp_model.specs.Master.{beginning}
use Rattle.curp_model.specs.Ranges.{opening_range}
use Rattle.curp_msg.specs.Moved.{within}
use Rattle.curp_model.specs.World.{Stepped, World, kept, opening, opening_client, order, shape_of, step, with_client, world}
use Rattle.curp_law_kept.proofs.Gives.{known_opening}
use Rattle.curp_law_linear.proofs.Gives.{history_all, order_all}
use Rattle.curp_law_served.proofs.Homes.{backup_there}
use Rattle.curp_law_served.specs.Calm.{Calm, IsUndelivered}
use Rattle.curp_law_served.specs.Served.{AnsweredRequest, Served, Limit, after_all, answer_behind, answer_by, answered, begun, header_of, in_turn, most_steps, requests, serve, serve_all}
use Rattle.curp_law_served.proofs.Answers.{answered_push, asked_are, asked_of, last_answer, length_answered, order_is}
use Rattle.curp_law_served.proofs.Calm.{Serves, calmly, invoked_as, its_client, rests}
use Rattle.curp_law_served.proofs.Commands.{IsDone, IsOver, IsQuiet, serve_leaves}
use Rattle.curp_law_served.proofs.Followed.{IsServedStep, follows_opening, is_step}
use Rattle.curp_law_served.proofs.Grounding.{Homes, backup_of}
use Rattle.curp_law_served.proofs.History.{Has, Tells, Unasked, Waits, in_turn_push}
use Rattle.curp_law_served.proofs.Turns.{Stands, length_push}

-- ---- behind a command

-- the requests in turn are completed, all is delivered, and the present master serves
pub record Rested (f : ℕ) (xs : List AnsweredRequest) (s : Served) : Type 0 where
  pub its : Each IsServedStep s.steps
  pub is : world (header_of f) s.steps ≡ s.world
  pub few : length s.steps ≤ most_steps
  pub c : PartConfig
  pub q : ℕ
  pub quiet : IsQuiet f c q s
  pub last : (its_client quiet.serves).last ≡ length xs
  pub history : s.world.history ≡ in_turn xs

-- the next request of the client
abbrev pub next_of : List AnsweredRequest → RequestId
next_of xs = record { client = 1; seq = length xs + 1 }

module _ (f : ℕ) (some : 1 ≤ f) (low : f ≤ 5) where
  pub header : IsHeader (header_of f)
  header = record { clients = (omega arith, omega arith); f = (some, low); parts = (omega arith, omega arith); sets = (omega arith, omega arith); ways = (omega arith, omega arith) }

  -- ---- at opening

  abbrev first : PartConfig
  first = opening_part (shape_of (header_of f)) 1

  none_due : (x : Message) → IsUndelivered (opening (header_of f)) 0 x → ⊥
  unfolding opening
  none_due x due = no_item due.0 due.2
    where
      no_item : (k : ℕ) → At [] k x → ⊥
      no_item k at = cc

  first_calm : Calm (opening (header_of f)) 0 first 1 (beginning 1 1 1 first.backups first.witnesses (opening_range 1 1).lo (opening_range 1 1).hi [] 0) (opening_client (header_of f))
  unfolding opening
  first_calm = record {
    client = refl;
    fast = refl;
    protocol = refl;
    manager = refl;
    its_master = refl;
    master = refl;
    epoch = refl;
    version = refl;
    backups = refl;
    witnesses = refl;
    serves = refl;
    fits = λ x due. absurd (none_due x due);
    no_gaps = λ x due. absurd (none_due x due);
    goes = record { held = tt; captures = tt };
    pends = tt;
  }

  first_homes : Homes (opening (header_of f)) first
  unfolding opening
  first_homes k a =
      let there = backup_there (opening (header_of f)) k (backup_of (known_opening (header_of f) header) first refl k a) in
      (there.0, there.1.its_state, ap (λ (b : BackupState). b.installed) (sym (numbered_replicate (1 * f) (installed_backup 1) k.number there.0 there.1.its_state)))

  first_serves : Serves f 0 (opening (header_of f)) 0 first 1
  unfolding opening
  first_serves = record {
    known = known_opening (header_of f) header;
    follows = follows_opening f;
    calm = (beginning 1 1 1 first.backups first.witnesses (opening_range 1 1).lo (opening_range 1 1).hi [] 0, opening_client (header_of f), first_calm);
    homes = first_homes;
    newest = refl;
    ranges = refl;
    stopped = λ node a. absurd (no_item node a.place a.stands);
  }
    where
      no_item : (node : NodeId) (k : ℕ) → At [] k node → ⊥
      no_item node k at = cc

  pub rested_opening : Rested f [] (begun f)
  unfolding opening first_serves
  rested_opening = record {
    its = tt;
    is = refl;
    few = omega arith;
    c = first;
    q = 1;
    quiet = record { serves = first_serves; ended = refl; config = refl };
    last = refl;
    history = refl;
  }

  -- ---- one command

  module _ (xs : List AnsweredRequest) (s : Served) (none : s.stopped ≡ None) (r : Rested f xs s) (command : Command)
      (keys : NamesKey command) where
    abbrev cl : ClientState
    cl = its_client r.quiet.serves

    empty : cl.pending ≡ []
    empty = rests r.quiet.serves r.few

    standing : Stands f xs (next_of xs) command (record s { answer = None })
    standing = record {
      its = r.its;
      is = r.is;
      few = r.few;
      low = let e = r.quiet.ended in omega (arith, e);
      tells = Unasked cl (calmly r.quiet.serves).client empty r.last r.history;
    }

    after_is : (made : (step s.world (steps.Invoke 1 command)).outcome.result ≡ Done) → (P : Stepped → Type 0)
        → P (kept s.world (Invoke (record { client = 1; seq = cl.last + 1 }) command ∷ []) (within (with_client s.world 1) (sends_first 1 cl (next_request 1 cl command) r.c)))
        → P (step s.world (steps.Invoke 1 command))
    after_is made P p = subst P (sym (invoked_as r.quiet.serves r.few command keys r.quiet.config made)) p

    history_is : (s.world.history ++ Invoke (record { client = 1; seq = cl.last + 1 }) command ∷ []) ++ [] ≡ in_turn xs ++ Invoke (next_of xs) command ∷ []
    history_is =
        append-nil (s.world.history ++ Invoke (record { client = 1; seq = cl.last + 1 }) command ∷ [])
        ∙ ap (λ (h : List Event). h ++ Invoke (record { client = 1; seq = cl.last + 1 }) command ∷ []) r.history
        ∙ ap (λ (k : ℕ). in_turn xs ++ Invoke (record { client = 1; seq = k + 1 }) command ∷ []) r.last

    told : (made : (step s.world (steps.Invoke 1 command)).outcome.result ≡ Done)
        → Tells (step s.world (steps.Invoke 1 command)).world xs (next_of xs) command (answer_by None (step s.world (steps.Invoke 1 command)).outcome.completed)
    told made = after_is made (λ (k : Stepped). Tells k.world xs (next_of xs) command (answer_by None k.outcome.completed))
        (Waits (sends_first 1 cl (next_request 1 cl command) r.c).state (ap (λ (cs : List ClientState). set cs 0 (sends_first 1 cl (next_request 1 cl command) r.c).state) (calmly r.quiet.serves).client)
        fresh (ap (λ (ps : List Pending). ps ++ fresh ∷ []) empty) (ap (λ (k : ℕ). record { client = 1; seq = k + 1 }) r.last) (ap (λ (k : ℕ). k + 1) r.last) history_is)
      where
        fresh : Pending
        fresh = record { request = next_request 1 cl command; attempts = attempt_at r.c ∷ []; asked = false; early = []; accepts = []; glimpses = []; lives = [] }

    longer : (made : (step s.world (steps.Invoke 1 command)).outcome.result ≡ Done)
        → length (in_turn xs) < length (step s.world (steps.Invoke 1 command)).world.history
    longer made = after_is made (λ (k : Stepped). length (in_turn xs) < length k.world.history)
        (let long : length ((s.world.history ++ Invoke (record { client = 1; seq = cl.last + 1 }) command ∷ []) ++ []) ≡ suc (length (in_turn xs)) = ap (λ (h : List Event). length h) history_is ∙ length_push (in_turn xs) (Invoke (next_of xs) command) in
        omega (arith, long))

    left : (every : ℕ)
        → Stands f xs (next_of xs) command (serve every command s) × ((serve every command s).stopped ≡ None → IsOver f xs (serve every command s))
    left every = serve_leaves f low header xs (next_of xs) command every keys r.c r.q s none r.quiet standing told longer

    -- the state stands, and where it hasn't stopped the command is completed
    pub serve_goes : (every : ℕ) → Stands f xs (next_of xs) command (serve every command s)
        × ((serve every command s).stopped ≡ None → (a : Answer) × ((serve every command s).answer ≡ Some a) × Rested f (xs ++ (next_of xs, command, a) ∷ []) (serve every command s))
    serve_goes every = ((left every).0, λ e. over (serve every command s) (left every).0 ((left every).1 e))
      where
        over : (t : Served) → Stands f xs (next_of xs) command t → IsOver f xs t
            → (a : Answer) × (t.answer ≡ Some a) × Rested f (xs ++ (next_of xs, command, a) ∷ []) t
        over t st k = by t.answer refl st.tells
          where
            done : IsDone f xs k.0 k.1 t
            done = k.2

            own : (d : ClientState) → t.world.clients ≡ d ∷ [] → its_client done.at_rest.serves ≡ d
            own d is = one (sym (calmly done.at_rest.serves).client ∙ is)
              where
                one : {a b : ClientState} → a ∷ [] ≡ b ∷ [] → a ≡ b
                one e = cc

            by : (o : Option Answer) → t.answer ≡ o → Tells t.world xs (next_of xs) command o
                → (a : Answer) × (t.answer ≡ Some a) × Rested f (xs ++ (next_of xs, command, a) ∷ []) t
            by _ is (Unasked d client pending last history) =
                let same : length t.world.history ≡ length (in_turn xs) = ap (λ (h : List Event). length h) history in
                absurd (omega (arith, same, done.begun))
            by _ is (Waits d client p pends id last history) =
                absurd (no_item (sym pends ∙ ap (λ (x : ClientState). x.pending) (sym (own d client)) ∙ rests done.at_rest.serves st.few))
              where
                no_item : p ∷ [] ≡ [] → ⊥
                no_item e = cc
            by _ is (Has d client pending last a history) = (
              a,
              is,
              record {
                its = st.its;
                is = st.is;
                few = st.few;
                c = k.0;
                q = k.1;
                quiet = done.at_rest;
                last = ap (λ (x : ClientState). x.last) (own d client) ∙ last ∙ sym (length_more xs (next_of xs, command, a));
                history = history;
              },
            )
              where
                length_more : (ys : List AnsweredRequest) (y : AnsweredRequest) → length (ys ++ y ∷ []) ≡ length ys + 1
                length_more ys y = let long = length_push ys y in omega (arith, long)

  -- ---- the answers

  -- its steps are a script
  pub run_of : (s : Served) → Each IsServedStep s.steps → IsRun (header_of f) s.steps
  run_of s all = record { header = header; steps_are = Each-weaker IsServedStep _ is_step s.steps all }

  -- the order of a state, with its history in turn
  module _ (xs : List AnsweredRequest) (s : Served) (all : Each IsServedStep s.steps)
      (is : world (header_of f) s.steps ≡ s.world) (history : s.world.history ≡ in_turn xs) where
    history_ok : IsHistory (in_turn xs)
    history_ok = subst IsHistory history (subst (λ (v : World). IsHistory v.history) is (history_all (header_of f) s.steps (run_of s all)))

    order_ok : IsOrder (in_turn xs) (order s.world)
    order_ok = subst (λ (h : List Event). IsOrder h (order s.world)) history (subst (λ (v : World). IsOrder v.history (order v)) is (order_all (header_of f) s.steps (run_of s all)))

    pub shown_order : order s.world ≡ map asked_of xs
    shown_order = order_is xs (order s.world) history_ok order_ok

    pub its_answer : (before : List AnsweredRequest) (x : AnsweredRequest) → xs ≡ before ++ x ∷ []
        → x.2 ≡ (applied (store_after nothing (map asked_of before)) x.1).answer
    its_answer before x e = last_answer xs (order s.world) history_ok order_ok before x e

  -- the answer to a command that was served behind others is that of one thread
  pub answer_right : (commands : List Command) (command : Command) (s : Served)
      → Stands f (answered commands) (next_of (answered commands)) command s → (a : Answer) → s.answer ≡ Some a
      → a ≡ answer_behind commands command
  answer_right commands command s st a is = by s.answer is st.tells
    where
      by : (o : Option Answer) → o ≡ Some a
          → Tells s.world (answered commands) (next_of (answered commands)) command o
          → a ≡ answer_behind commands command
      by _ is (Unasked d client pending last history) = absurd cc
      by _ is (Waits d client p pends id last history) = absurd cc
      by _ is (Has d client pending last b history) =
          let same : b ≡ a = cc in
          sym same ∙ its_answer (answered commands ++ (next_of (answered commands), command, b) ∷ []) s st.its st.is history (answered commands) (next_of (answered commands), command, b) refl
          ∙ ap (λ (os : List _). (applied (store_after nothing os) command).answer) (asked_are commands)

  -- a command more, with that answer
  answered_more : (commands : List Command) (command : Command) (a : Answer) → a ≡ answer_behind commands command
      → answered commands ++ (next_of (answered commands), command, a) ∷ [] ≡ answered (commands ++ command ∷ [])
  answered_more commands command a right =
      ap (λ (b : Answer). answered commands ++ (next_of (answered commands), command, b) ∷ []) right
      ∙ ap (λ (k : ℕ). answered commands ++ (record { client = 1; seq = k + 1 }, command, answer_behind commands command) ∷ []) (length_answered commands) ∙ sym (answered_push commands command)

  -- the history has the commands before it in turn, and the command behind them once it has its answer
  history_told : (commands : List Command) (command : Command) (s : Served)
      → Stands f (answered commands) (next_of (answered commands)) command s
      → IsPrefix (in_turn (answered commands)) s.world.history
      × ((a : Answer) → s.answer ≡ Some a → s.world.history ≡ in_turn (answered (commands ++ command ∷ [])))
  history_told commands command s st = by s.answer refl st.tells
    where
      begins : (xs : List AnsweredRequest) (events : List Event) → s.world.history ≡ in_turn xs ++ events → IsPrefix (in_turn xs) s.world.history
      begins xs events history = subst (λ (h : List Event). IsPrefix (in_turn xs) h) (sym history) (prefix_push (in_turn xs) events)

      by : (o : Option Answer) → s.answer ≡ o → Tells s.world (answered commands) (next_of (answered commands)) command o
          → IsPrefix (in_turn (answered commands)) s.world.history × ((a : Answer) → s.answer ≡ Some a → s.world.history ≡ in_turn (answered (commands ++ command ∷ [])))
      by _ is (Unasked d client pending last history) = (begins (answered commands) [] (history ∙ sym (append-nil (in_turn (answered commands)))), λ a e. absurd cc)
      by _ is (Waits d client p pends id last history) =
          (begins (answered commands) (Invoke (next_of (answered commands)) command ∷ []) history, λ a e. absurd cc)
      by _ is (Has d client pending last b history) = (
        begins (answered commands) (Invoke (next_of (answered commands)) command ∷ Complete (next_of (answered commands)) b ∷ [])
            (history ∙ sym (in_turn_push (answered commands) (next_of (answered commands)) command b)),
        λ a e. history ∙ ap in_turn (answered_more commands command b (answer_right commands command s st b is)),
      )

  -- ---- all commands

  -- what is so behind so many commands: the state is that of its steps, and where it hasn't stopped they are completed
  pub record AllServed (commands : List Command) (s : Served) : Type 0 where
    pub its : Each IsServedStep s.steps
    pub is : world (header_of f) s.steps ≡ s.world
    pub rested : s.stopped ≡ None → Rested f (answered commands) s

  module _ (every : ℕ) where
    one_more : (commands : List Command) (command : Command) → NamesKey command → (s : Served) → s.stopped ≡ None
        → Rested f (answered commands) s → AllServed (commands ++ command ∷ []) (serve every command s)
    one_more commands command keys s none r =
        let g = serve_goes (answered commands) s none r command keys every in
        record {
          its = g.0.its;
          is = g.0.is;
          rested = λ e.
              let d = g.1 e in
              let right = answer_right commands command (serve every command s) g.0 d.0 d.1 in
              subst (λ (xs : List AnsweredRequest). Rested f xs (serve every command s)) (answered_more commands command d.0 right) d.2;
        }

    from_there : (rest done : List Command) (s : Served) → Each NamesKey rest → s.stopped ≡ None
        → Rested f (answered done) s → AllServed (done ++ rest) (serve_all every rest s)
    from_there [] done s keys none r = record { its = r.its; is = r.is; rested = λ e. subst (λ (cs : List Command). Rested f (answered cs) s) (sym (append-nil done)) r }
    from_there (command ∷ rest) done s keys none r =
        let one = one_more done command keys.0 s none r in
        by (serve every command s) one (serve every command s).stopped refl (λ t e more. from_there rest (done ++ command ∷ []) t keys.1 e more)
      where
        by : (t : Served) → AllServed (done ++ command ∷ []) t → (o : Option Limit) → t.stopped ≡ o
            → ((u : Served) → u.stopped ≡ None → Rested f (answered (done ++ command ∷ [])) u → AllServed ((done ++ command ∷ []) ++ rest) (serve_all every rest u)) → AllServed (done ++ command ∷ rest) (after_all o t (serve_all every rest))
        by t one None e more = subst (λ (cs : List Command). AllServed cs (serve_all every rest t)) (append_assoc done (command ∷ []) rest) (more t e (one.rested e))
        by t one (Some why) e more = record { its = one.its; is = one.is; rested = λ free. absurd (no_one (sym free ∙ e)) }
          where
            no_one : None ≡ Some why → ⊥
            no_one e = cc

    pub all_served : (commands : List Command) → Each NamesKey commands
        → AllServed commands (serve_all every commands (begun f))
    all_served commands keys = from_there commands [] (begun f) keys refl rested_opening

    module _ (commands : List Command) (keys : Each NamesKey commands) where
      -- the order that is shown is that of the commands
      pub served_order : (serve_all every commands (begun f)).stopped ≡ None
          → order (serve_all every commands (begun f)).world ≡ requests commands
      served_order free =
          let all = all_served commands keys in
          shown_order (answered commands) (serve_all every commands (begun f)) all.its all.is (all.rested free).history ∙ asked_are commands

      -- a command more is completed, or no further step is made; and its answer, if it has one, is that of one thread
      pub command_served : (command : Command) → NamesKey command → (serve_all every commands (begun f)).stopped ≡ None
          → ((serve every command (serve_all every commands (begun f))).stopped ≡ None → (serve every command (serve_all every commands (begun f))).answer ≡ Some (answer_behind commands command))
          × ((a : Answer) → (serve every command (serve_all every commands (begun f))).answer ≡ Some a → a ≡ answer_behind commands command)
      command_served command key free =
          let s = serve_all every commands (begun f) in
          let g = serve_goes (answered commands) s free ((all_served commands keys).rested free) command key every in
          let right = answer_right commands command (serve every command s) g.0 in
          ((λ still. let d = g.1 still in d.1 ∙ ap (λ (a : Answer). Some a) (right d.0 d.1)), right)

      -- its world's history has the commands before it in turn, and it behind them once it has its answer
      pub command_shown : (command : Command) → NamesKey command → (serve_all every commands (begun f)).stopped ≡ None
          → IsPrefix (in_turn (answered commands)) (serve every command (serve_all every commands (begun f))).world.history
          × ((a : Answer) → (serve every command (serve_all every commands (begun f))).answer ≡ Some a → (serve every command (serve_all every commands (begun f))).world.history ≡ in_turn (answered (commands ++ command ∷ [])))
      command_shown command key free =
          let s = serve_all every commands (begun f) in
          history_told commands command (serve every command s)
          (serve_goes (answered commands) s free ((all_served commands keys).rested free) command key every).0

-- one command more comes behind the others, unless a limit came
pub served_push : (every : ℕ) (commands : List Command) (command : Command) (s : Served)
    → (serve_all every commands s).stopped ≡ None
    → serve_all every (commands ++ command ∷ []) s ≡ serve every command (serve_all every commands s)
served_push every [] command s free = by (serve every command s).stopped
  where
    by : (o : Option Limit) → after_all o (serve every command s) (serve_all every []) ≡ serve every command s
    by None = refl
    by (Some why) = refl
served_push every (c ∷ rest) command s free = by (serve every c s) (serve every c s).stopped refl free (λ t still. served_push every rest command t still)
  where
    by : (t : Served) (o : Option Limit) → t.stopped ≡ o → (after_all o t (serve_all every rest)).stopped ≡ None
        → ((u : Served) → (serve_all every rest u).stopped ≡ None → serve_all every (rest ++ command ∷ []) u ≡ serve every command (serve_all every rest u))
        → after_all o t (serve_all every (rest ++ command ∷ [])) ≡ serve every command (after_all o t (serve_all every rest))
    by t None e free more = more t free
    by t (Some why) e free more = absurd (no_one (sym free ∙ e))
      where
        no_one : None ≡ Some why → ⊥
        no_one e = cc
