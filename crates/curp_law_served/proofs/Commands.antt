-- A command is served: what is told of it goes on through all its steps, and where no step was one too many it is completed, every
-- message is delivered, and the present master serves.
use Rattle.std.proofs.Common.{◌≡◌, ◌≤◌, ◌<◌, inl, ℕ, suc, ◌+◌, Bool, true, false, List, [], ◌∷◌, ◌++◌, length, None, ap, sym, ◌∙◌, subst, arith}
use Rattle.curp_base.proofs.Lists.{prefix_length}
use Rattle.curp_cmd.specs.Node.{master_node}
use Rattle.curp_cmd.specs.Store.{NamesKey}
use Rattle.curp_cmd.specs.declared.command.Command.{Command}
use Rattle.curp_cmd.specs.declared.command.RequestId.{RequestId}
use Rattle.curp_cmd.specs.declared.node.NodeId.{NodeId}
use Rattle.curp_msg.specs.declared.body.Recover.{Recover}
use Rattle.curp_msg.specs.declared.config.PartConfig.{PartConfig}
use Rattle.curp_msg.specs.declared.message.Message.{Message}
use Rattle.curp_msg.specs.declared.outcome.StepResult.TheVariants.{Done}
use Rattle.curp_msg.specs.declared.script.Step.{Step}
use Rattle.curp_msg.specs.declared.script.Step.TheVariants as steps
use Rattle.curp_msg.specs.Script.{IsHeader}
use Rattle.curp_model.specs.Client.{ClientState}
use Rattle.curp_model.specs.World.{World, messages, step}
use Rattle.curp_law_kept.proofs.Gives.{step_grows}
use Rattle.curp_law_served.specs.Learns.{ClientLearns}
use Rattle.curp_law_served.specs.Renews.{renewed}
use Rattle.curp_law_served.specs.Served.{AnsweredRequest, Served, and_then, answer_by, header_of, if_turn, in_turn, is_turn, makes, newest_in, quiets, replaces_master, serve, tidies, with_quieting}
use Rattle.curp_law_served.proofs.Calm.{Serves, calmly, collect_learns, collect_made, collect_serves, deliver_learns, deliver_made, deliver_serves, fetch_learns, fetch_made, fetch_serves, invoke_learns, invoke_made, invoke_serves, its_client, learnt, sync_learns, sync_made, sync_serves}
use Rattle.curp_law_served.proofs.Followed.{IsServedStep}
use Rattle.curp_law_served.proofs.History.{InvokesNone, Tells}
use Rattle.curp_law_served.proofs.Made.{IsMade}
use Rattle.curp_law_served.proofs.Recovery as renewing
use Rattle.curp_law_served.proofs.Recovery.{Halted, Renews, begins, halts, is_master, its_order, recover_made, renewed_serves, stop_made, stop_silent}
use Rattle.curp_law_served.proofs.Turns.{Leaves, Stands, later_leaves, length_push, made_state, makes_leaves, quiets_leaves, then_leaves}

-- ---- what holds in between

-- its master serves, and something was invoked behind the requests in turn
pub record IsServing (f : ℕ) (xs : List AnsweredRequest) (c : PartConfig) (q : ℕ) (s : Served) : Type 0 where
  pub serves : Serves f (length s.steps) s.world s.delivered c q
  pub begun : length (in_turn xs) < length s.world.history

-- and the client has the present entry, or will have it
pub record IsLearning (f : ℕ) (xs : List AnsweredRequest) (c : PartConfig) (q : ℕ) (s : Served) : Type 0 where
  pub serving : IsServing f xs c q s
  pub learns : ClientLearns s.world s.delivered c

-- its partition is recovered
pub record IsRenewing (f : ℕ) (xs : List AnsweredRequest) (c : PartConfig) (q : ℕ) (o : Recover) (cl : ClientState) (s : Served) : Type 0 where
  pub renews : Renews f (length s.steps) s.world s.delivered c q o cl
  pub begun : length (in_turn xs) < length s.world.history

-- its master is stopped, and every message is delivered
pub record IsHalted (f : ℕ) (xs : List AnsweredRequest) (c : PartConfig) (cl : ClientState) (s : Served) : Type 0 where
  pub halted : Halted f (length s.steps) s.world c cl
  pub begun : length (in_turn xs) < length s.world.history
  pub ended : s.delivered ≡ length (messages s.world)

-- every message is delivered, and the client has the present entry
pub record IsQuiet (f : ℕ) (c : PartConfig) (q : ℕ) (s : Served) : Type 0 where
  pub serves : Serves f (length s.steps) s.world (length (messages s.world)) c q
  pub ended : s.delivered ≡ length (messages s.world)
  pub config : (its_client serves).config.parts ≡ c ∷ []

-- and something was invoked
pub record IsDone (f : ℕ) (xs : List AnsweredRequest) (c : PartConfig) (q : ℕ) (s : Served) : Type 0 where
  pub at_rest : IsQuiet f c q s
  pub begun : length (in_turn xs) < length s.world.history

-- with some entry and some master
abbrev pub IsOver : ℕ → List AnsweredRequest → Served → Type 0
IsOver f xs s = (c : PartConfig) × (q : ℕ) × IsDone f xs c q s

-- the recovery has finished, and every message is delivered
abbrev pub IsRecovered : ℕ → List AnsweredRequest → Served → Type 0
IsRecovered f xs s = (c : PartConfig) × (q : ℕ) × IsServing f xs c q s × (s.delivered ≡ length (messages s.world))

module _ (f : ℕ) (low : f ≤ 5) (header : IsHeader (header_of f)) (xs : List AnsweredRequest) (id : RequestId)
    (command : Command) where
  abbrev Its : Served → Type 0
  Its s = Stands f xs id command s

  abbrev Left : (Served → Type 0) → Served → Type 0
  Left P s = Leaves f header xs id command P s

  abbrev After : Step → Served → Served
  After made s = made_state f header xs id command made s

  -- the history grows
  begun_later : (w : World) (x : Step) → length (in_turn xs) < length w.history
      → length (in_turn xs) < length (step w x).world.history
  begun_later w x low = let more = prefix_length (step_grows w x).history in omega (arith, low, more)

  -- ---- quieting, while its master serves

  module _ (c : PartConfig) (q : ℕ) where
    serving_goes : (s : Served) → Its s → IsServing f xs c q s → s.delivered < length (messages s.world)
        → (x : Step) (d : ℕ) → x ≡ steps.Deliver (suc s.delivered) → d ≡ suc s.delivered
        → (step s.world x).outcome.result ≡ Done → Serves f (length (s.steps ++ x ∷ [])) (step s.world x).world d c q
    serving_goes s st kept more x d is_x is_d made =
        let one : (step s.world (steps.Deliver (suc s.delivered))).outcome.result ≡ Done = subst (λ (y : Step). (step s.world y).outcome.result ≡ Done) is_x made in
        subst (λ (k : ℕ). Serves f k (step s.world x).world d c q) (sym (length_push s.steps x))
        (subst (λ (k : ℕ). Serves f (suc (length s.steps)) (step s.world x).world k c q) (sym is_d)
        (subst (λ (y : Step). Serves f (suc (length s.steps)) (step s.world y).world (suc s.delivered) c q) (sym is_x) (deliver_serves kept.serves more st.few one)))

    learning_goes : (s : Served) → Its s → IsLearning f xs c q s → s.delivered < length (messages s.world)
        → (x : Step) (d : ℕ) → x ≡ steps.Deliver (suc s.delivered) → d ≡ suc s.delivered
        → (step s.world x).outcome.result ≡ Done → ClientLearns (step s.world x).world d c
    learning_goes s st kept more x d is_x is_d made =
        let one : (step s.world (steps.Deliver (suc s.delivered))).outcome.result ≡ Done = subst (λ (y : Step). (step s.world y).outcome.result ≡ Done) is_x made in
        subst (λ (k : ℕ). ClientLearns (step s.world x).world k c) (sym is_d)
        (subst (λ (y : Step). ClientLearns (step s.world y).world (suc s.delivered) c) (sym is_x) (deliver_learns kept.serving.serves more st.few one kept.learns))

    next_step : (s : Served) → steps.Deliver (s.delivered + 1) ≡ steps.Deliver (suc s.delivered)
    next_step s = let e : s.delivered + 1 ≡ suc s.delivered = omega arith in ap (λ (k : ℕ). steps.Deliver k) e

    -- every message is delivered, unless it has stopped
    quiets_serving : (s : Served) → s.stopped ≡ None → Its s → IsLearning f xs c q s → Left (IsDone f xs c q) (quiets s)
    quiets_serving s none st kept =
        let left = quiets_leaves f header xs id command (IsLearning f xs c q) (λ t st k more. deliver_made k.serving.serves more)
        (λ t st k more made. record {
          serving = record {
            serves = serving_goes t st k.serving more (steps.Deliver (t.delivered + 1)) (t.delivered + 1) (next_step t) (omega arith) made;
            begun = begun_later t.world (steps.Deliver (t.delivered + 1)) k.serving.begun;
          };
          learns = learning_goes t st k more (steps.Deliver (t.delivered + 1)) (t.delivered + 1) (next_step t) (omega arith) made;
        }) s none st kept in
        (left.0, λ e. let k = left.1 e in at_rest (quiets s) k.0 k.1)
      where
        at_rest : (t : Served) → IsLearning f xs c q t → t.delivered ≡ length (messages t.world) → IsDone f xs c q t
        at_rest t k e =
            let serves = subst (λ (d : ℕ). Serves f (length t.steps) t.world d c q) e k.serving.serves in
            record {
              at_rest = record { serves = serves; ended = e; config = learnt serves (subst (λ (d : ℕ). ClientLearns t.world d c) e k.learns) };
              begun = k.serving.begun;
            }

    -- ---- steps that begin something

    -- after a step where every message was delivered
    learning : (made : Step) (s : Served) → s.delivered ≡ length (messages s.world)
        → length (in_turn xs) < length s.world.history
        → Serves f (suc (length s.steps)) (step s.world made).world (length (messages s.world)) c q → ClientLearns (step s.world made).world (length (messages s.world)) c → IsLearning f xs c q (After made s)
    learning made s ended begun serves learns = record {
      serving = record {
        serves = subst (λ (k : ℕ). Serves f k (step s.world made).world s.delivered c q) (sym (length_push s.steps made)) (subst (λ (d : ℕ). Serves f (suc (length s.steps)) (step s.world made).world d c q) (sym ended) serves);
        begun = begun_later s.world made begun;
      };
      learns = subst (λ (d : ℕ). ClientLearns (step s.world made).world d c) (sym ended) learns;
    }

    -- a step where every message is delivered
    begins_learning : (made : Step) → IsServedStep made → InvokesNone made → (s : Served) → s.stopped ≡ None → Its s
        → (quiet : IsDone f xs c q s) → IsMade s.world made
        → ((step s.world made).outcome.result ≡ Done → Serves f (suc (length s.steps)) (step s.world made).world (length (messages s.world)) c q × ClientLearns (step s.world made).world (length (messages s.world)) c)
        → Left (IsLearning f xs c q) (makes made s)
    begins_learning made its later s none st quiet can goes = later_leaves f header xs id command (IsLearning f xs c q) made its s st none later can (λ is room. learning made s quiet.at_rest.ended quiet.begun (goes is).0 (goes is).1)

    -- the newest master is the present one
    newest_is : (s : Served) → IsQuiet f c q s → newest_in s.world.manager.config.parts ≡ q
    newest_is s quiet = ap newest_in (calmly quiet.serves).manager ∙ ap (λ (k : NodeId). k.number) (calmly quiet.serves).its_master

    syncs : (s : Served) → s.stopped ≡ None → Its s → IsDone f xs c q s
        → Left (IsLearning f xs c q) (makes (steps.Sync (newest_in s.world.manager.config.parts)) s)
    syncs s none st quiet =
        let w = quiet.at_rest in
        subst (λ (k : ℕ). Left (IsLearning f xs c q) (makes (steps.Sync k) s)) (sym (newest_is s w))
        (begins_learning (steps.Sync q) tt tt s none st quiet (sync_made w.serves st.few) (λ is. (sync_serves w.serves st.few is, sync_learns w.serves st.few w.config)))

    collects : (s : Served) → s.stopped ≡ None → Its s → IsDone f xs c q s
        → Left (IsLearning f xs c q) (makes (steps.Collect (newest_in s.world.manager.config.parts)) s)
    collects s none st quiet =
        let w = quiet.at_rest in
        subst (λ (k : ℕ). Left (IsLearning f xs c q) (makes (steps.Collect k) s)) (sym (newest_is s w))
        (begins_learning (steps.Collect q) tt tt s none st quiet (collect_made w.serves st.few) (λ is. (collect_serves w.serves st.few is, collect_learns w.serves st.few w.config)))

    tidies_goes : (s : Served) → s.stopped ≡ None → Its s → IsDone f xs c q s → Left (IsDone f xs c q) (tidies s)
    tidies_goes s none st quiet =
        then_leaves f header xs id command (IsDone f xs c q) (IsDone f xs c q) _ _
        (then_leaves f header xs id command (IsLearning f xs c q) (IsDone f xs c q) _ quiets (syncs s none st quiet) (λ free stands k. quiets_serving _ free stands k))
        (λ free stands k. then_leaves f header xs id command (IsLearning f xs c q) (IsDone f xs c q) _ quiets (collects _ free stands k) (λ more again j. quiets_serving _ more again j))

  -- ---- a recovery

  module _ (c : PartConfig) (q : ℕ) (o : Recover) (cl : ClientState) where
    renewing_goes : (s : Served) → Its s → IsRenewing f xs c q o cl s → s.delivered < length (messages s.world)
        → (x : Step) (d : ℕ) → x ≡ steps.Deliver (suc s.delivered) → d ≡ suc s.delivered
        → (step s.world x).outcome.result ≡ Done → Renews f (length (s.steps ++ x ∷ [])) (step s.world x).world d c q o cl
    renewing_goes s st kept more x d is_x is_d made =
        let one : (step s.world (steps.Deliver (suc s.delivered))).outcome.result ≡ Done = subst (λ (y : Step). (step s.world y).outcome.result ≡ Done) is_x made in
        subst (λ (k : ℕ). Renews f k (step s.world x).world d c q o cl) (sym (length_push s.steps x))
        (subst (λ (k : ℕ). Renews f (suc (length s.steps)) (step s.world x).world k c q o cl) (sym is_d)
        (subst (λ (y : Step). Renews f (suc (length s.steps)) (step s.world y).world (suc s.delivered) c q o cl) (sym is_x) (renewing.deliver_renews kept.renews st.few more one)))

    -- where every message is delivered the fresh master serves
    quiets_renewing : (s : Served) → s.stopped ≡ None → Its s → IsRenewing f xs c q o cl s
        → Left (λ t. IsServing f xs (renewed c q o) q t × (t.delivered ≡ length (messages t.world))) (quiets s)
    quiets_renewing s none st kept =
        let left = quiets_leaves f header xs id command (IsRenewing f xs c q o cl) (λ t st k more. renewing.deliver_made k.renews st.few more)
        (λ t st k more made. record {
          renews = renewing_goes t st k more (steps.Deliver (t.delivered + 1)) (t.delivered + 1) (next_step c q t) (omega arith) made;
          begun = begun_later t.world (steps.Deliver (t.delivered + 1)) k.begun;
        }) s none st kept in
        (left.0, λ e. let k = left.1 e in (at_rest (quiets s) k.0 k.1, k.1))
      where
        at_rest : (t : Served) → IsRenewing f xs c q o cl t → t.delivered ≡ length (messages t.world)
            → IsServing f xs (renewed c q o) q t
        at_rest t k e = record {
          serves = subst (λ (d : ℕ). Serves f (length t.steps) t.world d (renewed c q o) q) (sym e) (renewed_serves (subst (λ (d : ℕ). Renews f (length t.steps) t.world d c q o cl) e k.renews));
          begun = k.begun;
        }

  -- the client asks
  fetches : (c : PartConfig) (q : ℕ) (s : Served) → s.stopped ≡ None → Its s → IsServing f xs c q s
      → s.delivered ≡ length (messages s.world) → Left (IsLearning f xs c q) (makes (steps.Fetch 1) s)
  fetches c q s none st kept ended =
      let serves = subst (λ (d : ℕ). Serves f (length s.steps) s.world d c q) ended kept.serves in
      later_leaves f header xs id command (IsLearning f xs c q) (steps.Fetch 1) tt s st none tt (fetch_made serves st.few)
      (λ is room. learning c q (steps.Fetch 1) s ended kept.begun (fetch_serves serves st.few is) (fetch_learns serves st.few is))

  -- the master is stopped
  stops : (c : PartConfig) (q : ℕ) (s : Served) → s.stopped ≡ None → Its s → (quiet : IsDone f xs c q s)
      → Left (IsHalted f xs c (its_client quiet.at_rest.serves)) (makes (steps.Stop (master_node (newest_in s.world.manager.config.parts))) s)
  stops c q s none st quiet =
      let w = quiet.at_rest in
      let own : c.master ≡ master_node (newest_in s.world.manager.config.parts) = (calmly w.serves).its_master ∙ ap (λ (k : ℕ). master_node k) (sym (newest_is c q s w)) in
      subst (λ (node : NodeId). Left (IsHalted f xs c (its_client w.serves)) (makes (steps.Stop node) s)) own
      (later_leaves f header xs id command (IsHalted f xs c (its_client w.serves)) (steps.Stop c.master) (is_master w.serves st.few) s st none tt (inl (stop_made w.serves st.few))
      (λ is room. record {
        halted = subst (λ (k : ℕ). Halted f k (step s.world (steps.Stop c.master)).world c (its_client w.serves)) (sym (length_push s.steps (steps.Stop c.master))) (halts w.serves st.few);
        begun = begun_later s.world (steps.Stop c.master) quiet.begun;
        ended = w.ended ∙ ap (λ (ms : List Message). length ms) (sym (stop_silent w.serves st.few));
      }))

  -- a recovery is ordered, and finishes
  recovers : (c : PartConfig) (cl : ClientState) (s : Served) → s.stopped ≡ None → Its s → IsHalted f xs c cl s
      → Left (IsRecovered f xs) (and_then (makes (steps.Recover 1 1 1) s) quiets)
  recovers c cl s none st h =
      let q = s.world.manager.next.master in
      let o = its_order h.halted st.few low in
      then_leaves f header xs id command (IsRenewing f xs c q o cl) (IsRecovered f xs) _ quiets
      (later_leaves f header xs id command (IsRenewing f xs c q o cl) (steps.Recover 1 1 1) tt s st none tt (recover_made h.halted st.few low)
      (λ is room. record {
        renews = subst (λ (k : ℕ). Renews f k (step s.world (steps.Recover 1 1 1)).world s.delivered c q o cl) (sym (length_push s.steps (steps.Recover 1 1 1)))
            (subst (λ (d : ℕ). Renews f (suc (length s.steps)) (step s.world (steps.Recover 1 1 1)).world d c q o cl) (sym h.ended) (begins h.halted st.few low is));
        begun = begun_later s.world (steps.Recover 1 1 1) h.begun;
      }))
      (λ free stands k. let left = quiets_renewing c q o cl _ free stands k in (left.0, λ e. (renewed c q o, q, (left.1 e).0, (left.1 e).1)))

  -- and the client asks
  asks : (c : PartConfig) (q : ℕ) (s : Served) → s.stopped ≡ None → Its s → IsServing f xs c q s
      → s.delivered ≡ length (messages s.world) → Left (IsOver f xs) (with_quieting (steps.Fetch 1) s)
  asks c q s none st kept ended =
      then_leaves f header xs id command (IsLearning f xs c q) (IsOver f xs) _ quiets (fetches c q s none st kept ended)
      (λ free stands k. let left = quiets_serving c q _ free stands k in (left.0, λ e. (c, q, left.1 e)))

  replaces : (c : PartConfig) (q : ℕ) (s : Served) → s.stopped ≡ None → Its s → IsDone f xs c q s
      → Left (IsOver f xs) (replaces_master s)
  replaces c q s none st quiet =
      then_leaves f header xs id command (IsRecovered f xs) (IsOver f xs) _ (with_quieting (steps.Fetch 1))
      (then_leaves f header xs id command (IsHalted f xs c (its_client quiet.at_rest.serves)) (IsRecovered f xs) _ (with_quieting (steps.Recover 1 1 1))
      (stops c q s none st quiet) (λ free stands h. recovers c (its_client quiet.at_rest.serves) _ free stands h))
      (λ free stands k. asks k.0 k.1 _ free stands k.2 k.3)

  -- ---- a command

  counted : (k : Served) (count : ℕ) → Its k → Its (record k { commands = count })
  counted k count st = record { its = st.its; is = st.is; few = st.few; low = st.low; tells = st.tells }

  counted_done : (c : PartConfig) (q : ℕ) (k : Served) (count : ℕ) → IsDone f xs c q k
      → IsDone f xs c q (record k { commands = count })
  counted_done c q k count done = record { at_rest = record { serves = done.at_rest.serves; ended = done.at_rest.ended; config = done.at_rest.config }; begun = done.begun }

  by_turn : (b : Bool) (P Q : Served → Type 0) (act : Served → Served) (s : Served) → s.stopped ≡ None → Its s → Q s
      → ((t : Served) → t.stopped ≡ None → Its t → Q t → Left P (act t)) → ((t : Served) → Q t → P t)
      → Left P (if_turn b act s)
  by_turn true P Q act s none st is goes same = goes s none st is
  by_turn false P Q act s none st is goes same = (st, λ e. same s is)

  -- it is invoked, and all that follows
  module _ (every : ℕ) (keys : NamesKey command) (c : PartConfig) (q : ℕ) (s : Served) (none : s.stopped ≡ None) (quiet : IsQuiet f c q s) (st : Stands f xs id command (record s { answer = None }))
      (told : (step s.world (steps.Invoke 1 command)).outcome.result ≡ Done → Tells (step s.world (steps.Invoke 1 command)).world xs id command (answer_by None (step s.world (steps.Invoke 1 command)).outcome.completed))
      (longer : (step s.world (steps.Invoke 1 command)).outcome.result ≡ Done → length (in_turn xs) < length (step s.world (steps.Invoke 1 command)).world.history) where
    invokes : Left (IsLearning f xs c q) (makes (steps.Invoke 1 command) (record s { answer = None }))
    invokes = makes_leaves f header xs id command (IsLearning f xs c q) (steps.Invoke 1 command) keys (record s { answer = None }) st none
        (invoke_made quiet.serves st.few command keys quiet.config) told
        (λ is room. record {
          serving = record {
            serves = subst (λ (k : ℕ). Serves f k (step s.world (steps.Invoke 1 command)).world s.delivered c q) (sym (length_push s.steps (steps.Invoke 1 command)))
                (subst (λ (d : ℕ). Serves f (suc (length s.steps)) (step s.world (steps.Invoke 1 command)).world d c q) (sym quiet.ended) (invoke_serves quiet.serves st.few command keys quiet.config is));
            begun = longer is;
          };
          learns = subst (λ (d : ℕ). ClientLearns (step s.world (steps.Invoke 1 command)).world d c) (sym quiet.ended) (invoke_learns quiet.serves st.few command keys quiet.config is);
        })

    pub serve_leaves : Left (IsOver f xs) (serve every command s)
    unfolding serve
    serve_leaves =
        then_leaves f header xs id command (IsDone f xs c q) (IsOver f xs) _ (λ k. if_turn (is_turn every k.commands) replaces_master k)
        (then_leaves f header xs id command (IsDone f xs c q) (IsDone f xs c q) _ (λ k. if_turn (is_turn 16 (k.commands + 1)) tidies (record k { commands = k.commands + 1 }))
        (then_leaves f header xs id command (IsLearning f xs c q) (IsDone f xs c q) _ quiets invokes (λ free stands k. quiets_serving c q _ free stands k))
        (λ free stands k. tidied _ free stands k))
        (λ free stands k. replaced _ free stands k)
      where
        tidied : (k : Served) → k.stopped ≡ None → Its k → IsDone f xs c q k
            → Left (IsDone f xs c q) (if_turn (is_turn 16 (k.commands + 1)) tidies (record k { commands = k.commands + 1 }))
        tidied k free stands done = by_turn (is_turn 16 (k.commands + 1)) (IsDone f xs c q) (IsDone f xs c q) tidies (record k { commands = k.commands + 1 }) free (counted k (k.commands + 1) stands) (counted_done c q k (k.commands + 1) done)
            (λ t still stands done. tidies_goes c q t still stands done) (λ t done. done)

        replaced : (k : Served) → k.stopped ≡ None → Its k → IsDone f xs c q k
            → Left (IsOver f xs) (if_turn (is_turn every k.commands) replaces_master k)
        replaced k free stands done = by_turn (is_turn every k.commands) (IsOver f xs) (IsDone f xs c q) replaces_master k free stands done
            (λ t still stands done. replaces c q t still stands done) (λ t done. (c, q, done))
