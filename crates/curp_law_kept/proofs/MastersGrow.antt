-- One input grows a serving master.
use Rattle.std.proofs.Common.{◌≡◌, ℕ, ◌+◌, ◌==◌, ◌&&◌, ◌||◌, ◌≤◌, Bool, true, false, not, List, [], ◌∷◌, ◌++◌, length, nat_le, nat_lt, refl, arith, Option, Some, None, sym, ◌∙◌, subst}
use Rattle.std.specs.List.{list_any}
use Rattle.std.proofs.lemmas.Bool.{cond_both}
use Rattle.std.proofs.lemmas.Bool.Decides.{nat_tests}
use Rattle.curp_base.specs.Words.{IsPrefix}
use Rattle.curp_base.proofs.Lists.{prefix_self, prefix_push, prefix_trans}
use Rattle.curp_cmd.specs.declared.command.Command.{Command}
use Rattle.curp_cmd.specs.declared.command.Command.TheVariants.{Get}
use Rattle.curp_cmd.specs.declared.command.Request.{Request}
use Rattle.curp_cmd.specs.declared.entry.Entry.{Entry}
use Rattle.curp_cmd.specs.declared.entry.Entry.TheVariants.{Op}
use Rattle.curp_cmd.specs.declared.node.NodeId.{NodeId}
use Rattle.curp_msg.specs.declared.answer.AppendAnswer.{AppendAnswer}
use Rattle.curp_msg.specs.declared.answer.AppendAnswer.TheVariants.{Stored}
use Rattle.curp_msg.specs.declared.answer.GcAnswer.{GcAnswer}
use Rattle.curp_msg.specs.declared.answer.GcAnswer.TheVariants.{Suspects}
use Rattle.curp_msg.specs.declared.body.Ask.{Ask}
use Rattle.curp_msg.specs.declared.body.Body.{Body}
use Rattle.curp_msg.specs.declared.body.Body.TheVariants as body
use Rattle.curp_msg.specs.declared.body.Prepare.{Prepare}
use Rattle.curp_msg.specs.declared.body.TakeOut.{TakeOut}
use Rattle.curp_msg.specs.declared.body.Parcel.{Parcel}
use Rattle.curp_msg.specs.declared.machine.Local.{Local}
use Rattle.curp_msg.specs.declared.machine.Local.TheVariants as local
use Rattle.curp_msg.specs.declared.message.Message.{Message}
use Rattle.curp_range.specs.Spans.{is_covered}
use Rattle.curp_model.specs.declared.Check.{Check}
use Rattle.curp_model.specs.declared.Check.TheVariants.{Expired, Stale, Known, New}
use Rattle.curp_model.specs.Log.{LastGive, LastTake}
use Rattle.curp_model.specs.Master.{MasterState, Phase, Open, Switching, Switch, adopted_in, all_have, by_message, carries_out, collect_in, executes, give_after, goes_on, is_clean, is_open, last_round, on_appended, on_collected, on_expire, on_give, on_read, on_serving, on_stored, on_take, on_update, prepare_in, prepares, push_take, raised, read_command, read_of, read_refusal, serving_ordered, settle, state_of, stored_on, switch_to, sync_in, synced, take_after, told_again, treat, treated, treats, unless_it_ends, verdict, answers_at_once, glance_command, glance_of, on_glance}
use Rattle.curp_model.specs.declared.Verdict.TheVariants.{Deny, Tell, TellAgain, HoldBack, Execute}
use Rattle.curp_model.specs.declared.Verdict.{Verdict}
use Rattle.curp_model.specs.declared.Wish.TheVariants.{AtOnce, WhenSynced}
use Rattle.curp_model.specs.declared.Wish.{Wish}
use Rattle.curp_cmd.specs.Node.{is_among}
use Rattle.curp_base.specs.Words.{rises_past}
use Rattle.curp_msg.specs.declared.answer.Refusal.{Refusal}
use Rattle.curp_msg.specs.Moved.{Moved}
use Rattle.curp_model.specs.Ranges.{owns_all}
use Rattle.curp_cmd.specs.Hash.{hashes}
use Rattle.curp_model.specs.Table.{check, is_gone}
use Rattle.curp_facts.specs.Growth.{Growing, core, CoreGrows, ServesOn, Above}

-- ---- cores

-- a core that stays
pub core_self : (c : Growing) → CoreGrows c c
core_self c = record { part = refl; epoch = refl; lo = refl; hi = refl; log = prefix_self c.log; round = omega arith; captured = omega arith; free = λ i h. h; version = λ a. omega arith; above = λ a. a }

-- one growth behind another
pub core_trans : (c d e : Growing) → CoreGrows c d → CoreGrows d e → CoreGrows c e
core_trans c d e p q = record {
  part = q.part ∙ p.part;
  epoch = q.epoch ∙ p.epoch;
  lo = q.lo ∙ p.lo;
  hi = q.hi ∙ p.hi;
  log = prefix_trans p.log q.log;
  round = omega (arith, p.round, q.round);
  captured = omega (arith, p.captured, q.captured);
  free = λ i h. q.free i (p.free i h);
  version = λ a. omega (arith, p.version a, q.version (p.above a));
  above = λ a. q.above (p.above a);
}

-- what of a core may change, and by what
core_to : (c : Growing) (version : ℕ) (log : List Entry) (round captured : ℕ) (phase : Phase) → IsPrefix c.log log → c.round ≤ round → c.captured ≤ captured
    → (Above c.version c.phase → c.version ≤ version) → (Above c.version c.phase → Above version phase)
    → CoreGrows c (record c { version = version; log = log; round = round; captured = captured; phase = phase })
core_to c version log round captured phase p r k v a = record { part = refl; epoch = refl; lo = refl; hi = refl; log = p; round = r; captured = k; free = λ i h. h; version = v; above = a }

core_pushes : (c : Growing) (es : List Entry) → CoreGrows c (record c { log = c.log ++ es })
core_pushes c es = core_to c c.version (c.log ++ es) c.round c.captured c.phase (prefix_push c.log es) (omega arith) (omega arith) (λ a. omega arith) (λ a. a)

core_rounds : (c : Growing) → CoreGrows c (record c { round = c.round + 1 })
core_rounds c = core_to c c.version c.log (c.round + 1) c.captured c.phase (prefix_self c.log) (omega arith) (omega arith) (λ a. omega arith) (λ a. a)

core_pushes_round : (c : Growing) (es : List Entry) → CoreGrows c (record c { log = c.log ++ es; round = c.round + 1 })
core_pushes_round c es = core_to c c.version (c.log ++ es) (c.round + 1) c.captured c.phase (prefix_push c.log es) (omega arith) (omega arith) (λ a. omega arith) (λ a. a)

-- an answer at once takes a capture number alone
core_glances : (c : Growing) → CoreGrows c (record c { captured = c.captured + 1 })
core_glances c = core_to c c.version c.log c.round (c.captured + 1) c.phase (prefix_self c.log) (omega arith) (omega arith) (λ a. omega arith) (λ a. a)

core_captures : (c : Growing) → CoreGrows c (record c { round = c.round + 1; captured = c.captured + 1 })
core_captures c = core_to c c.version c.log (c.round + 1) (c.captured + 1) c.phase (prefix_self c.log) (omega arith) (omega arith) (λ a. omega arith) (λ a. a)

-- one more is free
core_frees : (c d : Growing) (index : ℕ) → d.free ≡ c.free → CoreGrows c d → CoreGrows c (record d { free = d.free ++ index ∷ [] })
core_frees c d index same g = record {
  part = g.part;
  epoch = g.epoch;
  lo = g.lo;
  hi = g.hi;
  log = g.log;
  round = g.round;
  captured = g.captured;
  free = λ i h. any_append (λ k. k == i) d.free (index ∷ []) (g.free i h);
  version = g.version;
  above = g.above;
}
  where
    any_append : (p : ℕ → Bool) (xs ys : List ℕ) → list_any p xs ≡ true → list_any p (xs ++ ys) ≡ true
    any_append p [] ys h = absurd cc
    any_append p (x ∷ xs) ys h = step (p x) (any_append p xs ys) h
      where
        step : (b : Bool) → (list_any p xs ≡ true → list_any p (xs ++ ys) ≡ true) → (b || list_any p xs) ≡ true → (b || list_any p (xs ++ ys)) ≡ true
        step true more h = refl
        step false more h = more h

abbrev pub Goes : MasterState → Moved MasterState → Type 0
Goes m r = ServesOn m r.state

module _ (n : ℕ) (m : MasterState) where
  rests : CoreGrows (core m) (core m)
  rests = core_self (core m)

  executes_goes : (w : Wish) (r : Request) (clean : Bool) → Goes m (executes n m w r clean)
  executes_goes AtOnce r true = core_frees (core m) (record (core m) { log = m.log ++ Op r r.first ∷ [] }) (length m.log) refl (core_pushes (core m) _)
  executes_goes AtOnce r false = core_pushes_round (core m) _
  executes_goes WhenSynced r true = core_frees (core m) (record (core m) { log = m.log ++ Op r r.first ∷ []; round = m.round + 1 }) (length m.log) refl (core_pushes_round (core m) _)
  executes_goes WhenSynced r false = core_pushes_round (core m) _

  carries_goes : (w : Wish) (r : Request) (v : Verdict) → Goes m (carries_out n m w r v)
  carries_goes w r (Deny why) = rests
  carries_goes w r (Tell a) = rests
  carries_goes w r (TellAgain a) = rests
  carries_goes w r (HoldBack index) = core_rounds (core m)
  carries_goes w r Execute = executes_goes w r (is_clean m r.command)

  update_goes : (w : Wish) (ask : Ask) → Goes m (on_update n m w ask)
  unfolding on_update
  update_goes w ask = carries_goes w ask.request (verdict m w ask)

  -- ---- reads

  read_of_goes : (r : Request) (key : List ℕ) (o : Option Refusal) → Goes m (read_of n m r key o)
  read_of_goes r key (Some why) = rests
  read_of_goes r key None = core_captures (core m)

  command_goes : (ask : Ask) (c : Command) → Goes m (read_command n m ask c)
  command_goes ask (Get key) = read_of_goes ask.request key (read_refusal m ask)
  command_goes ask _ = rests

  read_goes : (ask : Ask) → Goes m (on_read n m ask)
  unfolding on_read
  read_goes ask = command_goes ask ask.request.command

  glance_of_goes : (r : Request) (key : List ℕ) (o : Option Refusal) → Goes m (glance_of n m r key o)
  glance_of_goes r key (Some why) = rests
  glance_of_goes r key None = cond_both (is_clean m r.command) _ _ (Goes m) (λ y. core_glances (core m)) (λ y. core_captures (core m))

  glance_command_goes : (ask : Ask) (c : Command) → Goes m (glance_command n m ask c)
  glance_command_goes ask (Get key) = glance_of_goes ask.request key (read_refusal m ask)
  glance_command_goes ask _ = rests

  glance_goes : (ask : Ask) → Goes m (on_glance n m ask)
  unfolding on_glance
  glance_goes ask = glance_command_goes ask ask.request.command

  -- ---- what backups say

  settle_goes : (k : MasterState) → CoreGrows (core m) (core k) → Goes m (settle n k)
  unfolding settle
  settle_goes k g = g

  prepares_goes : (k : MasterState) (s : Switch) → core k ≡ core m → m.phase ≡ Switching s → Goes m (prepares n k s)
  prepares_goes k s same is = cond_both (not s.prepared && all_have k.acknowledged s.backups (length k.log) s.round) _ _ (Goes m)
      (λ y. go (core m) (core k) same is) (λ y. subst (CoreGrows (core m)) (sym same) rests)
    where
      go : (c d : Growing) → d ≡ c → c.phase ≡ Switching s → CoreGrows c (record d { phase = Switching (record s { prepared = true }) })
      go c d e is = subst (λ (x : Growing). CoreGrows c (record x { phase = Switching (record s { prepared = true }) })) (sym e)
          (core_to c c.version c.log c.round c.captured (Switching (record s { prepared = true })) (prefix_self c.log) (omega arith) (omega arith) (λ a. omega arith) (λ a. subst (Above c.version) is a))

  goes_on_goes : (k : MasterState) (p : Phase) → core k ≡ core m → m.phase ≡ p → Goes m (goes_on n k p)
  goes_on_goes k Open same is = settle_goes k (subst (CoreGrows (core m)) (sym same) rests)
  goes_on_goes k (Switching s) same is = prepares_goes k s same is

  stored_goes : (from : NodeId) (long round : ℕ) → Goes m (on_stored n m from long round)
  stored_goes from long round = cond_both (is_among from (stored_on m)) _ _ (Goes m)
      (λ y. goes_on_goes (record m { acknowledged = raised m.acknowledged from long round }) m.phase refl refl) (λ y. rests)

  appended_goes : (from : NodeId) (round : ℕ) (a : AppendAnswer) → Goes m (on_appended n m from round a)
  unfolding on_appended
  appended_goes from round (Stored long) = stored_goes from long round
  appended_goes from round _ = rests

-- ---- suspects

treated_goes : (m : MasterState) (r : Request) (c : Check) → ServesOn m (treated m r c)
treated_goes m r (Known a index) = core_self (core m)
treated_goes m r (Stale first) = core_self (core m)
treated_goes m r Expired = core_self (core m)
treated_goes m r New = cond_both (owns_all (state_of m).owned (hashes r.command)) _ _ (ServesOn m) (λ y. core_pushes (core m) _) (λ y. core_self (core m))

treat_goes : (m : MasterState) (rs : List Request) → ServesOn m (treat m rs)
treat_goes m [] = core_self (core m)
treat_goes m (r ∷ rs) =
    let k = treated m r (check (state_of m).table r.id) in
    core_trans (core m) (core k) (core (treat k rs)) (treated_goes m r (check (state_of m).table r.id)) (treat_goes k rs)

module _ (n : ℕ) (m : MasterState) where
  treats_goes : (rs : List Request) → Goes m (treats n m rs)
  treats_goes rs =
      let k = treat m rs in
      cond_both (length k.log == length m.log) _ _ (Goes m) (λ y. treat_goes m rs)
      (λ y. core_trans (core m) (core k) (record (core k) { round = k.round + 1 }) (treat_goes m rs) (core_rounds (core k)))

  collected_goes : (a : GcAnswer) → Goes m (on_collected n m a)
  unfolding on_collected
  collected_goes (Suspects rs) = cond_both (is_open m.phase) _ _ (Goes m) (λ y. treats_goes rs) (λ y. core_self (core m))
  collected_goes _ = core_self (core m)

  -- ---- new lists

  prepare_goes : (p : Prepare) (at : Phase) → Goes m (prepare_in n m p at)
  prepare_goes p Open = cond_both (nat_lt m.version p.version) _ _ (Goes m)
      (λ y. core_to (core m) m.version m.log (m.round + 1) m.captured (Switching (switch_to m p)) (prefix_self m.log) (omega arith) (omega arith) (λ a. omega arith) (λ a. higher y)) (λ y. core_self (core m))
    where
      higher : nat_lt m.version p.version ≡ true → m.version ≤ p.version
      higher y = grind (arith, nat_tests)
  prepare_goes p (Switching s) = cond_both (s.version == p.version) _ _ (Goes m) (λ y. core_rounds (core m)) (λ y. core_self (core m))

  adopted_goes : (version : ℕ) (at : Phase) → m.phase ≡ at → Goes m (adopted_in n m version at)
  adopted_goes version Open is = core_self (core m)
  adopted_goes version (Switching s) is = cond_both (s.version == version) _ _ (Goes m)
      (λ y. settle_goes n m (record m { version = s.version; backups = s.backups; witnesses = s.witnesses; phase = Open })
      (core_to (core m) s.version m.log m.round m.captured Open (prefix_self m.log) (omega arith) (omega arith) (λ a. subst (Above m.version) is a) (λ a. tt))) (λ y. core_self (core m))

  -- ---- migrations

  told_goes : (index : ℕ) (x : Message) → Goes m (told_again n m index x)
  told_goes index x = cond_both (nat_lt index (synced m)) _ _ (Goes m) (λ y. core_self (core m)) (λ y. core_rounds (core m))

  push_take_goes : (t : TakeOut) → Goes m (push_take n m t)
  push_take_goes t = cond_both (is_covered (state_of m).owned t.lo t.hi) _ _ (Goes m) (λ y. core_pushes_round (core m) _) (λ y. core_self (core m))

  take_goes : (t : TakeOut) (o : Option LastTake) → Goes m (take_after n m t o)
  take_goes t None = push_take_goes t
  take_goes t (Some last) = cond_both (t.migration == last.migration) _ _ (Goes m) (λ y. told_goes last.index _)
      (λ y. cond_both (nat_lt last.migration t.migration) _ _ (Goes m) (λ y. push_take_goes t) (λ y. core_self (core m)))

  give_goes : (g : Parcel) (o : Option LastGive) → Goes m (give_after n m g o)
  give_goes g None = core_pushes_round (core m) _
  give_goes g (Some last) = cond_both (nat_le g.migration last.migration) _ _ (Goes m) (λ y. told_goes last.index _) (λ y. core_pushes_round (core m) _)

  on_take_goes : (t : TakeOut) → Goes m (on_take n m t)
  on_take_goes t = cond_both (is_open m.phase) _ _ (Goes m) (λ y. take_goes t (state_of m).taken) (λ y. core_self (core m))

  on_give_goes : (g : Parcel) → Goes m (on_give n m g)
  on_give_goes g = cond_both (is_open m.phase) _ _ (Goes m) (λ y. give_goes g (state_of m).given) (λ y. core_self (core m))

  expire_goes : (client : ℕ) → Goes m (on_expire n m client)
  expire_goes client = cond_both (is_gone (state_of m).table client) _ _ (Goes m) (λ y. core_self (core m)) (λ y. core_pushes_round (core m) _)

  -- ---- inputs

  ends_goes : (r : Moved MasterState) → Goes m r → Goes m (unless_it_ends m r)
  ends_goes r g = cond_both (rises_past last_round m.round r.state.round || rises_past last_round m.captured r.state.captured) _ _ (Goes m) (λ y. core_self (core m)) (λ y. g)

  message_goes : (from : NodeId) (b : Body) → Goes m (by_message n m from b)
  message_goes from (body.Update ask) = update_goes n m AtOnce ask
  message_goes from (body.Sync ask) = update_goes n m WhenSynced ask
  message_goes from (body.Read ask) = read_goes n m ask
  message_goes from (body.Glance ask) = glance_goes n m ask
  message_goes from (body.Appended a) = appended_goes n m from a.round a.answer
  message_goes from (body.Collected c) = collected_goes c.answer
  message_goes from (body.Prepare p) = prepare_goes p m.phase
  message_goes from (body.Adopted a) = adopted_goes a.version m.phase refl
  message_goes from (body.TakeOut t) = on_take_goes t
  message_goes from (body.GiveIn g) = on_give_goes g
  message_goes from (body.ExpireClient client) = expire_goes client
  message_goes from _ = core_self (core m)

  -- a message grows a serving master
  pub serving_grows : (from : NodeId) (b : Body) → ServesOn m (on_serving n m from b).state
  unfolding on_serving
  serving_grows from b = ends_goes (by_message n m from b) (message_goes from b)

  sync_goes : (at : Phase) → Goes m (sync_in n m at)
  sync_goes Open = core_rounds (core m)
  sync_goes (Switching s) = cond_both s.prepared _ _ (Goes m) (λ y. core_rounds (core m)) (λ y. core_rounds (core m))

  collect_goes : (at : Phase) → Goes m (collect_in n m at)
  collect_goes Open = core_self (core m)
  collect_goes (Switching s) = core_self (core m)

  -- and so does an order
  pub serving_ordered_grows : (order : Local) → ServesOn m (serving_ordered n m order).state
  unfolding serving_ordered
  serving_ordered_grows local.Sync = ends_goes (sync_in n m m.phase) (sync_goes m.phase)
  serving_ordered_grows local.Collect = collect_goes m.phase
  serving_ordered_grows _ = core_self (core m)
