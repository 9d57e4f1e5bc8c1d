-- How much of an input a master pushes and captures.
use Rattle.std.proofs.Common.{◌≡◌, inl, inr, ℕ, ◌+◌, ◌≤◌, Bool, true, false, not, ◌&&◌, ◌||◌, ◌==◌, nat_le, nat_lt, List, [], ◌∷◌, ◌++◌, length, Option, Some, None, Result, Ok, Err, length-append, arith, refl, ap, sym, ◌∙◌, subst}
use Rattle.std.proofs.lemmas.Bool.{cond_both}
use Rattle.std.specs.declared.alloc.AllocError.{AllocError}
use Rattle.curp_base.specs.Words.{rises_past}
use Rattle.curp_cmd.specs.Hash.{hashes}
use Rattle.curp_cmd.specs.Node.{is_among}
use Rattle.curp_cmd.specs.declared.command.Command.{Command}
use Rattle.curp_cmd.specs.declared.command.Command.TheVariants.{Get}
use Rattle.curp_cmd.specs.declared.command.Request.{Request}
use Rattle.curp_cmd.specs.declared.entry.Entry.{Entry}
use Rattle.curp_cmd.specs.declared.entry.Entry.TheVariants.{Op}
use Rattle.curp_cmd.specs.declared.node.NodeId.{NodeId}
use Rattle.curp_model.specs.declared.Check.{Check}
use Rattle.curp_model.specs.declared.Check.TheVariants.{Expired, Stale, Known, New}
use Rattle.curp_model.specs.Log.{LastGive, LastTake}
use Rattle.curp_model.specs.Master.{MasterState, Acknowledged, Open, Phase, Switch, Switching, adopted_in, all_have, captures_read, carries_out, collect_in, executes, give_after, glance_command, glance_of, goes_on, is_clean, is_open, last_round, on_appended, on_collected, on_expire, on_give, on_glance, on_read, on_serving, on_stored, on_take, on_update, prepare_in, prepares, push_take, raised, read_command, read_of, read_refusal, serving_ordered, settle, state_of, stored_on, sync_in, synced, take_after, told_again, treat, treated, treats, unless_it_ends, verdict}
use Rattle.curp_model.specs.declared.Verdict.TheVariants.{Deny, Execute, HoldBack, Tell, TellAgain}
use Rattle.curp_model.specs.declared.Verdict.{Verdict}
use Rattle.curp_model.specs.declared.Wish.TheVariants.{AtOnce, WhenSynced}
use Rattle.curp_model.specs.declared.Wish.{Wish}
use Rattle.curp_model.specs.Ranges.{owns_all}
use Rattle.curp_model.specs.Recovery.{Fresh, MasterStage, Recovering, Serving, master_input, on_master, master_ordered}
use Rattle.curp_model.specs.Table.{check, is_gone}
use Rattle.curp_msg.specs.Moved.{Moved, Moves, Node, numbered_move}
use Rattle.curp_msg.specs.declared.answer.AppendAnswer.{AppendAnswer}
use Rattle.curp_msg.specs.declared.answer.AppendAnswer.TheVariants as answer
use Rattle.curp_msg.specs.declared.answer.GcAnswer.{GcAnswer}
use Rattle.curp_msg.specs.declared.answer.GcAnswer.TheVariants.{Suspects}
use Rattle.curp_msg.specs.declared.answer.Refusal.{Refusal}
use Rattle.curp_msg.specs.declared.body.Ask.{Ask}
use Rattle.curp_msg.specs.declared.body.Body.{Body}
use Rattle.curp_msg.specs.declared.body.Body.TheVariants as body
use Rattle.curp_msg.specs.declared.body.Parcel.{Parcel}
use Rattle.curp_msg.specs.declared.body.Prepare.{Prepare}
use Rattle.curp_msg.specs.declared.body.TakeOut.{TakeOut}
use Rattle.curp_msg.specs.declared.machine.Done.{Done}
use Rattle.curp_msg.specs.Input.{Input}
use Rattle.curp_msg.specs.Input as input
use Rattle.curp_msg.specs.declared.machine.Local.{Local}
use Rattle.curp_msg.specs.declared.machine.Local.TheVariants as local
use Rattle.curp_msg.specs.declared.message.Message.{Message}
use Rattle.curp_range.specs.Spans.{is_covered}
use Rattle.curp_line.specs.Due.{IsFew, IsFewOf, most_by_message, most_marks, most_suspects}

-- ---- a master that pushes, and one that captures

module _ (n : ℕ) (m : MasterState) where
  -- so many entries and reads are new at most
  abbrev AtMost : ℕ → Moved MasterState → Type 0
  AtMost most r = IsFew m r.state most

  -- nothing was captured, and so much was pushed at most
  pushes : (most : ℕ) (after : MasterState) → after.captured ≡ m.captured → length after.log ≤ length m.log + most → IsFew m after most
  pushes most after same few = record { few = omega (arith, few, same); captures = inl same }

  still : (most : ℕ) (after : MasterState) → after.captured ≡ m.captured → after.log ≡ m.log → IsFew m after most
  still most after same log = pushes most after same (omega (arith, ap (λ (es : List Entry). length es) log))

  one_more : (after : MasterState) (e : Entry) → after.captured ≡ m.captured → after.log ≡ m.log ++ e ∷ [] → IsFew m after 1
  one_more after e same log =
      pushes 1 after same (omega (arith, ap (λ (es : List Entry). length es) log, length-append m.log (e ∷ [])))

  -- ---- updates

  executes_few : (wish : Wish) (r : Request) (clean : Bool) → AtMost 1 (executes n m wish r clean)
  executes_few AtOnce r true = one_more _ _ refl refl
  executes_few AtOnce r false = one_more _ _ refl refl
  executes_few WhenSynced r true = one_more _ _ refl refl
  executes_few WhenSynced r false = one_more _ _ refl refl

  carries_few : (wish : Wish) (r : Request) (v : Verdict) → AtMost 1 (carries_out n m wish r v)
  carries_few wish r (Deny why) = still 1 _ refl refl
  carries_few wish r (Tell a) = still 1 _ refl refl
  carries_few wish r (TellAgain a) = still 1 _ refl refl
  carries_few wish r (HoldBack index) = still 1 _ refl refl
  carries_few wish r Execute = executes_few wish r (is_clean m r.command)

  update_few : (wish : Wish) (ask : Ask) → AtMost 1 (on_update n m wish ask)
  unfolding on_update
  update_few wish ask = carries_few wish ask.request (verdict m wish ask)

  -- ---- reads

  capture_few : (r : Request) (key : List ℕ) → AtMost 1 (captures_read n m r key)
  capture_few r key = record {
    few = omega arith;
    captures = inr (inr (record { capture = _; captures = refl; number = refl; captured = refl; round = refl }));
  }

  read_few : (ask : Ask) → AtMost 1 (on_read n m ask)
  unfolding on_read
  read_few ask = go ask.request.command
    where
      answered : (key : List ℕ) (why : Option Refusal) → AtMost 1 (read_of n m ask.request key why)
      answered key (Some why) = still 1 _ refl refl
      answered key None = capture_few ask.request key

      go : (command : Command) → AtMost 1 (read_command n m ask command)
      go (Get key) = answered key (read_refusal m ask)
      go _ = still 1 m refl refl

  glance_few : (ask : Ask) → AtMost 1 (on_glance n m ask)
  unfolding on_glance
  glance_few ask = go ask.request.command
    where
      answered : (key : List ℕ) (why : Option Refusal) → AtMost 1 (glance_of n m ask.request key why)
      answered key (Some why) = still 1 _ refl refl
      answered key None =
          cond_both (is_clean m ask.request.command) _ _ (AtMost 1)
          (λ clean. record { few = omega arith; captures = inr (inl refl) }) (λ dirty. capture_few ask.request key)

      go : (command : Command) → AtMost 1 (glance_command n m ask command)
      go (Get key) = answered key (read_refusal m ask)
      go _ = still 1 m refl refl

  -- ---- what backups say

  module _ (acks : List Acknowledged) where
    abbrev acked : MasterState
    acked = record m { acknowledged = acks }

    prepares_few : (s : Switch) → AtMost 0 (prepares n acked s)
    prepares_few s =
        cond_both (not s.prepared && all_have acks s.backups (length m.log) s.round) _ _ (AtMost 0)
        (λ all. still 0 _ refl refl) (λ some. still 0 _ refl refl)

    goes_on_few : (phase : Phase) → AtMost 0 (goes_on n acked phase)
    unfolding settle
    goes_on_few Open = still 0 _ refl refl
    goes_on_few (Switching s) = prepares_few s

  stored_few : (from : NodeId) (long round : ℕ) → AtMost 0 (on_stored n m from long round)
  stored_few from long round =
      cond_both (is_among from (stored_on m)) _ _ (AtMost 0)
      (λ one. goes_on_few (raised m.acknowledged from long round) m.phase) (λ other. still 0 m refl refl)

  appended_few : (from : NodeId) (round : ℕ) (a : AppendAnswer) → AtMost 0 (on_appended n m from round a)
  unfolding on_appended
  appended_few from round (answer.Stored long) = stored_few from long round
  appended_few from round _ = still 0 m refl refl

  -- ---- new lists

  prepare_few : (p : Prepare) (phase : Phase) → AtMost 0 (prepare_in n m p phase)
  prepare_few p Open = cond_both (nat_lt m.version p.version) _ _ (AtMost 0) (λ later. still 0 _ refl refl) (λ not_later. still 0 m refl refl)
  prepare_few p (Switching s) = cond_both (s.version == p.version) _ _ (AtMost 0) (λ same. still 0 _ refl refl) (λ other. still 0 m refl refl)

  adopted_few : (version : ℕ) (phase : Phase) → AtMost 0 (adopted_in n m version phase)
  unfolding settle
  adopted_few version Open = still 0 m refl refl
  adopted_few version (Switching s) = cond_both (s.version == version) _ _ (AtMost 0) (λ same. still 0 _ refl refl) (λ other. still 0 m refl refl)

  -- ---- migrations

  again_few : (index : ℕ) (message : Message) → AtMost 1 (told_again n m index message)
  again_few index message = cond_both (nat_lt index (synced m)) _ _ (AtMost 1) (λ told. still 1 _ refl refl) (λ waits. still 1 _ refl refl)

  taking_few : (t : TakeOut) → AtMost 1 (push_take n m t)
  taking_few t = cond_both (is_covered (state_of m).owned t.lo t.hi) _ _ (AtMost 1) (λ owned. one_more _ _ refl refl) (λ other. still 1 m refl refl)

  take_few : (t : TakeOut) → AtMost 1 (on_take n m t)
  take_few t = cond_both (is_open m.phase) _ _ (AtMost 1) (λ serves. go (state_of m).taken) (λ switches. still 1 m refl refl)
    where
      go : (last : Option LastTake) → AtMost 1 (take_after n m t last)
      go None = taking_few t
      go (Some last) =
          cond_both (t.migration == last.migration) _ _ (AtMost 1) (λ same. again_few last.index _)
          (λ other. cond_both (nat_lt last.migration t.migration) _ _ (AtMost 1) (λ later. taking_few t) (λ earlier. still 1 m refl refl))

  give_few : (g : Parcel) → AtMost 1 (on_give n m g)
  give_few g = cond_both (is_open m.phase) _ _ (AtMost 1) (λ serves. go (state_of m).given) (λ switches. still 1 m refl refl)
    where
      go : (last : Option LastGive) → AtMost 1 (give_after n m g last)
      go None = one_more _ _ refl refl
      go (Some last) =
          cond_both (nat_le g.migration last.migration) _ _ (AtMost 1) (λ earlier. again_few last.index _) (λ later. one_more _ _ refl refl)

  expire_few : (client : ℕ) → AtMost 1 (on_expire n m client)
  expire_few client = cond_both (is_gone (state_of m).table client) _ _ (AtMost 1) (λ gone. still 1 m refl refl) (λ there. one_more _ _ refl refl)

-- ---- suspects

-- one suspect more
abbrev TreatsFew : MasterState → MasterState → ℕ → Type 0
TreatsFew m after most = (after.captured ≡ m.captured) × (length after.log ≤ length m.log + most)

treated_few : (m : MasterState) (r : Request) (c : Check) → TreatsFew m (treated m r c) 1
treated_few m r (Known a index) = (refl, omega arith)
treated_few m r (Stale first) = (refl, omega arith)
treated_few m r Expired = (refl, omega arith)
treated_few m r New =
    cond_both (owns_all (state_of m).owned (hashes r.command)) _ _ (λ (after : MasterState). TreatsFew m after 1)
    (λ owned. (refl, omega (arith, length-append m.log (Op r 0 ∷ [])))) (λ other. (refl, omega arith))

treat_few : (m : MasterState) (rs : List Request) → TreatsFew m (treat m rs) (length rs)
treat_few m [] = (refl, omega arith)
treat_few m (r ∷ rs) =
    let one = treated_few m r (check (state_of m).table r.id) in
    let more = treat_few (treated m r (check (state_of m).table r.id)) rs in
    (more.0 ∙ one.0, omega (arith, one.1, more.1))

treats_few : (n : ℕ) (m : MasterState) (rs : List Request) → IsFew m (treats n m rs).state (length rs)
treats_few n m rs =
    let all = treat_few m rs in
    cond_both (length (treat m rs).log == length m.log) _ _ (λ (r : Moved MasterState). IsFew m r.state (length rs))
    (λ same. pushes n m (length rs) (treat m rs) all.0 all.1) (λ more. pushes n m (length rs) _ all.0 all.1)

collected_few : (n : ℕ) (m : MasterState) (a : GcAnswer) → IsFew m (on_collected n m a).state (most_suspects a)
unfolding on_collected
collected_few n m (Suspects rs) =
    cond_both (is_open m.phase) _ _ (λ (r : Moved MasterState). IsFew m r.state (length rs)) (λ serves. treats_few n m rs) (λ switches. still n m (length rs) m refl refl)
collected_few n m _ = still n m 0 m refl refl

-- ---- orders

sync_few : (n : ℕ) (m : MasterState) (phase : Phase) → IsFew m (sync_in n m phase).state 0
sync_few n m Open = still n m 0 _ refl refl
sync_few n m (Switching s) =
    cond_both s.prepared _ _ (λ (r : Moved MasterState). IsFew m r.state 0) (λ told. still n m 0 _ refl refl) (λ not_yet. still n m 0 _ refl refl)

collect_few : (n : ℕ) (m : MasterState) (phase : Phase) → IsFew m (collect_in n m phase).state 0
collect_few n m Open = still n m 0 _ refl refl
collect_few n m (Switching s) = still n m 0 _ refl refl

-- ---- every input

ends_few : (m : MasterState) (most : ℕ) (r : Moved MasterState) → IsFew m r.state most → IsFew m (unless_it_ends m r).state most
ends_few m most r few =
    cond_both (rises_past last_round m.round r.state.round || rises_past last_round m.captured r.state.captured) _ _ (λ (x : Moved MasterState). IsFew m x.state most)
    (λ ends. still 0 m most m refl refl) (λ goes. few)

message_few : (n : ℕ) (m : MasterState) (from : NodeId) (b : Body) → IsFew m (on_serving n m from b).state (most_by_message b)
unfolding on_serving
message_few n m from (body.Update ask) = ends_few m 1 _ (update_few n m AtOnce ask)
message_few n m from (body.Sync ask) = ends_few m 1 _ (update_few n m WhenSynced ask)
message_few n m from (body.Read ask) = ends_few m 1 _ (read_few n m ask)
message_few n m from (body.Glance ask) = ends_few m 1 _ (glance_few n m ask)
message_few n m from (body.Appended a) = ends_few m 0 _ (appended_few n m from a.round a.answer)
message_few n m from (body.Collected c) = ends_few m (most_suspects c.answer) _ (collected_few n m c.answer)
message_few n m from (body.Prepare p) = ends_few m 0 _ (prepare_few n m p m.phase)
message_few n m from (body.Adopted a) = ends_few m 0 _ (adopted_few n m a.version m.phase)
message_few n m from (body.TakeOut t) = ends_few m 1 _ (take_few n m t)
message_few n m from (body.GiveIn g) = ends_few m 1 _ (give_few n m g)
message_few n m from (body.ExpireClient client) = ends_few m 1 _ (expire_few n m client)
message_few n m from _ = ends_few m 0 _ (still n m 0 m refl refl)

order_few : (n : ℕ) (m : MasterState) (order : Local) → IsFew m (serving_ordered n m order).state 0
unfolding serving_ordered
order_few n m local.Sync = ends_few m 0 _ (sync_few n m m.phase)
order_few n m local.Collect = collect_few n m m.phase
order_few n m _ = still n m 0 m refl refl

-- a master that serves goes on to serve, and pushes and captures no more than the bound of its input
stage_few : (n : ℕ) (stage : MasterStage) (given : Input) → IsFewOf (Some stage) (Some (master_input n stage given).state) (most_marks given)
unfolding on_master master_ordered
stage_few n (Serving m) (input.Message x) = (_, refl, message_few n m x.from x.body)
stage_few n (Serving m) (input.Local order) = (_, refl, order_few n m order)
stage_few n Fresh given = tt
stage_few n (Recovering s) given = tt

-- nothing is new where nothing moved
none_few : (stage : MasterStage) (most : ℕ) → IsFewOf (Some stage) (Some stage) most
none_few (Serving m) most = (m, refl, still 0 m most m refl refl)
none_few Fresh most = tt
none_few (Recovering s) most = tt

-- the same of a node that may have moved
pub moves_few : (n : ℕ) (x y : Node MasterStage) (r : Result Done AllocError) (given : Input)
    → Moves x y r (numbered_move n (master_input n x.state given)) → IsFewOf (Some x.state) (Some y.state) (most_marks given)
moves_few n x y (Ok done) given moved =
    subst (λ (z : Node MasterStage). IsFewOf (Some x.state) (Some z.state) (most_marks given)) (sym moved.0) (stage_few n x.state given)
moves_few n x y (Err e) given moved =
    subst (λ (z : Node MasterStage). IsFewOf (Some x.state) (Some z.state) (most_marks given)) (sym moved) (none_few x.state (most_marks given))
