-- While a serving master switches, it pushes nothing but expiries, and says nothing that clients or migrations rest on.
use Rattle.std.proofs.Common.{◌||◌, ◌≡◌, ℕ, ◌==◌, ◌&&◌, if◌then◌else◌, Bool, true, false, not, List, [], ◌∷◌, ◌++◌, drop, length, refl, sym, subst, Option, Some}
use Rattle.std.specs.Option.{option_map}
use Rattle.std.proofs.Math.Seq.{drop-length, drop-append_seam}
use Rattle.std.proofs.lemmas.Bool.{cond_both}
use Rattle.curp_base.specs.Cases.{first_case, first_there, only_if}
use Rattle.curp_base.specs.Words.{Each, rises_past}
use Rattle.curp_cmd.specs.Node.{is_among}
use Rattle.curp_cmd.specs.declared.command.Command.{Command}
use Rattle.curp_cmd.specs.declared.command.Command.TheVariants.{Get}
use Rattle.curp_cmd.specs.declared.entry.Entry.{Entry}
use Rattle.curp_cmd.specs.declared.entry.Entry.TheVariants.{Expire}
use Rattle.curp_cmd.specs.declared.node.NodeId.{NodeId}
use Rattle.curp_msg.specs.Moved.{Moved, quiet}
use Rattle.curp_msg.specs.declared.answer.AppendAnswer.{AppendAnswer}
use Rattle.curp_msg.specs.declared.answer.AppendAnswer.TheVariants.{Stored}
use Rattle.curp_msg.specs.declared.answer.GcAnswer.{GcAnswer}
use Rattle.curp_msg.specs.declared.answer.GcAnswer.TheVariants.{Suspects}
use Rattle.curp_msg.specs.declared.answer.Refusal.{Refusal}
use Rattle.curp_msg.specs.declared.answer.Refusal.TheVariants as refusal
use Rattle.curp_msg.specs.declared.body.Ask.{Ask}
use Rattle.curp_msg.specs.declared.body.Body.{Body}
use Rattle.curp_msg.specs.declared.body.Body.TheVariants as body
use Rattle.curp_msg.specs.declared.body.Prepare.{Prepare}
use Rattle.curp_msg.specs.declared.machine.Local.{Local}
use Rattle.curp_msg.specs.declared.machine.Local.TheVariants as local
use Rattle.curp_msg.specs.declared.message.Message.{Message}
use Rattle.curp_facts.specs.Facts.{IsOnlyExpire}
use Rattle.curp_facts.specs.Growth.{IsSilent}
use Rattle.curp_model.specs.Master.{MasterState, Phase, Open, Switching, Switch, adopted_in, all_have, append_to, begins_round, by_message, carries_out, collect_in, give_after, goes_on, is_open, last_round, next_round, on_appended, on_collected, on_expire, on_read, on_serving, on_stored, on_update, prepare_in, prepares, raised, read_command, read_of, read_refusal, serving_ordered, settle, state_of, stored_on, sync_in, take_after, treats, unless_it_ends, verdict, glance_command, glance_of, on_glance}
use Rattle.curp_model.specs.declared.Verdict.TheVariants.{Deny, Execute}
use Rattle.curp_model.specs.declared.Verdict.{Verdict}
use Rattle.curp_model.specs.declared.Wish.TheVariants.{AtOnce, WhenSynced}
use Rattle.curp_model.specs.declared.Wish.{Wish}
use Rattle.curp_model.specs.Table.{is_gone}
use Rattle.curp_base.proofs.Lists.{Each-image}

-- the message is neither a reply, a value, a collection nor of a migration
abbrev pub Silent : Message → Type 0
Silent x = IsSilent x.body

-- the log grows by expiries alone; where the master switches on, what it says is silent
pub record IsLittle (m : MasterState) (r : Moved MasterState) : Type 0 where
  pub pushes : Each IsOnlyExpire (drop (length m.log) r.state.log)
  pub silent : (t : Switch) → r.state.phase ≡ Switching t → Each Silent r.messages

-- a log that stays has nothing behind it
pub nothing_pushed : (log : List Entry) → Each IsOnlyExpire (drop (length log) log)
nothing_pushed log = subst (Each IsOnlyExpire) (sym (drop-length log)) tt

module _ (n : ℕ) (m : MasterState) (s : Switch) (is : m.phase ≡ Switching s) where
  none : Each IsOnlyExpire (drop (length m.log) m.log)
  none = nothing_pushed m.log

  rests : IsLittle m (quiet m)
  rests = record { pushes = none; silent = λ t e. tt }

  rounds : (k : MasterState) → Each IsOnlyExpire (drop (length m.log) k.log) → IsLittle m (begins_round n k)
  rounds k pushes = record { pushes = pushes; silent = λ t e. Each-image Silent (append_to n (next_round k)) (λ b. tt) (stored_on (next_round k)) }

  -- ---- requests are refused

  denied : (wish : Wish) (ask : Ask) → (why : Refusal) × (verdict m wish ask ≡ Deny why)
  denied wish ask = go (not (ask.epoch == m.epoch)) m.phase is _
    where
      go : (b : Bool) (p : Phase) → p ≡ Switching s → (rest : List (Option Verdict))
          → (why : Refusal) × (first_case (option_map Deny (only_if b (refusal.Epoch m.epoch)) ∷ option_map Deny (only_if (not (is_open p)) refusal.Switching) ∷ rest) Execute ≡ Deny why)
      go true p same rest = (refusal.Epoch m.epoch, refl)
      go false Open same rest = absurd cc
      go false (Switching t) same rest = (refusal.Switching, refl)

  update_little : (wish : Wish) (ask : Ask) → IsLittle m (on_update n m wish ask)
  unfolding on_update
  update_little wish ask = subst (λ (v : Verdict). IsLittle m (carries_out n m wish ask.request v)) (sym (denied wish ask).1) (record { pushes = none; silent = λ t e. (tt, tt) })

  turned_away : (ask : Ask) → (why : Refusal) × (read_refusal m ask ≡ Some why)
  turned_away ask = go (not (ask.epoch == m.epoch)) m.phase is _
    where
      go : (b : Bool) (p : Phase) → p ≡ Switching s → (rest : List (Option Refusal))
          → (why : Refusal) × (first_there (only_if b (refusal.Epoch m.epoch) ∷ only_if (not (is_open p)) refusal.Switching ∷ rest) ≡ Some why)
      go true p same rest = (refusal.Epoch m.epoch, refl)
      go false Open same rest = absurd cc
      go false (Switching t) same rest = (refusal.Switching, refl)

  command_little : (ask : Ask) (c : Command) → IsLittle m (read_command n m ask c)
  command_little ask (Get key) = subst (λ (o : Option Refusal). IsLittle m (read_of n m ask.request key o)) (sym (turned_away ask).1) (record { pushes = none; silent = λ t e. (tt, tt) })
  command_little ask _ = rests

  read_little : (ask : Ask) → IsLittle m (on_read n m ask)
  unfolding on_read
  read_little ask = command_little ask ask.request.command

  glance_command_little : (ask : Ask) (c : Command) → IsLittle m (glance_command n m ask c)
  glance_command_little ask (Get key) = subst (λ (o : Option Refusal). IsLittle m (glance_of n m ask.request key o)) (sym (turned_away ask).1) (record { pushes = none; silent = λ t e. (tt, tt) })
  glance_command_little ask _ = rests

  glance_little : (ask : Ask) → IsLittle m (on_glance n m ask)
  unfolding on_glance
  glance_little ask = glance_command_little ask ask.request.command

  -- ---- what backups and witnesses say

  prepares_little : (k : MasterState) (t : Switch) → k.log ≡ m.log → IsLittle m (prepares n k t)
  prepares_little k t same = cond_both (not t.prepared && all_have k.acknowledged t.backups (length k.log) t.round) _ _ (IsLittle m)
      (λ y. record { pushes = stays; silent = λ u e. (tt, tt) }) (λ y. record { pushes = stays; silent = λ u e. tt })
    where
      stays : Each IsOnlyExpire (drop (length m.log) k.log)
      stays = subst (λ (log : List Entry). Each IsOnlyExpire (drop (length m.log) log)) (sym same) none

  stored_little : (from : NodeId) (long round : ℕ) → IsLittle m (on_stored n m from long round)
  stored_little from long round = cond_both (is_among from (stored_on m)) _ _ (IsLittle m) (λ y. go m.phase is) (λ y. rests)
    where
      k : MasterState
      k = record m { acknowledged = raised m.acknowledged from long round }

      go : (p : Phase) → p ≡ Switching s → IsLittle m (goes_on n k p)
      go Open same = absurd cc
      go (Switching t) same = prepares_little k t refl

  appended_little : (from : NodeId) (round : ℕ) (a : AppendAnswer) → IsLittle m (on_appended n m from round a)
  unfolding on_appended
  appended_little from round (Stored long) = stored_little from long round
  appended_little from round _ = rests

  -- only an open master does it
  closed : (r : Moved MasterState) → IsLittle m (if is_open m.phase then r else quiet m)
  closed r = go m.phase is
    where
      go : (p : Phase) → p ≡ Switching s → IsLittle m (if is_open p then r else quiet m)
      go Open same = absurd cc
      go (Switching t) same = rests

  collected_little : (a : GcAnswer) → IsLittle m (on_collected n m a)
  unfolding on_collected
  collected_little (Suspects rs) = closed (treats n m rs)
  collected_little _ = rests

  -- ---- what the manager says

  prepare_little : (p : Prepare) (at : Phase) → at ≡ Switching s → IsLittle m (prepare_in n m p at)
  prepare_little p Open same = absurd cc
  prepare_little p (Switching t) same = cond_both (t.version == p.version) _ _ (IsLittle m) (λ y. rounds m none) (λ y. rests)

  settle_little : (k : MasterState) → k.log ≡ m.log → k.phase ≡ Open → IsLittle m (settle n k)
  unfolding settle
  settle_little k same opens = record {
    pushes = subst (λ (log : List Entry). Each IsOnlyExpire (drop (length m.log) log)) (sym same) none;
    silent = λ t e. absurd cc (opens, e);
  }

  adopted_little : (version : ℕ) (at : Phase) → at ≡ Switching s → IsLittle m (adopted_in n m version at)
  adopted_little version Open same = absurd cc
  adopted_little version (Switching t) same = cond_both (t.version == version) _ _ (IsLittle m)
      (λ y. settle_little (record m { version = t.version; backups = t.backups; witnesses = t.witnesses; phase = Open }) refl refl) (λ y. rests)

  expire_little : (client : ℕ) → IsLittle m (on_expire n m client)
  expire_little client = cond_both (is_gone (state_of m).table client) _ _ (IsLittle m) (λ y. rests)
      (λ y. rounds (record m { log = m.log ++ Expire client ∷ [] }) (subst (Each IsOnlyExpire) (sym (drop-append_seam m.log (Expire client ∷ []))) (tt, tt)))

  -- ---- inputs

  ends_little : (r : Moved MasterState) → IsLittle m r → IsLittle m (unless_it_ends m r)
  ends_little r g = cond_both (rises_past last_round m.round r.state.round || rises_past last_round m.captured r.state.captured) _ _ (IsLittle m) (λ y. rests) (λ y. g)

  message_little : (from : NodeId) (b : Body) → IsLittle m (by_message n m from b)
  message_little from (body.Update ask) = update_little AtOnce ask
  message_little from (body.Sync ask) = update_little WhenSynced ask
  message_little from (body.Read ask) = read_little ask
  message_little from (body.Glance ask) = glance_little ask
  message_little from (body.Appended a) = appended_little from a.round a.answer
  message_little from (body.Collected c) = collected_little c.answer
  message_little from (body.Prepare p) = prepare_little p m.phase is
  message_little from (body.Adopted a) = adopted_little a.version m.phase is
  message_little from (body.TakeOut t) = closed (take_after n m t (state_of m).taken)
  message_little from (body.GiveIn g) = closed (give_after n m g (state_of m).given)
  message_little from (body.ExpireClient client) = expire_little client
  message_little from _ = rests

  -- a message to a master that switches
  pub switching_little : (from : NodeId) (b : Body) → IsLittle m (on_serving n m from b)
  unfolding on_serving
  switching_little from b = ends_little (by_message n m from b) (message_little from b)

  sync_little : (at : Phase) → IsLittle m (sync_in n m at)
  sync_little Open = rounds m none
  sync_little (Switching t) = cond_both t.prepared _ _ (IsLittle m)
      (λ y. record { pushes = none; silent = λ u e. (tt, (rounds m none).silent u e) }) (λ y. rounds m none)

  collect_little : (at : Phase) → at ≡ Switching s → IsLittle m (collect_in n m at)
  collect_little Open same = absurd cc
  collect_little (Switching t) same = rests

  -- and an order
  pub switching_ordered_little : (order : Local) → IsLittle m (serving_ordered n m order)
  unfolding serving_ordered
  switching_ordered_little local.Sync = ends_little (sync_in n m m.phase) (sync_little m.phase)
  switching_ordered_little local.Collect = collect_little m.phase is
  switching_ordered_little _ = rests
