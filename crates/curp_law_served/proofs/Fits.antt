-- What nodes send, while a world is led to quiet, is of a few kinds, and goes to nodes of the present lists.
use Rattle.std.proofs.Common.{◌≡◌, ◌==◌, ℕ, suc, ◌+◌, ◌-◌, Bool, true, false, List, [], ◌∷◌, ◌++◌, length, map, nat_lt, slice_get, drop, Option, Some, None, refl, ap, sym, ◌∙◌, subst}
use Rattle.std.specs.Prelude.{if◌then◌else◌}
use Rattle.std.specs.Bool.{⊤}
use Rattle.std.specs.BTreeSet.{insert_key}
use Rattle.std.specs.FinMap as store
use Rattle.std.specs.List.{filter, flat_map}
use Rattle.std.specs.Ordering.{nat_cmp}
use Rattle.curp_cmd.specs.declared.command.Answer.TheVariants.{Found}
use Rattle.std.proofs.lemmas.Bool.{cond_both}
use Rattle.curp_base.specs.Words.{At, Each}
use Rattle.curp_base.proofs.Lists.{Each-append, Each-map, at_drop, at_take}
use Rattle.curp_cmd.specs.Node.{is_among, master_node}
use Rattle.curp_cmd.specs.declared.command.Command.{Command}
use Rattle.curp_cmd.specs.declared.command.Command.TheVariants as command
use Rattle.curp_cmd.specs.declared.command.Request.{Request}
use Rattle.curp_cmd.specs.declared.entry.Entry.{Entry}
use Rattle.curp_cmd.specs.declared.entry.Entry.TheVariants.{Op, Take, Give, Expire}
use Rattle.curp_cmd.specs.declared.node.NodeId.{NodeId}
use Rattle.curp_msg.specs.Moved.{Moved, quiet}
use Rattle.curp_msg.specs.declared.answer.AppendAnswer.{AppendAnswer}
use Rattle.curp_msg.specs.declared.answer.AppendAnswer.TheVariants.{Stored}
use Rattle.curp_msg.specs.declared.answer.GcAnswer.{GcAnswer}
use Rattle.curp_msg.specs.declared.answer.GcAnswer.TheVariants as gc
use Rattle.curp_msg.specs.declared.answer.Refusal.{Refusal}
use Rattle.curp_msg.specs.declared.body.Ask.{Ask}
use Rattle.curp_msg.specs.declared.body.Body.{Body}
use Rattle.curp_msg.specs.declared.body.Body.TheVariants as body
use Rattle.curp_msg.specs.declared.config.PartConfig.{PartConfig}
use Rattle.curp_msg.specs.declared.message.Message.{Message}
use Rattle.curp_facts.specs.Facts.{IsAmong}
use Rattle.curp_model.specs.Master.{Captured, MasterState, Open, Phase, Switching, append_to, begins_round, between, by_message, carries_out, executes, from_backup, fresh_backups, goes_on, is_clean, is_open, is_ready, moved_entry, marked_free, next_round, on_appended, on_collected, on_read, on_update, pushed, read_command, read_of, read_refusal, settle, state_of, stored_on, synced, synced_replies, synced_reply, treat, value_of, verdict}
use Rattle.curp_model.specs.declared.Verdict.TheVariants.{Deny, Execute, HoldBack, Tell, TellAgain}
use Rattle.curp_model.specs.declared.Verdict.{Verdict}
use Rattle.curp_model.specs.declared.Wish.TheVariants.{AtOnce, WhenSynced}
use Rattle.curp_model.specs.declared.Wish.{Wish}
use Rattle.curp_law_kept.proofs.Gives.{each_among}
use Rattle.curp_law_served.specs.Calm.{IsAwaited}
use Rattle.curp_law_served.proofs.Serving.{IsHeard, Treated, treated_all}
use Rattle.curp_model.specs.Log.{IsOp}

-- an append begins where its backup's acknowledged entries end
abbrev pub BeginsAt : MasterState → NodeId → Body → Type 0
BeginsAt m to (body.Append a) = a.base ≡ (from_backup m.acknowledged to).length
BeginsAt m to _ = ⊤

-- what holds of each image
each_flat : {A B : Type 0} (P : B → Type 0) (f : A → List B) (xs : List A) → ((x : A) → Each P (f x))
    → Each P (flat_map f xs)
each_flat P f [] all = tt
each_flat P f (x ∷ xs) all = Each-append P (f x) (flat_map f xs) (all x) (each_flat P f xs all)

each_mapped : {A B : Type 0} (P : B → Type 0) (f : A → B) (xs : List A) → ((x : A) → P (f x)) → Each P (map f xs)
each_mapped P f [] all = tt
each_mapped P f (x ∷ xs) all = (all x, each_mapped P f xs all)

module _ (c : PartConfig) (n : ℕ) (m : MasterState) (its_master : c.master ≡ master_node n)
    (its_epoch : m.epoch ≡ c.epoch) (its_backups : m.backups ≡ c.backups) (serves : m.phase ≡ Open) where
  -- what the master says
  abbrev pub Said : Message → Type 0
  Said x = IsAwaited c x × BeginsAt m x.to x.body

  fresh_said : (p : Phase) → p ≡ Open → (k : MasterState) (backups : List NodeId)
      → Each (λ b. Said (append_to n k b)) (fresh_backups p backups)
  fresh_said Open e k backups = tt
  fresh_said (Switching s) e k backups = absurd cc

  pub round_of : (k : MasterState) → k.epoch ≡ m.epoch → k.backups ≡ m.backups → k.phase ≡ m.phase
      → k.acknowledged ≡ m.acknowledged → Each Said (begins_round n k).messages
  round_of k epoch backups phase acks =
      Each-map Said (append_to n (next_round k)) (stored_on (next_round k)) (Each-append (λ b. Said (append_to n (next_round k) b)) k.backups (fresh_backups k.phase k.backups)
      (each_among (λ b. Said (append_to n (next_round k) b)) k.backups (λ b among.
      ((subst (λ (bs : List NodeId). IsAmong b bs) (backups ∙ its_backups) among, sym its_master, epoch ∙ its_epoch), ap (λ (q : _). (from_backup q b).length) acks)))
      (fresh_said k.phase (phase ∙ serves) (next_round k) k.backups))

  -- ---- updates

  executed_said : (wish : Wish) (r : Request) (clean : Bool) → Each Said (executes n m wish r clean).messages
  executed_said AtOnce r true = ((refl, tt), tt)
  executed_said AtOnce r false = round_of (record (pushed m r r.first) { held = insert_key nat_cmp m.held (length m.log) }) refl refl refl refl
  executed_said WhenSynced r true = round_of (record (marked_free (pushed m r r.first) (length m.log) true) { held = insert_key nat_cmp m.held (length m.log) }) refl refl refl refl
  executed_said WhenSynced r false = round_of (record (pushed m r r.first) { held = insert_key nat_cmp m.held (length m.log) }) refl refl refl refl

  verdict_said : (wish : Wish) (r : Request) (v : Verdict) → Each Said (carries_out n m wish r v).messages
  verdict_said wish r (Deny why) = ((refl, tt), tt)
  verdict_said wish r (Tell a) = ((refl, tt), tt)
  verdict_said wish r (TellAgain a) = ((refl, tt), tt)
  verdict_said wish r (HoldBack index) = round_of (record m { held = insert_key nat_cmp m.held index }) refl refl refl refl
  verdict_said wish r Execute = executed_said wish r (is_clean m r.command)

  update_said : (wish : Wish) (ask : Ask) → Each Said (on_update n m wish ask).messages
  unfolding on_update
  update_said wish ask = verdict_said wish ask.request (verdict m wish ask)

  -- ---- reads

  read_said : (ask : Ask) → Each Said (on_read n m ask).messages
  unfolding on_read
  read_said ask = by ask.request.command
    where
      look : List ℕ → Captured
      look key = record { number = m.captured + 1; id = ask.request.id; command = ask.request.command; answer = Found (store.get (state_of m).store key); length = length m.log; round = m.round + 1 }

      refused : (key : List ℕ) (o : Option Refusal) → Each Said (read_of n m ask.request key o).messages
      refused key (Some why) = ((refl, tt), tt)
      refused key None = round_of (record m { captures = m.captures ++ look key ∷ []; captured = m.captured + 1 }) refl refl refl refl

      by : (k : Command) → Each Said (read_command n m ask k).messages
      by (command.Get key) = refused key (read_refusal m ask)
      by _ = tt

  -- ---- suspects

  collected_said : (a : GcAnswer) → Each Said (on_collected n m a).messages
  unfolding on_collected
  collected_said (gc.Suspects rs) = cond_both (is_open m.phase) _ _ (λ (r : Moved MasterState). Each Said r.messages)
      (λ y. treated (treat m rs) (treated_all m rs)) (λ k. tt)
    where
      treated : (k : MasterState) → Treated m k
          → Each Said (if length k.log == length m.log then quiet k else begins_round n k).messages
      treated k t = cond_both (length k.log == length m.log) _ _ (λ (r : Moved MasterState). Each Said r.messages) (λ y. tt)
          (λ z. round_of k (ap (λ (x : MasterState). x.epoch) t.is) (ap (λ (x : MasterState). x.backups) t.is) (ap (λ (x : MasterState). x.phase) t.is) (ap (λ (x : MasterState). x.acknowledged) t.is))
  collected_said (gc.Stranger own) = tt

  -- ---- settling

  module _ (ops : (index : ℕ) (e : Entry) → At m.log index e → IsOp e) where
    reply_said : (k : MasterState) (index : ℕ) (o : Option Entry) → Each Said (synced_reply n k index o)
    reply_said k index (Some (Op r acknowledged)) = ((refl, tt), tt)
    reply_said k index (Some (Take migration taken)) = tt
    reply_said k index (Some (Give migration given)) = tt
    reply_said k index (Some (Expire client)) = tt
    reply_said k index None = tt

    moved_said : (e : Entry) → IsOp e → Each Said (moved_entry n e)
    moved_said (Op r acknowledged) op = tt
    moved_said (Take migration taken) op = absurd op
    moved_said (Give migration given) op = absurd op
    moved_said (Expire client) op = absurd op

    all_moved_said : (xs : List Entry) → ((k : ℕ) (e : Entry) → At xs k e → IsOp e)
        → Each Said (flat_map (moved_entry n) xs)
    all_moved_said [] all = tt
    all_moved_said (e ∷ es) all = Each-append Said (moved_entry n e) (flat_map (moved_entry n) es) (moved_said e (all 0 e refl)) (all_moved_said es (λ k d at. all (suc k) d at))

    settle_said : (k : MasterState) → k.log ≡ m.log → Each Said (settle n k).messages
    unfolding settle
    settle_said k same = Each-append Said (synced_replies n k (filter (λ index. nat_lt index (synced k)) k.held) ++ map (value_of n k) (filter (is_ready k) k.captures)) (flat_map (moved_entry n) (between k.settled (synced k) k.log))
        (Each-append Said (synced_replies n k (filter (λ index. nat_lt index (synced k)) k.held)) (map (value_of n k) (filter (is_ready k) k.captures))
        (each_flat Said (λ index. synced_reply n k index (slice_get k.log index)) (filter (λ index. nat_lt index (synced k)) k.held) (λ index. reply_said k index (slice_get k.log index)))
        (each_mapped Said (value_of n k) (filter (is_ready k) k.captures) (λ q. (refl, tt))))
        (all_moved_said (between k.settled (synced k) k.log) (λ j e at.
        let t = at_take (synced k - k.settled) (drop k.settled k.log) j e at in
        let d = at_drop k.settled k.log j e t.1 in
        ops d.0 e (subst (λ (l : List Entry). At l d.0 e) same d.2)))

    goes_said : (k : MasterState) (p : Phase) → k.log ≡ m.log → p ≡ Open → Each Said (goes_on n k p).messages
    goes_said k Open same e = settle_said k same
    goes_said k (Switching s) same e = absurd cc

    stored_said : (from : NodeId) (round : ℕ) (a : AppendAnswer) → Each Said (on_appended n m from round a).messages
    unfolding on_appended
    stored_said from round (Stored long) = cond_both (is_among from (stored_on m)) _ _ (λ (r : Moved MasterState). Each Said r.messages) (λ y. goes_said _ m.phase refl serves) (λ z. tt)
    stored_said from round _ = tt

    -- all that it says
    pub said : (from : NodeId) (b : Body) → IsHeard b → Each Said (by_message n m from b).messages
    said from (body.Update ask) h = update_said AtOnce ask
    said from (body.Sync ask) h = update_said WhenSynced ask
    said from (body.Read ask) h = read_said ask
    said from (body.Appended a) h = stored_said from a.round a.answer
    said from (body.Collected a) h = collected_said a.answer
    said from _ h = absurd h
