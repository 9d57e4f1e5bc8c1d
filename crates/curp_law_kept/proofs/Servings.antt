-- What a serving master says fits, from itself, and it goes by given lists.
use Rattle.std.proofs.Common.{◌≡◌, ℕ, ◌+◌, ◌==◌, ◌&&◌, nat_lt, nat_le, not, Bool, true, false, List, [], ◌∷◌, ◌++◌, length, map, Option, Some, None, refl, subst, slice_get}
use Rattle.std.specs.BTreeSet.{insert_key}
use Rattle.std.specs.FinMap as store
use Rattle.std.specs.Ordering.{nat_cmp}
use Rattle.std.specs.List.{filter}
use Rattle.std.proofs.lemmas.Bool.{cond_both}
use Rattle.curp_base.specs.Words.{Each}
use Rattle.curp_base.proofs.Lists.{Each-append, Each-at, Each-drop, Each-map, Each-filter}
use Rattle.curp_cmd.specs.Hash.{hashes}
use Rattle.curp_cmd.specs.Node.{client_node, is_among, manager_node, master_node}
use Rattle.curp_cmd.specs.declared.command.Answer.{Answer}
use Rattle.curp_cmd.specs.declared.command.Answer.TheVariants.{Found}
use Rattle.curp_cmd.specs.declared.command.Command.{Command}
use Rattle.curp_cmd.specs.declared.command.Command.TheVariants.{Get}
use Rattle.curp_cmd.specs.declared.command.Request.{Request}
use Rattle.curp_cmd.specs.declared.command.RequestId.{RequestId}
use Rattle.curp_cmd.specs.declared.entry.Entry.{Entry}
use Rattle.curp_cmd.specs.declared.entry.Entry.TheVariants.{Expire, Give, Op, Take}
use Rattle.curp_cmd.specs.declared.node.NodeId.{NodeId}
use Rattle.curp_cmd.specs.declared.node.NodeKind.TheVariants as kind
use Rattle.curp_msg.specs.Moved.{Moved, says}
use Rattle.curp_msg.specs.declared.answer.AppendAnswer.{AppendAnswer}
use Rattle.curp_msg.specs.declared.answer.AppendAnswer.TheVariants.{Stored}
use Rattle.curp_msg.specs.declared.answer.GcAnswer.{GcAnswer}
use Rattle.curp_msg.specs.declared.answer.GcAnswer.TheVariants.{Suspects}
use Rattle.curp_msg.specs.declared.answer.Refusal.{Refusal}
use Rattle.curp_msg.specs.declared.body.Ask.{Ask}
use Rattle.curp_msg.specs.declared.body.Body.{Body}
use Rattle.curp_msg.specs.declared.body.Body.TheVariants as body
use Rattle.curp_msg.specs.declared.body.Parcel.{Parcel}
use Rattle.curp_msg.specs.declared.body.Prepare.{Prepare}
use Rattle.curp_msg.specs.declared.body.TakeOut.{TakeOut}
use Rattle.curp_msg.specs.declared.machine.Local.{Local}
use Rattle.curp_msg.specs.declared.machine.Local.TheVariants as local
use Rattle.curp_range.specs.Spans.{is_covered}
use Rattle.curp_model.specs.declared.Check.{Check}
use Rattle.curp_model.specs.declared.Check.TheVariants.{Expired, Known, New, Stale}
use Rattle.curp_model.specs.Log.{LastGive, LastTake, package_of}
use Rattle.curp_model.specs.Master.{Captured, MasterState, Open, Phase, Switch, Switching, adopted_in, all_have, append_to, appends, begins_round, between, by_message, captures_read, carries_out, collect_in, collects, executes, fresh_backups, give_after, goes_on, holds_back, is_clean, is_open, is_ready, marked_free, moved_entry, on_appended, on_collected, on_expire, on_read, on_serving, on_update, prepare_in, prepares, pushed, push_take, raised, read_command, read_of, read_refusal, refuse, reply, serving_ordered, settle, state_of, stored_on, switch_to, sync_in, synced, synced_replies, synced_reply, take_after, told_again, treat, treated, unless_it_ends, value_of, verdict, glance_command, glance_of, on_glance}
use Rattle.curp_model.specs.declared.Verdict.TheVariants.{Deny, Execute, HoldBack, Tell, TellAgain}
use Rattle.curp_model.specs.declared.Verdict.{Verdict}
use Rattle.curp_model.specs.declared.Wish.TheVariants.{AtOnce, WhenSynced}
use Rattle.curp_model.specs.declared.Wish.{Wish}
use Rattle.curp_model.specs.Named.{IsNodeOf}
use Rattle.curp_model.specs.Ranges.{owns_all}
use Rattle.curp_model.specs.Table.{check, is_gone}
use Rattle.curp_model.specs.World.{World}
use Rattle.curp_facts.specs.Facts.{ByReplacement, Lists, WasSent}
use Rattle.curp_facts.specs.Kept.{lists_of_master}
use Rattle.curp_facts.specs.Names.{IsOf, Names}
use Rattle.curp_facts.specs.Fits.{BodyFits, EntryAsked, IsOfClient, MessageFits, NextSent, ServesBy, ServingFits, SuspectsAsked, sender_kind}
use Rattle.curp_law_kept.proofs.ClientsFit.{is_manager}
use Rattle.curp_law_kept.proofs.KeepersFit.{AllSaid, Said}
use Rattle.curp_law_kept.proofs.NumberedLists.{among_each, each_among}
use Rattle.curp_law_kept.proofs.Says.{each_flat}

-- the client that a message is from
pub asked_by : (w : World) (from : NodeId) (client : ℕ) → IsOf w kind.Client from → from ≡ client_node client → IsNodeOf w kind.Client client
asked_by w from client there own = (subst (IsOf w kind.Client) own there).1

-- a master says so
pub master_said : (w : World) (k : ℕ) (to : NodeId) (b : Body) → MessageFits w (says (master_node k) to b) → Said w (master_node k) (says (master_node k) to b)
master_said w k to b fits = record { from = refl; fits = fits }

-- a refusal goes to its client
pub refuse_said : (w : World) (k : ℕ) → IsNodeOf w kind.Master k → (id : RequestId) (why : Refusal) → IsNodeOf w kind.Client id.client → Said w (master_node k) (refuse k id why)
refuse_said w k me id why asked = master_said w k (client_node id.client) _ (record { sender = (refl, me); addressee = (refl, asked); fits = refl })

-- the lists of a switch, as they were sent
abbrev list_of : Switch → Prepare
list_of s = record { version = s.version; backups = s.backups; witnesses = s.witnesses }

module _ (w : World) (n : Names w) (k : ℕ) (me : IsNodeOf w kind.Master k) where
  abbrev Goes : Moved MasterState → Type 0
  Goes r = ServingFits w k r.state × AllSaid w (master_node k) r.messages

  -- what is said to the manager
  manager_told : (b : Body) → MessageFits w (says (master_node k) manager_node b) → AllSaid w (master_node k) (says (master_node k) manager_node b ∷ [])
  manager_told b fits = (master_said w k manager_node b fits, tt)

  module _ (m : MasterState) (ok : ServingFits w k m) where
    abbrev its : Lists
    its = lists_of_master (master_node k) m

    -- one more entry
    push_fits : (e : Entry) → EntryAsked w e → ServesBy w its m.lo m.hi (m.log ++ e ∷ []) m.captures m.phase
    push_fits e asked = record { given = ok.given; next = ok.next; its_lo = ok.its_lo; its_hi = ok.its_hi; entries = Each-append (EntryAsked w) m.log _ ok.entries (asked, tt); reads = ok.reads }

    fresh_are : (p : Phase) → NextSent w its p → Each (IsOf w kind.Backup) (fresh_backups p m.backups)
    fresh_are Open next = tt
    fresh_are (Switching s) next = Each-filter (IsOf w kind.Backup) _ s.backups (n.given _ (ByReplacement its (list_of s) ok.given next)).backups

    appends_said : AllSaid w (master_node k) (appends k m)
    appends_said = Each-map (Said w (master_node k)) (append_to k m) (stored_on m)
        (each_among (λ (b : NodeId). Said w (master_node k) (append_to k m b)) (stored_on m) (λ b a.
        master_said w k b _ (record { sender = (refl, me); addressee = among_each (IsOf w kind.Backup) (stored_on m) nodes b a; fits = Each-drop (EntryAsked w) _ m.log ok.entries })))
      where
        nodes : Each (IsOf w kind.Backup) (stored_on m)
        nodes = Each-append (IsOf w kind.Backup) m.backups _ (n.given its ok.given).backups (fresh_are m.phase ok.next)

    reply_said : (is_synced : Bool) (id : RequestId) (a : Answer) → IsNodeOf w kind.Client id.client → Said w (master_node k) (reply k m is_synced id a)
    reply_said is_synced id a asked = master_said w k (client_node id.client) _ (record { sender = (refl, me); addressee = (refl, asked); fits = refl })

    synced_said : (index : ℕ) (o : Option Entry) → slice_get m.log index ≡ o → AllSaid w (master_node k) (synced_reply k m index o)
    synced_said index (Some (Op r acknowledged)) at = (reply_said true r.id _ (Each-at (EntryAsked w) m.log ok.entries index (Op r acknowledged) at), tt)
    synced_said index (Some (Take migration taken)) at = tt
    synced_said index (Some (Give migration given)) at = tt
    synced_said index (Some (Expire client)) at = tt
    synced_said index None at = tt

    value_said : (c : Captured) → IsNodeOf w kind.Client c.id.client → Said w (master_node k) (value_of k m c)
    value_said c asked = master_said w k (client_node c.id.client) _ (record { sender = (refl, me); addressee = (refl, asked); fits = refl })

    moved_said : (e : Entry) → AllSaid w (master_node k) (moved_entry k e)
    moved_said (Take migration taken) = manager_told _ (record { sender = (refl, me); addressee = (refl, refl); fits = tt })
    moved_said (Give migration given) = manager_told _ (record { sender = (refl, me); addressee = (refl, refl); fits = tt })
    moved_said _ = tt

    settle_goes : Goes (settle k m)
    unfolding settle
    settle_goes =
        let due : List ℕ = filter (λ index. nat_lt index (synced m)) m.held in
        let values : List Captured = filter (is_ready m) m.captures in
        let reads : Each (λ (c : Captured). IsNodeOf w kind.Client c.id.client) values = Each-filter _ (is_ready m) m.captures ok.reads in (
          record { given = ok.given; next = ok.next; its_lo = ok.its_lo; its_hi = ok.its_hi; entries = ok.entries; reads = Each-filter _ (λ c. not (is_ready m c)) m.captures ok.reads },
          Each-append (Said w (master_node k)) (synced_replies k m due ++ map (value_of k m) values) _
              (Each-append (Said w (master_node k)) (synced_replies k m due) _
              (each_flat (Said w (master_node k)) _ due (λ index a. synced_said index (slice_get m.log index) refl))
              (Each-map (Said w (master_node k)) (value_of k m) values (each_among (λ (c : Captured). Said w (master_node k) (value_of k m c)) values (λ c a.
              value_said c (among_each (λ (x : Captured). IsNodeOf w kind.Client x.id.client) values reads c a)))))
              (each_flat (Said w (master_node k)) (moved_entry k) (between m.settled (synced m) m.log) (λ e a. moved_said e)),
        )

    collects_goes : Goes (collects k m)
    collects_goes = (
      ok,
      Each-map (Said w (master_node k)) _ m.witnesses (each_among _ m.witnesses (λ to a.
          master_said w k to _ (record { sender = (refl, me); addressee = among_each (IsOf w kind.Witness) m.witnesses (n.given its ok.given).witnesses to a; fits = tt }))),
    )

  -- a round begins
  round_goes : (m : MasterState) → ServingFits w k m → Goes (begins_round k m)
  round_goes m ok = (ok, appends_said (record m { round = m.round + 1 }) ok)

  -- an entry is pushed, and a round begins
  entry_goes : (m : MasterState) → ServingFits w k m → (e : Entry) → EntryAsked w e → Goes (begins_round k (record m { log = m.log ++ e ∷ [] }))
  entry_goes m ok e asked = round_goes (record m { log = m.log ++ e ∷ [] }) (push_fits m ok e asked)

  -- ---- updates

  holds_goes : (m : MasterState) → ServingFits w k m → (index : ℕ) → Goes (holds_back k m index)
  holds_goes m ok index = round_goes (record m { held = insert_key nat_cmp m.held index }) ok

  free_fits : (m : MasterState) (index : ℕ) (b : Bool) → ServingFits w k m → ServingFits w k (marked_free m index b)
  free_fits m index true ok = ok
  free_fits m index false ok = ok

  executes_goes : (m : MasterState) → ServingFits w k m → (wish : Wish) (r : Request) → IsOfClient w r → (b : Bool) → Goes (executes k m wish r b)
  executes_goes m ok AtOnce r asked true = let after = push_fits m ok (Op r r.first) asked in (after, (reply_said (marked_free (pushed m r r.first) (length m.log) true) after false r.id _ asked, tt))
  executes_goes m ok AtOnce r asked false = holds_goes (pushed m r r.first) (push_fits m ok (Op r r.first) asked) (length m.log)
  executes_goes m ok WhenSynced r asked b = holds_goes (marked_free (pushed m r r.first) (length m.log) b) (free_fits (pushed m r r.first) (length m.log) b (push_fits m ok (Op r r.first) asked)) (length m.log)

  carries_goes : (m : MasterState) → ServingFits w k m → (wish : Wish) (r : Request) → IsOfClient w r → (v : Verdict) → Goes (carries_out k m wish r v)
  carries_goes m ok wish r asked (Deny why) = (ok, (refuse_said w k me r.id why asked, tt))
  carries_goes m ok wish r asked (Tell a) = (ok, (reply_said m ok true r.id a asked, tt))
  carries_goes m ok wish r asked (TellAgain a) = (ok, (reply_said m ok false r.id a asked, tt))
  carries_goes m ok wish r asked (HoldBack index) = holds_goes m ok index
  carries_goes m ok wish r asked Execute = executes_goes m ok wish r asked (is_clean m r.command)

  update_goes : (m : MasterState) → ServingFits w k m → (wish : Wish) (ask : Ask) → IsOfClient w ask.request → Goes (on_update k m wish ask)
  unfolding on_update
  update_goes m ok wish ask asked = carries_goes m ok wish ask.request asked (verdict m wish ask)

  -- ---- reads

  -- the master once it has captured a read
  abbrev captured_by : MasterState → Request → List ℕ → MasterState
  captured_by m r key = record m {
    captures = m.captures ++ (record { number = m.captured + 1; id = r.id; command = r.command; answer = Found (store.get (state_of m).store key); length = length m.log; round = m.round + 1 }) ∷ [];
    captured = m.captured + 1;
  }

  captures_goes : (m : MasterState) → ServingFits w k m → (r : Request) (key : List ℕ) → IsOfClient w r → Goes (captures_read k m r key)
  captures_goes m ok r key asked = round_goes (captured_by m r key) (record { given = ok.given; next = ok.next; its_lo = ok.its_lo; its_hi = ok.its_hi; entries = ok.entries; reads = Each-append _ m.captures _ ok.reads (asked, tt) })

  read_goes : (m : MasterState) → ServingFits w k m → (ask : Ask) → IsOfClient w ask.request → Goes (on_read k m ask)
  unfolding on_read
  read_goes m ok ask asked = by_command ask.request.command
    where
      by_refusal : (key : List ℕ) (o : Option Refusal) → Goes (read_of k m ask.request key o)
      by_refusal key (Some why) = (ok, (refuse_said w k me ask.request.id why asked, tt))
      by_refusal key None = captures_goes m ok ask.request key asked

      by_command : (c : Command) → Goes (read_command k m ask c)
      by_command (Get key) = by_refusal key (read_refusal m ask)
      by_command _ = (ok, tt)

  glance_goes : (m : MasterState) → ServingFits w k m → (ask : Ask) → IsOfClient w ask.request → Goes (on_glance k m ask)
  unfolding on_glance
  glance_goes m ok ask asked = by_command ask.request.command
    where
      by_refusal : (key : List ℕ) (o : Option Refusal) → Goes (glance_of k m ask.request key o)
      by_refusal key (Some why) = (ok, (refuse_said w k me ask.request.id why asked, tt))
      by_refusal key None = cond_both (is_clean m ask.request.command) _ _ Goes
          (λ y. (
            record { given = ok.given; next = ok.next; its_lo = ok.its_lo; its_hi = ok.its_hi; entries = ok.entries; reads = ok.reads },
            (master_said w k (client_node ask.request.id.client) _ (record { sender = (refl, me); addressee = (refl, asked); fits = refl }), tt),
          ))
          (λ y. captures_goes m ok ask.request key asked)

      by_command : (c : Command) → Goes (glance_command k m ask c)
      by_command (Get key) = by_refusal key (read_refusal m ask)
      by_command _ = (ok, tt)

  -- ---- what backups say

  -- the version that is prepared is that of lists that were sent
  prepared_fits : (s : Switch) → WasSent w (says manager_node (master_node k) (body.Prepare (list_of s))) → MessageFits w (says (master_node k) manager_node (body.Prepared s.version))
  prepared_fits s next = record { sender = (refl, me); addressee = (refl, refl); fits = record { prepare = list_of s; sent = next; its_version = refl } }

  prepares_goes : (m : MasterState) → ServingFits w k m → (s : Switch) → NextSent w (lists_of_master (master_node k) m) (Switching s) → Goes (prepares k m s)
  prepares_goes m ok s next = cond_both (not s.prepared && all_have m.acknowledged s.backups (length m.log) s.round) _ _ Goes
      (λ y. (record { given = ok.given; next = next; its_lo = ok.its_lo; its_hi = ok.its_hi; entries = ok.entries; reads = ok.reads }, manager_told (body.Prepared s.version) (prepared_fits s next)))
      (λ y. (ok, tt))

  goes_goes : (m : MasterState) → ServingFits w k m → (p : Phase) → NextSent w (lists_of_master (master_node k) m) p → Goes (goes_on k m p)
  goes_goes m ok Open next = settle_goes m ok
  goes_goes m ok (Switching s) next = prepares_goes m ok s next

  appended_goes : (m : MasterState) → ServingFits w k m → (from : NodeId) (round : ℕ) (a : AppendAnswer) → Goes (on_appended k m from round a)
  unfolding on_appended
  appended_goes m ok from round (Stored long) = cond_both (is_among from (stored_on m)) _ _ Goes (λ y. goes_goes (record m { acknowledged = raised m.acknowledged from long round }) ok m.phase ok.next) (λ y. (ok, tt))
  appended_goes m ok from round _ = (ok, tt)

  -- ---- suspects

  treated_fits : (m : MasterState) → ServingFits w k m → (r : Request) → IsOfClient w r → (c : Check) → ServingFits w k (treated m r c)
  treated_fits m ok r asked (Known a index) = ok
  treated_fits m ok r asked (Stale first) = ok
  treated_fits m ok r asked Expired = ok
  treated_fits m ok r asked New = cond_both (owns_all (state_of m).owned (hashes r.command)) _ _ (ServingFits w k) (λ y. push_fits m ok (Op r 0) asked) (λ y. ok)

  treat_fits : (rs : List Request) (m : MasterState) → ServingFits w k m → Each (IsOfClient w) rs → ServingFits w k (treat m rs)
  treat_fits [] m ok all = ok
  treat_fits (r ∷ rs) m ok all = treat_fits rs (treated m r (check (state_of m).table r.id)) (treated_fits m ok r all.0 (check (state_of m).table r.id)) all.1

  collected_goes : (m : MasterState) → ServingFits w k m → (a : GcAnswer) → SuspectsAsked w a → Goes (on_collected k m a)
  unfolding on_collected
  collected_goes m ok (Suspects rs) all = cond_both (is_open m.phase) _ _ Goes (λ y.
      let after = treat_fits rs m ok all in
      cond_both (length (treat m rs).log == length m.log) _ _ Goes (λ z. (after, tt)) (λ z. round_goes (treat m rs) after)) (λ y. (ok, tt))
  collected_goes m ok _ all = (ok, tt)

  -- ---- new lists

  prepare_goes : (m : MasterState) → ServingFits w k m → (q : Prepare) → WasSent w (says manager_node (master_node k) (body.Prepare q)) → (p : Phase) → Goes (prepare_in k m q p)
  prepare_goes m ok q sent Open = cond_both (nat_lt m.version q.version) _ _ Goes
      (λ y. round_goes (record m { phase = Switching (switch_to m q) }) (record { given = ok.given; next = sent; its_lo = ok.its_lo; its_hi = ok.its_hi; entries = ok.entries; reads = ok.reads }))
      (λ y. (ok, tt))
  prepare_goes m ok q sent (Switching s) = cond_both (s.version == q.version) _ _ Goes (λ y. round_goes m ok) (λ y. (ok, tt))

  adopted_goes : (m : MasterState) → ServingFits w k m → (version : ℕ) (p : Phase) → NextSent w (lists_of_master (master_node k) m) p → Goes (adopted_in k m version p)
  adopted_goes m ok version Open next = (ok, tt)
  adopted_goes m ok version (Switching s) next = cond_both (s.version == version) _ _ Goes
      (λ y. settle_goes (record m { version = s.version; backups = s.backups; witnesses = s.witnesses; phase = Open }) (record { given = ByReplacement (lists_of_master (master_node k) m) (list_of s) ok.given next; next = tt; its_lo = ok.its_lo; its_hi = ok.its_hi; entries = ok.entries; reads = ok.reads })) (λ y. (ok, tt))

  -- ---- migrations and clients that are gone

  again_goes : (m : MasterState) → ServingFits w k m → (index : ℕ) (b : Body) → MessageFits w (says (master_node k) manager_node b) → Goes (told_again k m index (says (master_node k) manager_node b))
  again_goes m ok index b fits = cond_both (nat_lt index (synced m)) _ _ Goes (λ y. (ok, manager_told b fits)) (λ y. round_goes m ok)

  push_take_goes : (m : MasterState) → ServingFits w k m → (t : TakeOut) → Goes (push_take k m t)
  push_take_goes m ok t = cond_both (is_covered (state_of m).owned t.lo t.hi) _ _ Goes (λ y. entry_goes m ok (Take t.migration (package_of (state_of m) t.lo t.hi t.ordered)) tt) (λ y. (ok, tt))

  take_goes : (m : MasterState) → ServingFits w k m → (t : TakeOut) (o : Option LastTake) → Goes (take_after k m t o)
  take_goes m ok t None = push_take_goes m ok t
  take_goes m ok t (Some last) = cond_both (t.migration == last.migration) _ _ Goes (λ y. again_goes m ok last.index _ (record { sender = (refl, me); addressee = (refl, refl); fits = tt }))
      (λ y. cond_both (nat_lt last.migration t.migration) _ _ Goes (λ z. push_take_goes m ok t) (λ z. (ok, tt)))

  give_goes : (m : MasterState) → ServingFits w k m → (g : Parcel) (o : Option LastGive) → Goes (give_after k m g o)
  give_goes m ok g None = entry_goes m ok (Give g.migration g.package) tt
  give_goes m ok g (Some last) = cond_both (nat_le g.migration last.migration) _ _ Goes (λ y. again_goes m ok last.index _ (record { sender = (refl, me); addressee = (refl, refl); fits = tt }))
      (λ y. entry_goes m ok (Give g.migration g.package) tt)

  expire_goes : (m : MasterState) → ServingFits w k m → (client : ℕ) → Goes (on_expire k m client)
  expire_goes m ok client = cond_both (is_gone (state_of m).table client) _ _ Goes (λ y. (ok, tt)) (λ y. entry_goes m ok (Expire client) tt)

  -- ---- inputs

  unless_ended : (m : MasterState) → ServingFits w k m → (r : Moved MasterState) → Goes r → Goes (unless_it_ends m r)
  unless_ended m ok r goes = cond_both _ _ _ Goes (λ y. (ok, tt)) (λ y. goes)

  by_message_goes : (m : MasterState) → ServingFits w k m → (from to : NodeId) (b : Body) → IsOf w (sender_kind b) from → BodyFits w from to b
      → to ≡ master_node k → WasSent w (says from to b) → Goes (by_message k m from b)
  by_message_goes m ok from to (body.Update ask) sender fits here sent = update_goes m ok AtOnce ask (asked_by w from ask.request.id.client sender fits)
  by_message_goes m ok from to (body.Sync ask) sender fits here sent = update_goes m ok WhenSynced ask (asked_by w from ask.request.id.client sender fits)
  by_message_goes m ok from to (body.Read ask) sender fits here sent = read_goes m ok ask (asked_by w from ask.request.id.client sender fits)
  by_message_goes m ok from to (body.Glance ask) sender fits here sent = glance_goes m ok ask (asked_by w from ask.request.id.client sender fits)
  by_message_goes m ok from to (body.Appended a) sender fits here sent = appended_goes m ok from a.round a.answer
  by_message_goes m ok from to (body.Collected c) sender fits here sent = collected_goes m ok c.answer fits
  by_message_goes m ok from to (body.Prepare p) sender fits here sent = prepare_goes m ok p (from_manager w k from to (body.Prepare p) sender here sent) m.phase
    where
      from_manager : (w : World) (k : ℕ) (from to : NodeId) (b : Body) → IsOf w kind.Manager from → to ≡ master_node k → WasSent w (says from to b) → WasSent w (says manager_node (master_node k) b)
      from_manager w k from to b sender here sent = subst (λ (x : NodeId). WasSent w (says x (master_node k) b)) (is_manager w from sender) (subst (λ (x : NodeId). WasSent w (says from x b)) here sent)
  by_message_goes m ok from to (body.Adopted a) sender fits here sent = adopted_goes m ok a.version m.phase ok.next
  by_message_goes m ok from to (body.TakeOut t) sender fits here sent = cond_both (is_open m.phase) _ _ Goes (λ y. take_goes m ok t (state_of m).taken) (λ y. (ok, tt))
  by_message_goes m ok from to (body.GiveIn g) sender fits here sent = cond_both (is_open m.phase) _ _ Goes (λ y. give_goes m ok g (state_of m).given) (λ y. (ok, tt))
  by_message_goes m ok from to (body.ExpireClient client) sender fits here sent = expire_goes m ok client
  by_message_goes m ok from to _ sender fits here sent = (ok, tt)

  -- a message comes to a serving master
  pub serving_hears : (m : MasterState) → ServingFits w k m → (from to : NodeId) (b : Body) → IsOf w (sender_kind b) from → BodyFits w from to b
      → to ≡ master_node k → WasSent w (says from to b) → ServingFits w k (on_serving k m from b).state × AllSaid w (master_node k) (on_serving k m from b).messages
  unfolding on_serving
  serving_hears m ok from to b sender fits here sent = unless_ended m ok (by_message k m from b) (by_message_goes m ok from to b sender fits here sent)

  sync_goes : (m : MasterState) → ServingFits w k m → (p : Phase) → NextSent w (lists_of_master (master_node k) m) p → Goes (sync_in k m p)
  sync_goes m ok Open next = round_goes m ok
  sync_goes m ok (Switching s) next = let r = round_goes m ok in cond_both s.prepared _ _ Goes
      (λ y. (r.0, (master_said w k manager_node (body.Prepared s.version) (prepared_fits s next), r.1))) (λ y. r)

  collect_goes : (m : MasterState) → ServingFits w k m → (p : Phase) → Goes (collect_in k m p)
  collect_goes m ok Open = collects_goes m ok
  collect_goes m ok (Switching s) = (ok, tt)

  -- an order comes to a serving master
  pub serving_told : (m : MasterState) → ServingFits w k m → (order : Local) → ServingFits w k (serving_ordered k m order).state × AllSaid w (master_node k) (serving_ordered k m order).messages
  unfolding serving_ordered
  serving_told m ok local.Sync = unless_ended m ok (sync_in k m m.phase) (sync_goes m ok m.phase ok.next)
  serving_told m ok local.Collect = collect_goes m ok m.phase
  serving_told m ok _ = (ok, tt)
