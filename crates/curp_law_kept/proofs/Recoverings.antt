-- What fresh and recovering masters say fits, from themselves, and they go by the manager's order.
use Rattle.std.proofs.Common.{◌≡◌, ℕ, ◌+◌, ◌&&◌, nat_le, not, List, [], ◌∷◌, ◌++◌, length, Option, Some, None, refl, subst}
use Rattle.std.specs.Prelude.{⊤}
use Rattle.std.specs.List.{filter}
use Rattle.std.proofs.lemmas.Bool.{cond_both}
use Rattle.curp_base.specs.Words.{Each, rises_past}
use Rattle.curp_base.proofs.Lists.{Each-append, Each-map, Each-filter}
use Rattle.curp_cmd.specs.Node.{is_among, manager_node, master_node, same_node}
use Rattle.curp_cmd.specs.Store.{is_update}
use Rattle.curp_cmd.specs.declared.command.Request.{Request}
use Rattle.curp_cmd.specs.declared.command.RequestId.{RequestId}
use Rattle.curp_cmd.specs.declared.entry.Entry.{Entry}
use Rattle.curp_cmd.specs.declared.entry.Entry.TheVariants.{Op}
use Rattle.curp_cmd.specs.declared.node.NodeId.{NodeId}
use Rattle.curp_cmd.specs.declared.node.NodeKind.TheVariants as kind
use Rattle.curp_msg.specs.Moved.{Moved, says}
use Rattle.curp_msg.specs.declared.answer.AppendAnswer.{AppendAnswer}
use Rattle.curp_msg.specs.declared.answer.AppendAnswer.TheVariants.{Stored}
use Rattle.curp_msg.specs.declared.answer.FenceReply.{FenceReply}
use Rattle.curp_msg.specs.declared.answer.FenceReply.TheVariants.{Log}
use Rattle.curp_msg.specs.declared.answer.Refusal.TheVariants as refusal
use Rattle.curp_msg.specs.declared.body.Body.{Body}
use Rattle.curp_msg.specs.declared.body.Body.TheVariants as body
use Rattle.curp_msg.specs.declared.body.Recover.{Recover}
use Rattle.curp_msg.specs.Input.{Input}
use Rattle.curp_msg.specs.Input as input
use Rattle.curp_msg.specs.declared.machine.Local.{Local}
use Rattle.curp_msg.specs.declared.machine.Local.TheVariants as local
use Rattle.curp_model.specs.Log.{is_log, meaning}
use Rattle.curp_model.specs.Master.{last_round}
use Rattle.curp_model.specs.Named.{IsNodeOf}
use Rattle.curp_model.specs.Recovery.{Asking, Fresh, MasterStage, RecoveryPhase, RecoveryState, Recovering, Replayed, Serving, Storing, Waiting, again_in, all_complete, append_answered, appends_whole, both_there, completed_by, fence_answered, fence_of, freeze_of, log_comes, master_input, master_ordered, next_storing, on_fresh, on_master, on_recover, on_recovering, recovered_message, recovery_ordered, replay, replays, requests_come, serves, stored_comes, turns_away, turns_read_away, unanswered_log, unanswered_requests, with_complete}
use Rattle.curp_model.specs.World.{World}
use Rattle.curp_facts.specs.Facts.{ByRecovery, IsGiven, WasSent, lists_of_order}
use Rattle.curp_facts.specs.Names.{IsOf, Names, RecoverOrderOk}
use Rattle.curp_facts.specs.Fits.{BodyFits, EntryAsked, IsOfClient, LogThere, MasterFits, PhaseFits, RecoveringFits, ReplyAsked, RequestsThere, sender_kind}
use Rattle.curp_law_kept.proofs.ClientsFit.{Arrives, is_manager}
use Rattle.curp_law_kept.proofs.KeepersFit.{AllSaid, Said}
use Rattle.curp_law_kept.proofs.NumberedLists.{among_each, each_among}
use Rattle.curp_law_kept.proofs.Servings.{asked_by, master_said, refuse_said, serving_hears, serving_told}

-- a replay adds requests that are asked
replay_fits : (w : World) (lo hi : ℕ) (rs : List Request) (log : List Entry) → Each (EntryAsked w) log → Each (IsOfClient w) rs → Each (EntryAsked w) (replay lo hi log rs)
replay_fits w lo hi [] log ok all = ok
replay_fits w lo hi (r ∷ rs) log ok all = cond_both (replays (meaning lo hi log) r) (replay lo hi (log ++ Op r 0 ∷ []) rs) (replay lo hi log rs) (Each (EntryAsked w))
    (λ y. replay_fits w lo hi rs (log ++ Op r 0 ∷ []) (Each-append (EntryAsked w) log _ ok (all.0, tt)) all.1)
    (λ y. replay_fits w lo hi rs log ok all.1)

-- a message that comes to master k is for it
abbrev pub IsForMaster : ℕ → Input → Type 0
IsForMaster k (input.Local order) = ⊤
IsForMaster k (input.Message m) = m.to ≡ master_node k

module _ (w : World) (n : Names w) (k : ℕ) (me : IsNodeOf w kind.Master k) where
  abbrev Goes : Moved RecoveryState → Type 0
  Goes r = RecoveringFits w k r.state × AllSaid w (master_node k) r.messages

  abbrev Ordered : Recover → Type 0
  Ordered o = WasSent w (says manager_node (master_node k) (body.Recover o))

  module _ (o : Recover) (sent : Ordered o) where
    order_ok : RecoverOrderOk w (master_node k) o
    order_ok = n.manager_says (master_node k) (body.Recover o) sent

    given : IsGiven w (lists_of_order (master_node k) o)
    given = ByRecovery (master_node k) o sent

    fence_said : AllSaid w (master_node k) (fence_of k o)
    fence_said = (master_said w k o.backup (body.Fence o.epoch) (record { sender = (refl, me); addressee = among_each (IsOf w kind.Backup) order_ok.before.backups (n.given order_ok.before order_ok.was.given).backups o.backup order_ok.its_backup; fits = record { order = o; ordered = sent; its_epoch = refl; its_backup = refl } }), tt)

    freeze_said : AllSaid w (master_node k) (freeze_of k o)
    freeze_said = (master_said w k o.witness (body.Freeze o.epoch) (record { sender = (refl, me); addressee = among_each (IsOf w kind.Witness) order_ok.before.witnesses (n.given order_ok.before order_ok.was.given).witnesses o.witness order_ok.its_witness; fits = record { order = o; ordered = sent; its_epoch = refl; its_witness = refl } }), tt)

    recovered_said : AllSaid w (master_node k) (recovered_message k o)
    recovered_said = (master_said w k manager_node (body.Recovered (record { part = o.part; epoch = o.epoch })) (record { sender = (refl, me); addressee = (refl, refl); fits = record { order = o; ordered = sent; its_part = refl; its_epoch = refl } }), tt)

    whole_said : (r : Replayed) → Each (EntryAsked w) r.log → (backups : List NodeId) → Each (IsOf w kind.Backup) backups → AllSaid w (master_node k) (appends_whole k o r backups)
    whole_said r log backups nodes = Each-map (Said w (master_node k)) _ backups (each_among _ backups (λ to a.
        master_said w k to _ (record { sender = (refl, me); addressee = among_each (IsOf w kind.Backup) backups nodes to a; fits = log })))

    recover_goes : Goes (on_recover k o)
    unfolding on_recover
    recover_goes = (record { ordered = sent; phase = (tt, tt) }, Each-append (Said w (master_node k)) (fence_of k o) (freeze_of k o) fence_said freeze_said)

    both_goes : (log : Option (List Entry)) (requests : Option (List Request)) → LogThere w log → RequestsThere w requests → Goes (both_there k o log requests)
    both_goes (Some log) (Some requests) l r =
        let all : Each (EntryAsked w) (replay o.lo o.hi log requests) = replay_fits w o.lo o.hi requests log l r in
        (record { ordered = sent; phase = all }, whole_said (record { log = replay o.lo o.hi log requests; cut = length log; round = 1; complete = [] }) all o.backups (n.given _ given).backups)
    both_goes (Some log) None l r = (record { ordered = sent; phase = (l, r) }, tt)
    both_goes None requests l r = (record { ordered = sent; phase = (l, r) }, tt)

    completed_goes : (r : Replayed) → Each (EntryAsked w) r.log → Goes (completed_by k o r)
    completed_goes r log = cond_both (all_complete o r) _ _ Goes (λ y. (record { ordered = sent; phase = log }, recovered_said)) (λ y. (record { ordered = sent; phase = log }, tt))

    complete_log : (r : Replayed) (from : NodeId) → Each (EntryAsked w) r.log → Each (EntryAsked w) (with_complete r from).log
    complete_log r from log = cond_both (is_among from r.complete) r (record r { complete = r.complete ++ from ∷ [] }) (λ (x : Replayed). Each (EntryAsked w) x.log) (λ y. log) (λ y. log)

    unanswered_log_said : (log : Option (List Entry)) → AllSaid w (master_node k) (unanswered_log k o log)
    unanswered_log_said None = fence_said
    unanswered_log_said (Some log) = tt

    unanswered_requests_said : (requests : Option (List Request)) → AllSaid w (master_node k) (unanswered_requests k o requests)
    unanswered_requests_said None = freeze_said
    unanswered_requests_said (Some requests) = tt

    -- ---- by phase

    abbrev at : RecoveryPhase → RecoveryState
    at p = record { order = o; phase = p }

    log_goes : (from : NodeId) (entries : List Entry) → Each (EntryAsked w) entries → (p q : RecoveryPhase) → PhaseFits w p → PhaseFits w q → Goes (log_comes k (at p) from entries q)
    log_goes from entries all p (Asking None requests) ok its = cond_both (same_node from o.backup && is_log o.lo o.hi entries) _ _ Goes (λ y. both_goes (Some entries) requests all its.1) (λ y. (record { ordered = sent; phase = ok }, tt))
    log_goes from entries all p (Asking (Some log) requests) ok its = (record { ordered = sent; phase = ok }, tt)
    log_goes from entries all p (Storing r) ok its = (record { ordered = sent; phase = ok }, tt)
    log_goes from entries all p (Waiting r) ok its = (record { ordered = sent; phase = ok }, tt)

    requests_goes : (from : NodeId) (rs : List Request) → Each (IsOfClient w) rs → (p q : RecoveryPhase) → PhaseFits w p → PhaseFits w q → Goes (requests_come k (at p) from rs q)
    requests_goes from rs all p (Asking log None) ok its = cond_both (same_node from o.witness) _ _ Goes (λ y. both_goes log (Some rs) its.0 all) (λ y. (record { ordered = sent; phase = ok }, tt))
    requests_goes from rs all p (Asking log (Some requests)) ok its = (record { ordered = sent; phase = ok }, tt)
    requests_goes from rs all p (Storing r) ok its = (record { ordered = sent; phase = ok }, tt)
    requests_goes from rs all p (Waiting r) ok its = (record { ordered = sent; phase = ok }, tt)

    stored_goes : (from : NodeId) (long : ℕ) (p q : RecoveryPhase) → PhaseFits w p → PhaseFits w q → Goes (stored_comes k (at p) from long q)
    stored_goes from long p (Storing r) ok its = cond_both (is_among from o.backups && nat_le (length r.log) long) _ _ Goes (λ y. completed_goes (with_complete r from) (complete_log r from its)) (λ y. (record { ordered = sent; phase = ok }, tt))
    stored_goes from long p (Asking log requests) ok its = (record { ordered = sent; phase = ok }, tt)
    stored_goes from long p (Waiting r) ok its = (record { ordered = sent; phase = ok }, tt)

    again_goes : (p q : RecoveryPhase) → PhaseFits w p → PhaseFits w q → Goes (again_in k (at p) q)
    again_goes p (Asking log requests) ok its =
        (record { ordered = sent; phase = ok }, Each-append (Said w (master_node k)) (unanswered_log k o log) _ (unanswered_log_said log) (unanswered_requests_said requests))
    again_goes p (Storing r) ok its = cond_both (rises_past last_round r.round (r.round + 1)) _ _ Goes (λ y. (record { ordered = sent; phase = ok }, tt)) (λ y.
        (record { ordered = sent; phase = its }, whole_said (next_storing r) its (filter (λ b. not (is_among b r.complete)) o.backups) (Each-filter (IsOf w kind.Backup) _ o.backups (n.given _ given).backups)))
    again_goes p (Waiting r) ok its = (record { ordered = sent; phase = ok }, recovered_said)

    -- it begins to serve by its order
    serves_fits : (p q : RecoveryPhase) → PhaseFits w p → PhaseFits w q → MasterFits w k (serves (at p) q)
    serves_fits p (Waiting r) ok its = record { given = given; next = tt; its_lo = order_ok.its_lo; its_hi = order_ok.its_hi; entries = its; reads = tt }
    serves_fits p (Asking log requests) ok its = record { ordered = sent; phase = ok }
    serves_fits p (Storing r) ok its = record { ordered = sent; phase = ok }

  -- ---- the master as a node

  abbrev Fits : Moved MasterStage → Type 0
  Fits r = MasterFits w k r.state × AllSaid w (master_node k) r.messages

  turned_fits : (m : MasterStage) → MasterFits w k m → (id : RequestId) → IsNodeOf w kind.Client id.client → Fits (turns_away k m id)
  turned_fits m ok id asked = (ok, (refuse_said w k me id refusal.Switching asked, tt))

  turned_read_fits : (m : MasterStage) → MasterFits w k m → (r : Request) → IsOfClient w r → Fits (turns_read_away k m r)
  turned_read_fits m ok r asked = cond_both (is_update r.command) _ _ Fits (λ y. (ok, tt)) (λ y. turned_fits m ok r.id asked)

  fresh_fits : (from to : NodeId) (b : Body) → IsOf w (sender_kind b) from → BodyFits w from to b → to ≡ master_node k → WasSent w (says from to b) → Fits (on_fresh k b)
  fresh_fits from to (body.Recover o) sender fits here sent =
      recover_goes o (subst (λ (x : NodeId). WasSent w (says x (master_node k) (body.Recover o))) (is_manager w from sender) (subst (λ (x : NodeId). WasSent w (says from x (body.Recover o))) here sent))
  fresh_fits from to (body.Update ask) sender fits here sent = turned_fits Fresh tt ask.request.id (asked_by w from ask.request.id.client sender fits)
  fresh_fits from to (body.Sync ask) sender fits here sent = turned_fits Fresh tt ask.request.id (asked_by w from ask.request.id.client sender fits)
  fresh_fits from to (body.Read ask) sender fits here sent = turned_read_fits Fresh tt ask.request (asked_by w from ask.request.id.client sender fits)
  fresh_fits from to (body.Glance ask) sender fits here sent = turned_read_fits Fresh tt ask.request (asked_by w from ask.request.id.client sender fits)
  fresh_fits from to _ sender fits here sent = (tt, tt)

  fence_fits : (s : RecoveryState) → RecoveringFits w k s → (from : NodeId) (a : FenceReply) → ReplyAsked w a → Goes (fence_answered k s from a)
  fence_fits s ok from (Log entries) all = log_goes s.order ok.ordered from entries all s.phase s.phase ok.phase ok.phase
  fence_fits s ok from _ all = (ok, tt)

  append_fits : (s : RecoveryState) → RecoveringFits w k s → (from : NodeId) (a : AppendAnswer) → Goes (append_answered k s from a)
  append_fits s ok from (Stored long) = stored_goes s.order ok.ordered from long s.phase s.phase ok.phase ok.phase
  append_fits s ok from _ = (ok, tt)

  recovering_fits : (s : RecoveryState) → RecoveringFits w k s → (from to : NodeId) (b : Body) → IsOf w (sender_kind b) from → BodyFits w from to b → Fits (on_recovering k s from b)
  recovering_fits s ok from to (body.FenceAnswer a) sender fits = fence_fits s ok from a.answer fits
  recovering_fits s ok from to (body.FrozenAnswer requests) sender fits = requests_goes s.order ok.ordered from requests fits s.phase s.phase ok.phase ok.phase
  recovering_fits s ok from to (body.Appended a) sender fits = append_fits s ok from a.answer
  recovering_fits s ok from to (body.Adopted a) sender fits = (serves_fits s.order ok.ordered s.phase s.phase ok.phase ok.phase, tt)
  recovering_fits s ok from to (body.Update ask) sender fits = turned_fits (Recovering s) ok ask.request.id (asked_by w from ask.request.id.client sender fits)
  recovering_fits s ok from to (body.Sync ask) sender fits = turned_fits (Recovering s) ok ask.request.id (asked_by w from ask.request.id.client sender fits)
  recovering_fits s ok from to (body.Read ask) sender fits = turned_read_fits (Recovering s) ok ask.request (asked_by w from ask.request.id.client sender fits)
  recovering_fits s ok from to (body.Glance ask) sender fits = turned_read_fits (Recovering s) ok ask.request (asked_by w from ask.request.id.client sender fits)
  recovering_fits s ok from to _ sender fits = (ok, tt)

  master_hears : (m : MasterStage) → MasterFits w k m → (from to : NodeId) (b : Body) → IsOf w (sender_kind b) from → BodyFits w from to b → to ≡ master_node k → WasSent w (says from to b) → Fits (on_master k m from b)
  unfolding on_master
  master_hears Fresh ok from to b sender fits here sent = fresh_fits from to b sender fits here sent
  master_hears (Recovering s) ok from to b sender fits here sent = recovering_fits s ok from to b sender fits
  master_hears (Serving m) ok from to b sender fits here sent = serving_hears w n k me m ok from to b sender fits here sent

  recovery_told : (s : RecoveryState) → RecoveringFits w k s → (order : Local) → Goes (recovery_ordered k s order)
  recovery_told s ok local.Sync = again_goes s.order ok.ordered s.phase s.phase ok.phase ok.phase
  recovery_told s ok _ = (ok, tt)

  master_told : (m : MasterStage) → MasterFits w k m → (order : Local) → Fits (master_ordered k m order)
  unfolding master_ordered
  master_told Fresh ok order = (tt, tt)
  master_told (Recovering s) ok order = recovery_told s ok order
  master_told (Serving m) ok order = serving_told w n k me m ok order

  -- what comes to a master
  pub master_fits : (m : MasterStage) → MasterFits w k m → (given : Input) → Arrives w given → IsForMaster k given → MasterFits w k (master_input k m given).state × AllSaid w (master_node k) (master_input k m given).messages
  master_fits m ok (input.Local order) comes here = master_told m ok order
  master_fits m ok (input.Message x) comes here = master_hears m ok x.from x.to x.body comes.0.sender comes.0.fits here comes.1
