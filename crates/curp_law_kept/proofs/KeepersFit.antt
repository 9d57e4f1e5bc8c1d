-- What backups and witnesses say fits, from themselves.
use Rattle.std.proofs.Common.{◌≡◌, ℕ, ◌-◌, ◌==◌, nat_lt, not, List, [], ◌∷◌, length, map, fold, Option, Some, None, refl, subst}
use Rattle.std.specs.Prelude.{⊤}
use Rattle.std.specs.FinMap.Entries.{by_order}
use Rattle.std.specs.declared.cmp.Ordering.{Ordering}
use Rattle.std.specs.declared.cmp.Ordering.TheVariants.{Less, Equal, Greater}
use Rattle.std.proofs.lemmas.Bool.{cond_both}
use Rattle.curp_base.specs.Words.{Each}
use Rattle.curp_base.proofs.Lists.{Each-append, Each-drop, Each-filter}
use Rattle.curp_cmd.specs.Node.{backup_node, client_node, witness_node}
use Rattle.curp_cmd.specs.RequestId.{id_cmp}
use Rattle.curp_cmd.specs.declared.command.Request.{Request}
use Rattle.curp_cmd.specs.declared.command.RequestId.{RequestId}
use Rattle.curp_cmd.specs.declared.entry.Entry.{Entry}
use Rattle.curp_cmd.specs.declared.node.NodeId.{NodeId}
use Rattle.curp_cmd.specs.declared.node.NodeKind.TheVariants as kind
use Rattle.curp_msg.specs.Moved.{says}
use Rattle.curp_msg.specs.declared.answer.AppendAnswer.TheVariants.{Fenced, Gap, NotInstalled}
use Rattle.curp_msg.specs.declared.answer.FenceReply.TheVariants as reply
use Rattle.curp_msg.specs.declared.answer.Reason.{Reason}
use Rattle.curp_msg.specs.declared.body.Body.{Body}
use Rattle.curp_msg.specs.declared.body.Body.TheVariants as body
use Rattle.curp_msg.specs.Input.{Input}
use Rattle.curp_msg.specs.Input as input
use Rattle.curp_msg.specs.declared.message.Message.{Message}
use Rattle.curp_model.specs.declared.Mode.{Mode}
use Rattle.curp_model.specs.declared.Mode.TheVariants.{Idle, Normal, Frozen}
use Rattle.curp_model.specs.Backup.{AfterAppend, AfterFence, BackupState, append, is_installed_at, refuses_entries, stores, backup_input, fence, install, installed_once, longer, on_backup}
use Rattle.curp_model.specs.Named.{IsNodeOf}
use Rattle.curp_model.specs.Witness.{AfterCollection, AfterRecord, HeldRequest, WitnessState, by_room, collect, collected_at, collected_in, conflict, full_set, gc, hold, holds, least_hash, newly_held, on_witness, placed, sorted_in, started, stranger_to, survives, suspect, turned_away, unless_turned_away, verdict_body, witness_input}
use Rattle.curp_model.specs.World.{World}
use Rattle.curp_facts.specs.Names.{IsOf}
use Rattle.curp_facts.specs.Fits.{BackupFits, BodyFits, EntryAsked, IsOfClient, MessageFits, ReplyAsked, SuspectsAsked, WitnessFits, sender_kind}

-- a node says what fits, in its own name
pub record Said (w : World) (me : NodeId) (m : Message) : Type 0 where
  pub from : m.from ≡ me
  pub fits : MessageFits w m

-- each of these messages is said so
abbrev pub AllSaid : World → NodeId → List Message → Type 0
AllSaid w me out = Each (Said w me) out

-- a message that comes fits
abbrev pub InputFits : World → Input → Type 0
InputFits w (input.Local order) = ⊤
InputFits w (input.Message m) = MessageFits w m

module _ (w : World) where
  -- ---- backups

  module _ (n : ℕ) (me : IsNodeOf w kind.Backup n) (b : BackupState) (ok : BackupFits w b) where
    abbrev StateFits : AfterAppend → Type 0
    StateFits k = BackupFits w k.state

    append_fits : (epoch base : ℕ) (entries : List Entry) → Each (EntryAsked w) entries → BackupFits w (append b epoch base entries).state
    unfolding append
    append_fits epoch base entries all =
        cond_both (nat_lt epoch b.fence) (refuses_entries b (Fenced b.fence)) _ StateFits (λ y. ok) (λ y.
        cond_both (not (is_installed_at b.installed epoch)) (refuses_entries b NotInstalled) _ StateFits (λ y. ok) (λ y.
        cond_both (nat_lt (length b.log) base) (refuses_entries b (Gap (length b.log))) (stores b (longer b.log base entries)) StateFits (λ y. ok) (λ y.
        Each-append (EntryAsked w) b.log _ ok (Each-drop (EntryAsked w) (length b.log - base) entries all))))

    install_fits : (epoch : ℕ) → BackupFits w (install b epoch)
    install_fits epoch = cond_both _ _ _ (BackupFits w) (λ y. ok) (λ y. once b.installed)
      where
        once : (o : Option ℕ) → BackupFits w (installed_once b epoch o)
        once None = ok
        once (Some own) = ok

    abbrev FenceFits : AfterFence → Type 0
    FenceFits f = BackupFits w f.state × ReplyAsked w f.answer

    fence_fits : (epoch : ℕ) → FenceFits (fence b epoch)
    unfolding fence
    fence_fits epoch = cond_both (nat_lt epoch b.fence) (record { state = b; answer = reply.Fenced b.fence }) (record { state = record b { fence = epoch }; answer = reply.Log b.log }) FenceFits
        (λ y. (ok, tt)) (λ y. (ok, ok))

    backup_hears : (from to : NodeId) (x : Body) → IsOf w (sender_kind x) from → BodyFits w from to x
        → BackupFits w (on_backup n b from x).state × AllSaid w (backup_node n) (on_backup n b from x).messages
    unfolding on_backup
    backup_hears from to (body.Append a) sender fits =
        (append_fits a.epoch a.base a.entries fits, (record { from = refl; fits = record { sender = (refl, me); addressee = sender; fits = tt } }, tt))
    backup_hears from to (body.Install epoch) sender fits = (install_fits epoch, tt)
    backup_hears from to (body.Fence epoch) sender fits =
        ((fence_fits epoch).0, (record { from = refl; fits = record { sender = (refl, me); addressee = sender; fits = (fence_fits epoch).1 } }, tt))
    backup_hears from to _ sender fits = (ok, tt)

    -- what comes to a backup
    pub backup_fits : (given : Input) → InputFits w given → BackupFits w (backup_input n b given).state × AllSaid w (backup_node n) (backup_input n b given).messages
    backup_fits (input.Local order) fits = (ok, tt)
    backup_fits (input.Message m) fits = backup_hears m.from m.to m.body fits.sender fits.fits

  -- ---- witnesses

  abbrev HeldFits : HeldRequest → Type 0
  HeldFits h = IsOfClient w h.request

  placed_fits : (x : HeldRequest) (held : List HeldRequest) → HeldFits x → Each HeldFits held → Each HeldFits (placed x held)
  placed_fits x [] one all = (one, tt)
  placed_fits x (y ∷ held) one all = go (id_cmp x.request.id y.request.id) (placed_fits x held one all.1)
    where
      go : (r : Ordering) → Each HeldFits (placed x held) → Each HeldFits (by_order r (x ∷ y ∷ held) (x ∷ held) (y ∷ placed x held))
      go Less rest = (one, all)
      go Equal rest = (one, all.1)
      go Greater rest = (all.0, rest)

  suspects_fit : (r : Request) (held : List HeldRequest) → Each HeldFits held → Each HeldFits (map (suspect r) held)
  suspects_fit r [] all = tt
  suspects_fit r (x ∷ held) all = (cond_both _ _ x HeldFits (λ y. all.0) (λ n. all.0), suspects_fit r held all.1)

  survivors_fit : (held : List HeldRequest) → Each HeldFits held → Each HeldFits (map survives held)
  survivors_fit [] all = tt
  survivors_fit (x ∷ held) all = (all.0, survivors_fit held all.1)

  requests_fit : (held : List HeldRequest) → Each HeldFits held → Each (IsOfClient w) (map (λ x. x.request) held)
  requests_fit [] all = tt
  requests_fit (x ∷ held) all = (all.0, requests_fit held all.1)

  sorted_fits : (rs : List Request) (r : Request) → Each (IsOfClient w) rs → IsOfClient w r → Each (IsOfClient w) (sorted_in rs r)
  sorted_fits [] r all one = (one, tt)
  sorted_fits (s ∷ rest) r all one = cond_both (nat_lt (least_hash r) (least_hash s)) (r ∷ s ∷ rest) (s ∷ sorted_in rest r) (Each (IsOfClient w)) (λ y. (one, all)) (λ y. (all.0, sorted_fits rest r all.1 one))

  fold_fits : (sorted rs : List Request) → Each (IsOfClient w) sorted → Each (IsOfClient w) rs → Each (IsOfClient w) (fold sorted_in sorted rs)
  fold_fits sorted [] done all = done
  fold_fits sorted (r ∷ rs) done all = fold_fits (sorted_in sorted r) rs (sorted_fits sorted r done all.0) all.1

  module _ (n : ℕ) (me : IsNodeOf w kind.Witness n) (x : WitnessState) (ok : WitnessFits w x) where
    by_room_fits : (r : Request) → IsOfClient w r → (c : Option RequestId) (full : Option ℕ) → WitnessFits w (by_room x r c full).state
    by_room_fits r asked (Some held) full = suspects_fit r x.held ok
    by_room_fits r asked None (Some set) = ok
    by_room_fits r asked None None = placed_fits (newly_held r) x.held asked ok

    turned_fits : (r : Request) → IsOfClient w r → (o : Option Reason) → WitnessFits w (unless_turned_away x r o).state
    turned_fits r asked (Some why) = ok
    turned_fits r asked None = cond_both (holds x r.id) _ _ (λ (a : AfterRecord). WitnessFits w a.state) (λ y. ok) (λ y. by_room_fits r asked (conflict x r) (full_set x r))

    hold_fits : (epoch : ℕ) (r : Request) → IsOfClient w r → WitnessFits w (hold x epoch r).state
    unfolding hold
    hold_fits epoch r asked = turned_fits r asked (turned_away x.mode (stranger_to epoch x.epoch))

    collect_fits : (ids : List RequestId) → WitnessFits w (collect x ids)
    collect_fits ids = survivors_fit _ (Each-filter HeldFits _ x.held ok)

    collected_fits : (m : Mode) (ids : List RequestId) → WitnessFits w (collected_in m x ids).state × SuspectsAsked w (collected_in m x ids).answer
    collected_fits Normal ids = (collect_fits ids, requests_fit _ (Each-filter HeldFits _ (collect x ids).held (collect_fits ids)))
    collected_fits Frozen ids = (ok, tt)
    collected_fits Idle ids = (ok, tt)

    abbrev GcFits : AfterCollection → Type 0
    GcFits c = WitnessFits w c.state × SuspectsAsked w c.answer

    gc_fits : (epoch : ℕ) (ids : List RequestId) → GcFits (gc x epoch ids)
    unfolding gc
    gc_fits epoch ids = at x.epoch
      where
        at : (o : Option ℕ) → GcFits (collected_at o x epoch ids)
        at None = (ok, tt)
        at (Some own) = cond_both (own == epoch) _ _ GcFits (λ y. collected_fits x.mode ids) (λ y. (ok, tt))

    started_fits : (m : Mode) (epoch : ℕ) → WitnessFits w (started m x epoch)
    started_fits Idle epoch = ok
    started_fits Normal epoch = ok
    started_fits Frozen epoch = ok

    verdict_fits : (to : NodeId) (id : RequestId) (epoch : ℕ) (o : Option Reason) → IsOf w kind.Client to → to ≡ client_node id.client → Said w (witness_node n) (says (witness_node n) to (verdict_body id epoch o))
    verdict_fits to id epoch None there own = record { from = refl; fits = record { sender = (refl, me); addressee = there; fits = own } }
    verdict_fits to id epoch (Some why) there own = record { from = refl; fits = record { sender = (refl, me); addressee = there; fits = own } }

    own_client : (from : NodeId) (client : ℕ) → IsOf w kind.Client from → from ≡ client_node client → IsNodeOf w kind.Client client
    own_client from client there own = (subst (IsOf w kind.Client) own there).1

    witness_hears : (from to : NodeId) (y : Body) → IsOf w (sender_kind y) from → BodyFits w from to y
        → WitnessFits w (on_witness n x from y).state × AllSaid w (witness_node n) (on_witness n x from y).messages
    unfolding on_witness
    witness_hears from to (body.Record r) sender fits =
        (hold_fits r.epoch r.request (own_client from r.request.id.client sender fits), (verdict_fits from r.request.id r.epoch (hold x r.epoch r.request).reason sender fits, tt))
    witness_hears from to (body.Gc g) sender fits =
        let c = gc_fits g.epoch g.ids in
        (c.0, (record { from = refl; fits = record { sender = (refl, me); addressee = sender; fits = c.1 } }, tt))
    witness_hears from to (body.Start s) sender fits = (started_fits x.mode s.epoch, tt)
    witness_hears from to (body.Freeze epoch) sender fits =
        (ok, (record { from = refl; fits = record { sender = (refl, me); addressee = sender; fits = fold_fits [] _ tt (requests_fit x.held ok) } }, tt))
    witness_hears from to (body.Probe a) sender fits = (ok, (record { from = refl; fits = record { sender = (refl, me); addressee = sender; fits = fits } }, tt))
    witness_hears from to _ sender fits = (ok, tt)

    -- what comes to a witness
    pub witness_fits : (given : Input) → InputFits w given → WitnessFits w (witness_input n x given).state × AllSaid w (witness_node n) (witness_input n x given).messages
    witness_fits (input.Local order) fits = (ok, tt)
    witness_fits (input.Message m) fits = witness_hears m.from m.to m.body fits.sender fits.fits
