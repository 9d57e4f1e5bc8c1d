-- What clients say fits, from themselves, and they go by adopted lists.
use Rattle.std.proofs.Common.{◌≡◌, ℕ, ◌-◌, ◌^◌, nat_lt, nat_le, not, Bool, true, false, List, [], ◌∷◌, length, Option, Some, None, Ok, refl, sym, ap, subst}
use Rattle.std.specs.Prelude.{⊤}
use Rattle.std.specs.Option.{ok_or}
use Rattle.std.proofs.lemmas.Bool.{cond_both}
use Rattle.curp_base.specs.Cases.{◌>>=◌, refuse_if}
use Rattle.curp_base.specs.Words.{Each, last_of}
use Rattle.curp_base.proofs.Lists.{Each-append, Each-map, Each-filter}
use Rattle.curp_cmd.specs.Hash.{hashes}
use Rattle.curp_cmd.specs.Node.{client_node, manager_node}
use Rattle.curp_cmd.specs.RequestId.{same_id}
use Rattle.curp_cmd.specs.Store.{is_update}
use Rattle.curp_cmd.specs.declared.command.Answer.{Answer}
use Rattle.curp_cmd.specs.declared.command.Command.{Command}
use Rattle.curp_cmd.specs.declared.command.Request.{Request}
use Rattle.curp_cmd.specs.declared.command.RequestId.{RequestId}
use Rattle.curp_cmd.specs.declared.node.NodeId.{NodeId}
use Rattle.curp_cmd.specs.declared.node.NodeKind.TheVariants as kind
use Rattle.curp_msg.specs.Moved.{Moved, quiet, says, unless_refused}
use Rattle.curp_msg.specs.declared.body.Accepted.{Accepted}
use Rattle.curp_msg.specs.declared.body.Body.{Body}
use Rattle.curp_msg.specs.declared.body.Body.TheVariants as body
use Rattle.curp_msg.specs.declared.body.Reply.{Reply}
use Rattle.curp_msg.specs.declared.body.Worth.{Worth}
use Rattle.curp_msg.specs.declared.config.Config.{Config}
use Rattle.curp_msg.specs.declared.config.PartConfig.{PartConfig}
use Rattle.curp_msg.specs.declared.machine.Capture.{Capture}
use Rattle.curp_msg.specs.Input.{Input}
use Rattle.curp_msg.specs.Input as input
use Rattle.curp_msg.specs.declared.machine.Local.{Local}
use Rattle.curp_msg.specs.declared.machine.Local.TheVariants as local
use Rattle.curp_model.specs.Client.{Attempt, ClientState, Early, Pending, accepted, asks, attempt_at, client_input, client_ordered, completes_with, configured, early_reply, fetch, if_proved, invoke, most_pending, next_request, on_client, owner_of, proved_answer, rejected, replaced, replied, retry, sends_again, sends_first, sent_by, valued, with_accept, with_early, with_evidence, with_id, with_pending, Glimpse, with_sight, seen_glimpse, if_seen, glimpsed, with_glimpse, glimpse, asks_value, probed}
use Rattle.curp_model.specs.Named.{IsNodeOf}
use Rattle.curp_model.specs.Ranges.{owns_all}
use Rattle.curp_model.specs.World.{World}
use Rattle.curp_facts.specs.Facts.{AttemptWas, WasAdopted, WasSent, lists_of_part}
use Rattle.curp_facts.specs.Names.{ConfigurationOk, GivenOk, IsOf, Names}
use Rattle.curp_facts.specs.Fits.{ClientFits, MessageFits, PendingFits, sender_kind}
use Rattle.curp_law_kept.proofs.KeepersFit.{AllSaid, Said}
use Rattle.curp_law_kept.proofs.NumberedLists.{among_each, each_among, filter_among, first_among, last_among}
use Rattle.curp_msg.specs.declared.script.Protocol.{Protocol}
use Rattle.curp_msg.specs.declared.script.Protocol.TheVariants.{One, Two}
use Rattle.curp_msg.specs.declared.body.Quick.{Quick}
use Rattle.curp_msg.specs.declared.body.Probed.{Probed}

-- a message that comes was sent, and fits
abbrev pub Arrives : World → Input → Type 0
Arrives w (input.Local order) = ⊤
Arrives w (input.Message m) = MessageFits w m × WasSent w m

-- the manager's name is one
pub is_manager : (w : World) (node : NodeId) → IsOf w kind.Manager node → node ≡ manager_node
is_manager w node of = λ i. record { kind = of.0 i; number = of.1 i }

module _ (w : World) (n : Names w) (k : ℕ) (me : IsNodeOf w kind.Client k) where
  abbrev Goes : Moved ClientState → Type 0
  Goes r = ClientFits w k r.state × AllSaid w (client_node k) r.messages

  -- ---- sending

  -- what a client sends to a node of the kind that it is for
  own_said : (to : NodeId) (b : Body) → MessageFits w (says (client_node k) to b) → Said w (client_node k) (says (client_node k) to b)
  own_said to b fits = record { from = refl; fits = fits }

  sent_fits : (fast : Bool) (protocol : Protocol) (update : Bool) (r : Request) (p : PartConfig) → r.id.client ≡ k → WasAdopted w (lists_of_part p) → AllSaid w (client_node k) (sent_by k fast protocol update r p)
  sent_fits true protocol true r p own was =
      let ok : GivenOk w (lists_of_part p) = n.given (lists_of_part p) was.given in (
        own_said p.master _ (record { sender = (refl, me); addressee = ok.master; fits = ap client_node (sym own) }),
        Each-map (Said w (client_node k)) (λ (to : NodeId). says (client_node k) to (body.Record (record { request = r; epoch = p.epoch }))) p.witnesses
            (each_among (λ (to : NodeId). Said w (client_node k) (says (client_node k) to (body.Record (record { request = r; epoch = p.epoch })))) p.witnesses (λ to a.
            own_said to _ (record { sender = (refl, me); addressee = among_each (IsOf w kind.Witness) p.witnesses ok.witnesses to a; fits = ap client_node (sym own) }))),
      )
  sent_fits false protocol true r p own was =
      (own_said p.master _ (record { sender = (refl, me); addressee = (n.given (lists_of_part p) was.given).master; fits = ap client_node (sym own) }), tt)
  sent_fits fast Two false r p own was =
      let ok : GivenOk w (lists_of_part p) = n.given (lists_of_part p) was.given in (
        own_said p.master _ (record { sender = (refl, me); addressee = ok.master; fits = ap client_node (sym own) }),
        Each-map (Said w (client_node k)) (λ (to : NodeId). says (client_node k) to (body.Probe (record { id = r.id; epoch = p.epoch }))) p.witnesses
            (each_among (λ (to : NodeId). Said w (client_node k) (says (client_node k) to (body.Probe (record { id = r.id; epoch = p.epoch })))) p.witnesses (λ to a.
            own_said to _ (record { sender = (refl, me); addressee = among_each (IsOf w kind.Witness) p.witnesses ok.witnesses to a; fits = ap client_node (sym own) }))),
      )
  sent_fits fast One false r p own was =
      (own_said p.master _ (record { sender = (refl, me); addressee = (n.given (lists_of_part p) was.given).master; fits = ap client_node (sym own) }), tt)

  -- a sending to an entry of adopted lists
  abbrev attempt_was : (p : PartConfig) → WasAdopted w (lists_of_part p) → AttemptWas w (attempt_at p)
  attempt_was p was = record { lists = lists_of_part p; adopted = was; its_master = refl; its_epoch = refl; its_version = refl; its_witnesses = refl }

  module _ (c : ClientState) (ok : ClientFits w k c) where
    rests : Goes (quiet c)
    rests = (ok, tt)

    -- the owner of a command is an entry of adopted lists
    owner_was : (command : Command) (p : PartConfig) → owner_of c.config command ≡ Some p → WasAdopted w (lists_of_part p)
    owner_was command p e = among_each (λ (q : PartConfig). WasAdopted w (lists_of_part q)) c.config.parts ok.config.adopted p
        (filter_among (λ (q : PartConfig). owns_all q.ranges (hashes command)) c.config.parts p (first_among _ p e))

    -- a pending request, by its id
    pending_fits : (id : RequestId) (p : Pending) → with_id id c.pending ≡ Some p → PendingFits w k p
    pending_fits id p e = among_each (PendingFits w k) c.pending ok.pending p (filter_among (λ (q : Pending). same_id q.request.id id) c.pending p (first_among _ p e))

    -- ---- invoking

    first_goes : (command : Command) (o : Option PartConfig) → owner_of c.config command ≡ o → Goes (unless_refused c (sends_first k c (next_request k c command)) (ok_or o 3))
    first_goes command None e = rests
    first_goes command (Some p) e =
        let was = owner_was command p e in (
          record { config = ok.config; pending = Each-append (PendingFits w k) c.pending _ ok.pending (record { own = refl; attempts = (attempt_was p was, tt) }, tt) },
          sent_fits c.fast c.protocol (is_update command) (next_request k c command) p refl was,
        )

    invoke_goes : (command : Command) → Goes (invoke k c command)
    unfolding invoke
    invoke_goes command = by_pending (nat_le most_pending (length c.pending)) (nat_le (2 ^ 32 - 1) c.last)
      where
        by_pending : (many ended : Bool) → Goes (unless_refused c (sends_first k c (next_request k c command)) (refuse_if many 1 >>= λ _. refuse_if ended 2 >>= λ _. ok_or (owner_of c.config command) 3))
        by_pending true ended = rests
        by_pending false true = rests
        by_pending false false = first_goes command (owner_of c.config command) refl

    -- ---- pending requests that change

    replaced_fit : (new : Pending) (ps : List Pending) → PendingFits w k new → Each (PendingFits w k) ps → Each (PendingFits w k) (replaced new ps)
    replaced_fit new [] one all = tt
    replaced_fit new (p ∷ ps) one all = (cond_both (same_id p.request.id new.request.id) new p (PendingFits w k) (λ y. one) (λ y. all.0), replaced_fit new ps one all.1)

    abbrev with_fits : (p : Pending) → PendingFits w k p → ClientFits w k (with_pending c p)
    with_fits p one = record { config = ok.config; pending = replaced_fit p c.pending one ok.pending }

    again_goes : (p : Pending) → PendingFits w k p → (o : Option PartConfig) → owner_of c.config p.request.command ≡ o
        → Goes (unless_refused c (sends_again k c) (ok_or o 2 >>= λ (part : PartConfig). Ok (p, part)))
    again_goes p one None e = rests
    again_goes p one (Some part) e =
        let was = owner_was p.request.command part e in (
          with_fits _ (record { own = one.own; attempts = Each-append (AttemptWas w) p.attempts _ one.attempts (attempt_was part was, tt) }),
          sent_fits c.fast c.protocol (is_update p.request.command) p.request part one.own was,
        )

    retry_goes : (seq : ℕ) → Goes (retry k c seq)
    unfolding retry
    retry_goes seq = by_pending (with_id (record { client = k; seq = seq }) c.pending) refl
      where
        by_pending : (o : Option Pending) → with_id (record { client = k; seq = seq }) c.pending ≡ o
            → Goes (unless_refused c (sends_again k c) (ok_or o 1 >>= λ (p : Pending). ok_or (owner_of c.config p.request.command) 2 >>= λ (part : PartConfig). Ok (p, part)))
        by_pending None e = rests
        by_pending (Some p) e = again_goes p (pending_fits _ p e) (owner_of c.config p.request.command) refl

    fetch_goes : Goes (fetch k c)
    fetch_goes = (ok, (own_said manager_node body.Fetch (record { sender = (refl, me); addressee = (refl, refl); fits = tt }), tt))

    -- ---- deliveries

    completes_goes : (id : RequestId) (a : Answer) (by : Option Capture) → Goes (completes_with c id a by)
    completes_goes id a by = (record { config = ok.config; pending = Each-filter (PendingFits w k) _ c.pending ok.pending }, tt)

    evidence_goes : (p : Pending) → PendingFits w k p → Goes (with_evidence c p)
    evidence_goes p one = by_proof (proved_answer p)
      where
        by_proof : (o : Option Early) → Goes (if_proved c p o)
        by_proof None = (with_fits p one, tt)
        by_proof (Some e) = completes_goes p.request.id e.answer None

    replied_goes : (from : NodeId) (r : Reply) (o : Option Pending) → with_id r.id c.pending ≡ o → Goes (replied c from r o)
    replied_goes from r None e = rests
    replied_goes from r (Some p) e =
        let one = pending_fits r.id p e in
        cond_both (not (is_update p.request.command)) _ _ Goes (λ y. rests) (λ y.
        cond_both r.synced _ _ Goes (λ z. completes_goes r.id r.answer None) (λ z.
        evidence_goes (record p { early = with_early p.early (early_reply from r) }) (record { own = one.own; attempts = one.attempts })))

    accepted_goes : (from : NodeId) (a : Accepted) (o : Option Pending) → with_id a.id c.pending ≡ o → Goes (accepted c from a o)
    accepted_goes from a None e = rests
    accepted_goes from a (Some p) e =
        let one = pending_fits a.id p e in
        cond_both (is_update p.request.command) _ _ Goes
        (λ y. evidence_goes (record p { accepts = with_accept p.accepts (record { witness = from; epoch = a.epoch }) }) (record { own = one.own; attempts = one.attempts }))
        (λ y. rests)

    valued_goes : (from : NodeId) (v : Worth) (o : Option Pending) → Goes (valued c from v o)
    valued_goes from v None = rests
    valued_goes from v (Some p) = cond_both (is_update p.request.command) _ _ Goes (λ y. rests) (λ y. completes_goes v.id v.answer (Some (record { master = from; epoch = v.epoch; number = v.capture })))

    asks_goes : (p : Pending) → PendingFits w k p → (o : Option Attempt) → last_of p.attempts ≡ o → Goes (asks k c p o)
    asks_goes p one None e = rests
    asks_goes p one (Some a) e =
        let was : AttemptWas w a = among_each (AttemptWas w) p.attempts one.attempts a (last_among p.attempts a e) in
        let master : IsOf w kind.Master a.master = subst (IsOf w kind.Master) (sym was.its_master) (n.given was.lists was.adopted.given).master in (
          with_fits _ (record { own = one.own; attempts = one.attempts }),
          (own_said a.master _ (record { sender = (refl, me); addressee = master; fits = ap client_node (sym one.own) }), tt),
        )

    sight_goes : (p : Pending) → PendingFits w k p → Goes (with_sight c p)
    sight_goes p one = by_sight (seen_glimpse p)
      where
        by_sight : (o : Option Glimpse) → Goes (if_seen c p o)
        by_sight None = (with_fits p one, tt)
        by_sight (Some g) = completes_goes p.request.id g.answer (Some (record { master = g.master; epoch = g.epoch; number = g.capture }))

    glimpsed_goes : (from : NodeId) (q : Quick) (o : Option Pending) → with_id q.id c.pending ≡ o → Goes (glimpsed c from q o)
    glimpsed_goes from q None e = rests
    glimpsed_goes from q (Some p) e =
        let one = pending_fits q.id p e in
        cond_both (is_update p.request.command) _ _ Goes (λ y. rests)
        (λ y. sight_goes (record p { glimpses = with_glimpse p.glimpses (glimpse from q) }) (record { own = one.own; attempts = one.attempts }))

    asks_value_goes : (p : Pending) → PendingFits w k p → (o : Option Attempt) → last_of p.attempts ≡ o → Goes (asks_value k c p o)
    asks_value_goes p one None e = rests
    asks_value_goes p one (Some a) e =
        let was : AttemptWas w a = among_each (AttemptWas w) p.attempts one.attempts a (last_among p.attempts a e) in
        let master : IsOf w kind.Master a.master = subst (IsOf w kind.Master) (sym was.its_master) (n.given was.lists was.adopted.given).master in (
          with_fits _ (record { own = one.own; attempts = one.attempts }),
          (own_said a.master _ (record { sender = (refl, me); addressee = master; fits = ap client_node (sym one.own) }), tt),
        )

    probed_goes : (from : NodeId) (a : Probed) (o : Option Pending) → with_id a.id c.pending ≡ o → Goes (probed k c from a o)
    probed_goes from a None e = rests
    probed_goes from a (Some p) e =
        let one = pending_fits a.id p e in
        cond_both (is_update p.request.command) _ _ Goes (λ y. rests) (λ y.
        cond_both a.live _ _ Goes
        (λ z. sight_goes (record p { lives = with_accept p.lives (record { witness = from; epoch = a.epoch }) }) (record { own = one.own; attempts = one.attempts }))
        (λ z. cond_both p.asked _ _ Goes (λ t. rests) (λ t. asks_value_goes p one (last_of p.attempts) refl)))

    rejected_goes : (id : RequestId) (o : Option Pending) → with_id id c.pending ≡ o → Goes (rejected k c o)
    rejected_goes id None e = rests
    rejected_goes id (Some p) e =
        cond_both (not (is_update p.request.command)) _ _ Goes (λ y. rests) (λ y.
        cond_both p.asked _ _ Goes (λ z. rests) (λ z. asks_goes p (pending_fits id p e) (last_of p.attempts) refl))

    configured_goes : (config : Config) → ConfigurationOk w config → Goes (quiet (configured c config))
    configured_goes config its = (cond_both (nat_lt c.config.serial config.serial) _ _ (ClientFits w k) (λ y. record { config = its; pending = ok.pending }) (λ y. ok), tt)

    client_hears : (from to : NodeId) (b : Body) → IsOf w (sender_kind b) from → WasSent w (says from to b) → Goes (on_client k c from b)
    unfolding on_client
    client_hears from to (body.Reply r) sender sent = replied_goes from r (with_id r.id c.pending) refl
    client_hears from to (body.Accepted a) sender sent = accepted_goes from a (with_id a.id c.pending) refl
    client_hears from to (body.Worth v) sender sent = valued_goes from v (with_id v.id c.pending)
    client_hears from to (body.Quick q) sender sent = glimpsed_goes from q (with_id q.id c.pending) refl
    client_hears from to (body.Probed a) sender sent = probed_goes from a (with_id a.id c.pending) refl
    client_hears from to (body.Rejected r) sender sent = rejected_goes r.id (with_id r.id c.pending) refl
    client_hears from to (body.Configuration config) sender sent =
        configured_goes config (n.manager_says to (body.Configuration config) (subst (λ (x : NodeId). WasSent w (says x to (body.Configuration config))) (is_manager w from sender) sent)).1
    client_hears from to _ sender sent = rests

    client_told : (order : Local) → Goes (client_ordered k c order)
    unfolding client_ordered
    client_told (local.Invoke command) = invoke_goes command
    client_told (local.Retry seq) = retry_goes seq
    client_told local.Fetch = fetch_goes
    client_told _ = rests

    -- what comes to a client
    pub client_fits : (given : Input) → Arrives w given → ClientFits w k (client_input k c given).state × AllSaid w (client_node k) (client_input k c given).messages
    client_fits (input.Local order) comes = client_told order
    client_fits (input.Message m) comes = client_hears m.from m.to m.body comes.0.sender comes.1
