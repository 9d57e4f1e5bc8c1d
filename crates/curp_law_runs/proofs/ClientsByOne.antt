-- A client of protocol 1 stays one, and sends messages of protocol 1 alone.
use Rattle.std.proofs.Common.{◌≡◌, ℕ, ◌-◌, ◌^◌, Bool, true, false, not, length, nat_le, nat_lt, Option, Some, None}
use Rattle.std.specs.Prelude.{Ok}
use Rattle.std.specs.Option.{ok_or}
use Rattle.std.proofs.lemmas.Bool.{cond_both}
use Rattle.curp_base.specs.Cases.{◌>>=◌, refuse_if}
use Rattle.curp_base.specs.Words.{Each, last_of}
use Rattle.curp_base.proofs.Lists.{Each-from_at, Each-map}
use Rattle.curp_cmd.specs.Node.{client_node}
use Rattle.curp_cmd.specs.Store.{is_update}
use Rattle.curp_cmd.specs.declared.command.Command.{Command}
use Rattle.curp_cmd.specs.declared.command.Request.{Request}
use Rattle.curp_cmd.specs.declared.node.NodeId.{NodeId}
use Rattle.curp_msg.specs.Moved.{Moved, quiet, says, unless_refused}
use Rattle.curp_msg.specs.declared.body.Accepted.{Accepted}
use Rattle.curp_msg.specs.declared.body.Body.{Body}
use Rattle.curp_msg.specs.declared.body.Body.TheVariants as body
use Rattle.curp_msg.specs.declared.body.Probed.{Probed}
use Rattle.curp_msg.specs.declared.body.Quick.{Quick}
use Rattle.curp_msg.specs.declared.body.Reply.{Reply}
use Rattle.curp_msg.specs.declared.body.Worth.{Worth}
use Rattle.curp_msg.specs.declared.config.Config.{Config}
use Rattle.curp_msg.specs.declared.config.PartConfig.{PartConfig}
use Rattle.curp_msg.specs.Input.{Input}
use Rattle.curp_msg.specs.Input as input
use Rattle.curp_msg.specs.declared.machine.Local.{Local}
use Rattle.curp_msg.specs.declared.machine.Local.TheVariants as local
use Rattle.curp_msg.specs.declared.message.Message.{Message}
use Rattle.curp_msg.specs.declared.script.Protocol.{Protocol}
use Rattle.curp_msg.specs.declared.script.Protocol.TheVariants.{One, Two}
use Rattle.curp_model.specs.Client.{Attempt, ClientState, Early, Glimpse, Pending, accepted, asks, asks_value, client_input, client_ordered, configured, early_reply, glimpse, glimpsed, if_proved, if_seen, invoke, most_pending, next_request, on_client, owner_of, probed, proved_answer, rejected, replied, retry, seen_glimpse, sends_again, sends_first, sent_by, valued, with_accept, with_early, with_evidence, with_glimpse, with_id, with_sight}
use Rattle.curp_facts.specs.ByOne.{IsOfOne}

-- a message is one of protocol 1
abbrev pub OfOne : Message → Type 0
OfOne m = IsOfOne m.body

-- what is sent of a request
sent_by_one : (n : ℕ) (fast : Bool) (protocol : Protocol) (update : Bool) (r : Request) (p : PartConfig) → protocol ≡ One → Each OfOne (sent_by n fast protocol update r p)
sent_by_one n true protocol true r p one =
    (tt, Each-map OfOne (λ (to : NodeId). says (client_node n) to (body.Record (record { request = r; epoch = p.epoch }))) p.witnesses (Each-from_at _ p.witnesses (λ k to at. tt)))
sent_by_one n false protocol true r p one = (tt, tt)
sent_by_one n fast One false r p one = (tt, tt)
sent_by_one n fast Two false r p one = absurd cc

module _ (n : ℕ) (c : ClientState) (one : c.protocol ≡ One) where
  abbrev Goes : Moved ClientState → Type 0
  Goes r = (r.state.protocol ≡ One) × Each OfOne r.messages

  -- ---- orders

  invoke_goes : (command : Command) → Goes (invoke n c command)
  unfolding invoke
  invoke_goes command = by_refusal (nat_le most_pending (length c.pending)) (nat_le (2 ^ 32 - 1) c.last) (owner_of c.config command)
    where
      by_refusal : (many ended : Bool) (o : Option PartConfig) → Goes (unless_refused c (sends_first n c (next_request n c command)) (refuse_if many 1 >>= λ _. refuse_if ended 2 >>= λ _. ok_or o 3))
      by_refusal true ended o = (one, tt)
      by_refusal false true o = (one, tt)
      by_refusal false false None = (one, tt)
      by_refusal false false (Some p) = (one, sent_by_one n c.fast c.protocol (is_update command) (next_request n c command) p one)

  retry_goes : (seq : ℕ) → Goes (retry n c seq)
  unfolding retry
  retry_goes seq = by_pending (with_id (record { client = n; seq = seq }) c.pending)
    where
      again : (p : Pending) (o : Option PartConfig) → Goes (unless_refused c (sends_again n c) (ok_or o 2 >>= λ (part : PartConfig). Ok (p, part)))
      again p None = (one, tt)
      again p (Some part) = (one, sent_by_one n c.fast c.protocol (is_update p.request.command) p.request part one)

      by_pending : (o : Option Pending) → Goes (unless_refused c (sends_again n c) (ok_or o 1 >>= λ (p : Pending). ok_or (owner_of c.config p.request.command) 2 >>= λ (part : PartConfig). Ok (p, part)))
      by_pending None = (one, tt)
      by_pending (Some p) = again p (owner_of c.config p.request.command)

  ordered_goes : (order : Local) → Goes (client_ordered n c order)
  unfolding client_ordered
  ordered_goes (local.Invoke command) = invoke_goes command
  ordered_goes (local.Retry seq) = retry_goes seq
  ordered_goes local.Fetch = (one, (tt, tt))
  ordered_goes _ = (one, tt)

  -- ---- deliveries

  evidence_goes : (p : Pending) → Goes (with_evidence c p)
  evidence_goes p = by_proof (proved_answer p)
    where
      by_proof : (o : Option Early) → Goes (if_proved c p o)
      by_proof None = (one, tt)
      by_proof (Some e) = (one, tt)

  sight_goes : (p : Pending) → Goes (with_sight c p)
  sight_goes p = by_sight (seen_glimpse p)
    where
      by_sight : (o : Option Glimpse) → Goes (if_seen c p o)
      by_sight None = (one, tt)
      by_sight (Some g) = (one, tt)

  asks_goes : (p : Pending) (o : Option Attempt) → Goes (asks n c p o)
  asks_goes p None = (one, tt)
  asks_goes p (Some a) = (one, (tt, tt))

  asks_value_goes : (p : Pending) (o : Option Attempt) → Goes (asks_value n c p o)
  asks_value_goes p None = (one, tt)
  asks_value_goes p (Some a) = (one, (tt, tt))

  replied_goes : (from : NodeId) (r : Reply) (o : Option Pending) → Goes (replied c from r o)
  replied_goes from r None = (one, tt)
  replied_goes from r (Some p) =
      cond_both (not (is_update p.request.command)) _ _ Goes (λ y. (one, tt)) (λ y.
      cond_both r.synced _ _ Goes (λ z. (one, tt)) (λ z. evidence_goes (record p { early = with_early p.early (early_reply from r) })))

  accepted_goes : (from : NodeId) (a : Accepted) (o : Option Pending) → Goes (accepted c from a o)
  accepted_goes from a None = (one, tt)
  accepted_goes from a (Some p) =
      cond_both (is_update p.request.command) _ _ Goes
      (λ y. evidence_goes (record p { accepts = with_accept p.accepts (record { witness = from; epoch = a.epoch }) })) (λ y. (one, tt))

  valued_goes : (from : NodeId) (v : Worth) (o : Option Pending) → Goes (valued c from v o)
  valued_goes from v None = (one, tt)
  valued_goes from v (Some p) = cond_both (is_update p.request.command) _ _ Goes (λ y. (one, tt)) (λ y. (one, tt))

  glimpsed_goes : (from : NodeId) (q : Quick) (o : Option Pending) → Goes (glimpsed c from q o)
  glimpsed_goes from q None = (one, tt)
  glimpsed_goes from q (Some p) =
      cond_both (is_update p.request.command) _ _ Goes (λ y. (one, tt)) (λ y. sight_goes (record p { glimpses = with_glimpse p.glimpses (glimpse from q) }))

  probed_goes : (from : NodeId) (a : Probed) (o : Option Pending) → Goes (probed n c from a o)
  probed_goes from a None = (one, tt)
  probed_goes from a (Some p) =
      cond_both (is_update p.request.command) _ _ Goes (λ y. (one, tt)) (λ y.
      cond_both a.live _ _ Goes (λ z. sight_goes (record p { lives = with_accept p.lives (record { witness = from; epoch = a.epoch }) })) (λ z.
      cond_both p.asked _ _ Goes (λ t. (one, tt)) (λ t. asks_value_goes p (last_of p.attempts))))

  rejected_goes : (o : Option Pending) → Goes (rejected n c o)
  rejected_goes None = (one, tt)
  rejected_goes (Some p) =
      cond_both (not (is_update p.request.command)) _ _ Goes (λ y. (one, tt)) (λ y.
      cond_both p.asked _ _ Goes (λ z. (one, tt)) (λ z. asks_goes p (last_of p.attempts)))

  configured_goes : (config : Config) → Goes (quiet (configured c config))
  configured_goes config = (cond_both (nat_lt c.config.serial config.serial) _ _ (λ (d : ClientState). d.protocol ≡ One) (λ y. one) (λ y. one), tt)

  heard_goes : (from : NodeId) (b : Body) → Goes (on_client n c from b)
  unfolding on_client
  heard_goes from (body.Reply r) = replied_goes from r (with_id r.id c.pending)
  heard_goes from (body.Accepted a) = accepted_goes from a (with_id a.id c.pending)
  heard_goes from (body.Worth v) = valued_goes from v (with_id v.id c.pending)
  heard_goes from (body.Quick q) = glimpsed_goes from q (with_id q.id c.pending)
  heard_goes from (body.Probed a) = probed_goes from a (with_id a.id c.pending)
  heard_goes from (body.Rejected r) = rejected_goes (with_id r.id c.pending)
  heard_goes from (body.Configuration config) = configured_goes config
  heard_goes from _ = (one, tt)

  -- any input
  pub client_by_one : (given : Input) → Goes (client_input n c given)
  client_by_one (input.Local order) = ordered_goes order
  client_by_one (input.Message m) = heard_goes m.from m.body
