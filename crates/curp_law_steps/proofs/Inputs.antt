-- What every input leaves of a client, where each change of its state leaves it.
use Rattle.std.proofs.Common.{◌≡◌, ℕ, true, false, not, [], ◌∷◌, ◌++◌, Option, Some, None, Result, Ok, Err, refl, nat_lt}
use Rattle.std.proofs.lemmas.Bool.{cond_both}
use Rattle.curp_base.specs.Words.{last_of}
use Rattle.curp_cmd.specs.Store.{is_update}
use Rattle.curp_cmd.specs.declared.command.Command.{Command}
use Rattle.curp_cmd.specs.declared.command.RequestId.{RequestId}
use Rattle.curp_cmd.specs.declared.node.NodeId.{NodeId}
use Rattle.curp_msg.specs.declared.body.Accepted.{Accepted}
use Rattle.curp_msg.specs.declared.body.Body.{Body}
use Rattle.curp_msg.specs.declared.body.Body.TheVariants as body
use Rattle.curp_msg.specs.declared.body.Probed.{Probed}
use Rattle.curp_msg.specs.declared.body.Quick.{Quick}
use Rattle.curp_msg.specs.declared.body.Reply.{Reply}
use Rattle.curp_msg.specs.declared.body.Worth.{Worth}
use Rattle.curp_msg.specs.declared.config.Config.{Config}
use Rattle.curp_msg.specs.declared.config.PartConfig.{PartConfig}
use Rattle.curp_msg.specs.declared.machine.Local.{Local}
use Rattle.curp_msg.specs.declared.machine.Local.TheVariants as local
use Rattle.curp_model.specs.Client.{Attempt, ClientState, attempt_at, with_pending, without_id, Early, Glimpse, Pending, Resent, accepted, asks, asks_value, client_ordered, glimpsed, if_proved, if_seen, invocation_for, invoke, next_request, on_client, probed, rejected, replied, retry, retry_for, sends_again, sends_first, valued, with_id}
use Rattle.curp_msg.specs.Moved.{Moved, unless_refused}

module _ (K : ClientState → Type 0) (c : ClientState) (k : K c) (replaces : (p : Pending) → K (with_pending c p)) where
  -- ---- what comes

  module _ (drops : (id : RequestId) → K (record c { pending = without_id id c.pending })) where
    proved_keeps : (p : Pending) (o : Option Early) → K (if_proved c p o).state
    proved_keeps p None = replaces p
    proved_keeps p (Some e) = drops p.request.id

    replied_keeps : (from : NodeId) (r : Reply) (o : Option Pending) → K (replied c from r o).state
    replied_keeps from r None = k
    replied_keeps from r (Some p) =
        cond_both (not (is_update p.request.command)) _ _ (λ (m : Moved ClientState). K m.state) (λ y. k)
        (λ n. cond_both r.synced _ _ (λ (m : Moved ClientState). K m.state) (λ y. drops r.id) (λ e. proved_keeps _ _))

    accepted_keeps : (from : NodeId) (a : Accepted) (o : Option Pending) → K (accepted c from a o).state
    accepted_keeps from a None = k
    accepted_keeps from a (Some p) = cond_both (is_update p.request.command) _ _ (λ (m : Moved ClientState). K m.state) (λ y. proved_keeps _ _) (λ n. k)

    valued_keeps : (from : NodeId) (v : Worth) (o : Option Pending) → K (valued c from v o).state
    valued_keeps from v None = k
    valued_keeps from v (Some p) = cond_both (is_update p.request.command) _ _ (λ (m : Moved ClientState). K m.state) (λ y. k) (λ n. drops v.id)

    asks_keeps : (n : ℕ) (p : Pending) (o : Option Attempt) → K (asks n c p o).state
    asks_keeps n p None = k
    asks_keeps n p (Some a) = replaces (record p { asked = true })

    rejected_keeps : (n : ℕ) (o : Option Pending) → K (rejected n c o).state
    rejected_keeps n None = k
    rejected_keeps n (Some p) =
        cond_both (not (is_update p.request.command)) _ _ (λ (m : Moved ClientState). K m.state) (λ y. k)
        (λ no. cond_both p.asked _ _ (λ (m : Moved ClientState). K m.state) (λ y. k) (λ z. asks_keeps n p (last_of p.attempts)))

    seen_keeps : (p : Pending) (o : Option Glimpse) → K (if_seen c p o).state
    seen_keeps p None = replaces p
    seen_keeps p (Some g) = drops p.request.id

    glimpsed_keeps : (from : NodeId) (q : Quick) (o : Option Pending) → K (glimpsed c from q o).state
    glimpsed_keeps from q None = k
    glimpsed_keeps from q (Some p) = cond_both (is_update p.request.command) _ _ (λ (m : Moved ClientState). K m.state) (λ y. k) (λ no. seen_keeps _ _)

    asks_value_keeps : (n : ℕ) (p : Pending) (o : Option Attempt) → K (asks_value n c p o).state
    asks_value_keeps n p None = k
    asks_value_keeps n p (Some a) = replaces (record p { asked = true })

    probed_keeps : (n : ℕ) (from : NodeId) (a : Probed) (o : Option Pending) → K (probed n c from a o).state
    probed_keeps n from a None = k
    probed_keeps n from a (Some p) =
        cond_both (is_update p.request.command) _ _ (λ (m : Moved ClientState). K m.state) (λ y. k)
        (λ no. cond_both a.live _ _ (λ (m : Moved ClientState). K m.state) (λ y. seen_keeps _ _)
        (λ z. cond_both p.asked _ _ (λ (m : Moved ClientState). K m.state) (λ y. k) (λ t. asks_value_keeps n p (last_of p.attempts))))

    -- a message, where a configuration that it carries may be taken
    pub heard_keeps : (n : ℕ) (from : NodeId) (message : Body) → ((config : Config) → message ≡ body.Configuration config → K (record c { config = config })) → K (on_client n c from message).state
    unfolding on_client
    heard_keeps n from (body.Reply r) takes = replied_keeps from r (with_id r.id c.pending)
    heard_keeps n from (body.Accepted a) takes = accepted_keeps from a (with_id a.id c.pending)
    heard_keeps n from (body.Worth v) takes = valued_keeps from v (with_id v.id c.pending)
    heard_keeps n from (body.Quick q) takes = glimpsed_keeps from q (with_id q.id c.pending)
    heard_keeps n from (body.Probed a) takes = probed_keeps n from a (with_id a.id c.pending)
    heard_keeps n from (body.Rejected r) takes = rejected_keeps n (with_id r.id c.pending)
    heard_keeps n from (body.Configuration config) takes = cond_both (nat_lt c.config.serial config.serial) _ c K (λ y. takes config refl) (λ no. k)
    heard_keeps n from _ takes = k

  -- ---- what is ordered

  module _ (n : ℕ) where
    retried_keeps : (r : Result Resent ℕ) → K (unless_refused c (sends_again n c) r).state
    retried_keeps (Err number) = k
    retried_keeps (Ok r) = replaces (record r.0 { attempts = r.0.attempts ++ attempt_at r.1 ∷ []; asked = false })

    -- an order, where a request may be sent for the first time
    pub ordered_keeps : (order : Local) → ((command : Command) (part : PartConfig) → K (sends_first n c (next_request n c command) part).state) → K (client_ordered n c order).state
    unfolding client_ordered invoke retry
    ordered_keeps (local.Invoke command) sends = go (invocation_for c command)
      where
        go : (r : Result PartConfig ℕ) → K (unless_refused c (sends_first n c (next_request n c command)) r).state
        go (Err number) = k
        go (Ok part) = sends command part
    ordered_keeps (local.Retry seq) sends = retried_keeps (retry_for n c seq)
    ordered_keeps local.Fetch sends = k
    ordered_keeps _ sends = k
