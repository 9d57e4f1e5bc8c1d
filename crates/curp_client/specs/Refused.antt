-- How a client refuses: a message never, an order by a small number, and then nothing has changed.
use Rattle.std.proofs.Common.{arith, refl}
use Rattle.std.proofs.lemmas.Bool.{cond_both}
use Rattle.std.specs.Prelude.{◌≡◌, if◌then◌else◌, ℕ, ◌-◌, ◌^◌, nat_le, Bool, true, false, not, length, Option, Some, None, Ok}
use Rattle.std.specs.Option.{ok_or}
use Rattle.curp_base.specs.Cases.{◌>>=◌, refuse_if}
use Rattle.curp_base.specs.Words.{last_of}
use Rattle.curp_cmd.specs.Store.{is_update}
use Rattle.curp_cmd.specs.declared.command.Command.{Command}
use Rattle.curp_cmd.specs.declared.node.NodeId.{NodeId}
use Rattle.curp_msg.specs.Moved.{Moved, Node, Refuses, not_refused, quiet, refused_by, refuses_within, unless_refused}
use Rattle.curp_msg.specs.declared.body.Body.{Body}
use Rattle.curp_msg.specs.declared.body.Body.TheVariants as body
use Rattle.curp_msg.specs.declared.config.PartConfig.{PartConfig}
use Rattle.curp_msg.specs.Input as input
use Rattle.curp_msg.specs.declared.machine.Local.{Local}
use Rattle.curp_msg.specs.declared.machine.Local.TheVariants as local
use Rattle.curp_msg.specs.declared.message.Message.{Message}
use Rattle.curp_model.specs.Client as model
use Rattle.curp_model.specs.Client.{ClientState, Pending, Early, Glimpse, Attempt, client_ordered, on_client}
use Rattle.curp_client.specs.Machine.{client_machine}

-- ---- orders

pub invoke_refuses : (n : ℕ) (c : ClientState) (command : Command) → Refuses c (model.invoke n c command)
unfolding model.invoke
invoke_refuses n c command = go (nat_le model.most_pending (length c.pending)) (nat_le (2 ^ 32 - 1) c.last) (model.owner_of c.config command)
  where
    act : PartConfig → Moved ClientState
    act = model.sends_first n c (model.next_request n c command)

    go : (many last : Bool) (o : Option PartConfig) → Refuses c (unless_refused c act (refuse_if many 1 >>= (λ _. refuse_if last 2 >>= (λ _. ok_or o 3))))
    go true last o = refused_by c 1 (omega arith)
    go false true o = refused_by c 2 (omega arith)
    go false false None = refused_by c 3 (omega arith)
    go false false (Some p) = not_refused c (act p) refl

pub retry_refuses : (n : ℕ) (c : ClientState) (seq : ℕ) → Refuses c (model.retry n c seq)
unfolding model.retry
retry_refuses n c seq = go (model.with_id (record { client = n; seq = seq }) c.pending)
  where
    at_owner : (p : Pending) (o : Option PartConfig) → Refuses c (unless_refused c (model.sends_again n c) (ok_or o 2 >>= (λ part. Ok (p, part))))
    at_owner p None = refused_by c 2 (omega arith)
    at_owner p (Some part) = not_refused c (model.sends_again n c (p, part)) refl

    go : (o : Option Pending) → Refuses c (unless_refused c (model.sends_again n c) (ok_or o 1 >>= (λ p. ok_or (model.owner_of c.config p.request.command) 2 >>= (λ part. Ok (p, part)))))
    go None = refused_by c 1 (omega arith)
    go (Some p) = at_owner p (model.owner_of c.config p.request.command)

client_refuses : (n : ℕ) (c : ClientState) (order : Local) → Refuses c (client_ordered n c order)
unfolding client_ordered
client_refuses n c (local.Invoke command) = invoke_refuses n c command
client_refuses n c (local.Retry seq) = retry_refuses n c seq
client_refuses n c local.Fetch = not_refused c (model.fetch n c) refl
client_refuses n c _ = not_refused c (quiet c) refl

-- how a client refuses an order
pub client_refusals : (c : Node ClientState) (order : Local) → Refuses c (client_machine c (input.Local order))
unfolding client_machine
client_refusals c order = refuses_within (λ (s : ClientState). record { number = c.number; state = s }) c.state (client_ordered c.number c.state order) (client_refuses c.number c.state order)

-- ---- messages

proved_taken : (c : ClientState) (p : Pending) (e : Option Early) → (model.if_proved c p e).refused ≡ 0
proved_taken c p None = refl
proved_taken c p (Some e) = refl

seen_taken : (c : ClientState) (p : Pending) (g : Option Glimpse) → (model.if_seen c p g).refused ≡ 0
seen_taken c p None = refl
seen_taken c p (Some g) = refl

asks_taken : (n : ℕ) (c : ClientState) (p : Pending) (a : Option Attempt) → (model.asks n c p a).refused ≡ 0
asks_taken n c p None = refl
asks_taken n c p (Some a) = refl

asks_value_taken : (n : ℕ) (c : ClientState) (p : Pending) (a : Option Attempt) → (model.asks_value n c p a).refused ≡ 0
asks_value_taken n c p None = refl
asks_value_taken n c p (Some a) = refl

once_taken : (c : ClientState) (p : Pending) (m : Moved ClientState) → m.refused ≡ 0 → (if p.asked then quiet c else m).refused ≡ 0
once_taken c p m taken = cond_both p.asked _ _ (λ (m : Moved ClientState). m.refused ≡ 0) (λ y. refl) (λ no. taken)

client_takes : (n : ℕ) (c : ClientState) (from : NodeId) (b : Body) → (on_client n c from b).refused ≡ 0
unfolding on_client
client_takes n c from (body.Reply r) = go (model.with_id r.id c.pending)
  where
    go : (p : Option Pending) → (model.replied c from r p).refused ≡ 0
    go None = refl
    go (Some p) = cond_both (not (is_update p.request.command)) _ _ (λ (m : Moved ClientState). m.refused ≡ 0) (λ y. refl)
        (λ no. cond_both r.synced _ _ (λ (m : Moved ClientState). m.refused ≡ 0) (λ y. refl) (λ early. proved_taken c _ _))
client_takes n c from (body.Accepted a) = go (model.with_id a.id c.pending)
  where
    go : (p : Option Pending) → (model.accepted c from a p).refused ≡ 0
    go None = refl
    go (Some p) = cond_both (is_update p.request.command) _ _ (λ (m : Moved ClientState). m.refused ≡ 0) (λ y. proved_taken c _ _) (λ no. refl)
client_takes n c from (body.Worth v) = go (model.with_id v.id c.pending)
  where
    go : (p : Option Pending) → (model.valued c from v p).refused ≡ 0
    go None = refl
    go (Some p) = cond_both (is_update p.request.command) _ _ (λ (m : Moved ClientState). m.refused ≡ 0) (λ y. refl) (λ no. refl)
client_takes n c from (body.Quick q) = go (model.with_id q.id c.pending)
  where
    go : (p : Option Pending) → (model.glimpsed c from q p).refused ≡ 0
    go None = refl
    go (Some p) = cond_both (is_update p.request.command) _ _ (λ (m : Moved ClientState). m.refused ≡ 0) (λ y. refl) (λ no. seen_taken c _ _)
client_takes n c from (body.Probed a) = go (model.with_id a.id c.pending)
  where
    go : (p : Option Pending) → (model.probed n c from a p).refused ≡ 0
    go None = refl
    go (Some p) = cond_both (is_update p.request.command) _ _ (λ (m : Moved ClientState). m.refused ≡ 0) (λ y. refl)
        (λ read. cond_both a.live _ _ (λ (m : Moved ClientState). m.refused ≡ 0) (λ y. seen_taken c _ _) (λ no. once_taken c p _ (asks_value_taken n c p (last_of p.attempts))))
client_takes n c from (body.Rejected r) = go (model.with_id r.id c.pending)
  where
    go : (p : Option Pending) → (model.rejected n c p).refused ≡ 0
    go None = refl
    go (Some p) = cond_both (not (is_update p.request.command)) _ _ (λ (m : Moved ClientState). m.refused ≡ 0) (λ y. refl) (λ update. once_taken c p _ (asks_taken n c p (last_of p.attempts)))
client_takes n c from (body.Configuration config) = refl
client_takes n c from _ = refl

-- a client takes each message
pub client_taken : (c : Node ClientState) (m : Message) → (client_machine c (input.Message m)).refused ≡ 0
unfolding client_machine
client_taken c m = client_takes c.number c.state m.from m.body
