-- What a client knows at first, and what stays as the world goes on.
use Rattle.std.proofs.Common.{◌≢◌, ℕ, List, [], ◌++◌, Option, Some, None, refl, ap, sym, ◌∙◌, subst, arith, append_assoc, true}
use Rattle.curp_base.specs.Words.{Each}
use Rattle.curp_base.proofs.Lists.{Each-append, Each-weaker}
use Rattle.curp_cmd.specs.Node.{client_node}
use Rattle.curp_cmd.specs.declared.command.RequestId.{RequestId}
use Rattle.curp_cmd.specs.declared.node.NodeId.{NodeId}
use Rattle.curp_msg.specs.Moved.{Moved}
use Rattle.curp_msg.specs.declared.body.Body.{Body}
use Rattle.curp_msg.specs.declared.body.Body.TheVariants as body
use Rattle.curp_msg.specs.declared.config.Config.{Config}
use Rattle.curp_msg.specs.declared.config.PartConfig.{PartConfig}
use Rattle.curp_msg.specs.declared.machine.Completed.{Completed}
use Rattle.curp_msg.specs.Input.{Input}
use Rattle.curp_msg.specs.Input as input
use Rattle.curp_msg.specs.declared.machine.Local.TheVariants as local
use Rattle.curp_order.specs.Order.{IsHistory}
use Rattle.curp_order.specs.declared.Event.{Event}
use Rattle.curp_model.specs.Client.{Accept, Attempt, ClientState, Early, Pending, fresh_client, Glimpse}
use Rattle.curp_model.specs.World.{completion, invocation_of}
use Rattle.curp_facts.specs.Evidence.{AcceptCame, EarlyCame, EvidenceOk, IsAttempt, KnowledgeOk, GlimpseCame, LiveCame}
use Rattle.curp_law_kept.specs.ClientEffect.{MayComplete, events_after}
use Rattle.curp_facts.specs.ClientNumbers.{IsEventOf, ClientNumbersOk}
use Rattle.curp_law_kept.proofs.Numbers.{numbers_stay, waiting}

-- ---- at first

-- a client that has invoked nothing
pub fresh_numbers : (n : ℕ) (fast : _) (protocol : _) (config : Config) → ClientNumbersOk n [] (fresh_client fast protocol config)
fresh_numbers n fast protocol config = record { pending = tt; rise = tt; used = λ seq one up. absurd (omega (arith, one, up)); counted = λ i id command at mine. absurd cc }

-- knows the adopted entries that it begins with
pub fresh_knows : (Came : NodeId → Body → Type 0) (Adopted : PartConfig → Type 0) (fast : _) (protocol : _) (config : Config) → Each Adopted config.parts → KnowledgeOk Came Adopted (fresh_client fast protocol config)
fresh_knows Came Adopted fast protocol config all = record { config = all; pending = tt }

-- nothing has happened
pub no_history : IsHistory []
no_history = record { invoked_once = λ i j id c d hi hj. absurd cc; completed_once = λ i j id a b hi hj. absurd cc; after_invoked = λ j id a at. absurd cc }

-- ---- more comes, and more is adopted

module _ (Came Comes : NodeId → Body → Type 0) (Adopted Adopts : PartConfig → Type 0) (came : (from : NodeId) (b : Body) → Came from b → Comes from b) (adopted : (part : PartConfig) → Adopted part → Adopts part) where
  evidence_grows : (p : Pending) → EvidenceOk Came Adopted p → EvidenceOk Comes Adopts p
  evidence_grows p ok = record {
    attempts = Each-weaker (IsAttempt Adopted) (IsAttempt Adopts) (λ (a : Attempt) (o : IsAttempt Adopted a). record { part = o.part; adopted = adopted o.part o.adopted; is = o.is }) p.attempts ok.attempts;
    early = Each-weaker (EarlyCame Came p.request.id) (EarlyCame Comes p.request.id) (λ (e : Early) (o : EarlyCame Came p.request.id e). record { reply = o.reply; came = came e.master (body.Reply o.reply) o.came; its_id = o.its_id; unsynced = o.unsynced; epoch = o.epoch; version = o.version; answer = o.answer }) p.early ok.early;
    accepts = Each-weaker (AcceptCame Came p.request.id) (AcceptCame Comes p.request.id) (λ (a : Accept) o. came a.witness (body.Accepted (record { id = p.request.id; epoch = a.epoch })) o) p.accepts ok.accepts;
    glimpses = Each-weaker (GlimpseCame Came p.request.id) (GlimpseCame Comes p.request.id) (λ (g : Glimpse) (o : GlimpseCame Came p.request.id g). record { quick = o.quick; came = came g.master (body.Quick o.quick) o.came; its_id = o.its_id; epoch = o.epoch; version = o.version; capture = o.capture; answer = o.answer }) p.glimpses ok.glimpses;
    lives = Each-weaker (LiveCame Came p.request.id) (LiveCame Comes p.request.id) (λ (a : Accept) o. came a.witness (body.Probed (record { id = p.request.id; epoch = a.epoch; live = true })) o) p.lives ok.lives;
  }

  -- what a client knows stays so
  pub knowledge_grows : (c : ClientState) → KnowledgeOk Came Adopted c → KnowledgeOk Comes Adopts c
  knowledge_grows c ok = record { config = Each-weaker Adopted Adopts adopted c.config.parts ok.config; pending = Each-weaker (EvidenceOk Came Adopted) (EvidenceOk Comes Adopts) evidence_grows c.pending ok.pending }

-- ---- what one client does leaves the numbers of others

module _ (Came : NodeId → Body → Type 0) (Adopted : PartConfig → Type 0) (n : ℕ) (events : List Event) (c : ClientState) (numbers : ClientNumbersOk n events c) where
  invocation_its : (given : Input) → Each (IsEventOf n) (invocation_of (client_node n) (Some c) given)
  invocation_its (input.Local (local.Invoke command)) = (refl, tt)
  invocation_its (input.Local _) = tt
  invocation_its (input.Message m) = tt

  completion_its : (o : Option Completed) → MayComplete Came Adopted c o → Each (IsEventOf n) (completion o)
  completion_its None ok = tt
  completion_its (Some done) ok =
      let mine = (waiting n events c numbers ok.place ok.p ok.pending).asked.client in
      (ap (λ (id : RequestId). id.client) (sym ok.its_id) ∙ mine, tt)

  pub others_stay : (given : Input) (r : Moved ClientState) → MayComplete Came Adopted c r.completed → (m : ℕ) → m ≢ n → (d : ClientState) → ClientNumbersOk m events d → ClientNumbersOk m (events_after n events c given r) d
  others_stay given r ok m other d theirs =
      let more = invocation_of (client_node n) (Some c) given ++ completion r.completed in
      let its : Each (IsEventOf n) more = Each-append (IsEventOf n) (invocation_of (client_node n) (Some c) given) (completion r.completed) (invocation_its given) (completion_its r.completed ok) in
      subst (λ (l : List Event). ClientNumbersOk m l d) (sym (append_assoc events (invocation_of (client_node n) (Some c) given) (completion r.completed))) (numbers_stay n m other events more its d theirs)
