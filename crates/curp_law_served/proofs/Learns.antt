-- Once the client has asked for the configuration, it will have it.
use Rattle.std.proofs.Common.{◌≡◌, ◌⊎◌, inl, inr, ℕ, suc, Bool, true, false, not, cond, List, [], ◌∷◌, ◌++◌, length, nat_lt, Option, Some, None, refl, ap, sym, ◌∙◌, subst, arith}
use Rattle.std.specs.Bool.{⊤}
use Rattle.std.proofs.lemmas.Bool.{cond_both, ltb-false}
use Rattle.curp_base.specs.Words.{At, last_of, numbered}
use Rattle.curp_base.proofs.Lists.{at_within}
use Rattle.curp_cmd.specs.Node.{client_node, manager_node}
use Rattle.curp_cmd.specs.Store.{is_update}
use Rattle.curp_cmd.specs.declared.node.NodeId.{NodeId}
use Rattle.curp_cmd.specs.declared.node.NodeKind.{NodeKind}
use Rattle.curp_cmd.specs.declared.node.NodeKind.TheVariants as kind
use Rattle.curp_msg.specs.Moved.{Moved, quiet, says}
use Rattle.curp_msg.specs.declared.body.Accepted.{Accepted}
use Rattle.curp_msg.specs.declared.body.Body.{Body}
use Rattle.curp_msg.specs.declared.body.Body.TheVariants as body
use Rattle.curp_msg.specs.declared.body.Reply.{Reply}
use Rattle.curp_msg.specs.declared.body.Worth.{Worth}
use Rattle.curp_msg.specs.declared.config.Config.{Config}
use Rattle.curp_msg.specs.declared.config.PartConfig.{PartConfig}
use Rattle.curp_msg.specs.Input.{Input}
use Rattle.curp_msg.specs.Input as input
use Rattle.curp_msg.specs.declared.message.Message.{Message}
use Rattle.curp_facts.specs.Facts.{IsAmong}
use Rattle.curp_msg.specs.Moved.{within}
use Rattle.curp_model.specs.Backup.{BackupState, backup_input}
use Rattle.curp_model.specs.Client.{Attempt, ClientState, Early, Pending, accepted, asks, configured, early_reply, if_proved, on_client, proved_answer, rejected, replied, valued, with_accept, with_early, with_evidence, with_id}
use Rattle.curp_model.specs.Master.{MasterState}
use Rattle.curp_model.specs.Recovery.{MasterStage, master_input}
use Rattle.curp_model.specs.Witness.{WitnessState, witness_input}
use Rattle.curp_model.specs.World.{World, messages, moves_kind, moves_one, with_backup, with_master, with_witness}
use Rattle.curp_law_served.specs.Calm.{Calm, IsUndelivered, FitsIn}
use Rattle.curp_law_served.specs.Grounds.{Grounds}
use Rattle.curp_law_served.specs.Learns.{BringsConfiguration, ClientLearns, Fetches, IsBehindEntry, Learns}
use Rattle.curp_law_served.specs.Ways.{OnWay}
use Rattle.curp_law_served.proofs.ClientsHear.{IsTold}
use Rattle.curp_law_served.proofs.Lists.{among_first}
use Rattle.curp_law_served.proofs.Steps.{Delivered, FetchDid, client_did, fetch_did, new_due, splits}
use Rattle.curp_law_served.proofs.Ways as ways

-- what comes to another node leaves the clients
clients_rest : (w : World) (k : NodeKind) (n : ℕ) (given : Input) → (k ≡ kind.Client → ⊥)
    → (moves_kind w k n given).state.clients ≡ w.clients
clients_rest w kind.Client n given apart = absurd (apart refl)
clients_rest w kind.Manager n given apart = refl
clients_rest w kind.Master n given apart = by (numbered w.masters n) refl
  where
    by : (o : Option MasterStage) → numbered w.masters n ≡ o
        → (moves_one w (λ m. within (with_master w n given m) (master_input n m given)) o).state.clients ≡ w.clients
    by None e = refl
    by (Some m) e = refl
clients_rest w kind.Backup n given apart = by (numbered w.backups n)
  where
    by : (o : Option BackupState)
        → (moves_one w (λ m. within (with_backup w n) (backup_input n m given)) o).state.clients ≡ w.clients
    by None = refl
    by (Some m) = refl
clients_rest w kind.Witness n given apart = by (numbered w.witnesses n)
  where
    by : (o : Option WitnessState)
        → (moves_one w (λ m. within (with_witness w n) (witness_input n m given)) o).state.clients ≡ w.clients
    by None = refl
    by (Some m) = refl

-- what else comes to a client leaves its configuration
module _ (n : ℕ) (from : NodeId) (cl : ClientState) where
  abbrev Same : Moved ClientState → Type 0
  Same r = r.state.config ≡ cl.config

  evidence_same : (p : Pending) → Same (with_evidence cl p)
  evidence_same p = by (proved_answer p)
    where
      by : (o : Option Early) → Same (if_proved cl p o)
      by None = refl
      by (Some e) = refl

  replied_same : (r : Reply) (o : Option Pending) → Same (replied cl from r o)
  replied_same r None = refl
  replied_same r (Some p) = cond_both (not (is_update p.request.command)) _ _ Same (λ y. refl) (λ z. cond_both r.synced _ _ Same (λ y. refl) (λ u. evidence_same (record p { early = with_early p.early (early_reply from r) })))

  accepted_same : (a : Accepted) (o : Option Pending) → Same (accepted cl from a o)
  accepted_same a None = refl
  accepted_same a (Some p) = cond_both (is_update p.request.command) _ _ Same (λ y. evidence_same (record p { accepts = with_accept p.accepts (record { witness = from; epoch = a.epoch }) })) (λ z. refl)

  valued_same : (v : Worth) (o : Option Pending) → Same (valued cl from v o)
  valued_same v None = refl
  valued_same v (Some p) = cond_both (is_update p.request.command) _ _ Same (λ y. refl) (λ z. refl)

  rejected_same : (o : Option Pending) → Same (rejected n cl o)
  rejected_same None = refl
  rejected_same (Some p) = cond_both (not (is_update p.request.command)) _ _ Same (λ y. refl) (λ u. cond_both p.asked _ _ Same (λ y. refl) (λ z. asks_same (last_of p.attempts)))
    where
      asks_same : (o : Option Attempt) → Same (asks n cl p o)
      asks_same None = refl
      asks_same (Some a) = refl

  abbrev NoConfiguration : Body → Type 0
  NoConfiguration (body.Configuration g) = ⊥
  NoConfiguration _ = ⊤

  config_same : (b : Body) → IsTold b → NoConfiguration b → Same (on_client n cl from b)
  unfolding on_client
  config_same (body.Reply r) told other = replied_same r (with_id r.id cl.pending)
  config_same (body.Worth v) told other = valued_same v (with_id v.id cl.pending)
  config_same (body.Accepted a) told other = accepted_same a (with_id a.id cl.pending)
  config_same (body.Rejected r) told other = rejected_same (with_id r.id cl.pending)
  config_same (body.Refuse r) told other = refl
  config_same (body.Configuration g) told other = absurd other
  config_same _ told other = absurd told

  config_taken : (g : Config) → on_client n cl from (body.Configuration g) ≡ quiet (configured cl g)
  unfolding on_client
  config_taken g = refl

module _ (w v : World) (done : ℕ) (x : Message) (at : At (messages w) done x) (did : Delivered w v x) (c : PartConfig)
    (q : ℕ) (m : MasterState) (cl : ClientState) (calm : Calm w done c q m cl) (grounds : Grounds w done c m cl)
    (behind : IsBehindEntry w c cl) (learns : ClientLearns w done c) where
  abbrev D : Message → Type 0
  D = IsUndelivered w done

  abbrev E : Message → Type 0
  E = IsUndelivered v (suc done)

  same_client : (k : ClientState) → v.clients ≡ k ∷ [] → (k2 : ClientState) → v.clients ≡ k2 ∷ [] → k2 ≡ k
  same_client k a k2 b = cc

  split_as : (more : List Message) (said : messages v ≡ messages w ++ more) (b : Body) → x.body ≡ b → (y : Message)
      → D y → (y ≡ says x.from x.to b) ⊎ E y
  split_as more said b e y due = elim (splits w v done x at more said y due) [ inl same ↦ inl (same ∙ λ i. record { from = x.from; to = x.to; body = e i }) | inr later ↦ inr later ]

  -- neither was delivered
  carried : (more : List Message) (said : messages v ≡ messages w ++ more) (b : Body) → x.body ≡ b
      → (Fetches x.from x.to b → ⊥) → ((serial : ℕ) → BringsConfiguration c serial x.from x.to b → ⊥) → (k : ClientState)
      → k.config ≡ cl.config → Learns E c k
  carried more said b e f g k same = elim (learns cl calm.client) [
    | inl has ↦ inl (ap (λ (z : Config). z.parts) same ∙ has)
    | inr way ↦ elim way [
      | inl asked ↦ inr (inl (ways.carry D E x.from x.to b (split_as more said b e) Fetches f asked))
      | inr brings ↦ inr (inr (subst (λ (z : Config). OnWay E (BringsConfiguration c z.serial)) (sym same) (ways.carry D E x.from x.to b (split_as more said b e) (BringsConfiguration c cl.config.serial) (g cl.config.serial) brings)))
    ]
  ]

  -- something else than the manager and the client
  other_learns : (b : Body) → x.body ≡ b → (x.to.kind ≡ kind.Client → ⊥) → (Fetches x.from x.to b → ⊥)
      → ((serial : ℕ) → BringsConfiguration c serial x.from x.to b → ⊥) → ClientLearns v (suc done) c
  other_learns b e apart f g k is =
      let same : v.clients ≡ w.clients = did.clients ∙ clients_rest w x.to.kind x.to.number (input.Message x) apart in
      let own : k ≡ cl = same_client cl (same ∙ calm.client) k is in
      carried _ did.said b e f g k (ap (λ (z : ClientState). z.config) own)

  -- the client is told something else
  told_learns : (b : Body) → x.body ≡ b → x.to.kind ≡ kind.Client → IsTold b → NoConfiguration 1 x.from cl b
      → (Fetches x.from x.to b → ⊥) → ((serial : ℕ) → BringsConfiguration c serial x.from x.to b → ⊥) → ClientLearns v (suc done) c
  told_learns b e to told other f g k is =
      let moved = client_did w v x cl did (grounds.client x (done, omega arith, at) to) calm.client in
      let own : k ≡ (on_client 1 cl x.from x.body).state = same_client _ moved.clients k is in
      carried _ moved.said b e f g k (ap (λ (z : ClientState). z.config) own ∙ ap (λ (z : Body). (on_client 1 cl x.from z).state.config) e ∙ config_same 1 x.from cl b told other)

  -- the configuration comes
  config_learns : (g : Config) → x.body ≡ body.Configuration g → (x.to.kind ≡ kind.Client) × (g.parts ≡ c ∷ [])
      → ClientLearns v (suc done) c
  config_learns g e fit k is =
      let moved = client_did w v x cl did (grounds.client x (done, omega arith, at) fit.0) calm.client in
      let own : k ≡ configured cl g = same_client _ moved.clients k is ∙ ap (λ (z : Body). (on_client 1 cl x.from z).state) e ∙ ap (λ (z : Moved ClientState). z.state) (config_taken 1 x.from cl g) in
      subst (Learns E c) (sym own) (by (nat_lt cl.config.serial g.serial) refl moved.said)
    where
      by : (t : Bool) → nat_lt cl.config.serial g.serial ≡ t
          → messages v ≡ messages w ++ (on_client 1 cl x.from x.body).messages
          → Learns E c (cond t (record cl { config = g }) cl)
      by true y said = inl fit.1
      by false n said = elim (learns cl calm.client) [
        | inl has ↦ inl has
        | inr way ↦ elim way [
          | inl asked ↦ inr (inl (ways.carry D E x.from x.to (body.Configuration g) (split_as _ said (body.Configuration g) e) Fetches (λ z. z) asked))
          | inr brings ↦ inr (inr (ways.carry D E x.from x.to (body.Configuration g) (split_as _ said (body.Configuration g) e) (BringsConfiguration c cl.config.serial) (λ it. absurd (omega (arith, it.2, ltb-false cl.config.serial g.serial n))) brings))
        ]
      ]

  -- the manager answers
  fetch_learns : x.body ≡ body.Fetch → x.to ≡ manager_node → x.from ≡ client_node 1 → ClientLearns v (suc done) c
  fetch_learns e to from k is =
      let moved : FetchDid w v x.from = fetch_did w v x did to e in
      let own : k ≡ cl = same_client cl (moved.clients ∙ calm.client) k is in
      elim behind [
        | inl has ↦ inl (ap (λ (z : ClientState). z.config.parts) own ∙ has)
        | inr low ↦ inr (inr (_, new_due w v done x at _ moved.said _ (among_first _ []), (ap (λ (z : NodeId). z.kind) from, calm.manager, omega (arith, low, ap (λ (z : ClientState). z.config.serial) own))))
      ]

  pub learns_on : ClientLearns v (suc done) c
  learns_on = by x.body refl (calm.fits x (done, omega arith, at))
    where
      master_kind : x.to ≡ c.master → x.to.kind ≡ kind.Client → ⊥
      master_kind to f = (let e : kind.Master ≡ kind.Client = sym (ap (λ (z : NodeId). z.kind) (to ∙ calm.its_master)) ∙ f in cc)

      backup_kind : IsAmong x.to c.backups → x.to.kind ≡ kind.Client → ⊥
      backup_kind a f = (let e : kind.Backup ≡ kind.Client = sym (ap (λ (z : NodeId). z.kind) (grounds.backups x.to a).name) ∙ f in cc)

      witness_kind : IsAmong x.to c.witnesses → x.to.kind ≡ kind.Client → ⊥
      witness_kind a f = (let e : kind.Witness ≡ kind.Client = sym (ap (λ (z : NodeId). z.kind) (grounds.witnesses x.to a).name) ∙ f in cc)

      by : (b : Body) → x.body ≡ b → FitsIn c x.from x.to x.body → ClientLearns v (suc done) c
      by (body.Update a) e its = other_learns (body.Update a) e (master_kind (subst (FitsIn c x.from x.to) e its)) (λ z. z) (λ s z. z)
      by (body.Sync a) e its = other_learns (body.Sync a) e (master_kind (subst (FitsIn c x.from x.to) e its)) (λ z. z) (λ s z. z)
      by (body.Read a) e its = other_learns (body.Read a) e (master_kind (subst (FitsIn c x.from x.to) e its)) (λ z. z) (λ s z. z)
      by (body.Appended a) e its = other_learns (body.Appended a) e (master_kind (subst (FitsIn c x.from x.to) e its)) (λ z. z) (λ s z. z)
      by (body.Collected a) e its = other_learns (body.Collected a) e (master_kind (subst (FitsIn c x.from x.to) e its)) (λ z. z) (λ s z. z)
      by (body.Append a) e its = other_learns (body.Append a) e (backup_kind (subst (FitsIn c x.from x.to) e its).0) (λ z. z) (λ s z. z)
      by (body.Record a) e its = other_learns (body.Record a) e (witness_kind (subst (FitsIn c x.from x.to) e its).0) (λ z. z) (λ s z. z)
      by (body.Gc a) e its = other_learns (body.Gc a) e (witness_kind (subst (FitsIn c x.from x.to) e its).0) (λ z. z) (λ s z. z)
      by (body.Reply r) e its = told_learns (body.Reply r) e (subst (FitsIn c x.from x.to) e its) tt tt (λ z. z) (λ s z. z)
      by (body.Worth r) e its = told_learns (body.Worth r) e (subst (FitsIn c x.from x.to) e its) tt tt (λ z. z) (λ s z. z)
      by (body.Refuse r) e its = told_learns (body.Refuse r) e (subst (FitsIn c x.from x.to) e its) tt tt (λ z. z) (λ s z. z)
      by (body.Accepted r) e its = told_learns (body.Accepted r) e (subst (FitsIn c x.from x.to) e its) tt tt (λ z. z) (λ s z. z)
      by (body.Rejected r) e its = told_learns (body.Rejected r) e (subst (FitsIn c x.from x.to) e its) tt tt (λ z. z) (λ s z. z)
      by (body.Configuration g) e its = config_learns g e (subst (FitsIn c x.from x.to) e its)
      by body.Fetch e its = let f = subst (FitsIn c x.from x.to) e its in fetch_learns e f.0 f.1
      by _ e its = absurd (subst (FitsIn c x.from x.to) e its)

-- where every message is delivered, it has it
pub learnt_at_end : (w : World) (c : PartConfig) (cl : ClientState) → w.clients ≡ cl ∷ []
    → ClientLearns w (length (messages w)) c → cl.config.parts ≡ c ∷ []
learnt_at_end w c cl is learns = elim (learns cl is) [
  | inl has ↦ has
  | inr way ↦ elim way [ inl f ↦ absurd (none f.0 f.1) | inr b ↦ absurd (none b.0 b.1) ]
]
  where
    none : (x : Message) → IsUndelivered w (length (messages w)) x → ⊥
    none x due = absurd (omega (arith, due.1, at_within (messages w) due.0 x due.2))
