-- What clients know: configurations, attempts, and the evidence that came for what is pending.
use Rattle.std.specs.Prelude.{◌≡◌, false, true}
use Rattle.curp_base.specs.Words.{Each}
use Rattle.curp_cmd.specs.declared.command.RequestId.{RequestId}
use Rattle.curp_cmd.specs.declared.node.NodeId.{NodeId}
use Rattle.curp_msg.specs.declared.body.Body.{Body}
use Rattle.curp_msg.specs.declared.body.Body.TheVariants as body
use Rattle.curp_msg.specs.declared.body.Reply.{Reply}
use Rattle.curp_msg.specs.declared.config.PartConfig.{PartConfig}
use Rattle.curp_model.specs.Client.{Accept, Attempt, ClientState, Early, Pending, attempt_at, Glimpse}
use Rattle.curp_msg.specs.declared.body.Quick.{Quick}

-- the attempt is by an adopted entry
pub record IsAttempt (Adopted : PartConfig → Type 0) (a : Attempt) : Type 0 where
  pub part : PartConfig
  pub adopted : Adopted part
  pub is : a ≡ attempt_at part

-- the unsynced reply of that master, epoch, version and answer came
pub record EarlyCame (Came : NodeId → Body → Type 0) (id : RequestId) (e : Early) : Type 0 where
  pub reply : Reply
  pub came : Came e.master (body.Reply reply)
  pub its_id : reply.id ≡ id
  pub unsynced : reply.synced ≡ false
  pub epoch : reply.epoch ≡ e.epoch
  pub version : reply.version ≡ e.version
  pub answer : reply.answer ≡ e.answer

-- the accept of that witness at that epoch came
abbrev pub AcceptCame : (NodeId → Body → Type 0) → RequestId → Accept → Type 0
AcceptCame Came id a = Came a.witness (body.Accepted (record { id = id; epoch = a.epoch }))

-- the Quick of that master, epoch, version, capture and answer came
pub record GlimpseCame (Came : NodeId → Body → Type 0) (id : RequestId) (g : Glimpse) : Type 0 where
  pub quick : Quick
  pub came : Came g.master (body.Quick quick)
  pub its_id : quick.id ≡ id
  pub epoch : quick.epoch ≡ g.epoch
  pub version : quick.version ≡ g.version
  pub capture : quick.capture ≡ g.capture
  pub answer : quick.answer ≡ g.answer

-- the Live of that witness at that epoch came
abbrev pub LiveCame : (NodeId → Body → Type 0) → RequestId → Accept → Type 0
LiveCame Came id a = Came a.witness (body.Probed (record { id = id; epoch = a.epoch; live = true }))

-- what is kept of a pending request: attempts by adopted entries, and evidence that came
pub record EvidenceOk (Came : NodeId → Body → Type 0) (Adopted : PartConfig → Type 0) (p : Pending) : Type 0 where
  pub attempts : Each (IsAttempt Adopted) p.attempts
  pub early : Each (EarlyCame Came p.request.id) p.early
  pub accepts : Each (AcceptCame Came p.request.id) p.accepts
  pub glimpses : Each (GlimpseCame Came p.request.id) p.glimpses
  pub lives : Each (LiveCame Came p.request.id) p.lives

-- what a client knows: adopted entries, and evidence
pub record KnowledgeOk (Came : NodeId → Body → Type 0) (Adopted : PartConfig → Type 0) (c : ClientState) : Type 0 where
  pub config : Each Adopted c.config.parts
  pub pending : Each (EvidenceOk Came Adopted) c.pending
