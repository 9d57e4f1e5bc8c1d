-- What fits a world fits a later one.
use Rattle.std.proofs.Common.{◌≡◌, ℕ, List, Option, Some, None, sym, subst}
use Rattle.curp_base.specs.Words.{Each}
use Rattle.curp_base.proofs.Lists.{Each-weaker}
use Rattle.curp_cmd.specs.declared.command.Request.{Request}
use Rattle.curp_cmd.specs.declared.entry.Entry.{Entry}
use Rattle.curp_cmd.specs.declared.entry.Entry.TheVariants.{Op}
use Rattle.curp_cmd.specs.declared.node.NodeId.{NodeId}
use Rattle.curp_cmd.specs.declared.node.NodeKind.TheVariants as kind
use Rattle.curp_msg.specs.declared.answer.FenceReply.{FenceReply}
use Rattle.curp_msg.specs.declared.answer.FenceReply.TheVariants.{Log}
use Rattle.curp_msg.specs.declared.answer.GcAnswer.{GcAnswer}
use Rattle.curp_msg.specs.declared.answer.GcAnswer.TheVariants.{Suspects}
use Rattle.curp_msg.specs.declared.body.Body.{Body}
use Rattle.curp_msg.specs.declared.body.Body.TheVariants as body
use Rattle.curp_msg.specs.declared.message.Message.{Message}
use Rattle.curp_model.specs.Backup.{BackupState}
use Rattle.curp_model.specs.Client.{Attempt, ClientState, Pending}
use Rattle.curp_model.specs.Manager.{Shape}
use Rattle.curp_model.specs.Master.{Captured, Open, Phase, Switching}
use Rattle.curp_model.specs.Named.{IsNodeOf}
use Rattle.curp_model.specs.Ranges.{opening_range}
use Rattle.curp_model.specs.Recovery.{Asking, Fresh, MasterStage, Recovering, RecoveryPhase, Serving, Storing, Waiting}
use Rattle.curp_model.specs.Witness.{HeldRequest, WitnessState}
use Rattle.curp_model.specs.World.{World}
use Rattle.curp_facts.specs.Facts.{AttemptWas, Lists}
use Rattle.curp_facts.specs.Fits.{BackupFits, BodyFits, ClientFits, EntryAsked, IsOfClient, LogThere, MasterFits, MessageFits, NextSent, PendingFits, PhaseFits, ReplyAsked, RequestsThere, ServesBy, SuspectsAsked, WitnessFits, addressee_kind, sender_kind}
use Rattle.curp_law_kept.proofs.Later.{Later, adopted_later, configuration_later, given_later, node_later, of_later}

module _ {w v : World} (g : Later w v) where
  pub asked_later : (r : Request) → IsOfClient w r → IsOfClient v r
  asked_later r is = node_later g kind.Client r.id.client is

  pub entry_later : (e : Entry) → EntryAsked w e → EntryAsked v e
  entry_later (Op r acknowledged) is = asked_later r is
  entry_later _ is = tt

  pub entries_later : (es : List Entry) → Each (EntryAsked w) es → Each (EntryAsked v) es
  entries_later es all = Each-weaker (EntryAsked w) (EntryAsked v) entry_later es all

  pub requests_later : (rs : List Request) → Each (IsOfClient w) rs → Each (IsOfClient v) rs
  requests_later rs all = Each-weaker (IsOfClient w) (IsOfClient v) asked_later rs all

  reply_later : (a : FenceReply) → ReplyAsked w a → ReplyAsked v a
  reply_later (Log entries) is = entries_later entries is
  reply_later _ is = tt

  suspects_later : (a : GcAnswer) → SuspectsAsked w a → SuspectsAsked v a
  suspects_later (Suspects requests) is = requests_later requests is
  suspects_later _ is = tt

  body_later : (from to : NodeId) (b : Body) → BodyFits w from to b → BodyFits v from to b
  body_later from to (body.Update ask) is = is
  body_later from to (body.Sync ask) is = is
  body_later from to (body.Read ask) is = is
  body_later from to (body.Record r) is = is
  body_later from to (body.Glance ask) is = is
  body_later from to (body.Probe a) is = is
  body_later from to (body.Probed a) is = is
  body_later from to (body.Quick q) is = is
  body_later from to (body.Reply r) is = is
  body_later from to (body.Worth v) is = is
  body_later from to (body.Refuse r) is = is
  body_later from to (body.Accepted a) is = is
  body_later from to (body.Rejected r) is = is
  body_later from to (body.Append a) is = entries_later a.entries is
  body_later from to (body.FenceAnswer a) is = reply_later a.answer is
  body_later from to (body.FrozenAnswer requests) is = requests_later requests is
  body_later from to (body.Collected c) is = suspects_later c.answer is
  body_later from to (body.Fence epoch) is = record { order = is.order; ordered = g.sent _ is.ordered; its_epoch = is.its_epoch; its_backup = is.its_backup }
  body_later from to (body.Freeze epoch) is = record { order = is.order; ordered = g.sent _ is.ordered; its_epoch = is.its_epoch; its_witness = is.its_witness }
  body_later from to (body.Recovered r) is = record { order = is.order; ordered = g.sent _ is.ordered; its_part = is.its_part; its_epoch = is.its_epoch }
  body_later from to (body.Prepared version) is = record { prepare = is.prepare; sent = g.sent _ is.sent; its_version = is.its_version }
  body_later from to _ is = tt

  pub message_later : (m : Message) → MessageFits w m → MessageFits v m
  message_later m ok = record {
    sender = of_later g (sender_kind m.body) m.from ok.sender;
    addressee = of_later g (addressee_kind m.body) m.to ok.addressee;
    fits = body_later m.from m.to m.body ok.fits;
  }

  attempt_later : (a : Attempt) → AttemptWas w a → AttemptWas v a
  attempt_later a ok = record { lists = ok.lists; adopted = adopted_later g ok.lists ok.adopted; its_master = ok.its_master; its_epoch = ok.its_epoch; its_version = ok.its_version; its_witnesses = ok.its_witnesses }

  pending_later : (n : ℕ) (p : Pending) → PendingFits w n p → PendingFits v n p
  pending_later n p ok = record { own = ok.own; attempts = Each-weaker (AttemptWas w) (AttemptWas v) attempt_later p.attempts ok.attempts }

  pub client_fits_later : (n : ℕ) (c : ClientState) → ClientFits w n c → ClientFits v n c
  client_fits_later n c ok = record { config = configuration_later g c.config ok.config; pending = Each-weaker (PendingFits w n) (PendingFits v n) (pending_later n) c.pending ok.pending }

  next_later : (l : Lists) (p : Phase) → NextSent w l p → NextSent v l p
  next_later l Open is = tt
  next_later l (Switching s) is = g.sent _ is

  pub serves_later : (l : Lists) (lo hi : ℕ) (log : List Entry) (captures : List Captured) (p : Phase) → ServesBy w l lo hi log captures p → ServesBy v l lo hi log captures p
  serves_later l lo hi log captures p ok = record {
    given = given_later g l ok.given;
    next = next_later l p ok.next;
    its_lo = subst (λ (s : Shape). lo ≡ (opening_range s.parts l.part).lo) (sym g.shape) ok.its_lo;
    its_hi = subst (λ (s : Shape). hi ≡ (opening_range s.parts l.part).hi) (sym g.shape) ok.its_hi;
    entries = entries_later log ok.entries;
    reads = Each-weaker (λ (c : Captured). IsNodeOf w kind.Client c.id.client) (λ (c : Captured). IsNodeOf v kind.Client c.id.client) (λ (c : Captured). node_later g kind.Client c.id.client) captures ok.reads;
  }

  log_later : (o : Option (List Entry)) → LogThere w o → LogThere v o
  log_later None is = tt
  log_later (Some entries) is = entries_later entries is

  asked_there_later : (o : Option (List Request)) → RequestsThere w o → RequestsThere v o
  asked_there_later None is = tt
  asked_there_later (Some requests) is = requests_later requests is

  phase_later : (p : RecoveryPhase) → PhaseFits w p → PhaseFits v p
  phase_later (Asking log requests) is = (log_later log is.0, asked_there_later requests is.1)
  phase_later (Storing r) is = entries_later r.log is
  phase_later (Waiting r) is = entries_later r.log is

  pub master_later : (n : ℕ) (m : MasterStage) → MasterFits w n m → MasterFits v n m
  master_later n Fresh ok = tt
  master_later n (Recovering s) ok = record { ordered = g.sent _ ok.ordered; phase = phase_later s.phase ok.phase }
  master_later n (Serving m) ok = serves_later _ m.lo m.hi m.log m.captures m.phase ok

  pub backup_later : (b : BackupState) → BackupFits w b → BackupFits v b
  backup_later b ok = entries_later b.log ok

  pub witness_later : (x : WitnessState) → WitnessFits w x → WitnessFits v x
  witness_later x ok = Each-weaker (λ (h : HeldRequest). IsOfClient w h.request) (λ (h : HeldRequest). IsOfClient v h.request) (λ (h : HeldRequest). asked_later h.request) x.held ok
