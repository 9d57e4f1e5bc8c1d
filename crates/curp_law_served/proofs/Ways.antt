-- What was on its way before a delivery: the message that was delivered, or it still is.
use Rattle.std.proofs.Common.{◌≡◌, ◌⊎◌, inl, inr, ℕ, ◌+◌, List, subst}
use Rattle.std.specs.Bool.{⊤}
use Rattle.curp_base.proofs.Lists.{Each-weaker}
use Rattle.curp_cmd.specs.declared.command.RequestId.{RequestId}
use Rattle.curp_cmd.specs.declared.node.NodeId.{NodeId}
use Rattle.curp_msg.specs.Moved.{says}
use Rattle.curp_msg.specs.declared.body.Body.{Body}
use Rattle.curp_msg.specs.declared.body.Body.TheVariants as body
use Rattle.curp_msg.specs.declared.message.Message.{Message}
use Rattle.curp_model.specs.Master.{Acknowledged, MasterState}
use Rattle.curp_law_served.specs.Ways.{Answers, Appends, CaptureGoes, Covered, WillCover, EarlyReply, Gives, HeldGoes, IsOfKind, Kind, MasterGoes, OnWay, Stores, SyncedReply, ValueOf}
use Rattle.curp_law_served.specs.Ways.WillCover.{Comes, Goes, Known}

-- a message that is no part of a round
abbrev pub NoRound : Body → Type 0
NoRound (body.Append a) = ⊥
NoRound (body.Appended a) = ⊥
NoRound _ = ⊤

-- a message that tells a client nothing of its requests
abbrev pub NoReply : Body → Type 0
NoReply (body.Reply r) = ⊥
NoReply (body.Worth v) = ⊥
NoReply _ = ⊤

module _ (D E : Message → Type 0) (from to : NodeId) (b : Body)
    (split : (x : Message) → D x → (x ≡ says from to b) ⊎ E x) where
  -- what was on its way is what was delivered, or still is
  pub meets : (P : Kind) → OnWay D P → P from to b ⊎ OnWay E P
  meets P w = elim (split w.0 w.1) [ inl same ↦ inl (subst (λ (x : Message). IsOfKind P x) same w.2) | inr later ↦ inr (w.0, later, w.2) ]

  -- another kind than what was delivered
  pub carry : (P : Kind) → (P from to b → ⊥) → OnWay D P → OnWay E P
  carry P other w = elim (meets P w) [ inl it ↦ absurd (other it) | inr later ↦ later ]

  no_append : NoRound b → (epoch : ℕ) (k : NodeId) (long round : ℕ) → Appends epoch k long round from to b → ⊥
  no_append dull epoch k long round it = by b dull it
    where
      by : (b : Body) → NoRound b → Appends epoch k long round from to b → ⊥
      by (body.Append a) d p = d
      by _ d p = p

  no_stores : NoRound b → (n : ℕ) (k : NodeId) (long round : ℕ) → Stores n k long round from to b → ⊥
  no_stores dull n k long round it = by b dull it
    where
      by : (b : Body) → NoRound b → Stores n k long round from to b → ⊥
      by (body.Appended a) d p = d
      by _ d p = p

  pub no_synced : NoReply b → (id : RequestId) → SyncedReply id from to b → ⊥
  no_synced dull id it = by b dull it
    where
      by : (b : Body) → NoReply b → SyncedReply id from to b → ⊥
      by (body.Reply r) d p = d
      by _ d p = p

  pub no_early : NoReply b → (master : NodeId) (epoch version : ℕ) (id : RequestId)
      → EarlyReply master epoch version id from to b → ⊥
  no_early dull master epoch version id it = by b dull it
    where
      by : (b : Body) → NoReply b → EarlyReply master epoch version id from to b → ⊥
      by (body.Reply r) d p = d
      by _ d p = p

  pub no_value : NoReply b → (id : RequestId) → ValueOf id from to b → ⊥
  no_value dull id it = by b dull it
    where
      by : (b : Body) → NoReply b → ValueOf id from to b → ⊥
      by (body.Worth v) d p = d
      by _ d p = p

  -- ---- rounds go on

  pub cover_goes : NoRound b → (acks : List Acknowledged) (epoch n : ℕ) (k : NodeId) (long round : ℕ)
      → WillCover D acks epoch n k long round → WillCover E acks epoch n k long round
  cover_goes dull acks epoch n k long round (Known l r) = Known l r
  cover_goes dull acks epoch n k long round (Goes w) = Goes (carry (Appends epoch k long round) (no_append dull epoch k long round) w)
  cover_goes dull acks epoch n k long round (Comes w) = Comes (carry (Stores n k long round) (no_stores dull n k long round) w)

  pub covered_goes : NoRound b → (n : ℕ) (m : MasterState) (long round : ℕ) → Covered D n m long round
      → Covered E n m long round
  covered_goes dull n m long round all = Each-weaker (λ k. WillCover D m.acknowledged m.epoch n k long round) (λ k. WillCover E m.acknowledged m.epoch n k long round)
      (λ k c. cover_goes dull m.acknowledged m.epoch n k long round c) m.backups all

  pub master_goes : NoRound b → (n : ℕ) (m : MasterState) → MasterGoes D n m → MasterGoes E n m
  master_goes dull n m goes = record {
    held = Each-weaker (HeldGoes D n m) (HeldGoes E n m) (λ j h. record { unsynced = h.unsynced; within = h.within; covered = covered_goes dull n m (j + 1) 0 h.covered }) m.held goes.held;
    captures = Each-weaker (CaptureGoes D n m) (CaptureGoes E n m) (λ c h. record { unready = h.unready; within = h.within; covered = covered_goes dull n m c.length c.round h.covered }) m.captures goes.captures;
  }

  -- ---- replies go on

  pub answers_go : NoReply b → (m : MasterState) (id : RequestId) → Answers D m id → Answers E m id
  answers_go dull m id (inl w) = inl (carry (SyncedReply id) (no_synced dull id) w)
  answers_go dull m id (inr held) = inr held

  pub gives_go : NoReply b → (m : MasterState) (id : RequestId) → Gives D m id → Gives E m id
  gives_go dull m id (inl w) = inl (carry (ValueOf id) (no_value dull id) w)
  gives_go dull m id (inr waits) = inr waits
