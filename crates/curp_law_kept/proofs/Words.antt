-- Nodes, logs and lists of a world, one step later.
use Rattle.std.proofs.Common.{◌≡◌, ◌⊎◌, inl, inr, ℕ, zero, suc, ◌<◌, ◌≤◌, List, [], ◌∷◌, length, refl, ap, subst, arith, Option, Some}
use Rattle.curp_base.specs.Words.{At, Each, IsPrefix, numbered}
use Rattle.curp_base.proofs.Lists.{Each-weaker, prefix_at, prefix_length}
use Rattle.curp_cmd.specs.declared.node.NodeId.{NodeId}
use Rattle.curp_cmd.specs.declared.node.NodeKind.TheVariants as kind
use Rattle.curp_msg.specs.declared.message.Message.{Message}
use Rattle.curp_order.specs.declared.Event.{Event}
use Rattle.curp_model.specs.Backup.{BackupState}
use Rattle.curp_model.specs.Manager.{Shape}
use Rattle.curp_model.specs.Master.{MasterState}
use Rattle.curp_model.specs.Named.{IsBackup, IsMaster, IsWitness}
use Rattle.curp_model.specs.Ranges.{opening_range}
use Rattle.curp_model.specs.Recovery.{MasterStage, Serving}
use Rattle.curp_model.specs.Witness.{WitnessState}
use Rattle.curp_model.specs.World.{World, messages}
use Rattle.curp_facts.specs.Facts.{HasLog, IsGiven, Lists, Logged, WasAdopted, WasSent, hi_of, lo_of, node_log}
use Rattle.curp_facts.specs.Growth.{BackupGrows, Dropped, Grows, LogGrows, MasterGrows, Steady, WitnessGrows}
use Rattle.curp_facts.specs.Reach.{HasMany, HasStored, IsReady, BackupIsThere, Reach, Whole}
use Rattle.curp_law_kept.proofs.Reaches.{many_grows, reach_grows}
use Rattle.curp_facts.specs.Names.{IsOf, Names}
use Rattle.curp_law_kept.proofs.Later as names
use Rattle.curp_law_kept.proofs.Later.{Later}

-- a step from one world to the next: nothing is taken back, and lists that become ready have their master's whole log on each of
-- their backups
pub record Follows (w v : World) : Type 0 where
  pub grows : Grows w v
  pub later : Later w v
  pub names : Names w
  pub steady : Steady w
  pub ready : (l : Lists) → IsReady v l → IsReady w l ⊎ Whole v l

-- an item has one number
pub one_state : {A : Type 0} (o : Option A) (x y : A) → o ≡ Some x → o ≡ Some y → x ≡ y
one_state o x y p q = cc

module _ {w v : World} (s : Follows w v) where
  -- ---- messages and the history

  abbrev pub sent_later : {m : Message} → WasSent w m → WasSent v m
  sent_later {m} sent = record { place = sent.place; stands = prefix_at s.grows.sent sent.place m sent.stands }

  pub message_at : (k : ℕ) (m : Message) → At (messages w) k m → At (messages v) k m
  message_at k m at = prefix_at s.grows.sent k m at

  pub event_at : (k : ℕ) (e : Event) → At w.history k e → At v.history k e
  event_at k e at = prefix_at s.grows.history k e at

  -- ---- lists

  pub lo_later : (part : ℕ) → lo_of v part ≡ lo_of w part
  lo_later part = ap (λ (x : Shape). (opening_range x.parts part).lo) s.later.shape

  pub hi_later : (part : ℕ) → hi_of v part ≡ hi_of w part
  hi_later part = ap (λ (x : Shape). (opening_range x.parts part).hi) s.later.shape

  pub given_stays : {l : Lists} → IsGiven w l → IsGiven v l
  given_stays {l} given = names.given_later s.later l given

  abbrev pub adopted_stays : {l : Lists} → WasAdopted w l → WasAdopted v l
  adopted_stays {l} was = names.adopted_later s.later l was

  abbrev pub ready_later : {l : Lists} → IsReady w l → IsReady v l
  ready_later {l} ready = record {
    given = given_stays ready.given;
    told = elim ready.told [
      | inl one ↦ inl one
      | inr told ↦ inr (elim told [
        | inl prepared ↦ inl (sent_later prepared)
        | inr r ↦ inr (record { order = r.order; ordered = sent_later r.ordered; its_version = r.its_version; told = sent_later r.told })
      ])
    ];
  }

  -- ---- nodes

  -- a backup that is there, grown
  pub backup_later : (node : NodeId) (b : BackupState) → IsBackup w node b → (c : BackupState) × IsBackup v node c × BackupGrows b c
  backup_later node b is =
      let o = s.grows.backups node.number b is.its_state in
      (o.0, record { its_kind = is.its_kind; its_state = o.1 }, o.2)

  -- a witness that is there, grown
  pub witness_later : (node : NodeId) (x : WitnessState) → IsWitness w node x
      → (y : WitnessState) × IsWitness v node y × WitnessGrows (Dropped v node.number x) x y
  witness_later node x is =
      let o = s.grows.witnesses node.number x is.its_state in
      (o.0, record { its_kind = is.its_kind; its_state = o.1 }, o.2)

  -- a master that is there, grown
  pub master_later : (node : NodeId) (m : MasterStage) → IsMaster w node m → (k : MasterStage) × IsMaster v node k × MasterGrows m k
  master_later node m is =
      let o = s.grows.masters node.number m is.its_state in
      (o.0, record { its_kind = is.its_kind; its_state = o.1 }, o.2)

  -- a serving master serves on
  pub serving_later : (node : NodeId) (m : MasterState) → IsMaster w node (Serving m) → (k : MasterState) × IsMaster v node (Serving k) × MasterGrows (Serving m) (Serving k)
  serving_later node m is = let o = master_later node (Serving m) is in go o.0 o.1 o.2
    where
      go : (x : MasterStage) → IsMaster v node x → MasterGrows (Serving m) x → (k : MasterState) × IsMaster v node (Serving k) × MasterGrows (Serving m) (Serving k)
      go (Serving k) there grows = (k, there, grows)
      go _ there grows = absurd (grows.life)

  -- a master's log, grown
  pub log_later : (node : NodeId) (l : Logged) → HasLog w node l → (k : Logged) × HasLog v node k × IsPrefix l.log k.log × (l.round ≤ k.round)
  log_later node l has =
      let o = master_later node has.m has.is in
      let g : LogGrows (Some l) (node_log o.0) = subst (λ (x : Option Logged). LogGrows x (node_log o.0)) has.its_log o.2.log in
      (g.0, record { m = o.0; is = o.1; its_log = g.1 }, g.2, g.3)

  -- ---- how far logs reach

  -- the backups of lists that were given are there
  pub there : (l : Lists) → IsGiven w l → Each (BackupIsThere w) l.backups
  there l given = Each-weaker (IsOf w kind.Backup) (BackupIsThere w) (λ node of. is_there node of.0 of.1) l.backups (s.names.given l given).backups
    where
      found : {A : Type 0} (xs : List A) (n : ℕ) → 1 ≤ n → n ≤ length xs → (x : A) × (numbered xs n ≡ Some x)
      found xs zero low high = absurd (omega (arith, low))
      found {A} xs (suc k) low high = go xs k (omega (arith, high))
        where
          go : (ys : List A) (k : ℕ) → k < length ys → (x : A) × At ys k x
          go [] k low = absurd (omega (arith, low))
          go (y ∷ ys) zero low = (y, refl)
          go (y ∷ ys) (suc k) low = go ys k (omega (arith, low))

      is_there : (node : NodeId) → node.kind ≡ kind.Backup → (1 ≤ node.number) × (node.number ≤ length w.backups) → BackupIsThere w node
      is_there node its_kind within = let f = found w.backups node.number within.0 within.1 in (f.0, record { its_kind = its_kind; its_state = f.1 })

  pub many_later : (l : Lists) → IsGiven w l → (n : ℕ) → Each (HasMany w n) l.backups → Each (HasMany v n) l.backups
  many_later l given n many = go l.backups (there l given) many
    where
      go : (nodes : List NodeId) → Each (BackupIsThere w) nodes → Each (HasMany w n) nodes → Each (HasMany v n) nodes
      go [] there many = tt
      go (node ∷ nodes) there many = (many_grows w v s.grows n node there.0 many.0, go nodes there.1 many.1)

  pub reach_later : (node : NodeId) (version n : ℕ) (its : Logged) → HasLog v node its → n ≤ length its.log → Reach w node version n → Reach v node version n
  reach_later = reach_grows w v s.grows s.ready (λ l ready. there l ready.given)

  abbrev pub stored_later : (n : ℕ) (node : NodeId) → HasStored w n node → HasStored v n node
  stored_later n node h =
      let o = backup_later node h.b h.is in
      record { b = o.0; is = o.1; low = omega (arith, h.low, prefix_length o.2.log) }
