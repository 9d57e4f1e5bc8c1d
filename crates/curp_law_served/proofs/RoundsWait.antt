-- What a serving master waits for, as it hears something: nothing of it is forgotten.
use Rattle.std.proofs.Common.{◌≡◌, ◌≤◌, ◌<◌, ◌⊎◌, ◌&&◌, inl, inr, ℕ, ◌+◌, Bool, true, false, List, [], ◌∷◌, length, nat_le, refl, arith}
use Rattle.std.proofs.lemmas.Bool.{leb-true}
use Rattle.std.proofs.lemmas.List.{length-drop}
use Rattle.curp_base.specs.Words.{Each, IsPrefix}
use Rattle.curp_base.proofs.Lists.{Each-weaker, prefix_at, prefix_length}
use Rattle.curp_cmd.specs.declared.command.RequestId.{RequestId}
use Rattle.curp_cmd.specs.declared.entry.Entry.{Entry}
use Rattle.curp_cmd.specs.declared.entry.Entry.TheVariants.{Op}
use Rattle.curp_cmd.specs.declared.node.NodeId.{NodeId}
use Rattle.curp_msg.specs.Moved.{Moved, sends, says}
use Rattle.curp_msg.specs.declared.body.Body.{Body}
use Rattle.curp_msg.specs.declared.message.Message.{Message}
use Rattle.curp_facts.specs.Facts.{IsAmong}
use Rattle.curp_model.specs.Master.{Captured, MasterState, Queued, all_have, append_to, begins_round, from_backup, fresh_backups, next_round, stored_on, synced}
use Rattle.curp_law_kept.proofs.Gives.{each_among}
use Rattle.curp_law_served.specs.Ways.{Answers, CaptureGoes, WillCover, Gives, HeldGoes, MasterGoes}
use Rattle.curp_law_served.specs.Ways.WillCover.{Goes}
use Rattle.curp_law_served.proofs.Lists.{among_left, among_map, each_of}
use Rattle.curp_law_served.proofs.Ways as ways
use Rattle.curp_law_served.proofs.Ways.{NoReply, NoRound}
use Rattle.curp_law_served.specs.Grounds.{Bounded}

-- it has the lists that it had
pub record SameMaster (m k : MasterState) : Type 0 where
  pub part : k.part ≡ m.part
  pub epoch : k.epoch ≡ m.epoch
  pub version : k.version ≡ m.version
  pub backups : k.backups ≡ m.backups
  pub witnesses : k.witnesses ≡ m.witnesses
  pub phase : k.phase ≡ m.phase

-- nothing that it waits for is forgotten
pub record Keeps (D E : Message → Type 0) (n : ℕ) (m : MasterState) (r : Moved MasterState) : Type 0 where
  pub goes : MasterGoes E n r.state
  pub answers : (id : RequestId) → Answers D m id → Answers E r.state id
  pub gives : (id : RequestId) → Gives D m id → Gives E r.state id
  pub same : SameMaster m r.state
  pub round : r.state.round ≤ m.round + 1
  pub captured : r.state.captured ≤ m.captured + 1

-- all that it sends is on its way
abbrev pub AllSent : (Message → Type 0) → Moved MasterState → Type 0
AllSent E r = (x : Message) → IsAmong x r.messages → E x

module _ (D E : Message → Type 0) (from to : NodeId) (b : Body)
    (split : (x : Message) → D x → (x ≡ says from to b) ⊎ E x) (n : ℕ) (m : MasterState) (goes : MasterGoes D n m)
    (bounded : Bounded m) where
  -- it only says something
  pub says_only : NoRound b → NoReply b → (out : List Message) → Keeps D E n m (sends m out)
  says_only dull silent out = record {
    goes = ways.master_goes D E from to b split dull n m goes;
    answers = ways.answers_go D E from to b split silent m;
    gives = ways.gives_go D E from to b split silent m;
    same = record { part = refl; epoch = refl; version = refl; backups = refl; witnesses = refl; phase = refl };
    round = omega arith;
    captured = omega arith;
  }

  -- its log grows, and it says something
  pub grows : NoRound b → NoReply b → (log : List Entry) (free : List ℕ) (queue : List Queued) → IsPrefix m.log log
      → (out : List Message) → Keeps D E n m (sends (record m { log = log; free = free; queue = queue }) out)
  grows dull silent log free queue longer out =
      let k : MasterState = record m { log = log; free = free; queue = queue } in
      record {
        goes = record {
          held = Each-weaker (HeldGoes D n m) (HeldGoes E n k) (λ j h. record { unsynced = h.unsynced; within = omega (arith, h.within, prefix_length longer); covered = ways.covered_goes D E from to b split dull n m (j + 1) 0 h.covered }) m.held goes.held;
          captures = Each-weaker (CaptureGoes D n m) (CaptureGoes E n k) (λ c h. record { unready = h.unready; within = omega (arith, h.within, prefix_length longer); covered = ways.covered_goes D E from to b split dull n m c.length c.round h.covered }) m.captures goes.captures;
        };
        answers = λ id a. elim (ways.answers_go D E from to b split silent m id a) [
          | inl w ↦ inl w
          | inr h ↦ inr (record { index = h.index; held = h.held; request = h.request; acknowledged = h.acknowledged; stands = prefix_at longer h.index (Op h.request h.acknowledged) h.stands; its_id = h.its_id })
        ];
        gives = λ id g. elim (ways.gives_go D E from to b split silent m id g) [
          | inl w ↦ inl w
          | inr c ↦ inr (record { capture = c.capture; waits = c.waits; its_id = c.its_id })
        ];
        same = record { part = refl; epoch = refl; version = refl; backups = refl; witnesses = refl; phase = refl };
        round = omega arith;
        captured = omega arith;
      }

  -- ---- a round begins, over a longer log, with more that is held and captured

  module _ (log : List Entry) (held : List ℕ) (captures : List Captured) (captured : ℕ) (free : List ℕ)
      (queue : List Queued) where
    abbrev pub changed : MasterState
    changed = record m { log = log; held = held; captures = captures; captured = captured; free = free; queue = queue }

    module _ (sent : AllSent E (begins_round n changed)) (longer : IsPrefix m.log log) where
      -- an append to each backup of the list
      append_sent : (k : NodeId) → IsAmong k m.backups → E (append_to n (next_round changed) k)
      append_sent k among = sent (append_to n (next_round changed) k)
          (among_map (append_to n (next_round changed)) k (stored_on (next_round changed)) (among_left k m.backups (fresh_backups m.phase m.backups) among))

      round_covers : (long round : ℕ) → long ≤ length log → round ≤ m.round + 1 → (k : NodeId) → IsAmong k m.backups
          → WillCover E m.acknowledged m.epoch n k long round
      round_covers long round low begun k among =
          let base : ℕ = (from_backup m.acknowledged k).length in
          Goes (append_to n (next_round changed) k, append_sent k among, (refl, refl, omega (arith, length-drop base log, low), begun))

      pub all_covered : (long round : ℕ) → long ≤ length log → round ≤ m.round + 1
          → Each (λ k. WillCover E m.acknowledged m.epoch n k long round) m.backups
      all_covered long round low begun = each_among (λ k. WillCover E m.acknowledged m.epoch n k long round) m.backups (round_covers long round low begun)

      pub begins : NoRound b → NoReply b
          → ((j : ℕ) → IsAmong j m.held → IsAmong j held)
          → ((j : ℕ) → IsAmong j held → IsAmong j m.held ⊎ ((synced m ≤ j) × (j < length log)))
          → ((c : Captured) → IsAmong c m.captures → IsAmong c captures)
          → ((c : Captured) → IsAmong c captures → IsAmong c m.captures ⊎ ((c.length ≤ length log) × (c.round ≡ m.round + 1)))
          → captured ≤ m.captured + 1
          → Keeps D E n m (begins_round n changed)
      begins dull silent stay come stays comes more = record {
        goes = record {
          held = each_among (HeldGoes E n (next_round changed)) held (λ j among. elim (come j among) [
            | inl old ↦ let h = each_of (HeldGoes D n m) m.held goes.held j old in
                record { unsynced = h.unsynced; within = omega (arith, h.within, prefix_length longer); covered = ways.covered_goes D E from to b split dull n m (j + 1) 0 h.covered }
            | inr new ↦ record { unsynced = new.0; within = new.1; covered = all_covered (j + 1) 0 (omega (arith, new.1)) (omega arith) }
          ]);
          captures = each_among (CaptureGoes E n (next_round changed)) captures (λ c among. elim (comes c among) [
            | inl old ↦ let h = each_of (CaptureGoes D n m) m.captures goes.captures c old in
                record { unready = h.unready; within = omega (arith, h.within, prefix_length longer); covered = ways.covered_goes D E from to b split dull n m c.length c.round h.covered }
            | inr new ↦ record { unready = not_had m.backups bounded.some c.length c.round new.1; within = new.0; covered = all_covered c.length c.round new.0 (omega (arith, new.1)) }
          ]);
        };
        answers = λ id a. still id (ways.answers_go D E from to b split silent m id a);
        gives = λ id g. waits id (ways.gives_go D E from to b split silent m id g);
        same = record { part = refl; epoch = refl; version = refl; backups = refl; witnesses = refl; phase = refl };
        round = omega arith;
        captured = more;
      }
        where
          still : (id : RequestId) → Answers E m id → Answers E (next_round changed) id
          still id (inl w) = inl w
          still id (inr h) = inr (record { index = h.index; held = stay h.index h.held; request = h.request; acknowledged = h.acknowledged; stands = prefix_at longer h.index (Op h.request h.acknowledged) h.stands; its_id = h.its_id })

          waits : (id : RequestId) → Gives E m id → Gives E (next_round changed) id
          waits id (inl w) = inl w
          waits id (inr c) = inr (record { capture = c.capture; waits = stays c.capture c.waits; its_id = c.its_id })

          -- no backup has acknowledged a round that begins now
          not_had : (backups : List NodeId) → 1 ≤ length backups → (long round : ℕ) → round ≡ m.round + 1
              → all_have m.acknowledged backups long round ≡ false
          not_had [] none long round e = absurd (omega (arith, none))
          not_had (k ∷ rest) some long round e = by (nat_le long (from_backup m.acknowledged k).length) (nat_le round (from_backup m.acknowledged k).round) refl
            where
              by : (x y : Bool) → nat_le round (from_backup m.acknowledged k).round ≡ y
                  → ((x && y) && all_have m.acknowledged rest long round) ≡ false
              by x true is = absurd (omega (arith, leb-true round (from_backup m.acknowledged k).round is, bounded.begun k, e))
              by true false is = refl
              by false false is = refl
