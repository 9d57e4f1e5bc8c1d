-- Moves of a serving master that stays with its lists: it rests, only says something, or begins a round.
use Rattle.std.proofs.Common.{◌≡◌, ◌≤◌, ◌<◌, ◌⊎◌, inl, inr, ◌||◌, ℕ, true, List, [], ◌∷◌, ◌++◌, length, Option, refl, sym, ◌∙◌, subst, arith}
use Rattle.std.proofs.lemmas.Bool.{cond_both}
use Rattle.std.proofs.lemmas.List.{length-drop}
use Rattle.curp_base.specs.Words.{At, Each, rises_past}
use Rattle.curp_base.proofs.Lists.{Each-map, Each-weaker, at_map, at_push_cases}
use Rattle.curp_cmd.specs.Node.{master_node, same_node}
use Rattle.curp_cmd.specs.declared.entry.Entry.{Entry}
use Rattle.curp_cmd.specs.declared.entry.Entry.TheVariants.{Expire}
use Rattle.curp_cmd.specs.declared.node.NodeId.{NodeId}
use Rattle.curp_msg.specs.Moved.{Moved, quiet, sends}
use Rattle.curp_msg.specs.declared.body.Body.{Body}
use Rattle.curp_msg.specs.declared.message.Message.{Message}
use Rattle.curp_facts.specs.Facts.{IsOnlyExpire}
use Rattle.curp_facts.specs.Nodes.{AcknowledgedOk, IsOnEach, ServingOk}
use Rattle.curp_model.specs.Master.{Acknowledged, MasterState, Open, Switch, Switching, append_to, appends, begins_round, from_backup, fresh_backups, last_round, next_round, state_of, stored_on, unless_it_ends}
use Rattle.curp_model.specs.World.{World}
use Rattle.curp_law_kept.specs.Moves.{IsSaidBy, ServingMove, ServingSays, SaysAll, SwitchReaches}
use Rattle.curp_law_kept.specs.Moves.ListsMove.{Stays}
use Rattle.curp_law_kept.proofs.NumberedLists.{each_among}
use Rattle.curp_law_kept.proofs.Parts.{Parts, parts_of, parts_push, parts_round}
use Rattle.curp_law_kept.proofs.Pushed.{IsAbove}
use Rattle.curp_facts.specs.Entries.{EntryOk}
use Rattle.curp_model.specs.Log.{fits_at}

-- each message is one that the master may say as it is then
abbrev pub AllSaid : World → ℕ → MasterState → List Message → Type 0
AllSaid w n k messages = Each (IsSaidBy n (ServingSays w k)) messages

-- ---- appends

-- what is acknowledged is within the log
pub from_within : (acks : List Acknowledged) (limit : ℕ) → Each (λ (a : Acknowledged). a.length ≤ limit) acks → (backup : NodeId) → (from_backup acks backup).length ≤ limit
from_within [] limit all backup = omega arith
from_within (a ∷ acks) limit all backup = cond_both (same_node a.backup backup) _ _ (λ (x : Acknowledged). x.length ≤ limit) (λ y. all.0) (λ y. from_within acks limit all.1 backup)

module _ (w : World) (part n : ℕ) (k : MasterState) (p : Parts w part k) where
  base_within : (backup : NodeId) → (from_backup k.acknowledged backup).length ≤ length k.log
  base_within backup = from_within k.acknowledged (length k.log) (Each-weaker (AcknowledgedOk w k) _ (λ a ok. ok.within) k.acknowledged p.acknowledged) backup

  -- a round's appends are all of its log from a place on
  pub appends_say : AllSaid w n k (appends n k)
  appends_say = Each-map (IsSaidBy n (ServingSays w k)) (append_to n k) (stored_on k)
      (each_among _ (stored_on k) (λ backup among. record {
        sender = refl;
        says_so = record { its_epoch = refl; its_backup = among; within = base_within backup; entries = refl; its_round = refl };
      }))

  -- and each reaches to its end
  pub says_all : 1 ≤ length k.backups → SaysAll k (appends n k)
  says_all filled = go k.backups refl filled
    where
      go : (backups : List NodeId) → k.backups ≡ backups → 1 ≤ length backups → SaysAll k (appends n k)
      go [] is some = absurd (omega (arith, some))
      go (backup ∷ rest) is some = record {
        x = append_to n k backup;
        stands = record {
          place = 0;
          stands = at_map (append_to n k) (stored_on k) 0 backup (subst (λ (xs : List NodeId). At (xs ++ fresh_backups k.phase k.backups) 0 backup) (sym is) refl);
        };
        append = _;
        is = refl;
        reaches = omega (arith, length-drop (from_backup k.acknowledged backup).length k.log, base_within backup);
      }

-- ---- moves

-- the lists by which it serves, and what their backups have acknowledged, stay
pub record SameLists (m k : MasterState) : Type 0 where
  pub version : k.version ≡ m.version
  pub backups : k.backups ≡ m.backups
  pub witnesses : k.witnesses ≡ m.witnesses
  pub phase : k.phase ≡ m.phase
  pub acknowledged : k.acknowledged ≡ m.acknowledged

-- the log stays, or the master is open, or it grows by an expiry
pub data LogMove (m k : MasterState) : Type 0 where
  SameLog : k.log ≡ m.log → LogMove m k
  WhenOpen : m.phase ≡ Open → LogMove m k
  Expires : (client : ℕ) → k.log ≡ m.log ++ Expire client ∷ [] → LogMove m k

-- a master that doesn't switch is not held to what switching ones keep
not_open : (m k : MasterState) (s : Switch) → k.phase ≡ m.phase → m.phase ≡ Open → k.phase ≡ Switching s → ⊥
not_open m k s same is switches = cc

module _ (w : World) (n : ℕ) (m : MasterState) (ok : ServingOk w (master_node n) m) (from : NodeId) (heard : Option Body) where
  abbrev pub Move : Moved MasterState → Type 0
  Move r = ServingMove w n m from heard r

  since_kept : (k : MasterState) → SameLists m k → LogMove m k → (s : Switch) → k.phase ≡ Switching s → s.prepared ≡ true → (j : ℕ) (e : Entry) → At k.log j e → IsOnlyExpire e ⊎ IsOnEach k s.backups j
  since_kept k same moves s switches prepared j e at = go moves
    where
      kept : At m.log j e → IsOnlyExpire e ⊎ IsOnEach k s.backups j
      kept here = subst (λ (acks : List Acknowledged). IsOnlyExpire e ⊎ Each (λ (b : NodeId). j < (from_backup acks b).length) s.backups) (sym same.acknowledged)
          ((ok.switching s (sym same.phase ∙ switches)).since prepared j e here)

      go : LogMove m k → IsOnlyExpire e ⊎ IsOnEach k s.backups j
      go (SameLog log) = kept (subst (λ (xs : List Entry). At xs j e) log at)
      go (WhenOpen is) = absurd (not_open m k s same.phase is switches)
      go (Expires client log) = elim (at_push_cases m.log (Expire client) j e (subst (λ (xs : List Entry). At xs j e) log at)) [
        | inl old ↦ kept old
        | inr new ↦ inl (subst IsOnlyExpire new.1 tt)
      ]

  -- it stays with its lists, and keeps what it should
  pub stays : (k : MasterState) (messages : List Message) → SameLists m k → LogMove m k → Parts w m.part k → SwitchReaches m k messages → AllSaid w n k messages → Move (sends k messages)
  stays k messages same moves p reaches says = record {
    log = p.log;
    acknowledged = p.acknowledged;
    free = p.free;
    held = p.held;
    queue = p.queue;
    captures = p.captures;
    lists = Stays same.version same.backups same.witnesses same.phase;
    reaches = reaches;
    since = since_kept k same moves;
    says = says;
    refused = refl;
    idle = refl;
  }

  -- ---- the log stays

  same_reaches : (k : MasterState) (messages : List Message) → SameLists m k → k.log ≡ m.log → SwitchReaches m k messages
  same_reaches k messages same log = λ s switches. inl (log, (s, sym same.phase ∙ switches))

  -- the log stays, and something is said
  pub keeps_log : (k : MasterState) (messages : List Message) → SameLists m k → k.log ≡ m.log → Parts w m.part k → AllSaid w n k messages → Move (sends k messages)
  keeps_log k messages same log p says = stays k messages same (SameLog log) p (same_reaches k messages same log) says

  -- as it is
  pub itself : SameLists m m
  itself = record { version = refl; backups = refl; witnesses = refl; phase = refl; acknowledged = refl }

  -- it only says something
  pub tells : (messages : List Message) → AllSaid w n m messages → Move (sends m messages)
  tells messages says = keeps_log m messages itself refl (parts_of w (master_node n) m ok) says

  -- nothing happens
  pub rests : Move (quiet m)
  rests = tells [] tt

  -- an open master does it and says something
  pub open_does : m.phase ≡ Open → (k : MasterState) (messages : List Message) → SameLists m k → Parts w m.part k → AllSaid w n k messages → Move (sends k messages)
  open_does is k messages same p says = stays k messages same (WhenOpen is) p (λ s switches. absurd (not_open m k s same.phase is switches)) says

  -- ---- a round begins

  -- a round begins, after which it keeps what it should
  pub begins_next : 1 ≤ length m.backups → (k : MasterState) → SameLists m k → LogMove m k → Parts w m.part (next_round k) → Move (begins_round n k)
  begins_next filled k same moves next =
      stays (next_round k) (appends n (next_round k)) (record { version = same.version; backups = same.backups; witnesses = same.witnesses; phase = same.phase; acknowledged = same.acknowledged }) (onward moves) next
      (λ s switches. inr (says_all w m.part n (next_round k) next (subst (λ (xs : List NodeId). 1 ≤ length xs) (sym same.backups) filled)))
      (appends_say w m.part n (next_round k) next)
    where
      onward : LogMove m k → LogMove m (next_round k)
      onward (SameLog log) = SameLog log
      onward (WhenOpen is) = WhenOpen is
      onward (Expires client log) = Expires client log

  -- the log stays or not, and a round begins
  pub begins : 1 ≤ length m.backups → (k : MasterState) → SameLists m k → LogMove m k → Parts w m.part k → Move (begins_round n k)
  begins filled k same moves p = begins_next filled k same moves (parts_round w m.part k p)

  -- an entry is pushed, which fits, and a round begins
  pub pushes : 1 ≤ length m.backups → (e : Entry) → fits_at (state_of m) e ≡ true → EntryOk w m.part e → IsAbove m.log e → LogMove m (record m { log = m.log ++ e ∷ [] })
      → Move (begins_round n (record m { log = m.log ++ e ∷ [] }))
  pushes filled e fits is above moves =
      begins filled (record m { log = m.log ++ e ∷ [] }) (record { version = refl; backups = refl; witnesses = refl; phase = refl; acknowledged = refl }) moves
      (parts_push w m.part m (parts_of w (master_node n) m ok) e fits is above)

  -- ---- inputs

  -- an input by which a counter would rise past its end changes nothing
  pub unless_ends : (r : Moved MasterState) → Move r → Move (unless_it_ends m r)
  unless_ends r moves = cond_both (rises_past last_round m.round r.state.round || rises_past last_round m.captured r.state.captured) _ _ Move (λ y. rests) (λ y. moves)
