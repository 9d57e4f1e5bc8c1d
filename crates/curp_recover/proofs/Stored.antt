-- A fresh backup has stored the replayed log.
use Rattle.std.proofs.Common.{◌≡◌, ℕ, ◌&&◌, ◌||◌, Bool, true, false, List, [], ◌∷◌, ◌++◌, length, if◌then◌else◌, nat_le, None, refl, sym, ◌∙◌, ap, subst}
use Rattle.std.proofs.Math.Bool.{or-false, or-true}
use Rattle.std.proofs.lemmas.List.Folds.{list_any-append}
use Rattle.curp_cmd.proofs.Nodes.{same_node-true}
use Rattle.curp_cmd.specs.Node.{is_among, same_node}
use Rattle.curp_cmd.specs.declared.node.NodeId.{NodeId}
use Rattle.curp_model.specs.Recovery.{RecoveryPhase, RecoveryState, Replayed, Storing, Waiting, all_complete, completed_by, recovered_message, stored_comes, with_complete}
use Rattle.curp_msg.specs.Moved.{done_of, quiet, sends}
use Rattle.curp_msg.specs.declared.body.Recover.{Recover}
use Rattle.curp_msg.specs.declared.machine.Done.{Done}
use Rattle.curp_msg.specs.declared.message.Message.{Message}
use Rattle.curp_recover.specs.Stage.{replayed_of, replayed_phase}
use Rattle.curp_recover.specs.declared.stage.Awaited.{Awaited}
use Rattle.curp_recover.specs.declared.stage.Awaited.TheVariants as awaited
use Rattle.curp_recover.specs.declared.stage.ReplayedLog.{ReplayedLog}

-- a backup has the whole log once another has, if it had it before or is that other
pub among_with : (r : Replayed) (b from : NodeId) → is_among b (with_complete r from).complete ≡ (is_among b r.complete || same_node b from)
among_with r b from = go (is_among from r.complete) refl
  where
    there : is_among from r.complete ≡ true → (y : Bool) → same_node b from ≡ y → is_among b r.complete ≡ (is_among b r.complete || y)
    there e false s = sym (or-false (is_among b r.complete))
    there e true s = subst (λ (n : NodeId). is_among n r.complete ≡ true) (sym (same_node-true b from s)) e ∙ sym (or-true (is_among b r.complete))

    go : (x : Bool) → is_among from r.complete ≡ x
        → is_among b (if x then r else record r { complete = r.complete ++ from ∷ [] }).complete ≡ (is_among b r.complete || same_node b from)
    go false e = list_any-append (same_node b) r.complete (from ∷ []) ∙ ap (λ (x : Bool). is_among b r.complete || x) (or-false (same_node b from))
    go true e = there e (same_node b from) refl

-- less than the whole log, or on another backup, changes nothing
pub stored_not : (n : ℕ) (s : RecoveryState) (from : NodeId) (long : ℕ) (r : Replayed) → (is_among from s.order.backups && nat_le (length r.log) long) ≡ false
    → stored_comes n s from long (Storing r) ≡ quiet s
stored_not n s from long r e = ap (λ (b : Bool). if b then completed_by n s.order (with_complete r from) else quiet s) e

pub stored_whole : (n : ℕ) (s : RecoveryState) (from : NodeId) (long : ℕ) (r : Replayed) → (is_among from s.order.backups && nat_le (length r.log) long) ≡ true
    → stored_comes n s from long (Storing r) ≡ completed_by n s.order (with_complete r from)
stored_whole n s from long r e = ap (λ (b : Bool). if b then completed_by n s.order (with_complete r from) else quiet s) e

abbrev pub at : Recover → RecoveryPhase → RecoveryState
at o p = record { order = o; phase = p }

abbrev pub sent_out : List Message → Done
sent_out told = record { refused = 0; sent = told; invoked = None; completed = None }

-- what waits for all backups, and what is said, by whether all have it
pub completed_is : (n : ℕ) (o : Recover) (x : ReplayedLog) (w : Replayed) (waits : Awaited) (told : List Message) → replayed_of x ≡ w
    → waits ≡ (if all_complete o w then awaited.Adoption else awaited.Storing) → told ≡ (if all_complete o w then recovered_message n o else [])
    → (at o (replayed_phase x waits) ≡ (completed_by n o w).state) × (sent_out told ≡ done_of (completed_by n o w))
completed_is n o x w waits told same = go (all_complete o w)
  where
    go : (b : Bool) → waits ≡ (if b then awaited.Adoption else awaited.Storing) → told ≡ (if b then recovered_message n o else [])
        → (at o (replayed_phase x waits) ≡ (if b then sends (at o (Waiting w)) (recovered_message n o) else quiet (at o (Storing w))).state)
        × (sent_out told ≡ done_of (if b then sends (at o (Waiting w)) (recovered_message n o) else quiet (at o (Storing w))))
    go true a t = (ap (λ (y : Awaited). at o (replayed_phase x y)) a ∙ ap (λ (y : Replayed). at o (Waiting y)) same, ap sent_out t)
    go false a t = (ap (λ (y : Awaited). at o (replayed_phase x y)) a ∙ ap (λ (y : Replayed). at o (Storing y)) same, ap sent_out t)
