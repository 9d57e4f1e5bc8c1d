-- What the laws say of a node, of a log and of a replay.
use Rattle.std.specs.Prelude.{◌≡◌, ◌≤◌, ◌↔◌, ℕ, ◌||◌, Bool, List, length, Some, ⊤}
use Rattle.curp_cmd.specs.Hash.{conflicts}
use Rattle.curp_cmd.specs.declared.command.Answer.{Answer}
use Rattle.curp_cmd.specs.declared.command.Request.{Request}
use Rattle.curp_cmd.specs.declared.command.RequestId.{RequestId}
use Rattle.curp_cmd.specs.declared.entry.Entry.{Entry}
use Rattle.curp_msg.specs.declared.body.Append.{Append}
use Rattle.curp_msg.specs.declared.body.Body.{Body}
use Rattle.curp_msg.specs.declared.body.Body.TheVariants as body
use Rattle.curp_model.specs.declared.Check.{Check}
use Rattle.curp_model.specs.declared.Check.TheVariants.{Expired, Stale, Known, New}
use Rattle.curp_model.specs.Backup.{BackupState}
use Rattle.curp_model.specs.Log.{IsDone, meaning}
use Rattle.curp_cmd.specs.RequestId.{same_id}

-- the message is an append that the backup takes: of its own epoch, not below its fence, and with no gap behind its log
pub record IsTaken (b : BackupState) (message : Body) : Type 0 where
  pub append : Append
  pub is_append : message ≡ body.Append append
  pub own_epoch : b.installed ≡ Some append.epoch
  pub not_fenced : b.fence ≤ append.epoch
  pub no_gap : append.base ≤ length b.log

-- what was known with this answer, at this place, still is, unless its client has acknowledged it or is gone
abbrev pub IsStillKnown : Answer → ℕ → Check → Type 0
IsStillKnown a index (Known b place) = (b ≡ a) × (place ≡ index)
IsStillKnown a index (Stale first) = ⊤
IsStillKnown a index Expired = ⊤
IsStillKnown a index New = ⊥

-- two requests that have one id or conflict
abbrev pub clash : Request → Request → Bool
clash r s = same_id r.id s.id || conflicts r.command s.command

-- two logs that leave the same store, and in which every request has the same answers
pub record IsAlike (lo hi : ℕ) (xs ys : List Entry) : Type 0 where
  pub store : (meaning lo hi xs).store ≡ (meaning lo hi ys).store
  pub answers : (id : RequestId) (a : Answer) → IsDone lo hi xs id a ↔ IsDone lo hi ys id a
