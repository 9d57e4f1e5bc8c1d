-- Where marks go by a move, and where they come from.
use Rattle.std.specs.Prelude.{◌≡◌, ◌⊎◌, ◌<◌, ◌+◌, ℕ, true, false, not, List, length}
use Rattle.std.specs.List.{filter}
use Rattle.curp_base.specs.Words.{At}
use Rattle.curp_cmd.specs.declared.command.Request.{Request}
use Rattle.curp_law_linear.specs.Line.{IsCompleted, LineState, answer_at}
use Rattle.curp_model.specs.Marks.{Executed, Mark, adoptions, cut_mark, executed, is_dropped, is_quick, looked, quick}
use Rattle.curp_law_linear.specs.Moves.{Adopts, Lates, Looks, LineMove, OpPush, Quicks, replayed_of}

-- what is kept of a mark by a move: where it stands now, and what stands before it and behind it
pub record MarkMoved (s : LineState) (new : List Mark) (place : ℕ) (m : Mark) : Type 0 where
  pub now : ℕ
  pub mark : Mark
  pub stands : At new now mark
  pub master : mark.master ≡ m.master
  pub epoch : mark.epoch ≡ m.epoch
  pub part : mark.part ≡ m.part
  pub id : mark.id ≡ m.id
  pub command : mark.command ≡ m.command
  pub same : mark.place ≡ m.place
  -- a quick mark gives what it gave
  pub value : is_quick m.place ≡ true → answer_at new now mark.command ≡ answer_at s.marks place m.command
  -- an uncompleted update before it was one before it
  pub before : (k i : ℕ) (u : Mark) → At new k u → k < now → u.place ≡ Executed i → u.completed ≡ false
      → (j : ℕ) × (v : Mark) × At s.marks j v × (j < place) × (v.place ≡ Executed i) × (v.completed ≡ false)
      × (v.part ≡ u.part) × (v.command ≡ u.command)
  -- a flagged mark behind it was one behind it, or is of a request that hadn't completed
  pub behind : (k : ℕ) (u : Mark) → At new k u → now < k → u.completed ≡ true
      → ((j : ℕ) × (v : Mark) × At s.marks j v × (place < j) × (v.id ≡ u.id) × (v.completed ≡ true))
      ⊎ (IsCompleted s.history u.id → ⊥)

-- the mark at that place was there before
pub record Came (s : LineState) (new : List Mark) (k : ℕ) (x : Mark) : Type 0 where
  pub place : ℕ
  pub old : Mark
  pub stands : At s.marks place old
  pub moved : MarkMoved s new place old
  pub now : moved.now ≡ k
  pub mark : moved.mark ≡ x

-- or it came with the move
abbrev pub IsNew : LineState → LineMove → ℕ → Mark → Type 0
IsNew s (OpPush o) k x = (executed o.node o.part o.epoch (length o.p.log) o.request.id o.request.command ≡ x)
    × (k ≡ length s.marks)
IsNew s (Looks o) k x = (looked o.node o.part o.epoch o.capture (length o.p.log) o.id o.command ≡ x) × (k ≡ length s.marks)
IsNew s (Quicks o) k x = (quick o.node o.part o.epoch o.capture o.id o.command ≡ x) × (k ≡ length s.marks)
IsNew s (Lates o) k x = (quick o.node o.part o.epoch o.capture o.id o.command ≡ x) × (k ≡ o.place)
IsNew s (Adopts o) k x =
    ((cut_mark o.node o.part o.epoch (adoptions o.part s.marks + 1) (length o.stays) ≡ x)
    × (k ≡ length (filter (λ (m : Mark). not (is_dropped o.part (length o.stays) m)) s.marks)))
    ⊎ ((j : ℕ) × (r : Request) × At (replayed_of o) j r
    × (x ≡ executed o.node o.part o.epoch (length o.stays + j) r.id r.command))
IsNew s _ k x = ⊥
