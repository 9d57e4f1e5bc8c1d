-- The slots in which the marks of requests stand, between those of adoptions, and how those of one request, and those of
-- one partition, are found.
use Rattle.std.specs.Prelude.{◌≡◌, ℕ, zero, suc, ◌≤◌, ◌==◌, ◌&&◌, if◌then◌else◌, Bool, true, false, not, List, [], ◌∷◌, ◌++◌, map, take, Option, Some, None}
use Rattle.std.specs.List.{filter}
use Rattle.curp_base.specs.Words.{At}
use Rattle.curp_cmd.specs.RequestId.{same_id}
use Rattle.curp_cmd.specs.declared.command.Command.{Command}
use Rattle.curp_cmd.specs.declared.command.RequestId.{RequestId}
use Rattle.curp_model.specs.Marks.{Mark, is_cut, is_dropped, is_flagged, is_shown}
use Rattle.curp_msg.specs.declared.machine.Completed.{Completed}
use Rattle.curp_line.specs.Cuts.{mark_of}
use Rattle.curp_line.specs.declared.cuts.Cut.{Cut}
use Rattle.curp_line.specs.declared.slot.ShownMark.{ShownMark}
use Rattle.curp_line.specs.declared.slot.MarkSlot.{MarkSlot}

-- ---- marks

-- no adoption has dropped the slot's mark
abbrev pub is_kept : MarkSlot → Bool
is_kept s = not s.dropped

-- the marks that aren't dropped, in the order of their coming
abbrev pub kept_marks : List MarkSlot → List Mark
kept_marks slots = map (λ s. s.mark) (filter is_kept slots)

-- the slot's mark is one of the request
abbrev pub is_of_request : RequestId → MarkSlot → Bool
is_of_request id s = same_id s.mark.id id

-- the slot's mark is one of the partition
abbrev pub is_of_part : ℕ → MarkSlot → Bool
is_of_part part s = s.mark.part == part

-- it is a mark by which a request has completed
abbrev pub is_completed : MarkSlot → Bool
is_completed s = is_kept s && s.mark.completed

-- the order shows the slot's mark
abbrev pub is_shown_slot : MarkSlot → Bool
is_shown_slot s = is_kept s && is_shown s.mark

-- the slot has a mark by which the request has completed
abbrev pub completes : RequestId → MarkSlot → Bool
completes id s = is_completed s && is_of_request id s

-- what the slot's mark is of, and where it stands
abbrev pub shown_of : MarkSlot → ShownMark
shown_of s = record { cuts_before = s.cuts_before; id = s.mark.id; command = s.mark.command }

-- what it is of
abbrev pub asked : ShownMark → RequestId × Command
asked s = (s.id, s.command)

-- ---- the order

-- those whose key is n, then those whose key is one more, and so on, so many times more
abbrev pub in_runs : {A : Type 0} → (A → ℕ) → ℕ → ℕ → List A → List A
in_runs key n zero xs = filter (λ x. key x == n) xs
in_runs key n (suc more) xs = filter (λ x. key x == n) xs ++ in_runs key (suc n) more xs

-- the marks that stand behind so many adoptions
abbrev pub marks_behind : ℕ → List MarkSlot → List Mark
marks_behind n slots = kept_marks (filter (λ s. s.cuts_before == n) slots)

-- the marks behind so many adoptions, then the mark of the next one, and so on: what came late stands before it
abbrev pub marks_from : ℕ → List Cut → List MarkSlot → List Mark
marks_from n [] slots = marks_behind n slots
marks_from n (c ∷ cuts) slots = marks_behind n slots ++ mark_of c ∷ marks_from (suc n) cuts slots

-- it stands behind so many adoptions at most, and is the slot of a request's mark
pub record StandsWithin (cuts : ℕ) (s : MarkSlot) : Type 0 where
  pub within : s.cuts_before ≤ cuts
  pub of_request : is_cut s.mark.place ≡ false

-- ---- places

-- one place further, or the first one, or none
abbrev pub place_after : Bool → Option ℕ → Option ℕ
place_after here (Some k) = Some (suc k)
place_after here None = if here then Some 0 else None

-- the last place of what passes a test
abbrev pub last_place : {A : Type 0} → (A → Bool) → List A → Option ℕ
last_place p [] = None
last_place p (x ∷ xs) = place_after (p x) (last_place p xs)

-- each slot tells the last one before it that is of its request
abbrev pub RequestsLinked : List MarkSlot → Type 0
RequestsLinked slots = (k : ℕ) (s : MarkSlot) → At slots k s → s.earlier_of_request ≡ last_place (is_of_request s.mark.id) (take k slots)

-- each slot tells the last one before it that is of its partition
abbrev pub PartsLinked : List MarkSlot → Type 0
PartsLinked slots = (k : ℕ) (s : MarkSlot) → At slots k s → s.earlier_of_part ≡ last_place (is_of_part s.mark.part) (take k slots)

-- the last slots of each request and of each partition are known, and from them the others
pub record IsLinked (of_request : RequestId → Option ℕ) (of_part : ℕ → Option ℕ) (slots : List MarkSlot) : Type 0 where
  pub requests : RequestsLinked slots
  pub parts : PartsLinked slots
  pub latest_of_request : (id : RequestId) → of_request id ≡ last_place (is_of_request id) slots
  pub latest_of_part : (part : ℕ) → of_part part ≡ last_place (is_of_part part) slots

-- ---- what happens to slots

-- one more slot, with a mark that stands behind so many adoptions
abbrev pub with_slot : Mark → ℕ → List MarkSlot → List MarkSlot
with_slot mark cuts_before slots = slots ++ record {
  mark = mark;
  cuts_before = cuts_before;
  dropped = false;
  earlier_of_request = last_place (is_of_request mark.id) slots;
  earlier_of_part = last_place (is_of_part mark.part) slots;
} ∷ []

-- a completion flags the slot's mark, if it is meant
abbrev pub flagged_slot : Completed → MarkSlot → MarkSlot
flagged_slot c s = if is_flagged c c.by s.mark then record s { mark = record s.mark { completed = true } } else s

-- an adoption drops the slot's mark, if it goes
abbrev pub dropped_slot : ℕ → ℕ → MarkSlot → MarkSlot
dropped_slot part cut s = if is_dropped part cut s.mark then record s { dropped = true } else s
