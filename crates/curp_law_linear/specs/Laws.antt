-- The laws of quick marks, as statements.
use Rattle.std.specs.Prelude.{◌≡◌, ◌⊎◌, ◌||◌, ◌≤◌, ◌<◌, ◌+◌, ℕ, false, true, List, [], ◌∷◌, ◌++◌, drop}
use Rattle.std.specs.List.{list_any}
use Rattle.curp_base.specs.Words.{At}
use Rattle.curp_cmd.specs.Hash.{touches}
use Rattle.curp_cmd.specs.declared.command.Answer.{Answer}
use Rattle.curp_cmd.specs.declared.command.RequestId.{RequestId}
use Rattle.curp_cmd.specs.declared.entry.Entry.{Entry}
use Rattle.curp_msg.specs.declared.machine.Capture.{Capture}
use Rattle.curp_model.specs.Log.{answer_after, entry_touches}
use Rattle.curp_law_kept.specs.GivesFit.{GivesWithin}
use Rattle.curp_model.specs.Marks.{Mark, adoptions, is_cut, is_quick, put_at}
use Rattle.curp_law_linear.specs.Line.{CutAt, CutEarly, IsCompleted, LineState, LineOk, QuickEarly, QuickGives, QuickLow, WasInvoked}
use Rattle.curp_law_linear.specs.Moved.{Came, IsNew, MarkMoved}
use Rattle.curp_law_linear.specs.Moves.{Adopt, AdoptFits, AllFit, Fits, FlagFits, Late, LateFits, Look, LookFits, LineMove, adopting, after, all_after, flags_mark, late_quickly, put_before, quickly}
use Rattle.curp_law_linear.specs.Given.{LogsOk}

-- the capture of a read that is answered at once
abbrev pub by_look : Look → Capture
by_look o = record { master = o.node; epoch = o.epoch; number = o.capture }

abbrev pub by_late : Late → Capture
by_late o = record { master = o.node; epoch = o.epoch; number = o.capture }

-- what a superseded log gives
abbrev pub left_answer : LineState → Late → Answer
left_answer s o =
    let l = s.left o.part o.number in
    answer_after l.prefix.lo l.prefix.hi (l.prefix.log ++ l.back) o.command

-- at an adopted master: it gives what the log gives, nothing stands behind it, and what is uncompleted before it stands low
pub record Begun (s : LineState) (o : Look) : Type 0 where
  pub early : QuickEarly (quickly s o) (by_look o) o.part o.id (answer_after o.p.lo o.p.hi o.p.log o.command)
  pub low : (long : ℕ) → ((h : ℕ) → touches o.command h ≡ true
      → list_any (λ (e : Entry). entry_touches e h) (drop long o.p.log) ≡ false)
      → QuickLow (quickly s o).marks (by_look o) o.part long o.id

abbrev pub QuickBegins : Type 0
QuickBegins = (s : LineState) (o : Look) → LookFits s o → LogsOk s.parts → LineOk s → Begun s o

-- at a superseded one: it gives what the superseded log gives, and what is uncompleted before it stands in the recovered prefix
pub record LateBegun (s : LineState) (o : Late) (fits : LateFits s o) : Type 0 where
  pub gives : QuickGives (late_quickly s o).marks (by_late o) o.part o.id (left_answer s o)
  pub low : QuickLow (late_quickly s o).marks (by_late o) o.part fits.long o.id

abbrev pub LateGives : Type 0
LateGives = (s : LineState) (o : Late) → (fits : LateFits s o) → GivesWithin (s.left o.part o.number).back → LineOk s
    → LateBegun s o fits

-- a request that was invoked before the adoption, in time, is early at it
abbrev pub LateEarly : Type 0
LateEarly = (s : LineState) (o : Late) → LateFits s o → GivesWithin (s.left o.part o.number).back → LineOk s
    → CutEarly s o.part o.number o.id o.command → QuickEarly (late_quickly s o) (by_late o) o.part o.id (left_answer s o)

-- through each move a quick mark gives what it gave, and stays early where it was
pub record Lasting (s : LineState) (m : LineMove) : Type 0 where
  pub gives : (by : Capture) (part : ℕ) (id : RequestId) (a : Answer) → QuickGives s.marks by part id a
      → QuickGives (after s m).marks by part id a
  pub early : (by : Capture) (part : ℕ) (id : RequestId) (a : Answer) → QuickEarly s by part id a
      → QuickEarly (after s m) by part id a

abbrev pub QuickLasts : Type 0
QuickLasts = (s : LineState) (m : LineMove) → Fits s m → LogsOk s.parts → LineOk s → Lasting s m

-- and what is uncompleted before it stays low
abbrev pub KeepsLow : Type 0
KeepsLow = (s : LineState) (m : LineMove) → Fits s m → LogsOk s.parts → LineOk s → (by : Capture) (part long : ℕ) (id : RequestId)
    → QuickLow s.marks by part long id → QuickLow (after s m).marks by part long id

-- ---- from the answer to the completion

-- a read that an adopted master answered at once is early and gives what it gave, whatever moves come behind
abbrev pub AdoptedReads : Type 0
AdoptedReads = (s : LineState) (o : Look) → LookFits s o → LogsOk s.parts → LineOk s → (ms : List LineMove)
    → AllFit LogsOk (quickly s o) ms
    → QuickEarly (all_after (quickly s o) ms) (by_look o) o.part o.id (answer_after o.p.lo o.p.hi o.p.log o.command)

-- So is one that was invoked before an adoption, and that the master answered which it superseded, some moves later
abbrev pub LateReads : Type 0
LateReads = (s : LineState) (o : Adopt) → AdoptFits s o → LogsOk s.parts → LineOk s → (first : List LineMove)
    → AllFit LogsOk (adopting s o) first
    → (l : Late) → l.part ≡ o.part → l.number ≡ adoptions o.part s.marks + 1 → WasInvoked s.history l.id l.command
    → LateFits (all_after (adopting s o) first) l
    → GivesWithin ((all_after (adopting s o) first).left l.part l.number).back → LogsOk (all_after (adopting s o) first).parts
    → (next : List LineMove) → AllFit LogsOk (late_quickly (all_after (adopting s o) first) l) next
    → QuickEarly (all_after (late_quickly (all_after (adopting s o) first) l) next) (by_late l) l.part l.id
    (left_answer (all_after (adopting s o) first) l)

-- and then the read may complete by it, once, where no other mark is hit
abbrev pub ReadsFit : Type 0
ReadsFit = (s : LineState) (by : Capture) (part : ℕ) (id : RequestId) (a : Answer) (q : QuickEarly s by part id a)
    → ((k : ℕ) (o : Mark) → At s.marks k o → flags_mark by id a o ≡ true → k ≡ q.its.place)
    → (IsCompleted s.history id → ⊥) → FlagFits s by id a

-- ---- by the number of an adoption

-- each adoption has its mark, and to come before it by its number is to come before its place
pub record ByNumber (s : LineState) (part number : ℕ) : Type 0 where
  pub at : CutAt s.marks part number
  pub same : (q : Mark) → put_at part number q s.marks ≡ put_before at.place q s.marks

abbrev pub CutsByNumber : Type 0
CutsByNumber = (s : LineState) → LineOk s → (part number : ℕ) → 1 ≤ number → number ≤ adoptions part s.marks → ByNumber s part number

-- and with the next number a mark comes to the end
abbrev pub NextAtEnd : Type 0
NextAtEnd = (s : LineState) → LineOk s → (part number : ℕ) → adoptions part s.marks < number → (q : Mark)
    → put_at part number q s.marks ≡ s.marks ++ q ∷ []

-- ---- marks through a move

-- back: each was there, or came with the move
abbrev pub MarksCome : Type 0
MarksCome = (s : LineState) (m : LineMove) → Fits s m → LogsOk s.parts → LineOk s → (k : ℕ) (x : Mark) → At (after s m).marks k x
    → Came s (after s m).marks k x ⊎ IsNew s m k x

-- forth: a quick mark and that of an adoption stay
abbrev pub MarksGo : Type 0
MarksGo = (s : LineState) (m : LineMove) → Fits s m → LogsOk s.parts → LineOk s → (place : ℕ) (x : Mark) → At s.marks place x
    → (is_quick x.place || is_cut x.place) ≡ true → MarkMoved s (after s m).marks place x
