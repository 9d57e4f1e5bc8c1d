-- A read that is answered at once, from its answer to its completion, through lists of moves.
use Rattle.std.proofs.Common.{◌≡◌, ◌+◌, ℕ, List, [], ◌∷◌, sym, subst}
use Rattle.curp_base.specs.Words.{At}
use Rattle.curp_base.proofs.Lists.{at_append}
use Rattle.curp_cmd.specs.declared.command.Answer.{Answer}
use Rattle.curp_cmd.specs.declared.command.Command.{Command}
use Rattle.curp_cmd.specs.declared.command.RequestId.{RequestId}
use Rattle.curp_order.specs.declared.Event.{Event}
use Rattle.curp_order.specs.declared.Event.TheVariants.{Invoke}
use Rattle.curp_msg.specs.declared.machine.Capture.{Capture}
use Rattle.curp_law_kept.specs.GivesFit.{GivesWithin}
use Rattle.curp_law_linear.specs.Given.{LogsOk}
use Rattle.curp_law_linear.specs.Laws.{by_late, by_look, left_answer}
use Rattle.curp_law_linear.specs.Line.{CutEarly, LineState, LineOk, QuickEarly, WasInvoked}
use Rattle.curp_model.specs.Marks.{adoptions}
use Rattle.curp_law_linear.specs.Moves.{Adopt, AdoptFits, Adopts, AllFit, Late, LateFits, Lates, Look, LookFits, LineMove, Quicks, adopting, after, all_after, late_quickly, quickly}
use Rattle.curp_model.specs.Log.{answer_after}
use Rattle.curp_law_linear.proofs.Discharged.{pure, second}
use Rattle.curp_law_linear.proofs.Keeps.{all_keep, keeps}
use Rattle.curp_law_linear.proofs.QuickBegins.{cut_early_begins, late_early_whole, quick_early}
use Rattle.curp_law_linear.proofs.QuickLaws.{cut_early_stays, early_stays, history_more}

invoked_later : (s : LineState) (m : LineMove) (id : RequestId) (command : Command) → WasInvoked s.history id command → WasInvoked (after s m).history id command
invoked_later s m id command w =
    let h = history_more s m in
    record { event = w.event; stands = subst (λ (l : List Event). At l w.event (Invoke id command)) (sym h.1) (at_append s.history h.0 w.event _ w.stands) }

-- an early read stays so through a list of moves
pub early_on : (ms : List LineMove) (s : LineState) → AllFit LogsOk s ms → LineOk s → (by : Capture) (part : ℕ) (id : RequestId) (a : Answer) → QuickEarly s by part id a → QuickEarly (all_after s ms) by part id a
early_on [] s fits ok by part id a q = q
early_on (m ∷ ms) s fits ok by part id a q = early_on ms (after s m) fits.2 (keeps pure second s m fits.0 fits.1 ok) by part id a (early_stays pure second s m fits.0 fits.1 ok by part id a q)

-- and so does what was invoked before an adoption
pub cut_early_on : (ms : List LineMove) (s : LineState) → AllFit LogsOk s ms → LineOk s → (part number : ℕ) (id : RequestId) (command : Command) → WasInvoked s.history id command → CutEarly s part number id command
    → CutEarly (all_after s ms) part number id command
cut_early_on [] s fits ok part number id command inv c = c
cut_early_on (m ∷ ms) s fits ok part number id command inv c =
    cut_early_on ms (after s m) fits.2 (keeps pure second s m fits.0 fits.1 ok) part number id command (invoked_later s m id command inv) (cut_early_stays pure second s m fits.0 fits.1 ok part number id command inv c)

-- a read that an adopted master answered
pub adopted_read : (s : LineState) (o : Look) → LookFits s o → LogsOk s.parts → LineOk s → (ms : List LineMove) → AllFit LogsOk (quickly s o) ms
    → QuickEarly (all_after (quickly s o) ms) (by_look o) o.part o.id (answer_after o.p.lo o.p.hi o.p.log o.command)
adopted_read s o fits logs ok ms all = early_on ms (quickly s o) all (keeps pure second s (Quicks o) fits logs ok) (by_look o) o.part o.id (answer_after o.p.lo o.p.hi o.p.log o.command) (quick_early pure second s o fits logs ok)

-- a read that was invoked before an adoption, and that the master answered which it superseded, some time later
pub late_read : (s : LineState) (o : Adopt) → AdoptFits s o → LogsOk s.parts → LineOk s → (first : List LineMove) → AllFit LogsOk (adopting s o) first
    → (l : Late) → l.part ≡ o.part → l.number ≡ adoptions o.part s.marks + 1 → WasInvoked s.history l.id l.command → LateFits (all_after (adopting s o) first) l
    → GivesWithin ((all_after (adopting s o) first).left l.part l.number).back → LogsOk (all_after (adopting s o) first).parts
    → (next : List LineMove) → AllFit LogsOk (late_quickly (all_after (adopting s o) first) l) next
    → QuickEarly (all_after (late_quickly (all_after (adopting s o) first) l) next) (by_late l) l.part l.id (left_answer (all_after (adopting s o) first) l)
late_read s o fits logs ok first all l part number inv late within later next rest =
    let ok_adopted : LineOk (adopting s o) = keeps pure second s (Adopts o) fits logs ok in
    let there : LineOk (all_after (adopting s o) first) = all_keep pure second first (adopting s o) all ok_adopted in
    let c : CutEarly (adopting s o) l.part l.number l.id l.command =
    subst (λ (p : ℕ). CutEarly (adopting s o) p l.number l.id l.command) (sym part) (subst (λ (n : ℕ). CutEarly (adopting s o) o.part n l.id l.command) (sym number) (cut_early_begins s o l.id l.command)) in
    let now = cut_early_on first (adopting s o) all ok_adopted l.part l.number l.id l.command inv c in
    early_on next (late_quickly (all_after (adopting s o) first) l) rest (keeps pure second (all_after (adopting s o) first) (Lates l) late later there) (by_late l) l.part l.id (left_answer (all_after (adopting s o) first) l)
    (late_early_whole pure (all_after (adopting s o) first) l late there within now)
