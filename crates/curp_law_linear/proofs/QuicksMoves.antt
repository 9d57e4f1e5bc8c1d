-- Each move keeps what is kept of quick marks and adoptions.
use Rattle.std.proofs.Common.{◌≡◌, inl, inr, ℕ, true, false, List, [], ◌∷◌, ◌++◌, length, Some, None, refl, ap, sym, ◌∙◌, subst, arith}
use Rattle.curp_base.specs.Words.{At}
use Rattle.curp_base.proofs.Lists.{at_append_cases, at_one}
use Rattle.curp_cmd.specs.Hash.{touches}
use Rattle.curp_cmd.specs.declared.command.Command.{Command}
use Rattle.curp_cmd.specs.declared.entry.Entry.TheVariants.{Expire, Give, Op, Take}
use Rattle.curp_model.specs.Marks.{Mark, executed, is_cut, is_quick, looked, quick}
use Rattle.curp_law_linear.specs.Line.{AwayOk, IsFirm, LineState, LooksKept, OrderOk, Owned, QuickKept}
use Rattle.curp_law_linear.specs.Moves.{Adopts, Completes, ExpirePush, Fits, Flags, GivePush, GivenDone, Invokes, Lates, Look, LookFits, Looks, Migrates, LineMove, OpPush, Quicks, Strays, TakePush, Told, after, pushed, taken_by}
use Rattle.curp_law_linear.proofs.Given.{LogsOk, Pure}
use Rattle.curp_law_linear.proofs.Lates.{late_low}
use Rattle.curp_law_linear.proofs.QuicksAdopted.{quick_adopts}
use Rattle.curp_law_linear.proofs.QuicksKept.{quick_flag, quick_more, quick_push, quick_put, quick_stray, quick_tell}
use Rattle.curp_law_linear.proofs.ToldTakes.{told_behind}
use Rattle.curp_law_linear.proofs.Completions.{hits_no_cut}

-- what is uncompleted before a look's place on an owned hash, elsewhere, has a told take
pub end_away : (s : LineState) → LogsOk s.parts → OrderOk s → Owned s.moving s.parts → LooksKept s → (o : Look) → LookFits s o → (more : List Mark) (h : ℕ) → touches o.command h ≡ true
    → AwayOk s.parts s.told (s.marks ++ more) (length s.marks) o.part h
end_away s logs ok below k o fits more h t i index u hk lt at waits tu ne =
    let old : At s.marks i u = was hk in
    let w = ok.waiting i index u old at waits in
    let tw : touches w.request.command h ≡ true = ap (λ (c : Command). touches c h) w.its_command ∙ tu in
    (w.p, w.here, told_behind s k.takes below o.part o.p fits.here u.part index h w.acknowledged w.p w.request ne w.here (logs.is_log u.part w.p w.here) w.stands tw (fits.owned h t))
  where
    was : At (s.marks ++ more) i u → At s.marks i u
    was h = elim (at_append_cases s.marks more i u h) [ inl old ↦ old | inr g ↦ absurd (omega (arith, g.1, lt)) ]

module _ (pure : Pure) where
  -- each move keeps it
  pub quicks_keep : (s : LineState) (m : LineMove) → Fits s m → LogsOk s.parts → OrderOk s → Owned s.moving s.parts → LooksKept s → QuickKept s.parts s.told s.left s.marks
      → QuickKept (after s m).parts (after s m).told (after s m).left (after s m).marks
  quicks_keep s (OpPush o) fits logs ok below k q =
      quick_more (pushed s.parts o.part o.p (Op o.request o.acknowledged)) s.told s.left s.marks (executed o.node o.part o.epoch (length o.p.log) o.request.id o.request.command ∷ [])
      (λ i m h. ap (λ (y : Mark). is_cut y.place) (sym (at_one _ i m h).1))
      (λ i number h m hm is t. absurd (let bad : false ≡ true = ap (λ (y : Mark). is_quick y.place) (at_one _ i m hm).1 ∙ ap is_quick is in cc))
      (quick_push s.parts o.part o.p (Op o.request o.acknowledged) fits.here s.told s.left s.marks q)
  quicks_keep s (TakePush o) fits logs ok below k q = quick_push s.parts o.part o.p (Take o.m.number (taken_by o)) fits.here s.told s.left s.marks q
  quicks_keep s (GivePush o) fits logs ok below k q = quick_push s.parts o.part o.p (Give o.m.number o.brought) fits.here s.told s.left s.marks q
  quicks_keep s (ExpirePush o) fits logs ok below k q = quick_push s.parts o.part o.p (Expire o.client) fits.here s.told s.left s.marks q
  quicks_keep s (Told number) fits logs ok below k q = quick_tell s.parts s.told number s.left s.marks q
  quicks_keep s (Migrates m) fits logs ok below k q = q
  quicks_keep s (GivenDone m) fits logs ok below k q = q
  quicks_keep s (Invokes id command) fits logs ok below k q = q
  quicks_keep s (Completes id a) fits logs ok below k q = quick_flag s.parts s.told s.left (record { id = id; answer = a; by = None }) s.marks (λ i m h is y. hits_no_cut (record { id = id; answer = a; by = None }) None m is y) q
  quicks_keep s (Looks o) fits logs ok below k q =
      quick_more s.parts s.told s.left s.marks (looked o.node o.part o.epoch o.capture (length o.p.log) o.id o.command ∷ [])
      (λ i m h. ap (λ (y : Mark). is_cut y.place) (sym (at_one _ i m h).1))
      (λ i number h m hm is t. absurd (let bad : false ≡ true = ap (λ (y : Mark). is_quick y.place) (at_one _ i m hm).1 ∙ ap is_quick is in cc)) q
  quicks_keep s (Flags by id a) fits logs ok below k q =
      quick_flag s.parts s.told s.left (record { id = id; answer = a; by = Some by }) s.marks (λ i m h is y. hits_no_cut (record { id = id; answer = a; by = Some by }) (Some by) m is y) q
  quicks_keep s (Adopts o) fits logs ok below k q = quick_adopts pure s ok below k.takes logs o fits q
  quicks_keep s (Quicks o) fits logs ok below k q =
      quick_more s.parts s.told s.left s.marks (quick o.node o.part o.epoch o.capture o.id o.command ∷ [])
      (λ i m h. ap (λ (y : Mark). is_cut y.place) (sym (at_one _ i m h).1))
      (λ i number h m hm is t.
      let l = at_one _ i m hm in
      let t2 : touches o.command h ≡ true = ap (λ (y : Mark). touches y.command h) l.1 ∙ t in
      let a = end_away s logs ok below k o fits (quick o.node o.part o.epoch o.capture o.id o.command ∷ []) h t2 in
      subst (λ (x : ℕ). AwayOk s.parts s.told (s.marks ++ quick o.node o.part o.epoch o.capture o.id o.command ∷ []) x m.part h) (omega (arith, l.0))
      (subst (λ (x : ℕ). AwayOk s.parts s.told (s.marks ++ quick o.node o.part o.epoch o.capture o.id o.command ∷ []) (length s.marks) x h) (ap (λ (y : Mark). y.part) l.1) a)) q
  quicks_keep s (Lates o) fits logs ok below k q =
      quick_put s.parts s.told s.left s.marks (quick o.node o.part o.epoch o.capture o.id o.command) o.capture refl o.place (late_low s ok o fits)
      (λ h t. subst (λ (x : ℕ). AwayOk s.parts s.told s.marks o.place x h) fits.its_part
      (q.cuts o.place o.number fits.long h fits.mark fits.stands fits.is_cut (subst (λ (x : ℕ). IsFirm (s.left x o.number) h) (sym fits.its_part) (fits.firm h t)))) q
  quicks_keep s (Strays part number more) fits logs ok below k q = quick_stray s.parts s.told s.left s.marks part number more q
