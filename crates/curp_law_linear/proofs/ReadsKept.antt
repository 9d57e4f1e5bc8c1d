-- Each move keeps what is kept of reads.
use Rattle.std.proofs.Common.{◌≡◌, ℕ, true, false, ◌++◌, length, Some, None, refl, ap, sym, ◌∙◌, subst}
use Rattle.curp_base.specs.Words.{At}
use Rattle.curp_base.proofs.Lists.{at_same}
use Rattle.curp_cmd.specs.declared.entry.Entry.TheVariants.{Expire, Give, Op, Take}
use Rattle.curp_model.specs.Marks.{Mark, executed, quick}
use Rattle.curp_law_linear.specs.Line.{LineState, LooksKept, LooksOk, OrderOk, Owned, QuickKept, answer_at}
use Rattle.curp_law_linear.specs.Moves.{Adopt, AdoptFits, Adopts, Completes, ExpirePush, Fits, Flags, GivePush, GivenDone, Invokes, Lates, Looks, Migrates, LineMove, OpPush, Quicks, Strays, TakePush, Told, after, ops, relogged, replayed_of, taken_by}
use Rattle.curp_law_linear.proofs.AdoptedMarks.{adopted_is, fresh_no_look, fresh_of}
use Rattle.curp_law_linear.proofs.Completions.{read_own, update_kind, update_own}
use Rattle.curp_law_linear.proofs.Given.{LogsOk, Pure}
use Rattle.curp_law_linear.proofs.LooksKept.{looks_adopt, looks_flag, looks_look, looks_more, looks_push, looks_put, looks_tell}
use Rattle.curp_law_linear.proofs.ToldTakes.{takes_adopt, takes_give, takes_given, takes_migrate, takes_push, takes_take, takes_tell, told_behind}
use Rattle.curp_law_linear.proofs.Values.{values_adopt, values_complete, values_invoke, values_more, values_put}

module _ (pure : Pure) where
  adopted_looks : (s : LineState) (o : Adopt) → AdoptFits s o → LogsOk s.parts → LooksOk s.parts s.told s.marks → LooksOk (relogged s.parts o.part o.p (o.stays ++ ops (replayed_of o))) s.told (after s (Adopts o)).marks
  adopted_looks s o fits logs looks =
      subst (LooksOk (relogged s.parts o.part o.p (o.stays ++ ops (replayed_of o))) s.told) (sym (adopted_is o.node o.part o.epoch (length o.stays) (replayed_of o) s.marks))
      (looks_adopt s looks o fits (logs.takes_once o.part o.p fits.here) (fresh_of o.node o.part o.epoch (length o.stays) (replayed_of o) s.marks) (λ k number long m h look.
      fresh_no_look o.node o.part o.epoch (length o.stays) (replayed_of o) s.marks k m h number long look))

  -- each move keeps what is kept of reads
  pub reads_keep : (s : LineState) (m : LineMove) → Fits s m → LogsOk s.parts → OrderOk s → Owned s.moving s.parts → OrderOk (after s m) → QuickKept s.parts s.told s.left s.marks → LooksKept s → LooksKept (after s m)
  reads_keep s (OpPush o) fits logs ok below now q k = record {
    looks = looks_more _ s.told s.marks (executed o.node o.part o.epoch (length o.p.log) o.request.id o.request.command) (λ number long is. absurd cc)
        (looks_push s.parts o.part o.p (Op o.request o.acknowledged) fits.here s.told s.marks k.looks);
    takes = takes_push s.parts s.moving s.told o.part o.p (Op o.request o.acknowledged) fits.here (λ number. refl) (λ number k is. absurd cc) k.takes;
    values = values_more s.marks s.history _ refl k.values;
  }
  reads_keep s (TakePush o) fits logs ok below now q k = record {
    looks = looks_push s.parts o.part o.p (Take o.m.number (taken_by o)) fits.here s.told s.marks k.looks;
    takes = takes_take s o fits k.takes;
    values = k.values;
  }
  reads_keep s (GivePush o) fits logs ok below now q k = record {
    looks = looks_push s.parts o.part o.p (Give o.m.number o.brought) fits.here s.told s.marks k.looks;
    takes = takes_give s o fits k.takes;
    values = k.values;
  }
  reads_keep s (ExpirePush o) fits logs ok below now q k = record {
    looks = looks_push s.parts o.part o.p (Expire o.client) fits.here s.told s.marks k.looks;
    takes = takes_push s.parts s.moving s.told o.part o.p (Expire o.client) fits.here (λ number. refl) (λ number k is. absurd cc) k.takes;
    values = k.values;
  }
  reads_keep s (Told number) fits logs ok below now q k = record { looks = looks_tell s.parts s.told number s.marks k.looks; takes = takes_tell s.parts s.moving s.told number k.takes; values = k.values }
  reads_keep s (Migrates m) fits logs ok below now q k = record { looks = k.looks; takes = takes_migrate s m fits k.takes; values = k.values }
  reads_keep s (GivenDone m) fits logs ok below now q k = record { looks = k.looks; takes = takes_given s m fits k.takes; values = k.values }
  reads_keep s (Invokes id command) fits logs ok below now q k = record { looks = k.looks; takes = k.takes; values = values_invoke s.marks s.history id command k.values }
  reads_keep s (Completes id a) fits logs ok below now q k = record {
    looks = looks_flag s.parts s.told (record { id = id; answer = a; by = None }) s.marks k.looks;
    takes = k.takes;
    values = values_complete s.marks s.history (record { id = id; answer = a; by = None }) ok.kinds now.kinds ok.flags fits.waits (λ m y. update_own s ok id a fits m y)
        (λ j m h look y. absurd (let e : true ≡ false = sym (update_kind s ok id a fits m y) ∙ look in cc)) k.values;
  }
  reads_keep s (Looks o) fits logs ok below now q k = record {
    looks = looks_look s ok o fits (λ n i h a q r ne hn hi t tc. told_behind s k.takes below o.part o.p fits.here n i h a q r ne hn (logs.is_log n q hn) hi t (fits.owned h tc)) k.looks;
    takes = k.takes;
    values = values_more s.marks s.history _ refl k.values;
  }
  reads_keep s (Flags by id a) fits logs ok below now q k = record {
    looks = looks_flag s.parts s.told (record { id = id; answer = a; by = Some by }) s.marks k.looks;
    takes = k.takes;
    values = values_complete s.marks s.history (record { id = id; answer = a; by = Some by }) ok.kinds now.kinds ok.flags fits.waits (λ m y. read_own s ok by id a fits m y)
        (λ j m h look y.
        let here : At s.marks fits.place m = subst (λ (i : ℕ). At s.marks i m) (fits.only j m h y) h in
        let same : fits.m ≡ m = at_same s.marks fits.place fits.m m fits.stands here in
        ap (λ (i : ℕ). answer_at s.marks i m.command) (fits.only j m h y) ∙ ap (λ (x : Mark). answer_at s.marks fits.place x.command) (sym same) ∙ fits.gives) k.values;
  }
  reads_keep s (Adopts o) fits logs ok below now q k = record {
    looks = adopted_looks s o fits logs k.looks;
    takes = takes_adopt s o fits k.takes;
    values = values_adopt pure s ok.kinds k.looks q.quicks o fits (logs.takes_once o.part o.p fits.here) s.history q.plain k.values;
  }
  reads_keep s (Quicks o) fits logs ok below now q k = record {
    looks = looks_more _ s.told s.marks (quick o.node o.part o.epoch o.capture o.id o.command) (λ number long is. absurd cc) k.looks;
    takes = k.takes;
    values = values_more s.marks s.history _ refl k.values;
  }
  reads_keep s (Lates o) fits logs ok below now q k = record {
    looks = looks_put s.parts s.told o.place (quick o.node o.part o.epoch o.capture o.id o.command) s.marks refl k.looks;
    takes = k.takes;
    values = values_put (quick o.node o.part o.epoch o.capture o.id o.command) refl o.place s.marks s.history k.values;
  }
  reads_keep s (Strays part number more) fits logs ok below now q k = record { looks = k.looks; takes = k.takes; values = k.values }
