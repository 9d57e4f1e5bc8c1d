-- Each move keeps the facts of the order of updates, and who owns what.
use Rattle.std.proofs.Common.{◌≡◌, ℕ, List, [], ◌∷◌, Some, refl, ap, sym, append-nil}
use Rattle.curp_base.specs.Words.{At, numbered}
use Rattle.curp_range.specs.Spans.{Span, is_owned}
use Rattle.curp_cmd.specs.declared.command.Request.{Request}
use Rattle.curp_cmd.specs.declared.entry.Entry.TheVariants.{Expire, Op, Take}
use Rattle.curp_model.specs.Laws.{clash}
use Rattle.curp_model.specs.Log.{meaning}
use Rattle.curp_model.specs.Recovery.{replays}
use Rattle.curp_model.proofs.Filters.{filter_apart}
use Rattle.curp_law_linear.specs.Hashes.{Part}
use Rattle.curp_law_linear.specs.Line.{LineState, OrderOk, Owned}
use Rattle.curp_law_linear.specs.Moves.{Adopt, AdoptFits, Adopts, Completes, ExpirePush, Fits, Flags, GivePush, GivenDone, Invokes, Lates, Looks, Migrates, LineMove, OpPush, Quicks, Strays, TakePush, Told, after, longer_left, replayed_of}
use Rattle.curp_law_linear.proofs.AdoptedOwners.{adopt_owned, replayed_alone}
use Rattle.curp_law_linear.proofs.Adoptions.{adopt_keeps}
use Rattle.curp_law_linear.proofs.Completions.{complete_keeps, flag_keeps}
use Rattle.curp_law_linear.proofs.Expiries.{expire_keeps, look_keeps, quick_keeps}
use Rattle.curp_law_linear.proofs.Given.{LogValue, LogsOk, Pure, Second}
use Rattle.curp_law_linear.proofs.GivePushes.{give_keeps}
use Rattle.curp_law_linear.proofs.Grounds.{adopt_ground}
use Rattle.curp_law_linear.proofs.Hashes.{owned_expire, owned_op}
use Rattle.curp_law_linear.proofs.Invocations.{invoke_keeps, left_keeps, tell_keeps}
use Rattle.curp_law_linear.proofs.Migrations.{given_keeps, migrate_keeps}
use Rattle.curp_law_linear.proofs.Ops.{op_keeps}
use Rattle.curp_law_linear.proofs.Owners.{give_owned, given_owned, migrate_owned, owned_alike, push_was, take_owned}
use Rattle.curp_law_linear.proofs.Takes.{take_keeps}
use Rattle.curp_law_linear.proofs.Lates.{late_keeps}

-- what is kept of the order of updates, and who owns what
pub record UpdatesOk (s : LineState) : Type 0 where
  pub order : OrderOk s
  pub owned : Owned s.moving s.parts

module _ (pure : Pure) (second : Second) where
  -- what a whole log has of its keys
  pub whole_value : (s : LineState) → LogsOk s.parts → (n : ℕ) (p : Part) → numbered s.parts n ≡ Some p → LogValue p
  whole_value s logs n p here = logs.values n p here p.log [] (append-nil p.log)

  adopt_line : (s : LineState) (o : Adopt) → AdoptFits s o → LogsOk s.parts → UpdatesOk s → UpdatesOk (after s (Adopts o))
  adopt_line s o fits logs ok =
      let later = adopt_owned s ok.owned o fits (logs.takes_once o.part o.p fits.here) in
      let alone : (j : ℕ) (q : Request) → At (replayed_of o) j q → _ = λ j q h.
      replayed_alone second o.p.lo o.p.hi o.stays (replayed_of o) j q (filter_apart (replays (meaning o.p.lo o.p.hi o.stays)) clash o.held fits.apart) h in
      let ground =
      adopt_ground s ok.owned o fits later (logs.is_log o.part o.p fits.here) (logs.gives_once o.part o.p fits.here) (logs.values o.part o.p fits.here o.stays o.goes (sym fits.is)) alone in
      record { order = adopt_keeps (record { pure = pure; line = s; facts = ok.order; owned = ok.owned; move = o; fits = fits; ground = ground; owned_after = later }); owned = later }

  -- each move keeps the facts of the order of updates, and who owns what
  pub updates_keep : (s : LineState) (m : LineMove) → Fits s m → LogsOk s.parts → UpdatesOk s → UpdatesOk (after s m)
  updates_keep s (OpPush o) fits logs ok = record {
    order = op_keeps pure s ok.order ok.owned (whole_value s logs) o fits;
    owned = owned_alike s.moving s.parts _ (push_was s.moving s.parts o.part o.p (Op o.request o.acknowledged) fits.here
        (λ h. ap (λ (spans : List Span). is_owned spans h) (owned_op o.p.lo o.p.hi o.p.log o.request o.acknowledged)) (λ number. refl) (λ number. refl)) ok.owned;
  }
  updates_keep s (TakePush o) fits logs ok = record { order = take_keeps s ok.order o fits; owned = take_owned s ok.owned o fits }
  updates_keep s (GivePush o) fits logs ok = record {
    order = give_keeps pure s ok.order o fits (logs.values o.m.source fits.way.source fits.way.its_source fits.way.before (Take o.m.number o.brought ∷ fits.way.after) (sym fits.way.taken));
    owned = give_owned s ok.owned o fits;
  }
  updates_keep s (ExpirePush o) fits logs ok = record {
    order = expire_keeps s ok.order o fits;
    owned = owned_alike s.moving s.parts _ (push_was s.moving s.parts o.part o.p (Expire o.client) fits.here
        (λ h. ap (λ (spans : List Span). is_owned spans h) (owned_expire o.p.lo o.p.hi o.p.log o.client)) (λ number. refl) (λ number. refl)) ok.owned;
  }
  updates_keep s (Told number) fits logs ok = record { order = tell_keeps s number ok.order; owned = ok.owned }
  updates_keep s (Migrates m) fits logs ok = record { order = migrate_keeps s ok.order m fits; owned = migrate_owned s m ok.owned fits }
  updates_keep s (GivenDone m) fits logs ok = record { order = given_keeps s ok.order ok.owned; owned = given_owned s.moving s.parts ok.owned }
  updates_keep s (Invokes id command) fits logs ok = record { order = invoke_keeps s ok.order id command fits; owned = ok.owned }
  updates_keep s (Completes id a) fits logs ok = record { order = complete_keeps s ok.order id a fits; owned = ok.owned }
  updates_keep s (Looks o) fits logs ok = record { order = look_keeps s ok.order o fits; owned = ok.owned }
  updates_keep s (Flags by id a) fits logs ok = record { order = flag_keeps s ok.order by id a fits; owned = ok.owned }
  updates_keep s (Adopts o) fits logs ok = adopt_line s o fits logs ok
  updates_keep s (Quicks o) fits logs ok = record { order = quick_keeps s ok.order o fits; owned = ok.owned }
  updates_keep s (Lates o) fits logs ok = record { order = late_keeps s ok.order o fits; owned = ok.owned }
  updates_keep s (Strays part number more) fits logs ok = record { order = left_keeps s (longer_left s.left part number more) ok.order; owned = ok.owned }
