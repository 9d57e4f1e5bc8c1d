-- Steps that lead on, one after the other, or stop.
use Rattle.std.proofs.Common.{◌≡◌, ◌≤◌, ◌<◌, true, false, length, Option, Some, None, Result, Ok, Err, OnOk, ap, sym, ◌∙◌, subst, arith}
use Rattle.std.specs.Bool.{⊤}
use Rattle.curp_base.specs.declared.failed.Failed.{Failed}
use Rattle.curp_base.specs.declared.failed.Failed.TheVariants as failed
use Rattle.curp_base.specs.Words.{IsPrefix}
use Rattle.curp_base.proofs.Lists.{prefix_self, prefix_trans}
use Rattle.curp_msg.specs.declared.script.Step.{Step}
use Rattle.curp_law_served.specs.Served.{Limit, Served, after_all, and_then, delivers, is_busy, most_steps, quiets, quiets_in, with_quieting}
use Rattle.curp_serve.specs.Ended.{Ended, Led}
use Rattle.curp_serve.specs.declared.stepper.Stop.{Stop}
use Rattle.curp_serve.specs.declared.stepper.Stop.TheVariants as stop
use Rattle.curp_serve.proofs.Going.{quieting_goes, quieting_longer, quiets_in_goes}
use Rattle.curp_serve.proofs.Quieting.{quiets_first, quiets_none, quiets_on}

runs : (t : Served) (next : Served → Served) → t.stopped ≡ None → and_then t next ≡ next t
runs t next free = ap (λ (o : Option Limit). after_all o t next) free

stands : (t : Served) (next : Served → Served) (why : Limit) → t.stopped ≡ Some why → and_then t next ≡ t
stands t next why e = ap (λ (o : Option Limit). after_all o t next) e

-- what comes next has led on
pub led_on : {old mid new : Served} {r : Result ⊤ (Failed Stop)} (t : Served) (next : Served → Served) → Led (Ok tt) old mid t
    → Led r mid new (next mid) → Led r old new (and_then t next)
led_on {new = new} {r = r} t next first rest = record {
  ended = subst (λ (k : Served). Ended r new k) (ap next first.ended.0 ∙ sym (runs t next first.ended.1)) rest.ended;
  grows = prefix_trans first.grows rest.grows;
}

-- whatever comes next, no step is gone
abbrev pub Grows : (Served → Served) → Type 0
Grows next = (u : Served) → IsPrefix u.steps (next u).steps

then_grows : (t : Served) (next : Served → Served) → Grows next → IsPrefix t.steps (and_then t next).steps
then_grows t next grows = by t.stopped
  where
    by : (o : Option Limit) → IsPrefix t.steps (after_all o t next).steps
    by None = grows t
    by (Some why) = prefix_self t.steps

-- or it has stopped before
stopped_before : {old new : Served} (why : Failed Stop) (t : Served) (next : Served → Served) → Grows next
    → Led (Err why) old new t → Led (Err why) old new (and_then t next)
stopped_before {new = new} why t next grows led = record { ended = by why led.ended; grows = led.grows }
  where
    by : (why : Failed Stop) → Ended (Err why) new t → Ended (Err why) new (and_then t next)
    by (failed.Because stop.TooManySteps) e = e ∙ sym (stands t next _ (sym (ap (λ (k : Served). k.stopped) e)))
    by (failed.Because (stop.TooLarge weight)) e = e ∙ sym (stands t next _ (sym (ap (λ (k : Served). k.stopped) e)))
    by failed.NoMemory e = prefix_trans e (then_grows t next grows)

pub led_stop : {old new : Served} (r : Result ⊤ (Failed Stop)) (why : Failed Stop) → r ≡ Err why → (t : Served) (next : Served → Served)
    → Grows next → Led (Err why) old new t → Led r old new (and_then t next)
led_stop {old = old} {new = new} r why is t next grows led =
    subst (λ (k : Result ⊤ (Failed Stop)). Led k old new (and_then t next)) (sym is) (stopped_before why t next grows led)

-- behind a step and all deliveries there are more steps than commands
pub longer_on : (made : Step) (s new : Served) (r : Result ⊤ (Failed Stop)) → s.commands ≤ length s.steps → Led r s new (with_quieting made s)
    → OnOk r (new.commands < length new.steps)
longer_on made s new (Err why) few led = tt
longer_on made s new (Ok _) few led =
    let same = quieting_goes made s in
    let longer = quieting_longer made s led.ended.1 in
    subst (λ (t : Served). t.commands < length t.steps) (sym led.ended.0) (let one = same.commands in omega (arith, few, one, longer))

-- without memory for the first step nothing has changed
pub led_nowhere : (s next : Served) (r : Result ⊤ (Failed Stop)) → r ≡ Err failed.NoMemory → IsPrefix s.steps next.steps → Led r s s next
led_nowhere s next r is prefix = subst (λ (r : Result ⊤ (Failed Stop)). Led r s s next) (sym is) (record { ended = prefix; grows = prefix_self s.steps })

-- ---- deliveries

-- where none is left, that is all
pub led_none : (old new : Served) → quiets new ≡ quiets old → IsPrefix old.steps new.steps → is_busy new ≡ false → new.stopped ≡ None
    → Led (Ok tt) old new (quiets old)
led_none old new same grows idle free =
    let none = quiets_none new idle in
    record { ended = (sym none ∙ same, subst (λ (t : Served). t.stopped ≡ None) (sym none ∙ same) free); grows = grows }

-- one more has come
pub led_more : (old mid new : Served) → quiets mid ≡ quiets old → is_busy mid ≡ true → length mid.steps ≤ most_steps
    → Led (Ok tt) mid new (delivers mid) → quiets new ≡ quiets old
led_more old mid new same busy few led = ap quiets led.ended.0 ∙ quiets_on mid busy few led.ended.1 ∙ same

-- the next one has stopped it
pub led_last : (old mid new : Served) (r : Result ⊤ (Failed Stop)) (why : Failed Stop) → r ≡ Err why → quiets mid ≡ quiets old
    → IsPrefix old.steps mid.steps → is_busy mid ≡ true → Led (Err why) mid new (delivers mid) → Led r old new (quiets old)
led_last old mid new r why is same grows busy led =
    let all = led_stop r why is (delivers mid) (quiets_in most_steps) (λ u. (quiets_in_goes most_steps u).steps) led in
    record {
      ended = subst (λ (t : Served). Ended r new t) (sym (quiets_first mid busy) ∙ same) all.ended;
      grows = prefix_trans grows led.grows;
    }
