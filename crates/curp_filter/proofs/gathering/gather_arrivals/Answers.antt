use Rattle.std.proofs.Common.{◌≡◌, ◌∷◌, ◌++◌, [], length, Some, IfSome, inl, ap, sym, subst, arith, length-append}
use Rattle.curp_base.proofs.Lists.{Each-append}
use Rattle.curp_base.specs.Words.{Each}
use Rattle.curp_filter.specs.Coming.{Comes, arriving}
use Rattle.curp_filter.specs.Taking.{IsJudged, MayTake}
use Rattle.curp_filter.specs.declared.came.Came.TheVariants as came
use Rattle.curp_filter.proofs.Together.{came_all, came_behind, came_next}
use Rattle.curp_filter.proofs.gathering.gather_arrivals.Goals as goal

pub arrivals-preserved : goal.arrivals-preserved
arrivals-preserved c =
    let pushed = c.in_ok-push-in-Some-Arrived.ensures.items in
    let there : c.ready.result ≡ Some (came.Arrived c.in-Some-Arrived.next) = cc in
    let may : MayTake c.args.role c.args.count c.in-Some-Arrived.next = subst (λ r. IfSome r (IsJudged c.args.role c.args.count)) there c.ready.ensures.judged in
    record {
      came = λ bytes passed left before.
          subst (λ l. Comes (arriving l) bytes passed (c.ready.new.parcels.ahead ++ left) c.ready.new.parcels.passed) (sym pushed)
          (came_next c.arrivals.arrived.items bytes (c.arrivals.parcels.ahead ++ left) (c.ready.new.parcels.ahead ++ left) passed c.arrivals.parcels.passed c.ready.new.parcels.passed
          (c.arrivals.invariant.came bytes passed left before) c.ready.result (c.ready.ensures.came left) c.in-Some-Arrived.next there);
      each = subst (λ l. Each (MayTake c.args.role c.args.count) l) (sym pushed)
          (Each-append (MayTake c.args.role c.args.count) c.arrivals.arrived.items (c.in-Some-Arrived.next ∷ []) c.arrivals.invariant.each (may, tt));
      more = omega (arith, c.arrivals.invariant.more, ap length pushed, length-append c.arrivals.arrived.items (c.in-Some-Arrived.next ∷ []));
    }

pub returns-in-Some-PassedOver-clause-gathers : goal.returns-in-Some-PassedOver-clause-gathers
returns-in-Some-PassedOver-clause-gathers c bytes passed left before =
    came_behind c.arrivals.arrived.items bytes (c.arrivals.parcels.ahead ++ left) (c.ready.new.parcels.ahead ++ left) passed c.arrivals.parcels.passed c.ready.new.parcels.passed
    (c.arrivals.invariant.came bytes passed left before) c.ready.result (c.ready.ensures.came left) c.in-Some-PassedOver.it cc

pub returns-in-Some-PassedOver-clause-judged : goal.returns-in-Some-PassedOver-clause-judged
returns-in-Some-PassedOver-clause-judged c =
    let there : c.ready.result ≡ Some (came.PassedOver c.in-Some-PassedOver.it) = cc in
    record {
      each = c.arrivals.invariant.each;
      passed_over = subst (λ r. IfSome r (IsJudged c.args.role c.args.count)) there c.ready.ensures.judged;
      one_alone = inl c.requires.begun;
    }

pub returns-in-None-clause-gathers : goal.returns-in-None-clause-gathers
returns-in-None-clause-gathers c bytes passed left before =
    came_all c.arrivals.arrived.items bytes (c.arrivals.parcels.ahead ++ left) (c.ready.new.parcels.ahead ++ left) passed c.arrivals.parcels.passed c.ready.new.parcels.passed
    (c.arrivals.invariant.came bytes passed left before) c.ready.result (c.ready.ensures.came left) cc

pub returns-in-None-clause-judged : goal.returns-in-None-clause-judged
returns-in-None-clause-judged c = record { each = c.arrivals.invariant.each; passed_over = tt; one_alone = inl c.requires.begun }
