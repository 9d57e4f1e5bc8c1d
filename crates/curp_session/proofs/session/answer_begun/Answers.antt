use Rattle.std.proofs.Common.{◌≡◌, ◌++◌, rules, true, List, ℕ, ap, subst}
use Rattle.curp_io.specs.Streams.{HoldsPart}
use Rattle.curp_session.specs.Answering.{aim_of, so_far}
use Rattle.curp_session.specs.Session.{fresh}
use Rattle.curp_serve.specs.Serving.{Serving}
use Rattle.curp_resp.specs.Next.{RequestsRead}
use Rattle.curp_session.proofs.Standing.{cut_by_writing, finishes_as, finishes_unopened, stands_at_first}
use Rattle.curp_session.proofs.Taken.{none_answered}
use Rattle.curp_session.proofs.session.answer_begun.Goals as goal

pub returns-in_err-write_opening-clause-finishes : goal.returns-in_err-write_opening-clause-finishes
returns-in_err-write_opening-clause-finishes g c = λ requests rest told d.
    let its = c.in_err-write_opening.ensures in
    let plan = c.args.plan.now in
    let stop = c.in_err-write_opening.field-0.0 in
    let old = g.K.Sink.held c.args.sink.now in
    let new = g.K.Sink.held c.write_opening.new.sink in
    finishes_as (aim_of plan requests rest (g.S.Source.left c.args.source.now) old) (g.K.Sink.tells c.args.sink.now) new c.from_residual.result stop c.from_residual.ensures.1
    (finishes_unopened plan requests rest (g.S.Source.left c.args.source.now) old new (g.K.Sink.tells c.args.sink.now) stop (cut_by_writing stop its.writing)
    (λ writes. subst (λ (f : ℕ). HoldsPart old new (so_far plan.output f (fresh f))) (ap (λ (s : Serving). s.f) c.requires.begun) (its.prefix writes)))

pub answers-init : goal.answers-init
answers-init g c =
    let plan = c.args.plan.now in
    let input = g.S.Source.left c.args.source.now in
    let old = g.K.Sink.held c.args.sink.now in
    let new = g.K.Sink.held c.write_opening.new.sink in
    let wrote : g.K.Sink.tells c.args.sink.now ≡ true → new ≡ old ++ so_far plan.output plan.f (fresh plan.f) =
    λ writes. subst (λ (f : ℕ). new ≡ old ++ so_far plan.output f (fresh f)) (ap (λ (s : Serving). s.f) c.requires.begun) (c.in_ok-write_opening.ensures.whole writes) in
    record {
      few = search rules;
      going = ap (λ (s : Serving). s.is_spent) c.requires.begun;
      reading = ap (λ (r : RequestsRead). r.failed) c.requires.fresh;
      f = ap (λ (s : Serving). s.f) c.requires.begun;
      every = ap (λ (s : Serving). s.every) c.requires.begun;
      source_tells = λ told. told;
      source_faults = search rules;
      sink_tells = search rules;
      sink_faults = search rules;
      stands = λ requests rest told d. rw (c.requires.begun, c.requires.fresh) (stands_at_first plan requests rest input old new (g.K.Sink.tells c.args.sink.now) d wrote);
      answered = λ told writes. rw (c.requires.begun, c.requires.fresh) (none_answered plan input old new (wrote writes));
    }
