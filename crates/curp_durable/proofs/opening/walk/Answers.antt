use Rattle.std.proofs.Common.{◌<◌, length, sym, subst}
use Rattle.curp_durable.specs.Opening.{FindsBatch, OpensNot, WalkedFrom}
use Rattle.curp_durable.proofs.Walking.{found_within, from_on, from_shut, from_stuck}
use Rattle.curp_durable.proofs.opening.walk.Goals as goal

pub commits-preserved-in-Ok : goal.commits-preserved-in-Ok
commits-preserved-in-Ok g c =
    let machine = g.N.Core.machine in
    let bytes = c.args.bytes.now in
    let l = c.commits in
    let batch = c.in-Ok-Some.found.batch.items in
    let finds = subst (FindsBatch bytes l.at) c.in-Ok-Some.field-0-is c.in-Ok-Some.ensures.ok in
    record {
      within = subst (λ n. n < length bytes) (sym finds.2) (found_within bytes l.at batch finds.0 finds.1);
      led = λ content title opening w.
          subst (λ n. WalkedFrom machine bytes c.args.base n c.step_all.new.self content title opening) (sym finds.2)
          (from_on machine bytes c.args.base l.at l.stand content title opening (l.invariant.led content title opening w) batch finds.0 c.step_all.new.self finds.1 c.in-Ok.ensures.state);
    }

pub returns-in-Ok-None-clause-ok : goal.returns-in-Ok-None-clause-ok
returns-in-Ok-None-clause-ok g c = λ content title opening w.
    let bytes = c.args.bytes.now in
    let l = c.commits in
    let finds = subst (FindsBatch bytes l.at) c.in-Ok-None.field-0-is c.in-Ok-None.ensures.ok in
    from_shut g.N.Core.machine bytes c.args.base l.at l.stand content title opening (l.invariant.led content title opening w) finds

pub returns-in-Err-clause-err : goal.returns-in-Err-clause-err
returns-in-Err-clause-err g c = λ content title opening w.
    let l = c.commits in
    subst (OpensNot content title) (sym c.error_at.ensures)
    (from_stuck g.N.Core.machine c.args.bytes.now c.args.base l.at l.stand content title opening (l.invariant.led content title opening w) c.in-Err.error c.in-Err.ensures.err)
