use Rattle.std.proofs.Common.{◌≡◌, ◌+◌, ◌∙◌, subst, arith}
use Rattle.curp_durable.specs.Opening.{WalkedBy}
use Rattle.curp_durable.proofs.opening.resume.Goals as goal

pub returns-in-Ok-clause-err : goal.returns-in-Ok-clause-err
returns-in-Ok-clause-err g c = λ title opening told w.
    let content = g.D.Disk.seen c.args.disk.now in
    let place : c.args.commit ≡ c.args.commit + 0 = omega arith in
    c.go_on.ensures.err content title opening (record {
      rest = c.deref.ensures.value ∙ c.in-Ok.ensures.bytes told;
      by = subst (λ n. WalkedBy g.N.Core.machine content title opening n c.args.stand) place w;
    })
