use Rattle.std.proofs.Common.{◌+◌, sym, subst}
use Rattle.curp_durable.specs.Opening.{FindsBatch, WalkedOver}
use Rattle.curp_durable.proofs.Walking.{over_on, over_starts}
use Rattle.curp_durable.proofs.opening.collect.Goals as goal

pub commits-init : goal.commits-init
commits-init c =
    let content = c.args.content.now in
    let title = c.args.title.now in
    subst (WalkedOver content title _) (sym c.new-inputs.ensures.items) (over_starts content title c.requires.starts)

pub commits-preserved : goal.commits-preserved
commits-preserved c =
    let content = c.args.content.now in
    let title = c.args.title.now in
    let found = c.in-Some.found in
    let finds = subst (FindsBatch content c.commits.commit) c.in-Some.is c.in_ok-found.ensures.ok in
    subst (λ n. WalkedOver content title n c.append.new.self.items) (sym finds.2)
    (subst (WalkedOver content title (c.commits.commit + finds.0)) (sym c.in_ok-append-in-Some.ensures.items) (over_on content title c.commits.commit c.commits.inputs.items c.commits.invariant found.batch.items finds.0 finds.1))
