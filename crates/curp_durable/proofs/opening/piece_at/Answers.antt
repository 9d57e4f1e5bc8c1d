use Rattle.std.proofs.Common.{◌≡◌, ◌+◌, ◌-◌, ℕ, None, take, drop, refl, subst, arith}
use Rattle.curp_batches.specs.Batches.{IsBatchIn, IsEncoding}
use Rattle.curp_durable.proofs.Parsing.{none_found, none_encoded, record_found, some_encoded}
use Rattle.curp_durable.proofs.opening.piece_at.Goals as goal

pub returns-in-Some-clause-ok : goal.returns-in-Some-clause-ok
returns-in-Some-clause-ok c =
    let content = c.args.content.now in
    let commit = c.args.commit in
    let len = c.args.len in
    let so_many : commit + 5 + len - (commit + 5) ≡ len = omega arith in
    let read = some_encoded (λ batch. batch.items) _ c.in-Ok.read c.in-Some.batch c.in-Some.is c.in-Ok.ensures in
    let encodes = subst (λ (n : ℕ). IsEncoding c.in-Some.batch.items (take n (drop (commit + 5) content))) so_many read in
    (5 + len, record_found content commit len c.requires.finds c.in-Some.batch.items encodes, omega arith)

pub returns-in-None-clause-err : goal.returns-in-None-clause-err
returns-in-None-clause-err c =
    let content = c.args.content.now in
    let commit = c.args.commit in
    let len = c.args.len in
    let so_many : commit + 5 + len - (commit + 5) ≡ len = omega arith in
    let read = none_encoded (λ batch. batch.items) _ c.in-Ok.read c.in-None.is c.in-Ok.ensures in
    (none_found content commit len c.requires.finds (subst (λ (n : ℕ). IsBatchIn (take n (drop (commit + 5) content)) None) so_many read), refl)
