use Rattle.std.proofs.Common.{◌≡◌, ℕ, List, [], ◌∷◌, ◌++◌, ap, sym, ◌∙◌, arith}
use Rattle.curp_merge.proofs.Readiness.{fewer, is_ready, is_within, is_woven, row_within}
use Rattle.curp_merge.proofs.Scanning.{read_again}
use Rattle.curp_merge.proofs.weave.take_one.Goals as goal

pub next_step-requires-clause-ready : goal.next_step-requires-clause-ready
next_step-requires-clause-ready c =
    is_ready c.args.strands.now c.args.tracks.now c.args.at c.requires.due c.index-strands-at.result c.index-tracks-at.result c.index-strands-at.is c.index-tracks-at.is
    c.args.steps.now.items c.args.next c.requires.are c.requires.woven c.len-taken.result c.len-taken.ensures c.requires.held c.requires.lengths (omega arith)

pub bounds-tracks-at-2 : goal.bounds-tracks-at-2
bounds-tracks-at-2 c = row_within c.args.strands.now c.args.tracks.now c.args.at c.requires.due c.index-strands-at.result c.index-tracks-at.result c.index-strands-at.is c.index-tracks-at.is

pub overflow_add-result : goal.overflow_add-result
overflow_add-result c =
    let most = is_within c.args.strands.now c.args.tracks.now c.args.at c.requires.due c.index-strands-at.result c.index-tracks-at.result c.index-strands-at.is c.index-tracks-at.is
    c.args.steps.now.items c.args.next c.requires.are c.requires.woven c.len-taken.result c.len-taken.ensures c.in_ok-made.made.sent c.in_ok-made.ensures.sent in
    omega (arith, most, c.requires.light)

pub returns-clause-woven : goal.returns-clause-woven
returns-clause-woven c =
    let row = c.index-tracks-at.result in
    let again : c.index-tracks-at-2.result ≡ row = read_again c.args.tracks.now c.args.at row c.index-tracks-at-2.result (row_within c.args.strands.now c.args.tracks.now c.args.at c.requires.due c.index-strands-at.result row c.index-strands-at.is c.index-tracks-at.is) c.index-tracks-at.is c.index-tracks-at-2.is in
    let pushed : c.push-2.new.self ≡ row ++ c.args.next ∷ [] = c.in_ok-push-2.ensures.ok ∙ ap (λ (r : List ℕ). r ++ c.args.next ∷ []) (sym c.index-tracks-at-2.is ∙ again) in
    let woven = is_woven c.args.strands.now c.args.tracks.now c.args.at c.requires.due c.index-strands-at.result row c.index-strands-at.is c.index-tracks-at.is
    c.args.steps.now.items c.args.next c.requires.are c.requires.woven c.len-taken.result c.len-taken.ensures c.in_ok-made.made.sent c.in_ok-made.ensures.sent
    c.requires.held c.requires.lengths (omega arith) c.in_ok-made.made.step c.in_ok-made.ensures.step c.in_ok-made.ensures.names in
    rw (pushed, c.in_ok-push.ensures.items) woven

pub returns-clause-less : goal.returns-clause-less
returns-clause-less c =
    let row = c.index-tracks-at-2.result in
    let pushed : c.push-2.new.self ≡ row ++ c.args.next ∷ [] = c.in_ok-push-2.ensures.ok ∙ ap (λ (r : List ℕ). r ++ c.args.next ∷ []) (sym c.index-tracks-at-2.is) in
    rw pushed (fewer c.args.strands.now c.args.tracks.now c.args.at c.requires.due c.index-strands-at.result row c.index-strands-at.is c.index-tracks-at-2.is c.args.next)
