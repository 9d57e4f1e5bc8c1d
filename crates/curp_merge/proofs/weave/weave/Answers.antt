use Rattle.std.proofs.Common.{ℕ, List, length, ap, ◌∙◌, subst}
use Rattle.std.proofs.lemmas.List.{length-replicate}
use Rattle.curp_merge.specs.Weaving.{NoneLeft}
use Rattle.curp_merge.proofs.Growth.{woven_none, woven_whole}
use Rattle.curp_merge.proofs.weave.weave.Goals as goal

pub loop-at-init : goal.loop-at-init
loop-at-init c =
    let journals = c.args.strands.now in
    let rows = c.in_ok-tracks.tracks.items in
    let empty = c.in_ok-tracks.ensures in
    record {
      lengths = ap (λ (rs : List (List ℕ)). length rs) empty ∙ length-replicate (length journals) _;
      woven = rw c.new-steps.ensures.items (woven_none journals rows empty);
    }

pub returns : goal.returns
returns c =
    woven_whole c.args.strands.now c.loop-at.tracks.items c.loop-at.steps.items c.loop-at.next c.loop-at.invariant.woven c.loop-at.invariant.lengths
    (subst (λ (rs : List (List ℕ)). NoneLeft c.args.strands.now rs) c.deref.ensures.value c.in_default.ensures.none)
