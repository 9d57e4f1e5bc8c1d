use Rattle.std.proofs.Common.{◌≡◌, ◌∙◌, ℕ, List, ap, arith}
use Rattle.std.proofs.lemmas.List.{take_all}
use Rattle.std.specs.Cmp.Lexicographic.{slice_cmp}
use Rattle.std.specs.FinMap.Entries.{is_sorted-where_key}
use Rattle.std.specs.List.{filter}
use Rattle.std.specs.Ordering.{nat_cmp}
use Rattle.curp_cmd.specs.Hash.{hash_of}
use Rattle.curp_model.specs.Log.{is_pair_in}
use Rattle.curp_range.specs.Spans.{is_in}
use Rattle.curp_log.proofs.packing.pairs_in.Goals as goal

pub new-requires : goal.new-requires
new-requires c =
    let all = take_all c.loop-key.key-index c.args.pairs.now (omega arith) in
    let whole : c.loop-key.kept.items ≡ filter (is_pair_in c.args.lo c.args.hi) c.args.pairs.now = c.loop-key.invariant ∙ ap (filter (is_pair_in c.args.lo c.args.hi)) all in
    rw whole (is_sorted-where_key (slice_cmp nat_cmp) (λ (key : List ℕ). is_in c.args.lo c.args.hi (hash_of key)) c.args.pairs.now c.requires)
