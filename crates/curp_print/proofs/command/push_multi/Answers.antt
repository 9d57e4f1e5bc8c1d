use Rattle.std.proofs.Common.{◌≡◌, ◌+◌, ◌∙◌, ◌++◌, [], ◌∷◌, List, All, map, take, codes, flat_map, sym, ap, subst, arith, append_assoc}
use Rattle.std.proofs.lemmas.Grind.{common_steps}
use Rattle.std.proofs.lemmas.List.{take_more}
use Rattle.std.proofs.lemmas.List.Elements.{All-more}
use Rattle.serde_json.specs.Data.{string}
use Rattle.serde_json.specs.View.{view}
use Rattle.curp_cmd.specs.Pairs.{Pair}
use Rattle.curp_script.specs.Printed.{pair_data}
use Rattle.curp_print.proofs.ReadBack.{PairReads, pairs_more, multi_reads}
use Rattle.curp_print.proofs.command.push_multi.Goals as goal

pub loop-key-preserved : goal.loop-key-preserved
loop-key-preserved c =
    let i = c.loop-key.key-index in
    let pairs = c.as_slice-key-items.result.now in
    let p = c.loop-key-item.result in
    let next : take (i + 1) pairs ≡ take i pairs ++ p ∷ [] = take_more pairs i p c.loop-key-test.true ∙ ap (λ (q : Pair). take i pairs ++ q ∷ []) (sym c.loop-key-item.is) in
    record {
      written =
          rw (next, c.in_ok-push_value.ensures.«data», c.in_ok-push_key.ensures.«data»)
          (pairs_more (map view c.loop-key.parts.items) (map view c.push_word.new.parts.items) (take i pairs) p c.loop-key.invariant.written);
      reads =
          All-more PairReads pairs i p c.loop-key-test.true c.loop-key.invariant.reads
          (subst (λ (q : Pair). PairReads q) c.loop-key-item.is (c.in_ok-push_key.ensures.reads, c.in_ok-push_value.ensures.reads));
    }

pub returns-clause-data : goal.returns-clause-data
returns-clause-data c =
    let whole : take c.loop-key.key-index c.as_slice-key-items.result.now ≡ c.args.pairs.now = grind (arith, common_steps) in
    rw (c.loop-key.invariant.written, whole, c.in_ok-push_word.ensures)
    (append_assoc (map view c.args.parts.now.items) (string (codes "multi") ∷ []) (flat_map pair_data c.args.pairs.now))

pub returns-clause-reads : goal.returns-clause-reads
returns-clause-reads c =
    let whole : take c.loop-key.key-index c.as_slice-key-items.result.now ≡ c.args.pairs.now = grind (arith, common_steps) in
    multi_reads c.args.pairs.now c.as_slice-key-items.ensures.least c.as_slice-key-items.ensures.most c.as_slice-key-items.ensures.distinct
    (subst (λ (ps : List Pair). All PairReads ps) whole c.loop-key.invariant.reads)
