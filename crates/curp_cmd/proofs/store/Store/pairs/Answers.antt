use Rattle.std.proofs.Common.{ap, ◌∙◌, rules}
use Rattle.std.specs.FinMap.{entries}
use Rattle.std.proofs.lemmas.List.Sorted.{answers_always}
use Rattle.curp_cmd.proofs.Maps.{all_taken, ascend_sorted, entries_sorted_are}
use Rattle.curp_cmd.proofs.store.Store.pairs.Goals as goal

pub new-requires : goal.new-requires
new-requires c =
    let whole = all_taken _ _ c.loop-key.invariant c.in-None.ensures.steps.0 ∙ c.into_iter-key-iterator.ensures.into_iter_gives.0 in
    let facts = c.sort_unstable_by_key.ensures in
    ascend_sorted _ _ (rw whole at facts.permutation) c.len.ensures.unique (facts.sorted (λ pair. pair.0) (answers_always _ _ _ (λ f a r g called. search rules)))

pub returns : goal.returns
returns c =
    let whole = all_taken _ _ c.loop-key.invariant c.in-None.ensures.steps.0 ∙ c.into_iter-key-iterator.ensures.into_iter_gives.0 in
    let facts = c.sort_unstable_by_key.ensures in
    c.new.ensures
    ∙ entries_sorted_are _ _ (rw whole at facts.permutation) c.len.ensures.unique (facts.sorted (λ pair. pair.0) (answers_always _ _ _ (λ f a r g called. search rules)))
    ∙ ap (λ s. entries s.map) c.self.view_is
