use Rattle.std.proofs.Common.{rules}
use Rattle.std.proofs.lemmas.List.Sorted.{answers_always}
use Rattle.curp_base.proofs.Places.{searched}
use Rattle.curp_base.proofs.reserved_pairs.place_of.Goals as goal

pub returns : goal.returns
returns g c =
    let facts = c.binary_search_by_key.ensures in
    let by_key = facts.position (λ pair. pair.0) (answers_always _ _ _ (λ f a r h called. search rules)) in
    let both = searched g.K.Ord.cmp g.met.K.Ord.total _ c.requires _ _ facts.bound by_key in
    record { found = both.0; absent = both.1 }
