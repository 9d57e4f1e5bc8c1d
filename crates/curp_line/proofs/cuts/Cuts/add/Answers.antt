use Rattle.std.proofs.Common.{ℕ, [], ◌∷◌, ◌++◌, ap, ◌∙◌}
use Rattle.curp_line.specs.Cuts.{how_many, is_cut_of}
use Rattle.curp_line.specs.declared.cuts.Cut.{Cut}
use Rattle.curp_line.proofs.Found.{cuts_of, found_push}
use Rattle.curp_line.proofs.cuts.Cuts.add.Goals as goal

pub invariant_of-self : goal.invariant_of-self
invariant_of-self c =
    rw c.push.ensures.items
    (found_push c.self.inside.epochs.epochs c.self.inside.list.items c.self.invariant c.add.new.self.epochs
    (record { term = c.args.term; earlier = c.count_of-earlier.result; length = c.args.length })
    c.count_of-earlier.ensures c.add.ensures.parts c.add.ensures.counted)

pub returns-clause-cuts : goal.returns-clause-cuts
returns-clause-cuts c =
    let cut : ℕ → Cut = λ n. record { term = c.args.term; earlier = n; length = c.args.length } in
    let earlier = c.count_of-earlier.ensures ∙ cuts_of c.self.inside.epochs.epochs c.self.inside.list.items c.self.invariant c.args.term.part in
    c.push.ensures.items ∙ ap (λ n. c.self.inside.list.items ++ cut n ∷ []) earlier
    ∙ ap (λ a. a.cuts ++ cut (how_many (is_cut_of c.args.term.part) a.cuts) ∷ []) c.self.view_is
