use Rattle.std.proofs.Common.{◌≡◌, ℕ, length, List, ap, ◌∙◌, arith}
use Rattle.std.specs.List.{position_or_len}
use Rattle.std.specs.Option.{unwrap_or}
use Rattle.curp_line.specs.Cuts.{how_many, is_cut_at, is_cut_to}
use Rattle.curp_line.specs.declared.cuts.Cut.{Cut}
use Rattle.curp_line.proofs.Found.{cuts_to, place_found}
use Rattle.curp_line.proofs.cuts.Cuts.place_behind.Goals as goal

-- the place of the one behind a number
placed : (cuts : List Cut) (part epoch n place : ℕ) → n ≡ how_many (is_cut_to part epoch) cuts → place ≡ position_or_len (is_cut_at part n) cuts
    → place ≡ position_or_len (is_cut_at part (how_many (is_cut_to part epoch) cuts)) cuts
placed cuts part epoch n place e h = h ∙ ap (λ (k : ℕ). position_or_len (is_cut_at part k) cuts) e

pub returns : goal.returns
returns c =
    let cuts = c.self.inside.list.items in
    let earlier = c.count_to-earlier.ensures ∙ cuts_to c.self.inside.epochs.epochs cuts c.self.invariant c.args.part c.args.epoch in
    let found = place_found c.self.inside.epochs.epochs cuts c.self.invariant c.args.part c.count_to-earlier.result in
    let long : c.len.result ≡ length cuts = omega (arith, c.len.ensures) in
    let here = c.unwrap_or.ensures ∙ ap (λ n. unwrap_or c.place_of-place.result n) long ∙ ap (λ r. unwrap_or r (length cuts)) c.place_of-place.ensures ∙ found in
    placed cuts c.args.part c.args.epoch c.count_to-earlier.result c.unwrap_or.result earlier here
    ∙ ap (λ a. position_or_len (is_cut_at c.args.part (how_many (is_cut_to c.args.part c.args.epoch) a.cuts)) a.cuts) c.self.view_is
