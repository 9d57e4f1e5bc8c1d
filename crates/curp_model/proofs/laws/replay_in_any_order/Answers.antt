use Rattle.std.proofs.Common.{◌∷◌, ◌++◌}
use Rattle.curp_model.proofs.Replays.{alone, alike, neighbours}
use Rattle.curp_model.proofs.laws.replay_in_any_order.Goals as goal

pub returns : goal.returns
returns c =
    let commute = c.apart_commute.ensures.after in
    let second = c.apart_commute.ensures.second in
    record {
      alone = alone commute second;
      exchanged = λ lo hi log rs ss x y apart. alike commute second lo hi log (rs ++ x ∷ y ∷ ss) (rs ++ y ∷ x ∷ ss) apart (neighbours rs ss x y);
      rearranged = alike commute second;
    }
