-- Whether all hashes of a command are owned is asked of them in any order, each once or more often.
use Rattle.std.proofs.Common.{◌≡◌, ℕ, List}
use Rattle.std.specs.List.{list_all}
use Rattle.curp_cmd.proofs.Ascendings.{all_ascending}
use Rattle.curp_cmd.specs.Hash.{ascending}
use Rattle.curp_range.specs.Spans.{Span, is_owned}
use Rattle.curp_model.specs.Ranges.{owns_all}

pub all_owned : (spans : List Span) (xs : List ℕ) → owns_all spans (ascending xs) ≡ list_all (is_owned spans) xs
all_owned spans xs = all_ascending (is_owned spans) xs
