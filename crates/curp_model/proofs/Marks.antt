-- Lemmas on marks.
use Rattle.std.proofs.Common.{◌≡◌, List, ◌++◌, map, ap, ◌∙◌}
use Rattle.std.specs.List.{filter}
use Rattle.std.proofs.lemmas.List.{map-append}
use Rattle.std.proofs.lemmas.List.Elements.{filter-append}
use Rattle.curp_cmd.specs.declared.command.Command.{Command}
use Rattle.curp_cmd.specs.declared.command.RequestId.{RequestId}
use Rattle.curp_model.specs.Marks.{Mark, is_shown, shown}

abbrev request_of : Mark → RequestId × Command
request_of m = (m.id, m.command)

pub shown_append : (xs ys : List Mark) → shown (xs ++ ys) ≡ shown xs ++ shown ys
shown_append xs ys = ap (map request_of) (filter-append is_shown xs ys) ∙ map-append request_of (filter is_shown xs) (filter is_shown ys)
