use Rattle.std.proofs.Common.{ap, sym, ◌∙◌}
use Rattle.std.specs.List.{flat_map}
use Rattle.std.proofs.Output.{has_written_of_eq}
use Rattle.std.proofs.lemmas.Iterator.{YieldsList-from_chars}
use Rattle.std.proofs.lemmas.Iterator.Consumers.{YieldsList-end}
use Rattle.std.proofs.lemmas.List.{map-id}
use Rattle.curp_words.specs.WrongWords.{shown_char}
use Rattle.curp_words.proofs.wrong_words.write_shown.Goals as goal

pub returns : goal.returns
returns g c =
    let t = YieldsList-end (YieldsList-from_chars c.args.text.now c.utf8.text cc) c.loop-c.yielded _ c.loop-c.yielded_by _ _ c.in-None.is c.next.ensures.steps in
    λ plain ok. has_written_of_eq _ _ _ _ _ (ap (flat_map shown_char) (sym (map-id _) ∙ t.0)) (c.loop-c.invariant plain)
