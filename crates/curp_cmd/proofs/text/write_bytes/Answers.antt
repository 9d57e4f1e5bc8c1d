use Rattle.std.proofs.Common.{rules, ◌+◌, arith, take, ◌≡◌, ◌++◌, get_or, sym, ap, ◌∙◌, []}
use Rattle.std.specs.List.{flat_map}
use Rattle.std.proofs.Output.{has_written_append, has_written_of_eq}
use Rattle.std.proofs.lemmas.List.{take_more, flat_map_more}
use Rattle.curp_cmd.specs.Text.{byte_digits}
use Rattle.curp_cmd.proofs.text.write_bytes.Goals as goal

pub loop-byte-preserved : goal.loop-byte-preserved
loop-byte-preserved g c plain =
    let i = c.loop-byte.byte-index in
    let bytes = c.args.bytes.now in
    let more : flat_map byte_digits (take i bytes) ++ byte_digits (get_or bytes i 0) ≡ flat_map byte_digits (take (i + 1) bytes) =
    flat_map_more byte_digits [] (take i bytes) (get_or bytes i 0) ∙ ap (flat_map byte_digits) (sym (take_more bytes i 0 (omega arith))) in
    has_written_of_eq _ _ _ _ _ more (has_written_append _ _ _ _ _ _ (c.loop-byte.invariant plain) (search rules))
