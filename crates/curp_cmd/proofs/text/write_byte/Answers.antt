use Rattle.std.proofs.Common.{◌<◌, false, arith}
use Rattle.std.proofs.lemmas.Fmt.{hex_byte}
use Rattle.curp_cmd.proofs.text.write_byte.Goals as goal

pub returns : goal.returns
returns g c plain ok =
    let small : c.args.byte < 256 = omega arith in
    let wrote = rw (c.laid_out.ensures, c.in_radix.ensures, hex_byte false c.args.byte small) at c.write.ensures.writes in
    wrote plain ok
