use Rattle.std.proofs.Common.{◌≡◌, ◌<◌, ◌^◌, length, rules, arith}
use Rattle.curp_entries.proofs.Packs.{packed_small}
use Rattle.curp_entries.proofs.prefix.Prefix.len.Goals as goal

pub overflow_mul-result : goal.overflow_mul-result
overflow_mul-result c =
    let small : length c.self.inside.bytes.items < 2 ^ 63 = search rules in
    let count : c.len.result ≡ length c.self.inside.places.items = search rules in
    omega (arith, count, c.self.invariant.count, packed_small _ c.self.inside.places.items c.self.inside.bytes.items c.self.invariant small)

pub returns-clause-small : goal.returns-clause-small
returns-clause-small c =
    let small : length c.self.inside.bytes.items < 2 ^ 63 = search rules in
    rw (← c.self.view_is) (packed_small _ c.self.inside.places.items c.self.inside.bytes.items c.self.invariant small)
