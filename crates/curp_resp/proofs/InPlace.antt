-- An argument of no byte: zeros alone.
use Rattle.std.proofs.Common.{◌≡◌, ℕ, ◌-◌, ◌<◌, ap, arith}
use Rattle.std.specs.Prelude.{replicate}
use Rattle.std.proofs.lemmas.List.Elements.{All-replicate}
use Rattle.curp_cmd.specs.InPlace.{IsInPlace}

pub zeros_in_place : (size : ℕ) → IsInPlace size 0 0 (replicate size 0)
zeros_in_place size =
    let whole : size ≡ size - 0 = omega arith in
    let byte : 0 < 256 = omega arith in
    record {
      least_ok = omega arith;
      fits = omega arith;
      range = All-replicate (λ n. n < 256) size 0 byte;
      zeros = ap (λ n. replicate n 0) whole;
    }
