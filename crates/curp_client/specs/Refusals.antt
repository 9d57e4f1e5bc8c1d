-- The numbers by which a client's orders are refused.
use Rattle.std.proofs.Common.{arith}
use Rattle.std.specs.Prelude.{◌≢◌, ℕ}
use Rattle.curp_client.specs.declared.error.InvokeError.{InvokeError}
use Rattle.curp_client.specs.declared.error.InvokeError.TheVariants as invoke
use Rattle.curp_client.specs.declared.error.RetryError.{RetryError}
use Rattle.curp_client.specs.declared.error.RetryError.TheVariants as retry

-- the number of each reason for which nothing is invoked
abbrev pub invoke_number : InvokeError → ℕ
invoke_number invoke.TooMany = 1
invoke_number invoke.Numbers = 2
invoke_number invoke.Split = 3

-- none is 0
pub invoke_numbers_refuse : (why : InvokeError) → invoke_number why ≢ 0
invoke_numbers_refuse invoke.TooMany = omega arith
invoke_numbers_refuse invoke.Numbers = omega arith
invoke_numbers_refuse invoke.Split = omega arith

-- the number of each reason for which nothing is sent again
abbrev pub retry_number : RetryError → ℕ
retry_number retry.NotPending = 1
retry_number retry.Split = 2

-- none is 0
pub retry_numbers_refuse : (why : RetryError) → retry_number why ≢ 0
retry_numbers_refuse retry.NotPending = omega arith
retry_numbers_refuse retry.Split = omega arith
