-- Why a batch isn't taken, by why it isn't encoded.
use Rattle.curp_base.specs.declared.failed.Failed.{Failed}
use Rattle.curp_base.specs.declared.failed.Failed.TheVariants as failed
use Rattle.curp_batches.specs.declared.error.NoEncoding.{NoEncoding}
use Rattle.curp_durable.specs.declared.error.DurableError.{DurableError}
use Rattle.curp_durable.specs.declared.error.DurableError.TheVariants as durable

abbrev pub durable_error : Failed NoEncoding → Failed DurableError
durable_error failed.NoMemory = failed.NoMemory
durable_error (failed.Because no_encoding) = failed.Because durable.NoEncoding
