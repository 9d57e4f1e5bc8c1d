-- Why what holds a message isn't written.
use Rattle.curp_base.specs.declared.failed.Failed.{Failed}
use Rattle.curp_base.specs.declared.failed.Failed.TheVariants as failed
use Rattle.curp_wire.specs.declared.error.NoFrame.{NoFrame}
use Rattle.curp_batches.specs.declared.error.NoEncoding.{NoEncoding}

-- by why that message isn't
abbrev pub encoding_error : Failed NoFrame → Failed NoEncoding
encoding_error failed.NoMemory = failed.NoMemory
encoding_error (failed.Because no_frame) = failed.Because (record {})
