-- Operations among entries.
use Rattle.std.specs.Prelude.{Option, Some, None}
use Rattle.curp_cmd.specs.declared.command.Request.{Request}
use Rattle.curp_cmd.specs.declared.entry.Entry.{Entry}
use Rattle.curp_items.specs.Encoding.{request_of}

-- the request of what stands at a place, if that is an Op
abbrev pub request_at : Option Entry → Option Request
request_at (Some entry) = request_of entry
request_at None = None
