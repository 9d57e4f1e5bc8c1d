-- An end of an inbox after it was used.
use Rattle.std.specs.Prelude.{◌≡◌}
use Rattle.curp_ruled.specs.Ends.{Posted, Received}

-- it is of the same inbox and number
abbrev pub IsSamePost : Posted → Posted → Type 0
IsSamePost before after = (after.inbox ≡ before.inbox) × (after.number ≡ before.number)

abbrev pub IsSameTake : Received → Received → Type 0
IsSameTake before after = (after.inbox ≡ before.inbox) × (after.posts ≡ before.posts)
