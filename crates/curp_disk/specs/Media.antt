-- What a disk in memory keeps of its list of calls.
use Rattle.std.specs.Prelude.{◌≡◌, ◌≤◌, length, take, vec_capacity}
use Rattle.curp_disk.specs.Calls.{seen_through, kept_through}
use Rattle.curp_disk.specs.declared.medium.Medium.TheInside.{Inside}

-- What it reads as is what the list leads to, and the last sync stands at this place in the list
pub record IsMedium (m : Inside) : Type 0 where
  pub seen_is : m.seen.items ≡ seen_through m.first.items m.calls.items
  pub kept_is : kept_through m.first.items m.first.items m.calls.items ≡ seen_through m.first.items (take m.synced m.calls.items)
  pub within : m.synced ≤ length m.calls.items
  pub room : length m.seen.items ≤ vec_capacity m.first
