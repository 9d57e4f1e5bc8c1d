-- What the manager keeps of a partition's work.
use Rattle.std.specs.Prelude.{◌≡◌, ◌≤◌, ℕ, Result, Ok}
use Rattle.curp_cmd.specs.declared.node.Keeper.{Keeper}
use Rattle.curp_msg.specs.declared.config.PartConfig.{PartConfig}
use Rattle.curp_model.specs.Manager as model
use Rattle.curp_changes.specs.declared.work.Attempt.{Attempt}
use Rattle.curp_changes.specs.declared.work.Replacement.{Replacement}

-- an attempt to recover a partition
abbrev pub attempted : Attempt → model.Attempted
attempted a = record { master = a.master; order = a.order }

-- the lists that a partition is being given
abbrev pub in_work : PartConfig → Replacement → model.NewLists
in_work c r = record { part = c; version = r.version; backups = r.backups; witnesses = r.witnesses }

-- the lists with the next fresh node at a place
abbrev pub lists_of : model.ManagerState → PartConfig → Keeper → ℕ → Replacement
lists_of g c kind place =
    let fresh = model.fresh_node g kind in
    record {
      kind = kind;
      fresh = fresh;
      version = g.next.version;
      backups = model.new_backups c kind place fresh;
      witnesses = model.new_witnesses c kind place fresh;
    }

-- a range is to move from this owner to this target
abbrev pub IsMove : Result model.Move ℕ → (lo hi : ℕ) → (owner target : PartConfig) → Type 0
IsMove found lo hi owner target = (ordered : lo ≤ hi)
    → found ≡ Ok (record { range = record { lo = lo; hi = hi; ordered = ordered }; owner = owner; target = target })
