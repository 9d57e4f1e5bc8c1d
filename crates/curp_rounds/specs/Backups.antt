-- What a master knows of its backups.
use Rattle.std.specs.Prelude.{◌≡◌, ℕ, suc, ◌<◌, nat_le, ◌&&◌, if◌then◌else◌, Bool, true, false, List, [], ◌∷◌, map, length, slice_index_or, Option, Some, None, option_map}
use Rattle.curp_cmd.specs.declared.node.NodeId.{NodeId}
use Rattle.curp_model.specs.Master.{Acknowledged, from_backup, least, raised}
use Rattle.curp_cmd.specs.Node.{same_node}
use Rattle.curp_rounds.specs.declared.reach.Reach.{Reach}

-- the lengths that the backups of a list have acknowledged
abbrev pub lengths : List Acknowledged → List NodeId → List ℕ
lengths all backups = map (λ b. (from_backup all b).length) backups

-- so much of the log has each of them acknowledged
abbrev pub stored_by_all : List Acknowledged → List NodeId → ℕ
stored_by_all all backups = least (lengths all backups)

-- a length and a round are within what all backups of a list have acknowledged; of no backups nothing is asked
abbrev pub is_within : Option Reach → ℕ → ℕ → Bool
is_within None long round = true
is_within (Some reach) long round = nat_le long reach.long && nat_le round reach.round

-- so much is set for each
abbrev pub all_set : List Acknowledged → ℕ → ℕ → List Acknowledged
all_set all long round = map (λ (a : Acknowledged). record a { length = long; round = round }) all

-- each backup has acknowledged just so much
abbrev pub all_at : List NodeId → ℕ → ℕ → List Acknowledged
all_at backups long round = map (λ b. record { backup = b; length = long; round = round }) backups

-- what is acknowledged with one acknowledgement more
abbrev pub raised_by : List Acknowledged → Acknowledged → List Acknowledged
raised_by all more = raised all more.backup more.length more.round

-- with one more, if it comes
abbrev pub heard_with : List Acknowledged → Option Acknowledged → List Acknowledged
heard_with all None = all
heard_with all (Some more) = raised_by all more

-- below a place none is of the backup
abbrev pub NoneBelow : List Acknowledged → NodeId → ℕ → Type 0
NoneBelow all backup at = (k : ℕ) (d : Acknowledged) → k < at → same_node (slice_index_or all k d).backup backup ≡ false

-- the first that is of the backup stands at that place
pub record IsFirst (all : List Acknowledged) (backup : NodeId) (at : ℕ) : Type 0 where
  pub within : at < length all
  pub its : (d : Acknowledged) → same_node (slice_index_or all at d).backup backup ≡ true
  pub before : NoneBelow all backup at

-- ---- where the first of each stands

-- the place of the first that is of the backup, if there is one
abbrev pub place_in : List Acknowledged → NodeId → Option ℕ
place_in [] backup = None
place_in (a ∷ all) backup = if same_node a.backup backup then Some 0 else option_map suc (place_in all backup)

-- the places that are kept are these
abbrev pub ArePlaces : (NodeId → Option ℕ) → List Acknowledged → Type 0
ArePlaces place all = (backup : NodeId) → place backup ≡ place_in all backup

-- the place that there is, or else this one if it counts
abbrev pub place_or : Option ℕ → Bool → ℕ → Option ℕ
place_or (Some k) counts at = Some k
place_or None true at = Some at
place_or None false at = None
