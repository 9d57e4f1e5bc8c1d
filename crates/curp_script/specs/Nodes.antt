-- The names of nodes and of their keepers in lines.
use Rattle.std.specs.Prelude.{ℕ, ◌==◌, if◌then◌else◌, codes, List, [], ◌∷◌, Option, Some, None, option_and_then, option_map, find}
use Rattle.std.specs.Fmt.{decimal}
use Rattle.std.specs.Str.{bytes_eq}
use Rattle.curp_cmd.specs.Node.{manager_node}
use Rattle.curp_cmd.specs.declared.node.Keeper.{Keeper}
use Rattle.curp_cmd.specs.declared.node.Keeper.TheVariants as keeper
use Rattle.curp_cmd.specs.declared.node.NodeId.{NodeId}
use Rattle.curp_cmd.specs.declared.node.NodeKind.{NodeKind}
use Rattle.curp_cmd.specs.declared.node.NodeKind.TheVariants as node
use Rattle.curp_script.specs.Digits.{counted}

-- the kind of keeper, as lines have it
abbrev pub keeper_text : Keeper → List ℕ
keeper_text keeper.Backup = codes "backup"
keeper_text keeper.Witness = codes "witness"

-- the kind of keeper that a text names
abbrev pub keeper_of : List ℕ → Option Keeper
keeper_of text = find (λ k. bytes_eq text (keeper_text k)) (keeper.Backup ∷ keeper.Witness ∷ [])

-- the letter of a kind of node
abbrev pub letter_of : NodeKind → ℕ
letter_of node.Manager = 71
letter_of node.Client = 67
letter_of node.Master = 77
letter_of node.Backup = 66
letter_of node.Witness = 87

-- the letter, and behind it the number among the kind, which the manager doesn't show
abbrev pub numbered_text : NodeKind → ℕ → List ℕ
numbered_text node.Manager n = letter_of node.Manager ∷ []
numbered_text kind n = letter_of kind ∷ decimal n

-- the node, as lines have it
abbrev pub node_text : NodeId → List ℕ
node_text id = numbered_text id.kind id.number

-- the kind that a letter stands for, of those that are counted
abbrev pub letter_kind : ℕ → Option NodeKind
letter_kind letter = find (λ k. letter == letter_of k) (node.Client ∷ node.Master ∷ node.Backup ∷ node.Witness ∷ [])

-- a letter, then the number
abbrev pub counted_node : List ℕ → Option NodeId
counted_node [] = None
counted_node (letter ∷ digits) =
    option_and_then (λ kind. option_map (λ number. record { kind = kind; number = number }) (counted digits)) (letter_kind letter)

-- the node that a text names
abbrev pub node_of : List ℕ → Option NodeId
node_of text = if bytes_eq text (node_text manager_node) then Some manager_node else counted_node text
