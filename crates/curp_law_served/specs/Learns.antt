-- The client's configuration: it has the present entry, or has asked, or the answer is on its way.
use Rattle.std.specs.Prelude.{◌≡◌, ◌<◌, ◌⊎◌, ℕ, [], ◌∷◌}
use Rattle.curp_cmd.specs.Node.{client_node, manager_node}
use Rattle.curp_cmd.specs.declared.node.NodeKind.TheVariants as kind
use Rattle.curp_msg.specs.declared.body.Body.TheVariants as body
use Rattle.curp_msg.specs.declared.config.PartConfig.{PartConfig}
use Rattle.curp_msg.specs.declared.message.Message.{Message}
use Rattle.curp_model.specs.Client.{ClientState}
use Rattle.curp_model.specs.World.{World}
use Rattle.curp_law_served.specs.Calm.{IsUndelivered}
use Rattle.curp_law_served.specs.Ways.{Kind, OnWay}

-- client 1 asks
abbrev pub Fetches : Kind
Fetches from to body.Fetch = (to ≡ manager_node) × (from ≡ client_node 1)
Fetches from to _ = ⊥

-- the manager answers, with a serial above
abbrev pub BringsConfiguration : PartConfig → ℕ → Kind
BringsConfiguration c serial from to (body.Configuration g) = (to.kind ≡ kind.Client) × (g.parts ≡ c ∷ []) × (serial < g.serial)
BringsConfiguration c serial from to _ = ⊥

abbrev pub Learns : (Message → Type 0) → PartConfig → ClientState → Type 0
Learns D c cl = (cl.config.parts ≡ c ∷ []) ⊎ (OnWay D Fetches ⊎ OnWay D (BringsConfiguration c cl.config.serial))

-- the only client does
abbrev pub ClientLearns : World → ℕ → PartConfig → Type 0
ClientLearns w done c = (cl : ClientState) → w.clients ≡ cl ∷ [] → Learns (IsUndelivered w done) c cl

-- the client has the present entry, or one of a lower serial
abbrev pub IsBehindEntry : World → PartConfig → ClientState → Type 0
IsBehindEntry w c cl = (cl.config.parts ≡ c ∷ []) ⊎ (cl.config.serial < w.manager.config.serial)
