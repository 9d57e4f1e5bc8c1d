use Rattle.std.proofs.Common.{◌≡◌, ◌∙◌, List, replicate, ap, sym, subst}
use Rattle.curp_model.specs.Client.{fresh_client}
use Rattle.curp_model.specs.Manager.{opening_manager}
use Rattle.curp_model.specs.Witness.{WitnessState}
use Rattle.curp_model.specs.World.{shape_of}
use Rattle.curp_msg.specs.Moved.{Node}
use Rattle.curp_msg.specs.declared.config.Config.{Config}
use Rattle.curp_cluster.specs.Nodes.{AreNumbered}
use Rattle.curp_cluster.proofs.Opened.{made_opening, opening_numbered}
use Rattle.curp_cluster.proofs.nodes.Nodes.new.Goals as goal

pub invariant_of-result : goal.invariant_of-result
invariant_of-result c =
    let of_manager : c.in_ok-managing.managing ≡ opening_manager (shape_of c.args.header.now) = c.in_ok-managing.ensures in
    subst
    (λ (ahead : List (Node WitnessState)). AreNumbered c.in_ok-managing.managing.next c.in_ok-clients.clients.items c.in_ok-masters.masters.items
    c.in_ok-backups.field-0.items c.in_ok-witnesses.field-0.items ahead c.args.header.now.sets c.args.header.now.ways)
    (sym c.new.ensures.items)
    (opening_numbered c.args.header.now c.in_ok-managing.managing c.in_ok-clients.clients.items c.in_ok-masters.masters.items
    c.in_ok-backups.field-0.items c.in_ok-witnesses.field-0.items of_manager
    c.in_ok-clients.ensures.numbers c.in_ok-masters.ensures.numbers c.in_ok-backups.ensures.numbers c.in_ok-witnesses.ensures.numbers
    c.in_ok-masters.ensures.states c.in_ok-backups.ensures.states c.in_ok-witnesses.ensures.states)

pub returns : goal.returns
returns c =
    let of_manager : c.in_ok-managing.managing ≡ opening_manager (shape_of c.args.header.now) = c.in_ok-managing.ensures in
    let of_config : c.config-config.result.now ≡ c.in_ok-managing.managing.config = cc in
    made_opening c.args.header.now c.in_ok-managing.managing c.in_ok-clients.clients.items c.in_ok-masters.masters.items
    c.in_ok-backups.field-0.items c.in_ok-witnesses.field-0.items of_manager
    (c.in_ok-clients.ensures.states ∙ ap (λ (config : Config). replicate c.args.header.now.clients (fresh_client c.args.header.now.fast c.args.header.now.protocol config)) of_config)
    c.in_ok-masters.ensures.states c.in_ok-backups.ensures.states c.in_ok-witnesses.ensures.states
