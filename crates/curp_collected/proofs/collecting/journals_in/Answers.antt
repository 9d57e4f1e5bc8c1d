use Rattle.curp_model.specs.World.{opening}
use Rattle.curp_collected.proofs.Whole.{collected}
use Rattle.curp_collected.proofs.collecting.journals_in.Goals as goal

pub manager-requires-2-clause-manager : goal.manager-requires-2-clause-manager
unfolding opening
manager-requires-2-clause-manager c = c.in_ok-first.ensures

pub returns-clause-collected : goal.returns-clause-collected
returns-clause-collected c =
    collected c.args.files.now c.requires
    (record {
      manager = c.in_ok-manager.manager;
      clients = c.in_ok-clients.clients;
      masters = c.in_ok-masters.masters;
      backups = c.in_ok-backups.backups;
      witnesses = c.in_ok-witnesses.witnesses;
    })
    c.in_ok-manager.ensures.log c.in_ok-clients.ensures.logs c.in_ok-masters.ensures.logs c.in_ok-backups.ensures.logs c.in_ok-witnesses.ensures.logs
