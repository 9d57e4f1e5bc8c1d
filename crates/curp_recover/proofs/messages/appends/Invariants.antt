use Rattle.std.proofs.Common.{◌≡◌, ◌++◌, drop}
use Rattle.curp_cmd.specs.Node.{master_node}
use Rattle.curp_msg.specs.Moved.{says_each}
use Rattle.curp_msg.specs.declared.body.Body.TheVariants as body
use Rattle.curp_recover.proofs.messages.appends.Given as goal

-- the messages so far, and those to the backups that are left
abbrev pub invariant-loop-backup : goal.invariant-loop-backup
invariant-loop-backup l =
    l.messages.items ++ says_each (master_node l.number) (drop l.backup-index l.backups) (body.Append (record { epoch = l.epoch; base = 0; round = l.round; entries = l.entries ++ l.behind }))
    ≡ says_each (master_node l.number) l.backups (body.Append (record { epoch = l.epoch; base = 0; round = l.round; entries = l.entries ++ l.behind }))
