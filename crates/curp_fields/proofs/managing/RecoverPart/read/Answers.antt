use Rattle.std.proofs.Common.{◌≤◌, Ok, ap}
use Rattle.std.proofs.Math.Bridge.{le_prop}
use Rattle.curp_msg.specs.declared.body.Recover.{Recover}
use Rattle.curp_fields.specs.Fields.{nodes, recover_fields}
use Rattle.curp_fields.proofs.managing.RecoverPart.read.Goals as goal

pub returns : goal.returns
unfolding recover_fields nodes
returns c =
    let b = c.in_ok-bounds.bounds in
    let make = λ (q : b.lo ≤ b.hi).
    let r : Recover = record {
      part = c.in_ok-part.part;
      epoch = c.in_ok-epoch.epoch;
      version = c.in_ok-version.version;
      backup = c.in_ok-backup.backup;
      witness = c.in_ok-witness.witness;
      backups = c.in_ok-backups.backups;
      witnesses = c.in_ok-witnesses.witnesses;
      lo = b.lo;
      hi = b.hi;
      ordered = q;
    } in
    Ok (r, c.read-6.new.reader) in
    rw (c.in_ok-part.ensures, c.in_ok-epoch.ensures, c.in_ok-version.ensures, c.in_ok-backup.ensures, c.in_ok-witness.ensures, c.in_ok-backups.ensures, c.in_ok-witnesses.ensures, c.in_ok-bounds.ensures) (ap make (le_prop b.ordered _))
