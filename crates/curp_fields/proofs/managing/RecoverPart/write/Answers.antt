use Rattle.curp_items.proofs.Written.{then_writes}
use Rattle.curp_items.specs.Items.{bounds}
use Rattle.curp_fields.specs.Fields.{nodes, recover_fields}
use Rattle.curp_fields.proofs.managing.RecoverPart.write.Goals as goal

pub returns-clause-writes : goal.returns-clause-writes
unfolding recover_fields nodes bounds
returns-clause-writes c =
    then_writes c.args.out.now c.write.new.out c.write-6.new.out _ _ _ c.in_ok-write.ensures.writes
    (then_writes c.write.new.out c.write-2.new.out c.write-6.new.out _ _ _ c.in_ok-write-2.ensures.writes
    (then_writes c.write-2.new.out c.write-3.new.out c.write-6.new.out _ _ _ c.in_ok-write-3.ensures.writes
    (then_writes c.write-3.new.out c.write-4.new.out c.write-6.new.out _ _ _ c.in_ok-write-4.ensures.writes
    (then_writes c.write-4.new.out c.write-5.new.out c.write-6.new.out _ _ _ c.in_ok-write-5.ensures.writes
    (then_writes c.write-5.new.out c.write_list.new.out c.write-6.new.out _ _ _ (rw c.as_slice.ensures at c.in_ok-write_list.ensures.writes)
    (then_writes c.write_list.new.out c.write_list-2.new.out c.write-6.new.out _ _ _ (rw c.as_slice-2.ensures at c.in_ok-write_list-2.ensures.writes)
    c.write-6.ensures.writes))))))
