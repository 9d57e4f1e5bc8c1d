use Rattle.curp_items.proofs.Written.{then_writes}
use Rattle.curp_fields.specs.Fields.{nodes, part_fields}
use Rattle.curp_fields.proofs.config.PartConfigPart.write.Goals as goal

pub returns-clause-writes : goal.returns-clause-writes
unfolding part_fields nodes
returns-clause-writes c =
    then_writes c.args.out.now c.write.new.out c.write-5.new.out _ _ _ c.in_ok-write.ensures.writes
    (then_writes c.write.new.out c.write-2.new.out c.write-5.new.out _ _ _ c.in_ok-write-2.ensures.writes
    (then_writes c.write-2.new.out c.write-3.new.out c.write-5.new.out _ _ _ c.in_ok-write-3.ensures.writes
    (then_writes c.write-3.new.out c.write-4.new.out c.write-5.new.out _ _ _ c.in_ok-write-4.ensures.writes
    (then_writes c.write-4.new.out c.write_list.new.out c.write-5.new.out _ _ _ (rw c.as_slice.ensures at c.in_ok-write_list.ensures.writes)
    (then_writes c.write_list.new.out c.write_list-2.new.out c.write-5.new.out _ _ _ (rw c.as_slice-2.ensures at c.in_ok-write_list-2.ensures.writes)
    c.write-5.ensures.writes)))))
