use Rattle.std.proofs.Common.{◌≡◌, ◌≤◌, ◌∙◌, true, false, length}
use Rattle.std.specs.List.Sorted.{IsPartitionPoint}
use Rattle.curp_rifl.specs.Records.{Record, is_before, is_up_to}
use Rattle.curp_rifl.proofs.Runs.{client_ordered, client_left}
use Rattle.curp_rifl.proofs.records.drop_client.Goals as goal

pub drop_run-requires-clause-ordered : goal.drop_run-requires-clause-ordered
drop_run-requires-clause-ordered c =
    let start : c.count_before-start.result ≤ length c.args.records.now.items = rw (← c.as_slice.ensures.value) c.count_before-start.ensures.within in
    let point : IsPartitionPoint (λ (e : Record). is_before c.args.client e ≡ true) (λ (e : Record). is_before c.args.client e ≡ false) c.args.records.now.items c.count_before-start.result = rw (← c.as_slice.ensures.value) c.count_before-start.ensures.point in
    let stop : IsPartitionPoint (λ (e : Record). is_up_to c.args.client e ≡ true) (λ (e : Record). is_up_to c.args.client e ≡ false) c.args.records.now.items c.count_up_to-end.result = rw (← c.as_slice-2.ensures.value) c.count_up_to-end.ensures.point in
    client_ordered c.args.records.now.items c.args.client c.count_before-start.result c.count_up_to-end.result start point stop

pub returns-clause-items : goal.returns-clause-items
returns-clause-items c =
    let start : c.count_before-start.result ≤ length c.args.records.now.items = rw (← c.as_slice.ensures.value) c.count_before-start.ensures.within in
    let point : IsPartitionPoint (λ (e : Record). is_before c.args.client e ≡ true) (λ (e : Record). is_before c.args.client e ≡ false) c.args.records.now.items c.count_before-start.result = rw (← c.as_slice.ensures.value) c.count_before-start.ensures.point in
    let fits : c.count_up_to-end.result ≤ length c.args.records.now.items = rw (← c.as_slice-2.ensures.value) c.count_up_to-end.ensures.within in
    let stop : IsPartitionPoint (λ (e : Record). is_up_to c.args.client e ≡ true) (λ (e : Record). is_up_to c.args.client e ≡ false) c.args.records.now.items c.count_up_to-end.result = rw (← c.as_slice-2.ensures.value) c.count_up_to-end.ensures.point in
    c.drop_run.ensures.items ∙ client_left c.args.records.now.items c.args.client c.count_before-start.result c.count_up_to-end.result start point stop fits
