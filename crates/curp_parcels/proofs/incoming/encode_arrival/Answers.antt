use Rattle.std.proofs.Common.{◌≡◌, ◌++◌, ◌∙◌, ap, arith, length}
use Rattle.curp_batches.specs.Arrivals.{arrival}
use Rattle.curp_items.specs.Calls.{Written}
use Rattle.curp_items.proofs.Written.{behind}
use Rattle.curp_parcels.proofs.Lengths.{made_parcel, no_parcel, room_before}
use Rattle.curp_parcels.proofs.incoming.encode_arrival.Goals as goal

pub parcel_of-requires : goal.parcel_of-requires
parcel_of-requires c =
    let text = arrival.of c.args.arrived.now in
    let zeros = c.in_ok-vec.field-0.items in
    let are = c.into_vec.ensures ∙ ap (λ (w : Written). w.prefix ++ w.text) (c.in_ok-write_arrival.ensures.writes ∙ ap (λ (w : Written). behind w text) c.new-out.ensures) in
    let four : length zeros ≡ 4 = omega (arith, c.in_ok-vec.ensures.len, c.in_ok-vec.field-0.ok.0) in
    let room = room_before text zeros c.into_vec.result.items are four in
    omega (arith, room.long)

pub returns-in-Some-clause-parcel : goal.returns-in-Some-clause-parcel
returns-in-Some-clause-parcel c =
    let text = arrival.of c.args.arrived.now in
    let zeros = c.in_ok-vec.field-0.items in
    let are = c.into_vec.ensures ∙ ap (λ (w : Written). w.prefix ++ w.text) (c.in_ok-write_arrival.ensures.writes ∙ ap (λ (w : Written). behind w text) c.new-out.ensures) in
    let four : length zeros ≡ 4 = omega (arith, c.in_ok-vec.ensures.len, c.in_ok-vec.field-0.ok.0) in
    let room = room_before text zeros c.into_vec.result.items are four in
    made_parcel arrival c.args.arrived.now c.into_vec.result.items c.in-Some.parcel.items c.in_ok-write_arrival.ensures.fits room c.in-Some.ensures.short c.in-Some.ensures.parcel

pub returns-in-None-clause-none : goal.returns-in-None-clause-none
returns-in-None-clause-none c = λ none bytes.
    let text = arrival.of c.args.arrived.now in
    let zeros = c.in_ok-vec.field-0.items in
    let are = c.into_vec.ensures ∙ ap (λ (w : Written). w.prefix ++ w.text) (c.in_ok-write_arrival.ensures.writes ∙ ap (λ (w : Written). behind w text) c.new-out.ensures) in
    let four : length zeros ≡ 4 = omega (arith, c.in_ok-vec.ensures.len, c.in_ok-vec.field-0.ok.0) in
    let room = room_before text zeros c.into_vec.result.items are four in
    no_parcel arrival c.args.arrived.now c.into_vec.result.items bytes room c.in-None.ensures.long
