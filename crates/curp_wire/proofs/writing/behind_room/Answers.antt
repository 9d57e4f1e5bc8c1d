use Rattle.std.proofs.Common.{◌≡◌, ◌++◌, ◌∙◌, ap, arith, drop, length}
use Rattle.std.proofs.lemmas.List.{drop_at, length-append}
use Rattle.curp_items.specs.Calls.{Written}
use Rattle.curp_items.proofs.Written.{behind}
use Rattle.curp_wire.specs.Frame.{content}
use Rattle.curp_wire.proofs.writing.behind_room.Goals as goal

pub returns-clause-length : goal.returns-clause-length
returns-clause-length c =
    let m = c.args.message.now in
    let zeros = c.in_ok-vec.field-0.items in
    let are = c.into_vec.ensures ∙ ap (λ (w : Written). w.prefix ++ w.text) (c.in_ok-write_content.ensures.writes ∙ ap (λ (w : Written). behind w (content m)) c.new-out.ensures) in
    let four : length zeros ≡ 4 = omega (arith, c.in_ok-vec.ensures.len, c.in_ok-vec.field-0.ok.0) in
    omega (arith, ap length are, length-append zeros (content m), four)

pub returns-clause-content : goal.returns-clause-content
returns-clause-content c =
    let m = c.args.message.now in
    let zeros = c.in_ok-vec.field-0.items in
    let are = c.into_vec.ensures ∙ ap (λ (w : Written). w.prefix ++ w.text) (c.in_ok-write_content.ensures.writes ∙ ap (λ (w : Written). behind w (content m)) c.new-out.ensures) in
    let four : length zeros ≡ 4 = omega (arith, c.in_ok-vec.ensures.len, c.in_ok-vec.field-0.ok.0) in
    ap (drop 4) are ∙ drop_at zeros (content m) 4 four
