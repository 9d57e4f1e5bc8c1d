use Rattle.std.proofs.Common.{rules, ◌≡◌, ◌&&◌, Bool, true, nat_le, length, if◌then◌else◌, sym, ◌∙◌, ap}
use Rattle.curp_cmd.specs.Node.{is_among}
use Rattle.curp_model.specs.Recovery.{RecoveryState, Storing, all_complete, completed_by, stored_comes, with_complete}
use Rattle.curp_msg.specs.Moved.{Moved, Node, done_of}
use Rattle.curp_recover.specs.Stage.{phase_of, replayed_of, replayed_phase}
use Rattle.curp_recover.specs.declared.stage.Awaited.TheVariants as awaited
use Rattle.curp_recover.proofs.Stored.{completed_is, stored_whole}
use Rattle.curp_recover.proofs.recovery.Recovery.on_stored.Goals as goal

pub returns-in_ok-told-in-Replayed-default-Storing-clause-moves :
    goal.returns-in_ok-told-in-Replayed-default-Storing-clause-moves
returns-in_ok-told-in-Replayed-default-Storing-clause-moves c =
    let n = c.args.self.now.number in
    let s = c.args.self.now.state in
    let here = c.in-Replayed-default-Storing in
    let told = c.in_ok-told-in-Replayed-default-Storing in
    let w = with_complete (replayed_of here.replayed) c.args.backup.now in
    let storing : here.awaited ≡ awaited.Storing = search rules in
    let phase : s.phase ≡ Storing (replayed_of here.replayed) =
    sym (ap (λ (v : Node RecoveryState). v.state.phase) c.self.view_is) ∙ ap phase_of here.is ∙ ap (replayed_phase here.replayed) storing in
    let order : c.self.inside.order ≡ s.order = ap (λ (v : Node RecoveryState). v.state.order) c.self.view_is in
    let number : c.self.inside.number ≡ n = ap (λ (v : Node RecoveryState). v.number) c.self.view_is in
    let whole : (is_among c.args.backup.now s.order.backups && nat_le (length here.replayed.log.entries) c.args.length) ≡ true = search rules in
    let moved : stored_comes n s c.args.backup.now c.args.length s.phase ≡ completed_by n s.order w =
    ap (stored_comes n s c.args.backup.now c.args.length) phase ∙ stored_whole n s c.args.backup.now c.args.length (replayed_of here.replayed) whole in
    let last : c.is_last-is_last.result ≡ all_complete c.self.inside.order w = search rules in
    let waits = c.awaited_after.ensures ∙ ap (λ (b : Bool). if b then awaited.Adoption else awaited.Storing) last in
    let both = completed_is c.self.inside.number c.self.inside.order c.complete_by.new.self w c.awaited_after.result told.told.items told.ensures.ok waits told.ensures.told in
    let back : completed_by c.self.inside.number c.self.inside.order w ≡ stored_comes n s c.args.backup.now c.args.length s.phase = (λ i. completed_by (number i) (order i) w) ∙ sym moved in (
      λ i. record { number = number i; state = (both.0 ∙ ap (λ (m : Moved RecoveryState). m.state) back) i },
      c.sends.ensures ∙ both.1 ∙ ap (λ (m : Moved RecoveryState). done_of m) back,
    )
