use Rattle.std.proofs.Common.{◌≡◌, None, refl, sym, ap, subst, ◌∙◌}
use Rattle.curp_disk.specs.Calls.{Played, seen_of}
use Rattle.curp_disk.specs.InMemory.{StopParts, crashed}
use Rattle.curp_durable.proofs.Settling.{some_commit}
use Rattle.curp_durable.specs.Journal.{HoldsUpTo}
use Rattle.curp_durable.specs.Opening.{LedTo}
use Rattle.curp_manage.proofs.Left.{of_memory}
use Rattle.curp_manage.specs.Kept.{title_for}
use Rattle.curp_model.specs.Manager.{opening_manager}
use Rattle.curp_model.specs.World.{shape_of}
use Rattle.curp_config.specs.Machine.{manager_machine}
use Rattle.curp_manage.proofs.managing.open_crashed.Goals as goal

pub open_from-requires : goal.open_from-requires
open_from-requires c = λ _.
    let h = c.requires.0 in
    let played : c.crash.new.self.played ≡ crashed c.args.kept c.args.manager.disk.played =
    ap (λ (d : StopParts). d.played) c.crash.ensures ∙ ap (λ (d : StopParts). crashed c.args.kept d.played) c.into_disk-disk.ensures in (
      title_for h,
      opening_manager (shape_of h),
      subst (λ (p : Played). LedTo manager_machine (seen_of p) (title_for h) (opening_manager (shape_of h)) c.args.checkpoint) (sym played) c.requires.1.led,
    )

-- the journal is there, so nothing but memory can be wanting
pub only_memory-requires : goal.only_memory-requires
only_memory-requires c =
    let h = c.requires.0 in
    let left = c.requires.1 in
    let title = title_for h in
    let opening = opening_manager (shape_of h) in
    let seen = seen_of c.crash.new.self.played in
    let played : c.crash.new.self.played ≡ crashed c.args.kept c.args.manager.disk.played =
    ap (λ (d : StopParts). d.played) c.crash.ensures ∙ ap (λ (d : StopParts). crashed c.args.kept d.played) c.into_disk-disk.ensures in
    let led = subst (λ (p : Played). LedTo manager_machine (seen_of p) title opening c.args.checkpoint) (sym played) left.led in
    let holds = some_commit seen title left.journal.0 left.journal.1 (subst (λ (p : Played). HoldsUpTo (seen_of p) title left.journal.0 left.journal.1) (sym played) left.journal.2) in
    let disarmed : c.crash.new.self.armed ≡ None = ap (λ (d : StopParts). d.armed) c.crash.ensures in
    of_memory c.in-Err.failed.error (c.in-Err.ensures.journal_err title opening left.journal.0 refl led holds) (c.in-Err.ensures.sound_err disarmed).0

pub returns-in-Ok : goal.returns-in-Ok
returns-in-Ok c = λ h inputs commit left journal.
    let title = title_for h in
    let opening = opening_manager (shape_of h) in
    let seen = seen_of c.crash.new.self.played in
    let played : c.crash.new.self.played ≡ crashed c.args.kept c.args.manager.disk.played =
    ap (λ (d : StopParts). d.played) c.crash.ensures ∙ ap (λ (d : StopParts). crashed c.args.kept d.played) c.into_disk-disk.ensures in
    let led = subst (λ (p : Played). LedTo manager_machine (seen_of p) title opening c.args.checkpoint) (sym played) left.led in
    let at = subst (λ (p : Played). HoldsUpTo (seen_of p) title inputs commit) (sym played) journal in
    record {
      fresh = c.in-Ok.ensures.fresh;
      limit = c.in-Ok.ensures.limit;
      keeps = c.in-Ok.ensures.journal title opening inputs refl led (some_commit seen title inputs commit at);
      commit_is = c.in-Ok.ensures.commit title opening inputs commit refl led at;
      disarmed = c.in-Ok.ensures.sound (ap (λ (d : StopParts). d.armed) c.crash.ensures);
    }
