-- What the witness held that an adoption replays from; and the looks, and the logs that were recovered before, that stay.
use Rattle.std.proofs.Common.{◌≡◌, ℕ, ◌≤◌, ◌==◌, ◌&&◌, true, length, ap, sym, ◌∙◌, subst, arith, inl, false, ◌<◌, refl}
use Rattle.std.specs.List.{IsDistinct}
use Rattle.curp_base.specs.Words.{At}
use Rattle.curp_base.proofs.Lists.{Each-at, at_some, at_same}
use Rattle.curp_cmd.specs.Hash.{hash_of, touches}
use Rattle.curp_cmd.specs.Store.{keys_of}
use Rattle.curp_cmd.specs.declared.command.Request.{Request}
use Rattle.curp_msg.specs.declared.config.PartConfig.{PartConfig}
use Rattle.curp_model.specs.Laws.{clash}
use Rattle.curp_model.specs.Manager.{Attempted}
use Rattle.curp_model.specs.Marks.{Cut, Looked, Mark, Place, cuts_part, is_cut, Quick, Executed}
use Rattle.curp_model.specs.Witness.{HeldRequest, frozen_requests}
use Rattle.curp_model.specs.World.{World}
use Rattle.curp_facts.specs.Entries.{UpdateOk}
use Rattle.curp_cmd.specs.Store.{NamesKey}
use Rattle.curp_facts.specs.Known.{Known}
use Rattle.curp_facts.specs.Predecessors.{Predecessors}
use Rattle.curp_law_linear.specs.Moves.{IsHeldUpdate}
use Rattle.curp_law_linear.specs.OfWorld.{cut_length, line_of}
use Rattle.curp_law_linear.proofs.Hashes.{key_touches}
use Rattle.curp_law_linear.proofs.Lists.{in_filter}
use Rattle.curp_law_kept.proofs.Gives.{frozen_apart, kept_held}
use Rattle.curp_law_linear.specs.Ordered.{Ordered, IsLow}
use Rattle.curp_law_linear.proofs.AdoptRecovery.{Recovery}
use Rattle.curp_law_linear.proofs.ReadsLater.{quick_capture}
use Rattle.std.proofs.lemmas.Bool.{eq-eqb}
use Rattle.curp_law_linear.proofs.ReadsStored.{stored_now}

module _ {w : World} (known : Known w) (c : PartConfig) (a : Attempted) (o : Recovery w c a) where
  -- (c) no two of them clash
  pub held_apart : IsDistinct clash (frozen_requests o.x)
  held_apart = frozen_apart o.x (known.inv.witnesses a.order.witness o.x o.its_witness).apart

  -- each is an update that was invoked
  pub held_update : (k : ℕ) (r : Request) → At (frozen_requests o.x) k r → UpdateOk w r
  held_update k r at =
      let h = kept_held o.x r (record { place = k; stands = at }) in
      subst (UpdateOk w) h.3 (Each-at (λ (y : HeldRequest). UpdateOk w y.request) o.x.held (known.inv.witnesses a.order.witness o.x o.its_witness).held h.0 h.1 h.2)

  -- which names a key
  pub held_asked : Ordered w → (k : ℕ) (r : Request) → At (frozen_requests o.x) k r → IsHeldUpdate (line_of w) r
  held_asked ordered k r at =
      let ok = held_update k r at in
      let names : NamesKey r.command = ordered.commands ok.request.place r.id r.command ok.request.invoked in
      let key = at_some (keys_of r.command) 0 (omega (arith, names.some)) in
      record {
        was_invoked = record { event = ok.request.place; stands = ok.request.invoked };
        updates = ok.updates;
        hash = hash_of key.0;
        has_hash = key_touches r.command key.0 (0, key.1);
      }

  -- (e) a completed look is no longer than what stays
  pub looks_short : Ordered w → (k : ℕ) (m : Mark) (number long : ℕ) → At w.marks k m → m.part ≡ c.part → m.place ≡ Looked number long → m.completed ≡ true → long ≤ length o.b.log
  looks_short ordered k m number long at part place completed = ordered.stored k number long m c at place o.now (sym part) (inl completed) a.order.backup o.ok.its_backup o.b o.its_backup

-- (f) nor is a log that was recovered before
pub cuts_short : {w : World} → Known w → Predecessors w → Ordered w → (c : PartConfig) (a : Attempted) (o : Recovery w c a) (k : ℕ) (m : Mark) (number long : ℕ) → At w.marks k m → m.part ≡ c.part
    → m.place ≡ Cut number long → long ≤ length o.b.log
cuts_short {w} known chain ordered c a o k m number long at part place =
    let f = in_filter (cuts_part m.part) w.marks m (k, at) (is_own m place) in
    let stored = stored_now known chain m.master m.part (cut_length m.place) ((ordered.cuts_follow m.part).stored f.0 m f.1) c o.now (sym part) a.order.backup o.ok.its_backup o.b o.its_backup in
    omega (arith, stored, ap cut_length place)
  where
    is_own : (m : Mark) → m.place ≡ Cut number long → cuts_part m.part m ≡ true
    is_own m is = ap (λ (p : Place). is_cut p && (m.part == m.part)) is ∙ eq-eqb m.part m.part refl

-- (g) and what is uncompleted before a quick mark, on one of its hashes, stays
pub quicks_short : {w : World} → Known w → Predecessors w → Ordered w → (c : PartConfig) (a : Attempted) (o : Recovery w c a) (j k i number h : ℕ) (m u : Mark) → At w.marks j m → m.place ≡ Quick number
    → m.part ≡ c.part → At w.marks k u → k < j → u.place ≡ Executed i → u.completed ≡ false → u.part ≡ c.part → touches m.command h ≡ true → touches u.command h ≡ true → i < length o.b.log
quicks_short {w} known chain ordered c a o j k i number h m u at is part there lt place waits its touched too =
    let q : IsLow w number m = ordered.reached.quick j number m at is in
    let g = q.low in
    let one : j ≡ g.place = ordered.numbered_looks.once j g.place number m g.mark at g.stands (quick_capture number m.place is) (quick_capture number g.mark.place g.is_quick) (sym g.its_master) in
    let same : m ≡ g.mark = at_same w.marks j m g.mark at (subst (λ (z : ℕ). At w.marks z g.mark) (sym one) g.stands) in
    let low = g.low k i h u there (omega (arith, lt, one)) place waits (its ∙ sym part) (subst (λ (z : Mark). touches z.command h ≡ true) same touched) too in
    let stored = stored_now known chain q.other m.part q.long q.stored c o.now (sym part) a.order.backup o.ok.its_backup o.b o.its_backup in
    omega (arith, low, stored)
