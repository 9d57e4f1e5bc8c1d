-- What the machine has of a world whose masters and manager are those of another.
use Rattle.std.proofs.Common.{◌≡◌, ℕ, List, [], ◌∷◌, ◌++◌, append-nil, append_assoc, map, flat_map, refl, ap, sym, ◌∙◌}
use Rattle.curp_base.specs.Words.{numbered}
use Rattle.curp_msg.specs.declared.config.PartConfig.{PartConfig}
use Rattle.curp_msg.specs.declared.message.Message.{Message}
use Rattle.curp_model.specs.Manager.{ManagerState}
use Rattle.curp_model.specs.Ranges.{opening_range}
use Rattle.curp_model.specs.Recovery.{MasterStage}
use Rattle.curp_model.specs.World.{World, messages}
use Rattle.curp_law_linear.specs.Hashes.{Part}
use Rattle.curp_law_linear.specs.OfWorld.{cuts, entries_at, left_of, line_of, moving_of, told_by}
use Rattle.curp_law_linear.proofs.Left.{left_stays}

-- the world has the same masters, the same manager and the same adoptions, and its new messages tell of no package
pub record SameLogs (w v : World) (out : List Message) : Type 0 where
  pub sent : messages v ≡ messages w ++ out
  pub tells_nothing : flat_map (λ (m : Message). told_by m.body) out ≡ []
  pub manager : v.manager ≡ w.manager
  pub masters : v.masters ≡ w.masters
  pub cuts_same : (part : ℕ) → cuts part v.marks ≡ cuts part w.marks

pub flat_append : {A B : Type 0} (f : A → List B) (xs ys : List A) → flat_map f (xs ++ ys) ≡ flat_map f xs ++ flat_map f ys
flat_append f [] ys = refl
flat_append f (x ∷ xs) ys = ap (λ zs. f x ++ zs) (flat_append f xs ys) ∙ sym (append_assoc (f x) (flat_map f xs) (flat_map f ys))

module _ {w v : World} (out : List Message) (s : SameLogs w v out) where
  same_told : flat_map (λ (m : Message). told_by m.body) (messages v) ≡ flat_map (λ (m : Message). told_by m.body) (messages w)
  same_told = ap (flat_map (λ (m : Message). told_by m.body)) s.sent ∙ flat_append (λ (m : Message). told_by m.body) (messages w) out
      ∙ ap (λ zs. flat_map (λ (m : Message). told_by m.body) (messages w) ++ zs) s.tells_nothing ∙ append-nil (flat_map (λ (m : Message). told_by m.body) (messages w))

  same_parts : (line_of v).parts ≡ (line_of w).parts
  same_parts = go v.manager v.masters s.manager s.masters
    where
      Parts : ManagerState → List MasterStage → List Part
      Parts g ms = map (λ (c : PartConfig). record { lo = (opening_range g.shape.parts c.part).lo; hi = (opening_range g.shape.parts c.part).hi; log = entries_at (numbered ms c.master.number) }) g.config.parts

      go : (g : ManagerState) (ms : List MasterStage) → g ≡ w.manager → ms ≡ w.masters → Parts g ms ≡ Parts w.manager w.masters
      go g ms a b = ap (λ (x : ManagerState). Parts x ms) a ∙ ap (λ (x : List MasterStage). Parts w.manager x) b

  same_left : (part number : ℕ) → left_of v part number ≡ left_of w part number
  same_left part number = left_stays w v (ap (λ (g : ManagerState). g.shape) s.manager) part number (s.cuts_same part) (λ r m h. ap (λ (ms : List MasterStage). entries_at (numbered ms r.master.number)) s.masters)

  -- what changes for the machine is the marks and the history alone
  pub same_line : line_of v ≡ record (line_of w) { marks = v.marks; history = v.history }
  same_line i = record {
    parts = same_parts i;
    moving = moving_of (s.manager i).moving;
    told = same_told i;
    marks = v.marks;
    history = v.history;
    left = λ part number. same_left part number i;
  }
