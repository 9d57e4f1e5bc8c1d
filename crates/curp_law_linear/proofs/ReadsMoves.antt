-- A look gives what it gave, through moves of which none drops it.
use Rattle.std.proofs.Common.{◌≡◌, inl, inr, ℕ, List, [], ◌∷◌, refl, subst}
use Rattle.curp_base.specs.Words.{Each}
use Rattle.curp_cmd.specs.declared.command.Answer.{Answer}
use Rattle.curp_cmd.specs.declared.command.RequestId.{RequestId}
use Rattle.curp_cmd.specs.declared.node.NodeId.{NodeId}
use Rattle.curp_msg.specs.declared.body.Worth.{Worth}
use Rattle.curp_msg.specs.declared.config.PartConfig.{PartConfig}
use Rattle.curp_msg.specs.declared.machine.Capture.{Capture}
use Rattle.curp_model.specs.World.{World}
use Rattle.curp_facts.specs.Facts.{IsAdoptedNow}
use Rattle.curp_facts.specs.Known.{Known}
use Rattle.curp_law_linear.specs.Line.{LineState, LineOk, LookGives}
use Rattle.curp_law_linear.specs.Moves.{AllFit, Adopts, IsDropped, LineMove, after, all_after}
use Rattle.curp_law_linear.specs.OfWorld.{line_of}
use Rattle.curp_law_linear.proofs.Discharged.{pure, second}
use Rattle.curp_law_linear.proofs.Given.{LogsOk}
use Rattle.curp_law_linear.proofs.Keeps.{keeps, look_stays}
use Rattle.curp_law_linear.specs.Ordered.{Ordered, StoredFrom, WorthOk}
use Rattle.curp_law_linear.specs.Refined.{NoAdoption, Refines}
use Rattle.curp_law_linear.proofs.ReadsStored.{stored_now, stored_stays}
use Rattle.curp_facts.specs.Predecessors.{Predecessors}
use Rattle.curp_facts.specs.Migrated.{AllStored}
use Rattle.curp_law_kept.proofs.Gives.{Follows, adopted_stays}

-- no move drops looks of that length in that partition
abbrev pub NoneDrops : List LineMove → ℕ → ℕ → Type 0
NoneDrops ms part long = Each (λ (m : LineMove). IsDropped m part long → ⊥) ms

-- what each backup of the present list of the partition has, no move drops
abbrev pub KeepsStored : World → List LineMove → Type 0
KeepsStored w ms = (part long : ℕ) → ((c : PartConfig) → IsAdoptedNow w c → c.part ≡ part → AllStored w c long) → NoneDrops ms part long

-- moves that adopt nothing drop nothing
pub none_drops : (ms : List LineMove) → Each NoAdoption ms → (part long : ℕ) → NoneDrops ms part long
none_drops [] none part long = tt
none_drops (m ∷ ms) none part long = (go m none.0, none_drops ms none.1 part long)
  where
    go : (m : LineMove) → NoAdoption m → IsDropped m part long → ⊥
    go (Adopts o) n d = n
    go _ n d = d

look_moves : (ms : List LineMove) (s : LineState) → AllFit LogsOk s ms → LineOk s → (by : Capture) (part long : ℕ) (id : RequestId) (a : Answer) → LookGives s.marks by part long id a
    → NoneDrops ms part long → LookGives (all_after s ms).marks by part long id a
look_moves [] s fits ok by part long id a look none = look
look_moves (m ∷ ms) s fits ok by part long id a look none = elim (look_stays pure second s m fits.0 fits.1 ok by part long id a look) [
  | inl stays ↦ look_moves ms (after s m) fits.2 (keeps pure second s m fits.0 fits.1 ok) by part long id a stays none.1
  | inr dropped ↦ absurd (none.0 dropped)
]

module _ {w v : World} (ordered : Ordered w) (r : Refines w v) where
  -- a look of the world before gives the same in the world after
  pub look_later : (by : Capture) (part long : ℕ) (id : RequestId) (a : Answer) → LookGives w.marks by part long id a → NoneDrops r.moves part long → LookGives v.marks by part long id a
  look_later by part long id a look none =
      subst (λ (s : LineState). LookGives s.marks by part long id a) r.leads (look_moves r.moves (line_of w) r.fit ordered.line by part long id a look none)

  -- a value that was sent is still what its look gives
  pub worth_later : Known w → Predecessors w → Follows w v → KeepsStored w r.moves → (node : NodeId) (x : Worth) → WorthOk w node x → WorthOk v node x
  worth_later known chain s keep node x ok = record {
    lists = ok.lists;
    adopted = adopted_stays s ok.adopted;
    its_master = ok.its_master;
    its_epoch = ok.its_epoch;
    long = ok.long;
    look = look_later _ ok.lists.part ok.long x.id x.answer ok.look (keep ok.lists.part ok.long (λ c now part. stored_now known chain node ok.lists.part ok.long from c now part));
    stored = stored_stays s node ok.lists.version ok.long ok.stored;
  }
    where
      from : StoredFrom w node ok.lists.part ok.long
      from = record { lists = ok.lists; adopted = ok.adopted; its_master = ok.its_master; its_part = refl; stored = ok.stored }
