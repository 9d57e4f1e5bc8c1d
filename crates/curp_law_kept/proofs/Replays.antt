-- A replay of updates behind a log of a partition is a log of that partition.
use Rattle.std.proofs.Common.{◌≡◌, inl, inr, ℕ, List, sym, subst, arith}
use Rattle.curp_base.specs.Words.{At, Each}
use Rattle.curp_base.proofs.Lists.{Each-at, Each-from_at}
use Rattle.curp_cmd.specs.declared.command.Request.{Request}
use Rattle.curp_cmd.specs.declared.entry.Entry.{Entry}
use Rattle.curp_cmd.specs.declared.entry.Entry.TheVariants.{Op, Take, Give}
use Rattle.curp_cmd.specs.declared.migration.Package.{Package}
use Rattle.curp_model.specs.Log.{IsLog}
use Rattle.curp_model.specs.Recovery.{replay}
use Rattle.curp_model.specs.World.{World}
use Rattle.curp_facts.specs.Entries.{EntryOk, GivesRise, LogOk, TakesRise, UpdateOk}
use Rattle.curp_facts.specs.Facts.{hi_of, lo_of}
use Rattle.curp_law_kept.proofs.Replayed.{replay_cases, replay_log}

module _ (lo hi : ℕ) (log : List Entry) (rs : List Request) where
  old_take : (k number : ℕ) (p : Package) → At (replay lo hi log rs) k (Take number p) → At log k (Take number p)
  old_take k number p at = elim (replay_cases lo hi rs log k (Take number p) at) [
    | inl old ↦ old
    | inr new ↦ absurd (let is : Take number p ≡ Op new.0 0 = new.2 in cc)
  ]

  old_give : (k number : ℕ) (p : Package) → At (replay lo hi log rs) k (Give number p) → At log k (Give number p)
  old_give k number p at = elim (replay_cases lo hi rs log k (Give number p) at) [
    | inl old ↦ old
    | inr new ↦ absurd (let is : Give number p ≡ Op new.0 0 = new.2 in cc)
  ]

  replay_takes : TakesRise log → TakesRise (replay lo hi log rs)
  replay_takes rise j k before after p q l at_j at_k = rise j k before after p q l (old_take j before p at_j) (old_take k after q at_k)

  replay_gives : GivesRise log → GivesRise (replay lo hi log rs)
  replay_gives rise j k before after p q l at_j at_k = rise j k before after p q l (old_give j before p at_j) (old_give k after q at_k)

  replay_entries : (w : World) (part : ℕ) → Each (EntryOk w part) log → Each (UpdateOk w) rs → Each (EntryOk w part) (replay lo hi log rs)
  replay_entries w part olds news = Each-from_at (EntryOk w part) (replay lo hi log rs) (λ k e at. elim (replay_cases lo hi rs log k e at) [
    | inl old ↦ Each-at (EntryOk w part) log olds k e old
    | inr new ↦ subst (EntryOk w part) (sym new.2) (Each-at (UpdateOk w) rs news new.1.place new.0 new.1.stands, omega arith, λ seq l h. absurd (omega (arith, h)))
  ])

-- the replay of a recovery is a log of its partition
pub replay_ok : (w : World) (part lo hi : ℕ) (log : List Entry) (rs : List Request) → lo ≡ lo_of w part → hi ≡ hi_of w part → LogOk w part log → Each (UpdateOk w) rs → LogOk w part (replay lo hi log rs)
replay_ok w part lo hi log rs is_lo is_hi ok news = record {
  is_log = logs lo hi is_lo is_hi;
  takes = replay_takes lo hi log rs ok.takes;
  gives = replay_gives lo hi log rs ok.gives;
  entries = replay_entries lo hi log rs w part ok.entries news;
}
  where
    logs : (l h : ℕ) → l ≡ lo_of w part → h ≡ hi_of w part → IsLog (lo_of w part) (hi_of w part) (replay l h log rs)
    logs l h e f = subst (λ (x : ℕ). IsLog (lo_of w part) (hi_of w part) (replay x h log rs)) (sym e)
        (subst (λ (x : ℕ). IsLog (lo_of w part) (hi_of w part) (replay (lo_of w part) x log rs)) (sym f) (replay_log (lo_of w part) (hi_of w part) rs log ok.is_log))
