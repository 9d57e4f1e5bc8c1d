-- A log of a partition grows by one entry.
use Rattle.std.proofs.Common.{◌≡◌, ◌<◌, inl, inr, ℕ, true, List, [], ◌∷◌, ◌++◌, subst, arith}
use Rattle.std.specs.Bool.{⊤}
use Rattle.curp_base.specs.Words.{At}
use Rattle.curp_base.proofs.Lists.{Each-append, at_push_cases, at_within}
use Rattle.curp_cmd.specs.declared.entry.Entry.{Entry}
use Rattle.curp_cmd.specs.declared.entry.Entry.TheVariants.{Op, Take, Give, Expire}
use Rattle.curp_cmd.specs.declared.migration.Package.{Package}
use Rattle.curp_facts.specs.Entries.{EntryOk, GivesRise, LogOk, TakesRise}
use Rattle.curp_facts.specs.Facts.{hi_of, lo_of}
use Rattle.curp_model.specs.Log.{fits_at, meaning}
use Rattle.curp_model.specs.World.{World}
use Rattle.curp_law_kept.proofs.Logs.{log_push}

-- the number is above those of all that was taken
abbrev pub AboveTakes : List Entry → ℕ → Type 0
AboveTakes log migration = (j before : ℕ) (p : Package) → At log j (Take before p) → before < migration

-- the number is above those of all that was given
abbrev pub AboveGives : List Entry → ℕ → Type 0
AboveGives log migration = (j before : ℕ) (p : Package) → At log j (Give before p) → before < migration

-- a take is above the takes, and a give above the gives
abbrev pub IsAbove : List Entry → Entry → Type 0
IsAbove log (Op r acknowledged) = ⊤
IsAbove log (Take migration taken) = AboveTakes log migration
IsAbove log (Give migration given) = AboveGives log migration
IsAbove log (Expire client) = ⊤

takes_push : (log : List Entry) (e : Entry) → TakesRise log → IsAbove log e → TakesRise (log ++ e ∷ [])
takes_push log e rise above j k before after p q less first second = elim (at_push_cases log e k (Take after q) second) [
  | inl old ↦ elim (at_push_cases log e j (Take before p) first) [
    | inl here ↦ rise j k before after p q less here old
    | inr here ↦ absurd (omega (arith, less, here.0, at_within log k (Take after q) old))
  ]
  | inr new ↦ elim (at_push_cases log e j (Take before p) first) [
    | inl here ↦ (let its : AboveTakes log after = subst (IsAbove log) new.1 above in its j before p here)
    | inr here ↦ absurd (omega (arith, less, here.0, new.0))
  ]
]

gives_push : (log : List Entry) (e : Entry) → GivesRise log → IsAbove log e → GivesRise (log ++ e ∷ [])
gives_push log e rise above j k before after p q less first second = elim (at_push_cases log e k (Give after q) second) [
  | inl old ↦ elim (at_push_cases log e j (Give before p) first) [
    | inl here ↦ rise j k before after p q less here old
    | inr here ↦ absurd (omega (arith, less, here.0, at_within log k (Give after q) old))
  ]
  | inr new ↦ elim (at_push_cases log e j (Give before p) first) [
    | inl here ↦ (let its : AboveGives log after = subst (IsAbove log) new.1 above in its j before p here)
    | inr here ↦ absurd (omega (arith, less, here.0, new.0))
  ]
]

-- an entry that fits, and is as its kind asks
pub log_grows : (w : World) (part : ℕ) (log : List Entry) (e : Entry) → LogOk w part log → fits_at (meaning (lo_of w part) (hi_of w part) log) e ≡ true → EntryOk w part e → IsAbove log e
    → LogOk w part (log ++ e ∷ [])
log_grows w part log e ok fits is above = record {
  is_log = log_push (lo_of w part) (hi_of w part) log e ok.is_log fits;
  takes = takes_push log e ok.takes above;
  gives = gives_push log e ok.gives above;
  entries = Each-append (EntryOk w part) log (e ∷ []) ok.entries (is, tt);
}
