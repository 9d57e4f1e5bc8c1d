-- The machine where one partition's log has grown, by one of its pushes after the other.
use Rattle.std.proofs.Common.{◌≡◌, ◌≢◌, ◌⊎◌, inl, inr, ℕ, ◌-◌, List, [], ◌∷◌, ◌++◌, set-set, refl, ap, sym, ◌∙◌, subst, Some}
use Rattle.curp_base.specs.Words.{Each, IsPrefix, numbered}
use Rattle.curp_base.proofs.Lists.{Each-append, prefix_at}
use Rattle.curp_cmd.specs.declared.entry.Entry.{Entry}
use Rattle.curp_msg.specs.declared.config.PartConfig.{PartConfig}
use Rattle.curp_model.specs.Log.{log_opening}
use Rattle.curp_model.specs.Marks.{Mark}
use Rattle.curp_model.specs.World.{World}
use Rattle.curp_facts.specs.Entries.{LogOk}
use Rattle.curp_facts.specs.Facts.{hi_of, lo_of}
use Rattle.curp_facts.specs.Kept.{AdoptedLog}
use Rattle.curp_facts.specs.Known.{Known}
use Rattle.curp_law_linear.specs.Hashes.{Part}
use Rattle.curp_law_linear.specs.Line.{LineState}
use Rattle.curp_law_linear.specs.Moves.{AllFit, Fits, LineMove, after, all_after, pushed, relogged}
use Rattle.curp_law_linear.specs.OfWorld.{left_of, line_of, moving_of, part_of}
use Rattle.curp_law_linear.proofs.Discharged.{IsPlainLog, logs_ok}
use Rattle.curp_law_linear.proofs.Given.{LogsOk}
use Rattle.curp_base.proofs.Numbered.{numbered_set_cases, numbered_set_other, numbered_set_same}
use Rattle.curp_law_linear.specs.Refined.{NoAdoption}
use Rattle.curp_law_linear.specs.Ordered.{MigrationsRise, Ordered}
use Rattle.curp_law_linear.proofs.Parts.{entry_part, gives_move, part_entry, plain, rise_alone, takes_move}
use Rattle.curp_law_kept.specs.GivesFit.{GivesFit}
use Rattle.curp_law_kept.specs.Migrations.{give_number, take_number}
use Rattle.curp_law_kept.proofs.Gives.{gives_fit_prefix, log_prefix}
use Rattle.curp_facts.specs.Predecessors.{Predecessors}
use Rattle.curp_law_runs.proofs.Gives.{range_ordered}
use Rattle.curp_facts.specs.Migrated.{Migrated}
use Rattle.curp_facts.specs.Routes.{Routes}
use Rattle.curp_law_linear.proofs.MastersRise.{new_fit, new_rise}

-- these moves, each of which can be made and none of which adopts, lead from one state to the other
pub record Leads (s t : LineState) : Type 0 where
  pub moves : List LineMove
  pub fit : AllFit LogsOk s moves
  pub leads : all_after s moves ≡ t
  pub steady : Each NoAdoption moves

pub leads_none : (s t : LineState) → s ≡ t → Leads s t
leads_none s t same = record { moves = []; fit = tt; leads = same; steady = tt }

-- one move before others
pub leads_first : (s t : LineState) (m : LineMove) → NoAdoption m → Fits s m → LogsOk s.parts → Leads (after s m) t → Leads s t
leads_first s t m steady fits logs more = record { moves = m ∷ more.moves; fit = (fits, logs, more.fit); leads = more.leads; steady = (steady, more.steady) }

all_append : (ms ns : List LineMove) (s : LineState) → all_after s (ms ++ ns) ≡ all_after (all_after s ms) ns
all_append [] ns s = refl
all_append (m ∷ ms) ns s = all_append ms ns (after s m)

fit_append : (ms ns : List LineMove) (s : LineState) → AllFit LogsOk s ms → AllFit LogsOk (all_after s ms) ns → AllFit LogsOk s (ms ++ ns)
fit_append [] ns s p q = q
fit_append (m ∷ ms) ns s p q = (p.0, p.1, fit_append ms ns (after s m) p.2 q)

-- one list of moves after another
pub leads_on : (r s t : LineState) → Leads r s → Leads s t → Leads r t
leads_on r s t a b = record {
  moves = a.moves ++ b.moves;
  fit = fit_append a.moves b.moves r a.fit (subst (λ (x : LineState). AllFit LogsOk x b.moves) (sym a.leads) b.fit);
  leads = all_append a.moves b.moves r ∙ ap (λ (x : LineState). all_after x b.moves) a.leads ∙ b.leads;
  steady = Each-append NoAdoption a.moves b.moves a.steady b.steady;
}

module _ {w : World} (known : Known w) (chain : Predecessors w) (routes : Routes w) (migrated : Migrated w) (ordered : Ordered w)
    (c : PartConfig) (l : AdoptedLog w c) (new : List Entry) (prefix : IsPrefix l.its.log new) (ok : LogOk w c.part new) where
  -- the partition with that log
  abbrev pub part_at : List Entry → Part
  part_at log = record (part_of w c) { log = log }

  -- the machine where the partition has that log, with these marks
  abbrev pub line_at : List Entry → List Mark → LineState
  line_at log marks = record {
    parts = relogged (line_of w).parts c.part (part_of w c) log;
    moving = moving_of w.manager.moving;
    told = (line_of w).told;
    marks = marks;
    history = w.history;
    left = left_of w;
  }

  pub here_at : (log : List Entry) (marks : List Mark) → numbered (line_at log marks).parts c.part ≡ Some (part_at log)
  here_at log marks = numbered_set_same (line_of w).parts c.part (part_of w c) (part_at log) (entry_part known c l.now)

  -- each other partition is as it was
  pub part_cases : (log : List Entry) (marks : List Mark) (k : ℕ) (q : Part) → numbered (line_at log marks).parts k ≡ Some q
      → ((k ≢ c.part) × (numbered (line_of w).parts k ≡ Some q)) ⊎ ((k ≡ c.part) × (part_at log ≡ q))
  part_cases log marks k q h = numbered_set_cases (line_of w).parts c.part (part_of w c) (part_at log) (entry_part known c l.now) k q h

  pub part_other : (log : List Entry) (marks : List Mark) (k : ℕ) (q : Part) → k ≢ c.part → numbered (line_of w).parts k ≡ Some q → numbered (line_at log marks).parts k ≡ Some q
  part_other log marks k q other h = numbered_set_other (line_of w).parts c.part (part_of w c) (part_at log) (entry_part known c l.now) k q other h

  -- a beginning of the new log is a log by itself
  plain_at : (log : List Entry) → IsPrefix log new → IsPlainLog (part_at log)
  plain_at log p =
      let rise : MigrationsRise log = (λ i j m n d e low at to x y. new_rise known chain routes migrated ordered c l new prefix ok i j m n d e low (prefix_at p i d at) (prefix_at p j e to) x y) in
      record {
        ordered = range_ordered w c.part;
        is_log = log_prefix (lo_of w c.part) (hi_of w c.part) log new p ok.is_log;
        gives_fit = gives_fit_prefix log p.rest (log_opening (lo_of w c.part) (hi_of w c.part)) 0 (subst (GivesFit (log_opening (lo_of w c.part) (hi_of w c.part)) 0) (sym p.is) (new_fit known chain routes migrated ordered c l new prefix ok));
        takes = rise_alone take_number takes_move log rise;
        gives = rise_alone give_number gives_move log rise;
      }

  -- so all logs are
  pub logs_at : (log : List Entry) (marks : List Mark) → IsPrefix log new → LogsOk (line_at log marks).parts
  logs_at log marks p = logs_ok (line_at log marks).parts (λ n q h. elim (part_cases log marks n q h) [
    | inl other ↦ let o = part_entry known n q other.1 in subst IsPlainLog (sym o.3) (plain known ordered o.0 o.1)
    | inr its ↦ subst IsPlainLog its.1 (plain_at log p)
  ])

  -- one more entry
  pub one_pushed : (log : List Entry) (marks more : List Mark) (e : Entry)
      → record (line_at log marks) { parts = pushed (line_at log marks).parts c.part (part_at log) e; marks = more } ≡ line_at (log ++ e ∷ []) more
  one_pushed log marks more e =
      ap (λ (parts : List Part). record (line_at log more) { parts = parts }) (set-set (line_of w).parts (c.part - 1) (part_at log) (part_at (log ++ e ∷ [])))
