-- The first numbers of a log's table are those that its entries acknowledge or bring.
use Rattle.std.proofs.Common.{◌≡◌, ℕ, zero, suc, ◌+◌, nat_lt, Bool, true, false, cond, max, List, [], ◌∷◌, fold, Option, Some, None, unwrap_or, refl, sym, ◌∙◌, subst, arith}
use Rattle.std.specs.Bool.{⊤}
use Rattle.std.specs.FinMap.{nat_cmp-IsAntisymmetric}
use Rattle.std.specs.FinMap.Entries.{by_order, find, put}
use Rattle.std.specs.Ordering.{eq_by_cmp, nat_cmp}
use Rattle.std.specs.declared.cmp.Ordering.{Ordering}
use Rattle.std.specs.declared.cmp.Ordering.TheVariants.{Less, Equal, Greater}
use Rattle.std.proofs.lemmas.Bool.{cond_both}
use Rattle.std.proofs.lemmas.Bool.Decides.{nat_tests}
use Rattle.std.proofs.lemmas.Map.Views.{tells_apart}
use Rattle.curp_base.specs.Words.{Each}
use Rattle.curp_cmd.specs.RequestId.{id_cmp}
use Rattle.curp_cmd.specs.declared.command.Answer.{Answer}
use Rattle.curp_cmd.specs.declared.command.RequestId.{RequestId}
use Rattle.curp_cmd.specs.declared.entry.Entry.{Entry}
use Rattle.curp_cmd.specs.declared.entry.Entry.TheVariants.{Op, Take, Give, Expire}
use Rattle.curp_cmd.specs.declared.migration.TablePart.{TablePart}
use Rattle.curp_model.specs.declared.Check.{Check}
use Rattle.curp_model.specs.declared.Check.TheVariants.{Stale}
use Rattle.curp_model.specs.Log.{LogState, after_entries, after_entry, log_opening, meaning}
use Rattle.curp_model.specs.Table.{Noted, Table, check, first_number, is_gone, known, merge, note_once, raise_first}
use Rattle.curp_law_kept.proofs.MasterLists.{larger}

-- records that come leave the first numbers
noted_firsts : (index : ℕ) (es : List (RequestId × Answer)) (t : Table) → (fold (λ (u : Table) (e : RequestId × Answer). note_once index (find id_cmp e.0 u.records) u e.0 e.1) t es).firsts ≡ t.firsts
noted_firsts index [] t = refl
noted_firsts index (e ∷ es) t = noted_firsts index es (note_once index (find id_cmp e.0 t.records) t e.0 e.1) ∙ once (find id_cmp e.0 t.records)
  where
    once : (o : Option Noted) → (note_once index o t e.0 e.1).firsts ≡ t.firsts
    once None = refl
    once (Some n) = refl

-- ---- of clients and numbers

module _ (P : ℕ → ℕ → Type 0) where
  -- it holds of each line
  abbrev pub Lines : List (ℕ × ℕ) → Type 0
  Lines firsts = Each (λ (e : ℕ × ℕ). P e.0 e.1) firsts

  -- what an entry acknowledges or brings
  abbrev pub EntryLines : Entry → Type 0
  EntryLines (Op r acknowledged) = P r.id.client acknowledged
  EntryLines (Take migration taken) = ⊤
  EntryLines (Give migration given) = Lines given.table.firsts
  EntryLines (Expire client) = ⊤

  lines_put : (client n : ℕ) → P client n → (firsts : List (ℕ × ℕ)) → Lines firsts → Lines (put nat_cmp client n firsts)
  lines_put client n own [] all = (own, tt)
  lines_put client n own (e ∷ es) all = go (nat_cmp client e.0) refl (lines_put client n own es all.1)
    where
      go : (o : Ordering) → nat_cmp client e.0 ≡ o → Lines (put nat_cmp client n es) → Lines (by_order o ((client, n) ∷ e ∷ es) ((e.0, n) ∷ es) (e ∷ put nat_cmp client n es))
      go Less is more = (own, all)
      go Equal is more = (subst (λ (c : ℕ). P c n) (nat_cmp-IsAntisymmetric client e.0 is) own, all.1)
      go Greater is more = (all.0, more)

  line_found : (client n : ℕ) (firsts : List (ℕ × ℕ)) → Lines firsts → find nat_cmp client firsts ≡ Some n → P client n
  line_found client n [] all found = absurd cc
  line_found client n (e ∷ es) all found = go (eq_by_cmp nat_cmp client e.0) refl (line_found client n es all.1) found
    where
      go : (b : Bool) → eq_by_cmp nat_cmp client e.0 ≡ b → (find nat_cmp client es ≡ Some n → P client n) → cond b (Some e.1) (find nat_cmp client es) ≡ Some n → P client n
      go true is more here =
          let key : e.0 ≡ client = sym (tells_apart nat_cmp-IsAntisymmetric client e.0 is) in
          let number : e.1 ≡ n = cc in
          subst (λ (c : ℕ). P c n) key (subst (P e.0) number all.0)
      go false is more here = more here

  lines_raised : (client n : ℕ) → P client n → (firsts : List (ℕ × ℕ)) → Lines firsts → Lines (raise_first firsts client n)
  lines_raised client zero own firsts all = all
  lines_raised client (suc n) own firsts all = lines_put client (max (suc n) (unwrap_or (find nat_cmp client firsts) 0)) (go (find nat_cmp client firsts) refl) firsts all
    where
      go : (o : Option ℕ) → find nat_cmp client firsts ≡ o → P client (max (suc n) (unwrap_or o 0))
      go None is = let same : suc n ≡ max (suc n) 0 = omega arith in subst (P client) same own
      go (Some k) is = larger (P client) (suc n) k own (line_found client k firsts all is)

  lines_merged : (es firsts : List (ℕ × ℕ)) → Lines es → Lines firsts → Lines (fold (λ (fs : List (ℕ × ℕ)) (e : ℕ × ℕ). raise_first fs e.0 e.1) firsts es)
  lines_merged [] firsts new all = all
  lines_merged (e ∷ es) firsts new all = lines_merged es (raise_first firsts e.0 e.1) new.1 (lines_raised e.0 e.1 new.0 firsts all)

  lines_merge : (t : Table) (part : TablePart) (index : ℕ) → Lines part.firsts → Lines t.firsts → Lines (merge t part index).firsts
  unfolding merge
  lines_merge t part index new all = lines_merged part.firsts _ new (subst Lines (sym (noted_firsts index part.records t)) all)

  lines_entry : (s : LogState) (index : ℕ) (e : Entry) → EntryLines e → Lines s.table.firsts → Lines (after_entry s index e).table.firsts
  unfolding after_entry
  lines_entry s index (Op r acknowledged) own all = lines_raised r.id.client acknowledged own s.table.firsts all
  lines_entry s index (Take migration taken) own all = all
  lines_entry s index (Give migration given) own all = lines_merge s.table given.table index own all
  lines_entry s index (Expire client) own all = all

  lines_entries : (es : List Entry) (s : LogState) (index : ℕ) → Each EntryLines es → Lines s.table.firsts → Lines (after_entries s index es).table.firsts
  lines_entries [] s index all before = before
  lines_entries (e ∷ es) s index all before = lines_entries es (after_entry s index e) (index + 1) all.1 (lines_entry s index e all.0 before)

  -- what holds of all that entries acknowledge or bring holds of each line of the table
  pub lines_of_log : (lo hi : ℕ) (log : List Entry) → Each EntryLines log → Lines (meaning lo hi log).table.firsts
  lines_of_log lo hi log all = lines_entries log (log_opening lo hi) 0 all tt

  -- and of the number by which a request is stale
  pub stale_line : (t : Table) (id : RequestId) (first : ℕ) → Lines t.firsts → check t id ≡ Stale first → P id.client first
  unfolding check
  stale_line t id first all =
      cond_both (is_gone t id.client) _ _ (λ (c : Check). c ≡ Stale first → P id.client first) (λ g e. absurd cc)
      (λ g. cond_both (nat_lt id.seq (first_number t id.client)) _ _ (λ (c : Check). c ≡ Stale first → P id.client first)
      (λ l e. stale l e) (λ l e. absurd (not_stale (find id_cmp id t.records) e)))
    where
      not_stale : (o : Option Noted) → known o ≡ Stale first → ⊥
      not_stale None e = absurd cc
      not_stale (Some n) e = absurd cc

      stale : nat_lt id.seq (first_number t id.client) ≡ true → Stale (first_number t id.client) ≡ Stale first → P id.client first
      stale l e = go (find nat_cmp id.client t.firsts) refl l same
        where
          same : first_number t id.client ≡ first
          same = cc

          go : (o : Option ℕ) → find nat_cmp id.client t.firsts ≡ o → nat_lt id.seq (unwrap_or o 0) ≡ true → unwrap_or o 0 ≡ first → P id.client first
          go None is low eq = absurd (grind (arith, nat_tests))
          go (Some n) is low eq = subst (P id.client) eq (line_found id.client n t.firsts all is)
