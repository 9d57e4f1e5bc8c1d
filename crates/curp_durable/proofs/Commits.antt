-- What a crash leaves in the two steps of an append, and what is there after both.
use Rattle.std.specs.Prelude.{◌≡◌, ℕ, ◌+◌, ◌<◌, ◌≤◌, List, [], ◌∷◌, ◌++◌, length, take, drop, get_or}
use Rattle.std.proofs.Common.{sym, ◌∙◌, ap, subst, arith, append_assoc}
use Rattle.std.proofs.lemmas.List.{length-take-le, drop_at, drop_more, take-take, get_or_at}
use Rattle.curp_disk.specs.Disk.{Torn, over}
use Rattle.curp_disk.specs.Moments.{torn_over, length-over}
use Rattle.curp_durable.specs.Appending.{IsShut, IsStaged}

-- a write behind the commit byte leaves all up to the commit byte
pub torn_behind : (old : List ℕ) (commit n : ℕ) (c : List ℕ) → Torn (commit + 1) n old c → IsShut old commit c
torn_behind old commit n c torn = torn.before

module _ (old : List ℕ) (commit : ℕ) (piece : List ℕ) (within : commit < length old) where
  prefix_length : length (take (commit + 1) old) ≡ commit + 1
  prefix_length = length-take-le (commit + 1) old (omega (arith, within))

  pub prefix_kept : take (commit + 1) (over old (commit + 1) piece) ≡ take (commit + 1) old
  prefix_kept = (torn_over old (commit + 1) piece (omega (arith, within))).before

  pub back_is : drop (commit + 1) (over old (commit + 1) piece) ≡ piece ++ drop (commit + 1 + length piece) old
  back_is =
      ap (λ (l : List ℕ). drop (commit + 1) l) (append_assoc (take (commit + 1) old) piece (drop (commit + 1 + length piece) old))
      ∙ drop_at (take (commit + 1) old) (piece ++ drop (commit + 1 + length piece) old) (commit + 1) prefix_length

  pub commit_within : commit ≤ length (over old (commit + 1) piece)
  commit_within = omega (arith, within, length-over old (commit + 1) piece (omega (arith, within)))

  -- the commit byte's own write leaves the record, and any byte in the commit byte
  pub torn_commit : (c : List ℕ) → Torn commit 1 (over old (commit + 1) piece) c → IsStaged old commit piece c
  torn_commit c torn =
      let long = length-over old (commit + 1) piece (omega (arith, within)) in
      record {
        prefix = torn.before
            ∙ sym (take-take commit (commit + 1) (over old (commit + 1) piece) (omega arith)) ∙ ap (λ (l : List ℕ). take commit l) prefix_kept ∙ take-take commit (commit + 1) old (omega arith);
        any = get_or c commit 0;
        tail = drop (commit + 1 + length piece) old;
        back = drop_more c commit 0 (omega (arith, within, long, torn.no_shorter)) ∙ ap (λ (l : List ℕ). get_or c commit 0 ∷ l) (torn.after ∙ back_is);
      }

  -- both writes done
  pub opened : (c : List ℕ) → c ≡ over (over old (commit + 1) piece) commit (1 ∷ []) → (take commit c ≡ take commit old) × (drop commit c ≡ 1 ∷ (piece ++ drop (commit + 1 + length piece) old))
  unfolding torn_commit
  opened c is =
      let torn : Torn commit 1 (over old (commit + 1) piece) c = subst (λ (d : List ℕ). Torn commit 1 (over old (commit + 1) piece) d) (sym is) (torn_over (over old (commit + 1) piece) commit (1 ∷ []) commit_within) in
      let staged = torn_commit c torn in
      let prefix : length (take commit (over old (commit + 1) piece)) ≡ commit = length-take-le commit (over old (commit + 1) piece) commit_within in
      let byte : get_or c commit 0 ≡ 1 =
      ap (λ (l : List ℕ). get_or l commit 0) (is ∙ append_assoc (take commit (over old (commit + 1) piece)) (1 ∷ []) (drop (commit + 1) (over old (commit + 1) piece)))
      ∙ get_or_at (take commit (over old (commit + 1) piece)) 1 (drop (commit + 1) (over old (commit + 1) piece)) 0 commit prefix in
      (staged.prefix, staged.back ∙ ap (λ (b : ℕ). b ∷ (piece ++ drop (commit + 1 + length piece) old)) byte)
