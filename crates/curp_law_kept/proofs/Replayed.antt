-- Replays: they make logs, and a request that nothing touched is replayed with the answer that it had.
use Rattle.std.proofs.Common.{◌≡◌, ◌⊎◌, inl, inr, ◌≤◌, ◌<◌, ◌&&◌, ℕ, suc, ◌+◌, Bool, true, false, cond, List, [], ◌∷◌, ◌++◌, length, take, refl, ap, sym, ◌∙◌, subst, arith}
use Rattle.std.specs.List.{IsDistinct}
use Rattle.std.proofs.lemmas.Bool.{and_parts, and_from}
use Rattle.std.proofs.lemmas.List.{length-take-le}
use Rattle.curp_base.specs.Words.{At, IsPrefix}
use Rattle.curp_base.proofs.Lists.{at_append_right, at_push_cases, at_take, at_within, prefix_self, prefix_trans, prefix_push}
use Rattle.curp_cmd.specs.Hash.{hashes, touches}
use Rattle.curp_cmd.specs.declared.command.Command.{Command}
use Rattle.curp_cmd.specs.declared.command.Request.{Request}
use Rattle.curp_cmd.specs.declared.entry.Entry.{Entry}
use Rattle.curp_cmd.specs.declared.entry.Entry.TheVariants.{Op, Give}
use Rattle.curp_model.specs.declared.Check.TheVariants.{New}
use Rattle.curp_facts.specs.Facts.{IsAmong}
use Rattle.curp_model.specs.Laws.{clash}
use Rattle.curp_model.specs.Log.{IsDone, IsLog, answer_after, entry_touches, is_new, meaning}
use Rattle.curp_model.specs.Ranges.{owns_all}
use Rattle.curp_model.specs.Recovery.{replay, replays}
use Rattle.curp_model.specs.Table.{check}
use Rattle.curp_model.proofs.Replays.{alone}
use Rattle.curp_law_kept.proofs.Values.{commute, second_alone}
use Rattle.curp_law_kept.proofs.Logs.{log_push, new_before, op_new, op_owned, prefix_takes}
use Rattle.curp_law_kept.proofs.Ranges.{each_touched}
use Rattle.curp_law_kept.specs.Standing.{IsFree, Untouched}
use Rattle.curp_law_kept.specs.GivesFit.{GivesWithin}
use Rattle.curp_law_kept.proofs.Untouched.{answer_untouched, owns_untouched}

-- ---- a replay makes a log

swap_and : (a b : Bool) → (a && b) ≡ true → (b && a) ≡ true
swap_and a b e = let p = and_parts a b e in and_from _ _ p.1 p.0

-- what is replayed behind a log makes a log
pub replay_log : (lo hi : ℕ) (rs : List Request) (log : List Entry) → IsLog lo hi log → IsLog lo hi (replay lo hi log rs)
replay_log lo hi [] log fits = fits
replay_log lo hi (r ∷ rs) log fits = go (replays (meaning lo hi log) r) refl (replay_log lo hi rs (log ++ Op r 0 ∷ [])) (replay_log lo hi rs log fits)
  where
    go : (b : Bool) → replays (meaning lo hi log) r ≡ b → (IsLog lo hi (log ++ Op r 0 ∷ []) → IsLog lo hi (replay lo hi (log ++ Op r 0 ∷ []) rs)) → IsLog lo hi (replay lo hi log rs)
        → IsLog lo hi (cond b (replay lo hi (log ++ Op r 0 ∷ []) rs) (replay lo hi log rs))
    go true y longer same = longer (log_push lo hi log (Op r 0) fits (swap_and (owns_all (meaning lo hi log).owned (hashes r.command)) _ y))
    go false n longer same = same

-- which begins with it
pub replay_prefix : (lo hi : ℕ) (rs : List Request) (log : List Entry) → IsPrefix log (replay lo hi log rs)
replay_prefix lo hi [] log = prefix_self log
replay_prefix lo hi (r ∷ rs) log = go (replays (meaning lo hi log) r) (replay_prefix lo hi rs (log ++ Op r 0 ∷ [])) (replay_prefix lo hi rs log)
  where
    go : (b : Bool) → IsPrefix (log ++ Op r 0 ∷ []) (replay lo hi (log ++ Op r 0 ∷ []) rs) → IsPrefix log (replay lo hi log rs) → IsPrefix log (cond b (replay lo hi (log ++ Op r 0 ∷ []) rs) (replay lo hi log rs))
    go true longer same = prefix_trans (prefix_push log (Op r 0 ∷ [])) longer
    go false longer same = same

-- what a replay adds are ops of the requests, which acknowledge nothing
pub replay_cases : (lo hi : ℕ) (rs : List Request) (log : List Entry) (k : ℕ) (e : Entry) → At (replay lo hi log rs) k e → At log k e ⊎ ((r : Request) × IsAmong r rs × (e ≡ Op r 0))
replay_cases lo hi [] log k e at = inl at
replay_cases lo hi (r ∷ rs) log k e at = go (replays (meaning lo hi log) r) at (replay_cases lo hi rs (log ++ Op r 0 ∷ []) k e) (replay_cases lo hi rs log k e)
  where
    later : (s : Request) → IsAmong s rs → IsAmong s (r ∷ rs)
    later s m = record { place = suc m.place; stands = m.stands }

    go : (b : Bool) → At (cond b (replay lo hi (log ++ Op r 0 ∷ []) rs) (replay lo hi log rs)) k e
        → (At (replay lo hi (log ++ Op r 0 ∷ []) rs) k e → At (log ++ Op r 0 ∷ []) k e ⊎ ((s : Request) × IsAmong s rs × (e ≡ Op s 0)))
        → (At (replay lo hi log rs) k e → At log k e ⊎ ((s : Request) × IsAmong s rs × (e ≡ Op s 0)))
        → At log k e ⊎ ((s : Request) × IsAmong s (r ∷ rs) × (e ≡ Op s 0))
    go true at longer same = elim (longer at) [
      | inl old ↦ elim (at_push_cases log (Op r 0) k e old) [
        | inl in_log ↦ inl in_log
        | inr own ↦ inr (r, record { place = 0; stands = refl }, sym own.1)
      ]
      | inr new ↦ inr (new.0, later new.0 new.1, new.2)
    ]
    go false at longer same = elim (same at) [
      | inl old ↦ inl old
      | inr new ↦ inr (new.0, later new.0 new.1, new.2)
    ]

-- ---- a request that nothing touched behind a beginning

between_at : (log : List Entry) (c i : ℕ) (p : IsPrefix (take c log) (take i log)) → c ≤ i → i < length log → (k : ℕ) (e : Entry) → At p.rest k e → (c + k < i) × At log (c + k) e
between_at log c i p l within k e at =
    let long : length (take c log) ≡ c = length-take-le c log (omega arith) in
    let here : At (take c log ++ p.rest) (c + k) e = at_append_right (take c log) p.rest k (c + k) e (omega (arith, long)) at in
    at_take i log (c + k) e (subst (λ (es : List Entry). At es (c + k) e) p.is here)

-- it is replayed behind the beginning, among requests that are apart, with the answer that it had
pub replayed_alike : (lo hi : ℕ) (log : List Entry) (c i : ℕ) (r : Request) → lo ≤ hi → IsLog lo hi log → GivesWithin log → IsFree log c i r → (rs : List Request) (j : ℕ) (q : Request) → IsDistinct clash rs → At rs j q → q.id ≡ r.id → q.command ≡ r.command
    → (replays (meaning lo hi (take c log)) q ≡ true) × IsDone lo hi (replay lo hi (take c log) rs) q.id (answer_after lo hi (take i log) r.command)
replayed_alike lo hi log c i r l fits gives free rs j q apart at same_id same_command =
    (is_replayed, (alone commute second_alone lo hi prefix rs j q (answer_after lo hi (take i log) r.command) apart at is_replayed).1 answer)
  where
    prefix : List Entry
    prefix = take c log

    within : i < length log
    within = at_within log i (Op r free.acknowledged) free.stands

    p : IsPrefix (take c log) (take i log)
    p = prefix_takes c i log free.behind

    out : (h : ℕ) → touches r.command h ≡ true → Untouched h p.rest
    out h t k e at =
        let b = between_at log c i p free.behind within k e at in
        each_touched (λ h. entry_touches e h ≡ false) r.command (free.apart (c + k) e (omega arith) b.0 b.1) h t

    gives_there : GivesWithin p.rest
    gives_there k migration x at = gives (c + k) migration x (between_at log c i p free.behind within k (Give migration x) at).1

    new : check (meaning lo hi prefix).table q.id ≡ New
    new = ap (check (meaning lo hi prefix).table) same_id ∙ new_before lo hi prefix (take i log) r.id p (op_new lo hi log i r free.acknowledged fits free.stands)

    owned : owns_all (meaning lo hi prefix).owned (hashes q.command) ≡ true
    owned = ap (λ (c : Command). owns_all (meaning lo hi prefix).owned (hashes c)) same_command
        ∙ owns_untouched lo hi prefix p.rest r.command l out (ap (λ (es : List Entry). owns_all (meaning lo hi es).owned (hashes r.command)) p.is ∙ op_owned lo hi log i r free.acknowledged fits free.stands)

    is_replayed : replays (meaning lo hi prefix) q ≡ true
    is_replayed = and_from _ _ owned (ap is_new new)

    answer : answer_after lo hi (take i log) r.command ≡ answer_after lo hi prefix q.command
    answer = ap (λ (es : List Entry). answer_after lo hi es r.command) (sym p.is) ∙ answer_untouched lo hi prefix p.rest r.command gives_there out ∙ ap (answer_after lo hi prefix) (sym same_command)
