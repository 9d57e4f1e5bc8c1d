-- What an op that was answered early, a synced one, and one that was collected leave on a backup's log and in its replay.
use Rattle.std.proofs.Common.{◌≡◌, ◌≤◌, ◌<◌, inl, inr, ℕ, false, List, [], ◌∷◌, ◌++◌, length, take, refl, ap, sym, ◌∙◌, subst, arith}
use Rattle.std.specs.List.{IsDistinct}
use Rattle.std.proofs.lemmas.Bool.{cases_lt}
use Rattle.curp_base.specs.Words.{At, Each, IsPrefix}
use Rattle.curp_base.proofs.Lists.{at_within, prefix_at, prefix_back}
use Rattle.curp_cmd.specs.declared.command.Answer.{Answer}
use Rattle.curp_cmd.specs.declared.command.Request.{Request}
use Rattle.curp_cmd.specs.declared.command.RequestId.{RequestId}
use Rattle.curp_cmd.specs.declared.entry.Entry.{Entry}
use Rattle.curp_cmd.specs.declared.entry.Entry.TheVariants.{Op, Take, Give, Expire}
use Rattle.curp_model.specs.Laws.{clash}
use Rattle.curp_model.specs.Log.{IsDone, IsLog, Stands, answer_after, entry_touches}
use Rattle.curp_model.specs.Recovery.{replay}
use Rattle.curp_cmd.specs.Hash.{hashes}
use Rattle.curp_facts.specs.Reach.{Tells}
use Rattle.curp_law_kept.specs.Hashes.{NotNew}
use Rattle.curp_law_kept.specs.GivesFit.{GivesWithin}
use Rattle.curp_law_kept.specs.Standing.{IsFree, StandsHere}
use Rattle.curp_law_kept.proofs.Logs.{known_mono_take, op_new, take_grows}
use Rattle.curp_law_kept.proofs.Standings.{tells_alike}
use Rattle.curp_law_kept.proofs.Replayed.{replay_prefix, replayed_alike}

-- ---- two forms of standing

pub stands_from_here : (lo hi : ℕ) (log : List Entry) (index : ℕ) (id : RequestId) (a : Answer) → StandsHere lo hi log index id a → Stands lo hi log id a
stands_from_here lo hi log index id a s = by_entry s.entry s.stands s.tells
  where
    by_entry : (e : Entry) → At log index e → Tells lo hi log index id a e → Stands lo hi log id a
    by_entry (Op r acknowledged) at t = inl (record { index = index; request = r; acknowledged = acknowledged; stands = at; its_id = t.0; its_answer = t.1 })
    by_entry (Take migration taken) at t = absurd t
    by_entry (Give migration brought) at t = inr (record { index = index; migration = migration; brought = brought; stands = at; place = t.place; its_record = t.stands })
    by_entry (Expire client) at t = absurd t

-- what stands in a log below the length of its beginning stands there
pub stands_back : (lo hi : ℕ) (xs ys : List Entry) (index : ℕ) (id : RequestId) (a : Answer) → IsPrefix xs ys → index < length xs → StandsHere lo hi ys index id a → StandsHere lo hi xs index id a
stands_back lo hi xs ys index id a p within s = record {
  entry = s.entry;
  stands = prefix_back p index s.entry within s.stands;
  tells = tells_alike lo hi ys xs index id a s.entry (sym (take_grows index p (omega arith))) s.tells;
}

-- what stands below a backup's length stands in the backup's log, and in each longer one
pub synced_stands : (lo hi : ℕ) (log backup : List Entry) (index : ℕ) (id : RequestId) (a : Answer) → IsPrefix backup log → index < length backup → StandsHere lo hi log index id a → Stands lo hi backup id a
synced_stands lo hi log backup index id a p within s = stands_from_here lo hi backup index id a (stands_back lo hi backup log index id a p within s)

-- what is done in a log is done in a longer one
pub done_grows : (lo hi : ℕ) (xs ys : List Entry) (id : RequestId) (a : Answer) → IsPrefix xs ys → IsDone lo hi xs id a → IsDone lo hi ys id a
done_grows lo hi xs ys id a p d =
    let within : d.index < length xs = at_within xs d.index (Op d.request d.acknowledged) d.stands in
    record {
      index = d.index;
      request = d.request;
      acknowledged = d.acknowledged;
      stands = prefix_at p d.index (Op d.request d.acknowledged) d.stands;
      its_id = d.its_id;
      its_answer = ap (λ (es : List Entry). answer_after lo hi es d.request.command) (take_grows d.index p (omega arith)) ∙ d.its_answer;
    }

-- and so does what stands in it
pub stands_grows : (lo hi : ℕ) (xs ys : List Entry) (id : RequestId) (a : Answer) → IsPrefix xs ys → Stands lo hi xs id a → Stands lo hi ys id a
stands_grows lo hi xs ys id a p s = elim s [
  | inl done ↦ inl (done_grows lo hi xs ys id a p done)
  | inr brought ↦ inr (record {
    index = brought.index;
    migration = brought.migration;
    brought = brought.brought;
    stands = prefix_at p brought.index _ brought.stands;
    place = brought.place;
    its_record = brought.its_record;
  })
]

-- ---- an op that was collected

-- an op whose id isn't new after so many entries is one of them
pub collected_below : (lo hi : ℕ) (log : List Entry) (i count : ℕ) (r : Request) (acknowledged : ℕ) → IsLog lo hi log → At log i (Op r acknowledged) → NotNew lo hi (take count log) r.id → i < count
collected_below lo hi log i count r acknowledged fits at old = elim (cases_lt i count) [
  | inl below ↦ below
  | inr above ↦ absurd (known_mono_take lo hi count i log r.id above old (op_new lo hi log i r acknowledged fits at))
]

-- ---- an op that was answered early

-- with nothing on its hashes from a number on that the backup has, it stands in the backup's log or is replayed behind it
pub early_replayed : (lo hi : ℕ) (log backup : List Entry) (synced i : ℕ) (r : Request) (acknowledged : ℕ) → lo ≤ hi → IsLog lo hi log → GivesWithin log → IsPrefix backup log
    → At log i (Op r acknowledged) → synced ≤ i → synced ≤ length backup → ((k : ℕ) (e : Entry) → synced ≤ k → k < i → At log k e → Each (λ h. entry_touches e h ≡ false) (hashes r.command))
    → (rs : List Request) (j : ℕ) (q : Request) → IsDistinct clash rs → At rs j q → q.id ≡ r.id → q.command ≡ r.command
    → IsDone lo hi (replay lo hi backup rs) r.id (answer_after lo hi (take i log) r.command)
early_replayed lo hi log backup synced i r acknowledged l fits gives p at below stored free rs j q apart held same_id same_command = elim (cases_lt i (length backup)) [
  | inl within ↦ done_grows lo hi backup (replay lo hi backup rs) r.id (answer_after lo hi (take i log) r.command) (replay_prefix lo hi rs backup) (record {
    index = i;
    request = r;
    acknowledged = acknowledged;
    stands = prefix_back p i (Op r acknowledged) within at;
    its_id = refl;
    its_answer = ap (λ (es : List Entry). answer_after lo hi es r.command) (sym (take_grows i p (omega arith)));
  })
  | inr past ↦
      let cut : take (length backup) log ≡ backup = ap (take (length backup)) (sym p.is) ∙ take_whole backup p.rest in
      let free_there : IsFree log (length backup) i r = record { acknowledged = acknowledged; stands = at; behind = past; apart = λ k e from to at_k. free k e (omega arith) to at_k } in
      let d = (replayed_alike lo hi log (length backup) i r l fits gives free_there rs j q apart held same_id same_command).1 in
      subst (λ (es : List Entry). IsDone lo hi (replay lo hi es rs) r.id (answer_after lo hi (take i log) r.command)) cut
      (subst (λ (id : RequestId). IsDone lo hi (replay lo hi (take (length backup) log) rs) id (answer_after lo hi (take i log) r.command)) same_id d)
]
  where
    take_whole : (xs ys : List Entry) → take (length xs) (xs ++ ys) ≡ xs
    take_whole [] ys = refl
    take_whole (x ∷ xs) ys = ap (λ (w : List Entry). x ∷ w) (take_whole xs ys)
