-- A recovery reports once all fresh backups have the whole log.
use Rattle.std.proofs.Common.{◌≡◌, ℕ, ◌≤◌, ◌&&◌, ◌||◌, nat_le, if◌then◌else◌, Bool, true, false, List, [], ◌∷◌, ◌++◌, length, map, Some, None, append-nil, append_assoc, refl, ap, sym, ◌∙◌, subst, arith}
use Rattle.std.proofs.Math.Bool.{or-false}
use Rattle.std.proofs.lemmas.Bool.{cond_both}
use Rattle.std.proofs.lemmas.Bool.Decides.{nat_tests}
use Rattle.std.proofs.lemmas.List.{map-append}
use Rattle.std.proofs.lemmas.List.Folds.{list_any-append}
use Rattle.std.specs.List.{list_all}
use Rattle.curp_base.specs.Words.{Each}
use Rattle.curp_cmd.proofs.Nodes.{same_node-self}
use Rattle.curp_cmd.specs.Node.{is_among, manager_node, same_node}
use Rattle.curp_cmd.specs.declared.command.Request.{Request}
use Rattle.curp_cmd.specs.declared.entry.Entry.{Entry}
use Rattle.curp_cmd.specs.declared.node.NodeId.{NodeId}
use Rattle.curp_model.specs.Log.{is_log}
use Rattle.curp_model.specs.Recovery.{Asking, Fresh, MasterStage, Recovering, Replayed, Storing, all_complete, appends_whole, both_there, completed_by, fence_of, freeze_of, RecoveryState, Waiting, on_master, on_recover, recovered_message, replay, stored_comes, with_complete}
use Rattle.curp_msg.specs.declared.body.Body.TheVariants as body
use Rattle.curp_msg.specs.declared.body.Recover.{Recover}
use Rattle.curp_msg.specs.Moved.{Moved, quiet, sends, within}
use Rattle.curp_recover.proofs.Stored.{among_with, stored_whole}
use Rattle.curp_recover.specs.Reports.{IsWhole, StoredAnswer, after_stored, all_stored, answered, log_answer, ordered, replayed_log, stored_answer}

pub asks : (n : ℕ) (o : Recover) → (on_master n Fresh manager_node (body.Recover o)).messages ≡ fence_of n o ++ freeze_of n o
unfolding on_master on_recover
asks n o = refl

module _ (n : ℕ) (o : Recover) (epoch : ℕ) (entries : List Entry) (requests : List Request) (log : is_log o.lo o.hi entries ≡ true) where
  both : on_master n (on_master n (ordered n o) o.backup (log_answer epoch entries)).state o.witness (body.FrozenAnswer requests)
      ≡ within Recovering (both_there n o (Some entries) (Some requests))
  unfolding on_master on_recover
  both = rw (same_node-self o.backup, log, same_node-self o.witness) refl

  requests_first : (on_master n (ordered n o) o.witness (body.FrozenAnswer requests)).state ≡ Recovering (record { order = o; phase = Asking None (Some requests) })
  unfolding on_master on_recover
  requests_first = rw (same_node-self o.witness) refl

  log_second : on_master n (Recovering (record { order = o; phase = Asking None (Some requests) })) o.backup (log_answer epoch entries) ≡ within Recovering (both_there n o (Some entries) (Some requests))
  unfolding on_master
  log_second = rw (same_node-self o.backup, log) refl

  pub either : on_master n (on_master n (ordered n o) o.witness (body.FrozenAnswer requests)).state o.backup (log_answer epoch entries)
      ≡ on_master n (on_master n (ordered n o) o.backup (log_answer epoch entries)).state o.witness (body.FrozenAnswer requests)
  either = ap (λ (m : MasterStage). on_master n m o.backup (log_answer epoch entries)) requests_first ∙ log_second ∙ sym both

  pub stores : (on_master n (on_master n (ordered n o) o.backup (log_answer epoch entries)).state o.witness (body.FrozenAnswer requests)).messages
      ≡ appends_whole n o (replayed_log o entries requests) o.backups
  stores = ap (λ (m : Moved MasterStage). m.messages) both

  -- ---- storing

  -- it stores the replayed log, and these have it
  record StoresOn (m : MasterStage) (answers : List StoredAnswer) : Type 0 where
    replayed : Replayed
    is : m ≡ Recovering (record { order = o; phase = Storing replayed })
    long : length replayed.log ≡ length (replay o.lo o.hi entries requests)
    complete : (b : NodeId) → is_among b replayed.complete ≡ is_among b (map (λ (a : StoredAnswer). a.backup) answers)

  at_first : StoresOn (answered n o epoch entries requests) []
  at_first = record {
    replayed = replayed_log o entries requests;
    is = ap (λ (m : Moved MasterStage). m.state) both;
    long = refl;
    complete = λ b. refl;
  }

  -- one more has it
  one_more : (b : NodeId) (a : StoredAnswer) (answers : List StoredAnswer)
      → is_among b (map (λ (a : StoredAnswer). a.backup) (answers ++ a ∷ [])) ≡ (is_among b (map (λ (a : StoredAnswer). a.backup) answers) || same_node b a.backup)
  one_more b a answers =
      ap (is_among b) (map-append (λ (a : StoredAnswer). a.backup) answers (a ∷ []))
      ∙ list_any-append (same_node b) (map (λ (a : StoredAnswer). a.backup) answers) (a.backup ∷ [])
      ∙ ap (λ (x : Bool). is_among b (map (λ (a : StoredAnswer). a.backup) answers) || x) (or-false (same_node b a.backup))

  complete_after : (m : MasterStage) (answers : List StoredAnswer) (s : StoresOn m answers) (a : StoredAnswer) (b : NodeId)
      → is_among b (with_complete s.replayed a.backup).complete ≡ is_among b (map (λ (a : StoredAnswer). a.backup) (answers ++ a ∷ []))
  complete_after m answers s a b =
      among_with s.replayed b a.backup ∙ ap (λ (x : Bool). x || same_node b a.backup) (s.complete b) ∙ sym (one_more b a answers)

  all_alike : (f g : NodeId → Bool) (bs : List NodeId) → ((b : NodeId) → f b ≡ g b) → list_all f bs ≡ list_all g bs
  all_alike f g [] same = refl
  all_alike f g (b ∷ bs) same = rw (same b, all_alike f g bs same) refl

  -- what comes of one that says it has stored the whole log
  stored : (m : MasterStage) (answers : List StoredAnswer) (s : StoresOn m answers) (a : StoredAnswer) → IsWhole o entries requests a
      → on_master n m a.backup (stored_answer a) ≡ within Recovering (completed_by n o (with_complete s.replayed a.backup))
  unfolding on_master
  stored m answers s a whole =
      let enough : nat_le (length s.replayed.log) a.length ≡ true = grind (arith, nat_tests, s.long, whole.whole) in
      let takes : (is_among a.backup o.backups && nat_le (length s.replayed.log) a.length) ≡ true = rw (whole.fresh, enough) refl in
      rw s.is (ap (within Recovering) (stored_whole n (record { order = o; phase = Storing s.replayed }) a.backup a.length s.replayed takes))

  told : (m : MasterStage) (answers : List StoredAnswer) (s : StoresOn m answers) (a : StoredAnswer)
      → all_complete o (with_complete s.replayed a.backup) ≡ all_stored o (answers ++ a ∷ [])
  told m answers s a = all_alike _ _ o.backups (complete_after m answers s a)

  not_yet : (r : Replayed) → all_complete o r ≡ false → completed_by n o r ≡ quiet (record { order = o; phase = Storing r })
  not_yet r some = rw some refl

  all_have : (r : Replayed) → all_complete o r ≡ true → completed_by n o r ≡ sends (record { order = o; phase = Waiting r }) (recovered_message n o)
  all_have r all = rw all refl

  keeps_log : (r : Replayed) (b : NodeId) → (with_complete r b).log ≡ r.log
  keeps_log r b = cond_both (is_among b r.complete) _ _ (λ (x : Replayed). x.log ≡ r.log) (λ there. refl) (λ new. refl)

  goes_on : (m : MasterStage) (answers : List StoredAnswer) (s : StoresOn m answers) (a : StoredAnswer) → IsWhole o entries requests a
      → all_stored o (answers ++ a ∷ []) ≡ false
      → StoresOn (on_master n m a.backup (stored_answer a)).state (answers ++ a ∷ [])
  goes_on m answers s a whole some = record {
    replayed = with_complete s.replayed a.backup;
    is = ap (λ (x : Moved MasterStage). x.state) (stored m answers s a whole)
        ∙ ap (λ (x : Moved RecoveryState). Recovering x.state) (not_yet (with_complete s.replayed a.backup) (told m answers s a ∙ some));
    long = ap (λ (es : List Entry). length es) (keeps_log s.replayed a.backup) ∙ s.long;
    complete = complete_after m answers s a;
  }

  silent : (m : MasterStage) (answers : List StoredAnswer) (s : StoresOn m answers) (a : StoredAnswer) → IsWhole o entries requests a
      → all_stored o (answers ++ a ∷ []) ≡ false → (on_master n m a.backup (stored_answer a)).messages ≡ []
  silent m answers s a whole some =
      ap (λ (x : Moved MasterStage). x.messages) (stored m answers s a whole)
      ∙ ap (λ (x : Moved RecoveryState). x.messages) (not_yet (with_complete s.replayed a.backup) (told m answers s a ∙ some))

  ends : (m : MasterStage) (answers : List StoredAnswer) (s : StoresOn m answers) (a : StoredAnswer) → IsWhole o entries requests a
      → all_stored o (answers ++ a ∷ []) ≡ true → (on_master n m a.backup (stored_answer a)).messages ≡ recovered_message n o
  ends m answers s a whole all =
      ap (λ (x : Moved MasterStage). x.messages) (stored m answers s a whole)
      ∙ ap (λ (x : Moved RecoveryState). x.messages) (all_have (with_complete s.replayed a.backup) (told m answers s a ∙ all))

  -- ---- one after the other

  both_true : (a b : Bool) → (a && b) ≡ true → (a ≡ true) × (b ≡ true)
  both_true true b all = (refl, all)
  both_true false b all = absurd cc

  all_up : (f g : NodeId → Bool) (bs : List NodeId) → ((b : NodeId) → f b ≡ true → g b ≡ true) → list_all f bs ≡ true → list_all g bs ≡ true
  all_up f g [] up all = refl
  all_up f g (b ∷ bs) up all =
      let here = both_true (f b) (list_all f bs) all in
      rw (up b here.0, all_up f g bs up here.1) refl

  more_stored : (xs ys : List StoredAnswer) → all_stored o xs ≡ true → all_stored o (xs ++ ys) ≡ true
  more_stored xs ys all = all_up _ _ o.backups up all
    where
      up : (b : NodeId) → is_among b (map (λ (a : StoredAnswer). a.backup) xs) ≡ true → is_among b (map (λ (a : StoredAnswer). a.backup) (xs ++ ys)) ≡ true
      up b there =
          ap (is_among b) (map-append (λ (a : StoredAnswer). a.backup) xs ys)
          ∙ list_any-append (same_node b) (map (λ (a : StoredAnswer). a.backup) xs) (map (λ (a : StoredAnswer). a.backup) ys)
          ∙ ap (λ (x : Bool). x || is_among b (map (λ (a : StoredAnswer). a.backup) ys)) there

  fewer_stored : (xs ys : List StoredAnswer) → all_stored o (xs ++ ys) ≡ false → all_stored o xs ≡ false
  fewer_stored xs ys some = go (all_stored o xs) refl
    where
      go : (b : Bool) → all_stored o xs ≡ b → b ≡ false
      go false is = refl
      go true is = let both : true ≡ false = sym (more_stored xs ys is) ∙ some in absurd cc

  walks : (more : List StoredAnswer) (m : MasterStage) (answers : List StoredAnswer) → StoresOn m answers → Each (IsWhole o entries requests) more
      → all_stored o (answers ++ more) ≡ false → StoresOn (after_stored n m more) (answers ++ more)
  walks [] m answers s whole some = rw (append-nil answers) s
  walks (a ∷ more) m answers s whole some =
      let all : (answers ++ a ∷ []) ++ more ≡ answers ++ a ∷ more = append_assoc answers (a ∷ []) more in
      let not_all : all_stored o ((answers ++ a ∷ []) ++ more) ≡ false = ap (all_stored o) all ∙ some in
      subst (StoresOn (after_stored n m (a ∷ more))) all
      (walks more (on_master n m a.backup (stored_answer a)).state (answers ++ a ∷ []) (goes_on m answers s a whole.0 (fewer_stored (answers ++ a ∷ []) more not_all)) whole.1 not_all)

  -- ---- the law

  module _ (answers : List StoredAnswer) (last : StoredAnswer) (whole : Each (IsWhole o entries requests) (answers ++ last ∷ [])) where
    apart : Each (IsWhole o entries requests) answers × IsWhole o entries requests last
    apart = go answers whole
      where
        go : (answers : List StoredAnswer) → Each (IsWhole o entries requests) (answers ++ last ∷ []) → Each (IsWhole o entries requests) answers × IsWhole o entries requests last
        go [] whole = (tt, whole.0)
        go (a ∷ more) whole = let rest = go more whole.1 in ((whole.0, rest.0), rest.1)

    so_far : all_stored o answers ≡ false → StoresOn (after_stored n (answered n o epoch entries requests) answers) answers
    so_far some = walks answers (answered n o epoch entries requests) [] at_first apart.0 some

    pub waits : all_stored o (answers ++ last ∷ []) ≡ false
        → (on_master n (after_stored n (answered n o epoch entries requests) answers) last.backup (stored_answer last)).messages ≡ []
    waits some = silent _ answers (so_far (fewer_stored answers (last ∷ []) some)) last apart.1 some

    pub reports : all_stored o answers ≡ false → all_stored o (answers ++ last ∷ []) ≡ true
        → (on_master n (after_stored n (answered n o epoch entries requests) answers) last.backup (stored_answer last)).messages ≡ recovered_message n o
    reports some all = ends _ answers (so_far some) last apart.1 all
