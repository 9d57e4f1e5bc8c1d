-- What Prepared and Recovered say stays so.
use Rattle.std.proofs.Common.{◌≡◌, ◌∙◌, inl, inr, ℕ, zero, suc, ◌<◌, ◌≤◌, Bool, true, false, List, [], ◌∷◌, ◌++◌, length, drop, take, nat_lt, refl, ap, sym, subst, arith, Some}
use Rattle.std.proofs.lemmas.Bool.Decides.{nat_tests}
use Rattle.curp_base.specs.Words.{At, Each, IsPrefix}
use Rattle.curp_base.proofs.Lists.{Each-append, prefix_back, prefix_trans, at_within, prefix_length}
use Rattle.curp_cmd.specs.Node.{manager_node}
use Rattle.curp_cmd.specs.declared.entry.Entry.{Entry}
use Rattle.curp_cmd.specs.declared.node.NodeId.{NodeId}
use Rattle.curp_msg.specs.Moved.{says}
use Rattle.curp_msg.specs.declared.body.Body.TheVariants as body
use Rattle.curp_msg.specs.declared.body.Recovered.{Recovered}
use Rattle.curp_model.specs.Backup.{BackupState}
use Rattle.curp_model.specs.Master.{MasterState}
use Rattle.curp_model.specs.Named.{IsBackup, IsMaster}
use Rattle.curp_model.specs.Recovery.{Fresh, MasterStage, Recovering, Serving}
use Rattle.curp_model.specs.World.{World, messages}
use Rattle.curp_facts.specs.Facts.{ByRecovery, FirstPrepared, HasLog, IsOnlyExpire, LengthAt, Logged, node_log, PreparedOk, RecoveredOk, WasSent, lists_of_order, replay_of}
use Rattle.curp_facts.specs.Growth.{MasterGrows}
use Rattle.curp_facts.specs.Invariant.{Invariant}
use Rattle.curp_facts.specs.Nodes.{MasterOk}
use Rattle.curp_facts.specs.Said.{RecoveredSaid}
use Rattle.curp_law_kept.proofs.Logs.{take_grows}
use Rattle.curp_facts.specs.Names.{RecoverOrderOk}
use Rattle.curp_law_kept.proofs.KeepersStay.{prefixes_later, sources_later}
use Rattle.curp_law_kept.proofs.Words.{Follows, given_stays, log_later, master_later, message_at, one_state, reach_later, sent_later, there}

-- a list behind a prefix, from a place in the prefix on
drop_prefix : {A : Type 0} (n : ℕ) (xs ys : List A) → IsPrefix xs ys → n ≤ length xs → drop n ys ≡ drop n xs ++ drop (length xs) ys
drop_prefix {A} n xs ys p low = subst (λ zs. drop n zs ≡ drop n xs ++ drop (length xs) zs) p.is (go n xs p.rest low)
  where
    go : (n : ℕ) (xs rest : List A) → n ≤ length xs → drop n (xs ++ rest) ≡ drop n xs ++ drop (length xs) (xs ++ rest)
    go zero [] rest low = refl
    go zero (x ∷ xs) rest low = ap (λ zs. x ∷ zs) (go zero xs rest (omega arith))
    go (suc n) [] rest low = absurd (omega (arith, low))
    go (suc n) (x ∷ xs) rest low = go n xs rest (omega (arith, low))

module _ {w v : World} (s : Follows w v) where
  -- no earlier Prepared of that version comes
  first_later : (from : NodeId) (version place : ℕ) → FirstPrepared w from version place → FirstPrepared v from version place
  first_later from version place ok = record {
    prepared = message_at s place _ ok.prepared;
    first = λ k at. go k at (nat_lt k (length (messages w))) refl;
  }
    where
      go : (k : ℕ) → At (messages v) k (says from manager_node (body.Prepared version)) → (b : Bool) → nat_lt k (length (messages w)) ≡ b → place ≤ k
      go k at true e = ok.first k (prefix_back s.grows.sent k _ (grind (arith, nat_tests)) at)
      go k at false e = let low : place < length (messages w) = at_within (messages w) place _ ok.prepared in grind (arith, nat_tests)

  abbrev length_later : (from : NodeId) (place long : ℕ) → place ≤ length (messages w) → LengthAt w from place long → LengthAt v from place long
  length_later from place long within ok = record {
    most = λ k reach below r. ok.most k reach below (record { to = r.to; append = r.append; sent = prefix_back s.grows.sent k _ (omega (arith, below, within)) r.sent; reach_is = r.reach_is });
    reached = (ok.reached.0, ok.reached.1, record { to = ok.reached.2.to; append = ok.reached.2.append; sent = message_at s ok.reached.0 _ ok.reached.2.sent; reach_is = ok.reached.2.reach_is });
  }

  -- a master that has said so pushes nothing but expiries until it takes the lists up
  since_later : Invariant w → (from : NodeId) (version long : ℕ) → WasSent w (says from manager_node (body.Prepared version)) → (l : Logged) (has : HasLog w from l) → long ≤ length l.log
      → ((m : MasterState) → IsMaster w from (Serving m) → m.version < version → Each IsOnlyExpire (drop long m.log))
      → (k : MasterState) → IsMaster v from (Serving k) → k.version < version → Each IsOnlyExpire (drop long k.log)
  since_later inv from version long sent l has low since k is below =
      let o = master_later s from has.m has.is in
      let same : o.0 ≡ Serving k = one_state _ o.0 (Serving k) o.1.its_state is.its_state in
      go has.m has.is (inv.masters from has.m has.is) has.its_log (subst (MasterGrows has.m) same o.2)
    where
      go : (x : MasterStage) → IsMaster w from x → MasterOk w from x → node_log x ≡ Some l → MasterGrows x (Serving k) → Each IsOnlyExpire (drop long k.log)
      go Fresh here ok log g = absurd (g.life)
      go (Recovering r) here ok log g = absurd (ok.unprepared version sent)
      go (Serving m) here ok log g =
          let version_low : m.version ≤ k.version = g.life.version (s.steady.above from.number m here.its_state) in
          let long_low : long ≤ length m.log = subst (λ (es : List Entry). long ≤ length es) (log_same m log) low in
          elim (ok.prepared version sent) [
            | inl above ↦ absurd (omega (arith, above, version_low, below))
            | inr sw ↦
                subst (Each IsOnlyExpire) (sym (drop_prefix long m.log k.log g.life.log long_low))
                (Each-append IsOnlyExpire (drop long m.log) (drop (length m.log) k.log) (since m here (omega (arith, version_low, below))) (g.little sw.0 sw.1))
          ]
        where
          log_same : (m : MasterState) → Some (record { log = m.log; round = m.round }) ≡ Some l → l.log ≡ m.log
          log_same m e = cc

  pub prepared_later : Invariant w → (from : NodeId) (version : ℕ) → PreparedOk w from version → PreparedOk v from version
  prepared_later inv from version ok =
      let o = log_later s from ok.l ok.its_log in
      let sent : WasSent w (says from manager_node (body.Prepared version)) = record { place = ok.place; stands = ok.first.prepared } in
      let within = at_within (messages w) ok.place _ ok.first.prepared in
      record {
        lists = ok.lists;
        given = given_stays s ok.given;
        its_master = ok.its_master;
        its_version = ok.its_version;
        l = o.0;
        its_log = o.1;
        place = ok.place;
        first = first_later from version ok.place ok.first;
        long = ok.long;
        then_long = length_later from ok.place ok.long (omega (arith, within)) ok.then_long;
        low = omega (arith, ok.low, prefix_length o.2);
        on_all = subst (λ (prefix : List Entry). Each (λ node. (b : BackupState) → IsBackup v node b → IsPrefix prefix b.log) ok.lists.backups)
            (sym (take_grows ok.long o.2 ok.low)) (prefixes_later s ok.lists.backups (take ok.long ok.l.log) (there s ok.lists ok.given) ok.on_all);
        since = since_later inv from version ok.long sent ok.l ok.its_log ok.low ok.since;
      }

  abbrev pub recovered_later : Invariant w → (from : NodeId) (epoch : ℕ) → RecoveredOk w from epoch → RecoveredOk v from epoch
  recovered_later inv from epoch ok =
      let home : RecoverOrderOk w from ok.order = s.names.manager_says from (body.Recover ok.order) ok.sent in
      let later = sources_later s inv.backups home.before home.was.given ok.order.backup ok.order.witness epoch home.its_backup (omega (arith, home.earlier, ok.its_epoch)) ok.sources in
      record {
        order = ok.order;
        sent = sent_later s ok.sent;
        its_epoch = ok.its_epoch;
        sources = later.0;
        on_all = subst (λ (es : List Entry). Each (λ node. (f : BackupState) → IsBackup v node f → IsPrefix es f.log) ok.order.backups) (sym (later.2 ok.order.lo ok.order.hi))
            (prefixes_later s ok.order.backups (replay_of ok.order.lo ok.order.hi ok.sources) (there s (lists_of_order from ok.order) (ByRecovery from ok.order ok.sent)) ok.on_all);
      }

  pub recovered_said_later : Invariant w → (from : NodeId) (r : Recovered) → RecoveredSaid w from r → RecoveredSaid v from r
  recovered_said_later inv from r ok =
      let o = log_later s from ok.l ok.its_log in
      let home : RecoverOrderOk w from ok.holds.order = s.names.manager_says from (body.Recover ok.holds.order) ok.holds.sent in
      let later = sources_later s inv.backups home.before home.was.given ok.holds.order.backup ok.holds.order.witness r.epoch home.its_backup (omega (arith, home.earlier, ok.holds.its_epoch)) ok.holds.sources in
      record {
        holds = recovered_later inv from r.epoch ok.holds;
        its_part = ok.its_part;
        prefix = ok.prefix;
        is_replay = ok.is_replay ∙ sym (later.2 ok.holds.order.lo ok.holds.order.hi);
        l = o.0;
        its_log = o.1;
        began = prefix_trans ok.began o.2;
        reach = reach_later s from ok.holds.order.version (length ok.prefix) o.0 o.1 (omega (arith, prefix_length ok.began, prefix_length o.2)) ok.reach;
      }
