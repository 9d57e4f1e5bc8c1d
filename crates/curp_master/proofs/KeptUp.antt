-- What a master keeps beside its log, as the log grows, backups acknowledge more, reads are captured, and rounds begin.
use Rattle.std.proofs.Common.{◌≡◌, ℕ, ◌+◌, ◌≤◌, Bool, List, [], ◌∷◌, length, ◌∙◌, ap, arith}
use Rattle.std.proofs.lemmas.List.{length-append}
use Rattle.curp_cmd.specs.declared.entry.Entry.{Entry}
use Rattle.curp_cmd.specs.declared.node.NodeId.{NodeId}
use Rattle.curp_master_log.specs.MasterLog.{KeptLog, with_entry}
use Rattle.curp_model.specs.Master.{Acknowledged}
use Rattle.curp_rounds.specs.Backups.{stored_by_all}
use Rattle.curp_rounds.specs.declared.reach.Reach.{Reach}
use Rattle.curp_master.specs.Kept.{IsKeptUp, KeepsUp, keeps_up}

pub facts : {log : KeptLog} {all : List Acknowledged} {backups : List NodeId} {last : Reach} {round : ℕ} → IsKeptUp log all backups last round
    → KeepsUp log all backups last round
unfolding keeps_up
facts k = k.its

pub kept : {log : KeptLog} {all : List Acknowledged} {backups : List NodeId} {last : Reach} {round : ℕ} → KeepsUp log all backups last round
    → IsKeptUp log all backups last round
unfolding keeps_up
kept k = record { its = k }

pub synced_of : {log : KeptLog} {all : List Acknowledged} {backups : List NodeId} {last : Reach} {round : ℕ} → IsKeptUp log all backups last round
    → log.synced ≡ stored_by_all all backups
synced_of k = (facts k).synced

-- a round begins
pub later : {log : KeptLog} {all : List Acknowledged} {backups : List NodeId} {last : Reach} {round next : ℕ} → IsKeptUp log all backups last round
    → next ≡ round + 1 → IsKeptUp log all backups last next
later k is = let f = facts k in kept (record { synced = f.synced; long = f.long; rounds = let low = f.rounds in omega (arith, low, is) })

-- the log grows, and no more of it is synced
pub grown : {log after : KeptLog} {all : List Acknowledged} {backups : List NodeId} {last : Reach} {round : ℕ} → IsKeptUp log all backups last round
    → after.synced ≡ log.synced → length log.entries ≤ length after.entries → IsKeptUp after all backups last round
grown k same long =
    let f = facts k in
    kept (record { synced = same ∙ f.synced; long = let low = f.long in omega (arith, low, long); rounds = f.rounds })

-- more is acknowledged, or the backups are others
pub settled : {log after : KeptLog} {all more : List Acknowledged} {backups next : List NodeId} {last : Reach} {round : ℕ} → IsKeptUp log all backups last round
    → after.synced ≡ stored_by_all more next → length after.entries ≡ length log.entries → IsKeptUp after more next last round
settled k synced long =
    let f = facts k in
    kept (record { synced = synced; long = let low = f.long in omega (arith, low, long); rounds = f.rounds })

-- a read is captured, as the log is and at that round
pub captured : {log : KeptLog} {all : List Acknowledged} {backups : List NodeId} {last next : Reach} {round now : ℕ} → IsKeptUp log all backups last round
    → next.long ≡ length log.entries → next.round ≡ now → IsKeptUp log all backups next now
captured k long rounds = let f = facts k in kept (record { synced = f.synced; long = omega (arith, long); rounds = omega (arith, rounds) })

-- an entry comes in
pub pushed : {log before after : KeptLog} {all : List Acknowledged} {backups : List NodeId} {last : Reach} {round : ℕ} → IsKeptUp log all backups last round
    → (entry : Entry) (is_free : Bool) → after ≡ with_entry before entry is_free → before ≡ log → IsKeptUp after all backups last round
pushed {log} {before} {after} k entry is_free is was =
    let whole : after ≡ with_entry log entry is_free = is ∙ ap (λ (j : KeptLog). with_entry j entry is_free) was in
    let long : length after.entries ≡ length log.entries + 1 = ap (λ (j : KeptLog). length j.entries) whole ∙ length-append log.entries (entry ∷ []) in
    grown k (ap (λ (j : KeptLog). j.synced) whole) (omega (arith, long))

-- at first no read was captured
pub from_start : {log : KeptLog} {all : List Acknowledged} {backups : List NodeId} {last : Reach} {round : ℕ} → log.synced ≡ stored_by_all all backups
    → last ≡ record { long = 0; round = 0 } → IsKeptUp log all backups last round
from_start {log} {all} {backups} {last} {round} synced none =
    let long : last.long ≡ 0 = ap (λ (r : Reach). r.long) none in
    let first : last.round ≡ 0 = ap (λ (r : Reach). r.round) none in
    kept (record { synced = synced; long = omega (arith, long); rounds = omega (arith, first) })

-- a read that is captured now is behind the last one
pub long_on : {log : KeptLog} {all : List Acknowledged} {backups : List NodeId} {last next : Reach} {round now : ℕ} → IsKeptUp log all backups last round
    → next ≡ last → now ≡ length log.entries → next.long ≤ now
long_on {log} {all} {backups} {last} {next} {round} {now} k same is =
    let at : next.long ≡ last.long = ap (λ (r : Reach). r.long) same in
    let low : last.long ≤ length log.entries = (facts k).long in
    omega (arith, at, low, is)

pub rounds_on : {log : KeptLog} {all : List Acknowledged} {backups : List NodeId} {last next : Reach} {round now : ℕ} → IsKeptUp log all backups last round
    → next ≡ last → now ≡ round + 1 → next.round ≤ now
rounds_on {log} {all} {backups} {last} {next} {round} {now} k same is =
    let at : next.round ≡ last.round = ap (λ (r : Reach). r.round) same in
    let low : last.round ≤ round = (facts k).rounds in
    omega (arith, at, low, is)
