-- What other crates may cite of the proofs of this one; `src/lib.rt` has its laws.

-- ---- what every run keeps

-- the facts of what was said, of logs and of nodes hold in every run
pub use Rattle.curp_law_runs.proofs.Facts.{facts_all}
-- in every run any pair of a backup and a witness is good
pub use Rattle.curp_law_runs.proofs.Facts.{pairs_all}
-- what is kept of migrations beside what nodes and messages keep
pub use Rattle.curp_law_runs.proofs.Always.{Moving}
-- it holds at the opening
pub use Rattle.curp_law_runs.proofs.Always.{moving_opening}
-- it stays so in a step
pub use Rattle.curp_law_runs.proofs.Always.{moving_step}
-- it says what stands of migrations in adopted logs
pub use Rattle.curp_law_runs.proofs.Always.{migrated_now}
-- nothing was sent at the opening
pub use Rattle.curp_law_runs.proofs.Steps.{nothing_sent}
-- ---- lists that were given and adopted

-- an order to recover is the first of its master's lists
pub use Rattle.curp_law_runs.proofs.Lists.{order_first}
-- what is adopted is ready
pub use Rattle.curp_law_runs.proofs.Lists.{ready}
-- the word of adoption of lists
pub use Rattle.curp_law_runs.proofs.Adopted.{adopted_word}
-- an input adopts what its words of adoption name
pub use Rattle.curp_law_runs.proofs.Adopted.{adopted_back}
-- an input to the manager adopts one entry at most
pub use Rattle.curp_law_runs.proofs.Uttered.{manager_adopts}
-- an input to the manager adopts nothing, or one entry that comes behind the present one
pub use Rattle.curp_law_runs.proofs.Uttered.{AdoptsOne, NoNew, OneNew}
-- a word of adoption is of lists that were adopted
pub use Rattle.curp_law_runs.proofs.Uttered.{IsOld}
-- the message of an input was sent to the manager
pub use Rattle.curp_law_runs.proofs.Uttered.{WasHeard}
-- each adopted recovery began as the replay of a fenced backup and a frozen witness of the lists before it
pub use Rattle.curp_law_runs.proofs.Adoptions.{adoptions_ok}
-- ---- what can complete, and where it stands

-- any pair of a backup and a witness of an adopted list is enough to recover from
pub use Rattle.curp_law_runs.proofs.Pairs.{pairs_good}
-- what can complete was answered by a master, each pair of whose last lists has it
pub use Rattle.curp_law_runs.proofs.Pairs.{completable_at}
-- what can complete stands in the adopted log of its partition
pub use Rattle.curp_law_runs.proofs.Pairs.{completable_stands}
-- what was answered so stands in the logs of all later masters of the partition, and of their backups
pub use Rattle.curp_law_runs.proofs.Pairs.{stands_along}
-- what an unsynced reply and all accepts can complete was answered by the sender, in the lists that the reply speaks of
pub use Rattle.curp_law_runs.proofs.Witnessed.{early}
-- a completed update can complete with its answer
pub use Rattle.curp_law_runs.proofs.Completed.{completed_update}
-- requests of one id were invoked with one command
pub use Rattle.curp_law_runs.proofs.Requests.{one_command}
-- ---- logs

-- the range of a partition at the opening isn't empty
pub use Rattle.curp_law_runs.proofs.Logs.{range_ordered}
-- a master's log is a log of its partition
pub use Rattle.curp_law_runs.proofs.Logs.{log_ok}
-- all gives of a partition's log bring what lies in their ranges
pub use Rattle.curp_law_runs.proofs.Logs.{gives_within}
-- what is reached is on each backup of each adopted list from that version on
pub use Rattle.curp_law_runs.proofs.Logs.{reached}
-- what stands in a master's log so far as each backup of its lists has it begins the logs of all later lists of the partition
pub use Rattle.curp_law_runs.proofs.Along.{reach_along}
-- each entry below that number stands there
pub use Rattle.curp_law_runs.proofs.Along.{entry_along}
-- what was told to be stored stands in the adopted log of its partition, on each of its backups
pub use Rattle.curp_law_runs.proofs.Stored.{stored_now}
-- each partition has an adopted entry
pub use Rattle.curp_law_runs.proofs.Stored.{entry_of}
-- a partition has one adopted log
pub use Rattle.curp_law_runs.proofs.Stored.{one_adopted}
-- what stands among the first of a log stands in each that begins so
pub use Rattle.curp_law_runs.proofs.Stored.{place_in_prefix}
-- where a take is stored, each take of its number in an adopted log is that one
pub use Rattle.curp_law_runs.proofs.Migrated.{one_stored}
-- a number of a migration that was given is in work or done
pub use Rattle.curp_law_runs.proofs.Migrated.{work_or_done}
-- ---- nodes

-- a master has one log
pub use Rattle.curp_law_runs.proofs.Words.{one_log}
-- a backup has one state
pub use Rattle.curp_law_runs.proofs.Words.{one_backup}
-- a witness has one state
pub use Rattle.curp_law_runs.proofs.Words.{one_witness}
