-- What other crates may cite of this one.

-- ---- every step of every script

-- all that is known of worlds holds at the opening
pub use Rattle.curp_law_kept.proofs.Steps.{known_opening}
-- it stays so in a step
pub use Rattle.curp_law_kept.proofs.Steps.{known_step}
-- it holds in every run
pub use Rattle.curp_law_kept.proofs.Steps.{known_all}
-- what a step keeps of a world of which all this is known, and the opening has, each run has
pub use Rattle.curp_law_kept.proofs.Steps.{along}
-- a message that was sent fits
pub use Rattle.curp_law_kept.proofs.Known.{fits}
-- what was sent says what it has to
pub use Rattle.curp_law_kept.proofs.Known.{said}
-- what the manager alone says is of the manager
pub use Rattle.curp_law_kept.proofs.Known.{from_manager}
-- each step follows on its world: nothing is taken back, and lists that become ready are whole
pub use Rattle.curp_law_kept.proofs.Followed.{follows_step}
-- a step from one world to the next: nothing is taken back, and lists that become ready have their master's whole log on each of their backups
pub use Rattle.curp_law_kept.proofs.Words.{Follows}
-- nothing is taken back by a step
pub use Rattle.curp_law_kept.proofs.WorldsGrow.{step_grows}
-- a step gives at most one node an input, which alone moves and sends
pub use Rattle.curp_law_kept.proofs.After.{step_after}
-- what a step gives a node was meant for it
pub use Rattle.curp_law_kept.proofs.Deeds.{deed_meant}
-- a step does nothing, or gives one node an input
pub use Rattle.curp_law_kept.proofs.Cases.{step_case}
-- what a step has done: nothing, or an input to one node
pub use Rattle.curp_law_kept.proofs.Cases.{StepCase, Stays, Rests, ByClient, ByBackup, ByWitness, ByMaster, ByManager}
-- nothing but what is stopped changes
pub use Rattle.curp_law_kept.proofs.Cases.{RestsIn}
-- a command that the input invokes names a key
pub use Rattle.curp_law_kept.proofs.Cases.{InvokesKey}
-- in a step the manager got an input, or another node, if any, has spoken
pub use Rattle.curp_law_kept.proofs.Movers.{who_spoke}
-- the manager got an input
pub use Rattle.curp_law_kept.proofs.Movers.{ManagerSpoke}
-- the world after an input to a client that isn't refused
pub use Rattle.curp_law_kept.proofs.ClientSteps.{ClientMoved}
-- the world after a backup or a witness has said more, and no client has moved
pub use Rattle.curp_law_kept.proofs.KeeperSteps.{KeeperMoved}
-- ---- names, and who says what to whom, in every run

-- each step leads to a later world with shape, names, and who says what to whom
pub use Rattle.curp_law_kept.proofs.Runs.{step_goes}
-- every run leads from the opening to a later world with both
pub use Rattle.curp_law_kept.proofs.Runs.{always}
-- shape and names, and who says what to whom
pub use Rattle.curp_law_kept.proofs.OthersNames.{Both}
-- the names of the opening are in order
pub use Rattle.curp_law_kept.proofs.OpenedNames.{opening_names}
-- who says what to whom is in order at the opening
pub use Rattle.curp_law_kept.proofs.OpenedNames.{opening_nodes}
-- who says what to whom is in order in every run
pub use Rattle.curp_law_kept.proofs.Laws.{nodes_kept}
-- each message goes from a node of the world to one
pub use Rattle.curp_law_kept.proofs.Laws.{only_sent_to_nodes}
-- what is answered to a client is about a request of that client
pub use Rattle.curp_law_kept.proofs.Laws.{answers_go_home}
-- a message that comes was sent, and fits
pub use Rattle.curp_law_kept.proofs.ClientsFit.{Arrives}
-- a node of the manager's kind is the manager
pub use Rattle.curp_law_kept.proofs.ClientsFit.{is_manager}
-- what comes to a client keeps what fits of it, and it says what fits
pub use Rattle.curp_law_kept.proofs.ClientsFit.{client_fits}
-- what comes to a backup keeps what fits of it, and it says what fits
pub use Rattle.curp_law_kept.proofs.KeepersFit.{backup_fits}
-- what comes to a witness keeps what fits of it, and it says what fits
pub use Rattle.curp_law_kept.proofs.KeepersFit.{witness_fits}
-- each of these messages fits, and is said by the node in its own name
pub use Rattle.curp_law_kept.proofs.KeepersFit.{AllSaid}
-- a node says what fits, in its own name
pub use Rattle.curp_law_kept.proofs.KeepersFit.{Said}
-- a message that comes fits
pub use Rattle.curp_law_kept.proofs.KeepersFit.{InputFits}
-- what comes to a master keeps what fits of it, and it says what fits
pub use Rattle.curp_law_kept.proofs.Recoverings.{master_fits}
-- a message that comes to a master is for it
pub use Rattle.curp_law_kept.proofs.Recoverings.{IsForMaster}
-- whatever comes to the manager keeps the facts of names
pub use Rattle.curp_law_kept.proofs.ManagerNames.{manager_good}
-- an entry of the configuration is that of its own number
pub use Rattle.curp_law_kept.proofs.Keeps.{entry_now}
-- the entry of a number has that number
pub use Rattle.curp_law_kept.proofs.Keeps.{entry_numbered}
-- the entry of a number is an adopted one
pub use Rattle.curp_law_kept.proofs.Keeps.{numbered_now}
-- a master's name is that of a master that is there
pub use Rattle.curp_law_kept.proofs.Homes.{master_there}
-- the names of a kind
pub use Rattle.curp_law_kept.proofs.Named.{named}
-- nothing fresh comes by a step of the manager
pub use Rattle.curp_law_kept.proofs.Moves.{Nothing}
-- a message repeats an order, new lists or a word of adoption that was there, or has the new one
pub use Rattle.curp_law_kept.proofs.Moves.{Repeats}
-- what the manager may say without any change
pub use Rattle.curp_law_kept.proofs.Quiet.{Again}
-- each of these messages may be said so
pub use Rattle.curp_law_kept.proofs.Quiet.{AllAgain}
-- a present entry may be told again to be adopted
pub use Rattle.curp_law_kept.proofs.Says.{adopted_again}
-- all that a nudge says may be said again
pub use Rattle.curp_law_kept.proofs.Says.{nudge_again}
-- ---- what was so of a world, in a later one

-- a world after a step: the header's numbers stay, nodes and numbers grow, and what was sent was sent
pub use Rattle.curp_law_kept.proofs.Later.{Later}
-- lists that were given are given in a later world
pub use Rattle.curp_law_kept.proofs.Later.{given_later}
-- lists that were adopted are adopted in a later world
pub use Rattle.curp_law_kept.proofs.Later.{adopted_later}
-- what was sent stays sent, a step later
pub use Rattle.curp_law_kept.proofs.Words.{sent_later}
-- lists that were given stay given, a step later
pub use Rattle.curp_law_kept.proofs.Words.{given_stays}
-- lists that were adopted stay adopted, a step later
pub use Rattle.curp_law_kept.proofs.Words.{adopted_stays}
-- a backup is there a step later, grown
pub use Rattle.curp_law_kept.proofs.Words.{backup_later}
-- a witness is there a step later, grown
pub use Rattle.curp_law_kept.proofs.Words.{witness_later}
-- a master is there a step later, grown
pub use Rattle.curp_law_kept.proofs.Words.{master_later}
-- a serving master serves on
pub use Rattle.curp_law_kept.proofs.Words.{serving_later}
-- a master's log is there a step later, grown
pub use Rattle.curp_law_kept.proofs.Words.{log_later}
-- what each backup of given lists has of a log it has a step later
pub use Rattle.curp_law_kept.proofs.Words.{reach_later}
-- what was ordered stays ordered
pub use Rattle.curp_law_kept.proofs.Entries.{ordered_later}
-- an entry that was told to be stored stays so
pub use Rattle.curp_law_kept.proofs.Replies.{entry_stored_later}
-- the ranges after so many migrations stay so
pub use Rattle.curp_law_kept.proofs.Said.{ranges_later}
-- a configuration that has such ranges has them later
pub use Rattle.curp_law_kept.proofs.Said.{has_ranges_later}
-- the world after an input to the manager
pub use Rattle.curp_law_kept.proofs.ManagerWorlds.{manager_moved}
-- its messages are those of before, and then the new ones
pub use Rattle.curp_law_kept.proofs.ManagerWorlds.{moved_messages}
-- what was sent afterwards was sent before, or is among the new messages
pub use Rattle.curp_law_kept.proofs.ManagerWorlds.{sent_cases}
-- what is among the new messages was sent
pub use Rattle.curp_law_kept.proofs.ManagerWorlds.{sent_now}
-- what another node has sent it has sent before
pub use Rattle.curp_law_kept.proofs.Moved.{sent_back}
-- lists that are given after another node's words were given before
pub use Rattle.curp_law_kept.proofs.Moved.{given_back}
-- lists that are adopted after another node's words were adopted before
pub use Rattle.curp_law_kept.proofs.Moved.{adopted_back}
-- one node that isn't the manager has said more, and lists are those of before
pub use Rattle.curp_law_kept.proofs.Others.{SaysMore}
-- where it isn't a master, no lists become ready
pub use Rattle.curp_law_kept.proofs.Others.{nothing_ready}
-- where nothing is invoked and nothing completes, the history stays
pub use Rattle.curp_law_kept.proofs.Worlds.{same_history}
-- ---- what one input does

-- what any input does to a backup
pub use Rattle.curp_law_kept.proofs.BackupEffects.{backup_effect}
-- what any input does to a witness
pub use Rattle.curp_law_kept.proofs.WitnessEffects.{witness_effect}
-- what an input does to a client
pub use Rattle.curp_law_kept.proofs.Clients.{effect}
-- each message of a client is its own
pub use Rattle.curp_law_kept.proofs.Clients.{client_messages}
-- what is pending at a client waits
pub use Rattle.curp_law_kept.proofs.Numbers.{waiting}
-- a fresh id was never invoked
pub use Rattle.curp_law_kept.proofs.Numbers.{never_invoked}
-- a synced reply that came was sent by a master of the partition, so its update can complete
pub use Rattle.curp_law_kept.proofs.Completes.{by_synced}
-- an unsynced reply that came, and the accepts of all witnesses, were sent by an adopted entry's nodes, so its update can complete
pub use Rattle.curp_law_kept.proofs.Completes.{by_accepts}
-- how an input moves a master, by how far it is
pub use Rattle.curp_law_kept.proofs.MastersMoves.{input_moves}
-- nothing completes by an input to a master
pub use Rattle.curp_law_kept.proofs.MastersMoves.{input_idle}
-- a master says all in its own name
pub use Rattle.curp_law_kept.proofs.MastersMoves.{stage_from}
-- how a master moves, by how far it is and what it hears, if anything
pub use Rattle.curp_law_kept.proofs.MastersMoves.{StageMove}
-- a master has moved, and it alone
pub use Rattle.curp_law_kept.proofs.MastersMoves.{MasterStep}
-- who is heard by an input
pub use Rattle.curp_law_kept.proofs.MastersMoves.{speaker}
-- what is heard by an input
pub use Rattle.curp_law_kept.proofs.MastersMoves.{heard_in}
-- the world after an input to a master
pub use Rattle.curp_law_kept.proofs.Followed.{master_world}
-- it is a later world, from which nothing is taken back
pub use Rattle.curp_law_kept.proofs.Followed.{master_step}
-- a step of a master follows on its world
pub use Rattle.curp_law_kept.proofs.MastersReady.{step_follows}
-- a master that is open doesn't switch
pub use Rattle.curp_law_kept.proofs.MastersReady.{no_switch}
-- once all backups of an order to recover are complete, each has what each complete one has
pub use Rattle.curp_law_kept.proofs.MastersReady.{all_stored}
-- a backup that has stored so many entries has so many
pub use Rattle.curp_law_kept.proofs.MastersReady.{stored_many}
-- what is synced is in the log
pub use Rattle.curp_law_kept.proofs.MastersSay.{synced_within}
-- a master has one log
pub use Rattle.curp_law_kept.proofs.MastersHeard.{one_log}
-- the log of a backup of given lists is one of their partition
pub use Rattle.curp_law_kept.proofs.MastersHeard.{backup_log_ok}
-- a message lets a master that switches push and say but little
pub use Rattle.curp_law_kept.proofs.Switches.{switching_little}
-- and so does an order
pub use Rattle.curp_law_kept.proofs.Switches.{switching_ordered_little}
-- the state of a master that has settled
pub use Rattle.curp_law_kept.proofs.Settled.{settled_state}
-- where each backup has acknowledged so many entries, each has so many
pub use Rattle.curp_law_kept.proofs.Synced.{acknowledged_many}
-- each backup of a master's list has what is synced
pub use Rattle.curp_law_kept.proofs.Synced.{synced_many}
-- no entry that isn't synced touches a command of which the master is clean
pub use Rattle.curp_law_kept.proofs.Clean.{clean_apart}
-- what any input does to the manager
pub use Rattle.curp_law_kept.proofs.ManagersDo.{manager_does}
-- a step of the manager follows on its world
pub use Rattle.curp_law_kept.proofs.ManagersReady.{manager_follows}
-- ---- logs and their tables

-- the first so many items begin a list
pub use Rattle.curp_law_kept.proofs.Logs.{prefix_take}
-- each beginning of a log is a log
pub use Rattle.curp_law_kept.proofs.Logs.{log_prefix}
-- what stands behind a beginning of a log fits there
pub use Rattle.curp_law_kept.proofs.Logs.{log_back}
-- the hashes of an operation of a log were owned where it stands
pub use Rattle.curp_law_kept.proofs.Logs.{op_owned}
-- what a log knew isn't new behind a give of its table
pub use Rattle.curp_law_kept.proofs.Logs.{packed_known}
-- what stands in a log stands at its index, and the other way round
pub use Rattle.curp_law_kept.proofs.Standings.{stands_here}
-- what stands at an index of a log stands there in a longer one
pub use Rattle.curp_law_kept.proofs.Standings.{stands_longer}
-- what stands at an index stands in the log
pub use Rattle.curp_law_kept.proofs.Early.{stands_from_here}
-- what stands in a log stands in a longer one
pub use Rattle.curp_law_kept.proofs.Early.{stands_grows}
-- what stands below a backup's length stands in the backup's log
pub use Rattle.curp_law_kept.proofs.Early.{synced_stands}
-- an operation whose id isn't new after so many entries is one of them
pub use Rattle.curp_law_kept.proofs.Early.{collected_below}
-- an operation, with nothing on its hashes from a number on that the backup has, stands in the backup's log or is replayed behind it
pub use Rattle.curp_law_kept.proofs.Early.{early_replayed}
-- a replay begins with the log that it is made over
pub use Rattle.curp_law_kept.proofs.Replayed.{replay_prefix}
-- each record of a log's table stands in the log, at its index and with its answer
pub use Rattle.curp_law_kept.proofs.Records.{recorded}
-- what a table's check knows stands in the log
pub use Rattle.curp_law_kept.proofs.Noted.{known_stands}
-- where what was noted of a request isn't new, something was noted
pub use Rattle.curp_law_kept.proofs.Tables.{some_any}
-- a client has completed all below the number by which a request is stale
pub use Rattle.curp_law_kept.proofs.Completed.{stale_completed}
-- a frozen witness tells each request that it held
pub use Rattle.curp_law_kept.proofs.Frozen.{held_kept}
-- it tells no other
pub use Rattle.curp_law_kept.proofs.Frozen.{kept_held}
-- no two that it tells clash, where no two that it held do
pub use Rattle.curp_law_kept.proofs.Frozen.{frozen_apart}
-- ---- migrations in logs, and who owns a hash

-- the package of a take is that of the state before it
pub use Rattle.curp_law_kept.proofs.Packages.{take_package}
-- the range of a take was owned
pub use Rattle.curp_law_kept.proofs.Packages.{take_covered}
-- packages that the test finds equal are one
pub use Rattle.curp_law_kept.proofs.Packages.{package_same}
-- a package is equal to itself by the test
pub use Rattle.curp_law_kept.proofs.Packages.{package_self}
-- each take stands once in a log
pub use Rattle.curp_law_kept.proofs.Migrations.{takes_once}
-- each give stands once in a log
pub use Rattle.curp_law_kept.proofs.Migrations.{gives_once}
-- entries that neither take nor give leave what is owned, as a list
pub use Rattle.curp_law_kept.proofs.Migrations.{owned_more}
-- gives fit in two lists where they fit in the first, and behind it in the second
pub use Rattle.curp_law_kept.proofs.GivesFit.{gives_fit_append}
-- a beginning's gives fit where those of the whole do
pub use Rattle.curp_law_kept.proofs.GivesFit.{gives_fit_prefix}
-- gives fit with entries behind them that give nothing
pub use Rattle.curp_law_kept.proofs.GivesFit.{gives_fit_more}
-- gives fit where each one that stands does
pub use Rattle.curp_law_kept.proofs.GivesFit.{gives_fit_from}
-- entries without a give
pub use Rattle.curp_law_kept.proofs.GivesFit.{NoGives}
-- the keys of a package's pairs ascend
pub use Rattle.curp_law_kept.proofs.GivesFit.{package_ascends}
-- they lie in its range
pub use Rattle.curp_law_kept.proofs.GivesFit.{package_within}
-- what is owned behind a take is what was owned, without its range
pub use Rattle.curp_law_kept.proofs.Taken.{owned_taken}
-- a hash is owned without a range, if it was owned and isn't of the range
pub use Rattle.curp_law_kept.proofs.Ranges.{owned_without}
-- a hash in a range that is covered is owned
pub use Rattle.curp_law_kept.proofs.Ranges.{covered_owns}
-- where all hashes of a command are owned, each that it touches is
pub use Rattle.curp_law_kept.proofs.Ranges.{owns_touched}
-- and the other way round
pub use Rattle.curp_law_kept.proofs.Ranges.{owns_from_touched}
-- what holds of each hash of a command holds of what it touches
pub use Rattle.curp_law_kept.proofs.Ranges.{each_touched}
-- ---- values and answers

-- a value comes from the requests on its key's hash
pub use Rattle.curp_law_kept.proofs.Values.{value_local}
-- stores that agree at its keys give a command one answer
pub use Rattle.curp_law_kept.proofs.Values.{answer_local}
-- the second of two commands that don't conflict answers as it would alone
pub use Rattle.curp_law_kept.proofs.Values.{second_alone}
-- a get changes nothing
pub use Rattle.curp_law_kept.proofs.Values.{read_only}
-- the requests at a hash in two lists are those of the one and those of the other
pub use Rattle.curp_law_kept.proofs.Values.{on_append}
-- the operations behind the last give, in two lists
pub use Rattle.curp_law_kept.proofs.Behind.{behind_from_append}
-- what came with the last give, in two lists
pub use Rattle.curp_law_kept.proofs.Behind.{came_from_append}
-- entries that give nothing on the hash leave what came
pub use Rattle.curp_law_kept.proofs.Behind.{came_kept}
-- what came with the last give, and the operations behind it, make a log's value at a key, also at each of its beginnings
pub use Rattle.curp_law_kept.proofs.LogValues.{log_value_prefix}
-- an operation touches no hash that its log does not own
pub use Rattle.curp_law_kept.proofs.LogValues.{untouched}
-- the answer to a command stays where nothing touches its hashes
pub use Rattle.curp_law_kept.proofs.Untouched.{answer_untouched}
-- ---- lists

-- after one numbered item was set, another stands as before, and that one is the new one
pub use Rattle.curp_law_kept.proofs.NumberedLists.{numbered_set_cases}
-- what holds of each item holds of one among them
pub use Rattle.curp_law_kept.proofs.NumberedLists.{among_each}
-- what holds of all that is among a list holds of each item
pub use Rattle.curp_law_kept.proofs.NumberedLists.{each_among}
-- what is among a list of which one item was set is the new one, or was there
pub use Rattle.curp_law_kept.proofs.NumberedLists.{among_set}
-- the first item is among a list
pub use Rattle.curp_law_kept.proofs.NumberedLists.{first_among}
-- what passes a filter was there
pub use Rattle.curp_law_kept.proofs.NumberedLists.{filter_among}
-- the first item that is there is among a list
pub use Rattle.curp_law_kept.proofs.NumberedLists.{there_among}
-- what holds of a number and of sorted ones holds of them with it
pub use Rattle.curp_law_kept.proofs.MasterLists.{each_inserted}
-- what holds of all holds of those that pass a test, and the test too
pub use Rattle.curp_law_kept.proofs.MasterLists.{each_filtered}
-- what a test finds of all holds of each
pub use Rattle.curp_law_kept.proofs.Among.{each_tested}
-- what holds of each list that items make holds of all of them in a row
pub use Rattle.curp_law_kept.proofs.Says.{each_flat}
-- another item of a list of which one was set stands as before
pub use Rattle.curp_law_kept.proofs.Worlds.{other_item}
-- an item has one number
pub use Rattle.curp_law_kept.proofs.Words.{one_state}
