-- What the manager says again, and inputs to it that adopt nothing and order nothing new.
use Rattle.std.proofs.Common.{◌≡◌, inl, ℕ, ◌==◌, List, [], ◌∷◌, ◌++◌, map, flat_map, refl, Option, Some, None, Ok}
use Rattle.std.specs.Prelude.{Result, Err}
use Rattle.std.proofs.lemmas.Bool.{cond_both}
use Rattle.curp_base.specs.Words.{Each, numbered}
use Rattle.curp_base.proofs.Lists.{Each-append, Each-map}
use Rattle.curp_cmd.specs.Node.{manager_node}
use Rattle.curp_cmd.specs.declared.migration.Package.{Package}
use Rattle.curp_cmd.specs.declared.node.Keeper.{Keeper}
use Rattle.curp_cmd.specs.declared.node.Keeper.TheVariants as keeper
use Rattle.curp_cmd.specs.declared.node.NodeId.{NodeId}
use Rattle.curp_msg.specs.Moved.{Moved, quiet, refuses, says, says_each, sends, unless_refused}
use Rattle.curp_msg.specs.declared.body.Body.{Body}
use Rattle.curp_msg.specs.declared.body.Body.TheVariants as body
use Rattle.curp_msg.specs.declared.body.Prepare.{Prepare}
use Rattle.curp_msg.specs.declared.body.Recover.{Recover}
use Rattle.curp_msg.specs.declared.config.PartConfig.{PartConfig}
use Rattle.curp_msg.specs.declared.message.Message.{Message}
use Rattle.curp_model.specs.Manager.{Doing, ManagerState, Migration, Recovering, Replacing, Steady, adopted_message, client_for, expire, expire_messages, expires, fresh_keeper, give_message, heard, install_on, nudge, nudge_give, nudge_moving, nudge_part, recover_messages, replace_messages, start_on, take_message, tells_again}
use Rattle.curp_model.specs.Ranges.{Range}
use Rattle.curp_model.specs.World.{World}
use Rattle.curp_facts.specs.Facts.{EntryWas, IsAmong, lists_of_part}
use Rattle.curp_law_kept.specs.ManagerEffect.{EntryKeeps, ManagerEffect, MovingKeeps, OrdersOnce, ToldAgain, Uttered}
use Rattle.curp_facts.specs.Known.{Known}
use Rattle.curp_facts.specs.Names.{AdoptedOk, RecoveringOk, ReplacingOk}
use Rattle.curp_law_kept.proofs.Keeps.{entry_now}
use Rattle.curp_law_kept.proofs.NumberedLists.{among_each, each_among}
use Rattle.curp_law_kept.proofs.Says.{each_flat}

-- a message that adopts nothing
pub record Word (w : World) (m : Message) : Type 0 where
  pub uttered : Uttered w m
  pub again : ToldAgain w m.to m.body

module _ {w : World} (known : Known w) where
  -- ---- what stays

  pub entry_keeps : (c : PartConfig) → IsAmong c w.manager.config.parts → EntryKeeps w c
  entry_keeps c a = (known.inv.present c (entry_now known.names c a)).ready

  pub entries_keep : Each (EntryKeeps w) w.manager.config.parts
  entries_keep = each_among (EntryKeeps w) w.manager.config.parts entry_keeps

  pub moving_keeps : (out : List Message) (m : Migration) → w.manager.moving ≡ Some m → MovingKeeps w out m
  moving_keeps out m its = let ok = known.inv.moving m its in record { ordered = inl ok.ordered; told = ok.told }

  -- what adopts nothing
  pub stays : (r : Moved ManagerState) → Each (Word w) r.messages → Each (EntryKeeps w) r.state.config.parts → ((m : Migration) → r.state.moving ≡ Some m → MovingKeeps w r.messages m) → r.completed ≡ None
      → ManagerEffect w r
  stays r words entries moving idle = record {
    messages = each_among (Uttered w) r.messages (λ m a. (among_each (Word w) r.messages words m a).uttered);
    adopts = inl (each_among (λ (m : Message). ToldAgain w m.to m.body) r.messages (λ m a. (among_each (Word w) r.messages words m a).again));
    entries = entries;
    moving = moving;
    idle = idle;
  }

  pub rests : ManagerEffect w (quiet w.manager)
  rests = stays (quiet w.manager) tt entries_keep (moving_keeps []) refl

  pub refused : (number : ℕ) → ManagerEffect w (refuses w.manager number)
  refused number = stays (refuses w.manager number) tt entries_keep (moving_keeps []) refl

  -- one that says something, and changes neither entries nor the migration
  pub only_says : (out : List Message) → Each (Word w) out → ManagerEffect w (sends w.manager out)
  only_says out words = stays (sends w.manager out) words entries_keep (moving_keeps out) refl

  -- ---- what it says again

  adopted_now : (c : PartConfig) → IsAmong c w.manager.config.parts → AdoptedOk w c.master (record { part = c.part; epoch = c.epoch; version = c.version })
  adopted_now c a = record { lists = lists_of_part c; was = (known.names.top c (entry_now known.names c a)).was; its_master = refl; its_part = refl; its_epoch = refl; its_version = refl }

  adopted_word : (c : PartConfig) → IsAmong c w.manager.config.parts → Word w (adopted_message c)
  adopted_word c a = record {
    uttered = record {
      from = refl;
      says_so = λ place. record { lists = lists_of_part c; ready = entry_keeps c a; its_master = refl; its_part = refl; its_epoch = refl; its_version = refl };
      orders = tt;
    };
    again = adopted_now c a;
  }

  words_each : (nodes : List NodeId) (b : Body) → ((to : NodeId) → Word w (says manager_node to b)) → Each (Word w) (says_each manager_node nodes b)
  words_each nodes b word = Each-map (Word w) (λ (to : NodeId). says manager_node to b) nodes (each_among (λ (to : NodeId). Word w (says manager_node to b)) nodes (λ to a. word to))

  install_words : (epoch : ℕ) (nodes : List NodeId) → Each (Word w) (install_on epoch nodes)
  install_words epoch nodes = words_each nodes (body.Install epoch) (λ to. record { uttered = record { from = refl; says_so = λ place. tt; orders = tt }; again = tt })

  start_words : (part epoch : ℕ) (nodes : List NodeId) → Each (Word w) (start_on part epoch nodes)
  start_words part epoch nodes = words_each nodes _ (λ to. record { uttered = record { from = refl; says_so = λ place. tt; orders = tt }; again = tt })

  pub recover_words : (node : NodeId) (o : Recover) → OrdersOnce w node (body.Recover o) → Each (Word w) (recover_messages node o)
  recover_words node o orders =
      Each-append (Word w) (install_on o.epoch o.backups ++ start_on o.part o.epoch o.witnesses) _
      (Each-append (Word w) (install_on o.epoch o.backups) (start_on o.part o.epoch o.witnesses) (install_words o.epoch o.backups) (start_words o.part o.epoch o.witnesses))
      (record { uttered = record { from = refl; says_so = λ place. tt; orders = orders }; again = tt }, tt)

  fresh_words : (c : PartConfig) (which : Keeper) (fresh : NodeId) → Each (Word w) (fresh_keeper c which fresh)
  fresh_words c keeper.Backup fresh = install_words c.epoch (fresh ∷ [])
  fresh_words c keeper.Witness fresh = start_words c.part c.epoch (fresh ∷ [])

  pub replace_words : (c : PartConfig) (which : Keeper) (fresh : NodeId) (p : Prepare) → OrdersOnce w c.master (body.Prepare p) → Each (Word w) (replace_messages c which fresh p.version p.backups p.witnesses)
  replace_words c which fresh p orders = Each-append (Word w) (fresh_keeper c which fresh) _ (fresh_words c which fresh) (record { uttered = record { from = refl; says_so = λ place. tt; orders = orders }; again = tt }, tt)

  expire_words : (client : ℕ) → Each (Word w) (expire_messages w.manager client)
  expire_words client = words_each (map (λ (c : PartConfig). c.master) w.manager.config.parts) (body.ExpireClient client) (λ to. record { uttered = record { from = refl; says_so = λ place. tt; orders = tt }; again = tt })

  part_words : (c : PartConfig) (d : Option Doing) → IsAmong c w.manager.config.parts → numbered w.manager.doing c.part ≡ d → Each (Word w) (nudge_part c d)
  part_words c (Some (Replacing which fresh version backups witnesses)) a its =
      let ok : ReplacingOk w (lists_of_part c) which fresh (record { version = version; backups = backups; witnesses = witnesses }) = known.names.doing c _ (entry_now known.names c a) its in
      replace_words c which fresh (record { version = version; backups = backups; witnesses = witnesses }) (inl ok.sent)
  part_words c (Some (Recovering node o)) a its =
      let ok : RecoveringOk w (lists_of_part c) node o = known.names.doing c _ (entry_now known.names c a) its in
      recover_words node o (inl ok.sent)
  part_words c (Some Steady) a its = Each-append (Word w) (start_on c.part c.epoch c.witnesses) _ (start_words c.part c.epoch c.witnesses) (adopted_word c a, tt)
  part_words c None a its = Each-append (Word w) (start_on c.part c.epoch c.witnesses) _ (start_words c.part c.epoch c.witnesses) (adopted_word c a, tt)

  pub take_word : (c : PartConfig) (number : ℕ) (r : Range) → Word w (take_message c number r)
  take_word c number r = record { uttered = record { from = refl; says_so = λ place. tt; orders = tt }; again = tt }

  give_words : (m : Migration) → w.manager.moving ≡ Some m → (o : Option Package) → m.moved ≡ o → Each (Word w) (nudge_give w.manager m o)
  give_words m its None moved = each_flat (Word w) _ w.manager.config.parts (λ c a.
      cond_both (c.part == m.source) (take_message c m.number m.range ∷ []) [] (Each (Word w)) (λ y. (take_word c m.number m.range, tt)) (λ y. tt))
  give_words m its (Some carried) moved = each_flat (Word w) _ w.manager.config.parts (λ c a.
      cond_both (c.part == m.target) (give_message c m.number carried ∷ []) [] (Each (Word w))
      (λ y. (record { uttered = record { from = refl; says_so = λ place. (known.inv.moving m its).told carried moved; orders = tt }; again = tt }, tt)) (λ y. tt))

  moving_words : (o : Option Migration) → w.manager.moving ≡ o → Each (Word w) (nudge_moving w.manager o)
  moving_words None its = tt
  moving_words (Some m) its = give_words m its m.moved refl

  pub nudge_does : ManagerEffect w (nudge w.manager)
  unfolding nudge
  nudge_does =
      let parts : List Message = flat_map (λ c. nudge_part c (numbered w.manager.doing c.part)) w.manager.config.parts in
      only_says _ (Each-append (Word w) (parts ++ nudge_moving w.manager w.manager.moving) _
      (Each-append (Word w) parts _ (each_flat (Word w) _ w.manager.config.parts (λ c a. part_words c (numbered w.manager.doing c.part) a refl)) (moving_words w.manager.moving refl))
      (each_flat (Word w) (expire_messages w.manager) w.manager.gone (λ client a. expire_words client)))

  pub expire_does : (client : ℕ) → ManagerEffect w (expire w.manager client)
  unfolding expire
  expire_does client = go (client_for w.manager client)
    where
      go : (r : Result ℕ ℕ) → ManagerEffect w (unless_refused w.manager (expires w.manager) r)
      go (Ok c) = stays (expires w.manager c) (expire_words c) entries_keep (moving_keeps _) refl
      go (Err number) = refused number

  pub again_does : (o : Option PartConfig) → ((c : PartConfig) → o ≡ Some c → IsAmong c w.manager.config.parts) → ManagerEffect w (tells_again w.manager o)
  again_does None its = rests
  again_does (Some c) its = only_says (adopted_message c ∷ []) (adopted_word c (its c refl), tt)

  pub configuration_does : (from : NodeId) → ManagerEffect w (heard w.manager from body.Fetch)
  configuration_does from = only_says _ (
    record {
      uttered = record { from = refl; says_so = λ place. each_among (EntryWas w) w.manager.config.parts (λ c a. (known.inv.present c (entry_now known.names c a)).entry); orders = tt };
      again = tt;
    },
    tt,
  )
