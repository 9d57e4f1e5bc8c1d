-- What holds after every step, all together.
use Rattle.curp_model.specs.World.{World}
use Rattle.curp_facts.specs.Facts.{PairsGood}
use Rattle.curp_facts.specs.Kept.{FactsKept, Kept, LivesEarly}
use Rattle.curp_facts.specs.Known.{Known}
use Rattle.curp_law_linear.specs.Ordered.{Ordered}
use Rattle.curp_law_linear.specs.Serves.{OpeningServes}
use Rattle.curp_law_linear.proofs.KeptOwners.{hashes_kept}
use Rattle.curp_law_linear.proofs.KeptReads.{captures_kept, values_kept}
use Rattle.curp_law_linear.proofs.KeptStores.{stores_kept}
use Rattle.curp_law_linear.proofs.Statements.{late_replies}
use Rattle.curp_facts.specs.Predecessors.{Predecessors}
use Rattle.curp_facts.specs.Migrated.{Migrated}
use Rattle.curp_law_linear.proofs.KeptQuicks.{quicks_kept, seen_kept}
use Rattle.curp_facts.specs.Routes.{Routes}

-- with the pairs and what was said, logs, nodes and adoptions keep, it is what follows of the order
pub kept_of_world : {w : World} → Known w → Predecessors w → Routes w → Migrated w → Ordered w → OpeningServes w → PairsGood w → FactsKept w → LivesEarly w → Kept w
kept_of_world known chain routes migrated ordered serves pairs facts lives = record {
  pairs = pairs;
  facts = facts;
  owned = hashes_kept known chain routes migrated ordered serves;
  stores = stores_kept known chain routes migrated ordered;
  values = values_kept known ordered;
  captures = captures_kept known ordered;
  late = late_replies known chain migrated ordered;
  quick = quicks_kept known ordered;
  seen = seen_kept known;
  lives = lives;
}
