-- No made step stops a node, so each names what a line can name.
use Rattle.std.proofs.Common.{ℕ, Bool, true, false, Option, Some, None, length, nat_lt, if◌then◌else◌, ◌==◌}
use Rattle.std.specs.Prelude.{nat_le, ◌+◌}
use Rattle.rand_pcg.specs.Lcg.{Lcg}
use Rattle.curp_client.specs.Requests.{least_of}
use Rattle.curp_model.specs.Client.{most_pending}
use Rattle.curp_msg.specs.declared.script.Step.TheVariants.{Collect, Deliver, Nudge, Sync}
use Rattle.curp_script.specs.Printed.{NamesNode}
use Rattle.curp_gen.specs.declared.choice.Choice.{Choice}
use Rattle.curp_gen.specs.Draws.{Draw, drawn, pick, pick_to}
use Rattle.curp_gen.specs.Making.{Making, any_message, choice, choice_by, delivery, delivery_by, fetching, invocation, invoked_by, is_recovery_due, keeping, message_at, migration, moving, ordering, passing, pending_of, recovery, resent_by, retrial, sent}

-- what is chosen names such
record Names (d : Draw Choice) : Type 0 where
  names : (words : Lcg) → NamesNode (d words).0.step

either : (so : Bool) (d e : Draw Choice) → Names d → Names e → Names (if so then d else e)
either true d e one other = one
either false d e one other = other

any_names : (m : Making) (cursor : ℕ) → Names (any_message m cursor)
any_names m cursor = record { names = λ words. tt }

at_names : (m : Making) (cursor : ℕ) → Names (message_at m cursor)
at_names m cursor =
    either (nat_le cursor (sent m)) (drawn (record { step = Deliver cursor; cursor = cursor + 1 })) (any_message m cursor)
    (record { names = λ words. tt }) (any_names m cursor)

luck_names : (m : Making) (luck : ℕ) → Names (delivery_by m luck)
luck_names m luck =
    either (luck == 0) (any_message m m.cursor) (if luck == 1 then message_at m (passing m) else message_at m m.cursor)
    (any_names m m.cursor)
    (either (luck == 1) (message_at m (passing m)) (message_at m m.cursor) (at_names m (passing m)) (at_names m m.cursor))

delivery_names : (m : Making) → Names (delivery m)
unfolding delivery
delivery_names m =
    either (sent m == 0) (drawn (keeping m Nudge)) (λ words. delivery_by m (pick 8 words).0 (pick 8 words).1)
    (record { names = λ words. tt })
    (record { names = λ words. (luck_names m (pick 8 words).0).names (pick 8 words).1 })

invocation_names : (m : Making) → Names (invocation m)
invocation_names m = record {
  names = λ words.
      (either (nat_le most_pending (length (pending_of m (pick_to m.plan.clients words).0))) (delivery m) (invoked_by m (pick_to m.plan.clients words).0)
      (delivery_names m) (record { names = λ more. tt })).names (pick_to m.plan.clients words).1;
}

resent_names : (m : Making) (n : ℕ) (o : Option ℕ) → Names (resent_by m n o)
resent_names m n None = delivery_names m
resent_names m n (Some seq) = record { names = λ words. tt }

retrial_names : (m : Making) → Names (retrial m)
retrial_names m = record {
  names = λ words.
      (resent_names m (pick_to m.plan.clients words).0 (least_of (pending_of m (pick_to m.plan.clients words).0))).names
      (pick_to m.plan.clients words).1;
}

migration_names : (m : Making) → Names (migration m)
migration_names m = record {
  names = λ words.
      (either ((pick 8 words).0 == 0) (moving m) (delivery m) (record { names = λ more. tt }) (delivery_names m)).names (pick 8 words).1;
}

kind_names : (m : Making) (kind : ℕ) → Names (choice_by m kind)
kind_names m kind =
    either (nat_lt kind 4) (invocation m) _ (invocation_names m)
    (either (nat_lt kind 6) (ordering m Sync) _ (record { names = λ words. tt })
    (either (nat_lt kind 8) (ordering m Collect) _ (record { names = λ words. tt })
    (either (kind == 8) (fetching m) _ (record { names = λ words. tt })
    (either (kind == 9) (retrial m) _ (retrial_names m)
    (either (kind == 10) (drawn (keeping m Nudge)) _ (record { names = λ words. tt })
    (either (kind == 11) (migration m) (delivery m) (migration_names m) (delivery_names m)))))))

choice_names : (m : Making) → Names (choice m)
unfolding choice
choice_names m =
    either (is_recovery_due m) (recovery m) (λ words. choice_by m (pick 64 words).0 (pick 64 words).1) (record { names = λ words. tt })
    (record { names = λ words. (kind_names m (pick 64 words).0).names (pick 64 words).1 })

-- the step that is chosen next names such
pub next_names_node : (m : Making) → NamesNode (choice m m.words).0.step
next_names_node m = (choice_names m).names m.words
