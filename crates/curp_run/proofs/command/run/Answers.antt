use Rattle.std.proofs.Common.{◌≡◌, ⊎_elim, inl, inr, Option, Some, refl, ap, sym, subst, rules}
use Rattle.curp_io.specs.Streaming.{took_of, wrote_of}
use Rattle.curp_run.proofs.Ends.{making_never_asks, making_never_reads, making_whole}
use Rattle.curp_run.proofs.Nothing.{nothing_done}
use Rattle.curp_run.specs.Does.{DoesAsked}
use Rattle.curp_words.specs.Arguments.{asked}
use Rattle.curp_words.specs.declared.task.Report.TheVariants.{Steps, History}
use Rattle.curp_words.specs.declared.task.Task.{Task}
use Rattle.curp_words.specs.declared.task.Task.TheVariants.{Play, Live, Manage}
use Rattle.curp_run.proofs.command.run.Goals as goal

pub returns-in-Ok-Play-Steps-clause-ran : goal.returns-in-Ok-Play-Steps-clause-ran
returns-in-Ok-Play-Steps-clause-ran g c =
    let did = c.play_script.ensures in
    let took = took_of g.S.Source.tells g.S.Source.left g.S.Source.faults c.args.source.now c.play_script.new.source in
    let wrote = wrote_of g.K.Sink.tells g.K.Sink.held g.K.Sink.flushed g.K.Sink.faults c.args.sink.now c.play_script.new.sink in
    let asks : asked c.args.arguments.now ≡ Some (Play Steps) = search rules in
    record {
      did = subst (λ (task : Option Task). DoesAsked task took wrote c.play_script.result) (sym asks) (record {
        does = record { ends = did.ends; end = did.end; complete = did.complete; text = did.wrote };
        at_fault = did.at_fault;
        passed_on = λ is. ⊎_elim (λ flushed. inl flushed) (λ same. inr (ap g.K.Sink.held same)) (did.passed_on is);
        order = did.order;
      });
      usage = λ is. absurd (did.never_usage is);
      flushed = λ some cut. did.passes_on.whole cut;
      read_fault = did.read_fault;
      write_fault = did.write_fault;
    }

pub returns-in-Ok-Play-History-clause-ran : goal.returns-in-Ok-Play-History-clause-ran
returns-in-Ok-Play-History-clause-ran g c =
    let did = c.play_history.ensures in
    let took = took_of g.S.Source.tells g.S.Source.left g.S.Source.faults c.args.source.now c.play_history.new.source in
    let wrote = wrote_of g.K.Sink.tells g.K.Sink.held g.K.Sink.flushed g.K.Sink.faults c.args.sink.now c.play_history.new.sink in
    let asks : asked c.args.arguments.now ≡ Some (Play History) = search rules in
    record {
      did = subst (λ (task : Option Task). DoesAsked task took wrote c.play_history.result) (sym asks) (record {
        does = record { ends = did.ends; end = did.end; complete = did.complete; text = did.wrote };
        order = did.claim;
      });
      usage = λ is. absurd (did.never_usage is);
      flushed = λ some cut. did.passes_on.whole cut;
      read_fault = did.read_fault;
      write_fault = did.write_fault;
    }

pub returns-in-Ok-Manage-clause-ran : goal.returns-in-Ok-Manage-clause-ran
returns-in-Ok-Manage-clause-ran g c =
    let did = c.manage_orders.ensures in
    let took = took_of g.S.Source.tells g.S.Source.left g.S.Source.faults c.args.source.now c.manage_orders.new.source in
    let wrote = wrote_of g.K.Sink.tells g.K.Sink.held g.K.Sink.flushed g.K.Sink.faults c.args.sink.now c.manage_orders.new.sink in
    let asks : asked c.args.arguments.now ≡ Some Manage = search rules in
    record {
      did = subst (λ (task : Option Task). DoesAsked task took wrote c.manage_orders.result) (sym asks) (record {
        does = record { ends = did.ends; end = did.end; complete = did.complete; text = did.wrote };
        at_fault = did.at_fault;
        passed_on = λ is. ⊎_elim (λ flushed. inl flushed) (λ same. inr (ap g.K.Sink.held same)) (did.passed_on is);
      });
      usage = λ is. absurd (did.never_usage is);
      flushed = λ some cut. did.passes_on.whole cut;
      read_fault = did.read_fault;
      write_fault = did.write_fault;
    }

pub returns-in-Ok-Live-clause-ran : goal.returns-in-Ok-Live-clause-ran
returns-in-Ok-Live-clause-ran g c =
    let did = c.live_script.ensures in
    let took = took_of g.S.Source.tells g.S.Source.left g.S.Source.faults c.args.source.now c.args.source.now in
    let wrote = wrote_of g.K.Sink.tells g.K.Sink.held g.K.Sink.flushed g.K.Sink.faults c.args.sink.now c.live_script.new.sink in
    let asks : asked c.args.arguments.now ≡ Some (Live c.in-Ok-Live.plan) = search rules in
    record {
      did = subst (λ (task : Option Task). DoesAsked task took wrote c.live_script.result) (sym asks) (record {
        of_making = did.of_making;
        complete = did.complete;
        text = did.wrote;
        prefix = did.prefix;
      });
      usage = λ is. absurd (making_never_asks c.live_script.result did.of_making is);
      flushed = λ some cut. did.flushed (making_whole c.live_script.result did.of_making cut);
      read_fault = record { rose = λ is. absurd (making_never_reads c.live_script.result did.of_making is); stands = λ other. refl };
      write_fault = did.write_fault;
    }

pub returns-in-Err-NoMemory-clause-ran : goal.returns-in-Err-NoMemory-clause-ran
returns-in-Err-NoMemory-clause-ran g c = record {
  did = nothing_done _ _ _ refl;
  usage = λ is. absurd cc;
  flushed = λ some cut. absurd cc;
  read_fault = record { rose = λ is. absurd cc; stands = λ is. refl };
  write_fault = record { rose = λ is. absurd cc; stands = λ is. refl };
}
