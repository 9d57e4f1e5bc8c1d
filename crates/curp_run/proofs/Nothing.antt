-- What stands of a task where there was no memory to read the words: nothing was read or written.
use Rattle.std.proofs.Common.{◌≡◌, inl, inr, ℕ, List, [], Option, Some, None, refl, sym, subst, append-nil}
use Rattle.curp_io.specs.Streaming.{Took, Wrote}
use Rattle.curp_io.specs.Streams.{HoldsPart}
use Rattle.curp_script.specs.Script.{Ending}
use Rattle.curp_runner.specs.declared.status.Status.TheVariants as status
use Rattle.curp_run.specs.Does.{DoesAsked, DoesScript}
use Rattle.curp_words.specs.declared.task.Report.TheVariants.{Steps, History}
use Rattle.curp_words.specs.declared.task.Task.{Task}
use Rattle.curp_words.specs.declared.task.Task.TheVariants.{Play, Make, Live, Check, Manage, Resp}

-- nothing of a text stands behind what was held
nothing_held : (before after text : List ℕ) → after ≡ before → HoldsPart before after text
nothing_held before after text same =
    subst (λ (x : List ℕ). HoldsPart before x text) (sym same) (record { part = []; prefix = record { rest = text; is = refl }; added = sym (append-nil before) })

-- a script of which nothing was done
nothing_of : (ending : Ending) (whole : List ℕ) (took : Took) (wrote : Wrote) → wrote.after ≡ wrote.before → DoesScript ending whole took wrote status.NoMemory
nothing_of ending whole took wrote same = record {
  ends = λ t c. absurd cc;
  end = λ t c. absurd cc;
  complete = λ t w r f. inr refl;
  text = λ t. record { whole = λ k c. absurd cc; prefix = λ k. nothing_held _ _ _ same };
}

pub nothing_done : (asked : Option Task) (took : Took) (wrote : Wrote) → wrote.after ≡ wrote.before → DoesAsked asked took wrote status.NoMemory
nothing_done None took wrote same = inr refl
nothing_done (Some (Play Steps)) took wrote same = record {
  does = nothing_of _ _ took wrote same;
  at_fault = λ t k c. absurd cc;
  passed_on = λ c. absurd cc;
  order = λ t c. absurd cc;
}
nothing_done (Some (Play History)) took wrote same = record {
  does = nothing_of _ _ took wrote same;
  order = λ t c. absurd cc;
}
nothing_done (Some (Make plan form)) took wrote same = record {
  of_making = inr (inr refl);
  complete = λ f. inr refl;
  text = record { whole = λ k c. absurd cc; prefix = λ k. nothing_held _ _ _ same };
  reads = λ c f. absurd cc;
}
nothing_done (Some (Live plan)) took wrote same = record {
  of_making = inr (inr refl);
  complete = λ f. inr refl;
  text = λ t c. absurd cc;
  prefix = λ t. inl same;
}
nothing_done (Some Check) took wrote same = record {
  ends = λ t c. absurd cc;
  yes = λ t c. absurd cc;
  no = λ clause t c. absurd cc;
  end = λ t c. absurd cc;
  complete = λ t w r f. inr refl;
  text = λ t c. absurd cc;
  prefix = λ t k. inl same;
}
nothing_done (Some Manage) took wrote same = record {
  does = nothing_of _ _ took wrote same;
  at_fault = λ t k c. absurd cc;
  passed_on = λ c. absurd cc;
}
nothing_done (Some (Resp plan)) took wrote same = record {
  ends = λ requests rest t d c. absurd cc;
  text = λ requests rest t d. record { whole = λ k c. absurd cc; prefix = λ k. nothing_held _ _ _ same };
  at_fault = λ t k c. absurd cc;
  passed_on = λ c. absurd cc;
  plays = λ requests rest t d c o. absurd cc;
  as_one_thread = λ requests c s. absurd cc;
  prefix_of_one_thread = λ requests c. absurd cc;
  shows_replied = λ requests c. absurd cc;
  completes_in_turn = λ requests c s. absurd cc;
}
