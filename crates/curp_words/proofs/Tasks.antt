-- The tasks of `make`, `live` and `resp`, by what clap makes of the words.
use Rattle.std.proofs.Common.{◌≡◌, ◌∙◌, cond, refl, ap, ap₂, Option, None, codes}
use Rattle.std.specs.Prelude.{option_map}
use Rattle.clap.specs.Walk.{Text}
use Rattle.curp_words.specs.Words.{is_text, live_options, live_task_by, live_plan_by, make_options, make_task_by, output_by, plan_by, resp_options, resp_task_by, resp_output_by, resp_plan_by}
use Rattle.curp_words.specs.declared.task.Task.TheVariants.{Live, Make, Resp}
use Rattle.curp_words.specs.declared.task.Output.TheVariants.{Script, Summary}
use Rattle.curp_words.specs.declared.task.RespOutput.TheVariants as shown
use Rattle.curp_words.proofs.Parses.{IsWord, ReadsBy, SameValues}

is_make : IsWord make_options
is_make = record { valued = refl; flags = refl; is_built = refl; all_words = λ words. refl; is_free = refl; no_check = λ rows. refl }

is_live : IsWord live_options
is_live = record { valued = refl; flags = refl; is_built = refl; all_words = λ words. refl; is_free = refl; no_check = λ rows. refl }

is_resp : IsWord resp_options
is_resp = record { valued = refl; flags = refl; is_built = refl; all_words = λ words. refl; is_free = refl; no_check = λ rows. refl }

same_plan : (f g : Text → Option Text) → SameValues make_options f g → plan_by f ≡ plan_by g
same_plan f g same = rw (
  same.values (codes "number") refl,
  same.values (codes "f") refl,
  same.values (codes "sets") refl,
  same.values (codes "ways") refl,
  same.values (codes "clients") refl,
  same.values (codes "parts") refl,
  same.values (codes "protocol") refl,
  same.values (codes "steps") refl,
  same.values (codes "recoveries") refl,
) refl

same_live_plan : (f g : Text → Option Text) → SameValues live_options f g → live_plan_by f ≡ live_plan_by g
same_live_plan f g same = rw (
  same.values (codes "number") refl,
  same.values (codes "f") refl,
  same.values (codes "sets") refl,
  same.values (codes "ways") refl,
  same.values (codes "clients") refl,
  same.values (codes "parts") refl,
  same.values (codes "protocol") refl,
  same.values (codes "commands") refl,
  same.values (codes "recoveries") refl,
) refl

same_resp_plan : (f g : Text → Option Text) → SameValues resp_options f g → resp_plan_by f ≡ resp_plan_by g
same_resp_plan f g same =
    let output : resp_output_by f ≡ resp_output_by g = ap (λ b. cond b shown.Script shown.Replies) (same.flags (codes "script")) in
    rw (same.values (codes "f") refl, same.values (codes "every") refl, output) refl

same_task : (f g : Text → Option Text) → SameValues make_options f g → make_task_by f ≡ make_task_by g
same_task f g same =
    ap (λ o. cond (is_text (codes "make") o) (option_map (λ plan. Make plan (output_by f)) (plan_by f)) None) (same.values (codes "command") refl)
    ∙ ap₂ (λ plan output. cond (is_text (codes "make") (g (codes "command"))) (option_map (λ p. Make p output) plan) None)
    (same_plan f g same) (ap (λ b. cond b Summary Script) (same.flags (codes "summary")))

same_live_task : (f g : Text → Option Text) → SameValues live_options f g → live_task_by f ≡ live_task_by g
same_live_task f g same =
    ap₂ (λ o plan. cond (is_text (codes "live") o) (option_map (λ p. Live p) plan) None) (same.values (codes "command") refl) (same_live_plan f g same)

same_resp_task : (f g : Text → Option Text) → SameValues resp_options f g → resp_task_by f ≡ resp_task_by g
same_resp_task f g same =
    ap₂ (λ o plan. cond (is_text (codes "resp") o) (option_map (λ p. Resp p) plan) None) (same.values (codes "command") refl) (same_resp_plan f g same)

-- what each word needs for reading
pub make_reads : ReadsBy make_options make_task_by
make_reads = record { word = is_make; same = same_task }

pub live_reads : ReadsBy live_options live_task_by
live_reads = record { word = is_live; same = same_live_task }

pub resp_reads : ReadsBy resp_options resp_task_by
resp_reads = record { word = is_resp; same = same_resp_task }
