use Rattle.std.proofs.Common.{◌≡◌, ℕ, ◌-◌, ◌^◌, ◌==◌, nat_le, if◌then◌else◌, length, Bool, false, List, Option, Some, None, true, refl}
use Rattle.std.proofs.lemmas.Bool.{cond_both}
use Rattle.std.specs.FinMap as map
use Rattle.curp_cmd.specs.Store.{Applied, Contents, applied, is_undone, lengthened, next_number, number_of}
use Rattle.curp_cmd.specs.declared.command.Answer.TheVariants.{Swapped}
use Rattle.curp_cmd.specs.declared.command.Command.{Command}
use Rattle.curp_cmd.specs.declared.command.Command.TheVariants.{Get, Put, Delete, Incr, Append, CondPut, Multi}
use Rattle.curp_cmd.proofs.laws.undone_changes_nothing.Goals as goal

-- what was done leaves the store as it was, where it answers that nothing was done
abbrev Keeps : Contents → Applied → Type 0
Keeps s r = is_undone r.answer ≡ true → r.after ≡ s

increment_keeps : (s : Contents) (key : List ℕ) (n : Option ℕ) → Keeps s (next_number s key n)
increment_keeps s key None = λ e. refl
increment_keeps s key (Some n) = cond_both (n == 2 ^ 64 - 1) _ _ (λ (r : Applied). Keeps s r) (λ y e. refl) (λ no e. absurd cc)

append_keeps : (s : Contents) (key bytes : List ℕ) → Keeps s (lengthened s key bytes)
append_keeps s key bytes = cond_both (nat_le (length bytes) 128) _ _ (λ (r : Applied). Keeps s r) (λ y e. absurd cc) (λ no e. refl)

swap_keeps : (s : Contents) (key value : List ℕ) (same : Bool)
    → Keeps s (if same then record { answer = Swapped true; after = map.insert s key value } else record { answer = Swapped false; after = s })
swap_keeps s key value true = λ e. absurd cc
swap_keeps s key value false = λ e. refl

keeps : (s : Contents) (command : Command) → Keeps s (applied s command)
unfolding applied
keeps s (Get key) = λ e. absurd cc
keeps s (Put key value) = λ e. absurd cc
keeps s (Delete key) = λ e. absurd cc
keeps s (Incr key) = increment_keeps s key (number_of (map.get s key))
keeps s (Append key more) = append_keeps s key _
keeps s (CondPut key expected value) = swap_keeps s key value _
keeps s (Multi pairs) = λ e. absurd cc

pub returns : goal.returns
returns c = keeps
