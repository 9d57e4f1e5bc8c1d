-- What a master does where suspects came.
use Rattle.std.proofs.Common.{◌≡◌, ℕ, ◌+◌, ◌≤◌, ◌==◌, ◌&&◌, nat_lt, Bool, true, false, List, [], length, None, refl, ap, sym, ◌∙◌, subst, arith}
use Rattle.std.proofs.lemmas.Bool.Decides.{nat_tests}
use Rattle.std.proofs.lemmas.List.{length-append}
use Rattle.curp_base.proofs.Ends.{never_rises}
use Rattle.curp_base.specs.Words.{rises_past}
use Rattle.curp_cmd.specs.declared.command.Request.{Request}
use Rattle.curp_model.specs.Master.{MasterState, appends, begins_round, last_round, next_round, treat, treats}
use Rattle.curp_msg.specs.Moved.{Makes, Node, quiet}
use Rattle.curp_msg.specs.declared.message.Message.{Message}
use Rattle.curp_master.specs.Built.{move_of}
use Rattle.curp_master.specs.Rounds.{at_round}
use Rattle.curp_master_log.specs.Suspects.{news}
use Rattle.curp_master_log.proofs.Suspected.{treat_is}
use Rattle.curp_master.proofs.Ends.{lasts}

pub kept_in : (m : MasterState) (rs : List Request) → ((treat m rs).round ≡ m.round) × ((treat m rs).captured ≡ m.captured)
kept_in m rs = (ap (λ (k : MasterState). k.round) (treat_is m rs), ap (λ (k : MasterState). k.captured) (treat_is m rs))

pub log_length : (m : MasterState) (rs : List Request) → length (treat m rs).log ≡ length m.log + length (news m.lo m.hi m.log rs)
log_length m rs = ap (λ (k : MasterState). length k.log) (treat_is m rs) ∙ length-append m.log (news m.lo m.hi m.log rs)

pub none_pushed : (m : Node MasterState) (rs : List Request) → length (news m.state.lo m.state.hi m.state.log rs) ≡ 0
    → Makes (record m { state = treat m.state rs }) (record { refused = 0; sent = []; invoked = None; completed = None }) (move_of m (treats m.number m.state rs))
none_pushed m rs none =
    let same : (length (treat m.state rs).log == length m.state.log) ≡ true = let long = log_length m.state rs in grind (arith, nat_tests) in
    let kept = kept_in m.state rs in
    rw (same, lasts m.state (quiet (treat m.state rs)) kept.0 kept.1) (refl, refl)

-- it ends only where the number of its round does
begun : (m : MasterState) (n : ℕ) (rs : List Request) → 1 ≤ length (news m.lo m.hi m.log rs) → treats n m rs ≡ begins_round n (treat m rs)
begun m n rs some =
    let other : (length (treat m rs).log == length m.log) ≡ false = let long = log_length m rs in grind (arith, nat_tests) in
    rw other refl

within_end : (last n k : ℕ) → k ≤ last → rises_past last n k ≡ false
within_end last n k low =
    let test : nat_lt last k ≡ false = grind (arith, nat_tests) in
    rw test (none (nat_lt n k))
  where
    none : (b : Bool) → (b && false) ≡ false
    none true = refl
    none false = refl

past_end : (last n k : ℕ) → n ≡ last → k ≡ n + 1 → rises_past last n k ≡ true
past_end last n k at next =
    let up : nat_lt n k ≡ true = grind (arith, nat_tests) in
    let past : nat_lt last k ≡ true = grind (arith, nat_tests) in
    rw (up, past) refl

pub round_ends : (m : Node MasterState) (rs : List Request) → 1 ≤ length (news m.state.lo m.state.hi m.state.log rs) → m.state.round ≡ last_round
    → Makes m (record { refused = 0; sent = []; invoked = None; completed = None }) (move_of m (treats m.number m.state rs))
round_ends m rs some last =
    let kept = kept_in m.state rs in
    let ends : rises_past last_round m.state.round ((treat m.state rs).round + 1) ≡ true = past_end last_round m.state.round _ last (ap (λ (k : ℕ). k + 1) kept.0) in
    rw (begun m.state m.number rs some, ends) (refl, refl)

pub round_begins : (m : Node MasterState) (rs : List Request) (number : ℕ) (sent : List Message) → 1 ≤ length (news m.state.lo m.state.hi m.state.log rs)
    → number ≡ m.state.round + 1 → number ≤ last_round → sent ≡ appends m.number (at_round m.state (m.state.round + 1) (news m.state.lo m.state.hi m.state.log rs))
    → Makes (record m { state = record (treat m.state rs) { round = number } }) (record { refused = 0; sent = sent; invoked = None; completed = None }) (move_of m (treats m.number m.state rs))
round_begins m rs number sent some next low said =
    let kept = kept_in m.state rs in
    let its : number ≡ (treat m.state rs).round + 1 = next ∙ ap (λ (k : ℕ). k + 1) (sym kept.0) in
    let on : rises_past last_round m.state.round ((treat m.state rs).round + 1) ≡ false = within_end last_round m.state.round _ (subst (λ (k : ℕ). k ≤ last_round) its low) in
    let read : rises_past last_round m.state.captured (treat m.state rs).captured ≡ false = never_rises last_round m.state.captured _ kept.1 in
    let same : sent ≡ appends m.number (next_round (treat m.state rs)) = said ∙ ap (λ (k : MasterState). appends m.number (next_round k)) (sym (treat_is m.state rs)) in
    rw (begun m.state m.number rs some, on, read)
    (ap (λ (k : ℕ). record m { state = record (treat m.state rs) { round = k } }) its, ap (λ (xs : List Message). record { refused = 0; sent = xs; invoked = None; completed = None }) same)
