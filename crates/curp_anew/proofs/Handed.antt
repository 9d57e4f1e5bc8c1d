-- What is handed out of journals as they were taken: of one more, and what holds of it.
use Rattle.std.proofs.Common.{◌≡◌, ◌<◌, ◌≤◌, ◌+◌, ◌*◌, ℕ, Bool, true, false, List, [], ◌∷◌, ◌++◌, length, take, drop, refl, ap, sym, ◌∙◌, subst, append_assoc, append-nil, length-append, add-one, arith}
use Rattle.std.specs.List.{filter}
use Rattle.std.proofs.Math.Seq.{take-suc}
use Rattle.std.proofs.Math.ListN.{drop_of_length-le}
use Rattle.std.proofs.lemmas.List.{drop-append-le, length-take-le, take-append-le, take_all}
use Rattle.std.proofs.lemmas.List.Elements.{filter-append}
use Rattle.std.proofs.lemmas.Option.{get_or_from_slice_get}
use Rattle.curp_base.specs.Words.{At, Each}
use Rattle.curp_base.proofs.Lists.{Each-append, Each-drop, Each-filter, Each-take, at_within}
use Rattle.curp_journal.specs.Journal.{NodeJournal}
use Rattle.curp_anew.specs.Opening.{all_handed_out, handed_out, took_something}

-- where all are there, all are handed out
pub handed_whole : {N : Type 0} (there : ℕ) (logs : List (NodeJournal N)) → length logs ≤ there → all_handed_out there logs ≡ logs
handed_whole {N} there logs few =
    ap (λ (xs : List (NodeJournal N)). xs ++ filter took_something (drop there logs)) (take_all there logs few)
    ∙ ap (λ (xs : List (NodeJournal N)). logs ++ filter took_something xs) (drop_of_length-le logs few)
    ∙ append-nil logs

-- one more behind them
pub handed_more : {N : Type 0} (there : ℕ) (logs : List (NodeJournal N)) (log : NodeJournal N) (is_there : Bool)
    → (is_there ≡ true → length logs < there) → (is_there ≡ false → there ≤ length logs)
    → all_handed_out there (logs ++ log ∷ []) ≡ all_handed_out there logs ++ handed_out is_there log
handed_more {N} there logs log true low high =
    let few = low refl in
    handed_whole there (logs ++ log ∷ []) (omega (arith, length-append logs (log ∷ []), few))
    ∙ ap (λ (xs : List (NodeJournal N)). xs ++ log ∷ []) (sym (handed_whole there logs (omega (arith, few))))
handed_more {N} there logs log false low high =
    let many = high refl in
    let others = filter took_something (drop there logs) in
    ap (λ (xs : List (NodeJournal N)). xs ++ filter took_something (drop there (logs ++ log ∷ []))) (take-append-le there logs (log ∷ []) many)
    ∙ ap (λ (xs : List (NodeJournal N)). take there logs ++ filter took_something xs) (drop-append-le there logs (log ∷ []) many)
    ∙ ap (λ (xs : List (NodeJournal N)). take there logs ++ xs) (filter-append took_something (drop there logs) (log ∷ []))
    ∙ sym (append_assoc (take there logs) others (filter took_something (log ∷ [])))

-- the next of those that were taken
pub handed_next : {N : Type 0} (there place : ℕ) (taken : List (NodeJournal N)) (log : NodeJournal N) (is_there : Bool) (old new : List (NodeJournal N))
    → At taken place log → (is_there ≡ true → place < there) → (is_there ≡ false → there ≤ place)
    → new ≡ old ++ handed_out is_there log → old ≡ all_handed_out there (take place taken) → new ≡ all_handed_out there (take (place + 1) taken)
handed_next {N} there place taken log is_there old new at low high put before =
    let within = at_within taken place log at in
    let many : length (take place taken) ≡ place = length-take-le place taken (omega (arith, within)) in
    let more : take (place + 1) taken ≡ take place taken ++ log ∷ [] =
    rw add-one (take-suc taken place log within ∙ ap (λ (x : NodeJournal N). take place taken ++ x ∷ []) (get_or_from_slice_get taken place log log at)) in
    put
    ∙ ap (λ (xs : List (NodeJournal N)). xs ++ handed_out is_there log) before
    ∙ sym (handed_more there (take place taken) log is_there (λ yes. omega (arith, many, low yes)) (λ no. omega (arith, many, high no)))
    ∙ ap (all_handed_out there) (sym more)

-- what holds of each that was taken holds of what is handed out
pub each_handed : {N : Type 0} (P : NodeJournal N → Type 0) (there : ℕ) (logs : List (NodeJournal N)) → Each P logs → Each P (all_handed_out there logs)
each_handed P there logs each =
    Each-append P (take there logs) (filter took_something (drop there logs)) (Each-take P there logs each)
    (Each-filter P took_something (drop there logs) (Each-drop P there logs each))
