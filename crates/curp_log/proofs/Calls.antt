-- What the calls of a log give, by what it keeps.
use Rattle.std.proofs.Common.{◌≡◌, ℕ, ◌+◌, ◌<◌, true, false, List, [], ◌∷◌, ◌++◌, length, get_or, take, Some, ap, sym, ◌∙◌}
use Rattle.std.proofs.lemmas.Bool.{and_from}
use Rattle.std.proofs.lemmas.List.{take_more}
use Rattle.std.proofs.lemmas.Option.{slice_get-get_or}
use Rattle.curp_base.specs.Words.{At}
use Rattle.curp_cmd.specs.declared.entry.Entry.{Entry}
use Rattle.curp_model.specs.Log.{fits_at, is_log, meaning}
use Rattle.curp_log.proofs.Grows.{is_log_more, no_log}

-- an entry that doesn't fit behind those before it
pub refused : (lo hi : ℕ) (log : List Entry) (i : ℕ) (e : Entry) → i < length log → e ≡ get_or log i e → fits_at (meaning lo hi (take i log)) e ≡ false → false ≡ is_log lo hi log
refused lo hi log i e within is fails =
    let stands : At log i e = slice_get-get_or log i e within ∙ ap (λ (x : Entry). Some x) (sym is) in
    sym (no_log lo hi log i e stands fails)

pub taken_more : (log : List Entry) (i : ℕ) (e : Entry) → i < length log → e ≡ get_or log i e → take (i + 1) log ≡ take i log ++ e ∷ []
taken_more log i e within is = take_more log i e within ∙ ap (λ (x : Entry). take i log ++ x ∷ []) (sym is)

-- one that does
pub passed : (lo hi : ℕ) (log : List Entry) (i : ℕ) (e : Entry) → i < length log → e ≡ get_or log i e → is_log lo hi (take i log) ≡ true → fits_at (meaning lo hi (take i log)) e ≡ true → is_log lo hi (take (i + 1) log) ≡ true
passed lo hi log i e within is before fits =
    ap (is_log lo hi) (taken_more log i e within is) ∙ is_log_more lo hi (take i log) e ∙ and_from _ _ before fits

-- it fits the same log
pub same_fit : (lo hi from to : ℕ) (xs ys : List Entry) (e : Entry) → lo ≡ from → hi ≡ to → xs ≡ ys → fits_at (meaning lo hi xs) e ≡ fits_at (meaning from to ys) e
same_fit lo hi from to xs ys e a b c = λ i. fits_at (meaning (a i) (b i) (c i)) e
