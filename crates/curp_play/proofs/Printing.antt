-- A script that is printed line by line.
use Rattle.std.proofs.Common.{◌≡◌, ◌<◌, ◌+◌, ℕ, List, [], ◌∷◌, ◌++◌, get_or, length, take, ap, sym, ◌∙◌, subst, append_assoc, append-nil}
use Rattle.std.proofs.lemmas.List.{take_more}
use Rattle.curp_base.specs.Words.{Each}
use Rattle.curp_base.proofs.Lists.{Each-append}
use Rattle.serde_json.specs.Written.{compact_text}
use Rattle.curp_msg.specs.declared.script.Header.{Header}
use Rattle.curp_msg.specs.declared.script.Step.{Step}
use Rattle.curp_script.specs.Printed.{header_data}
use Rattle.curp_script.specs.Texts.{header_line, line_text, lines_text, step_line}

lines_push : (ss : List Step) (s : Step) → lines_text (ss ++ s ∷ []) ≡ lines_text ss ++ step_line s
lines_push [] s = append-nil (step_line s)
lines_push (x ∷ ss) s = ap (λ (t : List ℕ). step_line x ++ t) (lines_push ss s) ∙ sym (append_assoc (step_line x) (lines_text ss) (step_line s))

-- the line of the header is printed
pub first_line : (h : Header) (line text : List ℕ) → line ≡ compact_text (header_data h) → text ≡ line ++ 10 ∷ [] → text ≡ header_line h ++ []
unfolding header_line
first_line h line text printed is = is ∙ (ap line_text printed ∙ sym (append-nil (line_text (compact_text (header_data h)))))

-- one step more
more_steps : (ss : List Step) (k : ℕ) (s : Step) → k < length ss → s ≡ get_or ss k s → take (k + 1) ss ≡ take k ss ++ s ∷ []
more_steps ss k s within here = take_more ss k s within ∙ ap (λ (x : Step). take k ss ++ x ∷ []) (sym here)

-- it is printed
pub next_line : (h : Header) (ss : List Step) (k : ℕ) (s : Step) (old new : List ℕ) → k < length ss → s ≡ get_or ss k s
    → old ≡ header_line h ++ lines_text (take k ss) → new ≡ old ++ step_line s → new ≡ header_line h ++ lines_text (take (k + 1) ss)
next_line h ss k s old new within here so_far added =
    added
    ∙ (ap (λ (t : List ℕ). t ++ step_line s) so_far
    ∙ (append_assoc (header_line h) (lines_text (take k ss)) (step_line s)
    ∙ ap (λ (t : List ℕ). header_line h ++ t) (sym (lines_push (take k ss) s) ∙ ap lines_text (sym (more_steps ss k s within here)))))

-- what holds of it holds of each so far
pub next_too : (P : Step → Type 0) (ss : List Step) (k : ℕ) (s : Step) → k < length ss → s ≡ get_or ss k s → Each P (take k ss) → P s
    → Each P (take (k + 1) ss)
next_too P ss k s within here so_far next =
    subst (λ (xs : List Step). Each P xs) (sym (more_steps ss k s within here)) (Each-append P (take k ss) (s ∷ []) so_far (next, tt))
