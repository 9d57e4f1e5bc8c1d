-- Whether a title stands at the start of bytes, by as many of them as a title has.
use Rattle.std.specs.Prelude.{◌≡◌, ◌≢◌, ℕ, ◌<◌, ◌≤◌, List, ◌∷◌, length, take, refl}
use Rattle.std.proofs.Common.{sym, ◌∙◌, ap, arith}
use Rattle.std.proofs.lemmas.List.{take_at}
use Rattle.curp_title.specs.Title.{IsTitle, title_bytes}
use Rattle.curp_title.specs.declared.title.Title.{Title}
use Rattle.curp_title.proofs.Titles.{one_title}
use Rattle.curp_durable.proofs.Walking.{title_other, title_short, title_there}
use Rattle.curp_collected.specs.Files.{HasNoTitle, HasTitle}

pub title_length : (t : Title) → length (title_bytes t) ≡ 36
title_length t = refl

pub titled : (content : List ℕ) (t : Title) → 36 < length content → IsTitle t → take 36 content ≡ title_bytes t → HasTitle content t
titled content t long is same = record {
  is = is;
  starts = title_there content (title_bytes t) (omega (arith, title_length t, long)) (ap (λ n. take n content) (title_length t) ∙ same);
}

pub too_short : (content : List ℕ) → length content ≤ 36 → HasNoTitle content
too_short content short t is = title_short content (title_bytes t) (omega (arith, title_length t, short))

pub not_titled : (content : List ℕ) → ((t : Title) → IsTitle t → take 36 content ≢ title_bytes t) → HasNoTitle content
not_titled content none t is = title_other content (title_bytes t) (λ same. none t is (ap (λ n. take n content) (sym (title_length t)) ∙ same))

-- bytes begin with one title at most
pub one_start : (content : List ℕ) (a b : Title) → HasTitle content a → HasTitle content b → a ≡ b
one_start content a b x y =
    let first : take 36 content ≡ title_bytes a = ap (λ (l : List ℕ). take 36 l) x.starts.is ∙ take_at (title_bytes a) (x.starts.byte ∷ x.starts.rest) 36 (title_length a) in
    let second : take 36 content ≡ title_bytes b = ap (λ (l : List ℕ). take 36 l) y.starts.is ∙ take_at (title_bytes b) (y.starts.byte ∷ y.starts.rest) 36 (title_length b) in
    one_title a b x.is y.is (sym first ∙ second)
