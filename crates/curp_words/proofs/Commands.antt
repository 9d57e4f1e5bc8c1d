-- The parser that has some options, and one more.
use Rattle.std.proofs.Common.{◌≡◌, ◌≤◌, ◌<◌, ◌+◌, ◌∙◌, ℕ, List, [], ◌∷◌, length, map, take, get_or, sym, ap, codes}
use Rattle.std.proofs.lemmas.List.{map-append, take_all, take_more}
use Rattle.std.proofs.lemmas.List.Sums.{fold-append}
use Rattle.clap.specs.Simple.{with_rule}
use Rattle.clap.specs.Walk.{Text}
use Rattle.curp_words.specs.Command.{bare_app, bare_rule, valued_app, valued_rule}
use Rattle.curp_words.specs.declared.setting.Setting.{Setting}

abbrev pub names_of : List Setting → List Text
names_of settings = map (λ (setting : Setting). setting.name.now) settings

pub one_more : (settings : List Setting) (count : ℕ) (other : Setting) → count < length settings
    → with_rule (valued_app (names_of (take count settings))) (valued_rule (get_or settings count other).name.now)
    ≡ valued_app (names_of (take (count + 1) settings))
one_more settings count other below =
    let last : Setting = get_or settings count other in
    sym (ap (λ some. valued_app (names_of some)) (take_more settings count other below)
    ∙ ap valued_app (map-append (λ (setting : Setting). setting.name.now) (take count settings) (last ∷ []))
    ∙ fold-append (λ app name. with_rule app (valued_rule name)) (with_rule bare_app (bare_rule (codes "command"))) (names_of (take count settings)) (last.name.now ∷ []))

pub all_options : (settings : List Setting) (count : ℕ) → length settings ≤ count
    → valued_app (names_of (take count settings)) ≡ valued_app (names_of settings)
all_options settings count past = ap (λ some. valued_app (names_of some)) (take_all count settings past)
