-- Lines that are read and done one by one.
use Rattle.std.proofs.Common.{◌≡◌, ℕ, ◌+◌, ◌∷◌, ◌++◌, List, [], Option, Some, None, Result, Ok, Err, IfErr, IsErr, IsErrAnd, OnOk, false, refl, sym, ap, ◌∙◌, subst, append-nil}
use Rattle.curp_msg.specs.declared.script.Header.{Header}
use Rattle.curp_script.specs.Script.{Ending, Whole, Bad, TooLong, TooMany}
use Rattle.curp_runner.proofs.Endings.{written_whole}
use Rattle.curp_runner.specs.Reading.{HasNoHeader, IsOfWriting, Said, SaidScript}
use Rattle.curp_runner.specs.Run.{Rules, after, text_behind_header, text_by, text_due}
use Rattle.curp_runner.specs.Status.{ended, is_cut_short, status_of}
use Rattle.curp_runner.specs.declared.status.Status.{Status}
use Rattle.curp_runner.specs.declared.status.Status.TheVariants as status

-- ---- a line behind those before it

-- the script ends as it does behind its next line
pub ending_stays : {A : Type 0} (body rest : Said A) (l : A) → body ≡ record { lines = l ∷ rest.lines; ending = rest.ending } → rest.ending ≡ body.ending
ending_stays body rest l is = sym (ap (λ (b : Said _). b.ending) is)

-- the text of the next line stands before that of the others
pub next_text : {A W : Type 0} (rules : Rules A W) (number : ℕ) (w new : W) (l : A) (body rest : Said A) → body ≡ record { lines = l ∷ rest.lines; ending = rest.ending }
    → new ≡ rules.next w l → text_due rules number w body ≡ rules.text number w l ++ text_due rules (number + 1) new rest
next_text rules number w new l body rest is made = rw (is, made) refl

-- what all lines lead to is what the other lines lead to from behind the next one
pub after_stays : {A W : Type 0} (rules : Rules A W) (w new : W) (l : A) (body rest : Said A) → body ≡ record { lines = l ∷ rest.lines; ending = rest.ending }
    → new ≡ rules.next w l → after rules new rest.lines ≡ after rules w body.lines
after_stays rules w new l body rest is made = rw (is, made) refl

-- ---- behind the last line

pub none_left : {A : Type 0} (read : Option A) → ((l : A) → read ≡ Some l → ⊥) → read ≡ None
none_left None other = refl
none_left (Some l) other = absurd (other l refl)

-- what holds anyway holds of a value
pub always : (P : Type 0) (r : Result (Unit {0}) Status) → P → OnOk r P
always P (Ok _) h = h
always P (Err stop) h = tt

ends_well : (r : Result (Unit {0}) Status) → OnOk r (ended r ≡ status.Ok)
ends_well (Ok _) = refl
ends_well (Err stop) = tt

-- the closing text is written, or the run is cut short
pub ended_well : (r : Result (Unit {0}) Status) → IfErr r IsOfWriting → is_cut_short (ended r) ≡ false → ended r ≡ status.Ok
ended_well r writing cut = written_whole r writing cut (ends_well r)

-- where a run ends well, its script is whole
pub whole_by : (ending : Ending) → status.Ok ≡ status_of ending → ending ≡ Whole
whole_by Whole ok = refl
whole_by (Bad line reason) ok = absurd cc
whole_by (TooLong line) ok = absurd cc
whole_by TooMany ok = absurd cc

pub on_ok_so : {P Q : Type 0} (r : Result (Unit {0}) Status) → OnOk r P → (ended r ≡ status.Ok → P → Q) → OnOk r Q
on_ok_so (Ok _) p so = so refl p
on_ok_so (Err stop) p so = tt

-- ---- a script without a header

-- a run ends with the stop that it passes on
stopped_by : {A : Type 0} (s : SaidScript A) (stop : Status) (r : Result (Unit {0}) Status) → IsErr r → IsErrAnd r (λ e. e ≡ stop)
    → HasNoHeader s stop → is_cut_short (ended r) ≡ false → (s.header ≡ None) × (ended r ≡ status_of s.body.ending)
stopped_by s stop (Ok _) failed same none cut = absurd same
stopped_by s stop (Err e) failed same none cut =
    let there = none (subst (λ (x : Status). is_cut_short x ≡ false) same cut) in (there.0, same ∙ there.1)

pub refused_ends : {A : Type 0} (s : SaidScript A) (ending : Ending) (stop : Status) (r : Result (Unit {0}) Status) → ending ≡ s.body.ending
    → IsErr r → IsErrAnd r (λ e. e ≡ stop) → HasNoHeader s stop → is_cut_short (ended r) ≡ false → ended r ≡ status_of ending
refused_ends s ending stop r is failed same none cut = (stopped_by s stop r failed same none cut).1 ∙ ap status_of (sym is)

no_text_behind : {A W : Type 0} (rules : Rules A W) (header : Option Header) (body : Said A) → header ≡ None → text_behind_header rules header body ≡ []
no_text_behind rules None body none = refl
no_text_behind rules (Some h) body none = absurd cc

pub refused_wrote : {A W : Type 0} (rules : Rules A W) (s : SaidScript A) (old text : List ℕ) (stop : Status) (r : Result (Unit {0}) Status) → text ≡ text_by rules s
    → IsErr r → IsErrAnd r (λ e. e ≡ stop) → HasNoHeader s stop → is_cut_short (ended r) ≡ false → old ≡ old ++ text
refused_wrote rules s old text stop r is failed same none cut =
    let empty : text ≡ [] = is ∙ no_text_behind rules s.header s.body (stopped_by s stop r failed same none cut).0 in
    sym (append-nil old) ∙ ap (λ (t : List ℕ). old ++ t) (sym empty)
