-- A step that adopts nothing, as moves of the machine, and one of which the machine has nothing.
use Rattle.std.proofs.Common.{◌≡◌, ℕ, List, [], ◌∷◌, ◌++◌, flat_map, refl, ap, sym, ◌∙◌}
use Rattle.curp_base.specs.Words.{Each}
use Rattle.curp_msg.specs.declared.message.Message.{Message}
use Rattle.curp_order.specs.declared.Event.{Event}
use Rattle.curp_model.specs.Marks.{Mark}
use Rattle.curp_model.specs.World.{World}
use Rattle.curp_law_linear.specs.OfWorld.{line_of, told_by}
use Rattle.curp_law_linear.specs.Refined.{RefinesQuiet}
use Rattle.curp_law_linear.proofs.Same.{SameLogs, same_line}

-- messages of which each tells of no package tell of none
pub tell_nothing : (Says : Message → Type 0) → ((m : Message) → Says m → told_by m.body ≡ []) → (out : List Message) → Each Says out → flat_map (λ (m : Message). told_by m.body) out ≡ []
tell_nothing Says none [] all = refl
tell_nothing Says none (m ∷ ms) all = ap (λ (ns : List ℕ). ns ++ flat_map (λ (x : Message). told_by x.body) ms) (none m all.0) ∙ tell_nothing Says none ms all.1

module _ {w v : World} (out : List Message) (s : SameLogs w v out) where
  -- the machine's state by its marks and its history
  pub line_is : (marks : List Mark) (history : List Event) → v.marks ≡ marks → v.history ≡ history → line_of v ≡ record (line_of w) { marks = marks; history = history }
  line_is marks history m h =
      same_line out s ∙ ap (λ (ms : List Mark). record (line_of w) { marks = ms; history = v.history }) m ∙ ap (λ (es : List Event). record (line_of w) { marks = marks; history = es }) h

  -- where the marks and the history stay too, it makes no move
  pub no_move : v.marks ≡ w.marks → v.history ≡ w.history → RefinesQuiet w v
  no_move m h = record { its = record { moves = []; fit = tt; leads = sym (line_is w.marks w.history m h) }; quiet = tt }
