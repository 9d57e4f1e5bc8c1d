-- What is written of a script, in parts.
use Rattle.std.proofs.Common.{◌≡◌, [], ◌∷◌, ◌++◌, ℕ, List, subst, append_assoc}
use Rattle.curp_io.specs.Streams.{HoldsPart}
use Rattle.curp_play.specs.Play.{text_of}
use Rattle.curp_runner.specs.Reading.{script_in}
use Rattle.curp_runner.proofs.Pieces.{first_of_two, second_of_two}
use Rattle.curp_play.specs.Show.{played}

-- a prefix of a script and the empty line
pub script_prefix : (text old new : List ℕ) → HoldsPart old new (text ++ 10 ∷ []) → HoldsPart old new (played text)
script_prefix text old new h =
    subst (λ (t : List ℕ). HoldsPart old new t) (append_assoc text (10 ∷ []) (text_of (script_in text)))
    (first_of_two old new (text ++ 10 ∷ []) (text_of (script_in text)) h)

-- both, and a prefix of what is played
pub played_prefix : (text old mid new : List ℕ) → mid ≡ old ++ (text ++ 10 ∷ []) → HoldsPart mid new (text_of (script_in text)) → HoldsPart old new (played text)
played_prefix text old mid new whole h =
    subst (λ (t : List ℕ). HoldsPart old new t) (append_assoc text (10 ∷ []) (text_of (script_in text)))
    (second_of_two old mid new (text ++ 10 ∷ []) (text_of (script_in text)) whole h)
