-- The bytes read ahead, given to a request one by one.
use Rattle.std.proofs.Common.{◌≡◌, ℕ, List, [], ◌∷◌, ◌++◌, drop, refl, ap, sym, ◌∙◌, arith, append_assoc, length-append}
use Rattle.std.specs.Prelude.{Some}
use Rattle.curp_base.specs.Words.{first_of}
use Rattle.curp_io.specs.Streams.{one_more}
use Rattle.curp_resp.specs.Ahead.{Ahead}
use Rattle.curp_resp.specs.Feeds.{Passes, TakesByte, read_on}
use Rattle.curp_resp.specs.Frames.{frame_step}
use Rattle.curp_resp.specs.Kept.{kept_by}
use Rattle.curp_resp.specs.Read.{Gives, Refuses}
use Rattle.curp_resp.specs.declared.frame.Step.{Step}
use Rattle.curp_resp.specs.declared.frame.Step.TheVariants as step
use Rattle.curp_resp.specs.declared.reading.Progress.TheVariants as progress
use Rattle.curp_resp.specs.declared.reading.Reading.{Reading}
use Rattle.curp_resp.proofs.Runs as runs

-- the first byte, and those behind it
first_rest : (bytes : List ℕ) (byte : ℕ) → first_of bytes ≡ Some byte → bytes ≡ byte ∷ drop 1 bytes
first_rest [] byte e = absurd cc
first_rest (first ∷ bytes) byte e = cc

-- ---- what was passed over

pub passes_more : (old now new : Ahead) (prefix : List ℕ) (byte : ℕ) → Passes old now prefix → first_of now.bytes ≡ Some byte
    → new ≡ record { bytes = drop 1 now.bytes; passed = one_more now.passed } → Passes old new (prefix ++ byte ∷ [])
passes_more old now new prefix byte h first is = record {
  prefix_is = append_assoc prefix (byte ∷ []) new.bytes ∙ ap (λ w. prefix ++ byte ∷ w.bytes) is ∙ ap (λ w. prefix ++ w) (sym (first_rest now.bytes byte first)) ∙ h.prefix_is;
  counted = omega (arith, ap (λ w. w.passed) is, h.counted, length-append prefix (byte ∷ []));
}

-- ---- what the bytes come to

-- the byte in front, where the bytes are given by themselves
fed_first : (bytes : List ℕ) (byte : ℕ) (reading : Reading) → first_of bytes ≡ Some byte → read_on bytes reading ≡ read_on (byte ∷ drop 1 bytes) reading
fed_first bytes byte reading first = ap (λ w. read_on w reading) (first_rest bytes byte first)

pub more_by : (s : Step) (rest : List ℕ) (byte : ℕ) (reading new : Reading) → frame_step reading.frame byte ≡ s → TakesByte s byte reading.arguments progress.More new
    → read_on (byte ∷ rest) reading ≡ read_on rest new
more_by (step.On next does) rest byte reading new e h =
    runs.read_on kept_by byte rest reading.frame reading.arguments next does e ∙ ap (λ r. read_on rest r) (sym h.1)
more_by (step.Whole does) rest byte reading new e h = absurd (cc h.0)
more_by step.Refused rest byte reading new e h = absurd (cc h)

pub fed_more : (bytes : List ℕ) (byte : ℕ) (reading new : Reading) → first_of bytes ≡ Some byte
    → TakesByte (frame_step reading.frame byte) byte reading.arguments progress.More new → read_on bytes reading ≡ read_on (drop 1 bytes) new
fed_more bytes byte reading new first h =
    fed_first bytes byte reading first ∙ more_by (frame_step reading.frame byte) (drop 1 bytes) byte reading new refl h

pub whole_by : (s : Step) (rest : List ℕ) (byte : ℕ) (reading new : Reading) → frame_step reading.frame byte ≡ s → TakesByte s byte reading.arguments progress.Whole new
    → read_on (byte ∷ rest) reading ≡ Gives new.arguments rest
whole_by (step.On next does) rest byte reading new e h = absurd (cc h.0)
whole_by (step.Whole does) rest byte reading new e h =
    runs.read_whole kept_by byte rest reading.frame reading.arguments does e ∙ ap (λ k. Gives k rest) (sym h.1)
whole_by step.Refused rest byte reading new e h = absurd (cc h)

pub refused_by : (s : Step) (rest : List ℕ) (byte : ℕ) (reading new : Reading) → frame_step reading.frame byte ≡ s → TakesByte s byte reading.arguments progress.Refused new
    → read_on (byte ∷ rest) reading ≡ Refuses (byte ∷ rest)
refused_by (step.On next does) rest byte reading new e h = absurd (cc h.0)
refused_by (step.Whole does) rest byte reading new e h = absurd (cc h.0)
refused_by step.Refused rest byte reading new e h = runs.read_refused kept_by byte rest reading.frame reading.arguments e
