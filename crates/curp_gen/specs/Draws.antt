-- What is drawn from a stream of random words.
use Rattle.std.specs.Prelude.{ℕ, ◌+◌, ◌%◌}
use Rattle.rand_pcg.specs.Lcg.{Lcg, increment_of, started}
use Rattle.rand_pcg.specs.Pcg.{multiplier_64, pcg32}

-- what is drawn from the words that come next, and the generator of the words behind them
abbrev pub Draw : Type 0 → Type 0
Draw X = Lcg → X × Lcg

-- no word is taken for it
abbrev pub drawn : {X : Type 0} → X → Draw X
drawn x words = (x, words)

-- something is drawn, and then what follows from it
infixl 10 ◌>>=◌
abbrev pub ◌>>=◌ : {X Y : Type 0} → Draw X → (X → Draw Y) → Draw Y
◌>>=◌ first next words = next (first words).0 (first words).1

-- the generator of a number, on one of its streams (PCG)
abbrev pub generator : ℕ → ℕ → Lcg
generator number stream = started 64 multiplier_64 number (increment_of 64 stream)

-- the next word, of 32 bits
abbrev pub next_word : Draw ℕ
next_word = pcg32

-- a number below n
abbrev pub pick : ℕ → Draw ℕ
pick n = do
  word ← next_word
  drawn (word % n)

-- a number from 1 to n
abbrev pub pick_to : ℕ → Draw ℕ
pick_to n = do
  number ← pick n
  drawn (1 + number)
