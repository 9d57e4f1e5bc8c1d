-- An input of requests, one behind the other: what stands at its prefix, and where it breaks off.
use Rattle.std.specs.Prelude.{◌≡◌, ◌≢◌, ℕ, ◌+◌, ◌-◌, ◌^◌, ◌<◌, ◌≤◌, min, List, [], ◌∷◌, ◌++◌, length, take}
use Rattle.curp_resp.specs.Language.{IsRequest, IsViablePrefix}

-- a request with these arguments stands at the prefix, and the rest behind it
pub record StandsFirst (bytes : List ℕ) (arguments : List (List ℕ)) (rest : List ℕ) : Type 0 where
  pub spelled : List ℕ
  pub request : IsRequest spelled arguments
  pub is : spelled ++ rest ≡ bytes

-- no request stands at the prefix
abbrev pub NoneStandsFirst : List ℕ → Type 0
NoneStandsFirst bytes = (arguments : List (List ℕ)) (rest : List ℕ) → StandsFirst bytes arguments rest → ⊥

-- some request stands at the prefix
abbrev pub SomeStandsFirst : List ℕ → Type 0
SomeStandsFirst bytes = (arguments : List (List ℕ)) × (rest : List ℕ) × StandsFirst bytes arguments rest

-- some request begins with the first bytes, so many, and none with more of them
pub record IsLongestPrefix (bytes : List ℕ) (count : ℕ) : Type 0 where
  pub within : count ≤ length bytes
  pub prefix : IsViablePrefix (take count bytes)
  pub longest : (more : ℕ) → count < more → more ≤ length bytes → IsViablePrefix (take more bytes) → ⊥

-- Bytes that aren't empty begin with no request. The byte at this place, from 0, is the first that no spelling of a
-- request allows, or, where the place is behind the last byte, they end inside a request.
pub record BreaksOff (bytes : List ℕ) (place : ℕ) : Type 0 where
  pub some : bytes ≢ []
  pub none : NoneStandsFirst bytes
  pub longest : IsLongestPrefix bytes place

-- The input is these requests, one behind the other, and a rest that begins with none.
abbrev pub Decomposes : List (List (List ℕ)) → List ℕ → List ℕ → Type 0
Decomposes [] input rest = (input ≡ rest) × NoneStandsFirst rest
Decomposes (arguments ∷ requests) input rest =
    (behind : List ℕ) × StandsFirst input arguments behind × Decomposes requests behind rest

-- so many bytes behind a place; a `u64` that stands at its type's end stands still
abbrev pub place_behind : ℕ → ℕ → ℕ
place_behind place count = min (place + count) (2 ^ 64 - 1)
