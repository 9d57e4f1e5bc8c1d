-- A crash may leave anything of a disk that tells nothing.
use Rattle.std.specs.Prelude.{ℕ, List, ⊤, refl}
use Rattle.std.proofs.Common.{arith}
use Rattle.curp_disk.specs.Disk.{CrashesFollow, Torn}

torn_same : (at n : ℕ) (c : List ℕ) → Torn at n c c
torn_same at n c = record { before = refl; after = refl; no_shorter = omega arith; no_longer = omega arith }

pub follows_any : (at n : ℕ) → CrashesFollow (Torn at n) (λ c. ⊤) (λ c. ⊤)
follows_any at n c left = (c, tt, torn_same at n c)
