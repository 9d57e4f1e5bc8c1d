-- Made commands, on sixteen keys.
use Rattle.std.specs.Prelude.{ℕ, ◌==◌, nat_lt, if◌then◌else◌, zero, suc, List, [], ◌∷◌, ◌++◌, codes, drop, take, None}
use Rattle.byteorder.specs.Endian.{big_bytes}
use Rattle.rand_pcg.specs.Lcg.{Lcg}
use Rattle.curp_cmd.specs.declared.command.Command.{Command}
use Rattle.curp_cmd.specs.declared.command.Command.TheVariants.{Append, CondPut, Delete, Get, Incr, Put}
use Rattle.curp_gen.specs.Draws.{Draw, ◌>>=◌, drawn, generator, next_word, pick}

-- the keys are k0 to kf
abbrev pub made_key : ℕ → List ℕ
made_key digit = codes "k" ++ take 1 (drop digit (codes "0123456789abcdef"))

-- the four bytes of the next word, the highest first
abbrev pub word_value : Draw (List ℕ)
word_value = do
  word ← next_word
  drawn (big_bytes 4 word)

-- a put of the next word
abbrev pub put_of_word : List ℕ → Draw Command
put_of_word key = do
  value ← word_value
  drawn (Put key value)

-- a command on a key, of eight kinds: two of them read, and two put a word
abbrev pub command_of : ℕ → List ℕ → Draw Command
command_of kind key =
    if nat_lt kind 2 then drawn (Get key)
    else (if nat_lt kind 4 then put_of_word key
    else (if kind == 4 then drawn (Incr key)
    else (if kind == 5 then drawn (Append key (codes "x"))
    else (if kind == 6 then drawn (Delete key)
    else drawn (CondPut key None (codes "1"))))))

-- a made command
unfoldable pub made_command : Draw Command
made_command = do
  kind ← pick 8
  digit ← pick 16
  command_of kind (made_key digit)

-- so many made commands
unfoldable pub made_commands : ℕ → Lcg → List Command
made_commands zero words = []
made_commands (suc count) words = (made_command words).0 ∷ made_commands count (made_command words).1

-- what a client asks in its turn: its own stream of the number
abbrev pub workload_of : ℕ → ℕ → ℕ → List Command
workload_of number client count = made_commands count (generator number client)
