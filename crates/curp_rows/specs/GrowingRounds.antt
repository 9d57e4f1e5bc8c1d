-- A worked example whose script and text follow numbers: 64 clients ask for eight times the same four puts. The first 64
-- requests come to the master, which hears of none of its five backups, so that each round sends them one entry more.
use Rattle.std.specs.Fmt.{decimal}
use Rattle.std.specs.Prelude.{ℕ, ◌+◌, ◌-◌, ◌*◌, ◌/◌, ◌%◌, false, List, [], ◌∷◌, ◌++◌, flat_map, map, replicate, codes}
use Rattle.curp_base.specs.Words.{numbers_from}
use Rattle.curp_cmd.specs.declared.command.Command.{Command}
use Rattle.curp_cmd.specs.declared.command.Command.TheVariants.{Multi}
use Rattle.curp_msg.specs.declared.script.Protocol.TheVariants.{One}
use Rattle.curp_msg.specs.declared.script.Step.{Step}
use Rattle.curp_msg.specs.declared.script.Step.TheVariants.{Invoke, Deliver}
use Rattle.curp_rows.specs.Example.{Example}

-- ---- the steps

-- what each request asks for
abbrev pub four_puts : Command
four_puts = Multi ((codes "a", codes "1") ∷ (codes "b", codes "1") ∷ (codes "c", codes "1") ∷ (codes "d", codes "1") ∷ [])

-- the requests of a client
abbrev pub eight_requests : ℕ → List Step
eight_requests client = replicate 8 (Invoke client four_puts)

-- message n, which is the n-th request, comes to the master
abbrev pub comes : ℕ → Step
comes n = Deliver n

-- ---- the text

-- the client of the n-th request
abbrev pub client_digits : ℕ → List ℕ
client_digits n = decimal ((n - 1) / 8 + 1)

-- its client, and its number among the eight
abbrev pub id_digits : ℕ → List ℕ
id_digits n = client_digits n ++ codes "." ++ decimal ((n - 1) % 8 + 1)

-- step n sends the n-th request
abbrev pub request_lines : ℕ → List ℕ
request_lines n =
    codes "s" ++ decimal n ++ codes " done\nm" ++ decimal n ++ codes " C" ++ client_digits n ++ codes " M1 sync " ++ id_digits n
    ++ codes " f1 e1 v1 multi 61 31 62 31 63 31 64 31\n"

-- round n, by message: 512 requests and five appends a round are sent before it
abbrev pub append_line : ℕ → ℕ → List ℕ
append_line n backup =
    codes "m" ++ decimal (512 + (n - 1) * 5 + backup) ++ codes " M1 B" ++ decimal backup ++ codes " append e1 b0 n" ++ decimal n
    ++ codes " r" ++ decimal n ++ codes "\n"

-- the n-th request comes, and a round begins
abbrev pub round_lines : ℕ → List ℕ
round_lines n = codes "s" ++ decimal (512 + n) ++ codes " done\n" ++ flat_map (append_line n) (numbers_from 1 5)

-- the n-th request in the order
abbrev pub order_line : ℕ → List ℕ
order_line n = id_digits n ++ codes " multi 61 31 62 31 63 31 64 31 -> done\n"

-- ---- the example

abbrev pub growing_rounds : Example
growing_rounds = record {
  header = record { clients = 64; f = 5; fast = false; parts = 1; protocol = One; sets = 16; ways = 4 };
  steps = flat_map eight_requests (numbers_from 1 64) ++ map comes (numbers_from 1 64);
  text =
      flat_map request_lines (numbers_from 1 512) ++ flat_map round_lines (numbers_from 1 64)
      ++ codes "order 64\n" ++ flat_map order_line (numbers_from 1 64);
}
