-- The page for people who ask what the program can do.
use Rattle.std.specs.Prelude.{ℕ, ◌||◌, codes, Bool, true, false, List, [], ◌∷◌}
use Rattle.std.specs.Str.{bytes_eq}
use Rattle.clap.specs.Walk.{Text}

-- no words, or one that asks for help
abbrev pub asks_for_help : List Text → Bool
asks_for_help [] = true
asks_for_help (word ∷ []) = bytes_eq word (codes "help") || (bytes_eq word (codes "-h") || bytes_eq word (codes "--help"))
asks_for_help (word ∷ next ∷ more) = false

unfoldable pub help_text : List ℕ
help_text = codes "curp plays, makes and checks runs of a store that keeps completed updates through crashes (CURP, with RIFL).\n\n  curp play [--history]    reads a script, and prints what each step does, and an order of the requests\n  curp make [options]      prints a made script, for play\n  curp live [options]      runs nodes on threads; prints the script of what they did, and what play prints for it\n  curp check               reads a history and an order; prints yes where the order is one of the history, else no\n  curp resp [options]      reads requests of Redis' protocol, and prints the replies of a cluster\n  curp manage              reads orders for a manager whose journal is kept, and prints what it does\n\nAll read standard input and print to standard output; make and live read nothing.\n\n  play      --history      prints what clients saw, and the order, for check\n  make      --number N     all that is random follows from it, 0 to 18446744073709551615 (1)\n  make      --steps N      steps, 1 to 200000 (4000)\n  make      --clients N    clients, 1 to 64 (8)\n  make      --recoveries N recoveries of a partition, 0 to 64 (3)\n  make      --summary      prints six counts in place of the script\n  live      --number N     the commands follow from it, 0 to 18446744073709551615 (1)\n  live      --commands N   commands of each client, 1 to 100 (50)\n  live      --clients N    clients, 1 to 16 (8)\n  live      --recoveries N recoveries of a partition, 0 to 8 (3)\n  make live --f N          backups, and witnesses, of a partition, 1 to 5 (3)\n  make live --sets N       sets of a witness, 1 to 1024 (64)\n  make live --ways N       slots of a set, 1 to 16 (4)\n  make live --parts N      partitions, 1 to 16 (2)\n  make live --protocol N   1, or 2 for reads in one round trip (1)\n  resp      --f N          backups, and witnesses, 1 to 5 (3)\n  resp      --every N      commands between two recoveries, 0 to 1000000, where 0 is never (0)\n  resp      --script       prints the script of the steps that serve them in place of the replies\n\nWhat an option is where it isn't given stands in brackets. An example:\n\n  curp make --clients 2 --steps 500 | curp play\n"
