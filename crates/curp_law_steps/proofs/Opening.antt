-- At the opening a client's first update meets nothing, and its first read.
use Rattle.std.proofs.Common.{◌≡◌, ℕ, zero, suc, ◌+◌, ◌*◌, ◌<◌, ◌≤◌, ◌^◌, ◌-◌, ◌%◌, ◌==◌, Bool, true, false, cond, not, List, [], ◌∷◌, map, replicate, Option, Some, None, refl, ap, sym, ◌∙◌, subst, arith, add-mul, le_refl, one-mul}
use Rattle.std.specs.List.{filter, list_all}
use Rattle.std.specs.Option.{ok_or}
use Rattle.std.proofs.Math.Seq.{drop-nil}
use Rattle.std.proofs.lemmas.Bool.{and_from, or_left}
use Rattle.std.proofs.lemmas.Bool.Decides.{nat_tests}
use Rattle.std.proofs.lemmas.List.Sums.{length-filter, count_by-le-length}
use Rattle.std.proofs.lemmas.Nat.{mul-le}
use Rattle.curp_base.specs.Words.{Each, first_of, numbered, numbers_from}
use Rattle.curp_base.proofs.Lists.{Each-from_at, Each-map}
use Rattle.curp_cmd.proofs.Ascendings.{all_ascending}
use Rattle.curp_cmd.specs.Hash.{hash_of, hashed_from, hashes, hashes_of, offset_basis}
use Rattle.curp_cmd.specs.Node.{witness_node}
use Rattle.curp_cmd.specs.Store.{keys_of}
use Rattle.curp_cmd.specs.declared.command.Command.{Command}
use Rattle.curp_cmd.specs.declared.command.Command.TheVariants.{Get}
use Rattle.curp_cmd.specs.declared.node.NodeId.{NodeId}
use Rattle.curp_msg.specs.Moved.{Node, unless_refused}
use Rattle.curp_msg.specs.declared.config.PartConfig.{PartConfig}
use Rattle.curp_msg.specs.declared.script.Header.{Header}
use Rattle.curp_range.specs.Spans.{is_in, is_owned}
use Rattle.curp_model.specs.declared.Check.TheVariants.{New}
use Rattle.curp_model.specs.Client.{invoke, next_request, owner_of, sends_first}
use Rattle.curp_model.specs.Manager.{opening_part}
use Rattle.curp_model.specs.Master.{beginning, by_read_check, state_of, synced}
use Rattle.curp_model.specs.Log.{is_touched}
use Rattle.curp_model.specs.Ranges.{opening_range, owns_all}
use Rattle.curp_model.specs.Table.{check}
use Rattle.curp_model.specs.Witness.{WitnessState, started_witness}
use Rattle.curp_model.specs.World.{opening, opening_client, opening_master, shape_of}
use Rattle.curp_law_steps.specs.Meeting.{CanBeFast, CanGlance, IsTripIn, MeetsNothingIn, ReadMeetsNothingIn}
use Rattle.curp_law_steps.specs.Trip.{MasterServes, MeetsNothing, Reaches, Trip, WitnessIsFree, WitnessIsLive, request}
use Rattle.curp_law_steps.proofs.Apart.{apart_numbers}
use Rattle.curp_law_steps.proofs.OpeningOwners.{opening_owner}
use Rattle.curp_law_steps.proofs.Searches.{FirstFrom, first_number, no_number}
use Rattle.curp_base.proofs.Numbered.{numbered_replicated, made_numbered}

-- ---- hashes have 64 bits

hashed_below : (bytes : List ℕ) (h : ℕ) → h < 2 ^ 64 → hashed_from h bytes < 2 ^ 64
hashed_below [] h low = low
hashed_below (b ∷ bytes) h low = hashed_below bytes _ (omega arith)

hash_below : (bytes : List ℕ) → hash_of bytes < 2 ^ 64
unfolding hash_of
hash_below bytes = hashed_below bytes offset_basis (omega arith)

-- ---- one partition owns them all

owns_hash : (h : ℕ) → h < 2 ^ 64 → is_owned (((opening_range 1 1).lo, (opening_range 1 1).hi) ∷ []) h ≡ true
owns_hash h low = grind (arith, nat_tests)

owns_keys : (keys : List (List ℕ)) → list_all (is_owned (((opening_range 1 1).lo, (opening_range 1 1).hi) ∷ [])) (map hash_of keys) ≡ true
owns_keys [] = refl
owns_keys (key ∷ keys) = and_from _ _ (owns_hash (hash_of key) (hash_below key)) (owns_keys keys)

owns_command : (command : Command) → owns_all (((opening_range 1 1).lo, (opening_range 1 1).hi) ∷ []) (hashes command) ≡ true
owns_command command = all_ascending _ (hashes_of command) ∙ owns_keys (keys_of command)

-- ---- numbered nodes

each_number : (P : ℕ → Type 0) (first count : ℕ) → ((k : ℕ) → first ≤ k → k < first + count → P k) → Each P (numbers_from first count)
each_number P first zero f = tt
each_number P first (suc count) f = (f first (omega arith) (omega arith), each_number P (first + 1) count (λ k low high. f k (omega (arith, low)) (omega (arith, high))))

-- the nodes of one partition are among those of all
last_fits : (p parts f : ℕ) → 1 ≤ p → p ≤ parts → (p - 1) * f + f ≤ parts * f
last_fits p parts f low high =
    let most : (p - 1 + 1) * f ≤ parts * f = mul-le (p - 1 + 1) f parts f (omega (arith, low, high)) (le_refl f) in
    subst (λ (k : ℕ). k ≤ parts * f) (add-mul (p - 1) 1 f ∙ ap (λ (k : ℕ). (p - 1) * f + k) (one-mul f)) most

-- ---- the trip

-- client n invokes the command, which goes to partition p
module _ (h : Header) (n : ℕ) (command : Command) (p : ℕ) where
  abbrev part : PartConfig
  part = opening_part (shape_of h) p

  -- the partition owns all hashes of the command
  abbrev Owned : Type 0
  Owned = owns_all part.ranges (hashes command) ≡ true

  abbrev numbers : List ℕ
  numbers = numbers_from ((p - 1) * h.f + 1) h.f

  abbrev holder : ℕ → Node WitnessState
  holder k = record { number = k; state = started_witness h.sets h.ways 1 }

  abbrev trip : Trip
  trip = record {
    client = record { number = n; state = opening_client h };
    command = command;
    part = part;
    master = record { number = p; state = beginning p 1 1 part.backups part.witnesses (opening_range h.parts p).lo (opening_range h.parts p).hi [] 0 };
    witnesses = map holder numbers;
  }

  same_names : (ks : List ℕ) → map witness_node ks ≡ map (λ (w : Node WitnessState). witness_node w.number) (map holder ks)
  same_names [] = refl
  same_names (k ∷ ks) = ap (λ (rest : List NodeId). witness_node k ∷ rest) (same_names ks)

  not_refused : owner_of trip.client.state.config command ≡ Some part → (invoke n trip.client.state command).refused ≡ 0
  unfolding invoke
  not_refused owner = ap (λ (o : Option PartConfig). (unless_refused trip.client.state (sends_first n trip.client.state (next_request n trip.client.state command)) (ok_or o 3)).refused) owner

  reaches : owner_of trip.client.state.config command ≡ Some part → Reaches trip
  reaches owner = record {
    not_refused = not_refused owner;
    numbers = tt;
    owner = owner;
    its_master = refl;
    its_witnesses = same_names numbers;
    apart = apart_numbers _ h.f;
  }

  serving : Owned → MasterServes part (request trip) trip.master.state
  serving owned = record {
    serves = refl;
    epoch = refl;
    version = refl;
    owns = owned;
    untouched = ap (λ es. not (is_touched es command)) (drop-nil (synced trip.master.state));
  }

  is_new : check (state_of trip.master.state).table (request trip).id ≡ New
  unfolding check
  is_new = refl

  live : (k : ℕ) → WitnessIsLive part (holder k).state
  live k = record { mode = refl; epoch = refl }

  each_witness : (P : WitnessState → Type 0) → ((k : ℕ) → P (holder k).state) → Each (λ (w : Node WitnessState). P w.state) trip.witnesses
  each_witness P f = Each-map (λ (w : Node WitnessState). P w.state) holder numbers (Each-from_at (λ k. P (holder k).state) numbers (λ i k at. f k))

  is_trip : 1 ≤ p → p ≤ h.parts → 1 ≤ n → n ≤ h.clients → IsTripIn (opening h) n command trip
  unfolding opening
  is_trip low high from_one a_client = record {
    its_client = refl;
    its_command = refl;
    stands = record {
      client = numbered_replicated h.clients _ n from_one a_client;
      master = made_numbered (opening_master (shape_of h)) h.parts p low high;
      witnesses = Each-map (λ (w : Node WitnessState). numbered (replicate (h.parts * h.f) (started_witness h.sets h.ways 1)) w.number ≡ Some w.state) holder numbers
          (each_number _ _ h.f (λ k above below. numbered_replicated (h.parts * h.f) _ k (omega (arith, above)) (omega (arith, below, last_fits p h.parts h.f low high))));
    };
  }

-- ---- an update, where there is one partition

module _ (g : Header) (n : ℕ) (command : Command) where
  abbrev h : Header
  h = record g { parts = 1 }

  abbrev t : Trip
  t = trip h n command 1

  module _ (can : CanBeFast h n command) where
    owner : owner_of t.client.state.config command ≡ Some t.part
    owner = ap (λ (b : Bool). first_of (cond b (t.part ∷ []) [])) (owns_command command)

    witness_free : (k : ℕ) → WitnessIsFree t.part (request t) (holder h n command 1 k).state
    witness_free k = record {
      live = live h n command 1 k;
      no_conflict = λ id c. absurd (let none = c.stands in cc);
      room = λ s low.
          let few = count_by-le-length (λ x. x % h.sets == s) (hashes command) in
          omega (arith, few, length-filter (λ x. x % h.sets == s) (hashes command), can.ways);
    }

    meets_nothing : MeetsNothing t
    meets_nothing = record {
      fast = can.fast;
      update = can.update;
      reaches = reaches h n command 1 owner;
      master = record { serving = serving h n command 1 (owns_command command); is_new = is_new h n command 1 };
      witnesses = each_witness h n command 1 (WitnessIsFree t.part (request t)) witness_free;
    }

    meets : MeetsNothingIn (opening h) n command
    meets = record { trip = t; is_trip = is_trip h n command 1 (omega arith) (omega arith) can.from_one can.a_client; meets_nothing = meets_nothing }

pub at_opening : (h : Header) (n : ℕ) (command : Command) → CanBeFast h n command → MeetsNothingIn (opening h) n command
at_opening h n command can =
    let alone : CanBeFast (record h { parts = 1 }) n command = record { fast = can.fast; one_part = refl; from_one = can.from_one; a_client = can.a_client; update = can.update; ways = can.ways } in
    subst (λ (x : Header). MeetsNothingIn (opening x) n command) (λ i. record h { parts = sym can.one_part i }) (meets h n command alone)

-- ---- a read, with any number of partitions

-- of the numbers from n on there is a first that passes, where one of them does
some_number : (passes : ℕ → Bool) (count n k : ℕ) → n ≤ k → k < n + count → passes k ≡ true → (p : ℕ) × FirstFrom passes n count p × (first_of (filter passes (numbers_from n count)) ≡ Some p)
some_number passes count n k low high is = go (first_of (filter passes (numbers_from n count))) refl
  where
    go : (o : Option ℕ) → first_of (filter passes (numbers_from n count)) ≡ o → (p : ℕ) × FirstFrom passes n count p × (first_of (filter passes (numbers_from n count)) ≡ Some p)
    go None e = absurd (let no : true ≡ false = sym is ∙ no_number passes count n e k low high in cc)
    go (Some p) e = (p, first_number passes count n p e, e)

-- the first of what is made of numbers is made of the first number
first_made : {A : Type 0} (f : ℕ → A) (passes : A → Bool) (ns : List ℕ) (p : ℕ) → first_of (filter (λ k. passes (f k)) ns) ≡ Some p → first_of (filter passes (map f ns)) ≡ Some (f p)
first_made f passes [] p e = absurd cc
first_made f passes (k ∷ ns) p e = go (passes (f k)) e (first_made f passes ns p)
  where
    go : (b : Bool) → first_of (cond b (k ∷ filter (λ j. passes (f j)) ns) (filter (λ j. passes (f j)) ns)) ≡ Some p
        → (first_of (filter (λ j. passes (f j)) ns) ≡ Some p → first_of (filter passes (map f ns)) ≡ Some (f p))
        → first_of (cond b (f k ∷ filter passes (map f ns)) (filter passes (map f ns))) ≡ Some (f p)
    go true e rest = let same : k ≡ p = cc in ap (λ (j : ℕ). Some (f j)) same
    go false e rest = rest e

module _ (h : Header) (n : ℕ) (key : List ℕ) (can : CanGlance h n) where
  -- partition p is the first that owns the key
  record IsOwner (p : ℕ) : Type 0 where
    low : 1 ≤ p
    high : p ≤ h.parts
    owned : Owned h n (Get key) p
    owner : owner_of (opening_client h).config (Get key) ≡ Some (opening_part (shape_of h) p)

  owns_key : (p : ℕ) → is_in (opening_range h.parts p).lo (opening_range h.parts p).hi (hash_of key) ≡ true → Owned h n (Get key) p
  owns_key p is = all_ascending (is_owned (opening_part (shape_of h) p).ranges) (hashes_of (Get key)) ∙ and_from _ _ (or_left _ false is) refl

  some_owner : (p : ℕ) × IsOwner p
  some_owner =
      let q = opening_owner h.parts (hash_of key) can.some_part (hash_below key) in
      let owns : ℕ → Bool = λ p. owns_all (opening_part (shape_of h) p).ranges (hashes (Get key)) in
      let f = some_number owns h.parts 1 q.0 q.1 (omega (arith, q.2)) (owns_key q.0 q.3) in (
        f.0,
        record {
          low = f.1.from;
          high = omega (arith, f.1.below);
          owned = f.1.passes;
          owner = first_made (opening_part (shape_of h)) (λ part. owns_all part.ranges (hashes (Get key))) (numbers_from 1 h.parts) f.0 f.2;
        },
      )

  meets_at : (p : ℕ) → IsOwner p → ReadMeetsNothingIn (opening h) n key
  meets_at p o = record {
    trip = trip h n (Get key) p;
    is_trip = is_trip h n (Get key) p o.low o.high can.from_one can.a_client;
    meets_nothing = record {
      protocol = can.protocol;
      get = refl;
      reaches = reaches h n (Get key) p o.owner;
      master = record {
        serving = serving h n (Get key) p o.owned;
        asks = ap by_read_check (is_new h n (Get key) p);
        numbers = omega arith;
      };
      witnesses = each_witness h n (Get key) p (WitnessIsLive (opening_part (shape_of h) p)) (live h n (Get key) p);
    };
  }

pub read_at_opening : (h : Header) (n : ℕ) (key : List ℕ) → CanGlance h n → ReadMeetsNothingIn (opening h) n key
read_at_opening h n key can = let s = some_owner h n key can in meets_at h n key can s.0 s.1
