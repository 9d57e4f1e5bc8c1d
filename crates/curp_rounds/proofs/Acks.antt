-- What backups have acknowledged, found and raised.
use Rattle.std.proofs.Common.{Bool, true, false, ◌≡◌, ℕ, zero, suc, ◌+◌, ◌-◌, ◌<◌, ◌≤◌, ◌&&◌, if◌then◌else◌, nat_le, min, max, List, [], ◌∷◌, ◌++◌, length, get_or, set, take, drop, Option, Some, None, IfSome, IfNone, is_some, refl, ap, sym, ◌∙◌, subst, arith}
use Rattle.std.specs.List.{fold}
use Rattle.std.specs.Option.{option_map}
use Rattle.std.proofs.lemmas.Bool.Decides.{nat_tests}
use Rattle.std.proofs.Math.Seq.{take-length}
use Rattle.curp_cmd.specs.declared.node.NodeId.{NodeId}
use Rattle.curp_model.specs.Master.{Acknowledged, all_have, from_backup, least, nothing_from, raised}
use Rattle.curp_rounds.specs.Backups.{lengths, NoneBelow, IsFirst, ArePlaces, all_at, all_set, place_in, place_or, raised_by, stored_by_all}
use Rattle.curp_cmd.specs.Node.{same_node}
use Rattle.curp_cmd.proofs.Nodes.{same_node-self, same_node-true}

first_tail : (a : Acknowledged) (all : List Acknowledged) (b : NodeId) (at : ℕ) → IsFirst (a ∷ all) b (suc at) → IsFirst all b at
first_tail a all b at f = record {
  within = omega (arith, f.within);
  its = λ d. f.its d;
  before = λ k d l. f.before (suc k) d (omega arith);
}

pub from_first : (all : List Acknowledged) (b : NodeId) (at : ℕ) (d : Acknowledged) → IsFirst all b at → from_backup all b ≡ get_or all at d
from_first [] b at d f = absurd (omega (arith, f.within))
from_first (a ∷ all) b zero d f = rw (f.its d) refl
from_first (a ∷ all) b (suc at) d f = rw (f.before 0 d (omega arith)) (from_first all b at d (first_tail a all b at f))

pub from_none : (all : List Acknowledged) (b : NodeId) → NoneBelow all b (length all) → from_backup all b ≡ nothing_from b
from_none [] b none = refl
from_none (a ∷ all) b none = rw (none 0 a (omega arith)) (from_none all b (λ k d l. none (suc k) d (omega arith)))

raised_first : (all : List Acknowledged) (b : NodeId) (at long round : ℕ) (d : Acknowledged) → IsFirst all b at
    → set all at (record { backup = (get_or all at d).backup; length = max (get_or all at d).length long; round = max (get_or all at d).round round }) ≡ raised all b long round
raised_first [] b at long round d f = absurd (omega (arith, f.within))
raised_first (a ∷ all) b zero long round d f = rw (f.its d) (ap (λ (x : NodeId). record { backup = x; length = max a.length long; round = max a.round round } ∷ all) (same_node-true a.backup b (f.its d)))
raised_first (a ∷ all) b (suc at) long round d f = rw (f.before 0 d (omega arith)) (ap (λ rest. a ∷ rest) (raised_first all b at long round d (first_tail a all b at f)))

pub raised_there : (all : List Acknowledged) (b : NodeId) (at long round : ℕ) (d : Acknowledged) → d ≡ get_or all at d → IsFirst all b at
    → set all at (record { backup = d.backup; length = max d.length long; round = max d.round round }) ≡ raised all b long round
raised_there all b at long round d is f =
    subst (λ (x : Acknowledged). set all at (record { backup = x.backup; length = max x.length long; round = max x.round round }) ≡ raised all b long round) (sym is) (raised_first all b at long round d f)

pub raised_none : (all : List Acknowledged) (b : NodeId) (long round : ℕ) → NoneBelow all b (length all) → all ++ record { backup = b; length = long; round = round } ∷ [] ≡ raised all b long round
raised_none [] b long round none = refl
raised_none (a ∷ all) b long round none = rw (none 0 a (omega arith)) (ap (λ rest. a ∷ rest) (raised_none all b long round (λ k d l. none (suc k) d (omega arith))))

-- ---- the least length

least_merged : (m n : ℕ) (more : List ℕ) → least (min m n ∷ more) ≡ least (m ∷ n ∷ more)
least_merged m n [] = refl
least_merged m n (k ∷ more) = omega arith

least_fold : (all : List Acknowledged) (n : ℕ) (others : List NodeId) → fold (λ l b. min l (from_backup all b).length) n others ≡ least (n ∷ lengths all others)
least_fold all n [] = refl
least_fold all n (b ∷ more) = least_fold all (min n (from_backup all b).length) more ∙ least_merged n (from_backup all b).length (lengths all more)

-- the first backup, and the others behind it
pub least_parts : (all : List Acknowledged) (backups : List NodeId) (d : NodeId) → 1 ≤ length backups
    → fold (λ l b. min l (from_backup all b).length) (from_backup all (get_or backups 0 d)).length (take (length backups - 1) (drop 1 backups)) ≡ least (lengths all backups)
least_parts all [] d some = absurd (omega arith)
least_parts all (b ∷ others) d some =
    let behind : length (b ∷ others) - 1 ≡ length others = omega arith in
    rw (behind, take-length) (least_fold all (from_backup all b).length others)

-- each backup of a list has acknowledged at least what all of them have
pub least_below : (all : List Acknowledged) (backups : List NodeId) (k : ℕ) (d : NodeId) → k < length backups
    → stored_by_all all backups ≤ (from_backup all (get_or backups k d)).length
least_below all [] k d within = absurd (omega (arith, within))
least_below all (c ∷ []) zero d within = omega arith
least_below all (c ∷ e ∷ more) zero d within = omega arith
least_below all (c ∷ []) (suc k) d within = absurd (omega (arith, within))
least_below all (c ∷ e ∷ more) (suc k) d within =
    let behind : stored_by_all all (e ∷ more) ≤ (from_backup all (get_or (e ∷ more) k d)).length = least_below all (e ∷ more) k d (omega (arith, within)) in
    omega (arith, behind)

-- ---- what all backups have

and_true : (b : Bool) → (b && true) ≡ b
and_true true = refl
and_true false = refl

and_both : (x y z : Bool) → (x && (y && z)) ≡ ((x && y) && z)
and_both true y z = refl
and_both false y z = refl

-- one backup more
pub all_more : (all : List Acknowledged) (backups : List NodeId) (k : ℕ) (d : NodeId) (long round : ℕ) → k < length backups
    → all_have all (take (k + 1) backups) long round
    ≡ (all_have all (take k backups) long round && (nat_le long (from_backup all (get_or backups k d)).length && nat_le round (from_backup all (get_or backups k d)).round))
all_more all [] k d long round within = absurd (omega (arith, within))
all_more all (b ∷ more) zero d long round within = and_true (nat_le long (from_backup all b).length && nat_le round (from_backup all b).round)
all_more all (b ∷ more) (suc k) d long round within =
    let same : suc k + 1 ≡ suc (k + 1) = omega arith in
    let has = nat_le long (from_backup all b).length && nat_le round (from_backup all b).round in
    rw same (ap (λ (t : Bool). has && t) (all_more all more k d long round (omega (arith, within)))
    ∙ and_both has (all_have all (take k more) long round) (nat_le long (from_backup all (get_or more k d)).length && nat_le round (from_backup all (get_or more k d)).round))

-- what is within the least of two is within both
pub within_least : (m n k l long round : ℕ)
    → (nat_le long (min m n) && nat_le round (min k l)) ≡ ((nat_le long m && nat_le round k) && (nat_le long n && nat_le round l))
within_least m n k l long round = grind (arith, nat_tests)

-- ---- lists that begin

-- what is set for each backup is as if it had begun so
pub set_at : (backups : List NodeId) (long round : ℕ)
    → all_set (all_at backups 0 0) long round ≡ all_at backups long round
set_at [] long round = refl
set_at (b ∷ more) long round = ap (λ rest. record { backup = b; length = long; round = round } ∷ rest) (set_at more long round)

pub set_more : (all : List Acknowledged) (at long round : ℕ) (d : Acknowledged) → at < length all
    → set (all_set (take at all) long round ++ drop at all) at (record (get_or all at d) { length = long; round = round })
    ≡ all_set (take (suc at) all) long round ++ drop (suc at) all
set_more [] at long round d within = absurd (omega (arith, within))
set_more (a ∷ all) zero long round d within = refl
set_more (a ∷ all) (suc at) long round d within = ap (λ rest. record a { length = long; round = round } ∷ rest) (set_more all at long round d (omega (arith, within)))

pub not_set : (all : List Acknowledged) (at long round : ℕ) (d : Acknowledged)
    → get_or (all_set (take at all) long round ++ drop at all) at d ≡ get_or all at d
not_set [] zero long round d = refl
not_set [] (suc at) long round d = refl
not_set (a ∷ all) zero long round d = refl
not_set (a ∷ all) (suc at) long round d = not_set all at long round d

-- ---- one acknowledgement more

raised_own : (all : List Acknowledged) (b : NodeId) (long round : ℕ)
    → from_backup (raised all b long round) b ≡ record { backup = b; length = max (from_backup all b).length long; round = max (from_backup all b).round round }
raised_own [] b long round =
    let e : long ≡ max 0 long = omega arith in
    let f : round ≡ max 0 round = omega arith in
    rw (same_node-self b) (λ i. record { backup = b; length = e i; round = f i })
raised_own (a ∷ all) b long round = go (same_node a.backup b) refl (raised_own all b long round)
  where
    go : (same : Bool) → same_node a.backup b ≡ same
        → from_backup (raised all b long round) b ≡ record { backup = b; length = max (from_backup all b).length long; round = max (from_backup all b).round round }
        → from_backup (raised (a ∷ all) b long round) b ≡ record { backup = b; length = max (from_backup (a ∷ all) b).length long; round = max (from_backup (a ∷ all) b).round round }
    go true is rest = rw (is, same_node-self b) refl
    go false is rest = rw (is, is) rest

raised_other : (all : List Acknowledged) (b c : NodeId) (long round : ℕ) → same_node b c ≡ false → from_backup (raised all b long round) c ≡ from_backup all c
raised_other [] b c long round other = rw other refl
raised_other (a ∷ all) b c long round other = go (same_node a.backup b) refl (raised_other all b c long round other)
  where
    go : (same : Bool) → same_node a.backup b ≡ same → from_backup (raised all b long round) c ≡ from_backup all c
        → from_backup (raised (a ∷ all) b long round) c ≡ from_backup (a ∷ all) c
    go true is rest =
        let behind : same_node a.backup c ≡ false = ap (λ n. same_node n c) (same_node-true a.backup b is) ∙ other in
        rw (is, other, behind) refl
    go false is rest = rw is (ap (λ (x : Acknowledged). if same_node a.backup c then a else x) rest)

-- its backup has the greater length and the greater round
pub raised_its : (all : List Acknowledged) (more : Acknowledged) (b : NodeId) → same_node more.backup b ≡ true
    → ((from_backup (raised_by all more) b).length ≡ max (from_backup all b).length more.length)
    × ((from_backup (raised_by all more) b).round ≡ max (from_backup all b).round more.round)
raised_its all more b same =
    let own = raised_own all more.backup more.length more.round in
    let is : more.backup ≡ b = same_node-true more.backup b same in (
      subst (λ (n : NodeId). (from_backup (raised_by all more) n).length ≡ max (from_backup all n).length more.length) is (ap (λ (a : Acknowledged). a.length) own),
      subst (λ (n : NodeId). (from_backup (raised_by all more) n).round ≡ max (from_backup all n).round more.round) is (ap (λ (a : Acknowledged). a.round) own),
    )

-- and all others have what they had
pub raised_not : (all : List Acknowledged) (more : Acknowledged) (b : NodeId) → same_node more.backup b ≡ false → from_backup (raised_by all more) b ≡ from_backup all b
raised_not all more b other = raised_other all more.backup b more.length more.round other

-- ---- where the first of each stands

none_behind : (a : Acknowledged) (all : List Acknowledged) (b : NodeId) (n : ℕ) → same_node a.backup b ≡ false → NoneBelow all b n
    → (k : ℕ) (d : Acknowledged) → k < suc n → same_node (get_or (a ∷ all) k d).backup b ≡ false
none_behind a all b n other none zero d l = other
none_behind a all b n other none (suc k) d l = none k d (omega arith)

first_here : (a : Acknowledged) (all : List Acknowledged) (b : NodeId) → same_node a.backup b ≡ true → IsFirst (a ∷ all) b 0
first_here a all b is = record { within = omega arith; its = λ d. is; before = λ k d l. absurd (omega arith) }

first_behind : (a : Acknowledged) (all : List Acknowledged) (b : NodeId) (k : ℕ) → same_node a.backup b ≡ false → IsFirst all b k → IsFirst (a ∷ all) b (suc k)
first_behind a all b k other f = record { within = omega (arith, f.within); its = λ d. f.its d; before = none_behind a all b k other f.before }

place_some : (all : List Acknowledged) (b : NodeId) (at : ℕ) → place_in all b ≡ Some at → IsFirst all b at
place_some [] b at is = absurd cc
place_some (a ∷ all) b at is = go (same_node a.backup b) refl (place_in all b) (place_some all b) is
  where
    go : (same : Bool) → same_node a.backup b ≡ same → (r : Option ℕ) → ((k : ℕ) → r ≡ Some k → IsFirst all b k)
        → (if same then Some 0 else option_map suc r) ≡ Some at → IsFirst (a ∷ all) b at
    go true its r rest is = let here : 0 ≡ at = cc in subst (λ (n : ℕ). IsFirst (a ∷ all) b n) here (first_here a all b its)
    go false its None rest is = absurd cc
    go false its (Some k) rest is = let there : suc k ≡ at = cc in subst (λ (n : ℕ). IsFirst (a ∷ all) b n) there (first_behind a all b k its (rest k refl))

place_none : (all : List Acknowledged) (b : NodeId) → place_in all b ≡ None → NoneBelow all b (length all)
place_none [] b is = λ k d l. absurd (omega arith)
place_none (a ∷ all) b is = go (same_node a.backup b) refl (place_in all b) (place_none all b) is
  where
    go : (same : Bool) → same_node a.backup b ≡ same → (r : Option ℕ) → (r ≡ None → NoneBelow all b (length all))
        → (if same then Some 0 else option_map suc r) ≡ None → NoneBelow (a ∷ all) b (length (a ∷ all))
    go true its r rest is = absurd cc
    go false its (Some k) rest is = absurd cc
    go false its None rest is = none_behind a all b (length all) its (rest refl)

pub found_first : (all : List Acknowledged) (b : NodeId) (r : Option ℕ) → r ≡ place_in all b → IfSome r (IsFirst all b)
found_first all b None is = tt
found_first all b (Some at) is = place_some all b at (sym is)

pub found_none : (all : List Acknowledged) (b : NodeId) (r : Option ℕ) → r ≡ place_in all b → IfNone r (NoneBelow all b (length all))
found_none all b None is = place_none all b (sym is)
found_none all b (Some at) is = tt

-- they stay where acknowledgements of the same backups take the places of others
place_raised : (all : List Acknowledged) (at : ℕ) (x d : Acknowledged) (b : NodeId) → x.backup ≡ (get_or all at d).backup → place_in (set all at x) b ≡ place_in all b
place_raised [] at x d b is = refl
place_raised (a ∷ all) zero x d b is = ap (λ (n : NodeId). if same_node n b then Some 0 else option_map suc (place_in all b)) is
place_raised (a ∷ all) (suc at) x d b is = ap (λ (r : Option ℕ). if same_node a.backup b then Some 0 else option_map suc r) (place_raised all at x d b is)

pub places_raised : (place : NodeId → Option ℕ) (all : List Acknowledged) (at : ℕ) (x d : Acknowledged) → ArePlaces place all → x.backup ≡ (get_or all at d).backup
    → ArePlaces place (set all at x)
places_raised place all at x d are is = λ b. are b ∙ sym (place_raised all at x d b is)

place_set : (all : List Acknowledged) (long round : ℕ) (b : NodeId) → place_in (all_set all long round) b ≡ place_in all b
place_set [] long round b = refl
place_set (a ∷ all) long round b = ap (λ (r : Option ℕ). if same_node a.backup b then Some 0 else option_map suc r) (place_set all long round b)

pub places_set : (place : NodeId → Option ℕ) (all : List Acknowledged) (long round : ℕ) → ArePlaces place all → ArePlaces place (all_set all long round)
places_set place all long round are = λ b. are b ∙ sym (place_set all long round b)

-- one comes behind the others
one_further : (r : Option ℕ) (counts : Bool) (n : ℕ) → option_map suc (place_or r counts n) ≡ place_or (option_map suc r) counts (suc n)
one_further (Some k) counts n = refl
one_further None true n = refl
one_further None false n = refl

place_pushed : (all : List Acknowledged) (a : Acknowledged) (b : NodeId) → place_in (all ++ a ∷ []) b ≡ place_or (place_in all b) (same_node a.backup b) (length all)
place_pushed [] a b = go (same_node a.backup b)
  where
    go : (same : Bool) → (if same then Some 0 else option_map suc None) ≡ place_or None same 0
    go true = refl
    go false = refl
place_pushed (x ∷ all) a b = go (same_node x.backup b) (place_pushed all a b)
  where
    go : (same : Bool) → place_in (all ++ a ∷ []) b ≡ place_or (place_in all b) (same_node a.backup b) (length all)
        → (if same then Some 0 else option_map suc (place_in (all ++ a ∷ []) b))
        ≡ place_or (if same then Some 0 else option_map suc (place_in all b)) (same_node a.backup b) (suc (length all))
    go true rest = refl
    go false rest = ap (option_map suc) rest ∙ one_further (place_in all b) (same_node a.backup b) (length all)

pub places_pushed : (place later : NodeId → Option ℕ) (all : List Acknowledged) (a : Acknowledged) (n : ℕ) → ArePlaces place all → n ≡ length all
    → ((b : NodeId) → later b ≡ place_or (place b) (same_node a.backup b) n) → ArePlaces later (all ++ a ∷ [])
places_pushed place later all a n are long noted =
    λ b. noted b ∙ (λ i. place_or (are b i) (same_node a.backup b) (long i)) ∙ sym (place_pushed all a b)

-- a backup that has a place keeps it
pub noted_before : (place : NodeId → Option ℕ) (b : NodeId) (at : ℕ) → is_some (place b) ≡ true → (other : NodeId) → place other ≡ place_or (place other) (same_node b other) at
noted_before place b at some other = go (place other) refl (same_node b other) refl
  where
    go : (r : Option ℕ) → place other ≡ r → (same : Bool) → same_node b other ≡ same → r ≡ place_or r same at
    go (Some k) is same its = refl
    go None is false its = refl
    go None is true its = let here : place b ≡ place other = ap place (same_node-true b other its) in absurd cc (sym some ∙ ap (λ (r : Option ℕ). is_some r) (here ∙ is))

-- and one that has none gets this one
pub noted_first : (place : NodeId → Option ℕ) (b : NodeId) (at : ℕ) → is_some (place b) ≡ false
    → (other : NodeId) → (if same_node b other then Some at else place other) ≡ place_or (place other) (same_node b other) at
noted_first place b at none other = go (place other) refl (same_node b other) refl
  where
    go : (r : Option ℕ) → place other ≡ r → (same : Bool) → same_node b other ≡ same → (if same then Some at else r) ≡ place_or r same at
    go None is true its = refl
    go None is false its = refl
    go (Some k) is false its = refl
    go (Some k) is true its = let here : place b ≡ place other = ap place (same_node-true b other its) in absurd cc (sym none ∙ ap (λ (r : Option ℕ). is_some r) (here ∙ is))
