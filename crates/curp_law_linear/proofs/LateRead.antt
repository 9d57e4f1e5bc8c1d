-- A late read as moves: a read is invoked, a master is adopted, an update completes at it, and then the master that was
-- superseded answers the read, which completes: it stands before the update, and that is an order of the history.
use Rattle.std.proofs.Common.{◌≡◌, ◌||◌, ◌&&◌, ◌==◌, ℕ, zero, suc, nat_le, Bool, true, false, List, [], ◌∷◌, Some, None, refl, ap, sym, ◌∙◌, subst, arith, Option}
use Rattle.std.specs.FinMap as map
use Rattle.std.specs.List.{IsDistinct}
use Rattle.curp_cmd.specs.Store.{applied}
use Rattle.curp_model.specs.Table.{check}
use Rattle.std.proofs.lemmas.Bool.{eq-eqb, eqb-true}
use Rattle.std.proofs.lemmas.Bool.Decides.{nat_tests}
use Rattle.curp_base.specs.Words.{At, numbered}
use Rattle.curp_cmd.specs.Hash.{hash_of, hashes}
use Rattle.curp_cmd.specs.Node.{master_node}
use Rattle.curp_cmd.specs.declared.command.Answer.{Answer}
use Rattle.curp_cmd.specs.declared.command.Answer.TheVariants.{Done, Found}
use Rattle.curp_cmd.specs.declared.command.Command.{Command}
use Rattle.curp_cmd.specs.declared.command.Command.TheVariants.{Get, Put}
use Rattle.curp_order.specs.declared.Event.{Event}
use Rattle.curp_order.specs.declared.Event.TheVariants.{Complete, Invoke}
use Rattle.curp_model.specs.Marks.{Mark, cut_mark, executed, quick, shown}
use Rattle.curp_law_linear.specs.Hashes.{Part}
use Rattle.curp_law_linear.specs.Line.{EarlyAt, LineState}
use Rattle.curp_law_linear.specs.Moves.{Adopts, AllFit, Completes, Invokes, Lates, OpPush, after, all_after, flags_mark}
use Rattle.curp_cmd.specs.declared.entry.Entry.TheVariants.{Op}
use Rattle.curp_law_linear.proofs.Lists.{some_same}
use Rattle.curp_law_linear.specs.LateRead.{adopt_second, begin, by_first, late_answer, late_moves, push_write, reading, whole, writing}
use Rattle.curp_cmd.specs.declared.entry.Entry.{Entry}
use Rattle.curp_law_linear.specs.Given.{LogsOk}
use Rattle.curp_law_linear.proofs.Discharged.{IsPlainLog, logs_ok}
use Rattle.curp_law_kept.specs.Migrations.{NumbersAscend, give_number, take_number}
use Rattle.curp_law_kept.proofs.Gives.{owns_from_touched}
use Rattle.curp_model.specs.Log.{is_log}
use Rattle.curp_model.specs.Ranges.{owns_all}

-- the client of an event
abbrev client_in : Event → ℕ
client_in (Invoke id command) = id.client
client_in (Complete id answer) = id.client

module _ (key value : List ℕ) where
  own : (c : Command) (h : ℕ) → ((hash_of key == h) || false) ≡ true → ((nat_le 0 h && nat_le h (hash_of key)) || false) ≡ true
  own c h t = go (hash_of key == h) refl t
    where
      go : (b : Bool) → (hash_of key == h) ≡ b → (b || false) ≡ true → ((nat_le 0 h && nat_le h (hash_of key)) || false) ≡ true
      go false e f = absurd cc
      go true e f =
          let same : hash_of key ≡ h = eqb-true (hash_of key) h e in
          let a : nat_le 0 h ≡ true = grind (arith, nat_tests) in
          let b : nat_le h (hash_of key) ≡ true = grind (arith, nat_tests) in
          (λ i. (a i && b i) || false)

  abbrev written : List Entry
  written = Op (record { id = writing; first = 1; command = Put key value }) 0 ∷ []

  no_migrations : (number : Entry → Option ℕ) → ((e : Entry) (i : ℕ) → At written i e → number e ≡ None) → NumbersAscend number written
  no_migrations number none i j m n d e lt h g a b = absurd (let bad : None ≡ Some m = sym (none d i h) ∙ a in cc)

  plain_before : IsPlainLog (whole key)
  plain_before = record { ordered = omega arith; is_log = refl; gives_fit = tt; takes = λ i j m n d e lt h. absurd cc; gives = λ i j m n d e lt h. absurd cc }

  fits_in : owns_all ((0, hash_of key) ∷ []) (hashes (Put key value)) ≡ true
  fits_in = owns_from_touched ((0, hash_of key) ∷ []) (Put key value) (λ h t. own (Put key value) h t)

  is_written : is_log 0 (hash_of key) written ≡ true
  unfolding check
  is_written = ap (λ (b : Bool). b && true) fits_in

  plain_behind : IsPlainLog (record (whole key) { log = written })
  plain_behind = record { ordered = omega arith; is_log = is_written; gives_fit = tt; takes = no_migrations take_number none_taken; gives = no_migrations give_number none_given }
    where
      none_taken : (e : Entry) (i : ℕ) → At written i e → take_number e ≡ None
      none_taken e zero h = sym (ap take_number (some_same h))
      none_taken e (suc i) h = absurd cc

      none_given : (e : Entry) (i : ℕ) → At written i e → give_number e ≡ None
      none_given e zero h = sym (ap give_number (some_same h))
      none_given e (suc i) h = absurd cc

  one_part : (p : Part) → IsPlainLog p → LogsOk (p ∷ [])
  one_part p plain = logs_ok (p ∷ []) (λ n q h. of_number n q h)
    where
      of_number : (n : ℕ) (q : Part) → numbered (p ∷ []) n ≡ Some q → IsPlainLog q
      of_number zero q h = absurd cc
      of_number (suc zero) q h = subst IsPlainLog (some_same h) plain
      of_number (suc (suc n)) q h = absurd cc

  logs_before : LogsOk (whole key ∷ [])
  logs_before = one_part (whole key) plain_before

  logs_behind : LogsOk (record (whole key) { log = written } ∷ [])
  logs_behind = one_part (record (whole key) { log = written }) plain_behind

  only_read : (i : ℕ) (c : Command) → At (Invoke reading (Get key) ∷ []) i (Invoke writing c) → ⊥
  only_read zero c h = let e : 1 ≡ 2 = ap client_in (some_same h) in omega (arith, e)
  only_read (suc i) c h = absurd cc

  abbrev asked_two : List Event
  asked_two = Invoke reading (Get key) ∷ Invoke writing (Put key value) ∷ []

  abbrev done_one : List Event
  done_one = Invoke reading (Get key) ∷ Invoke writing (Put key value) ∷ Complete writing Done ∷ []

  none_done : (i : ℕ) (a : Answer) → At asked_two i (Complete writing a) → ⊥
  none_done zero a h = absurd cc
  none_done (suc zero) a h = absurd cc
  none_done (suc (suc i)) a h = absurd cc

  not_read : (i : ℕ) (a : Answer) → At done_one i (Complete reading a) → ⊥
  not_read zero a h = absurd cc
  not_read (suc zero) a h = absurd cc
  not_read (suc (suc zero)) a h = let e : 2 ≡ 1 = ap client_in (some_same h) in omega (arith, e)
  not_read (suc (suc (suc i))) a h = absurd cc

  abbrev before_flag : LineState
  before_flag =
      after (after (after (after (after (after (begin key) (Invokes reading (Get key))) (Adopts (adopt_second key))) (Invokes writing (Put key value))) (OpPush (push_write key value))) (Completes writing Done)) (Lates (late_answer key))

  one_hit : (k : ℕ) (o : Mark) → At before_flag.marks k o → flags_mark by_first reading (Found None) o ≡ true → k ≡ 0
  one_hit zero o h y = refl
  one_hit (suc zero) o h y = absurd (let is : cut_mark (master_node 2) 1 2 1 0 ≡ o = cc in let bad : false ≡ true = ap (flags_mark by_first reading (Found None)) is ∙ y in cc)
  one_hit (suc (suc zero)) o h y =
      absurd (let is : record (executed (master_node 2) 1 2 0 writing (Put key value)) { completed = true } ≡ o = cc in let bad : false ≡ true = ap (flags_mark by_first reading (Found None)) is ∙ y in cc)
  one_hit (suc (suc (suc k))) o h y = absurd cc

  is_early : EarlyAt before_flag.marks done_one 0 reading (Get key)
  is_early j zero m a lt hj f h = absurd cc
  is_early j (suc e) m a lt hj f h = (0, omega arith, refl)

  -- each can be made in its turn
  pub late_moves_fit : AllFit LogsOk (begin key) (late_moves key value)
  unfolding IsDistinct check applied
  late_moves_fit = ((
    record { new = λ i c h. absurd cc },
    logs_before,
    (
      record {
        here = refl;
        is = refl;
        moving = λ k e h. absurd cc;
        unowned = λ h t. absurd cc;
        apart = tt;
        asked = λ k q h. absurd cc;
        done = λ k q a h. absurd cc;
        looks = λ k m number long h. absurd cc;
        told = λ number a. absurd (cc (a.stands));
        quicks = λ j k i number h m v hm. absurd cc;
        cuts = λ j number long h m hm. absurd cc;
      },
      logs_before,
      (
        record { new = only_read },
        logs_before,
        (
          record {
            here = refl;
            new = refl;
            owned = λ h t. own (Put key value) h t;
            hash = hash_of key;
            has_hash = ap (λ (b : Bool). b || false) (eq-eqb (hash_of key) (hash_of key) refl);
            updates = refl;
            was_invoked = record { event = 1; stands = refl };
          },
          logs_before,
          (
            record {
              part = 1;
              p = record (whole key) { log = Op (record { id = writing; first = 1; command = Put key value }) 0 ∷ [] };
              here = refl;
              done = record { index = 0; request = record { id = writing; first = 1; command = Put key value }; acknowledged = 0; stands = refl; its_id = refl; its_answer = refl };
              was_invoked = (1, Put key value, refl);
              waits = λ c. none_done c.event c.answer c.stands;
            },
            logs_behind,
            (
              record {
                mark = cut_mark (master_node 2) 1 2 1 0;
                stands = refl;
                its_part = refl;
                long = 0;
                is_cut = refl;
                firm = λ h t. record { owned = own (Get key) h t; quiet = refl };
                reads = refl;
                was_invoked = record { event = 0; stands = refl };
              },
              logs_behind,
              (
                record {
                  place = 0;
                  m = quick (master_node 1) 1 1 1 reading (Get key);
                  stands = refl;
                  looks = refl;
                  hits = refl;
                  only = one_hit;
                  waits = λ c. not_read c.event c.answer c.stands;
                  gives = ap (λ (x : _). Found x) (map.get-empty _ key);
                  early = λ y. is_early;
                },
                logs_behind,
                tt,
              ),
            ),
          ),
        ),
      ),
    ),
  )
      )

  -- and the order has the read before the update that had completed before it
  pub late_order : shown (all_after (begin key) (late_moves key value)).marks ≡ (reading, Get key) ∷ (writing, Put key value) ∷ []
  late_order = refl
