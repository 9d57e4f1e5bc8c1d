-- Where a client waits for what the master says and for what each witness says, these may come in any order.
use Rattle.std.proofs.Common.{◌≡◌, ◌⊎◌, inl, inr, ℕ, zero, suc, ◌==◌, ◌&&◌, ◌||◌, Bool, true, false, cond, List, [], ◌∷◌, ◌++◌, map, Option, Some, None, refl, ap, sym, ◌∙◌, subst}
use Rattle.std.specs.List.{AllByRecursion, IsDistinct, filter, list_all}
use Rattle.std.specs.List.Sorted.{IsPermutation}
use Rattle.std.proofs.lemmas.Bool.{cases_Bool, or_left, or_right, or_from, and_left, and_right, eq-eqb}
use Rattle.std.proofs.lemmas.List.Sorted.{Contains-permutation, IsPermutation-sym, IsPermutation-to_front, IsPermutation-trans}
use Rattle.std.proofs.lemmas.List.Folds.{list_any-append}
use Rattle.std.proofs.lemmas.Map.Keys.{IsDistinct-IsPermutation, IsDistinct-head, IsDistinct-tail, IsDistinct-cons}
use Rattle.std.proofs.lemmas.Option.{slice_get-get_or, get_or_from_slice_get}
use Rattle.curp_base.specs.Words.{At, first_of}
use Rattle.curp_base.proofs.Lists.{at_within, at_map, at_mapped}
use Rattle.curp_cmd.specs.Node.{same_node, master_node, witness_node}
use Rattle.curp_cmd.specs.declared.node.NodeId.{NodeId}
use Rattle.curp_cmd.specs.declared.node.NodeKind.TheVariants.{Master, Witness}
use Rattle.curp_msg.specs.Moved.{Moved, Node, quiet}
use Rattle.curp_msg.specs.declared.body.Body.{Body}
use Rattle.curp_msg.specs.declared.machine.Completed.{Completed}
use Rattle.curp_msg.specs.declared.message.Message.{Message}
use Rattle.curp_model.specs.Client.{Accept, ClientState, has_accepted, on_client, with_accept}
use Rattle.curp_model.specs.Witness.{WitnessState}
use Rattle.curp_model.proofs.Clashes.{all_at}
use Rattle.curp_law_steps.specs.Trip.{CompletesAtLast, CompletesNothing, Reaches, Trip, from_a_witness, from_the_master}
use Rattle.curp_cmd.proofs.Nodes.{same_node_flips, same_node-self, same_node-true}

-- ---- senders

-- two messages from the same node
abbrev same_sender : Message → Message → Bool
same_sender a b = same_node a.from b.from

member : (xs ys : List Message) → IsPermutation xs ys → (j : ℕ) (m : Message) → At xs j m → (k : ℕ) × At ys k m
member xs ys p j m h =
    let c = Contains-permutation xs ys m p (j, at_within xs j m h, get_or_from_slice_get xs j m m h) in
    (c.0, slice_get-get_or ys c.0 m c.1 ∙ ap (λ (x : Message). Some x) c.2)

-- ---- accepts that a client has

accepted_more : (accepts : List Accept) (a b : NodeId) (epoch : ℕ)
    → has_accepted (with_accept accepts (record { witness = a; epoch = epoch })) epoch b ≡ (has_accepted accepts epoch b || same_node a b)
accepted_more accepts a b epoch = go (has_accepted accepts epoch a) refl
  where
    one : Accept
    one = record { witness = a; epoch = epoch }

    told_twice : (x y : Bool) → (y ≡ true → x ≡ true) → x ≡ (x || y)
    told_twice true y f = refl
    told_twice false true f = f refl
    told_twice false false f = refl

    last_of_all : (x y : Bool) → (x || ((true && y) || false)) ≡ (x || y)
    last_of_all true y = refl
    last_of_all false true = refl
    last_of_all false false = refl

    go : (c : Bool) → has_accepted accepts epoch a ≡ c → has_accepted (cond c accepts (accepts ++ one ∷ [])) epoch b ≡ (has_accepted accepts epoch b || same_node a b)
    go true e = told_twice (has_accepted accepts epoch b) (same_node a b) (λ s. subst (λ (x : NodeId). has_accepted accepts epoch x ≡ true) (same_node-true a b s) e)
    go false e =
        list_any-append (λ (x : Accept). (x.epoch == epoch) && same_node x.witness b) accepts (one ∷ [])
        ∙ ap (λ (c : Bool). has_accepted accepts epoch b || ((c && same_node a b) || false)) (eq-eqb epoch epoch refl)
        ∙ last_of_all (has_accepted accepts epoch b) (same_node a b)

-- ---- what is waited for

-- a client that has sent a request: what the master and what each witness says to it, what is kept of the master's word, the
-- client where some of that has come, and how the request completes
pub record Wait (E : Type 0) : Type 0 where
  pub trip : Trip
  pub masters_word : Body
  pub witness_word : Body
  pub kept : E
  pub waiting : List E → List Accept → ClientState
  pub done : Completed

module _ {E : Type 0} (wait : Wait E) where
  abbrev t : Trip
  t = wait.trip

  abbrev name_of : Node WitnessState → NodeId
  name_of w = witness_node w.number

  -- what the master says
  abbrev pub first_word : Message
  first_word = from_the_master t wait.masters_word

  -- what a witness says
  abbrev pub word_of : Node WitnessState → Message
  word_of w = from_a_witness t wait.witness_word w

  abbrev has : List Accept → Node WitnessState → Bool
  has accepts w = has_accepted accepts t.part.epoch (name_of w)

  -- with what a witness has said
  abbrev pub and_of : List Accept → Node WitnessState → List Accept
  and_of accepts w = with_accept accepts (record { witness = name_of w; epoch = t.part.epoch })

  -- all witnesses of the partition have said it
  abbrev pub all_have : List Accept → Bool
  all_have accepts = list_all (has_accepted accepts t.part.epoch) t.part.witnesses

  -- what the client does as it has heard so much: it waits on, or completes the request
  pub record Judges (heard : List E) (accepts : List Accept) (moved : Moved ClientState) : Type 0 where
    pub no_word : heard ≡ [] → moved ≡ quiet (wait.waiting heard accepts)
    pub one_lacks : heard ≡ wait.kept ∷ [] → all_have accepts ≡ false → moved ≡ quiet (wait.waiting heard accepts)
    pub complete : heard ≡ wait.kept ∷ [] → all_have accepts ≡ true → (moved.completed ≡ Some wait.done) × (moved.messages ≡ [])

  -- what the client does on a message
  abbrev pub on : List E → List Accept → Message → Moved ClientState
  on heard accepts m = on_client t.client.number (wait.waiting heard accepts) m.from m.body

  -- it keeps the master's first word and the witnesses', and judges by them
  pub record Hears : Type 0 where
    pub reaches : Reaches t
    pub hears_master : (accepts : List Accept) → Judges (wait.kept ∷ []) accepts (on [] accepts first_word)
    pub hears_witness : (heard : List E) (accepts : List Accept) (w : Node WitnessState) → Judges heard (and_of accepts w) (on heard accepts (word_of w))

  -- so it does where the first of what it has kept that passes decides
  pub judged_by : (p : E → Bool) (decides : Option E → Moved ClientState) (heard : List E) (accepts : List Accept) → p wait.kept ≡ all_have accepts
      → decides None ≡ quiet (wait.waiting heard accepts) → ((decides (Some wait.kept)).completed ≡ Some wait.done) × ((decides (Some wait.kept)).messages ≡ [])
      → Judges heard accepts (decides (first_of (filter p heard)))
  judged_by p decides heard accepts passes waits ends = record {
    no_word = λ e. ap (λ (l : List E). decides (first_of (filter p l))) e ∙ waits;
    one_lacks = λ e b. by_word e false b ∙ waits;
    complete = λ e b.
        let is : decides (first_of (filter p heard)) ≡ decides (Some wait.kept) = by_word e true b in
        (ap (λ (m : Moved ClientState). m.completed) is ∙ ends.0, ap (λ (m : Moved ClientState). m.messages) is ∙ ends.1);
  }
    where
      by_word : heard ≡ wait.kept ∷ [] → (b : Bool) → all_have accepts ≡ b → decides (first_of (filter p heard)) ≡ decides (first_of (cond b (wait.kept ∷ []) []))
      by_word e b all =
          ap (λ (l : List E). decides (first_of (filter p l))) e
          ∙ ap (λ (c : Bool). decides (first_of (cond c (wait.kept ∷ []) []))) (passes ∙ all)

  -- ---- what is still to come

  -- a message is the master's, or a witness's
  abbrev IsAnswer : Message → Type 0
  IsAnswer m = (m ≡ first_word) ⊎ ((i : ℕ) × (w : Node WitnessState) × At t.witnesses i w × (m ≡ word_of w))

  -- what is to come, each from another node, hasn't come; and each answer has come or is to come
  record Due (rest : List Message) (heard : List E) (accepts : List Accept) : Type 0 where
    apart : IsDistinct same_sender rest
    answer : (j : ℕ) (m : Message) → At rest j m → IsAnswer m
    master_waits : (j : ℕ) → At rest j first_word → heard ≡ []
    master_came : (heard ≡ wait.kept ∷ []) ⊎ ((j : ℕ) × At rest j first_word)
    witness_waits : (j : ℕ) (w : Node WitnessState) → At rest j (word_of w) → has accepts w ≡ false
    witness_came : (i : ℕ) (w : Node WitnessState) → At t.witnesses i w → (has accepts w ≡ true) ⊎ ((j : ℕ) × At rest j (word_of w))

  apart_from : (m : Message) (rest : List Message) → IsDistinct same_sender (m ∷ rest) → (j : ℕ) (y : Message) → At rest j y → same_node m.from y.from ≡ false
  apart_from m rest d = all_at (λ (y : Message). same_node m.from y.from ≡ false) rest (IsDistinct-head same_sender m rest d)

  -- ---- one more comes

  master_due : (rest : List Message) (heard : List E) (accepts : List Accept) → Due (first_word ∷ rest) heard accepts → Due rest (wait.kept ∷ []) accepts
  master_due rest heard accepts d = record {
    apart = IsDistinct-tail same_sender first_word rest d.apart;
    answer = λ j m h. d.answer (suc j) m h;
    master_waits = λ j h. absurd (let twice = apart_from first_word rest d.apart j first_word h in let self = same_node-self (master_node t.master.number) in let no : false ≡ true = sym twice ∙ self in cc);
    master_came = inl refl;
    witness_waits = λ j w h. d.witness_waits (suc j) w h;
    witness_came = λ i w h. elim (d.witness_came i w h) [
      | inl y ↦ inl y
      | inr q ↦ inr (later w q.0 q.1)
    ];
  }
    where
      later : (w : Node WitnessState) (j : ℕ) → At (first_word ∷ rest) j (word_of w) → (k : ℕ) × At rest k (word_of w)
      later w zero h = absurd (let same : first_word ≡ word_of w = cc in let no : Master ≡ Witness = ap (λ (m : Message). m.from.kind) same in cc)
      later w (suc j) h = (j, h)

  witness_due : (rest : List Message) (heard : List E) (accepts : List Accept) (w : Node WitnessState) → Due (word_of w ∷ rest) heard accepts → Due rest heard (and_of accepts w)
  witness_due rest heard accepts w d = record {
    apart = IsDistinct-tail same_sender (word_of w) rest d.apart;
    answer = λ j m h. d.answer (suc j) m h;
    master_waits = λ j h. d.master_waits (suc j) h;
    master_came = elim (d.master_came) [
      | inl y ↦ inl y
      | inr q ↦ inr (later q.0 q.1)
    ];
    witness_waits = λ j x h. accepted_more accepts (name_of w) (name_of x) t.part.epoch
        ∙ or_from _ _ (d.witness_waits (suc j) x h) (apart_from (word_of w) rest d.apart j (word_of x) h);
    witness_came = λ i x h. elim (cases_Bool (same_node (name_of w) (name_of x))) [
      | inl y ↦ inl (accepted_more accepts (name_of w) (name_of x) t.part.epoch ∙ or_right (has accepts x) _ y)
      | inr n ↦ elim (d.witness_came i x h) [
        | inl y ↦ inl (accepted_more accepts (name_of w) (name_of x) t.part.epoch ∙ or_left _ (same_node (name_of w) (name_of x)) y)
        | inr q ↦ inr (witness_later x n q.0 q.1)
      ]
    ];
  }
    where
      later : (j : ℕ) → At (word_of w ∷ rest) j first_word → (k : ℕ) × At rest k first_word
      later zero h = absurd (let same : word_of w ≡ first_word = cc in let no : Witness ≡ Master = ap (λ (m : Message). m.from.kind) same in cc)
      later (suc j) h = (j, h)

      witness_later : (x : Node WitnessState) → same_node (name_of w) (name_of x) ≡ false → (j : ℕ) → At (word_of w ∷ rest) j (word_of x) → (k : ℕ) × At rest k (word_of x)
      witness_later x other zero h =
          let same : word_of w ≡ word_of x = cc in
          let is : name_of w ≡ name_of x = ap (λ (m : Message). m.from) same in
          absurd (let no : false ≡ true = sym other ∙ ap (same_node (name_of w)) (sym is) ∙ same_node-self (name_of w) in cc)
      witness_later x other (suc j) h = (j, h)

  -- ---- whether it is enough

  everyone_has : (accepts : List Accept) (ws : List (Node WitnessState)) → ((i : ℕ) (w : Node WitnessState) → At ws i w → has accepts w ≡ true) → list_all (has_accepted accepts t.part.epoch) (map name_of ws) ≡ true
  everyone_has accepts [] f = refl
  everyone_has accepts (w ∷ ws) f = λ i. f 0 w refl i && everyone_has accepts ws (λ k x h. f (suc k) x h) i

  someone_lacks : (accepts : List Accept) (ws : List (Node WitnessState)) (i : ℕ) (w : Node WitnessState) → At ws i w → has accepts w ≡ false → list_all (has_accepted accepts t.part.epoch) (map name_of ws) ≡ false
  someone_lacks accepts [] i w h e = absurd cc
  someone_lacks accepts (x ∷ ws) zero w h e = let same : x ≡ w = cc in and_left (has accepts x) _ (ap (has accepts) same ∙ e)
  someone_lacks accepts (x ∷ ws) (suc i) w h e = and_right (has accepts x) _ (someone_lacks accepts ws i w h e)

  enough : (ok : Hears) (heard : List E) (accepts : List Accept) (moved : Moved ClientState) → Due [] heard accepts → Judges heard accepts moved → (moved.completed ≡ Some wait.done) × (moved.messages ≡ [])
  enough ok heard accepts moved d judges = elim (d.master_came) [
    | inl y ↦ judges.complete y (ap (list_all (has_accepted accepts t.part.epoch)) ok.reaches.its_witnesses ∙ everyone_has accepts t.witnesses everyone)
    | inr q ↦ absurd (let h = q.1 in cc)
  ]
    where
      everyone : (i : ℕ) (w : Node WitnessState) → At t.witnesses i w → has accepts w ≡ true
      everyone i w h = elim (d.witness_came i w h) [ inl y ↦ y | inr q ↦ absurd (let g = q.1 in cc) ]

  not_enough : (ok : Hears) (next : Message) (rest : List Message) (heard : List E) (accepts : List Accept) (moved : Moved ClientState) → Due (next ∷ rest) heard accepts → Judges heard accepts moved
      → moved ≡ quiet (wait.waiting heard accepts)
  not_enough ok next rest heard accepts moved d judges = elim (d.answer 0 next refl) [
    | inl y ↦ judges.no_word (d.master_waits 0 (ap (λ (m : Message). Some m) y))
    | inr q ↦ elim (d.master_came) [
      | inl told ↦ judges.one_lacks told
          (ap (list_all (has_accepted accepts t.part.epoch)) ok.reaches.its_witnesses
          ∙ someone_lacks accepts t.witnesses q.0 q.1 q.2 (d.witness_waits 0 q.1 (ap (λ (m : Message). Some m) q.3)))
      | inr later ↦ judges.no_word (d.master_waits later.0 later.1)
    ]
  ]

  -- ---- the client hears one

  -- what has come after one more
  record Heard (m : Message) (rest : List Message) (heard : List E) (accepts : List Accept) : Type 0 where
    now : List E
    now_accepts : List Accept
    judges : Judges now now_accepts (on heard accepts m)
    due : Due rest now now_accepts

  hears : (ok : Hears) (m : Message) (rest : List Message) (heard : List E) (accepts : List Accept) → Due (m ∷ rest) heard accepts → Heard m rest heard accepts
  hears ok m rest heard accepts d = elim (d.answer 0 m refl) [
    | inl y ↦
        let none : heard ≡ [] = d.master_waits 0 (ap (λ (x : Message). Some x) y) in
        record {
          now = wait.kept ∷ [];
          now_accepts = accepts;
          judges = subst (λ (x : Message). Judges (wait.kept ∷ []) accepts (on heard accepts x)) (sym y)
              (subst (λ (l : List E). Judges (wait.kept ∷ []) accepts (on l accepts first_word)) (sym none) (ok.hears_master accepts));
          due = master_due rest heard accepts (subst (λ (x : Message). Due (x ∷ rest) heard accepts) y d);
        }
    | inr q ↦ record {
      now = heard;
      now_accepts = and_of accepts q.1;
      judges = subst (λ (x : Message). Judges heard (and_of accepts q.1) (on heard accepts x)) (sym (q.3)) (ok.hears_witness heard accepts q.1);
      due = witness_due rest heard accepts q.1 (subst (λ (x : Message). Due (x ∷ rest) heard accepts) q.3 d);
    }
  ]

  completes_from : (ok : Hears) (rest : List Message) (m : Message) (heard : List E) (accepts : List Accept) → Due (m ∷ rest) heard accepts
      → CompletesAtLast t.client.number (wait.waiting heard accepts) (m ∷ rest) wait.done
  completes_from ok [] m heard accepts d =
      let h = hears ok m [] heard accepts d in
      enough ok h.now h.now_accepts (on heard accepts m) h.due h.judges
  completes_from ok (next ∷ rest) m heard accepts d =
      let h = hears ok m (next ∷ rest) heard accepts d in
      let is : on heard accepts m ≡ quiet (wait.waiting h.now h.now_accepts) = not_enough ok next rest h.now h.now_accepts (on heard accepts m) h.due h.judges in (
        ap (λ (moved : Moved ClientState). moved.completed) is,
        ap (λ (moved : Moved ClientState). moved.messages) is,
        subst (λ (c : ClientState). CompletesAtLast t.client.number c (next ∷ rest) wait.done) (sym (ap (λ (moved : Moved ClientState). moved.state) is))
            (completes_from ok rest next h.now h.now_accepts h.due),
      )

  -- ---- before anything comes

  abbrev pub words : List Message
  words = first_word ∷ map word_of t.witnesses

  apart_words : (ws : List (Node WitnessState)) → IsDistinct same_node (map name_of ws) → IsDistinct same_sender (map word_of ws)
  unfolding IsDistinct
  apart_words [] d = tt
  apart_words (w ∷ ws) d =
      IsDistinct-cons same_sender (word_of w) (map word_of ws) (others ws (IsDistinct-head same_node (name_of w) (map name_of ws) d)) (apart_words ws (IsDistinct-tail same_node (name_of w) (map name_of ws) d))
    where
      others : (xs : List (Node WitnessState)) → AllByRecursion (λ (y : NodeId). same_node (name_of w) y ≡ false) (map name_of xs) → AllByRecursion (λ (y : Message). same_node (name_of w) y.from ≡ false) (map word_of xs)
      others [] f = tt
      others (x ∷ xs) f = (f.0, others xs f.1)

  all_apart : Reaches t → IsDistinct same_sender words
  all_apart ok = IsDistinct-cons same_sender first_word (map word_of t.witnesses) (others t.witnesses) (apart_words t.witnesses (subst (IsDistinct same_node) ok.its_witnesses ok.apart))
    where
      others : (xs : List (Node WitnessState)) → AllByRecursion (λ (y : Message). same_node (master_node t.master.number) y.from ≡ false) (map word_of xs)
      others [] = tt
      others (x ∷ xs) = (refl, others xs)

  which : (j : ℕ) (m : Message) → At words j m → IsAnswer m
  which zero m h = inl cc
  which (suc j) m h = let q = at_mapped word_of t.witnesses j m h in inr (j, q.0, q.1, sym (q.2))

  begins : (ok : Hears) (order : List Message) → IsPermutation words order → Due order [] []
  begins ok order p = record {
    apart = IsDistinct-IsPermutation same_sender (λ x y. same_node_flips x.from y.from) words order p (all_apart ok.reaches);
    answer = λ j m h. let b = member order words (IsPermutation-sym words order p) j m h in which b.0 m b.1;
    master_waits = λ j h. refl;
    master_came = inr (member words order p 0 first_word refl);
    witness_waits = λ j w h. refl;
    witness_came = λ i w h. inr (member words order p (suc i) (word_of w) (at_map word_of t.witnesses i w h));
  }

  pub completes : (ok : Hears) (order : List Message) → IsPermutation words order → CompletesAtLast t.client.number (wait.waiting [] []) order wait.done
  completes ok order p = go order (begins ok order p)
    where
      go : (l : List Message) → Due l [] [] → CompletesAtLast t.client.number (wait.waiting [] []) l wait.done
      go [] d = absurd (elim (d.master_came) [ inl y ↦ cc | inr q ↦ let h = q.1 in cc ])
      go (m ∷ rest) d = completes_from ok rest m [] [] d

  before_last : (others : List Message) (missing : Message) (c : ClientState) → CompletesAtLast t.client.number c (others ++ missing ∷ []) wait.done → CompletesNothing t.client.number c others
  before_last [] missing c h = tt
  before_last (m ∷ []) missing c h = (h.0, h.1, tt)
  before_last (m ∷ next ∷ rest) missing c h = (h.0, h.1, before_last (next ∷ rest) missing (on_client t.client.number c m.from m.body).state h.2)

  pub all_count : (ok : Hears) (missing : Message) (others : List Message) → IsPermutation words (missing ∷ others) → CompletesNothing t.client.number (wait.waiting [] []) others
  all_count ok missing others p =
      let last : IsPermutation (missing ∷ others) (others ++ missing ∷ []) = IsPermutation-sym (others ++ missing ∷ []) (missing ∷ others) (IsPermutation-to_front others missing) in
      before_last others missing (wait.waiting [] []) (completes ok (others ++ missing ∷ []) (IsPermutation-trans words (missing ∷ others) (others ++ missing ∷ []) p last))
