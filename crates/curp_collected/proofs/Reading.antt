-- What is known of files whose titles are read and compared one by one.
use Rattle.std.specs.Prelude.{◌≡◌, ◌≢◌, ℕ, ◌+◌, ◌<◌, ◌≤◌, Bool, true, false, List, [], length, map, take, slice_index_or, Option, Some, None, is_some, IfNone, IfSome, refl}
use Rattle.std.proofs.Common.{Global, Vec, ◌⊎◌, inl, inr, sym, ◌∙◌, ap, subst, arith}
use Rattle.std.proofs.lemmas.Bool.{cases_eq, cases_lt, cases_order}
use Rattle.std.proofs.lemmas.List.{length-map, length-take}
use Rattle.std.proofs.lemmas.Option.{slice_get-get_or}
use Rattle.curp_base.specs.Words.{At, Each}
use Rattle.curp_base.proofs.Lists.{Each-at, at_map, at_same, at_take, at_within}
use Rattle.curp_msg.specs.declared.script.Header.{Header}
use Rattle.curp_msg.specs.declared.script.Protocol.TheVariants.{One}
use Rattle.curp_cmd.specs.Node.{same_kind}
use Rattle.curp_cmd.specs.declared.node.NodeId.{NodeId}
use Rattle.curp_cmd.specs.declared.node.NodeKind.TheVariants as kinds
use Rattle.curp_collected.specs.Causes.{HasNoSuchNode, HasOtherHeader, IsNoJournal, IsTwice}
use Rattle.curp_collected.specs.Files.{AreApart, HasNoFile, HasNoTitle, HasTitleAt, IsFileOf, IsOfHeader, IsPossible, IsRead, contents_of}
use Rattle.curp_collected.specs.declared.files.File.{File}
use Rattle.curp_collected.proofs.Finding.{at_low, kind_is, other_kind, titled_at}

abbrev pub bytes_of : List (Vec ℕ Global) → List (List ℕ)
bytes_of contents = map (λ (content : Vec ℕ Global). content.items) contents

-- ---- places

-- what is read where no file stands
abbrev no_file : File
no_file = record {
  title = record {
    node = record { kind = kinds.Manager; number = 0 };
    header = record { clients = 0; f = 0; fast = false; parts = 0; protocol = One; sets = 0; ways = 0 };
  };
  content = record { ref_ptr = (0, 0); now = [] };
}

-- the file at a place
abbrev pub nth : List File → ℕ → File
nth files k = slice_index_or files k no_file

pub at_nth : (files : List File) (k : ℕ) → k < length files → At files k (nth files k)
at_nth files k below = slice_get-get_or files k no_file below

-- ---- titles

-- the file behind those whose titles are read has none
pub no_journal : (contents : List (Vec ℕ Global)) (files : List File) (k : ℕ) (content : Vec ℕ Global) → contents_of files ≡ bytes_of (take k contents)
    → At contents k content → HasNoTitle content.items → IsNoJournal (bytes_of contents) (length files)
no_journal contents files k content are at none =
    let many : length files ≡ k =
    sym (length-map files (λ (f : File). f.content.now))
    ∙ (ap length are ∙ (length-map (take k contents) (λ (c : Vec ℕ Global). c.items) ∙ omega (arith, length-take k contents, at_within contents k content at))) in
    record {
      content = content.items;
      stands = subst (λ n. At (bytes_of contents) n content.items) (sym many) (at_map (λ (c : Vec ℕ Global). c.items) contents k content at);
      none = none;
    }

-- ---- headers

module _ (files : List File) (read : Each IsRead files) (k : ℕ) (one : File) (at : At files k one) where
  abbrev its_title : HasTitleAt (contents_of files) k one.title
  its_title = titled_at files k one at (Each-at IsRead files read k one at)

  pub other_header : (first : File) → At files 0 first → one.title.header ≢ first.title.header → HasOtherHeader (contents_of files) k
  other_header first at_first other = record {
    first = first.title;
    title = one.title;
    first_is = titled_at files 0 first at_first (Each-at IsRead files read 0 first at_first);
    title_is = its_title;
    other = other;
  }

  -- so many are of that header, and one more
  pub of_header_more : (h : Header) → one.title.header ≡ h → IsPossible h one.title.node → ((i : ℕ) (f : File) → i < k → At files i f → IsOfHeader h f)
      → (i : ℕ) (f : File) → i < k + 1 → At files i f → IsOfHeader h f
  of_header_more h same possible before i f below at_f = elim (cases_eq i k) [
    | inl e ↦
        let here : one ≡ f = at_same files k one f at (subst (λ m. At files m f) e at_f) in
        subst (λ (x : File). IsOfHeader h x) here (record { read = Each-at IsRead files read k one at; same = same; possible = possible })
    | inr other ↦ before i f (omega (arith, below, other)) at_f
  ]

  pub no_such_node : (h : Header) → one.title.header ≡ h → one.title.node.kind ≡ kinds.Client → h.clients < one.title.node.number → HasNoSuchNode (contents_of files) k
  no_such_node h same client beyond = record {
    title = one.title;
    title_is = its_title;
    client = client;
    beyond = subst (λ (x : Header). x.clients < one.title.node.number) (sym same) beyond;
  }

  pub twice : (earlier : ℕ) → IsFileOf (take k files) one.title.node earlier → IsTwice (contents_of files) k
  twice earlier is =
      let there = at_take k files earlier is.one is.stands in
      record {
        earlier = earlier;
        before = there.0;
        first = is.one.title;
        title = one.title;
        first_is = titled_at files earlier is.one there.1 (Each-at IsRead files read earlier is.one there.1);
        title_is = its_title;
        same = sym is.its_name;
      }

  pub twice_found : (found : Option ℕ) → true ≡ is_some found → IfSome found (IsFileOf (take k files) one.title.node) → IsTwice (contents_of files) k
  twice_found (Some earlier) e is = twice earlier is
  twice_found None e is = absurd cc

-- a node that a header doesn't have is a client beyond its own
pub beyond : (h : Header) (node : NodeId) → (IsPossible h node → ⊥) → (node.kind ≡ kinds.Client) × (h.clients < node.number)
beyond h node not_so = (by_kind (same_kind node.kind kinds.Client) refl, by_number (cases_lt h.clients node.number))
  where
    by_kind : (same : Bool) → same_kind node.kind kinds.Client ≡ same → node.kind ≡ kinds.Client
    by_kind true e = kind_is node.kind kinds.Client e
    by_kind false e = absurd (not_so (λ of. absurd (other_kind node.kind kinds.Client e of)))

    by_number : (h.clients < node.number) ⊎ (node.number ≤ h.clients) → h.clients < node.number
    by_number (inl more) = more
    by_number (inr within) = absurd (not_so (λ of. within))

-- ---- no two of one node

pub none_found : (files : List File) (node : NodeId) (found : Option ℕ) → false ≡ is_some found → IfNone found (HasNoFile files node) → HasNoFile files node
none_found files node None e none = none
none_found files node (Some k) e none = absurd cc

-- of so many files none is of the node of one before it
abbrev pub NoneTwice : List File → ℕ → Type 0
NoneTwice files n = (i k : ℕ) (a b : File) → i < k → k < n → At files i a → At files k b → a.title.node ≢ b.title.node

pub none_twice_more : (files : List File) (n : ℕ) (one : File) → At files n one → HasNoFile (take n files) one.title.node → NoneTwice files n → NoneTwice files (n + 1)
none_twice_more files n one at none before i k a b less below at_a at_b = elim (cases_eq k n) [
  | inl same ↦
      let here : one ≡ b = at_same files n one b at (subst (λ m. At files m b) same at_b) in
      let differs : a.title.node ≢ one.title.node = Each-at (λ (f : File). f.title.node ≢ one.title.node) (take n files) none i a (at_low files n i a (omega (arith, less, same)) at_a) in
      subst (λ (x : File). a.title.node ≢ x.title.node) here differs
  | inr other ↦ before i k a b less (omega (arith, below, other)) at_a at_b
]

pub all_apart : (files : List File) (n : ℕ) → length files ≤ n → NoneTwice files n → AreApart files
all_apart files n whole none i k a b at_a at_b same = elim (cases_order i k) [
  | inl e ↦ e
  | inr (inl less) ↦ absurd (none i k a b less (omega (arith, at_within files k b at_b, whole)) at_a at_b same)
  | inr (inr more) ↦ absurd (none k i b a more (omega (arith, at_within files i a at_a, whole)) at_b at_a (sym same))
]
