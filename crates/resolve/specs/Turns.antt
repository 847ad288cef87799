-- What the words of the walk stand for: a configuration of the machine of walk/specs/Machine.antt.
use Rattle.std.specs.Prelude.{ℕ, suc, ◌+◌, ◌*◌, ◌-◌, ◌≤◌, Bool, true, not, ◌≡◌, ◌≢◌, List, [], ◌∷◌, map, length, get_or, eqb, if◌then◌else◌}
use Rattle.records.specs.Limits.{record_limit, expr_width, name_width, node_width, work_width}
use Rattle.records.specs.NodeKind as node
use Rattle.records.specs.Records.{name_words, node_words}
use Rattle.tables.specs.Tables.{table_of, word_at, beyond, span_at}
use Rattle.lex.specs.Tokens.{Token}
use Rattle.literals.specs.Literals.{span_text}
use Rattle.grammar.specs.Tree.{Line}
use Rattle.grammar.specs.Part.{span_of}
use Rattle.symbols.specs.Symbols.{find}
use Rattle.names.specs.Names.{names_of, name_record}
use Rattle.names.specs.Held.{Held}
use Rattle.walk.specs.Walk.{NodeHead, Own, noexpr, of, own_kind, Tree, none, part, refer, Node, Status, fresh, finished, State, visit, names_to, unwalked}
use Rattle.walk.specs.Trees.{head, tree_of}
use Rattle.walk.specs.Nodes.{node_record}
use Rattle.resolve.specs.Words.{kind_in, status_word, waits_word}
use Rattle.resolve.specs.declared.Waits.TheVariants.{ForRight, ForLeft, ForName}
use Rattle.resolve.specs.declared.Step.{Step}
use Rattle.resolve.specs.declared.Step.TheVariants.{Down, Up}
use Rattle.resolve.specs.declared.Walker.{Walker}
use Rattle.walk.specs.Machine.{fresh_size, Frame, wait_right, wait_left, wait_name, Config, down, up, step, meaning, steps_left, load, Fit}

-- lines whose tables these are, and the lent tables as they came
pub record Given (source exprs : List ℕ) (count : ℕ) : Type 0 where
  pub lines : List Line
  pub names : List ℕ
  pub nodes : List ℕ
  pub work : List ℕ
  pub held : Held source exprs lines
  pub counted : count ≡ length (names_of lines)

-- the rows of these names, of which the first is number n
unfoldable pub status_rows : List Line → (status : ℕ → Status) → (n : ℕ) → List Token → List (List ℕ)
status_rows ls st n [] = []
status_rows ls st n (x ∷ xs) = name_words (name_record ls (status_word (st n)) x) ∷ status_rows ls st (suc n) xs

-- the row of a node before parents are counted
abbrev pub fresh_row : Node → List ℕ
fresh_row x = node_words (node_record x 0)

-- the token of the name number n
unfoldable pub name_no : List Token → (n : ℕ) → Token
name_no ns n = get_or ns (n - 1) (record { kind = record { 0 = 0 }; start = 0; text = [] })

-- the name 0 is none, and a finished name has a node
abbrev pub Sane : (status : ℕ → Status) → Type 0
Sane st = (st 0 ≡ fresh) × ((m i : ℕ) → st m ≡ finished i → (1 ≤ i) × (i ≤ record_limit))

module _ {source exprs : List ℕ} {count : ℕ} (w : Given source exprs count) where
  abbrev pub names_of_law : List Token
  names_of_law = names_of w.lines

  -- the trees of the names, and how many names there are
  abbrev pub trees : ℕ → Tree
  trees = tree_of w.lines names_of_law

  abbrev pub total : ℕ
  total = length names_of_law

  unfoldable pub head_at : (e n : ℕ) → NodeHead
  head_at e n =
      head (if eqb n 0 then word_at expr_width exprs e 1 else (name_no names_of_law n).start) n
      (if eqb e 0 then span_of (name_no names_of_law n) else span_at expr_width exprs e 4)

  unfoldable pub used_at : (e : ℕ) → ℕ
  used_at e = find names_of_law (span_text source (span_at expr_width exprs e 4))

  abbrev pub Owns : (e n : ℕ) → Own → Type 0
  Owns e n noexpr = (e ≡ 0) × (1 ≤ n)
  Owns e n (of k) = (e ≢ 0) × (word_at expr_width exprs e 0 ≡ node.part_number k)

  -- the expression e, the outermost one of the name n if that is not 0, stands for this tree
  unfoldable pub StandsFor : (e n : ℕ) → Tree → Type 0
  StandsFor e n none = (e ≡ 0) × (n ≡ 0)
  StandsFor e n (part k h l r) =
      Owns e n k × (head_at e n ≡ h) × (n ≤ total) × StandsFor (word_at expr_width exprs e 2) 0 l × StandsFor (word_at expr_width exprs e 3) 0 r
  StandsFor e n (refer h m) =
      (e ≢ 0) × (word_at expr_width exprs e 0 ≡ node.number node.ref) × (head_at e n ≡ h) × (n ≤ total) × (used_at e ≡ m)

  -- a name, or none; with no expression there is a name
  abbrev pub Named : (e n : ℕ) → Type 0
  Named e n = (n ≤ total) × (e ≡ 0 → 1 ≤ n)

  -- the four words of a stack item stand for this frame
  unfoldable pub Waits : (e n waits right : ℕ) → Frame → Type 0
  Waits e n p r (wait_right k h l) = (p ≡ waits_word ForRight) × (kind_in exprs e ≡ node.number (own_kind k)) × (head_at e n ≡ h) × Named e n × StandsFor (word_at expr_width exprs e 2) 0 l
  Waits e n p r (wait_left k h b) = (p ≡ waits_word ForLeft) × (kind_in exprs e ≡ node.number (own_kind k)) × (head_at e n ≡ h) × Named e n × (r ≡ b)
  Waits e n p r (wait_name h m) = (p ≡ waits_word ForName) × (head_at e n ≡ h) × Named e n × (used_at e ≡ m) × (r ≡ 0)

  unfoldable pub Stack : (work : List ℕ) → List Frame → Type 0
  Stack wk [] = Unit {0}
  Stack wk (k ∷ ks) =
      Waits (word_at work_width wk (suc (length ks)) 0) (word_at work_width wk (suc (length ks)) 1) (word_at work_width wk (suc (length ks)) 2)
      (word_at work_width wk (suc (length ks)) 3) k
      × Stack wk ks

  -- the tables hold this state and this stack; c nodes are made, and d items wait
  pub record Holds (c d : ℕ) (nm nd wk : List ℕ) (s : State) (ks : List Frame) : Type 0 where
    pub names : nm ≡ table_of name_width (status_rows w.lines s.status 1 names_of_law) w.names
    pub sane : Sane s.status
    pub nodes : nd ≡ table_of node_width (map fresh_row s.nodes) w.nodes
    pub made : c ≡ length s.nodes
    pub waiting : d ≡ length ks
    pub stack : Stack wk ks
    pub room : record_limit * work_width ≤ length wk
    pub beyond : beyond work_width wk ≡ beyond work_width w.work

  -- the walk's next step is down into this tree,
  abbrev pub Goes : Step → Tree → Type 0
  Goes (Down e n) t = StandsFor e.0 n.0 t
  Goes (Up x) t = ⊥

  -- or up with this node
  abbrev pub Comes : Step → (node : ℕ) → Type 0
  Comes (Down e n) i = ⊥
  Comes (Up x) i = x.0 ≡ i

  -- the walker and the tables stand for this configuration
  unfoldable pub Reads : Walker → (nm nd wk : List ℕ) → Config → Type 0
  Reads g nm nd wk (down t s ks) = Goes g.step t × Holds g.made g.waiting nm nd wk s ks
  Reads g nm nd wk (up x ks) = Comes g.step x.number × Holds g.made g.waiting nm nd wk x.state ks

  -- there is room for what is still to come
  abbrev pub Fits : Config → Type 0
  Fits c = (load trees total c ≤ record_limit) × Fit trees total c

  abbrev pub Next : Config → Config
  Next c = step trees total c

-- one turn of the walk is one step of the machine
unfoldable pub Turns : (source exprs : List ℕ) → (count : ℕ) → Walker → (nm nd wk : List ℕ) → Walker → (nm nd wk : List ℕ) → Type 0
Turns source es count g nm nd wk q nm' nd' wk' =
    (w : Given source es count) (c : Config) → Reads w g nm nd wk c → Fits w c → Reads w q nm' nd' wk' (Next w c)

-- whether there is a turn left
abbrev pub goes_on : Step → (waiting : ℕ) → Bool
goes_on (Down e n) d = true
goes_on (Up x) d = not (eqb d 0)

abbrev pub is_running : Walker → Bool
is_running g = goes_on g.step g.waiting

-- the turns that there are at most: each node takes less than five
abbrev pub turn_limit : ℕ
turn_limit = 8192

-- all the turns: what is left is what the recursive walk comes to
unfoldable pub Runs : (source exprs : List ℕ) → (count : ℕ) → Walker → (nm nd wk : List ℕ) → Walker → (nm nd wk : List ℕ) → Type 0
Runs source es count g nm nd wk q nm' nd' wk' =
    (w : Given source es count) (c : Config) → Reads w g nm nd wk c → Fits w c → steps_left (trees w) (total w) c ≤ turn_limit
    → Reads w q nm' nd' wk' (up (meaning (trees w) (total w) c) [])

-- the visit of the name n
unfoldable pub Visits : (source exprs : List ℕ) → (count n made : ℕ) → (nm nd wk : List ℕ) → (made : ℕ) → (nm nd wk : List ℕ) → Type 0
Visits source es count n c nm nd wk c' nm' nd' wk' =
    (w : Given source es count) (s : State) → 1 ≤ n → n ≤ count → Holds w c 0 nm nd wk s [] → length s.nodes + fresh_size (trees w) (total w) s ≤ record_limit
    → Holds w c' 0 nm' nd' wk' (visit (trees w) (total w) n s) []

-- the names 1 to n
unfoldable pub VisitsTo : (source exprs : List ℕ) → (count n : ℕ) → (nm nd wk : List ℕ) → (made : ℕ) → (nm nd wk : List ℕ) → Type 0
VisitsTo source es count n nm nd wk c' nm' nd' wk' =
    (w : Given source es count) → Holds w 0 0 nm nd wk (unwalked (trees w) (total w)) [] → fresh_size (trees w) (total w) (unwalked (trees w) (total w)) ≤ record_limit
    → Holds w c' 0 nm' nd' wk' (names_to (trees w) (total w) n (unwalked (trees w) (total w))) []
    × (length (names_to (trees w) (total w) n (unwalked (trees w) (total w))).nodes ≤ record_limit)
