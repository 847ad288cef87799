-- What single functions of the walk read and make, for any words.
use Rattle.std.specs.Prelude.{ℕ, suc, ◌+◌, ◌-◌, ◌≤◌, Bool, false, not, ◌≡◌, List, [], ◌∷◌, map, length, eqb, if◌then◌else◌}
use Rattle.records.specs.Base.{within}
use Rattle.records.specs.Limits.{record_limit, expr_width, name_width, node_width, work_width}
use Rattle.records.specs.NodeKind as node
use Rattle.records.specs.Records.{name_words, node_words}
use Rattle.records.specs.declared.Span.{Span}
use Rattle.records.specs.declared.NodeRecord.{NodeRecord}
use Rattle.tables.specs.Tables.{table_of, word_at, written, span_at}
use Rattle.literals.specs.Literals.{span_text}
use Rattle.cursor.specs.Cursor.{next_number}
use Rattle.symbols.specs.Symbols.{find_from}
use Rattle.symbols.specs.Texts.{texts_from}
use Rattle.walk.specs.Walk.{Node, Status, fresh, begun, finished}
use Rattle.walk.specs.Nodes.{node_records_from, node_rows}
use Rattle.resolve.specs.declared.StackItem.{StackItem}
use Rattle.resolve.specs.declared.Waits.{Waits}
use Rattle.resolve.specs.declared.Waits.TheVariants.{ForRight, ForLeft, ForName}
use Rattle.resolve.specs.declared.Status.{Status as NameStatus}
use Rattle.resolve.specs.declared.Status.TheVariants.{Fresh, Begun, Finished}
use Rattle.resolve.specs.declared.Step.{Step}
use Rattle.resolve.specs.declared.Step.TheVariants.{Down, Up}
use Rattle.resolve.specs.declared.Walker.{Walker}
use Rattle.records.specs.declared.numbers.NodeNo.{NodeNo}

-- ---- stack items

-- the word of what an item waits for: its right child's node, its left child's node, the node of the name that it uses
abbrev pub waits_word : Waits → ℕ
waits_word ForRight = 1
waits_word ForLeft = 2
waits_word ForName = 3

-- what a word says; any other word, as a lent table may have, says the last
abbrev pub waits_of : ℕ → Waits
waits_of v = if eqb v 1 then ForRight else if eqb v 2 then ForLeft else ForName

-- expression, name, what it waits for, right node
abbrev pub item_words : StackItem → List ℕ
item_words i = i.expr.0 ∷ i.name.0 ∷ waits_word i.waits ∷ i.right.0 ∷ []

abbrev pub item_at : (work : List ℕ) → (number : ℕ) → StackItem
item_at wk n =
    record {
      expr = record { 0 = word_at work_width wk n 0 };
      name = record { 0 = word_at work_width wk n 1 };
      waits = waits_of (word_at work_width wk n 2);
      right = record { 0 = word_at work_width wk n 3 };
    }

-- ---- where the walk stands

-- going down into the expression e, which is the outermost one of the name n if that is not 0
abbrev pub down_walker : (e n waiting made : ℕ) → Walker
down_walker e n d c = record { step = Down (record { 0 = e }) (record { 0 = n }); waiting = d; made = c }

-- coming up with the node i
abbrev pub up_walker : (i waiting made : ℕ) → Walker
up_walker i d c = record { step = Up (record { 0 = i }); waiting = d; made = c }

-- the node that a walk comes up with; 0 if it goes down
abbrev pub step_node : Step → ℕ
step_node (Down e n) = 0
step_node (Up x) = x.0

abbrev pub last_node : Walker → ℕ
last_node g = step_node g.step

-- the item once its right child is made, and the walk that turns to its left child then
abbrev pub left_item : StackItem → (right : NodeNo) → StackItem
left_item i x = record i { waits = ForLeft; right = x }

abbrev pub left_walker : (exprs : List ℕ) → StackItem → Walker → Walker
left_walker es i g = down_walker (word_at expr_width es i.expr.0 2) 0 g.waiting g.made

-- one item less waits, and one node more is made
abbrev pub done_walker : Walker → Walker
done_walker g = up_walker (next_number g.made) (g.waiting - 1) (next_number g.made)

-- ---- nodes

-- the number of the name that the reference e uses, 0 if that has no legal line
unfoldable pub used_in : (source exprs names : List ℕ) → (count e : ℕ) → ℕ
used_in source es nm count e = find_from 1 (texts_from source nm 1 count) (span_text source (span_at expr_width es e 4))

-- the kind of the node of expression e; a name that has no expression has an incomplete node
unfoldable pub kind_in : (exprs : List ℕ) → (e : ℕ) → ℕ
kind_in es e = if eqb e 0 then node.number node.noexpr else word_at expr_width es e 0

-- the span of the node of expression e, or of the name n if there is none
unfoldable pub span_in : (exprs names : List ℕ) → (e n : ℕ) → Span
span_in es nm e n = if eqb e 0 then span_at name_width nm n 0 else span_at expr_width es e 4

-- the place of the node of expression e, which is the outermost one of the name n if that is not 0
unfoldable pub place_in : (exprs names : List ℕ) → (e n : ℕ) → ℕ
place_in es nm e n = if eqb n 0 then word_at expr_width es e 1 else word_at name_width nm n 0

abbrev pub node_in : (exprs names : List ℕ) → (kind e n left right : ℕ) → NodeRecord
node_in es nm k e n l r =
    record {
      kind = record { 0 = k };
      start = record { 0 = place_in es nm e n };
      name = record { 0 = n };
      left = record { 0 = l };
      right = record { 0 = r };
      span = span_in es nm e n;
      in_degree = 0;
    }

-- the table of nodes with one node more
abbrev pub nodes_with : (exprs names nodes : List ℕ) → (made kind e n left right : ℕ) → List ℕ
nodes_with es nm nd c k e n l r = written node_width nd (next_number c) (node_words (node_in es nm k e n l r))

-- ---- names

-- how far a name has come, as its word `node` says it: fresh, begun, or else finished with that node
abbrev pub begun_word : ℕ
begun_word = 4294967295

abbrev pub node_word : NameStatus → ℕ
node_word Fresh = 0
node_word Begun = begun_word
node_word (Finished x) = x.0

-- what a word says, and what the word of the name n says
abbrev pub status_of : (word : ℕ) → NameStatus
status_of v = if eqb v 0 then Fresh else if eqb v begun_word then Begun else Finished (record { 0 = v })

abbrev pub status_at : (names : List ℕ) → (n : ℕ) → NameStatus
status_at nm n = status_of (word_at name_width nm n 3)

-- a status of the walk (walk/specs/Walk.antt), and its word
abbrev pub name_status : Status → NameStatus
name_status fresh = Fresh
name_status begun = Begun
name_status (finished i) = Finished (record { 0 = i })

abbrev pub status_word : Status → ℕ
status_word v = node_word (name_status v)

-- the node that a reference gets as its child, by its name's status, 0 if none; a reference with none is missing
abbrev pub finished_node : NameStatus → ℕ
finished_node (Finished x) = x.0
finished_node _ = 0

abbrev pub reference_kind : NameStatus → ℕ
reference_kind (Finished x) = node.number node.ref
reference_kind _ = node.number node.missing

-- a name that has a legal line, and is fresh
abbrev pub fresh_name : (m : ℕ) → NameStatus → Bool
fresh_name m Fresh = not (eqb m 0)
fresh_name m _ = false

-- the name n with another word for its node
abbrev pub names_with : (names : List ℕ) → (n node : ℕ) → List ℕ
names_with nm n v =
    written name_width nm n (name_words (record { span = span_at name_width nm n 0; expr = record { 0 = word_at name_width nm n 2 }; node = record { 0 = v } }))

-- ---- parents

-- one more, as far as a word goes
abbrev pub one_more : ℕ → ℕ
one_more d = if eqb d begun_word then d else suc d

-- the record of a node, by its words
abbrev pub node_at : (nodes : List ℕ) → (n : ℕ) → NodeRecord
node_at nd n =
    record {
      kind = record { 0 = word_at node_width nd n 0 };
      start = record { 0 = word_at node_width nd n 1 };
      name = record { 0 = word_at node_width nd n 2 };
      left = record { 0 = word_at node_width nd n 3 };
      right = record { 0 = word_at node_width nd n 4 };
      span = span_at node_width nd n 5;
      in_degree = word_at node_width nd n 7;
    }

abbrev pub with_parent : NodeRecord → NodeRecord
with_parent x = record x { in_degree = one_more x.in_degree }

-- the node i has one parent more, if it is one of so many
unfoldable pub bumped : (nodes : List ℕ) → (count i : ℕ) → List ℕ
bumped nd c i = if within 1 c i then written node_width nd i (node_words (with_parent (node_at nd i))) else nd

-- the rows of nodes get their in-degrees
unfoldable pub Counts : (nodes : List ℕ) → (count : ℕ) → (nodes' : List ℕ) → Type 0
Counts nd c nd' =
    (xs : List Node) (old : List ℕ) → c ≡ length xs → c ≤ record_limit → nd ≡ table_of node_width (map node_words (node_records_from [] 1 xs)) old
    → nd' ≡ table_of node_width (node_rows xs) old
