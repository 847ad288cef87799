-- The tables hold a state and a stack: what they hold after a node, a status or an item more. Assumes nothing.
use Rattle.std.specs.Prelude.{if◌then◌else◌}
use Prim.Native.Nat.{ℕ, zero, suc, ◌-◌, ◌≤◌, ◌<◌}
use mathlib.Core.Path.{◌≡◌, refl, sym, ap, ap₂, ◌∙◌}
use mathlib.Core.Logic.{◌⊎◌, inl, inr, ◌≢◌}
use mathlib.Core.List.{List, [], ◌∷◌}
use native.Mathlib.Omega.{arith}
use lib.ListN.{length, get_or}
use lib.Dec.{eqb}
use borrow.Author.Tests.{eq-eqb, ne_eqb}
use Rattle.records.specs.Limits.{record_limit, expr_width, name_width, node_width, work_width}
use Rattle.records.specs.NodeKind as node
use Rattle.records.specs.Records.{node_words}
use Rattle.records.specs.declared.NodeRecord.{NodeRecord}
use Rattle.tables.specs.Tables.{word_at, written, beyond, span_at}
use Rattle.literals.specs.Literals.{span_text}
use Rattle.cursor.specs.Cursor.{next_number}
use Rattle.grammar.specs.Part.{span_of}
use Rattle.symbols.specs.Symbols.{Text, texts, find, find_from}
use Rattle.names.specs.Names.{first_from, number_of}
use Rattle.symbols.specs.Texts.{texts_from}
use Rattle.names.proofs.Laws.{names_few, find_is, find_first, find_stands, texts_length}
use Rattle.walk.specs.Walk.{NodeHead, Node, Status, fresh, begun, finished, State, marked, mark, finish, resolve}
use Rattle.walk.specs.Nodes.{node_record}
use Rattle.walk.proofs.Basics.{same?, marked_same, marked_other, length_snoc}
use Rattle.resolve.specs.declared.Waits.{Waits as WaitsFor}
use Rattle.resolve.specs.declared.Waits.TheVariants.{ForRight, ForLeft, ForName}
use Rattle.resolve.specs.Words.{waits_of, used_in, place_in, span_in, node_in, nodes_with, status_of, status_at, name_status, status_word, names_with, finished_node, reference_kind, begun_word}
use Rattle.resolve.specs.Turns.{Given, names_of_law, total, head_at, used_at, name_no, Named, Waits, Stack, Sane, Holds, fresh_row}
use Rattle.resolve.proofs.Names.{word_start, span_of_law, word_status, word_expr, names_marked, texts_same}
use Rattle.tables.proofs.Words.{word_none}
use Rattle.resolve.proofs.Tables.{next_is, item_same, item_below, item_length, item_beyond, node_more}
use Rattle.walk.specs.Machine.{Frame, wait_right, wait_left, wait_name}

-- ---- statuses

pub sane_marked : (st : ℕ → Status) (m : ℕ) (v : Status) → Sane st → 1 ≤ m → ((i : ℕ) → v ≡ finished i → (1 ≤ i) × (i ≤ record_limit)) → Sane (marked m v st)
sane_marked st m v s h k = (zeroth, λ a i. go a i (same? a m))
  where
    zeroth : marked m v st 0 ≡ fresh
    zeroth = let d : 0 ≢ m = omega arith in marked_other m v st 0 d ∙ s.0

    go : (a i : ℕ) → (a ≡ m) ⊎ (a ≢ m) → marked m v st a ≡ finished i → (1 ≤ i) × (i ≤ record_limit)
    go a i (inl p) e = k i (sym (marked_same m v st) ∙ ap (marked m v st) (sym p) ∙ e)
    go a i (inr d) e = s.1 a i (sym (marked_other m v st a d) ∙ e)

-- the word of a status says it
pub word_says : (v : Status) → ((i : ℕ) → v ≡ finished i → (1 ≤ i) × (i ≤ record_limit)) → status_of (status_word v) ≡ name_status v
word_says fresh h = refl
word_says begun h = refl
word_says (finished i) h = let a = h i refl in rw (ne_eqb i 0 (λ q. omega arith), ne_eqb i begun_word (λ q. omega arith))

-- the node of a reference, by its name's status
pub resolved : (h : NodeHead) (v : Status)
    → (reference_kind (name_status v) ≡ node.number (resolve h v).kind) × (finished_node (name_status v) ≡ (resolve h v).left) × ((resolve h v).right ≡ 0) × ((resolve h v).head ≡ h)
resolved h fresh = (refl, refl, refl, refl)
resolved h begun = (refl, refl, refl, refl)
resolved h (finished i) = (refl, refl, refl, refl)

module _ {source es : List ℕ} {count : ℕ} (w : Given source es count) where
  pub few : total w ≤ record_limit
  few = omega (arith, names_few w.lines, w.held.room)

  -- ---- names used

  pub used_le : (e : ℕ) → used_at w e ≤ total w
  unfolding used_at
  used_le e = go (same? (find (names_of_law w) x) 0)
    where
      x : Text
      x = span_text source (span_at expr_width es e 4)

      go : (find (names_of_law w) x ≡ 0) ⊎ (find (names_of_law w) x ≢ 0) → find (names_of_law w) x ≤ total w
      go (inl z) = omega arith
      go (inr d) =
          let r = find_first 1 (texts (names_of_law w)) x (find_stands 1 (texts (names_of_law w)) x (λ q. d (find_is (names_of_law w) x ∙ q))) in
          omega (arith, find_is (names_of_law w) x, r.1, r.2.below, texts_length (names_of_law w))

  module _ {c d : ℕ} {nm nd wk : List ℕ} {s : State} {ks : List Frame} (h : Holds w c d nm nd wk s ks) where
    pub used_is : (e : ℕ) → used_in source es nm count e ≡ used_at w e
    unfolding used_in used_at
    used_is e =
        ap₂ (λ (t : List ℕ) (k : ℕ). find_from 1 (texts_from source t 1 k) (span_text source (span_at expr_width es e 4))) h.names w.counted
        ∙ ap (λ (ts : List Text). find_from 1 ts (span_text source (span_at expr_width es e 4))) (texts_same source w.lines few w.held.names s.status w.names)
        ∙ sym (find_is (names_of_law w) (span_text source (span_at expr_width es e 4)))

    status_word_is : (m : ℕ) → m ≤ total w → word_at name_width nm m 3 ≡ status_word (s.status m)
    status_word_is zero k = word_none name_width nm 0 3 refl ∙ sym (ap status_word h.sane.0)
    status_word_is (suc m) k = ap (λ (t : List ℕ). word_at name_width t (suc m) 3) h.names ∙ word_status w.lines (names_of_law w) few s.status w.names (suc m) (omega arith) k

    pub status_is : (m : ℕ) → m ≤ total w → status_at nm m ≡ name_status (s.status m)
    status_is m k = ap status_of (status_word_is m k) ∙ word_says (s.status m) (h.sane.1 m)

    -- ---- a node

    place_is : (e n : ℕ) → Named w e n → place_in es nm e n ≡ (head_at w e n).start
    unfolding place_in head_at
    place_is e n f = go (same? n 0)
      where
        go : (n ≡ 0) ⊎ (n ≢ 0) → (if eqb n 0 then word_at expr_width es e 1 else word_at name_width nm n 0) ≡ (if eqb n 0 then word_at expr_width es e 1 else (name_no (names_of_law w) n).start)
        go (inl z) = rw (eq-eqb n 0 z)
        go (inr z) = rw (ne_eqb n 0 z) (ap (λ (t : List ℕ). word_at name_width t n 0) h.names ∙ word_start w.lines (names_of_law w) few s.status w.names n (omega arith) f.0)

    span_is : (e n : ℕ) → Named w e n → span_in es nm e n ≡ (head_at w e n).span
    unfolding span_in head_at
    span_is e n f = go (same? e 0)
      where
        go : (e ≡ 0) ⊎ (e ≢ 0) → (if eqb e 0 then span_at name_width nm n 0 else span_at expr_width es e 4) ≡ (if eqb e 0 then span_of (name_no (names_of_law w) n) else span_at expr_width es e 4)
        go (inl z) = rw (eq-eqb e 0 z) (ap (λ (t : List ℕ). span_at name_width t n 0) h.names ∙ span_of_law w.lines (names_of_law w) few s.status w.names n (f.1 z) f.0)
        go (inr z) = rw (ne_eqb e 0 z)

    node_is : (x : Node) (k e n l r : ℕ) → Named w e n → k ≡ node.number x.kind → head_at w e n ≡ x.head → l ≡ x.left → r ≡ x.right → node_in es nm k e n l r ≡ node_record x 0
    unfolding head_at
    node_is x k e n l r f hk hh hl hr =
        rw (place_is e n f ∙ ap (λ (y : NodeHead). y.start) hh, span_is e n f ∙ ap (λ (y : NodeHead). y.span) hh, hk, hl, hr)
        (ap {B = NodeRecord} (λ i. record { kind = record { 0 = node.number x.kind }; start = record { 0 = x.head.start }; name = record { 0 = i }; left = record { 0 = x.left }; right = record { 0 = x.right }; span = x.head.span; in_degree = 0 }) (ap (λ (y : NodeHead). y.name) hh))

    pub holds_node : (x : Node) (nd' : List ℕ) (k e n l r : ℕ) → length s.nodes < record_limit → Named w e n → k ≡ node.number x.kind → head_at w e n ≡ x.head → l ≡ x.left → r ≡ x.right
        → nd' ≡ nodes_with es nm nd c k e n l r → Holds w (next_number c) d nm nd' wk (finish x s).state ks
    holds_node x nd' k e n l r room f hk hh hl hr q =
        record {
          names = h.names;
          sane = h.sane;
          nodes = q ∙ ap (λ (y : NodeRecord). written node_width nd (next_number c) (node_words y)) (node_is x k e n l r f hk hh hl hr)
              ∙ ap₂ (λ (t : List ℕ) (i : ℕ). written node_width t (next_number i) (fresh_row x)) h.nodes h.made ∙ node_more w.nodes s.nodes x room;
          made = ap next_number h.made ∙ next_is (length s.nodes) room ∙ sym (length_snoc s.nodes x);
          waiting = h.waiting;
          stack = h.stack;
          room = h.room;
          beyond = h.beyond;
        }

    -- ---- a status

    pub holds_mark : (m : ℕ) (v : Status) (nm' : List ℕ) (i : ℕ) → 1 ≤ m → m ≤ total w → ((j : ℕ) → v ≡ finished j → (1 ≤ j) × (j ≤ record_limit)) → i ≡ status_word v → nm' ≡ names_with nm m i
        → Holds w c d nm' nd wk (mark m v s) ks
    holds_mark m v nm' i a b k hi q =
        record {
          names = q ∙ ap₂ (λ (t : List ℕ) (j : ℕ). names_with t m j) h.names hi ∙ names_marked w.lines (names_of_law w) few s.status w.names m v a b;
          sane = sane_marked s.status m v h.sane a k;
          nodes = h.nodes;
          made = h.made;
          waiting = h.waiting;
          stack = h.stack;
          room = h.room;
          beyond = h.beyond;
        }

    -- the first expression of a name, while the walk goes on
    pub expr_is : (m : ℕ) → 1 ≤ m → m ≤ total w → word_at name_width nm m 2 ≡ number_of (first_from 0 w.lines (name_no (names_of_law w) m).text)
    expr_is m a b = ap (λ (t : List ℕ). word_at name_width t m 2) h.names ∙ word_expr w.lines (names_of_law w) few s.status w.names m a b

    -- ---- the stack

    pub holds_push : (k : Frame) (wk' : List ℕ) (d' e n p r : ℕ) → d' ≡ suc (length ks) → suc (length ks) ≤ record_limit → Waits w e n p r k → wk' ≡ written work_width wk d' (e ∷ n ∷ p ∷ r ∷ [])
        → Holds w c d' nm nd wk' s (k ∷ ks)
    unfolding Stack
    holds_push k wk' d' e n p r hd room u q =
        record {
          names = h.names;
          sane = h.sane;
          nodes = h.nodes;
          made = h.made;
          waiting = hd;
          stack = (top, stays ks h.stack (omega arith));
          room = omega (arith, h.room, ap length wk_is, item_length wk num e n p r (omega arith) room);
          beyond = ap (beyond work_width) wk_is ∙ item_beyond wk num e n p r (omega arith) room ∙ h.beyond;
        }
      where
        num : ℕ
        num = suc (length ks)

        wk_is : wk' ≡ written work_width wk num (e ∷ n ∷ p ∷ r ∷ [])
        wk_is = q ∙ ap (λ (i : ℕ). written work_width wk i (e ∷ n ∷ p ∷ r ∷ [])) hd

        at : (j : ℕ) → j < 4 → word_at work_width wk' num j ≡ get_or (e ∷ n ∷ p ∷ r ∷ []) j 0
        at j b = ap (λ (t : List ℕ). word_at work_width t num j) wk_is ∙ item_same wk num e n p r (omega arith) room j h.room b

        top : Waits w (word_at work_width wk' num 0) (word_at work_width wk' num 1) (word_at work_width wk' num 2) (word_at work_width wk' num 3) k
        top = rw (at 0 (omega arith), at 1 (omega arith), at 2 (omega arith), at 3 (omega arith)) u

        low : (m j : ℕ) → 1 ≤ m → m ≤ length ks → j < 4 → word_at work_width wk' m j ≡ word_at work_width wk m j
        low m j a b g = ap (λ (t : List ℕ). word_at work_width t m j) wk_is ∙ item_below wk num e n p r (omega arith) room m j a (omega arith) g

        stays : (fs : List Frame) → Stack w wk fs → length fs ≤ length ks → Stack w wk' fs
        stays [] v b = tt
        stays (f ∷ fs) v b = (rw (low (suc (length fs)) 0 (omega arith) (omega arith) (omega arith), low (suc (length fs)) 1 (omega arith) (omega arith) (omega arith), low (suc (length fs)) 2 (omega arith) (omega arith) (omega arith), low (suc (length fs)) 3 (omega arith) (omega arith) (omega arith)) v.0, stays fs v.1 (omega arith))

  pub holds_pop : {c d : ℕ} {nm nd wk : List ℕ} {s : State} {k : Frame} {ks : List Frame} (h : Holds w c d nm nd wk s (k ∷ ks)) → Holds w c (d - 1) nm nd wk s ks
  unfolding Stack
  holds_pop h =
      record {
        names = h.names;
        sane = h.sane;
        nodes = h.nodes;
        made = h.made;
        waiting = omega (arith, h.waiting);
        stack = h.stack.1;
        room = h.room;
        beyond = h.beyond;
      }

  -- the innermost item
  pub top_waits : {c d : ℕ} {nm nd wk : List ℕ} {s : State} {k : Frame} {ks : List Frame} (h : Holds w c d nm nd wk s (k ∷ ks)) → Waits w (word_at work_width wk d 0) (word_at work_width wk d 1) (word_at work_width wk d 2) (word_at work_width wk d 3) k
  unfolding Stack
  top_waits h = rw h.waiting h.stack.0

  abbrev waits_by : Frame → WaitsFor
  waits_by (wait_right k h l) = ForRight
  waits_by (wait_left k h b) = ForLeft
  waits_by (wait_name h m) = ForName

  -- what the innermost item waits for tells the frame
  pub waits_for : {c d : ℕ} {nm nd wk : List ℕ} {s : State} {k : Frame} {ks : List Frame} (h : Holds w c d nm nd wk s (k ∷ ks)) → waits_of (word_at work_width wk d 2) ≡ waits_by k
  unfolding Waits
  waits_for {c} {d} {nm} {nd} {wk} {s} {k} {ks} h = go k (top_waits h)
    where
      go : (f : Frame) → Waits w (word_at work_width wk d 0) (word_at work_width wk d 1) (word_at work_width wk d 2) (word_at work_width wk d 3) f → waits_of (word_at work_width wk d 2) ≡ waits_by f
      go (wait_right k h l) v = ap waits_of v.0
      go (wait_left k h b) v = ap waits_of v.0
      go (wait_name h m) v = ap waits_of v.0
