-- The words of expressions stand for the trees of the names. Assumes nothing.
use Rattle.std.specs.Prelude.{if◌then◌else◌}
use Prim.Native.Nat.{ℕ, zero, suc, ◌+◌, ◌-◌, ◌≤◌}
use mathlib.Core.Bool.{Bool, true, false}
use mathlib.Core.Path.{◌≡◌, refl, sym, ap, ap₂, subst, ◌∙◌}
use mathlib.Core.Logic.{inl, inr, ◌≢◌}
use mathlib.Core.List.{List, [], ◌∷◌, ◌++◌, map, append_assoc}
use mathlib.Core.Option.{Option, none as no, some}
use native.Mathlib.Omega.{arith}
use lib.ListN.{length, get_or, length-append}
use lib.Seq.{get_or-append_seam}
use lib.Dec.{eqb}
use borrow.Author.Tests.{ne_eqb}
use Rattle.records.specs.Limits.{expr_width}
use Rattle.records.specs.NodeKind as node
use Rattle.records.specs.Records.{expr_words}
use Rattle.records.specs.declared.Span.{Span}
use Rattle.records.specs.declared.ExprRecord.{ExprRecord}
use Rattle.records.proofs.Widths.{expr_width_law}
use Rattle.tables.specs.Tables.{word_at, span_at}
use Rattle.tables.proofs.Words.{word_none}
use Rattle.tables.proofs.Laws.{wide_map, table_word}
use Rattle.lex.specs.Tokens.{Token}
use Rattle.checks.specs.Jets.{same}
use Rattle.literals.specs.Literals.{span_text}
use Rattle.grammar.specs.Tree.{Expr, Line}
use Rattle.grammar.specs.Part as part
use Rattle.grammar.specs.Part.{Part, part_of, part_if, weight, span_of}
use Rattle.grammar.specs.Tree as tree
use Rattle.grammar.specs.Recorded.{expr_record, expr_records, part_no, line_part, exprs_of, lines_exprs, expr_rows_of}
use Rattle.grammar.specs.Places.{Each}
use Rattle.grammar.proofs.Takes.{expr_records_law}
use Rattle.symbols.specs.Symbols.{Text, find}
use Rattle.names.specs.Names.{first_from, Placed, placed, or_else, first_expression, number_of, names_of}
use Rattle.names.specs.Uses.{Refers}
use Rattle.names.specs.Held.{InPlace}
use Rattle.walk.specs.Walk as walk
use Rattle.walk.specs.Walk.{NodeHead, Tree, noexpr, of}
use Rattle.walk.specs.Trees.{head, tree_of_part, outermost, tree_by, tree_if, tree_of, record_no}
use Rattle.resolve.specs.Turns.{Given, names_of_law, total, trees, head_at, used_at, name_no, StandsFor}

-- ---- lists

map_append : (xs ys : List ExprRecord) → map expr_words (xs ++ ys) ≡ map expr_words xs ++ map expr_words ys
map_append [] ys = refl
map_append (x ∷ xs) ys = ap {B = List (List ℕ)} (λ l. expr_words x ∷ l) (map_append xs ys)

map_length : (xs : List ExprRecord) → length (map expr_words xs) ≡ length xs
map_length [] = refl
map_length (x ∷ xs) = ap suc (map_length xs)

-- A ++ (B ++ (x ∷ [])) between others, taken apart at A, at B and at x
at_first : (pre a b post : List ExprRecord) (x : ExprRecord) → pre ++ ((a ++ (b ++ (x ∷ []))) ++ post) ≡ pre ++ (a ++ (b ++ (x ∷ post)))
at_first pre a b post x = simp append_assoc

at_second : (pre a b post : List ExprRecord) (x : ExprRecord) → pre ++ ((a ++ (b ++ (x ∷ []))) ++ post) ≡ (pre ++ a) ++ (b ++ (x ∷ post))
at_second pre a b post x = simp append_assoc

at_last : (pre a b post : List ExprRecord) (x : ExprRecord) → pre ++ ((a ++ (b ++ (x ∷ []))) ++ post) ≡ (pre ++ (a ++ b)) ++ (x ∷ post)
at_last pre a b post x = simp append_assoc

-- ---- the records of a part, in a table

module _ {source es : List ℕ} {count : ℕ} (w : Given source es count) where
  expr_word : (pre post : List ExprRecord) (x : ExprRecord) (n j : ℕ) → lines_exprs w.lines 0 ≡ pre ++ (x ∷ post) → n ≡ suc (length pre) → word_at expr_width es n j ≡ get_or (expr_words x) j 0
  expr_word pre post x n j e h =
      let rows : expr_rows_of w.lines ≡ map expr_words pre ++ (expr_words x ∷ map expr_words post) = ap (map expr_words) e ∙ map_append pre (x ∷ post) in
      let size : length (expr_rows_of w.lines) ≡ length (lines_exprs w.lines 0) = map_length (lines_exprs w.lines 0) in
      let len : length (lines_exprs w.lines 0) ≡ length pre + suc (length post) = ap length e ∙ length-append pre (x ∷ post) in
      let z : n ≡ length (map expr_words pre) + 1 = omega (arith, map_length pre) in
      ap₂ (λ (t : List ℕ) (i : ℕ). word_at expr_width t i j) w.held.table z
      ∙ table_word expr_width w.held.old {rs = expr_rows_of w.lines} (wide_map expr_width expr_words expr_width_law (lines_exprs w.lines 0)) (omega (arith, w.held.room)) (length (map expr_words pre)) j (omega (arith, map_length pre))
      ∙ ap (λ (r : List ℕ). get_or r j 0) (ap (λ (rs : List (List ℕ)). get_or rs (length (map expr_words pre)) []) rows ∙ get_or-append_seam (map expr_words pre) (expr_words x) (map expr_words post) [])

  expr_span : (pre post : List ExprRecord) (x : ExprRecord) (n : ℕ) → lines_exprs w.lines 0 ≡ pre ++ (x ∷ post) → n ≡ suc (length pre) → span_at expr_width es n 4 ≡ x.span
  expr_span pre post x n e h = ap₂ {C = Span} (λ a b. record { start = record { 0 = a }; len = b }) (expr_word pre post x n 4 e h) (expr_word pre post x n 5 e h)

  expr_head : (pre post : List ExprRecord) (x : ExprRecord) (n : ℕ) → lines_exprs w.lines 0 ≡ pre ++ (x ∷ post) → n ≡ suc (length pre) → head_at w n 0 ≡ head x.start.0 0 x.span
  unfolding head_at
  expr_head pre post x n e h =
      let d : n ≢ 0 = omega arith in
      rw (ne_eqb n 0 d) (ap₂ (λ (a : ℕ) (b : Span). head a 0 b) (expr_word pre post x n 1 e h) (expr_span pre post x n e h))

  -- A PART STANDS for its tree
  part_stands : (p : Part) (m : ℕ) (pre post : List ExprRecord) → lines_exprs w.lines 0 ≡ pre ++ (expr_records p m ++ post) → length pre ≡ m → ((t : Token) → Refers p t → InPlace source t)
      → StandsFor w (part_no p m) 0 (tree_of_part (names_of_law w) p)
  unfolding expr_records tree_of_part StandsFor Refers weight
  part_stands part.none m pre post e h refs = (refl, refl)
  part_stands (part.refer x) m pre post e h refs =
      let z : m + 1 ≡ suc (length pre) = omega arith in
      let r : ExprRecord = expr_record node.ref x.start 0 0 (span_of x) in
      (λ q. omega arith, expr_word pre post r (m + 1) 0 e z, expr_head pre post r (m + 1) e z, omega arith, used z)
    where
      used : m + 1 ≡ suc (length pre) → used_at w (m + 1) ≡ find (names_of_law w) x.text
      used z =
          unfold used_at in (ap (λ (s : Span). find (names_of_law w) (span_text source s)) (expr_span pre post (expr_record node.ref x.start 0 0 (span_of x)) (m + 1) e z)
          ∙ ap (find (names_of_law w)) (refs x refl))
  part_stands (part.part k at s l r) m pre post e h refs =
      let a : List ExprRecord = expr_records l m in
      let b : List ExprRecord = expr_records r (m + weight l) in
      let x : ExprRecord = expr_record (node.part k) at (part_no l m) (part_no r (m + weight l)) s in
      let n : ℕ = m + suc (weight l + weight r) in
      let here : lines_exprs w.lines 0 ≡ (pre ++ (a ++ b)) ++ (x ∷ post) = e ∙ at_last pre a b post x in
      let num : n ≡ suc (length (pre ++ (a ++ b))) = omega (arith, length-append pre (a ++ b), length-append a b, expr_records_law l m, expr_records_law r (m + weight l)) in
      let left : StandsFor w (part_no l m) 0 (tree_of_part (names_of_law w) l) = part_stands l m pre (b ++ (x ∷ post)) (e ∙ at_first pre a b post x) h (λ t q. refs t (inl q)) in
      let right : StandsFor w (part_no r (m + weight l)) 0 (tree_of_part (names_of_law w) r) =
      part_stands r (m + weight l) (pre ++ a) (x ∷ post) (e ∙ at_second pre a b post x) (omega (arith, length-append pre a, expr_records_law l m)) (λ t q. refs t (inr q)) in (
        (λ q. omega arith, expr_word (pre ++ (a ++ b)) post x n 0 here num),
        expr_head (pre ++ (a ++ b)) post x n here num,
        omega arith,
        subst (λ (i : ℕ). StandsFor w i 0 (tree_of_part (names_of_law w) l)) (sym (expr_word (pre ++ (a ++ b)) post x n 2 here num)) left,
        subst (λ (i : ℕ). StandsFor w i 0 (tree_of_part (names_of_law w) r)) (sym (expr_word (pre ++ (a ++ b)) post x n 3 here num)) right,
      )

  -- the outermost part of a name
  outer_stands : (e m : ℕ) (t : Tree) → 1 ≤ m → m ≤ total w → (t ≡ walk.none → ⊥) → StandsFor w e 0 t → StandsFor w e m (outermost m (name_no (names_of_law w) m) t)
  unfolding StandsFor outermost head_at
  outer_stands e m walk.none a b d s = absurd (d refl)
  outer_stands e m (walk.part noexpr h l r) a b d s = absurd (omega (arith, s.0.1))
  outer_stands e m (walk.part (of k) h l r) a b d s =
      (s.0, rw (ne_eqb m 0 (λ q. omega arith), ne_eqb e 0 s.0.0) (ap (λ (y : Span). head (name_no (names_of_law w) m).start m y) (span (ne_eqb e 0 s.0.0) s.1)), b, s.3, s.4)
    where
      span : eqb e 0 ≡ false → head_at w e 0 ≡ h → span_at expr_width es e 4 ≡ h.span
      span q g = (rw q) ∙ ap (λ (y : NodeHead). y.span) g
  outer_stands e m (walk.refer h u) a b d s =
      (s.0, s.1, rw (ne_eqb m 0 (λ q. omega arith), ne_eqb e 0 s.0) (ap (λ (y : Span). head (name_no (names_of_law w) m).start m y) (span (ne_eqb e 0 s.0) s.2)), b, s.4)
    where
      span : eqb e 0 ≡ false → head_at w e 0 ≡ h → span_at expr_width es e 4 ≡ h.span
      span q g = (rw q) ∙ ap (λ (y : NodeHead). y.span) g

-- ---- where a first expression stands

pub record Sits (source : List ℕ) (ls : List Line) (e : ℕ) (p : Placed) : Type 0 where
  pub pre : List ExprRecord
  pub post : List ExprRecord
  pub whole : lines_exprs ls e ≡ pre ++ (expr_records (part_of p.expression) p.before ++ post)
  pub number : p.before ≡ e + length pre
  pub refs : (t : Token) → Refers (part_of p.expression) t → InPlace source t

first_sits : (source : List ℕ) (ls : List Line) (e : ℕ) (x : Text) (p : Placed) → Each (λ (l : Line). (t : Token) → Refers (line_part l) t → InPlace source t) ls → first_from e ls x ≡ some p → Sits source ls e p
unfolding first_from lines_exprs
first_sits source [] e x p h q = let z : ◌≡◌ {A = ℕ} 0 1 = cc in absurd (omega arith)
first_sits source (l ∷ ls) e x p h q = go (λ f. first_sits source ls (e + exprs_of l) x p h.1 f) (same l.name.text x) l.expression refl q
  where
    later : Sits source ls (e + exprs_of l) p → Sits source (l ∷ ls) e p
    later s =
        record {
          pre = expr_records (line_part l) e ++ s.pre;
          post = s.post;
          whole = ap (λ (rs : List ExprRecord). expr_records (line_part l) e ++ rs) s.whole ∙ sym (append_assoc (expr_records (line_part l) e) s.pre (expr_records (part_of p.expression) p.before ++ s.post));
          number = omega (arith, s.number, length-append (expr_records (line_part l) e) s.pre, expr_records_law (line_part l) e);
          refs = s.refs;
        }

    found : (y : Expr) → l.expression ≡ some y → ◌≡◌ {A = Option Placed} (some (record { before = e; expression = y })) (some p) → Sits source (l ∷ ls) e p
    found y f g =
        let b : record { before = e; expression = y } ≡ p = cc in
        subst (λ (r : Placed). Sits source (l ∷ ls) e r) b
        (record {
          pre = [];
          post = lines_exprs ls (e + exprs_of l);
          whole = ap (λ (o : Option Expr). expr_records (part_if o) e ++ lines_exprs ls (e + exprs_of l)) f;
          number = omega arith;
          refs = λ t r. h.0 t (subst (λ (o : Option Expr). Refers (part_if o) t) (sym f) r);
        })

    go : (first_from (e + exprs_of l) ls x ≡ some p → Sits source ls (e + exprs_of l) p) → (b : Bool) (o : Option Expr) → l.expression ≡ o → (if b then or_else (placed e o) (first_from (e + exprs_of l) ls x) else first_from (e + exprs_of l) ls x) ≡ some p → Sits source (l ∷ ls) e p
    go ih false o f g = later (ih g)
    go ih true no f g = later (ih g)
    go ih true (some y) f g = found y f g

-- an expression has a tree
part_some : (ns : List Token) (e : Expr) → tree_of_part ns (part_of e) ≡ walk.none → ⊥
unfolding part_of tree_of_part
part_some ns (tree.nullary k at) q = let z : ◌≡◌ {A = ℕ} 0 1 = cc in omega arith
part_some ns (tree.unary k at e) q = let z : ◌≡◌ {A = ℕ} 0 1 = cc in omega arith
part_some ns (tree.binary k at l r) q = let z : ◌≡◌ {A = ℕ} 0 1 = cc in omega arith
part_some ns (tree.assertl at e c) q = let z : ◌≡◌ {A = ℕ} 0 1 = cc in omega arith
part_some ns (tree.assertr at c e) q = let z : ◌≡◌ {A = ℕ} 0 1 = cc in omega arith
part_some ns (tree.hole x) q = let z : ◌≡◌ {A = ℕ} 0 1 = cc in omega arith
part_some ns (tree.const l) q = let z : ◌≡◌ {A = ℕ} 0 1 = cc in omega arith
part_some ns (tree.fail at l) q = let z : ◌≡◌ {A = ℕ} 0 1 = cc in omega arith
part_some ns (tree.jet t) q = let z : ◌≡◌ {A = ℕ} 0 1 = cc in omega arith
part_some ns (tree.ref x) q = let z : ◌≡◌ {A = ℕ} 0 1 = cc in omega arith

-- the token of a number
pub record_is : (ns : List Token) (m : ℕ) → 1 ≤ m → m ≤ length ns → record_no ns m ≡ some (name_no ns m)
unfolding record_no name_no
record_is ns zero a b = absurd (omega arith)
record_is [] (suc m) a b = absurd (omega arith)
record_is (x ∷ ns) (suc zero) a b = refl
record_is (x ∷ ns) (suc (suc m)) a b =
    let z : suc (suc m) - 1 ≡ suc (suc m - 1) = omega arith in
    record_is ns (suc m) (omega arith) (omega arith) ∙ ap {B = Option Token} (λ i. some (get_or (x ∷ ns) i (record { kind = record { 0 = 0 }; start = 0; text = [] }))) (sym z)

pub tree_is : (ls : List Line) (m : ℕ) → 1 ≤ m → m ≤ length (names_of ls) → tree_of ls (names_of ls) m ≡ tree_by (names_of ls) m (name_no (names_of ls) m) (first_expression ls (name_no (names_of ls) m).text)
unfolding tree_of tree_if
tree_is ls m a b = ap (tree_if ls (names_of ls) m) (record_is (names_of ls) m a b)

-- EACH NAME'S EXPRESSION STANDS FOR ITS TREE
pub tree_stands : {source es : List ℕ} {count : ℕ} (w : Given source es count) (m : ℕ) → 1 ≤ m → m ≤ total w
    → StandsFor w (number_of (first_from 0 w.lines (name_no (names_of_law w) m).text)) m (trees w m)
tree_stands {source} {es} {count} w m a b =
    subst (λ (t : Tree). StandsFor w (number_of (first_from 0 w.lines x)) m t) (sym (tree_is w.lines m a b)) (go (first_from 0 w.lines x) refl)
  where
    x : Text
    x = (name_no (names_of_law w) m).text

    incomplete : StandsFor w 0 m (tree_by (names_of_law w) m (name_no (names_of_law w) m) no)
    incomplete = unfold StandsFor tree_by head_at in ((refl, a), rw (ne_eqb m 0 (λ q. omega arith)), b, (word_none expr_width es 0 2 refl, refl), (word_none expr_width es 0 3 refl, refl))

    go : (o : Option Placed) → first_from 0 w.lines x ≡ o → StandsFor w (number_of (first_from 0 w.lines x)) m (tree_by (names_of_law w) m (name_no (names_of_law w) m) (first_expression w.lines x))
    go no e = unfold first_expression in rw e incomplete
    go (some p) e =
        let s = first_sits source w.lines 0 x p w.held.references e in
        unfold first_expression tree_by in rw e
        (outer_stands w (part_no (part_of p.expression) p.before) m (tree_of_part (names_of_law w) (part_of p.expression)) a b (part_some (names_of_law w) p.expression)
        (part_stands w (part_of p.expression) p.before s.pre s.post s.whole (sym (s.number ∙ omega arith)) s.refs))
