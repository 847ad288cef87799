-- Reading the tables of lines: the record of a line and the place of its expression, if the lines before it
-- are `done`. Assumes nothing.
use Prim.Native.Nat.{ℕ, suc, ◌+◌, ◌<◌}
use mathlib.Core.Path.{◌≡◌, refl, sym, ap, ◌∙◌}
use mathlib.Core.List.{List, [], ◌∷◌, ◌++◌, map, append_assoc, map-append}
use mathlib.Core.Option.{some}
use native.Mathlib.Omega.{arith}
use native.Mathlib.Nat.{zero-add}
use lib.ListN.{length, get_or, length-append, length-map}
use lib.Seq.{get_or_at}
use Rattle.records.specs.Records.{line_words, expr_words}
use Rattle.records.specs.declared.LineRecord.{LineRecord}
use Rattle.records.specs.declared.ExprRecord.{ExprRecord}
use Rattle.grammar.specs.Tree as tree
use Rattle.grammar.specs.Tree.{Expr, Line}
use Rattle.grammar.specs.Part as part
use Rattle.grammar.specs.Part.{Part, part_of, weight}
use Rattle.grammar.specs.Recorded.{part_no, expr_records, line_record, line_records, lines_exprs, line_part, exprs_of, types_in_line, line_rows, expr_rows_of}
use Rattle.grammar.proofs.Takes.{total, expr_records_law, line_records_law, lines_exprs_law}
use Rattle.grammar.proofs.Snoc.{Recording, exprs_recording, lines_recording}
use Rattle.names.specs.Names.{part_place}

-- ---- lists

-- the element behind those of xs, mapped
pub map_at : {A B : Type 0} (f : A → B) (xs ys : List A) (a : A) (n : ℕ) (d : B) → length xs ≡ n → get_or (map f (xs ++ (a ∷ ys))) n d ≡ f a
map_at f xs ys a n d e = ap (λ r. get_or r n d) (map-append f xs (a ∷ ys)) ∙ get_or_at (map f xs) (f a) (map f ys) d n (length-map xs f ∙ e)

-- ---- the records of lines behind others

recorded_append : {S R : Type 0} {F : List Line → S → List R} {G : Line → S → List R} {on : S → Line → S} {past : S → List Line → S} → Recording F G on past → (ds ls : List Line) (s : S) → F (ds ++ ls) s ≡ F ds s ++ F ls (past s ds)
recorded_append h [] ls s = rw (h.nothing s, h.stay s)
recorded_append {on} h (d ∷ ds) ls s = rw (h.first d (ds ++ ls) s, recorded_append h ds ls (on s d), h.first d ds s, h.go s d ds, append_assoc)

-- the record of an expression is the last of its own, and holds its place
record Outermost (p : Part) (m : ℕ) : Type 0 where
  front : List ExprRecord
  last : ExprRecord
  whole : expr_records p m ≡ front ++ (last ∷ [])
  start : last.start.0 ≡ part_place p
  number : part_no p m ≡ suc (m + length front)

outermost : (p : Part) (m : ℕ) → 0 < weight p → Outermost p m
unfolding expr_records weight
outermost part.none m h = absurd (omega arith)
outermost (part.refer x) m h = record { front = []; last = _; whole = refl; start = refl; number = omega arith }
outermost (part.part k at s l r) m h =
    record {
      front = expr_records l m ++ expr_records r (m + weight l);
      last = _;
      whole = sym (append_assoc (expr_records l m) (expr_records r (m + weight l)) _);
      start = refl;
      number = simp (length-append, expr_records_law) (omega arith);
    }

pub part_some : (e : Expr) → 0 < weight (part_of e)
unfolding part_of weight
part_some (tree.nullary k at) = omega arith
part_some (tree.unary k at e) = omega arith
part_some (tree.binary k at l r) = omega arith
part_some (tree.assertl at e c) = omega arith
part_some (tree.assertr at c e) = omega arith
part_some (tree.hole x) = omega arith
part_some (tree.const l) = omega arith
part_some (tree.fail at l) = omega arith
part_some (tree.jet t) = omega arith
part_some (tree.ref x) = omega arith

-- its number is not 0
pub number_some : (e : Expr) (m : ℕ) → 0 < part_no (part_of e) m
number_some e m = omega (arith, (outermost (part_of e) m (part_some e)).number)

module _ (done rest : List Line) (l : Line) where
  abbrev pub all : List Line
  all = done ++ (l ∷ rest)

  -- the row of the line
  pub line_row : get_or (line_rows all) (length done) [] ≡ line_words (line_record l (total exprs_of done) (total types_in_line done))
  unfolding line_records
  line_row =
      let e : line_records all 0 0 ≡ line_records done 0 0 ++ (line_record l (total exprs_of done) (total types_in_line done) ∷ line_records rest (total exprs_of done + exprs_of l) (total types_in_line done + types_in_line l)) =
      recorded_append lines_recording done (l ∷ rest) (0, 0) ∙ rw (zero-add (total exprs_of done), zero-add (total types_in_line done)) in
      ap (λ (r : List LineRecord). get_or (map line_words r) (length done) []) e ∙ map_at line_words (line_records done 0 0) _ _ (length done) [] (line_records_law done 0 0)

  -- the place of its expression
  pub expr_start : (e : Expr) → l.expression ≡ some e → (i : ℕ) → part_no (part_of e) (total exprs_of done) ≡ suc i → get_or (get_or (expr_rows_of all) i []) 1 0 ≡ part_place (part_of e)
  unfolding lines_exprs
  expr_start e some_e i number =
      let m : ℕ = total exprs_of done in
      let o = outermost (part_of e) m (part_some e) in
      let s : expr_records (line_part l) m ≡ o.front ++ (o.last ∷ []) = ap (λ x. expr_records (part.part_if x) m) some_e ∙ o.whole in
      let w : lines_exprs all 0 ≡ (lines_exprs done 0 ++ o.front) ++ (o.last ∷ lines_exprs rest (m + exprs_of l)) =
      recorded_append exprs_recording done (l ∷ rest) 0 ∙ rw (zero-add m, s) (simp append_assoc) in
      let n : length (lines_exprs done 0 ++ o.front) ≡ i = length-append (lines_exprs done 0) o.front ∙ omega (arith, lines_exprs_law done 0, o.number) in
      ap (λ (r : List ExprRecord). get_or (get_or (map expr_words r) i []) 1 0) w ∙ ap (λ (r : List ℕ). get_or r 1 0) (map_at expr_words (lines_exprs done 0 ++ o.front) _ o.last i [] n) ∙ o.start
