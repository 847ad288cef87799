-- A record refers only to records before it: a child's number is smaller than its parent's, and above the records that stand
-- before the line's. A line's numbers are those of records that there are. Assumes nothing.
use Rattle.std.specs.Prelude.{if◌then◌else◌}
use Prim.Native.Nat.{ℕ, zero, suc, ◌+◌, ◌≤◌, ◌<◌}
use mathlib.Core.Bool.{Bool, true, false}
use mathlib.Core.Path.{◌≡◌, refl}
use mathlib.Core.List.{List, [], ◌∷◌, ◌++◌, append_assoc}
use native.Mathlib.Omega.{arith}
use lib.ListN.{length, get_or, length-append}
use Rattle.records.specs.TypeKind as kind
use Rattle.records.specs.declared.ExprRecord.{ExprRecord}
use Rattle.records.specs.declared.TypeRecord.{TypeRecord}
use Rattle.grammar.specs.Tree as tree
use Rattle.grammar.specs.Tree.{Op, Ty, present, Line, types_of}
use Rattle.grammar.specs.Part as part
use Rattle.grammar.specs.Part.{Part, weight}
use Rattle.grammar.specs.Recorded.{part_no, expr_records, type_record, op_kind, type_weight, type_no, type_records, line_part, exprs_of, source_weight, types_in_line, line_record, line_types, line_records, lines_exprs, lines_types}
use Rattle.grammar.specs.Places.{Each, numbered, Child, ExprChildren, TypeChildren, NumbersWithin}
use Rattle.grammar.proofs.Takes.{total, expr_records_law, type_records_law, lines_exprs_law, lines_types_law}
use Rattle.grammar.proofs.Snoc.{Recording, on, past, exprs_recording, types_recording}

-- ---- lists

module _ {A : Type 0} (P : A → Type 0) where
  pub each_append : (xs ys : List A) → Each P xs → Each P ys → Each P (xs ++ ys)
  each_append [] ys h k = k
  each_append (x ∷ xs) ys h k = (h.0, each_append xs ys h.1 k)

  pub each_front : (xs ys : List A) → Each P (xs ++ ys) → Each P xs
  each_front [] ys h = tt
  each_front (x ∷ xs) ys h = (h.0, each_front xs ys h.1)

  pub each_back : (xs ys : List A) → Each P (xs ++ ys) → Each P ys
  each_back [] ys h = h
  each_back (x ∷ xs) ys h = each_back xs ys h.1

  pub each_wide : (Q : A → Type 0) → ((x : A) → P x → Q x) → (xs : List A) → Each P xs → Each Q xs
  each_wide Q w [] h = tt
  each_wide Q w (x ∷ xs) h = (w x h.0, each_wide Q w xs h.1)

module _ {R : Type 0} (P : ℕ × R → Type 0) where
  -- `n` records stand before the ys
  pub numbered_append : (m : ℕ) (xs ys : List R) (n : ℕ) → n ≡ m + length xs → Each P (numbered m xs) → Each P (numbered n ys) → Each P (numbered m (xs ++ ys))
  unfolding numbered
  numbered_append m [] ys n e h k = let z : n ≡ m = omega arith in rw z at k
  numbered_append m (x ∷ xs) ys n e h k = (h.0, numbered_append (suc m) xs ys n (omega arith) h.1 k)

  pub numbered_at : (m : ℕ) (rs : List R) → Each P (numbered m rs) → (i : ℕ) (none : R) → i < length rs → P (m + i + 1, get_or rs i none)
  unfolding numbered
  numbered_at m [] h i none b = absurd (omega arith)
  numbered_at m (r ∷ rs) h zero none b = let z : m + 0 + 1 ≡ suc m = omega arith in rw z h.0
  numbered_at m (r ∷ rs) h (suc i) none b = let z : m + suc i + 1 ≡ suc m + i + 1 = omega arith in rw z (numbered_at (suc m) rs h.1 i none (omega arith))

-- what is said of the m records before holds with fewer before
module _ {R : Type 0} (P : ℕ → ℕ × R → Type 0) (wide : (k m : ℕ) → k ≤ m → (x : ℕ × R) → P m x → P k x) where
  -- n records stand before the ys, o before the zs
  both : (m n : ℕ) (xs ys : List R) → n ≡ m + length xs → Each (P m) (numbered m xs) → Each (P n) (numbered n ys) → Each (P m) (numbered m (xs ++ ys))
  both m n xs ys e h k = numbered_append (P m) m xs ys n e h (each_wide (P n) (P m) (wide m n (omega arith)) (numbered n ys) k)

  all_three : (m n o : ℕ) (xs ys zs : List R) → n ≡ m + length xs → o ≡ n + length ys → Each (P m) (numbered m xs) → Each (P n) (numbered n ys) → Each (P m) (numbered o zs) → Each (P m) (numbered m (xs ++ (ys ++ zs)))
  all_three m n o xs ys zs e f h k j =
      rw append_assoc at (numbered_append (P m) m (xs ++ ys) zs o (simp length-append (omega arith)) (both m n xs ys e h k) j)

  in_lines : {F : List Line → ℕ → List R} {G : Line → ℕ → List R} {w : Line → ℕ} → Recording F G (on w) (past w) → ((l : Line) (m : ℕ) → length (G l m) ≡ w l) → ((l : Line) (m : ℕ) → Each (P m) (numbered m (G l m))) → (ls : List Line) (m : ℕ) → Each (P m) (numbered m (F ls m))
  unfolding numbered
  in_lines h size k [] m = rw (h.nothing m) tt
  in_lines {F} {G} {w} h size k (l ∷ ls) m = rw (h.first l ls m) (both m (m + w l) (G l m) (F ls (m + w l)) (omega (arith, size l m)) (k l m) (in_lines h size k ls (m + w l)))

-- ---- children

child_wide : (k m n c : ℕ) → k ≤ m → Child m n c → Child k n c
child_wide k m n c h (b, a) = (b, λ p. let q = a p in omega arith)

child_up : (m n o c : ℕ) → n ≤ o → Child m n c → Child m o c
child_up m n o c h (b, a) = (omega arith, a)

no_child : (m n : ℕ) → Child m (suc n) 0
no_child m n = (omega arith, λ p. absurd (omega arith))

-- the children of the record behind two parts, which have v and w records
children : (m v w l r : ℕ) → Child m (m + v + 1) l → Child (m + v) (m + v + w + 1) r → Child m (suc (m + v + w)) l × Child m (suc (m + v + w)) r
children m v w l r a b = (child_up m _ _ l (omega arith) a, child_wide m (m + v) _ r (omega arith) (child_up (m + v) _ _ r (omega arith) b))

-- ---- expressions

part_no_law : (p : Part) (m : ℕ) → Child m (m + weight p + 1) (part_no p m)
unfolding weight
part_no_law part.none m = (omega arith, λ p. absurd (omega arith))
part_no_law (part.part k at s l r) m = (omega arith, λ p. omega arith)
part_no_law (part.refer x) m = (omega arith, λ p. omega arith)

expr_wide : (k m : ℕ) → k ≤ m → (x : ℕ × ExprRecord) → ExprChildren m x → ExprChildren k x
expr_wide k m h (n, r) (a, b) = (child_wide k m n _ h a, child_wide k m n _ h b)

pub expr_children : (p : Part) (m : ℕ) → Each (ExprChildren m) (numbered m (expr_records p m))
unfolding expr_records numbered
expr_children part.none m = tt
expr_children (part.part k at s l r) m =
    let n = m + weight l in
    all_three ExprChildren expr_wide m n (n + weight r) (expr_records l m) (expr_records r n) _ (omega (arith, expr_records_law l m)) (omega (arith, expr_records_law r n)) (expr_children l m) (expr_children r n)
    (children m (weight l) (weight r) _ _ (part_no_law l m) (part_no_law r n), tt)
expr_children (part.refer x) m = ((no_child m m, no_child m m), tt)

pub lines_expr_children : (ls : List Line) (m : ℕ) → Each (ExprChildren m) (numbered m (lines_exprs ls m))
lines_expr_children = in_lines ExprChildren expr_wide exprs_recording (λ l m. expr_records_law (line_part l) m) (λ l m. expr_children (line_part l) m)

pub children_smaller_exprs : (ls : List Line) (i : ℕ) (none : ExprRecord) → i < length (lines_exprs ls 0) → ((get_or (lines_exprs ls 0) i none).left.0 < i + 1) × ((get_or (lines_exprs ls 0) i none).right.0 < i + 1)
children_smaller_exprs ls i none h =
    let c = numbered_at (ExprChildren 0) 0 (lines_exprs ls 0) (lines_expr_children ls 0) i none h in
    (omega (arith, c.0.0), omega (arith, c.1.0))

-- ---- types

present_weight : (x : Ty) → present x ≡ true → 0 < type_weight x
unfolding type_weight present
present_weight tree.absent e = let z : ◌≡◌ {A = ℕ} 0 1 = cc in absurd (omega arith)
present_weight tree.one e = omega arith
present_weight tree.two e = omega arith
present_weight (tree.name x) e = omega arith
present_weight (tree.power n) e = omega arith
present_weight (tree.op o l r) e = rw e (omega arith)

type_no_law : (x : Ty) (m : ℕ) → Child m (m + type_weight x + 1) (type_no x m)
type_no_law x m = go (present x) refl
  where
    go : (b : Bool) → present x ≡ b → Child m (m + type_weight x + 1) (if b then m + type_weight x else 0)
    go true e = (omega arith, λ p. omega (arith, present_weight x e))
    go false e = (omega arith, λ p. absurd (omega arith))

type_wide : (k m : ℕ) → k ≤ m → (x : ℕ × TypeRecord) → TypeChildren m x → TypeChildren k x
type_wide k m h (n, r) c o e = let d = c o e in (child_wide k m n _ h d.0, child_wide k m n _ h d.1)

-- a name has none
pub name_no_op : (o : Op) → kind.number kind.name ≡ kind.number (op_kind o) → ⊥
name_no_op tree.sum e = omega arith
name_no_op tree.product e = omega arith

pub type_children : (x : Ty) (m : ℕ) → Each (TypeChildren m) (numbered m (type_records x m))
unfolding type_records numbered
type_children tree.absent m = tt
type_children tree.one m = (λ o e. (no_child m m, no_child m m), tt)
type_children tree.two m = (λ o e. (no_child m m, no_child m m), tt)
type_children (tree.name x) m = (λ o e. absurd (name_no_op o e), tt)
type_children (tree.power n) m = (λ o e. (no_child m m, no_child m m), tt)
type_children (tree.op o l r) m =
    let n = m + type_weight l in
    all_three TypeChildren type_wide m n (n + type_weight r) (type_records l m) (type_records r n) _ (omega (arith, type_records_law l m)) (omega (arith, type_records_law r n)) (type_children l m) (type_children r n)
    (last (present (tree.op o l r)))
  where
    last : (b : Bool) → Each (TypeChildren m) (numbered (m + type_weight l + type_weight r) (if b then type_record (op_kind o) (type_no l m) (type_no r (m + type_weight l)) 0 ∷ [] else []))
    last true = (λ o e. children m (type_weight l) (type_weight r) _ _ (type_no_law l m) (type_no_law r (m + type_weight l)), tt)
    last false = tt

pub lines_type_children : (ls : List Line) (m : ℕ) → Each (TypeChildren m) (numbered m (lines_types ls m))
unfolding line_types
lines_type_children = in_lines TypeChildren type_wide types_recording size each
  where
    size : (l : Line) (m : ℕ) → length (line_types l m) ≡ types_in_line l
    size l m = simp (length-append, type_records_law)

    each : (l : Line) (m : ℕ) → Each (TypeChildren m) (numbered m (line_types l m))
    each l m = both TypeChildren type_wide m (m + source_weight l) (type_records (types_of l).source m) _ (omega (arith, type_records_law (types_of l).source m)) (type_children (types_of l).source m) (type_children (types_of l).target (m + source_weight l))

pub children_smaller_types : (ls : List Line) (i : ℕ) (none : TypeRecord) → i < length (lines_types ls 0) → (o : Op) → (get_or (lines_types ls 0) i none).kind.0 ≡ kind.number (op_kind o) → ((get_or (lines_types ls 0) i none).left < i + 1) × ((get_or (lines_types ls 0) i none).right < i + 1)
children_smaller_types ls i none h o e =
    let c = numbered_at (TypeChildren 0) 0 (lines_types ls 0) (lines_type_children ls 0) i none h o e in
    (omega (arith, c.0.0), omega (arith, c.1.0))

-- ---- lines

refers_from : (ls : List Line) (e t m n : ℕ) → e + total exprs_of ls ≤ m → t + total types_in_line ls ≤ n → Each (NumbersWithin m n) (line_records ls e t)
unfolding line_records line_record total
refers_from [] e t m n h k = tt
refers_from (l ∷ ls) e t m n h k =
    let a = part_no_law (line_part l) e in
    let b = type_no_law (types_of l).source t in
    let c = type_no_law (types_of l).target (t + source_weight l) in
    ((omega (arith, a.0), omega (arith, b.0), omega (arith, c.0)), refers_from ls (e + exprs_of l) (t + types_in_line l) m n (omega arith) (omega arith))

pub lines_refer : (ls : List Line) → Each (NumbersWithin (length (lines_exprs ls 0)) (length (lines_types ls 0))) (line_records ls 0 0)
lines_refer ls = refers_from ls 0 0 _ _ (omega (arith, lines_exprs_law ls 0)) (omega (arith, lines_types_law ls 0))
