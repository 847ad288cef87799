-- Names, first expressions and errors of lines with one line more at the end. Assumes nothing.
use Rattle.std.specs.Prelude.{if◌then◌else◌}
use Prim.Native.Nat.{ℕ, ◌+◌, ◌≤◌}
use mathlib.Core.Bool.{Bool, true, false}
use mathlib.Core.Path.{◌≡◌, refl, ◌∙◌}
use mathlib.Core.Logic.{inl, inr}
use mathlib.Core.List.{List, [], ◌∷◌, ◌++◌, map, foldl, append_assoc, append-nil}
use mathlib.Core.Option.{Option, none, some}
use native.Mathlib.Omega.{arith}
use native.Mathlib.Nat.{add-zero, add_assoc}
use lib.ListN.{length, length-append}
use Rattle.checks.specs.Jets.{same}
use Rattle.grammar.specs.Tree.{Expr, Line}
use Rattle.grammar.specs.Recorded.{exprs_of}
use Rattle.grammar.proofs.Takes.{total}
use Rattle.symbols.specs.Symbols.{Text, illegal}
use Rattle.names.specs.Names.{enter, names_of, Placed, placed, or_else, first_from, first_expression, Error, repeated, line_errors, errors_from, errors_of}
use Rattle.names.specs.Uses.{In}
use Rattle.names.proofs.Laws.{same_false}

-- ---- names

foldl_snoc : {A B : Type 0} (f : B → A → B) (b : B) (xs : List A) (a : A) → foldl f b (xs ++ (a ∷ [])) ≡ f (foldl f b xs) a
foldl_snoc f b [] a = refl
foldl_snoc f b (x ∷ xs) a = foldl_snoc f (f b x) xs a

pub names_snoc : (ls : List Line) (l : Line) → names_of (ls ++ (l ∷ [])) ≡ enter (names_of ls) l
unfolding names_of
names_snoc ls l = foldl_snoc enter [] ls l

-- ---- first expressions

or_none : (p : Option Placed) → or_else p none ≡ p
or_none none = refl
or_none (some p) = refl

-- what the line adds, behind m records
abbrev pub added : (m : ℕ) → Line → Text → Option Placed
added m l x = if same l.name.text x then placed m l.expression else none

pub first_snoc : (e : ℕ) (ls : List Line) (l : Line) (x : Text) → first_from e (ls ++ (l ∷ [])) x ≡ or_else (first_from e ls x) (added (e + total exprs_of ls) l x)
unfolding first_from total
first_snoc e [] l x = rw (add-zero e, or_none (placed e l.expression))
first_snoc e (k ∷ ls) l x =
    rw (first_snoc (e + exprs_of k) ls l x, ← add_assoc e (exprs_of k) (total exprs_of ls))
    (go (same k.name.text x) (placed e k.expression) (first_from (e + exprs_of k) ls x) (added (e + exprs_of k + total exprs_of ls) l x))
  where
    go : (b : Bool) (p q r : Option Placed) → (if b then or_else p (or_else q r) else or_else q r) ≡ or_else (if b then or_else p q else q) r
    go true none q r = refl
    go true (some p) q r = refl
    go false p q r = refl

-- a name that no line has
pub first_none : (e : ℕ) (ls : List Line) (x : Text) → (In x (map (λ (l : Line). l.name.text) ls) → ⊥) → first_from e ls x ≡ none
unfolding first_from
first_none e [] x h = refl
first_none e (l ∷ ls) x h = rw (same_false l.name.text x (λ q. h (inl q))) (first_none (e + exprs_of l) ls x (λ q. h (inr q)))

-- the line has another name
pub first_other : (ls : List Line) (l : Line) (x : Text) → (l.name.text ≡ x → ⊥) → first_from 0 (ls ++ (l ∷ [])) x ≡ first_from 0 ls x
first_other ls l x h = first_snoc 0 ls l x ∙ rw (same_false l.name.text x h) (or_none (first_from 0 ls x))

-- the name has an expression already
pub first_kept : (ls : List Line) (l : Line) (x : Text) (p : Placed) → first_from 0 ls x ≡ some p → first_from 0 (ls ++ (l ∷ [])) x ≡ first_from 0 ls x
first_kept ls l x p e = first_snoc 0 ls l x ∙ rw e

-- ---- errors

errors_append : (before ls : List Line) (l : Line) → errors_from before (ls ++ (l ∷ [])) ≡ errors_from before ls ++ line_errors (before ++ ls) l
unfolding errors_from
errors_append before [] l = rw (append-nil (line_errors before l), append-nil before)
errors_append before (k ∷ ls) l = rw (errors_append (before ++ (k ∷ [])) ls l, append_assoc before (k ∷ []) ls, append_assoc (line_errors before k))

pub errors_snoc : (ls : List Line) (l : Line) → errors_of (ls ++ (l ∷ [])) ≡ errors_of ls ++ line_errors ls l
errors_snoc ls l = errors_append [] ls l

-- no more errors than lines
one_error : (before : List Line) (l : Line) → length (line_errors before l) ≤ 1
unfolding line_errors
one_error before l = go (illegal l.name.text) _ (first_expression before l.name.text) l.expression
  where
    legal : (d e : Option Expr) → length (repeated d e l.name) ≤ 1
    legal none e = omega arith
    legal (some d) none = omega arith
    legal (some d) (some e) = omega arith

    go : (b : Bool) (x : Error) (d e : Option Expr) → length (if b then x ∷ [] else repeated d e l.name) ≤ 1
    go true x d e = omega arith
    go false x d e = legal d e

errors_from_few : (before ls : List Line) → length (errors_from before ls) ≤ length ls
unfolding errors_from
errors_from_few before [] = omega arith
errors_from_few before (l ∷ ls) = omega (arith, length-append (line_errors before l) (errors_from (before ++ (l ∷ [])) ls), one_error before l, errors_from_few (before ++ (l ∷ [])) ls)

pub errors_few : (ls : List Line) → length (errors_of ls) ≤ length ls
errors_few ls = errors_from_few [] ls

-- a legal line whose name has no expression yet
pub errors_none : (ls : List Line) (l : Line) → illegal l.name.text ≡ false → first_from 0 ls l.name.text ≡ none → line_errors ls l ≡ []
unfolding line_errors first_expression
errors_none ls l e f = rw (e, f)

-- a legal line whose name has one
pub errors_later : (ls : List Line) (l : Line) (p : Placed) → illegal l.name.text ≡ false → first_from 0 ls l.name.text ≡ some p → line_errors ls l ≡ repeated (some p.expression) l.expression l.name
unfolding line_errors first_expression
errors_later ls l p e f = rw (e, f)
