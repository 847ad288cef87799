-- Document 01, Sizes: the numbers of records, and the places and spans of a file. proofs/Records.antt, proofs/Places.antt,
-- proofs/NoLook.antt: a record refers only to records before it; places rise; places and spans lie in the source; reading does
-- not look at places.
use Rattle.std.specs.Prelude.{ℕ, suc, ◌+◌, ◌≤◌, ◌<◌, ◌≡◌, List, [], ◌∷◌, ◌++◌, map, length}
use Rattle.std.proofs.Math.Option
use Rattle.records.specs.TypeKind as kind
use Rattle.records.specs.declared.Span.{Span}
use Rattle.records.specs.declared.ExprRecord.{ExprRecord}
use Rattle.records.specs.declared.TypeRecord.{TypeRecord}
use Rattle.records.specs.declared.LineRecord.{LineRecord}
use Rattle.lex.specs.Tokens.{Token}
use Rattle.checks.specs.declared.Fault.{Fault}
use Rattle.grammar.specs.Tree as tree
use Rattle.grammar.specs.Tree.{Expr, Cmr, Op, Ty, Arrow, Line}
use Rattle.grammar.specs.Rule.{Parsed, got, stop}
use Rattle.grammar.specs.Part as part
use Rattle.grammar.specs.Part.{Part}
use Rattle.grammar.specs.Recorded.{op_kind, line_part}

-- P of each in a list
abbrev pub Each : {A : Type 0} → (A → Type 0) → List A → Type 0
Each P [] = Unit {0}
Each P (x ∷ xs) = P x × Each P xs

-- ---- numbers

-- records with their numbers, behind so many others
unfoldable pub numbered : {R : Type 0} → (before : ℕ) → List R → List (ℕ × R)
numbered m [] = []
numbered m (r ∷ rs) = (suc m, r) ∷ numbered (suc m) rs

-- a child of the record n is below it, and above the m records before or 0, which is none
abbrev pub Child : (m n child : ℕ) → Type 0
Child m n c = (c < n) × (0 < c → m < c)

abbrev pub ExprChildren : (m : ℕ) → ℕ × ExprRecord → Type 0
ExprChildren m (n, r) = Child m n r.left.0 × Child m n r.right.0

-- only sums and products have children
abbrev pub TypeChildren : (m : ℕ) → ℕ × TypeRecord → Type 0
TypeChildren m (n, r) = (o : Op) → r.kind.0 ≡ kind.number (op_kind o) → Child m n r.left × Child m n r.right

-- a line's numbers, with so many records of expressions and of types
abbrev pub NumbersWithin : (exprs types : ℕ) → LineRecord → Type 0
NumbersWithin e t r = (r.expr.0 ≤ e) × (r.source.0 ≤ t) × (r.target.0 ≤ t)

-- ---- places

-- the places of a part: its own, then those of its left and of its right
unfoldable pub places : Part → List ℕ
places part.none = []
places (part.part k at s l r) = at ∷ (places l ++ places r)
places (part.refer x) = x.start ∷ []

-- of each line its name's and those of its expression
unfoldable pub file_places : List Line → List ℕ
file_places [] = []
file_places (l ∷ ls) = l.name.start ∷ (places (line_part l) ++ file_places ls)

-- each greater than the one before it, the first not below `least`
unfoldable pub RisingFrom : (least : ℕ) → List ℕ → Type 0
RisingFrom n [] = Unit {0}
RisingFrom n (p ∷ ps) = (n ≤ p) × RisingFrom (suc p) ps

abbrev pub Rising : List ℕ → Type 0
Rising = RisingFrom 0

-- ---- in a source of so many bytes

abbrev pub InSource : (size : ℕ) → Span → Type 0
InSource n s = s.start.0 + s.len ≤ n

abbrev pub ExprLies : (size : ℕ) → ExprRecord → Type 0
ExprLies n r = (r.start.0 ≤ n) × InSource n r.span

-- a name's start and length
abbrev pub TypeLies : (size : ℕ) → TypeRecord → Type 0
TypeLies n r = r.kind.0 ≡ kind.number kind.name → r.left + r.right ≤ n

abbrev pub LineLies : (size : ℕ) → LineRecord → Type 0
LineLies n r = InSource n r.name

-- ---- the same with other places: g n for the place n

abbrev pub moved_token : (g : ℕ → ℕ) → Token → Token
moved_token g t = record { kind = t.kind; start = g t.start; text = t.text }

unfoldable mutual
  pub moved_expr : (g : ℕ → ℕ) → Expr → Expr
  moved_expr g (tree.nullary k at) = tree.nullary k (g at)
  moved_expr g (tree.unary k at e) = tree.unary k (g at) (moved_expr g e)
  moved_expr g (tree.binary k at l r) = tree.binary k (g at) (moved_expr g l) (moved_expr g r)
  moved_expr g (tree.assertl at e c) = tree.assertl (g at) (moved_expr g e) (moved_cmr g c)
  moved_expr g (tree.assertr at c e) = tree.assertr (g at) (moved_cmr g c) (moved_expr g e)
  moved_expr g (tree.hole x) = tree.hole (moved_token g x)
  moved_expr g (tree.const l) = tree.const (moved_token g l)
  moved_expr g (tree.fail at l) = tree.fail (g at) (moved_token g l)
  moved_expr g (tree.jet t) = tree.jet (moved_token g t)
  moved_expr g (tree.ref x) = tree.ref (moved_token g x)

  pub moved_cmr : (g : ℕ → ℕ) → Cmr → Cmr
  moved_cmr g (tree.inside e) = tree.inside (moved_expr g e)
  moved_cmr g (tree.literal t) = tree.literal (moved_token g t)

unfoldable pub moved_type : (g : ℕ → ℕ) → Ty → Ty
moved_type g tree.absent = tree.absent
moved_type g tree.one = tree.one
moved_type g tree.two = tree.two
moved_type g (tree.name x) = tree.name (moved_token g x)
moved_type g (tree.power n) = tree.power n
moved_type g (tree.op o l r) = tree.op o (moved_type g l) (moved_type g r)

abbrev pub moved_arrow : (g : ℕ → ℕ) → Arrow → Arrow
moved_arrow g a = record { source = moved_type g a.source; target = moved_type g a.target }

abbrev pub moved_line : (g : ℕ → ℕ) → Line → Line
moved_line g l =
    record {
      name = moved_token g l.name;
      expression = Option.map (moved_expr g) l.expression;
      arrow = Option.map (moved_arrow g) l.arrow;
    }

-- what a rule answers
abbrev pub moved_answer : {A : Type 0} → (g : ℕ → ℕ) → (A → A) → Parsed A → Parsed A
moved_answer g f (got a left) = got (f a) (map (moved_token g) left)
moved_answer g f (stop x left) = stop x (map (moved_token g) left)

-- ---- alike: the same but for places

-- as many tokens, of the same kinds and texts
abbrev pub Alike : List Token → List Token → Type 0
Alike [] [] = Unit {0}
Alike [] (u ∷ us) = ⊥
Alike (t ∷ ts) [] = ⊥
Alike (t ∷ ts) (u ∷ us) = (t.kind ≡ u.kind) × (t.text ≡ u.text) × Alike ts us

-- the same lines, with every place at 0
abbrev pub LinesAlike : List Line → List Line → Type 0
LinesAlike ls ms = map (moved_line (λ n. 0)) ls ≡ map (moved_line (λ n. 0)) ms

-- both are read, to the same lines; or both are refused, with one fault and as many tokens left
pub data AnswersAlike : Parsed (List Line) → Parsed (List Line) → Type 0 where
  read : {ls ms : List Line} {ts us : List Token} → LinesAlike ls ms → length ts ≡ length us → AnswersAlike (got ls ts) (got ms us)
  refused : {x : Fault} {ts us : List Token} → length ts ≡ length us → AnswersAlike (stop x ts) (stop x us)
