-- What the nodes and the errors of lines weigh together: no more than the names and the expressions of the lines do. Each name has a
-- line of its own, its first expression is of one line, and a line that is wrong gives no name. With the weight 1 of each, there are
-- as many nodes as parts of first expressions and incomplete names, and these are no more than the lines and the records of
-- expressions.
use Rattle.std.specs.Prelude.{if◌then◌else◌}
use Prim.Native.Nat.{ℕ, zero, suc, ◌+◌, ◌≤◌}
use mathlib.Core.Path.{◌≡◌, refl, sym, ap, subst, ◌∙◌}
use mathlib.Core.Bool.{Bool, true, false}
use mathlib.Core.Logic.{inl, inr}
use mathlib.Core.List.{List, [], ◌∷◌, ◌++◌, map, append_assoc, append-nil}
use mathlib.Core.Option
use mathlib.Core.Option.{Option, none as no, some}
use native.Mathlib.Omega.{arith}
use lib.ListN.{length}
use Rattle.records.specs.NodeKind.{PartKind}
use Rattle.records.specs.ErrorKind as error
use Rattle.records.specs.declared.Span.{Span}
use Rattle.lex.specs.Tokens.{Token}
use Rattle.checks.specs.Jets.{same}
use Rattle.grammar.specs.Tree.{Expr, Line}
use Rattle.grammar.specs.Part as part
use Rattle.grammar.specs.Part.{Part, part_of, part_if, weight, span_of}
use Rattle.grammar.specs.Recorded.{line_part, exprs_of, lines_exprs}
use Rattle.grammar.proofs.Takes.{total as line_total, lines_exprs_law}
use Rattle.symbols.specs.Symbols.{Text, illegal, texts}
use Rattle.names.specs.Names.{enter, Placed, placed, or_else, names_of, first_from, first_expression, Error, repeated, line_errors, errors_from, errors_of}
use Rattle.names.specs.Uses.{In}
use Rattle.names.proofs.Lists.{Once}
use Rattle.checks.proofs.Jets.{same_equal}
use Rattle.names.proofs.Laws.{same_false, Entering, refused, new, known, entering, in_names, once_names}
use Rattle.names.proofs.OneMore.{names_snoc, first_snoc, first_none, errors_snoc, errors_none}
use Rattle.walk.specs.Walk as walk
use Rattle.walk.specs.Walk.{Tree, Node}
use Rattle.walk.specs.Trees.{head, record_no, tree_of_part, outermost, tree_by, tree_of}
use Rattle.walk.specs.Nodes.{walked, nodes_of}
use Rattle.walk.specs.Stands.{parts_for, sum, parts_of}
use Rattle.walk.proofs.Count.{Weighs, nodes_weigh, one_each, sum_one, sum_append, total, total_none, total_more}
use Rattle.walk.proofs.Numbered.{not_there}
use Rattle.walk.proofs.Referring.{tree_at}
use Rattle.walk.specs.Machine.{size}

-- ---- the parts of the trees are those of the expressions

-- a part weighs what it does in an expression, whatever its place and its name number are
pub record Agrees (t : Tree → ℕ) (f : Part → ℕ) : Type 0 where
  pub absent : t walk.none ≡ f part.none
  pub own : (k : PartKind) (at a n : ℕ) (s : Span) (l r : Part) (u v : Tree) → t u ≡ f l → t v ≡ f r → t (walk.part (walk.of k) (head a n s) u v) ≡ f (part.part k at s l r)
  pub used : (a n m : ℕ) (x : Token) → t (walk.refer (head a n (span_of x)) m) ≡ f (part.refer x)

module _ (t : Tree → ℕ) (f : Part → ℕ) (w : Agrees t f) (ns : List Token) where
  numbered_weighs : (p : Part) → t (tree_of_part ns p) ≡ f p
  unfolding tree_of_part
  numbered_weighs part.none = w.absent
  numbered_weighs (part.part k at s l r) = w.own k at at 0 s l r (tree_of_part ns l) (tree_of_part ns r) (numbered_weighs l) (numbered_weighs r)
  numbered_weighs (part.refer x) = w.used _ 0 _ x

  outermost_weighs : (n : ℕ) (x : Token) (p : Part) → t (outermost n x (tree_of_part ns p)) ≡ f p
  unfolding tree_of_part outermost
  outermost_weighs n x part.none = w.absent
  outermost_weighs n x (part.part k at s l r) = w.own k at x.start n s l r (tree_of_part ns l) (tree_of_part ns r) (numbered_weighs l) (numbered_weighs r)
  outermost_weighs n x (part.refer y) = w.used x.start n _ y

-- ---- sums

pub sum_le : {A : Type 0} (f g : A → ℕ) → ((x : A) → f x ≤ g x) → (xs : List A) → sum (map f xs) ≤ sum (map g xs)
unfolding sum
sum_le f g h [] = omega arith
sum_le f g h (x ∷ xs) = omega (arith, h x, sum_le f g h xs)

pub sum_same : {A : Type 0} (f g : A → ℕ) → ((x : A) → f x ≡ g x) → (xs : List A) → sum (map f xs) ≡ sum (map g xs)
unfolding sum
sum_same f g h [] = refl
sum_same f g h (x ∷ xs) = omega (arith, h x, sum_same f g h xs)

total_first : (f : ℕ → ℕ) (n : ℕ) → total f (suc n) ≡ f 1 + total (λ m. f (suc m)) n
total_first f zero = omega (arith, total_more f 0, total_none f, total_none (λ m. f (suc m)))
total_first f (suc n) = omega (arith, total_more f (suc n), total_first f n, total_more (λ m. f (suc m)) n)

pub total_list : {A : Type 0} (g : A → ℕ) (xs : List A) (f : ℕ → ℕ) → ((n : ℕ) (x : A) → record_no xs n ≡ some x → f n ≡ g x) → total f (length xs) ≡ sum (map g xs)
unfolding sum record_no
total_list g [] f h = total_none f
total_list {A} g (x ∷ xs) f h = omega (arith, total_first f (length xs), h 1 x refl, total_list g xs (λ m. f (suc m)) later)
  where
    later : (n : ℕ) (y : A) → record_no xs n ≡ some y → f (suc n) ≡ g y
    later zero y e = absurd (not_there y e)
    later (suc n) y e = h (suc (suc n)) y e

-- THE NODES WEIGH WHAT THE NAMES DO, each name what its tree does
pub named_nodes_weigh : (ls : List Line) (g : Node → ℕ) (t : Tree → ℕ) (h : Token → ℕ) → Weighs g t
    → ((n : ℕ) (x : Token) → record_no (names_of ls) n ≡ some x → t (tree_by (names_of ls) n x (first_expression ls x.text)) ≡ h x) → sum (map g (nodes_of ls)) ≡ sum (map h (names_of ls))
unfolding walked
named_nodes_weigh ls g t h w e =
    let ns : List Token = names_of ls in
    nodes_weigh (tree_of ls ns) (length ns) g t w ∙ total_list h ns (λ n. t (tree_of ls ns n)) (λ n x i. ap t (tree_at ls ns n x i) ∙ e n x i)

-- what a name weighs: f of its first expression, or o of the name if it has none
abbrev pub first_or : (o : Token → ℕ) → (f : Part → ℕ) → Token → Option Expr → ℕ
first_or o f x no = o x
first_or o f x (some e) = f (part_of e)

pub nodes_weigh_firsts : (ls : List Line) (g : Node → ℕ) (t : Tree → ℕ) (f : Part → ℕ) (o : Token → ℕ) → Weighs g t → Agrees t f
    → ((n : ℕ) (x : Token) → t (walk.part walk.noexpr (head x.start n (span_of x)) walk.none walk.none) ≡ o x)
    → sum (map g (nodes_of ls)) ≡ sum (map (λ (x : Token). first_or o f x (first_expression ls x.text)) (names_of ls))
nodes_weigh_firsts ls g t f o w a i =
    named_nodes_weigh ls g t (λ (x : Token). first_or o f x (first_expression ls x.text)) w (λ n x _. by n x (first_expression ls x.text))
  where
    by : (n : ℕ) (x : Token) (e : Option Expr) → t (tree_by (names_of ls) n x e) ≡ first_or o f x e
    by n x no = unfold tree_by in i n x
    by n x (some e) = unfold tree_by in outermost_weighs t f a (names_of ls) n x (part_of e)

-- AS MANY NODES AS PARTS
pub nodes_are_parts : (ls : List Line) → length (nodes_of ls) ≡ parts_of ls
unfolding parts_of
nodes_are_parts ls = sym (sum_one (nodes_of ls)) ∙ nodes_weigh_firsts ls (λ _. 1) size weight (λ _. 1) one_each one_part one_name ∙ sum_same _ _ (λ x. by x (first_expression ls x.text)) (names_of ls)
  where
    one_part : Agrees size weight
    one_part = unfold size weight in record { absent = refl; own = λ k at a n s l r u v e d. omega arith; used = λ a n m x. refl }

    one_name : (n : ℕ) (x : Token) → size (walk.part walk.noexpr (head x.start n (span_of x)) walk.none walk.none) ≡ 1
    one_name n x = unfold size in refl

    by : (x : Token) (o : Option Expr) → first_or (λ _. 1) weight x o ≡ parts_for o
    by x no = refl
    by x (some e) = refl

-- ---- lines pay for their errors and for their names

-- what is bounded by two, for each of a list
sum_two : {A : Type 0} (f a b : A → ℕ) → ((x : A) → f x ≤ a x + b x) → (xs : List A) → sum (map f xs) ≤ sum (map a xs) + sum (map b xs)
unfolding sum
sum_two f a b h [] = omega arith
sum_two f a b h (x ∷ xs) = omega (arith, h x, sum_two f a b h xs)

sum_texts : (g : Text → ℕ) (ns : List Token) → sum (map (λ (x : Token). g x.text) ns) ≡ sum (map g (texts ns))
unfolding sum
sum_texts g [] = refl
sum_texts g (n ∷ ns) = ap (λ (k : ℕ). g n.text + k) (sum_texts g ns)

-- c at the text y, among texts of which none stands twice
abbrev only : Text → ℕ → Text → ℕ
only y c x = if same y x then c else 0

only_none : (y : Text) (c : ℕ) (xs : List Text) → (In y xs → ⊥) → sum (map (only y c) xs) ≡ 0
unfolding sum
only_none y c [] d = refl
only_none y c (x ∷ xs) d = rw (same_false y x (λ e. d (inl (sym e)))) (omega (arith, only_none y c xs (λ i. d (inr i))))

only_once : (y : Text) (c : ℕ) (xs : List Text) → Once Text xs → sum (map (only y c) xs) ≤ c
unfolding sum
only_once y c [] o = omega arith
only_once y c (x ∷ xs) o = go (same y x) refl (only_once y c xs o.1)
  where
    go : (b : Bool) → same y x ≡ b → sum (map (only y c) xs) ≤ c → (if b then c else 0) + sum (map (only y c) xs) ≤ c
    go true e ih = omega (arith, only_none y c xs (λ i. o.0 (subst (λ (z : Text). In z xs) (same_equal y x e) i)))
    go false e ih = omega (arith, ih)

-- v weighs names and f expressions
module _ (v : Span → ℕ) (f : Part → ℕ) (z : f part.none ≡ 0) where
  -- a line pays for its name and for its expression
  abbrev pub pays : Line → ℕ
  pays l = v (span_of l.name) + f (line_part l)

  -- a name costs its own weight and that of its first expression
  abbrev pub costs : List Line → Token → ℕ
  costs ls x = v (span_of x) + f (part_if (first_expression ls x.text))

  abbrev pub errors_cost : List Error → ℕ
  errors_cost es = sum (map (λ (e : Error). v e.name) es)

  abbrev names_cost : List Line → List Token → ℕ
  names_cost ls ns = sum (map (costs ls) ns)

  -- one line more adds its own expression, to one name at most
  first_more : (ls : List Line) (l : Line) (x : Text)
      → f (part_if (first_expression (ls ++ (l ∷ [])) x)) ≤ f (part_if (first_expression ls x)) + only l.name.text (f (line_part l)) x
  unfolding first_expression
  first_more ls l x = rw (first_snoc 0 ls l x) (go (same l.name.text x) (first_from 0 ls x) l.expression)
    where
      go : (b : Bool) (p : Option Placed) (o : Option Expr)
          → f (part_if (Option.map (λ (q : Placed). q.expression) (or_else p (if b then placed (0 + line_total exprs_of ls) o else no))))
          ≤ f (part_if (Option.map (λ (q : Placed). q.expression) p)) + (if b then f (part_if o) else 0)
      go b (some p) o = omega arith
      go true no no = omega arith
      go true no (some e) = omega arith
      go false no o = omega arith

  names_more : (ls : List Line) (l : Line) (ns : List Token) → Once Text (texts ns) → names_cost (ls ++ (l ∷ [])) ns ≤ names_cost ls ns + f (line_part l)
  names_more ls l ns o =
      let new : Text → ℕ = only l.name.text (f (line_part l)) in
      omega (
        arith,
        sum_two (costs (ls ++ (l ∷ []))) (costs ls) (λ (x : Token). new x.text) (λ x. omega (arith, first_more ls l x.text)) ns,
        sum_texts new ns,
        only_once l.name.text (f (line_part l)) (texts ns) o,
      )

  -- an error costs no more than its line's name
  error_pays : (ls : List Line) (l : Line) → errors_cost (line_errors ls l) ≤ v (span_of l.name)
  unfolding line_errors sum
  error_pays ls l = go (illegal l.name.text) (first_expression ls l.name.text) l.expression
    where
      go : (b : Bool) (d e : Option Expr)
          → errors_cost (if b then record { kind = error.illegal; start = l.name.start; name = span_of l.name } ∷ [] else repeated d e l.name) ≤ v (span_of l.name)
      go true d e = omega arith
      go false no e = omega arith
      go false (some d) no = omega arith
      go false (some d) (some e) = omega arith

  -- a line that is wrong gives no name, and a name that is new has no expression yet
  name_pays : (ls : List Line) (l : Line) (ns : List Token) → Entering (names_of ls) l ns → errors_cost (line_errors ls l) + names_cost ls ns ≤ v (span_of l.name) + names_cost ls (names_of ls)
  unfolding first_expression sum
  name_pays ls l ns (refused e) = omega (arith, error_pays ls l)
  name_pays ls l ns (known e d i) = omega (arith, error_pays ls l)
  name_pays ls l ns (new e d unseen) =
      let first : first_from 0 ls l.name.text ≡ no = first_none 0 ls l.name.text (λ i. unseen (in_names ls l.name.text (e, i))) in
      let none : errors_cost (line_errors ls l) ≡ 0 = ap errors_cost (errors_none ls l e first) in
      let cost : f (part_if (first_expression ls l.name.text)) ≡ 0 = ap (λ (p : Option Placed). f (part_if (Option.map (λ (q : Placed). q.expression) p))) first ∙ z in
      omega (arith, none, cost, sum_append (costs ls) (names_of ls) (l.name ∷ []))

  -- what the errors and the names of lines cost
  abbrev pub cost : List Line → ℕ
  cost ls = errors_cost (errors_of ls) + names_cost ls (names_of ls)

  cost_more : (ls : List Line) (l : Line) → cost (ls ++ (l ∷ [])) ≤ cost ls + pays l
  cost_more ls l =
      omega (
        arith,
        ap errors_cost (errors_snoc ls l),
        sum_append (λ (e : Error). v e.name) (errors_of ls) (line_errors ls l),
        names_more ls l (names_of (ls ++ (l ∷ []))) (once_names (ls ++ (l ∷ []))),
        ap (names_cost ls) (names_snoc ls l),
        name_pays ls l (enter (names_of ls) l) (entering (names_of ls) l),
      )

  cost_from : (done rest : List Line) → cost (done ++ rest) ≤ cost done + line_total pays rest
  unfolding line_total
  cost_from done [] = omega (arith, ap cost (append-nil done))
  cost_from done (l ∷ rest) = omega (arith, ap cost (sym (append_assoc done (l ∷ []) rest)), cost_from (done ++ (l ∷ [])) rest, cost_more done l)

  -- LINES PAY FOR THEIR ERRORS AND FOR THEIR NAMES
  pub lines_pay : (ls : List Line) → cost ls ≤ line_total pays ls
  unfolding names_of errors_from sum
  lines_pay ls = omega (arith, cost_from [] ls)

-- ---- how many parts there are: each weighs 1

pays_one : (ls : List Line) → line_total (λ (l : Line). 1 + exprs_of l) ls ≡ length ls + line_total exprs_of ls
unfolding line_total
pays_one [] = refl
pays_one (l ∷ ls) = omega (arith, pays_one ls)

-- NO MORE ERRORS OF LINES AND PARTS THAN LINES AND RECORDS OF EXPRESSIONS
pub errors_and_parts : (ls : List Line) → length (errors_of ls) + parts_of ls ≤ length ls + length (lines_exprs ls 0)
unfolding parts_of weight
errors_and_parts ls =
    omega (
      arith,
      lines_pay (λ _. 1) weight refl ls,
      sum_one (errors_of ls),
      sum_le (λ (x : Token). parts_for (first_expression ls x.text)) (costs (λ _. 1) weight refl ls) (λ x. parts_one (first_expression ls x.text)) (names_of ls),
      pays_one ls,
      lines_exprs_law ls 0,
    )
  where
    parts_one : (o : Option Expr) → parts_for o ≤ 1 + weight (part_if o)
    parts_one no = omega arith
    parts_one (some e) = omega arith

pub parts_few : (ls : List Line) → parts_of ls ≤ length ls + length (lines_exprs ls 0)
parts_few ls = omega (arith, errors_and_parts ls)
