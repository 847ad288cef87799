-- What a rule takes of the tokens: at least one, and at least as many as there are records of what it gives. So lines,
-- expressions and types are each no more than the tokens passed. A rule that stops has taken some of the tokens, too.
-- Assumes nothing.
use Rattle.std.specs.Prelude.{if◌then◌else◌}
use Prim.Native.Nat.{ℕ, zero, suc, ◌+◌, ◌≤◌, ◌<◌}
use mathlib.Core.Bool.{Bool, true, false}
use mathlib.Core.Path.{◌≡◌, refl, ap}
use mathlib.Core.List.{List, [], ◌∷◌, ◌++◌}
use native.Mathlib.Omega.{arith}
use lib.ListN.{length, length-append}
use Rattle.records.specs.declared.TypeRecord.{TypeRecord}
use Rattle.lex.specs.Tokens.{Token}
use Rattle.checks.specs.declared.Fault.{Fault}
use Rattle.checks.specs.Checks.{Checks}
use Rattle.grammar.specs.Tree as tree
use Rattle.grammar.specs.Tree.{Expr, Cmr, Ty, present, Arrow, Line}
use Rattle.grammar.specs.Rule.{got, stop, Rule}
use Rattle.grammar.specs.Grammar as grammar
use Rattle.grammar.specs.Grammar.{TypeHead, power_of, Head, type_head, atom, type, arrow, head, cmr, expr, line, lines}
use Rattle.grammar.specs.Part as part
use Rattle.grammar.specs.Part.{Part, part_of, cmr_part, weight}
use Rattle.grammar.specs.Recorded.{type_weight, exprs_of, types_in_line, expr_records, type_records, line_records, line_types, lines_exprs, lines_types}
use Rattle.grammar.specs.Derives as is
use Rattle.grammar.specs.Derives.{IsType, IsAtom, IsExpr, IsCmr, IsArrow, IsLine, IsFile}
use Rattle.grammar.proofs.Obeys.{Obeys, Split, obeys_took, obeys_split}
use Rattle.grammar.proofs.Sound.{AtomBegins, whole, group, Begins, leaf, parens, unary, binary, assertl, assertr, type_head_obeys, atom_obeys, type_obeys, arrow_obeys, head_obeys, cmr_obeys, expr_obeys, line_obeys, lines_obeys, lines_end}

-- ---- weights

abbrev pub arrow_weight : Arrow → ℕ
arrow_weight a = type_weight a.source + type_weight a.target

-- a head that is whole has the weight of what it is
abbrev pub head_weight : Head → ℕ
head_weight (grammar.leaf e) = weight (part_of e)
head_weight grammar.parens = 0
head_weight (grammar.unary k at) = 0
head_weight (grammar.binary k at) = 0
head_weight (grammar.assertl at) = 0
head_weight (grammar.assertr at) = 0

abbrev pub type_head_weight : TypeHead → ℕ
type_head_weight (grammar.whole x) = type_weight x
type_head_weight grammar.group = 0

-- so many in all lines
unfoldable pub total : (Line → ℕ) → List Line → ℕ
total w [] = 0
total w (l ∷ ls) = w l + total w ls

-- so many tokens, at least one
abbrev Holds : (w : ℕ) → List Token → Type 0
Holds w us = (w ≤ length us) × (0 < length us)

at_most_one : (b : Bool) → (if b then 1 else 0) ≤ 1
at_most_one true = omega arith
at_most_one false = omega arith

power_weight : (n : ℕ) → type_weight (power_of n) ≡ 1
unfolding type_weight
power_weight zero = refl
power_weight (suc n) = refl

module _ (checks : Checks) where
  -- by depth, d being that of the parts
  module _ (d : ℕ) (h : (us : List Token) (x : Ty) → IsType checks d us x → Holds (type_weight x) us) where
    atom_by_law : {us : List Token} {x : Ty} → IsAtom checks d us x → Holds (type_weight x) us
    unfolding type_weight
    atom_by_law (is.one t i) = omega arith
    atom_by_law (is.two t i) = omega arith
    atom_by_law (is.power t n i e) = omega (arith, power_weight n)
    atom_by_law (is.name t i) = omega arith
    atom_by_law (is.absent t i) = omega arith
    atom_by_law (is.group t u i k j) = let a = h _ _ k in simp length-append (omega arith)

    type_by : {us : List Token} {x : Ty} → IsType checks (suc d) us x → Holds (type_weight x) us
    unfolding type_weight
    type_by (is.atom k) = atom_by_law k
    type_by (is.op {l = l} {r} o t k i m) =
        let a = type_by k in
        let b = atom_by_law m in
        let c = at_most_one (present (tree.op o l r)) in
        simp length-append (omega arith)

  type_holds : (d : ℕ) {us : List Token} {x : Ty} → IsType checks d us x → Holds (type_weight x) us
  type_holds (suc d) k = type_by d (λ us x. type_holds d) k
  type_holds zero {us = us} k = elim k [ ]

  arrow_holds : {us : List Token} {a : Arrow} → IsArrow checks us a → Holds (arrow_weight a) us
  arrow_holds (is.arrow t h i k) =
      let a = type_holds _ h in
      let b = type_holds _ k in
      simp length-append (omega arith)

  module _ (d : ℕ) (h : (us : List Token) (e : Expr) → IsExpr checks d us e → Holds (weight (part_of e)) us) where
    cmr_by_law : {us : List Token} {c : Cmr} → IsCmr checks d us c → Holds (weight (cmr_part c)) us
    unfolding part_of weight
    cmr_by_law (is.inside t u i k j) = let a = h _ _ k in simp length-append (omega arith)
    cmr_by_law (is.literal t i) = omega arith

    expr_by_law : {us : List Token} {e : Expr} → IsExpr checks (suc d) us e → Holds (weight (part_of e)) us
    unfolding part_of weight
    expr_by_law (is.hole t x i n) = omega arith
    expr_by_law (is.const t l i o e) = omega arith
    expr_by_law (is.fail t l i o e) = omega arith
    expr_by_law (is.jet t i e) = omega arith
    expr_by_law (is.ref x n) = omega arith
    expr_by_law (is.nullary k t i) = omega arith
    expr_by_law (is.parens t u i k j) = let a = h _ _ k in simp length-append (omega arith)
    expr_by_law (is.unary k t i m) = let a = h _ _ m in omega arith
    expr_by_law (is.binary k t i m n) = let a = h _ _ m in let b = h _ _ n in simp length-append (omega arith)
    expr_by_law (is.assertl t i m n) = let a = h _ _ m in let b = cmr_by_law n in simp length-append (omega arith)
    expr_by_law (is.assertr t i m n) = let a = cmr_by_law m in let b = h _ _ n in simp length-append (omega arith)

  expr_holds : (d : ℕ) {us : List Token} {e : Expr} → IsExpr checks d us e → Holds (weight (part_of e)) us
  expr_holds (suc d) k = expr_by_law d (λ us e. expr_holds d) k
  expr_holds zero {us = us} {e = e} k = elim k [ ]

  line_holds : {us : List Token} {l : Line} → IsLine checks us l → Holds (exprs_of l) us × Holds (types_in_line l) us
  unfolding type_weight weight
  line_holds (is.plain x t n i h) = let a = expr_holds _ h in omega arith
  line_holds (is.typed x t u n i h j k) = let a = expr_holds _ h in let b = arrow_holds k in simp length-append (omega arith)
  line_holds (is.declared x t n i k) = let b = arrow_holds k in omega arith

  file_holds : {us : List Token} {ls : List Line} → IsFile checks us ls → (length ls ≤ length us) × (total exprs_of ls ≤ length us) × (total types_in_line ls ≤ length us)
  unfolding total
  file_holds is.end = omega arith
  file_holds (is.more h f) = let a = line_holds h in let b = file_holds f in simp length-append (omega arith)

  head_holds : (h : Head) (us : List Token) → Begins checks h us → Holds (head_weight h) us
  head_holds h us (leaf w) = expr_holds _ (w 0)
  head_holds h us (parens i) = omega arith
  head_holds h us (unary i) = omega arith
  head_holds h us (binary i) = omega arith
  head_holds h us (assertl i) = omega arith
  head_holds h us (assertr i) = omega arith

  type_head_holds : (h : TypeHead) (us : List Token) → AtomBegins checks h us → Holds (type_head_weight h) us
  type_head_holds h us (whole w) = atom_by_law 0 (λ us x. type_holds 0) (w 0)
  type_head_holds h us (group i) = omega arith

-- ---- what is taken

-- some tokens of ts were taken, at least one and at least w of them
pub record Took (w : ℕ) (ts rest : List Token) : Type 0 where
  pub used : List Token
  pub split : ts ≡ used ++ rest
  pub most : w ≤ length used
  pub some : 0 < length used

took : {A : Type 0} {p : Rule A} {G : A → List Token → Type 0} (w : A → ℕ) → Obeys p G → ((a : A) (us : List Token) → G a us → Holds (w a) us) → (ts rest : List Token) (a : A) → p ts ≡ got a rest → Took (w a) ts rest
took w h k ts rest a e =
    let t = obeys_took h ts rest a e in
    let m = k a t.used t.of in
    record { used = t.used; split = t.split; most = m.0; some = m.1 }

-- a line: at least as many tokens as it has records of expressions, and as it has records of types
pub record TookLine (l : Line) (ts rest : List Token) : Type 0 where
  pub used : List Token
  pub split : ts ≡ used ++ rest
  pub exprs : exprs_of l ≤ length used
  pub types : types_in_line l ≤ length used
  pub some : 0 < length used

-- all lines: no token is left, and there are at least as many as there are records of each table
pub record TookLines (ls : List Line) (ts rest : List Token) : Type 0 where
  pub none : rest ≡ []
  pub lines : length ls ≤ length ts
  pub exprs : total exprs_of ls ≤ length ts
  pub types : total types_in_line ls ≤ length ts

module _ (checks : Checks) where
  pub type_head_takes : (ts rest : List Token) (h : TypeHead) → type_head checks ts ≡ got h rest → Took (type_head_weight h) ts rest
  type_head_takes = took type_head_weight (type_head_obeys checks) (type_head_holds checks)

  pub type_takes : (d : ℕ) (ts rest : List Token) (x : Ty) → type checks d ts ≡ got x rest → Took (type_weight x) ts rest
  type_takes d = took type_weight (type_obeys checks d) (λ x us. type_holds checks d)

  pub atom_takes : (d : ℕ) (ts rest : List Token) (x : Ty) → atom checks (type checks d) ts ≡ got x rest → Took (type_weight x) ts rest
  atom_takes d = took type_weight (atom_obeys checks d (type checks d) (type_obeys checks d)) (λ x us. atom_by_law checks d (λ us x. type_holds checks d))

  pub arrow_takes : (ts rest : List Token) (a : Arrow) → arrow checks ts ≡ got a rest → Took (arrow_weight a) ts rest
  arrow_takes = took arrow_weight (arrow_obeys checks) (λ a us. arrow_holds checks)

  pub head_takes : (ts rest : List Token) (h : Head) → head checks ts ≡ got h rest → Took (head_weight h) ts rest
  head_takes = took head_weight (head_obeys checks) (head_holds checks)

  pub expr_takes : (d : ℕ) (ts rest : List Token) (e : Expr) → expr checks d ts ≡ got e rest → Took (weight (part_of e)) ts rest
  expr_takes d = took (λ e. weight (part_of e)) (expr_obeys checks d) (λ e us. expr_holds checks d)

  pub cmr_takes : (d : ℕ) (ts rest : List Token) (c : Cmr) → cmr checks (expr checks d) ts ≡ got c rest → Took (weight (cmr_part c)) ts rest
  cmr_takes d = took (λ c. weight (cmr_part c)) (cmr_obeys checks d (expr checks d) (expr_obeys checks d)) (λ c us. cmr_by_law checks d (λ us e. expr_holds checks d))

  pub line_takes : (ts rest : List Token) (l : Line) → line checks ts ≡ got l rest → TookLine l ts rest
  line_takes ts rest l e =
      let t = obeys_took (line_obeys checks) ts rest l e in
      let m = line_holds checks t.of in
      record { used = t.used; split = t.split; exprs = m.0.0; types = m.1.0; some = m.0.1 }

  pub lines_take : (ts rest : List Token) (ls : List Line) → lines checks ts ≡ got ls rest → TookLines ls ts rest
  lines_take ts rest ls e =
      let t = obeys_took (lines_obeys checks) ts rest ls e in
      let m = file_holds checks t.of in
      let z = lines_end checks ts rest ls e in
      let l : length t.used ≤ length ts = omega (arith, simp length-append at (ap length t.split)) in
      record { none = z; lines = omega arith; exprs = omega arith; types = omega arith }

  -- ---- where a rule stops, some of the tokens were taken

  pub type_head_stops : (ts rest : List Token) (x : Fault) → type_head checks ts ≡ stop x rest → Split ts rest
  type_head_stops = obeys_split (type_head_obeys checks)

  pub type_stops : (d : ℕ) (ts rest : List Token) (x : Fault) → type checks d ts ≡ stop x rest → Split ts rest
  type_stops d = obeys_split (type_obeys checks d)

  pub atom_stops : (d : ℕ) (ts rest : List Token) (x : Fault) → atom checks (type checks d) ts ≡ stop x rest → Split ts rest
  atom_stops d = obeys_split (atom_obeys checks d (type checks d) (type_obeys checks d))

  pub arrow_stops : (ts rest : List Token) (x : Fault) → arrow checks ts ≡ stop x rest → Split ts rest
  arrow_stops = obeys_split (arrow_obeys checks)

  pub head_stops : (ts rest : List Token) (x : Fault) → head checks ts ≡ stop x rest → Split ts rest
  head_stops = obeys_split (head_obeys checks)

  pub expr_stops : (d : ℕ) (ts rest : List Token) (x : Fault) → expr checks d ts ≡ stop x rest → Split ts rest
  expr_stops d = obeys_split (expr_obeys checks d)

  pub cmr_stops : (d : ℕ) (ts rest : List Token) (x : Fault) → cmr checks (expr checks d) ts ≡ stop x rest → Split ts rest
  cmr_stops d = obeys_split (cmr_obeys checks d (expr checks d) (expr_obeys checks d))

  pub line_stops : (ts rest : List Token) (x : Fault) → line checks ts ≡ stop x rest → Split ts rest
  line_stops = obeys_split (line_obeys checks)

  pub lines_stop : (ts rest : List Token) (x : Fault) → lines checks ts ≡ stop x rest → Split ts rest
  lines_stop = obeys_split (lines_obeys checks)

-- ---- so many records

pub expr_records_law : (p : Part) (m : ℕ) → length (expr_records p m) ≡ weight p
unfolding expr_records weight
expr_records_law part.none m = refl
expr_records_law (part.part k at s l r) m = simp (length-append, expr_records_law l, expr_records_law r) (omega arith)
expr_records_law (part.refer x) m = refl

pub type_records_law : (x : Ty) (m : ℕ) → length (type_records x m) ≡ type_weight x
unfolding type_records type_weight
type_records_law tree.absent m = refl
type_records_law tree.one m = refl
type_records_law tree.two m = refl
type_records_law (tree.name x) m = refl
type_records_law (tree.power n) m = refl
type_records_law (tree.op o l r) m = simp (length-append, type_records_law l, type_records_law r, if_length) (omega arith)
  where
    if_length : (b : Bool) (x : TypeRecord) → length (if b then x ∷ [] else []) ≡ (if b then 1 else 0)
    if_length true x = refl
    if_length false x = refl

pub line_records_law : (ls : List Line) (e t : ℕ) → length (line_records ls e t) ≡ length ls
unfolding line_records
line_records_law [] e t = refl
line_records_law (l ∷ ls) e t = ap suc (line_records_law ls (e + exprs_of l) (t + types_in_line l))

pub lines_exprs_law : (ls : List Line) (e : ℕ) → length (lines_exprs ls e) ≡ total exprs_of ls
unfolding lines_exprs total
lines_exprs_law [] e = refl
lines_exprs_law (l ∷ ls) e = simp (length-append, expr_records_law, lines_exprs_law ls)

pub lines_types_law : (ls : List Line) (t : ℕ) → length (lines_types ls t) ≡ total types_in_line ls
unfolding lines_types line_types total
lines_types_law [] t = refl
lines_types_law (l ∷ ls) t = simp (length-append, type_records_law, lines_types_law ls)

-- no table has more records than there are tokens
pub records_fit : (checks : Checks) (ts rest : List Token) (ls : List Line) → lines checks ts ≡ got ls rest → (length (line_records ls 0 0) ≤ length ts) × (length (lines_exprs ls 0) ≤ length ts) × (length (lines_types ls 0) ≤ length ts)
records_fit checks ts rest ls e =
    let t = lines_take checks ts rest ls e in
    (omega (arith, line_records_law ls 0 0), omega (arith, lines_exprs_law ls 0), omega (arith, lines_types_law ls 0))
