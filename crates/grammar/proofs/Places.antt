-- The places of a file that is read rise with its tokens, so each is another one; and each place and span of a record lies in
-- the source. Both follow from one relation: a part is made of tokens in order, its own, those of its left, those of its right,
-- and tokens that leave no trace. Assumes nothing.
use Rattle.std.specs.Prelude.{if◌then◌else◌}
use Prim.Native.Nat.{ℕ, zero, suc, ◌+◌, ◌≤◌, ◌<◌}
use mathlib.Core.Bool.{Bool, true, false}
use mathlib.Core.Path.{◌≡◌, refl, sym, ap}
use mathlib.Core.List.{List, [], ◌∷◌, ◌++◌, append-nil}
use native.Mathlib.Omega.{arith}
use lib.ListN.{length, get_or}
use Rattle.records.specs.NodeKind.{PartKind}
use Rattle.records.specs.Records.{no_span}
use Rattle.records.specs.declared.Span.{Span}
use Rattle.lex.specs.Tokens.{Token}
use Rattle.lex.specs.Tiles.{InOrder, Inside}
use Rattle.checks.specs.Checks.{Checks}
use Rattle.grammar.specs.Tree as tree
use Rattle.grammar.specs.Tree.{Expr, Cmr, Ty, present, Arrow, Line}
use Rattle.grammar.specs.Rule.{got}
use Rattle.grammar.specs.Grammar.{power_of, lines}
use Rattle.grammar.specs.Part as part
use Rattle.grammar.specs.Part.{Part, unary_kind, span_of, cmr_span, part_of, cmr_part, weight}
use Rattle.grammar.specs.Recorded.{expr_records, type_record, op_kind, type_weight, type_records, line_part, exprs_of, types_in_line, line_record, line_types, line_records, lines_exprs, lines_types}
use Rattle.grammar.specs.Derives as is
use Rattle.grammar.specs.Derives.{IsType, IsAtom, IsExpr, IsCmr, IsArrow, IsLine, IsFile}
use Rattle.grammar.specs.Places.{Each, places, file_places, RisingFrom, Rising, InSource, ExprLies, TypeLies, LineLies}
use Rattle.grammar.proofs.Records.{each_append, each_front, each_back, name_no_op}
use Rattle.grammar.proofs.Accepts.{lines_derived}

-- ---- what a part is made of

-- no span, or that of one of the tokens
pub data Spanned : List Token → Span → Type 0 where
  no : {us : List Token} → Spanned us no_span
  here : {t : Token} {us : List Token} → Spanned (t ∷ us) (span_of t)
  later : {t : Token} {us : List Token} {s : Span} → Spanned us s → Spanned (t ∷ us) s

pub data Made : List Token → Part → Type 0 where
  none : Made [] part.none
  refer : {x : Token} → Made (x ∷ []) (part.refer x)
  own : {ls rs : List Token} {k : PartKind} {s : Span} {l r : Part} (t : Token) → Spanned (t ∷ (ls ++ rs)) s → Made ls l → Made rs r → Made (t ∷ (ls ++ rs)) (part.part k t.start s l r)
  -- behind a token and before tokens that leave no trace
  behind : {us : List Token} {p : Part} (t : Token) → Made us p → Made (t ∷ us) p
  before : {us : List Token} {p : Part} (vs : List Token) → Made us p → Made (us ++ vs) p

-- a line is its name, and what its part is made of
pub data LineMade : List Token → Line → Type 0 where
  line : {us : List Token} {l : Line} → Made us (line_part l) → LineMade (l.name ∷ us) l

spanned_front : {us : List Token} {s : Span} (vs : List Token) → Spanned us s → Spanned (us ++ vs) s
spanned_front vs no = no
spanned_front vs here = here
spanned_front vs (later h) = later (spanned_front vs h)

spanned_back : (us : List Token) {vs : List Token} {s : Span} → Spanned vs s → Spanned (us ++ vs) s
spanned_back [] h = h
spanned_back (u ∷ us) h = later (spanned_back us h)

module _ (checks : Checks) where
  -- by depth, d being that of the parts
  module _ (d : ℕ) (h : (us : List Token) (e : Expr) → IsExpr checks d us e → Made us (part_of e)) where
    cmr_by_law : {us : List Token} {c : Cmr} → IsCmr checks d us c → Made us (cmr_part c) × Spanned us (cmr_span c)
    unfolding part_of
    cmr_by_law (is.inside t u i k j) = (behind t (before (u ∷ []) (h _ _ k)), no)
    cmr_by_law (is.literal t i) = (behind t none, here)

    expr_by_law : {us : List Token} {e : Expr} → IsExpr checks (suc d) us e → Made us (part_of e)
    unfolding part_of
    expr_by_law (is.hole t x i n) = behind t (own x here none none)
    expr_by_law (is.const t l i o e) = behind t (own l here none none)
    expr_by_law (is.fail t l i o e) = own t (later here) none (behind l none)
    expr_by_law (is.jet t i e) = own t here none none
    expr_by_law (is.ref x n) = refer
    expr_by_law (is.nullary k t i) = own t no none none
    expr_by_law (is.parens t u i k j) = behind t (before (u ∷ []) (h _ _ k))
    expr_by_law (is.unary k t i m) = rw append-nil at (own {k = unary_kind k} t no (h _ _ m) none)
    expr_by_law (is.binary k t i m n) = own t no (h _ _ m) (h _ _ n)
    expr_by_law (is.assertl {es = es} t i m n) = let c = cmr_by_law n in own t (later (spanned_back es c.1)) (h _ _ m) c.0
    expr_by_law (is.assertr {es = es} t i m n) = let c = cmr_by_law m in own t (later (spanned_front es c.1)) c.0 (h _ _ n)

  expr_made : (d : ℕ) {us : List Token} {e : Expr} → IsExpr checks d us e → Made us (part_of e)
  expr_made (suc d) k = expr_by_law d (λ us e. expr_made d) k
  expr_made zero {us = us} {e = e} k = elim k [ ]

  pub line_made : {us : List Token} {l : Line} → IsLine checks us l → LineMade us l
  line_made (is.plain x t n i k) = line (behind t (expr_made _ k))
  line_made (is.typed {xs = xs} x t u n i k j m) = line (behind t (before (u ∷ xs) (expr_made _ k)))
  line_made (is.declared {xs} x t n i m) = line (behind t (before xs none))

-- ---- places rise

-- the places are starts of tokens, in order
data Starts : List Token → List ℕ → Type 0 where
  end : Starts [] []
  take : {us : List Token} {ps : List ℕ} (t : Token) → Starts us ps → Starts (t ∷ us) (t.start ∷ ps)
  skip : {us : List Token} {ps : List ℕ} (t : Token) → Starts us ps → Starts (t ∷ us) ps

starts_none : (us : List Token) → Starts us []
starts_none [] = end
starts_none (u ∷ us) = skip u (starts_none us)

starts_append : {us vs : List Token} {ps qs : List ℕ} → Starts us ps → Starts vs qs → Starts (us ++ vs) (ps ++ qs)
starts_append end k = k
starts_append (take t h) k = take t (starts_append h k)
starts_append (skip t h) k = skip t (starts_append h k)

made_starts : {us : List Token} {p : Part} → Made us p → Starts us (places p)
unfolding places
made_starts none = end
made_starts (refer {x}) = take x end
made_starts (own t s h k) = take t (starts_append (made_starts h) (made_starts k))
made_starts (behind t h) = skip t (made_starts h)
made_starts (before vs h) = rw append-nil at (starts_append (made_starts h) (starts_none vs))

file_starts : (checks : Checks) {us : List Token} {ls : List Line} → IsFile checks us ls → Starts us (file_places ls)
unfolding file_places
file_starts checks is.end = end
file_starts checks (is.more {us = us} {ls = ls} k f) = go (line_made checks k) (file_starts checks f)
  where
    go : {ts : List Token} {l : Line} → LineMade ts l → Starts us (file_places ls) → Starts (ts ++ us) (file_places (l ∷ ls))
    go (line {l} h) k = take l.name (starts_append (made_starts h) k)

-- a start for each place
starts_few : {us : List Token} {ps : List ℕ} → Starts us ps → length ps ≤ length us
starts_few end = omega arith
starts_few (take t h) = omega (arith, starts_few h)
starts_few (skip t h) = omega (arith, starts_few h)

rising_lower : (m n : ℕ) (ps : List ℕ) → m ≤ n → RisingFrom n ps → RisingFrom m ps
unfolding RisingFrom
rising_lower m n [] h r = tt
rising_lower m n (p ∷ ps) h r = (omega (arith, r.0), r.1)

starts_rise : {us : List Token} {ps : List ℕ} → Starts us ps → (n : ℕ) → InOrder n us → RisingFrom n ps
unfolding RisingFrom
starts_rise end n i = tt
starts_rise (take {ps = ps} t h) n i = (i.0, rising_lower _ _ ps (omega (arith, i.1)) (starts_rise h _ i.2))
starts_rise (skip {ps = ps} t h) n i = rising_lower _ _ ps (omega (arith, i.0)) (starts_rise h _ i.2)

-- none is below n
rising_above : (n : ℕ) (ps : List ℕ) → RisingFrom n ps → (j : ℕ) → j < length ps → n ≤ get_or ps j 0
unfolding RisingFrom
rising_above n [] r j h = absurd (omega arith)
rising_above n (p ∷ ps) r zero h = r.0
rising_above n (p ∷ ps) r (suc j) h = omega (arith, r.0, rising_above (suc p) ps r.1 j (omega arith))

pub rising_differ : (n : ℕ) (ps : List ℕ) → RisingFrom n ps → (i j : ℕ) → i < length ps → j < length ps → get_or ps i 0 ≡ get_or ps j 0 → i ≡ j
unfolding RisingFrom
rising_differ n [] r i j h k e = absurd (omega arith)
rising_differ n (p ∷ ps) r zero zero h k e = refl
rising_differ n (p ∷ ps) r zero (suc j) h k e = absurd (omega (arith, rising_above (suc p) ps r.1 j (omega arith)))
rising_differ n (p ∷ ps) r (suc i) zero h k e = absurd (omega (arith, rising_above (suc p) ps r.1 i (omega arith)))
rising_differ n (p ∷ ps) r (suc i) (suc j) h k e = ap suc (rising_differ (suc p) ps r.1 i j (omega arith) (omega arith) e)

-- a file has no more lines and parts than tokens
pub places_few : (checks : Checks) (ts : List Token) (ls : List Line) (rest : List Token) → lines checks ts ≡ got ls rest → length (file_places ls) ≤ length ts
places_few checks ts ls rest e = starts_few (file_starts checks (lines_derived checks ts rest ls e).1)

module _ (checks : Checks) (ts : List Token) (ls : List Line) (rest : List Token) (o : InOrder 0 ts) (e : lines checks ts ≡ got ls rest) where
  pub places_rise : Rising (file_places ls)
  places_rise = starts_rise (file_starts checks (lines_derived checks ts rest ls e).1) 0 o

  pub places_differ : (i j : ℕ) → i < length (file_places ls) → j < length (file_places ls) → get_or (file_places ls) i 0 ≡ get_or (file_places ls) j 0 → i ≡ j
  places_differ = rising_differ 0 (file_places ls) places_rise

-- ---- spans lie in the source

-- the tokens lie in a source of n bytes
abbrev Lie : (n : ℕ) → List Token → Type 0
Lie n ts = Each (λ t. InSource n (span_of t)) ts

inside_lie : (source : List ℕ) (ts : List Token) → Inside source ts → Lie (length source) ts
inside_lie source [] h = tt
inside_lie source (t ∷ ts) h = (h.0, inside_lie source ts h.2)

module _ (n : ℕ) where
  front : (us vs : List Token) → Lie n (us ++ vs) → Lie n us
  front = each_front (λ t. InSource n (span_of t))

  back : (us vs : List Token) → Lie n (us ++ vs) → Lie n vs
  back = each_back (λ t. InSource n (span_of t))

  spanned_lies : {us : List Token} {s : Span} → Spanned us s → Lie n us → InSource n s
  spanned_lies no h = omega arith
  spanned_lies here h = h.0
  spanned_lies (later k) h = spanned_lies k h.1

  made_lies : {us : List Token} {p : Part} → Made us p → Lie n us → (m : ℕ) → Each (ExprLies n) (expr_records p m)
  unfolding expr_records
  made_lies none h m = tt
  made_lies refer h m = ((omega (arith, h.0), h.0), tt)
  made_lies (own {ls} {rs} {l = l} {r} t s a b) h m =
      let o = m + weight l in
      each_append (ExprLies n) (expr_records l m) _ (made_lies a (front ls rs h.1) m)
      (each_append (ExprLies n) (expr_records r o) _ (made_lies b (back ls rs h.1) o)
      ((omega (arith, h.0), spanned_lies s h), tt))
  made_lies (behind t k) h m = made_lies k h.1 m
  made_lies (before {us} vs k) h m = made_lies k (front us vs h) m

  line_lies : {us : List Token} {l : Line} → LineMade us l → Lie n us → ((e : ℕ) → Each (ExprLies n) (expr_records (line_part l) e)) × InSource n (span_of l.name)
  line_lies (line k) h = (made_lies k h.1, h.0)

  power_lies : (k m : ℕ) → Each (TypeLies n) (type_records (power_of k) m)
  unfolding type_records
  power_lies zero m = (λ e. absurd (omega arith), tt)
  power_lies (suc k) m = (λ e. absurd (omega arith), tt)

  module _ (checks : Checks) where
    -- by depth, d being that of the parts
    module _ (d : ℕ) (i : (us : List Token) (x : Ty) → IsType checks d us x → Lie n us → (m : ℕ) → Each (TypeLies n) (type_records x m)) where
      atom_by_law : {us : List Token} {x : Ty} → IsAtom checks d us x → Lie n us → (m : ℕ) → Each (TypeLies n) (type_records x m)
      unfolding type_records
      atom_by_law (is.one t k) h m = (λ e. absurd (omega arith), tt)
      atom_by_law (is.two t k) h m = (λ e. absurd (omega arith), tt)
      atom_by_law (is.power t k j e) h m = power_lies k m
      atom_by_law (is.name t k) h m = (λ e. h.0, tt)
      atom_by_law (is.absent t k) h m = tt
      atom_by_law (is.group {ts} t u j k l) h m = i _ _ k (front ts (u ∷ []) h.1) m

      type_by : {us : List Token} {x : Ty} → IsType checks (suc d) us x → Lie n us → (m : ℕ) → Each (TypeLies n) (type_records x m)
      unfolding type_records
      type_by (is.atom k) h m = atom_by_law k h m
      type_by (is.op {ls = ls} {rs} {l} {r} o t a k b) h m =
          each_append (TypeLies n) (type_records l m) _ (type_by a (front ls (t ∷ rs) h) m)
          (each_append (TypeLies n) (type_records r (m + type_weight l)) _ (atom_by_law b (back ls (t ∷ rs) h).1 (m + type_weight l))
          (last (present (tree.op o l r)) _ _))
        where
          last : (b : Bool) (v w : ℕ) → Each (TypeLies n) (if b then type_record (op_kind o) v w 0 ∷ [] else [])
          last true v w = (λ e. absurd (name_no_op o (sym e)), tt)
          last false v w = tt

    type_lies : (d : ℕ) {us : List Token} {x : Ty} → IsType checks d us x → Lie n us → (m : ℕ) → Each (TypeLies n) (type_records x m)
    type_lies (suc d) k = type_by d (λ us x. type_lies d) k
    type_lies zero {us = us} k = elim k [ ]

    -- an arrow's types: its source's, then its target's
    arrow_lies : {us : List Token} {a : Arrow} → IsArrow checks us a → Lie n us → (m : ℕ) → Each (TypeLies n) (type_records a.source m ++ type_records a.target (m + type_weight a.source))
    arrow_lies (is.arrow {xs} {ys} t a k b) h m =
        each_append (TypeLies n) (type_records _ m) _ (type_lies _ a (front xs (t ∷ ys) h) m) (type_lies _ b (back xs (t ∷ ys) h).1 _)

    line_types_lie : {us : List Token} {l : Line} → IsLine checks us l → Lie n us → (m : ℕ) → Each (TypeLies n) (line_types l m)
    unfolding line_types type_records
    line_types_lie (is.plain x t k i a) h m = tt
    line_types_lie (is.typed {es} {xs} x t u k i a j b) h m = arrow_lies b (back es (u ∷ xs) h.1.1).1 m
    line_types_lie (is.declared x t k i b) h m = arrow_lies b h.1.1 m

    file_lies : {us : List Token} {ls : List Line} → IsFile checks us ls → Lie n us → (e t : ℕ) → Each (ExprLies n) (lines_exprs ls e) × Each (TypeLies n) (lines_types ls t) × Each (LineLies n) (line_records ls e t)
    unfolding lines_exprs lines_types line_records line_record
    file_lies is.end h e t = (tt, tt, tt)
    file_lies (is.more {ts} {us} {l} {ls} k f) h e t =
        let a = line_lies (line_made checks k) (front ts us h) in
        let b = line_types_lie k (front ts us h) t in
        let c = file_lies f (back ts us h) (e + exprs_of l) (t + types_in_line l) in (
          each_append (ExprLies n) (expr_records (line_part l) e) (lines_exprs ls (e + exprs_of l)) (a.0 e) c.0,
          each_append (TypeLies n) (line_types l t) (lines_types ls (t + types_in_line l)) b c.1,
          (a.1, c.2),
        )

pub spans_lie : (checks : Checks) (source : List ℕ) (ts : List Token) (ls : List Line) (rest : List Token) → Inside source ts → lines checks ts ≡ got ls rest → Each (ExprLies (length source)) (lines_exprs ls 0) × Each (TypeLies (length source)) (lines_types ls 0) × Each (LineLies (length source)) (line_records ls 0 0)
spans_lie checks source ts ls rest h e = file_lies (length source) checks (lines_derived checks ts rest ls e).1 (inside_lie source ts h) 0 0
