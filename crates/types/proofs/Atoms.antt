-- Types that are read: an atom by its head, a group by its parenthesis, an operator with its operands. Assumes nothing.
use Prim.Native.Nat.{ℕ, ◌+◌, ◌<◌}
use mathlib.Core.Bool.{true}
use mathlib.Core.Path.{◌≡◌, refl, sym, ap, subst, ◌∙◌}
use mathlib.Core.List.{List, [], ◌∷◌, ◌++◌, map}
use native.Mathlib.Omega.{arith}
use lib.ListN.{length, length-map}
use Rattle.records.specs.Limits.{type_width}
use Rattle.records.specs.Records.{type_words}
use Rattle.records.specs.TokenKind as token
use Rattle.records.specs.declared.TypeRecord.{TypeRecord}
use Rattle.tables.specs.Tables.{written, filled, beyond}
use Rattle.tables.proofs.Filled.{filled_one, filled_beyond}
use Rattle.lex.specs.Tokens.{Token}
use Rattle.checks.specs.declared.Fault.{Fault}
use Rattle.checks.specs.declared.Fault.TheVariants.{ParseFailed}
use Rattle.checks.specs.Checks.{checks_of}
use Rattle.cursor.specs.declared.Cursor.{Cursor}
use Rattle.cursor.specs.declared.ParseRefusal.{ParseRefusal}
use Rattle.cursor.specs.Tokens.{tokens_left}
use Rattle.cursor.specs.Cursor.{closed, refusal_at, stepped, next_number, Ready, Reached, Answer}
use Rattle.cursor.proofs.Meets.{Meets, passes, refuses, meets}
use Rattle.cursor.proofs.Steps.{next_below}
use Rattle.cursor.proofs.Reached.{reached_ready, reached_after, reached_step, reached_first, some_left}
use Rattle.grammar.specs.Tree as tree
use Rattle.grammar.specs.Tree.{Ty, present}
use Rattle.grammar.specs.Rule.{Parsed, got, stop, Rule, go_on, choice, expect}
use Rattle.grammar.specs.Grammar.{TypeHead, whole, group, type_head, atom_by, atom}
use Rattle.grammar.proofs.Takes.{type_records_law}
use Rattle.grammar.specs.Recorded.{type_weight, type_no, type_records}
use Rattle.types.specs.declared.TypeInner.{TypeInner}
use Rattle.types.specs.Answers.{type_rows, TypeReads, type_record_by, finished, LeafType, HeadAt, AtomHeadReads, closed_type}
use Rattle.records.specs.declared.numbers.TypeNo.{TypeNo}
use Rattle.std.specs.Prelude.{Err, Ok}
use Rattle.types.specs.declared.AtomHead.{AtomHead}
use Rattle.types.specs.declared.AtomHead.TheVariants.{Absent, Group, Whole}

-- ---- sizes

-- a present type has a record
pub present_weighs : (x : Ty) → present x ≡ true → 0 < type_weight x
unfolding present type_weight
present_weighs tree.absent e = let z : ◌≡◌ {A = ℕ} 0 1 = cc in absurd (omega arith)
present_weighs tree.one e = omega arith
present_weighs tree.two e = omega arith
present_weighs (tree.name x) e = omega arith
present_weighs (tree.power n) e = omega arith
present_weighs (tree.op o l r) e = rw e (omega arith)

-- as many rows as the weight says
pub rows_weigh : (x : Ty) (m : ℕ) → length (type_rows x m) ≡ type_weight x
rows_weigh x m = length-map (type_records x m) type_words ∙ type_records_law x m

pub rows_append : (xs ys : List TypeRecord) → map type_words (xs ++ ys) ≡ map type_words xs ++ map type_words ys
rows_append [] ys = refl
rows_append (x ∷ xs) ys = ap (λ (r : List (List ℕ)). type_words x ∷ r) (rows_append xs ys)

-- what a type leaves of the words past the records
pub filled_stays : (x : Ty) (m : ℕ) (old new : List ℕ) → new ≡ filled type_width old m (type_rows x m) → beyond type_width new ≡ beyond type_width old
filled_stays x m old new e = ap (beyond type_width) e ∙ filled_beyond type_width old m (type_rows x m)

module _ (s t : List ℕ) (n : ℕ) where
  -- ---- atoms

  module _ (c : Cursor) (ready : Ready n c) where
    -- a type of one record
    leaf_reads : (x : Ty) (i : TypeInner) (u : Token) (rest : List Token) (r : Answer TypeNo) (old new : List ℕ) → LeafType x i → tokens_left s t n c.token.0 ≡ u ∷ rest → r ≡ finished (stepped c) → new ≡ written type_width old (next_number c.ty.0) (type_words (type_record_by i)) → TypeReads s t n c (got x rest) r old new
    leaf_reads x i u rest r old new leaf e f g =
        let below : c.token.0 < n = some_left s t n c.token.0 u rest e in
        let next : next_number c.ty.0 ≡ c.ty.0 + 1 = sym (next_below (omega (arith, ready.types, ready.few))) in
        let at : Reached s t n c (stepped c) rest 0 0 = reached_first s t n u ready e in
        let d : Cursor = record { token = (stepped c).token; expr = c.expr; ty = record { 0 = c.ty.0 + 1 } } in
        let no : type_no x c.ty.0 ≡ c.ty.0 + 1 = rw (leaf.here, leaf.one) in (
          d,
          f ∙ rw (next, no),
          rw leaf.one (record { inside = at.inside; left = at.left; exprs = at.exprs; types = refl; room = (at.room.0, omega arith) }),
          g ∙ rw next (sym (filled_one type_width old c.ty.0 (type_words (type_record_by i))) ∙ ap (λ (q : List TypeRecord). filled type_width old c.ty.0 (map type_words q)) (sym (leaf.row c.ty.0))),
        )

    absent_reads : (u : Token) (rest : List Token) (old : List ℕ) → tokens_left s t n c.token.0 ≡ u ∷ rest → TypeReads s t n c (got tree.absent rest) (Ok ((record { 0 = 0 }), (stepped c))) old old
    unfolding present type_weight type_records filled
    absent_reads u rest old e =
        (stepped c, refl, reached_first s t n u ready e, refl)

    -- what stands in parentheses, and its closing one
    group_reads : (P : Parsed Ty) (u : Token) (rest : List Token) (p r : Answer TypeNo) (old new : List ℕ) → tokens_left s t n c.token.0 ≡ u ∷ rest → TypeReads s t n (stepped c) P p old new → r ≡ closed_type s t n p
        → TypeReads s t n c (go_on P (λ x ts. go_on (expect token.rparen ts) (λ _. got x))) r old new
    unfolding closed go_on
    group_reads (stop x q) u rest p r old new e h f = (f ∙ rw h.0, h.1)
    group_reads (got x q) u rest p r old new e h f = go (meets (length s) token.rparen h.0 q)
      where
        at : Reached s t n c h.0 q 0 (type_weight x)
        at = reached_after s t n (reached_first s t n u ready e) h.2

        is : r ≡ closed_type s t n (Ok ((record { 0 = type_no x c.ty.0 }), h.0))
        is = f ∙ ap (closed_type s t n) h.1

        go : Meets (length s) token.rparen h.0 q → TypeReads s t n c (go_on (expect token.rparen q) (λ _. got x)) r old new
        go (passes v later eq ep ec) =
            rw ep (
              stepped h.0,
              is ∙ rw (h.2.left, ec),
              reached_step s t n v (subst (λ (w : List Token). Reached s t n c h.0 w 0 (type_weight x)) eq at),
              h.3,
            )
        go (refuses ep ec) = rw ep (is ∙ rw (h.2.left, ec), filled_stays x c.ty.0 old new h.3)

    -- ---- by what begins the atom

    module _ (jets : List ℕ) (T : Rule Ty) where
      abbrev An : List Token → Parsed Ty
      An ts = atom (checks_of jets) T ts

      headed : (u : Token) (rest : List Token) (h : TypeHead) → type_head (checks_of jets) (u ∷ rest) ≡ got h rest → An (u ∷ rest) ≡ atom_by (checks_of jets) T h rest
      unfolding atom go_on
      headed u rest h e = rw e

      unheaded : (ts : List Token) (x : Fault) → type_head (checks_of jets) ts ≡ stop x ts → An ts ≡ stop x ts
      unfolding atom go_on
      unheaded ts x e = rw e

      pub atom_whole : (ts : List Token) (h : Answer AtomHead) (i : TypeInner) (d : Cursor) (r : Answer TypeNo) (old new : List ℕ) → tokens_left s t n c.token.0 ≡ ts → AtomHeadReads jets (length s) c ts h → h ≡ Ok (Whole i, d) → r ≡ finished d
          → new ≡ written type_width old (next_number d.ty.0) (type_words (type_record_by i)) → TypeReads s t n c (An ts) r old new
      unfolding atom_by
      atom_whole [] h i d r old new e w f er en = let z : ◌≡◌ {A = ℕ} 0 1 = cc in absurd (omega arith)
      atom_whole (u ∷ rest) h i d r old new e w f er en =
          let k : HeadAt jets u rest (stepped c) (Ok (Whole i, d)) = subst (HeadAt jets u rest (stepped c)) f w in
          subst (λ (P : Parsed Ty). TypeReads s t n c P r old new) (sym (headed u rest (whole k.0) k.1))
          (leaf_reads k.0 i u rest r old new k.2 e (er ∙ ap finished k.3) (en ∙ ap (λ (q : Cursor). written type_width old (next_number q.ty.0) (type_words (type_record_by i))) k.3))

      pub atom_absent : (ts : List Token) (h : Answer AtomHead) (d : Cursor) (old : List ℕ) → tokens_left s t n c.token.0 ≡ ts → AtomHeadReads jets (length s) c ts h → h ≡ Ok (Absent, d) → TypeReads s t n c (An ts) (Ok ((record { 0 = 0 }), d)) old old
      unfolding atom_by
      atom_absent [] h d old e w f = let z : ◌≡◌ {A = ℕ} 0 1 = cc in absurd (omega arith)
      atom_absent (u ∷ rest) h d old e w f =
          let k : HeadAt jets u rest (stepped c) (Ok (Absent, d)) = subst (HeadAt jets u rest (stepped c)) f w in
          subst (λ (P : Parsed Ty). TypeReads s t n c P (Ok ((record { 0 = 0 }), d)) old old) (sym (headed u rest (whole tree.absent) k.0))
          (subst (λ (q : Cursor). TypeReads s t n c (got tree.absent rest) (Ok ((record { 0 = 0 }), q)) old old) (sym k.1) (absent_reads u rest old e))

      pub atom_group : (ts : List Token) (h : Answer AtomHead) (d : Cursor) (p r : Answer TypeNo) (old new : List ℕ) → tokens_left s t n c.token.0 ≡ ts → AtomHeadReads jets (length s) c ts h → h ≡ Ok (Group, d)
          → (Ready n d → TypeReads s t n d (T (tokens_left s t n d.token.0)) p old new) → r ≡ closed_type s t n p → TypeReads s t n c (An ts) r old new
      unfolding atom_by
      atom_group [] h d p r old new e w f i er = let z : ◌≡◌ {A = ℕ} 0 1 = cc in absurd (omega arith)
      atom_group (u ∷ rest) h d p r old new e w f i er =
          let k : HeadAt jets u rest (stepped c) (Ok (Group, d)) = subst (HeadAt jets u rest (stepped c)) f w in
          let at : Reached s t n c (stepped c) rest 0 0 = reached_first s t n u ready e in
          let inner : Ready n (stepped c) → TypeReads s t n (stepped c) (T (tokens_left s t n (stepped c).token.0)) p old new = subst (λ (q : Cursor). Ready n q → TypeReads s t n q (T (tokens_left s t n q.token.0)) p old new) k.1 i in
          let reads : TypeReads s t n (stepped c) (T rest) p old new = subst (λ (v : List Token). TypeReads s t n (stepped c) (T v) p old new) at.left (inner (reached_ready s t n ready at)) in
          subst (λ (P : Parsed Ty). TypeReads s t n c P r old new) (sym (headed u rest group k.0)) (group_reads (T rest) u rest p r old new e reads er)

      pub atom_refused : (ts : List Token) (h : Answer AtomHead) (x : ParseRefusal) (r : Answer TypeNo) (old : List ℕ) → tokens_left s t n c.token.0 ≡ ts → AtomHeadReads jets (length s) c ts h → h ≡ Err x → r ≡ Err x → TypeReads s t n c (An ts) r old old
      unfolding atom go_on type_head choice
      atom_refused [] h x r old e w f er =
          let same : ◌≡◌ {A = Answer AtomHead} (Err x) (Err (refusal_at (length s) ParseFailed [])) = sym f ∙ w in
          let z : x ≡ refusal_at (length s) ParseFailed [] = cc in
          (er ∙ ap Err z, refl)
      atom_refused (u ∷ rest) h x r old e w f er =
          let k : HeadAt jets u rest (stepped c) (Err x) = subst (HeadAt jets u rest (stepped c)) f w in
          subst (λ (P : Parsed Ty). TypeReads s t n c P r old old) (sym (unheaded (u ∷ rest) k.0 k.1)) (er ∙ ap Err k.2, refl)
