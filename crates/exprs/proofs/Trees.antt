-- Expressions and CMRs that are read: their records behind each other, and each by its head. Assumes nothing.
use Prim.Native.Nat.{ℕ, suc, ◌+◌, ◌≤◌, ◌<◌}
use mathlib.Core.Path.{◌≡◌, refl, sym, ap, subst, ◌∙◌}
use mathlib.Core.List.{List, [], ◌∷◌, ◌++◌, map, append_assoc, map-append}
use native.Mathlib.Omega.{arith}
use native.Mathlib.Nat.{add-zero}
use lib.ListN.{length, length-append, length-map}
use Rattle.records.specs.Limits.{expr_width}
use Rattle.records.specs.Records.{no_span, expr_words}
use Rattle.records.specs.TokenKind as token
use Rattle.records.specs.NodeKind as node
use Rattle.records.specs.declared.Span.{Span}
use Rattle.records.specs.declared.ExprRecord.{ExprRecord}
use Rattle.records.specs.declared.kinds.NodeKind.{NodeKind}
use Rattle.records.specs.declared.numbers.ByteOffset.{ByteOffset}
use Rattle.records.specs.declared.numbers.ExprNo.{ExprNo}
use Rattle.tables.specs.Tables.{written, filled, beyond}
use Rattle.tables.proofs.Filled.{filled_then, filled_one, filled_beyond}
use Rattle.lex.specs.Tokens.{Token}
use Rattle.checks.specs.declared.Fault.{Fault}
use Rattle.cursor.specs.declared.Cursor.{Cursor}
use Rattle.cursor.specs.declared.ParseRefusal.{ParseRefusal}
use Rattle.cursor.specs.Cursor.{closed, refusal_at, stepped, next_number, Ready, Reached, Answer}
use Rattle.cursor.proofs.Meets.{Meets, passes, refuses, meets}
use Rattle.cursor.proofs.Steps.{next_below}
use Rattle.cursor.proofs.Reached.{reached_go, reached_after, reached_step}
use Rattle.grammar.specs.Tree as tree
use Rattle.grammar.specs.Tree.{Expr}
use Rattle.grammar.specs.Rule.{Parsed, got, stop, go_on, expect}
use Rattle.grammar.specs.Part as part
use Rattle.grammar.specs.Part.{Part, part_of, cmr_part, cmr_span, weight, unary_kind, binary_kind}
use Rattle.grammar.specs.Recorded.{part_no, expr_record, expr_records}
use Rattle.grammar.proofs.Takes.{expr_records_law}
use Rattle.heads.specs.declared.Cmr.{Cmr}
use Rattle.heads.specs.declared.ExprInner.{ExprInner}
use Rattle.heads.specs.declared.ExprInner.TheVariants.{AssertL, AssertR, Unary as One, Binary as Two}
use Rattle.heads.specs.Answers.{expr_record_by, LeafExpr, of_part}
use Rattle.records.proofs.Pairs.{ok_parts, ok_err, err_same}
use Rattle.exprs.specs.Answers.{expr_rows, ExprReads, cmr_by, CmrReads, closed_expr, cmr_of, closed_cmr, unary_by, binary_by, assert_lby, assert_rby, completed, completed_table}
use Rattle.std.specs.Prelude.{Err, Ok}

-- ---- rows

rows_append : (xs ys : List ExprRecord) → map expr_words (xs ++ ys) ≡ map expr_words xs ++ map expr_words ys
rows_append xs ys = map-append expr_words xs ys

rows_weigh : (p : Part) (m : ℕ) → length (expr_rows p m) ≡ weight p
rows_weigh p m = length-map (expr_records p m) expr_words ∙ expr_records_law p m

-- a part's rows: its left child's, its right one's, its own
rows_part : (k : node.PartKind) (at : ℕ) (sp : Span) (l r : Part) (m : ℕ) → expr_rows (part.part k at sp l r) m ≡ (expr_rows l m ++ expr_rows r (m + weight l)) ++ (expr_words (expr_record (node.part k) at (part_no l m) (part_no r (m + weight l)) sp) ∷ [])
unfolding expr_records
rows_part k at sp l r m =
    let x : ExprRecord = expr_record (node.part k) at (part_no l m) (part_no r (m + weight l)) sp in
    rows_append (expr_records l m) (expr_records r (m + weight l) ++ (x ∷ []))
    ∙ ap (λ (q : List (List ℕ)). expr_rows l m ++ q) (rows_append (expr_records r (m + weight l)) (x ∷ []))
    ∙ sym (append_assoc (expr_rows l m) (expr_rows r (m + weight l)) (expr_words x ∷ []))

rows_stay : (p : Part) (m : ℕ) (old : List ℕ) {new : List ℕ} → new ≡ filled expr_width old m (expr_rows p m) → beyond expr_width new ≡ beyond expr_width old
rows_stay p m old e = ap (beyond expr_width) e ∙ filled_beyond expr_width old m (expr_rows p m)

-- the record of an assertion, by its CMR
left_record : (k : tree.Cmr) (at : ByteOffset) (e : ExprNo) (m : ℕ) → expr_record_by (AssertL e (cmr_by k m)) at ≡ expr_record (node.part node.assertl) at.0 e.0 (part_no (cmr_part k) m) (cmr_span k)
unfolding part_of
left_record (tree.inside f) at e m = refl
left_record (tree.literal u) at e m = refl

right_record : (k : tree.Cmr) (at : ByteOffset) (e : ExprNo) (m : ℕ) → expr_record_by (AssertR (cmr_by k m) e) at ≡ expr_record (node.part node.assertr) at.0 (part_no (cmr_part k) m) e.0 (cmr_span k)
unfolding part_of
right_record (tree.inside f) at e m = refl
right_record (tree.literal u) at e m = refl

module _ (s t : List ℕ) (n : ℕ) where
  -- ---- what an answer says of what the grammar reads

  -- a part p that was read from c up to d
  pub record ReadTo (c d : Cursor) (rest : List Token) (p : Part) (old new : List ℕ) : Type 0 where
    pub to : Reached s t n c d rest (weight p) 0
    pub table : new ≡ filled expr_width old c.expr.0 (expr_rows p c.expr.0)

  pub record Stopped (P : Fault → List Token → Type 0) (x : ParseRefusal) (old new : List ℕ) : Type 0 where
    pub fault : Fault
    pub rest : List Token
    pub is : P fault rest
    pub at : x ≡ refusal_at (length s) fault rest
    pub stays : beyond expr_width new ≡ beyond expr_width old

  module _ (c : Cursor) (old new : List ℕ) where
    pub expr_read : (P : Parsed Expr) {p : Answer ExprNo} {e : ExprNo} {d : Cursor} → ExprReads s t n c P p old new → p ≡ Ok (e, d) → (x : Expr) × (rest : List Token) × (P ≡ got x rest) × (e ≡ record { 0 = part_no (part_of x) c.expr.0 }) × ReadTo c d rest (part_of x) old new
    unfolding ExprReads
    expr_read (got x rest) {p} {e} {d} h f =
        let same = ok_parts (sym h.1 ∙ f) in
        let cursor : h.0 ≡ d = same.1 in
        let number : e ≡ record { 0 = part_no (part_of x) c.expr.0 } = sym same.0 in
        (x, rest, refl, number, record { to = subst (λ (g : Cursor). Reached s t n c g rest (weight (part_of x)) 0) cursor h.2; table = h.3 })
    expr_read (stop x rest) {p} {e} {d} h f = absurd (ok_err (sym f ∙ h.0))

    pub expr_stopped : (P : Parsed Expr) {p : Answer ExprNo} {x : ParseRefusal} → ExprReads s t n c P p old new → p ≡ Err x → Stopped (λ y rest. P ≡ stop y rest) x old new
    unfolding ExprReads
    expr_stopped (got e rest) {p} {x} h f = absurd (ok_err (sym h.1 ∙ f))
    expr_stopped (stop y rest) {p} {x} h f =
        let at : x ≡ refusal_at (length s) y rest = err_same (sym f ∙ h.0) in
        record { fault = y; rest = rest; is = refl; at = at; stays = h.1 }

    pub cmr_read : (P : Parsed tree.Cmr) {p : Answer Cmr} {k : Cmr} {d : Cursor} → CmrReads s t n c P p old new → p ≡ Ok (k, d) → (x : tree.Cmr) × (rest : List Token) × (P ≡ got x rest) × (k ≡ cmr_by x c.expr.0) × ReadTo c d rest (cmr_part x) old new
    unfolding CmrReads
    cmr_read (got x rest) {p} {k} {d} h f =
        let same = ok_parts (sym h.1 ∙ f) in
        let cursor : h.0 ≡ d = same.1 in
        let is : k ≡ cmr_by x c.expr.0 = sym same.0 in
        (x, rest, refl, is, record { to = subst (λ (g : Cursor). Reached s t n c g rest (weight (cmr_part x)) 0) cursor h.2; table = h.3 })
    cmr_read (stop x rest) {p} {k} {d} h f = absurd (ok_err (sym f ∙ h.0))

    pub cmr_stopped : (P : Parsed tree.Cmr) {p : Answer Cmr} {x : ParseRefusal} → CmrReads s t n c P p old new → p ≡ Err x → Stopped (λ y rest. P ≡ stop y rest) x old new
    unfolding CmrReads
    cmr_stopped (got e rest) {p} {x} h f = absurd (ok_err (sym h.1 ∙ f))
    cmr_stopped (stop y rest) {p} {x} h f =
        let at : x ≡ refusal_at (length s) y rest = err_same (sym f ∙ h.0) in
        record { fault = y; rest = rest; is = refl; at = at; stays = h.1 }

  -- ---- from a cursor c to d, where nothing was recorded

  module _ {c d : Cursor} {q : List Token} (to : Reached s t n c d q 0 0) where
    pub same_count : d.expr.0 ≡ c.expr.0
    same_count = to.exprs ∙ add-zero c.expr.0

    pub reads_after : (P : Parsed Expr) (p : Answer ExprNo) (old new : List ℕ) → ExprReads s t n d P p old new → ExprReads s t n c P p old new
    unfolding ExprReads
    reads_after (got e rest) p old new h = (
      h.0,
      h.1 ∙ ap (λ (m : ℕ). Ok ((record { 0 = part_no (part_of e) m }), h.0)) same_count,
      reached_after s t n to h.2,
      h.3 ∙ ap (λ (m : ℕ). filled expr_width old m (expr_rows (part_of e) m)) same_count,
    )
    reads_after (stop x rest) p old new h = h

  module _ (c : Cursor) (ready : Ready n c) where
    abbrev m : ℕ
    m = c.expr.0

    -- ---- a complete expression, of w records before its own

    finish_reads : (e : Expr) (i : ExprInner) (at : ByteOffset) (w : ℕ) (rs : List (List ℕ)) (f : Cursor) (rest : List Token) {r : Answer ExprNo} (old : List ℕ) {mid new : List ℕ} → weight (part_of e) ≡ suc w → part_no (part_of e) m ≡ m + suc w
        → expr_rows (part_of e) m ≡ rs ++ (expr_words (expr_record_by i at) ∷ []) → length rs ≡ w → Reached s t n c f rest w 0 → suc w + c.token.0 ≤ f.token.0 → mid ≡ filled expr_width old m rs → r ≡ completed (Ok (i, f))
        → new ≡ completed_table at (Ok (i, f)) mid → ExprReads s t n c (got e rest) r old new
    unfolding ExprReads completed completed_table
    finish_reads e i at w rs f rest old {mid} {new} weighs numbered rows len to room is_mid is_r is_new =
        let next : next_number f.expr.0 ≡ m + w + 1 = sym (next_below (omega (arith, to.exprs, room, to.inside, ready.exprs, ready.few))) ∙ omega (arith, to.exprs) in
        let number : next_number f.expr.0 ≡ part_no (part_of e) m = next ∙ omega (arith, numbered) in
        let d : Cursor = record { token = f.token; expr = record { 0 = next_number f.expr.0 }; ty = f.ty } in
        let last : new ≡ filled expr_width mid (m + w) (expr_words (expr_record_by i at) ∷ []) = is_new ∙ ap (λ (k : ℕ). written expr_width mid k (expr_words (expr_record_by i at))) next ∙ sym (filled_one expr_width mid (m + w) (expr_words (expr_record_by i at))) in (
          d,
          is_r ∙ ap (λ (k : ℕ). Ok ((record { 0 = k }), d)) number,
          record {
            inside = to.inside;
            left = to.left;
            exprs = omega (arith, next, weighs);
            types = to.types;
            room = (omega (arith, weighs, room), to.room.1);
          },
          filled_then expr_width old m rs (expr_words (expr_record_by i at) ∷ []) len is_mid last ∙ ap (filled expr_width old m) (sym rows),
        )

    pub leaf_reads : (e : Expr) (i : ExprInner) (at : ByteOffset) (f : Cursor) (rest : List Token) {r : Answer ExprNo} (old new : List ℕ) → LeafExpr e i at → Reached s t n c f rest 0 0 → c.token.0 < f.token.0 → r ≡ completed (Ok (i, f)) → new ≡ completed_table at (Ok (i, f)) old → ExprReads s t n c (got e rest) r old new
    unfolding filled
    leaf_reads e i at f rest old new leaf to room is_r is_new = finish_reads e i at 0 [] f rest old leaf.one (leaf.number m) (ap (map expr_words) (leaf.row m)) refl to (omega arith) refl is_r is_new

    -- an expression of two parts: l was read from d up to f, then r up to g
    module _ {d : Cursor} {q : List Token} (to : Reached s t n c d q 0 0) (room : c.token.0 < d.token.0) where
      two_reads : (e : Expr) (i : ExprInner) (at : ByteOffset) (k : node.PartKind) (sp : Span) (l r : Part) {f g : Cursor} {q1 rest : List Token} {a : Answer ExprNo} (old : List ℕ) {mid end new : List ℕ} → part_of e ≡ part.part k at.0 sp l r
          → expr_record_by i at ≡ expr_record (node.part k) at.0 (part_no l d.expr.0) (part_no r f.expr.0) sp → ReadTo d f q1 l old mid → ReadTo f g rest r mid end → a ≡ completed (Ok (i, g)) → new ≡ completed_table at (Ok (i, g)) end → ExprReads s t n c (got e rest) a old new
      unfolding weight
      two_reads e i at k sp l r {f} {g} {q1} {rest} old {mid} {end} is_part is_record first second is_a is_new =
          let from : d.expr.0 ≡ m = same_count to in
          let count : f.expr.0 ≡ m + weight l = omega (arith, first.to.exprs, from) in
          let mids : mid ≡ filled expr_width old m (expr_rows l m) = first.table ∙ ap (λ (j : ℕ). filled expr_width old j (expr_rows l j)) from in
          let ends : end ≡ filled expr_width mid (m + weight l) (expr_rows r (m + weight l)) = second.table ∙ ap (λ (j : ℕ). filled expr_width mid j (expr_rows r j)) count in
          let own : expr_record_by i at ≡ expr_record (node.part k) at.0 (part_no l m) (part_no r (m + weight l)) sp =
          is_record ∙ ap (λ (j : ℕ). expr_record (node.part k) at.0 (part_no l j) (part_no r f.expr.0) sp) from ∙ ap (λ (j : ℕ). expr_record (node.part k) at.0 (part_no l m) (part_no r j) sp) count in
          finish_reads e i at (weight l + weight r) (expr_rows l m ++ expr_rows r (m + weight l)) g rest old (ap weight is_part) (ap (λ (p : Part). part_no p m) is_part)
          (ap (λ (p : Part). expr_rows p m) is_part ∙ rows_part k at.0 sp l r m ∙ ap (λ (x : ExprRecord). (expr_rows l m ++ expr_rows r (m + weight l)) ++ (expr_words x ∷ [])) (sym own))
          (length-append (expr_rows l m) (expr_rows r (m + weight l)) ∙ omega (arith, rows_weigh l m, rows_weigh r (m + weight l)))
          (reached_after s t n to (reached_go s t n first.to second.to))
          (omega (arith, room, first.to.room.0, second.to.room.0))
          (filled_then expr_width old m (expr_rows l m) (expr_rows r (m + weight l)) (rows_weigh l m) mids ends) is_a is_new

    -- a refusal where the last part was to come
    refused_reads : (x : Fault) (rest : List Token) (at : ByteOffset) (y : ParseRefusal) {a : Answer ExprNo} (old mid : List ℕ) {new : List ℕ} → y ≡ refusal_at (length s) x rest → beyond expr_width mid ≡ beyond expr_width old → a ≡ completed (Err y) → new ≡ completed_table at (Err y) mid → ExprReads s t n c (stop x rest) a old new
    unfolding ExprReads completed completed_table
    refused_reads x rest at y old mid e b f g = (f ∙ ap Err e, ap (beyond expr_width) g ∙ b)

    -- ---- by the parts, of which the first begins at d

    module _ {d : Cursor} {q : List Token} (to : Reached s t n c d q 0 0) (room : c.token.0 < d.token.0) (at : ByteOffset) where
      none_more : {f : Cursor} {q1 : List Token} {p : Part} {old mid : List ℕ} → ReadTo d f q1 p old mid → ReadTo f f q1 part.none mid mid
      unfolding weight expr_records filled
      none_more {f} h = record { to = record { inside = h.to.inside; left = h.to.left; exprs = sym (add-zero f.expr.0); types = sym (add-zero f.ty.0); room = (omega arith, omega arith) }; table = refl }

      pub unary_reads : (u : tree.Unary) (k : NodeKind) (P : Parsed Expr) (p a : Answer ExprNo) (old mid new : List ℕ) → k ≡ of_part (unary_kind u) → ExprReads s t n d P p old mid → a ≡ completed (unary_by k p) → new ≡ completed_table at (unary_by k p) mid → ExprReads s t n c (go_on P (λ e. got (tree.unary u at.0 e))) a old new
      unfolding unary_by go_on part_of
      unary_reads u k P (Ok (e, f)) a old mid new kind h er en =
          let x = expr_read d old mid P h refl in
          let own : expr_record_by (One k e) at ≡ expr_record (node.part (unary_kind u)) at.0 (part_no (part_of x.0) d.expr.0) 0 no_span = ap (λ (j : NodeKind). expr_record_by (One j e) at) kind ∙ ap (λ (j : ExprNo). expr_record_by (One (of_part (unary_kind u)) j) at) x.3 in
          subst (λ (Q : Parsed Expr). ExprReads s t n c (go_on Q (λ y. got (tree.unary u at.0 y))) a old new) (sym x.2)
          (two_reads to room (tree.unary u at.0 x.0) (One k e) at (unary_kind u) no_span (part_of x.0) part.none old refl own x.4 (none_more x.4) er en)
      unary_reads u k P (Err y) a old mid new kind h er en =
          let x = expr_stopped d old mid P h refl in
          subst (λ (Q : Parsed Expr). ExprReads s t n c (go_on Q (λ z. got (tree.unary u at.0 z))) a old new) (sym x.is) (refused_reads x.fault x.rest at y old mid x.at x.stays er en)

      -- the second part begins at f
      module _ (f : Cursor) (q1 : List Token) (old mid : List ℕ) where
        pub binary_reads : (u : tree.Binary) (k : NodeKind) (l : Expr) (P : Parsed Expr) (p a : Answer ExprNo) (end new : List ℕ) → k ≡ of_part (binary_kind u) → ReadTo d f q1 (part_of l) old mid → ExprReads s t n f P p mid end → a ≡ completed (binary_by k (record { 0 = part_no (part_of l) d.expr.0 }) p)
            → new ≡ completed_table at (binary_by k (record { 0 = part_no (part_of l) d.expr.0 }) p) end → ExprReads s t n c (go_on P (λ r. got (tree.binary u at.0 l r))) a old new
        unfolding binary_by go_on part_of
        binary_reads u k l P (Ok (e, g)) a end new kind first h er en =
            let x = expr_read f mid end P h refl in
            let m : ExprNo = record { 0 = part_no (part_of l) d.expr.0 } in
            let own : expr_record_by (Two k m e) at ≡ expr_record (node.part (binary_kind u)) at.0 (part_no (part_of l) d.expr.0) (part_no (part_of x.0) f.expr.0) no_span = ap (λ (j : NodeKind). expr_record_by (Two j m e) at) kind ∙ ap (λ (j : ExprNo). expr_record_by (Two (of_part (binary_kind u)) m j) at) x.3 in
            subst (λ (Q : Parsed Expr). ExprReads s t n c (go_on Q (λ y. got (tree.binary u at.0 l y))) a old new) (sym x.2)
            (two_reads to room (tree.binary u at.0 l x.0) (Two k m e) at (binary_kind u) no_span (part_of l) (part_of x.0) old refl own first x.4 er en)
        binary_reads u k l P (Err y) a end new kind first h er en =
            let x = expr_stopped f mid end P h refl in
            subst (λ (Q : Parsed Expr). ExprReads s t n c (go_on Q (λ z. got (tree.binary u at.0 l z))) a old new) (sym x.is)
            (refused_reads x.fault x.rest at y old end x.at (x.stays ∙ rows_stay (part_of l) d.expr.0 old first.table) er en)

        pub left_reads : (e : Expr) (P : Parsed tree.Cmr) (p : Answer Cmr) (a : Answer ExprNo) (end new : List ℕ) → ReadTo d f q1 (part_of e) old mid → CmrReads s t n f P p mid end → a ≡ completed (assert_lby (record { 0 = part_no (part_of e) d.expr.0 }) p)
            → new ≡ completed_table at (assert_lby (record { 0 = part_no (part_of e) d.expr.0 }) p) end → ExprReads s t n c (go_on P (λ k. got (tree.assertl at.0 e k))) a old new
        unfolding assert_lby go_on part_of
        left_reads e P (Ok (k, g)) a end new first h er en =
            let x = cmr_read f mid end P h refl in
            let m : ExprNo = record { 0 = part_no (part_of e) d.expr.0 } in
            let own : expr_record_by (AssertL m k) at ≡ expr_record (node.part node.assertl) at.0 (part_no (part_of e) d.expr.0) (part_no (cmr_part x.0) f.expr.0) (cmr_span x.0) = ap (λ (j : Cmr). expr_record_by (AssertL m j) at) x.3 ∙ left_record x.0 at m f.expr.0 in
            subst (λ (Q : Parsed tree.Cmr). ExprReads s t n c (go_on Q (λ y. got (tree.assertl at.0 e y))) a old new) (sym x.2)
            (two_reads to room (tree.assertl at.0 e x.0) (AssertL m k) at node.assertl (cmr_span x.0) (part_of e) (cmr_part x.0) old refl own first x.4 er en)
        left_reads e P (Err y) a end new first h er en =
            let x = cmr_stopped f mid end P h refl in
            subst (λ (Q : Parsed tree.Cmr). ExprReads s t n c (go_on Q (λ z. got (tree.assertl at.0 e z))) a old new) (sym x.is)
            (refused_reads x.fault x.rest at y old end x.at (x.stays ∙ rows_stay (part_of e) d.expr.0 old first.table) er en)

        pub right_reads : (k : tree.Cmr) (P : Parsed Expr) (p a : Answer ExprNo) (end new : List ℕ) → ReadTo d f q1 (cmr_part k) old mid → ExprReads s t n f P p mid end → a ≡ completed (assert_rby (cmr_by k d.expr.0) p) → new ≡ completed_table at (assert_rby (cmr_by k d.expr.0) p) end
            → ExprReads s t n c (go_on P (λ e. got (tree.assertr at.0 k e))) a old new
        unfolding assert_rby go_on part_of
        right_reads k P (Ok (e, g)) a end new first h er en =
            let x = expr_read f mid end P h refl in
            let own : expr_record_by (AssertR (cmr_by k d.expr.0) e) at ≡ expr_record (node.part node.assertr) at.0 (part_no (cmr_part k) d.expr.0) (part_no (part_of x.0) f.expr.0) (cmr_span k) = right_record k at e d.expr.0 ∙ ap (λ (j : ExprNo). expr_record (node.part node.assertr) at.0 (part_no (cmr_part k) d.expr.0) j.0 (cmr_span k)) x.3 in
            subst (λ (Q : Parsed Expr). ExprReads s t n c (go_on Q (λ y. got (tree.assertr at.0 k y))) a old new) (sym x.2)
            (two_reads to room (tree.assertr at.0 k x.0) (AssertR (cmr_by k d.expr.0) e) at node.assertr (cmr_span k) (cmr_part k) (part_of x.0) old refl own first x.4 er en)
        right_reads k P (Err y) a end new first h er en =
            let x = expr_stopped f mid end P h refl in
            subst (λ (Q : Parsed Expr). ExprReads s t n c (go_on Q (λ z. got (tree.assertr at.0 k z))) a old new) (sym x.is)
            (refused_reads x.fault x.rest at y old end x.at (x.stays ∙ rows_stay (cmr_part k) d.expr.0 old first.table) er en)

    -- ---- behind an expression in parentheses or braces

    pub parens_reads : (P : Parsed Expr) (p : Answer ExprNo) {r : Answer ExprNo} (old new : List ℕ) → ExprReads s t n c P p old new → r ≡ closed_expr s t n p → ExprReads s t n c (go_on P (λ x ts. go_on (expect token.rparen ts) (λ _. got x))) r old new
    unfolding ExprReads closed go_on
    parens_reads (stop x q) p old new h f = (f ∙ rw h.0, h.1)
    parens_reads (got x q) p {r} old new h f = go (meets (length s) token.rparen h.0 q)
      where
        is : r ≡ closed_expr s t n (Ok ((record { 0 = part_no (part_of x) c.expr.0 }), h.0))
        is = f ∙ ap (closed_expr s t n) h.1

        go : Meets (length s) token.rparen h.0 q → ExprReads s t n c (go_on (expect token.rparen q) (λ _. got x)) r old new
        go (passes v later eq ep ec) =
            rw ep (
              stepped h.0,
              is ∙ rw (h.2.left, ec),
              reached_step s t n v (subst (λ (w : List Token). Reached s t n c h.0 w (weight (part_of x)) 0) eq h.2),
              h.3,
            )
        go (refuses ep ec) = rw ep (is ∙ rw (h.2.left, ec), rows_stay (part_of x) c.expr.0 old h.3)

    pub braces_reads : (P : Parsed Expr) (p : Answer ExprNo) {r : Answer Cmr} (old new : List ℕ) → ExprReads s t n c P p old new → r ≡ closed_cmr s t n p → CmrReads s t n c (go_on P (λ x ts. go_on (expect token.rbrace ts) (λ _. got (tree.inside x)))) r old new
    unfolding ExprReads CmrReads closed cmr_of go_on part_of
    braces_reads (stop x q) p old new h f = (f ∙ rw h.0, h.1)
    braces_reads (got x q) p {r} old new h f = go (meets (length s) token.rbrace h.0 q)
      where
        is : r ≡ closed_cmr s t n (Ok ((record { 0 = part_no (part_of x) c.expr.0 }), h.0))
        is = f ∙ ap (closed_cmr s t n) h.1

        go : Meets (length s) token.rbrace h.0 q → CmrReads s t n c (go_on (expect token.rbrace q) (λ _. got (tree.inside x))) r old new
        go (passes v later eq ep ec) =
            rw ep (
              stepped h.0,
              is ∙ rw (h.2.left, ec),
              reached_step s t n v (subst (λ (w : List Token). Reached s t n c h.0 w (weight (part_of x)) 0) eq h.2),
              h.3,
            )
        go (refuses ep ec) = rw ep (is ∙ rw (h.2.left, ec), rows_stay (part_of x) c.expr.0 old h.3)
