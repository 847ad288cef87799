-- A line that is read: by what begins it, by its expression and by its arrow. Assumes nothing.
use Prim.Native.Nat.{ℕ, ◌+◌}
use mathlib.Core.Bool.{Bool, true, false}
use mathlib.Core.Path.{◌≡◌, refl, sym, ap, subst, ◌∙◌}
use mathlib.Core.List.{List, [], ◌∷◌}
use mathlib.Core.Option.{Option, none, some}
use native.Mathlib.Omega.{arith}
use lib.Dec.{eqb}
use lib.ListN.{length}
use Rattle.records.specs.Limits.{depth_limit, expr_width, type_width}
use Rattle.records.specs.TokenKind as token
use Rattle.records.specs.declared.Span.{Span}
use Rattle.records.specs.declared.numbers.ExprNo.{ExprNo}
use Rattle.tables.specs.Tables.{filled, beyond}
use Rattle.tables.proofs.Filled.{filled_beyond}
use Rattle.lex.specs.Tokens.{Token}
use Rattle.checks.specs.declared.Fault.TheVariants.{ParseFailed}
use Rattle.checks.specs.Checks.{Checks}
use Rattle.cursor.specs.declared.Cursor.{Cursor}
use Rattle.cursor.specs.declared.ParseRefusal.{ParseRefusal}
use Rattle.cursor.specs.Tokens.{tokens_left}
use Rattle.cursor.specs.Cursor.{refusal_at, stepped, Ready, Reached, Answer}
use Rattle.cursor.proofs.Reached.{reached_ready, reached_after, reached_step, reached_first}
use Rattle.grammar.specs.Tree.{Expr, Arrow, arrow_or, Line}
use Rattle.grammar.specs.Rule.{Parsed, got, stop, go_on, is_of, one_of, entry, choice}
use Rattle.grammar.specs.Grammar.{names, expr, arrow, perhaps_arrow, defined, declared, line}
use Rattle.grammar.specs.Part.{part_of, weight, span_of}
use Rattle.grammar.specs.Recorded.{part_no, expr_records, type_weight, type_no, line_record, line_types}
use Rattle.arrows.specs.Answers.{arrow_rows, or_absent, ArrowReads}
use Rattle.exprs.specs.Answers.{expr_rows, ExprReads}
use Rattle.records.proofs.Pairs.{ok_parts, ok_err, err_same}
use Rattle.lines.specs.Answers.{LineReads, tail_by, line_head_by, line_by}
use Rattle.lines.specs.declared.LineHead.{LineHead}
use Rattle.lines.specs.declared.LineHead.TheVariants.{Declared, Defined}
use Rattle.records.specs.declared.LineRecord.{LineRecord}
use Rattle.records.specs.declared.numbers.TypeNo.{TypeNo}
use Rattle.std.specs.Prelude.{Err, Ok}

-- ---- what begins a line, for the code and for the grammar

pub data Begins (checks : Checks) (end : ℕ) (c : Cursor) (ts : List Token) : Type 0 where
  defines : (u v : Token) (rest : List Token) → ts ≡ u ∷ v ∷ rest → line_head_by end c ts ≡ Ok (Defined (span_of u), (stepped (stepped c))) → line checks ts ≡ defined checks u rest → Begins checks end c ts
  declares : (u v : Token) (rest : List Token) → ts ≡ u ∷ v ∷ rest → line_head_by end c ts ≡ Ok (Declared (span_of u), (stepped (stepped c))) → line checks ts ≡ declared checks u rest → Begins checks end c ts
  refuses : (rest : List Token) → line_head_by end c ts ≡ Err (refusal_at end ParseFailed rest) → line checks ts ≡ stop ParseFailed rest → Begins checks end c ts

pub begins : (checks : Checks) (end : ℕ) (c : Cursor) (ts : List Token) → Begins checks end c ts
unfolding line line_head_by tail_by one_of choice entry go_on
begins checks end c [] = refuses [] refl refl
begins checks end c (u ∷ []) = go (is_of u names) refl
  where
    go : (b : Bool) → is_of u names ≡ b → Begins checks end c (u ∷ [])
    go true e = refuses [] (rw e) (rw e)
    go false e = refuses (u ∷ []) (rw e) (rw e)
begins checks end c (u ∷ v ∷ rest) = go (is_of u names) refl (eqb v.kind.0 (token.number token.assign)) refl (eqb v.kind.0 (token.number token.colon)) refl
  where
    go : (a : Bool) → is_of u names ≡ a → (b : Bool) → eqb v.kind.0 (token.number token.assign) ≡ b → (d : Bool) → eqb v.kind.0 (token.number token.colon) ≡ d → Begins checks end c (u ∷ v ∷ rest)
    go false e b f d g = refuses (u ∷ v ∷ rest) (rw e) (rw e)
    go true e true f d g = defines u v rest refl (rw (e, f)) (rw (e, f))
    go true e false f true g = declares u v rest refl (rw (e, f, g)) (rw (e, f, g))
    go true e false f false g = refuses (v ∷ rest) (rw (e, f, g)) (rw (e, f, g))

module _ (s t : List ℕ) (n : ℕ) (c : Cursor) (ready : Ready n c) (checks : Checks) where
  abbrev ts : List Token
  ts = tokens_left s t n c.token.0

  abbrev E : List Token → Parsed Expr
  E us = expr checks depth_limit us

  -- the cursor behind a name and what follows it
  abbrev inner : Cursor
  inner = stepped (stepped c)

  to_inner : (u v : Token) (rest : List Token) → ts ≡ u ∷ v ∷ rest → Reached s t n c inner rest 0 0
  to_inner u v rest e = reached_step s t n v (reached_first s t n u ready e)

  -- an expression, and then types
  two_ways : (d f g : Cursor) (q rest : List Token) (w k : ℕ) → Reached s t n d f q w 0 → Reached s t n f g rest 0 k → Reached s t n d g rest w k
  two_ways d f g q rest w k h i =
      record {
        inside = i.inside;
        left = i.left;
        exprs = omega (arith, h.exprs, i.exprs);
        types = omega (arith, h.types, i.types);
        room = (omega (arith, h.room.0, i.room.0), omega (arith, h.room.1, i.room.1));
      }

  -- ---- a refusal

  pub line_refused : (h : Answer LineHead) (x : ParseRefusal) (es ty : List ℕ) → h ≡ line_head_by (length s) c ts → h ≡ Err x → LineReads s t n c (line checks ts) (Err x) es es ty ty
  line_refused h x es ty e f = go (begins checks (length s) c ts)
    where
      go : Begins checks (length s) c ts → LineReads s t n c (line checks ts) (Err x) es es ty ty
      go (defines u v rest eq eh el) = absurd (ok_err (sym eh ∙ sym e ∙ f))
      go (declares u v rest eq eh el) = absurd (ok_err (sym eh ∙ sym e ∙ f))
      go (refuses rest eh el) = rw el (ap Err (err_same (sym f ∙ e ∙ eh)), refl, refl)

  -- ---- a name, `:` and an arrow

  declared_reads : (u v : Token) (rest : List Token) (Q : Parsed Arrow) (q : Answer (TypeNo × TypeNo)) (es ty ty' : List ℕ) → ts ≡ u ∷ v ∷ rest → ArrowReads s t n inner Q q ty ty'
      → LineReads s t n c (go_on Q (λ a. got (record { name = u; expression = none; arrow = some a }))) (line_by (span_of u) (record { 0 = 0 }) q) es es ty ty'
  unfolding go_on line_by line_record line_types weight filled expr_records
  declared_reads u v rest (stop x q') q es ty ty' e h = (ap (line_by (span_of u) (record { 0 = 0 })) h.0, refl, h.1)
  declared_reads u v rest (got a q') q es ty ty' e h =
      let at = reached_after s t n (to_inner u v rest e) h.2 in
      (h.0, ap (line_by (span_of u) (record { 0 = 0 })) h.1, at, omega (arith, h.2.room.0), refl, h.3)

  pub line_declared : (h : Answer LineHead) (x : Span) (d : Cursor) (q : Answer (TypeNo × TypeNo)) (r : Answer LineRecord) (es ty ty' : List ℕ) → h ≡ line_head_by (length s) c ts → h ≡ Ok (Declared x, d) → (Ready n d → ArrowReads s t n d (arrow checks (tokens_left s t n d.token.0)) q ty ty') → r ≡ line_by x (record { 0 = 0 }) q → LineReads s t n c (line checks ts) r es es ty ty'
  line_declared h x d q r es ty ty' e f reads er = go (begins checks (length s) c ts)
    where
      go : Begins checks (length s) c ts → LineReads s t n c (line checks ts) r es es ty ty'
      go (defines u v rest eq eh el) = let z : Defined (span_of u) ≡ Declared x = (ok_parts (sym eh ∙ sym e ∙ f)).0 in absurd (let y : ◌≡◌ {A = ℕ} 0 1 = cc in omega arith)
      go (refuses rest eh el) = absurd (ok_err (sym f ∙ e ∙ eh))
      go (declares u v rest eq eh el) =
          let parts = ok_parts (sym f ∙ e ∙ eh) in
          let same : Declared x ≡ Declared (span_of u) = parts.0 in
          let ex : x ≡ span_of u = cc in
          let ed : d ≡ inner = parts.1 in
          let at = to_inner u v rest eq in
          let here = subst (λ (k : Cursor). Ready n k → ArrowReads s t n k (arrow checks (tokens_left s t n k.token.0)) q ty ty') ed reads (reached_ready s t n ready at) in
          let whole = declared_reads u v rest (arrow checks rest) q es ty ty' eq (subst (λ (k : List Token). ArrowReads s t n inner (arrow checks k) q ty ty') at.left here) in
          subst (λ (P : Parsed Line). LineReads s t n c P r es es ty ty') (sym el) (subst (λ (k : Answer LineRecord). LineReads s t n c (declared checks u rest) k es es ty ty') (sym (er ∙ ap (λ (k : Span). line_by k (record { 0 = 0 }) q) ex)) whole)

  -- ---- a name, `:=` and an expression, and perhaps an arrow

  -- the arrow Q behind the expression e, which was read up to f
  arrow_reads : (u v : Token) (rest : List Token) (e : Expr) (f : Cursor) (q' : List Token) (Q : Parsed (Option Arrow)) (q : Answer (TypeNo × TypeNo)) (es es' ty ty' : List ℕ) → ts ≡ u ∷ v ∷ rest → Reached s t n inner f q' (weight (part_of e)) 0 → es' ≡ filled expr_width es c.expr.0 (expr_rows (part_of e) c.expr.0) → ArrowReads s t n f (or_absent Q) q ty ty'
      → LineReads s t n c (go_on Q (λ a. got (record { name = u; expression = some e; arrow = a }))) (line_by (span_of u) (record { 0 = part_no (part_of e) c.expr.0 }) q) es es' ty ty'
  unfolding go_on line_by line_record line_types
  arrow_reads u v rest e f q' (stop x w) q es es' ty ty' eq to_f is h = (ap (line_by (span_of u) (record { 0 = part_no (part_of e) c.expr.0 })) h.0, ap (beyond expr_width) is ∙ filled_beyond expr_width es c.expr.0 (expr_rows (part_of e) c.expr.0), h.1)
  arrow_reads u v rest e f q' (got a w) q es es' ty ty' eq to_f is h =
      let same : f.ty.0 ≡ c.ty.0 = omega (arith, to_f.types) in
      let at = two_ways inner f h.0 q' w (weight (part_of e)) (type_weight (arrow_or a).source + type_weight (arrow_or a).target) to_f h.2 in (
        h.0,
        ap (line_by (span_of u) (record { 0 = part_no (part_of e) c.expr.0 })) h.1
            ∙ ap (λ (k : ℕ). line_by (span_of u) (record { 0 = part_no (part_of e) c.expr.0 }) (Ok (((record { 0 = type_no (arrow_or a).source k }), (record { 0 = type_no (arrow_or a).target (k + type_weight (arrow_or a).source) })), h.0))) same,
        reached_after s t n (to_inner u v rest eq) at,
        omega (arith, at.room.0),
        is,
        h.3 ∙ ap (λ (k : ℕ). filled type_width ty k (arrow_rows (arrow_or a) k)) same,
      )

  module _ (h : Answer LineHead) (x : Span) (d : Cursor) (p : Answer ExprNo) (es es' : List ℕ) (eh : h ≡ line_head_by (length s) c ts) (ed : h ≡ Ok (Defined x, d)) (reads : Ready n d → ExprReads s t n d (E (tokens_left s t n d.token.0)) p es es') where
    -- the expression, as the grammar reads it
    pub record Body : Type 0 where
      pub u : Token
      pub v : Token
      pub rest : List Token
      pub tokens : ts ≡ u ∷ v ∷ rest
      pub name : x ≡ span_of u
      pub is : line checks ts ≡ defined checks u rest
      pub body : ExprReads s t n inner (E rest) p es es'

    body_of : Body
    body_of = go (begins checks (length s) c ts)
      where
        go : Begins checks (length s) c ts → Body
        go (declares u v rest eq e el) = let z : Declared (span_of u) ≡ Defined x = (ok_parts (sym e ∙ sym eh ∙ ed)).0 in absurd (let y : ◌≡◌ {A = ℕ} 0 1 = cc in omega arith)
        go (refuses rest e el) = absurd (ok_err (sym ed ∙ eh ∙ e))
        go (defines u v rest eq e el) =
            let parts = ok_parts (sym ed ∙ eh ∙ e) in
            let same : Defined x ≡ Defined (span_of u) = parts.0 in
            let en : x ≡ span_of u = cc in
            let ec : d ≡ inner = parts.1 in
            let at = to_inner u v rest eq in
            let here = subst (λ (k : Cursor). Ready n k → ExprReads s t n k (E (tokens_left s t n k.token.0)) p es es') ec reads (reached_ready s t n ready at) in
            record { u = u; v = v; rest = rest; tokens = eq; name = en; is = el; body = subst (λ (k : List Token). ExprReads s t n inner (E k) p es es') at.left here }

    b : Body
    b = body_of

    pub line_unread : (y : ParseRefusal) (ty : List ℕ) → p ≡ Err y → LineReads s t n c (line checks ts) (Err y) es es' ty ty
    unfolding go_on ExprReads
    line_unread y ty e = subst (λ (P : Parsed Line). LineReads s t n c P (Err y) es es' ty ty) (sym b.is) (go (E b.rest) b.body)
      where
        go : (P : Parsed Expr) → ExprReads s t n inner P p es es' → LineReads s t n c (go_on P (λ e us. go_on (perhaps_arrow checks us) (λ a. got (record { name = b.u; expression = some e; arrow = a })))) (Err y) es es' ty ty
        go (got e' q) k = absurd (ok_err (sym k.1 ∙ e))
        go (stop f q) k = (ap Err (err_same (sym e ∙ k.0)), k.1, refl)

    pub line_defined : (m : ExprNo) (f : Cursor) (q : Answer (TypeNo × TypeNo)) (r : Answer LineRecord) (ty ty' : List ℕ) → p ≡ Ok (m, f) → (Ready n f → ArrowReads s t n f (or_absent (perhaps_arrow checks (tokens_left s t n f.token.0))) q ty ty') → r ≡ line_by x m q → LineReads s t n c (line checks ts) r es es' ty ty'
    unfolding go_on ExprReads
    line_defined m f q r ty ty' e next er = subst (λ (P : Parsed Line). LineReads s t n c P r es es' ty ty') (sym b.is) (go (E b.rest) b.body)
      where
        go : (P : Parsed Expr) → ExprReads s t n inner P p es es' → LineReads s t n c (go_on P (λ e us. go_on (perhaps_arrow checks us) (λ a. got (record { name = b.u; expression = some e; arrow = a })))) r es es' ty ty'
        go (stop g w) k = absurd (ok_err (sym e ∙ k.0))
        go (got e' w) k =
            let parts = ok_parts (sym k.1 ∙ e) in
            let ef : k.0 ≡ f = parts.1 in
            let em : m ≡ record { 0 = part_no (part_of e') c.expr.0 } = sym parts.0 in
            let to_f : Reached s t n inner f w (weight (part_of e')) 0 = subst (λ (i : Cursor). Reached s t n inner i w (weight (part_of e')) 0) ef k.2 in
            let all : Reached s t n c f w (weight (part_of e')) 0 = reached_after s t n (to_inner b.u b.v b.rest b.tokens) to_f in
            let here : ArrowReads s t n f (or_absent (perhaps_arrow checks w)) q ty ty' = subst (λ (i : List Token). ArrowReads s t n f (or_absent (perhaps_arrow checks i)) q ty ty') to_f.left (next (reached_ready s t n ready all)) in
            let whole = arrow_reads b.u b.v b.rest e' f w (perhaps_arrow checks w) q es es' ty ty' b.tokens to_f k.3 here in
            subst (λ (i : Answer LineRecord). LineReads s t n c (go_on (perhaps_arrow checks w) (λ a. got (record { name = b.u; expression = some e'; arrow = a }))) i es es' ty ty') (sym (er ∙ ap (λ (i : Span). line_by i m q) b.name ∙ ap (λ (i : ExprNo). line_by (span_of b.u) i q) em)) whole
