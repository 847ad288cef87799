-- Arrows that are read: by their source, by what follows it, and by their target. Assumes nothing.
use Prim.Native.Nat.{ℕ, ◌+◌}
use mathlib.Core.Bool.{Bool, true, false}
use mathlib.Core.Path.{◌≡◌, refl, sym, ap, subst, ◌∙◌}
use mathlib.Core.List.{List, [], ◌∷◌}
use mathlib.Core.Option.{Option, none, some}
use native.Mathlib.Omega.{arith}
use lib.Dec.{eqb}
use lib.ListN.{length}
use Rattle.records.specs.Limits.{depth_limit, type_width}
use Rattle.records.specs.TokenKind as token
use Rattle.records.specs.declared.numbers.TypeNo.{TypeNo}
use Rattle.records.proofs.Pairs.{ok_parts}
use Rattle.tables.specs.Tables.{filled, beyond}
use Rattle.tables.proofs.Filled.{filled_then}
use Rattle.lex.specs.Tokens.{Token}
use Rattle.checks.specs.declared.Fault.{Fault}
use Rattle.checks.specs.declared.Fault.TheVariants.{ParseFailed}
use Rattle.checks.specs.Checks.{Checks}
use Rattle.cursor.specs.declared.Cursor.{Cursor}
use Rattle.cursor.specs.declared.ParseRefusal.{ParseRefusal}
use Rattle.cursor.specs.Tokens.{tokens_left}
use Rattle.cursor.specs.Cursor.{refusal_at, stepped, expected, Ready, Reached, Answer}
use Rattle.cursor.proofs.Meets.{Meets, passes, refuses, meets}
use Rattle.cursor.proofs.Reached.{reached_none, reached_ready, reached_go, reached_after, reached_step, reached_first}
use Rattle.grammar.specs.Tree.{Ty, Arrow, present}
use Rattle.grammar.specs.Rule.{Parsed, got, stop, go_on, entry, expect, perhaps}
use Rattle.grammar.specs.Grammar.{type, arrow, perhaps_arrow}
use Rattle.grammar.specs.Recorded.{type_weight, type_no, type_records}
use Rattle.types.specs.Answers.{type_rows, TypeReads}
use Rattle.arrows.specs.Answers.{or_absent, ArrowReads}
use Rattle.types.proofs.Atoms.{rows_weigh, rows_append, filled_stays}
use Rattle.std.specs.Prelude.{Err, Ok, Result}

-- an arrow, once its target is read
abbrev pub arrow_to : TypeNo → Answer TypeNo → Answer (TypeNo × TypeNo)
arrow_to l (Ok (r, c)) = Ok ((l, r), c)
arrow_to l (Err x) = Err x

module _ (s t : List ℕ) (n : ℕ) (c : Cursor) (ready : Ready n c) where
  abbrev m : ℕ
  m = c.ty.0

  -- ---- an answer says what the grammar read

  pub record WasRead (P : Parsed Ty) (k : TypeNo) (d : Cursor) (old new : List ℕ) : Type 0 where
    pub type : Ty
    pub rest : List Token
    pub is : P ≡ got type rest
    pub number : k ≡ record { 0 = type_no type m }
    pub reached : Reached s t n c d rest 0 (type_weight type)
    pub table : new ≡ filled type_width old m (type_rows type m)

  pub was_read : (P : Parsed Ty) (p : Answer TypeNo) (k : TypeNo) (d : Cursor) (old new : List ℕ) → TypeReads s t n c P p old new → p ≡ Ok (k, d) → WasRead P k d old new
  was_read (stop f q) p k d old new h e = let z : ◌≡◌ {A = Answer TypeNo} (Err (refusal_at (length s) f q)) (Ok (k, d)) = sym h.0 ∙ e in let y : ◌≡◌ {A = ℕ} 0 1 = cc in absurd (omega arith)
  was_read (got a q) p k d old new h e =
      let z = ok_parts (sym h.1 ∙ e) in
      let ed : h.0 ≡ d = z.1 in
      record { type = a; rest = q; is = refl; number = sym z.0; reached = subst (λ (v : Cursor). Reached s t n c v q 0 (type_weight a)) ed h.2; table = h.3 }

  pub record WasRefused (P : Parsed Ty) (x : ParseRefusal) (old new : List ℕ) : Type 0 where
    pub fault : Fault
    pub rest : List Token
    pub is : P ≡ stop fault rest
    pub place : x ≡ refusal_at (length s) fault rest
    pub stays : beyond type_width new ≡ beyond type_width old

  pub was_refused : (P : Parsed Ty) (p : Answer TypeNo) (x : ParseRefusal) (old new : List ℕ) → TypeReads s t n c P p old new → p ≡ Err x → WasRefused P x old new
  was_refused (got a q) p x old new h e = let z : ◌≡◌ {A = Answer TypeNo} (Ok ((record { 0 = type_no a m }), h.0)) (Err x) = sym h.1 ∙ e in let y : ◌≡◌ {A = ℕ} 0 1 = cc in absurd (omega arith)
  was_refused (stop f q) p x old new h e = let z : ◌≡◌ {A = Answer TypeNo} (Err (refusal_at (length s) f q)) (Err x) = sym h.0 ∙ e in record { fault = f; rest = q; is = refl; place = let y : x ≡ refusal_at (length s) f q = cc in y; stays = h.1 }

  -- ---- arrows

  -- the target Q, behind the source a, which was read with its arrow up to f
  target_reads : (a : Ty) (f : Cursor) (q : List Token) (Q : Parsed Ty) (p : Answer TypeNo) (old mid new : List ℕ) → Reached s t n c f q 0 (type_weight a) → mid ≡ filled type_width old m (type_rows a m) → TypeReads s t n f Q p mid new
      → ArrowReads s t n c (go_on Q (λ b. got (record { source = a; target = b }))) (arrow_to (record { 0 = type_no a m }) p) old new
  unfolding go_on
  target_reads a f q (stop x rest) p old mid new to_f e h = (ap (arrow_to (record { 0 = type_no a m })) h.0, h.1 ∙ filled_stays a m old mid e)
  target_reads a f q (got b rest) p old mid new to_f e h = (
    h.0,
    ap (arrow_to (record { 0 = type_no a m })) h.1 ∙ ap (λ (k : ℕ). Ok (((record { 0 = type_no a m }), (record { 0 = type_no b k })), h.0)) to_f.types,
    reached_go s t n to_f h.2,
    filled_then type_width old m (type_rows a m) (type_rows b (m + type_weight a)) (rows_weigh a m) e (h.3 ∙ ap (λ (k : ℕ). filled type_width mid k (type_rows b k)) to_f.types)
        ∙ ap (filled type_width old m) (sym (rows_append (type_records a m) (type_records b (m + type_weight a)))),
  )

  module _ (checks : Checks) (p : Answer TypeNo) (old mid : List ℕ) where
    abbrev ts : List Token
    ts = tokens_left s t n c.token.0

    abbrev T : List Token → Parsed Ty
    T us = type checks depth_limit us

    module _ (h : TypeReads s t n c (T ts) p old mid) where
      pub arrow_refused : (x : ParseRefusal) (r : Answer (TypeNo × TypeNo)) → p ≡ Err x → r ≡ Err x → ArrowReads s t n c (arrow checks ts) r old mid
      unfolding arrow go_on
      arrow_refused x r e er = let w = was_refused (T ts) p x old mid h e in rw w.is (er ∙ ap Err w.place, w.stays)

      -- the source was read up to d, and then `->` has to come
      module _ (k : TypeNo) (d : Cursor) (x : Result Cursor ParseRefusal) (e : p ≡ Ok (k, d)) (ex : x ≡ expected (length s) d (token.number token.arrow) (tokens_left s t n d.token.0)) where
        w : WasRead (T ts) k d old mid
        w = was_read (T ts) p k d old mid h e

        met : x ≡ expected (length s) d (token.number token.arrow) w.rest
        met = ex ∙ ap (expected (length s) d (token.number token.arrow)) w.reached.left

        pub arrow_unmet : (r : ParseRefusal) (q : Answer (TypeNo × TypeNo)) → x ≡ Err r → q ≡ Err r → ArrowReads s t n c (arrow checks ts) q old mid
        unfolding arrow go_on
        arrow_unmet r q er eq_q = rw w.is (go (meets (length s) token.arrow d w.rest))
          where
            go : Meets (length s) token.arrow d w.rest → ArrowReads s t n c (go_on (expect token.arrow w.rest) (λ _ us. go_on (T us) (λ b. got (record { source = w.type; target = b })))) q old mid
            go (passes v later eq ep ec) = let z : ◌≡◌ {A = Result Cursor ParseRefusal} (Ok (stepped d)) (Err r) = sym (met ∙ ec) ∙ er in let y : ◌≡◌ {A = ℕ} 0 1 = cc in absurd (omega arith)
            go (refuses ep ec) = let z : ◌≡◌ {A = Result Cursor ParseRefusal} (Err r) (Err (refusal_at (length s) ParseFailed w.rest)) = sym er ∙ met ∙ ec in rw ep (eq_q ∙ ap Err (let y : r ≡ refusal_at (length s) ParseFailed w.rest = cc in y), filled_stays w.type m old mid w.table)

        pub arrow_met : (f : Cursor) (q : Answer TypeNo) (r : Answer (TypeNo × TypeNo)) (new : List ℕ) → x ≡ Ok f → (Ready n f → TypeReads s t n f (T (tokens_left s t n f.token.0)) q mid new) → r ≡ arrow_to k q → ArrowReads s t n c (arrow checks ts) r old new
        unfolding arrow go_on
        arrow_met f q r new ef reads er = rw w.is (go (meets (length s) token.arrow d w.rest))
          where
            go : Meets (length s) token.arrow d w.rest → ArrowReads s t n c (go_on (expect token.arrow w.rest) (λ _ us. go_on (T us) (λ b. got (record { source = w.type; target = b })))) r old new
            go (refuses ep ec) = let z : ◌≡◌ {A = Result Cursor ParseRefusal} (Err (refusal_at (length s) ParseFailed w.rest)) (Ok f) = sym (met ∙ ec) ∙ ef in let y : ◌≡◌ {A = ℕ} 0 1 = cc in absurd (omega arith)
            go (passes v later eq ep ec) =
                let z : ◌≡◌ {A = Result Cursor ParseRefusal} (Ok (stepped d)) (Ok f) = sym (met ∙ ec) ∙ ef in
                let es : stepped d ≡ f = cc in
                let to_f : Reached s t n c f later 0 (type_weight w.type) = subst (λ (u : Cursor). Reached s t n c u later 0 (type_weight w.type)) es (reached_step s t n v (subst (λ (u : List Token). Reached s t n c d u 0 (type_weight w.type)) eq w.reached)) in
                let second : TypeReads s t n f (T later) q mid new = subst (λ (u : List Token). TypeReads s t n f (T u) q mid new) to_f.left (reads (reached_ready s t n ready to_f)) in
                let whole = target_reads w.type f later (T later) q old mid new to_f w.table second in
                rw ep (subst (λ (u : Answer (TypeNo × TypeNo)). ArrowReads s t n c (go_on (T later) (λ b. got (record { source = w.type; target = b }))) u old new) (sym (er ∙ ap (λ (u : TypeNo). arrow_to u q) w.number)) whole)

  -- ---- perhaps an arrow

  module _ (checks : Checks) (x : Result Cursor ParseRefusal) (ex : x ≡ expected (length s) c (token.number token.colon) (tokens_left s t n c.token.0)) where
    -- what comes next is `:` for the code exactly if it is for the grammar
    sees : (us : List Token) → Meets (length s) token.colon c us → (r : ParseRefusal) → expected (length s) c (token.number token.colon) us ≡ Err r → perhaps_arrow checks us ≡ got none us
    unfolding perhaps_arrow perhaps entry go_on expected
    sees [] w r e = refl
    sees (u ∷ us) w r e = go (eqb u.kind.0 (token.number token.colon)) refl
      where
        go : (b : Bool) → eqb u.kind.0 (token.number token.colon) ≡ b → perhaps_arrow checks (u ∷ us) ≡ got none (u ∷ us)
        go true f = let z : ◌≡◌ {A = Result Cursor ParseRefusal} (Ok (stepped c)) (Err r) = rw f at e in let y : ◌≡◌ {A = Parsed (Option Arrow)} (perhaps_arrow checks (u ∷ us)) (got none (u ∷ us)) = absurd (let v : ◌≡◌ {A = ℕ} 0 1 = cc in omega arith) in y
        go false f = rw f

    pub no_arrow : (r : ParseRefusal) (old : List ℕ) → x ≡ Err r → ArrowReads s t n c (or_absent (perhaps_arrow checks (tokens_left s t n c.token.0))) (Ok (((record { 0 = 0 }), (record { 0 = 0 })), c)) old old
    unfolding present type_weight type_records filled
    no_arrow r old e =
        rw (sees (tokens_left s t n c.token.0) (meets (length s) token.colon c (tokens_left s t n c.token.0)) r (sym ex ∙ e))
        (c, refl, reached_none s t n ready, refl)

    lifted : (Q : Parsed Arrow) → or_absent (go_on Q (λ a. got (some a))) ≡ Q
    unfolding go_on
    lifted (got a rest) = refl
    lifted (stop f rest) = refl

    -- the first token is passed
    from_first : (Q : Parsed Arrow) (u : Token) (us : List Token) (r : Answer (TypeNo × TypeNo)) (old new : List ℕ) → tokens_left s t n c.token.0 ≡ u ∷ us → ArrowReads s t n (stepped c) Q r old new → ArrowReads s t n c Q r old new
    from_first (got a rest) u us r old new e h = (h.0, h.1, reached_after s t n (reached_first s t n u ready e) h.2, h.3)
    from_first (stop f rest) u us r old new e h = h

    pub an_arrow : (d : Cursor) (r : Answer (TypeNo × TypeNo)) (old new : List ℕ) → x ≡ Ok d → (Ready n d → ArrowReads s t n d (arrow checks (tokens_left s t n d.token.0)) r old new) → ArrowReads s t n c (or_absent (perhaps_arrow checks (tokens_left s t n c.token.0))) r old new
    unfolding perhaps_arrow perhaps entry go_on expected
    an_arrow d r old new e reads = go (tokens_left s t n c.token.0) refl
      where
        comes : (u : Token) (us : List Token) → expected (length s) c (token.number token.colon) (u ∷ us) ≡ Ok d → (perhaps_arrow checks (u ∷ us) ≡ go_on (arrow checks us) (λ a. got (some a))) × (d ≡ stepped c)
        comes u us f = by (eqb u.kind.0 (token.number token.colon)) refl
          where
            by : (b : Bool) → eqb u.kind.0 (token.number token.colon) ≡ b → (perhaps_arrow checks (u ∷ us) ≡ go_on (arrow checks us) (λ a. got (some a))) × (d ≡ stepped c)
            by true g = let z : ◌≡◌ {A = Result Cursor ParseRefusal} (Ok (stepped c)) (Ok d) = rw g at f in (rw g, let y : d ≡ stepped c = cc in y)
            by false g = let z : ◌≡◌ {A = Result Cursor ParseRefusal} (Err (refusal_at (length s) ParseFailed (u ∷ us))) (Ok d) = rw g at f in absurd (let v : ◌≡◌ {A = ℕ} 0 1 = cc in omega arith)

        go : (us : List Token) → tokens_left s t n c.token.0 ≡ us → ArrowReads s t n c (or_absent (perhaps_arrow checks us)) r old new
        go [] f = let z : ◌≡◌ {A = Result Cursor ParseRefusal} (Err (refusal_at (length s) ParseFailed [])) (Ok d) = sym (ex ∙ ap (expected (length s) c (token.number token.colon)) f) ∙ e in absurd (let v : ◌≡◌ {A = ℕ} 0 1 = cc in omega arith)
        go (u ∷ us) f =
            let k = comes u us (sym (ex ∙ ap (expected (length s) c (token.number token.colon)) f) ∙ e) in
            let first : Reached s t n c (stepped c) us 0 0 = reached_first s t n u ready f in
            let inner : ArrowReads s t n (stepped c) (arrow checks (tokens_left s t n (stepped c).token.0)) r old new = subst (λ (v : Cursor). Ready n v → ArrowReads s t n v (arrow checks (tokens_left s t n v.token.0)) r old new) k.1 reads (reached_ready s t n ready first) in
            let here : ArrowReads s t n c (arrow checks us) r old new = from_first (arrow checks us) u us r old new f (subst (λ (v : List Token). ArrowReads s t n (stepped c) (arrow checks v) r old new) first.left inner) in
            subst (λ (Q : Parsed Arrow). ArrowReads s t n c Q r old new) (sym (ap or_absent k.0 ∙ lifted (arrow checks us))) here
