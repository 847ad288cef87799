-- The loop over lines: the lines read so far, their records in the tables, and what is still to read. Assumes nothing.
use Prim.Native.Nat.{ℕ, ◌+◌, ◌-◌, ◌≤◌, ◌<◌}
use mathlib.Core.Path.{◌≡◌, refl, sym, ap, subst, ◌∙◌}
use mathlib.Core.List.{List, [], ◌∷◌, ◌++◌, map, map-append}
use mathlib.Core.Option.{Option, some}
use native.Mathlib.Omega.{arith}
use native.Mathlib.Nat.{zero-add}
use lib.ListN.{length, length-append, length-map}
use Rattle.records.specs.Limits.{record_limit, line_width, expr_width, type_width}
use Rattle.records.specs.Records.{line_words, expr_words, type_words}
use Rattle.records.specs.declared.LineRecord.{LineRecord}
use Rattle.tables.specs.Tables.{table_of, written, filled}
use Rattle.tables.proofs.Laws.{wide_map, table_again}
use Rattle.tables.proofs.Filled.{filled_table, filled_one, table_beyond}
use Rattle.lex.specs.Tokens.{Token}
use Rattle.checks.specs.declared.Fault.{Fault}
use Rattle.checks.specs.Checks.{Checks}
use Rattle.cursor.specs.declared.Cursor.{Cursor}
use Rattle.cursor.specs.declared.ParseRefusal.{ParseRefusal}
use Rattle.cursor.specs.Tokens.{tokens_left}
use Rattle.cursor.specs.Cursor.{refusal_at, next_number, Ready, Reached, Answer}
use Rattle.cursor.proofs.Laws.{left_length}
use Rattle.cursor.proofs.Steps.{next_below}
use Rattle.cursor.proofs.Reached.{reached_none, reached_ready, reached_go}
use Rattle.grammar.specs.Tree.{Line, types_of}
use Rattle.grammar.specs.Rule.{Parsed, got, stop, go_on, repeat}
use Rattle.grammar.specs.Grammar.{line, another, lines}
use Rattle.grammar.specs.Recorded.{type_records, line_part, exprs_of, source_weight, types_in_line, line_record, line_types, expr_records, line_records, lines_exprs, lines_types, line_rows, expr_rows_of, type_rows_of}
use Rattle.grammar.proofs.Repeat.{repeat_stop, repeat_on, repeat_off}
use Rattle.grammar.proofs.Sound.{lines_steps}
use Rattle.grammar.proofs.Takes.{total, expr_records_law, type_records_law, line_records_law, lines_exprs_law, lines_types_law}
use Rattle.grammar.proofs.Snoc.{lines_exprs_snoc, lines_types_snoc, line_records_snoc}
use Rattle.exprs.specs.Answers.{expr_rows}
use Rattle.lines.specs.Answers.{LineReads}
use Rattle.records.proofs.Pairs.{ok_parts, ok_err, err_same}
use Rattle.ast.specs.Parsing.{lines_in, end_by}
use Rattle.std.specs.Prelude.{Err, Ok}

-- ---- totals

total_snoc : (w : Line → ℕ) (ls : List Line) (l : Line) → total w (ls ++ (l ∷ [])) ≡ total w ls + w l
unfolding total
total_snoc w [] l = omega arith
total_snoc w (k ∷ ls) l = ap (λ (n : ℕ). w k + n) (total_snoc w ls l) ∙ omega arith

line_types_law : (l : Line) (m : ℕ) → length (line_types l m) ≡ types_in_line l
unfolding line_types
line_types_law l m = length-append (type_records (types_of l).source m) (type_records (types_of l).target (m + source_weight l)) ∙ omega (arith, type_records_law (types_of l).source m, type_records_law (types_of l).target (m + source_weight l))

-- ---- records more in a table

-- a table of the records rs, filled on with the records qs, is the table of both
grown : {A : Type 0} (w : ℕ) (f : A → List ℕ) → ((a : A) → length (f a) ≡ w) → (old : List ℕ) (rs qs all : List A) (m : ℕ) (t new : List ℕ) → length rs ≡ m → m + length qs ≤ record_limit → all ≡ rs ++ qs → t ≡ table_of w (map f rs) old → new ≡ filled w t m (map f qs) → new ≡ table_of w (map f all) old
grown w f wide old rs qs all m t new len few ea et en =
    let size : length (map f rs) ≡ m = length-map rs f ∙ len in
    let more : filled w (table_of w (map f rs) old) (length (map f rs)) (map f qs) ≡ table_of w (map f rs ++ map f qs) old =
    filled_table w old (wide_map w f wide rs) (wide_map w f wide qs) (omega (arith, size, length-map qs f)) in
    en ∙ ap (λ (x : List ℕ). filled w x m (map f qs)) et ∙ ap (λ (k : ℕ). filled w (table_of w (map f rs) old) k (map f qs)) (sym size) ∙ more
    ∙ ap (λ (x : List (List ℕ)). table_of w x old) (sym (map-append f rs qs) ∙ ap (map f) (sym ea))

module _ (s t : List ℕ) (n : ℕ) (few : n ≤ record_limit) (checks : Checks) (old_l old_e old_t : List ℕ) where
  abbrev start : Cursor
  start = record { token = record { 0 = 0 }; expr = record { 0 = 0 }; ty = record { 0 = 0 } }

  abbrev ts : List Token
  ts = tokens_left s t n 0

  start_ready : Ready n start
  start_ready = record { few = few; inside = omega arith; exprs = omega arith; types = omega arith }

  pub record Going (c : Cursor) (made : ℕ) (L E T : List ℕ) : Type 0 where
    pub ls : List Line
    pub rest : List Token
    pub whole : lines checks ts ≡ repeat (another checks) ls rest
    pub at : Reached s t n start c rest (total exprs_of ls) (total types_in_line ls)
    pub size : made ≡ length ls
    pub behind : made ≤ c.token.0
    pub lines_in_law : L ≡ table_of line_width (line_rows ls) old_l
    pub exprs_in : E ≡ table_of expr_width (expr_rows_of ls) old_e
    pub types_in : T ≡ table_of type_width (type_rows_of ls) old_t

  pub going_start : (L E T : List ℕ) → L ≡ table_of line_width [] old_l → E ≡ table_of expr_width [] old_e → T ≡ table_of type_width [] old_t → Going start 0 L E T
  unfolding lines total line_records lines_exprs lines_types
  going_start L E T el ee et =
      record { ls = []; rest = ts; whole = refl; at = reached_none s t n start_ready; size = refl; behind = omega arith; lines_in_law = el; exprs_in = ee; types_in = et }

  module _ (c : Cursor) (made : ℕ) (L E T : List ℕ) (g : Going c made L E T) where
    pub ready : Ready n c
    ready = reached_ready s t n start_ready g.at

    -- what is left is where the cursor stands
    line_here : line checks (tokens_left s t n c.token.0) ≡ line checks g.rest
    line_here = ap (line checks) g.at.left

    exprs_so_far : c.expr.0 ≡ total exprs_of g.ls
    exprs_so_far = g.at.exprs ∙ zero-add (total exprs_of g.ls)

    types_so_far : c.ty.0 ≡ total types_in_line g.ls
    types_so_far = g.at.types ∙ zero-add (total types_in_line g.ls)

    -- ---- the end

    pub going_done : n ≤ c.token.0 → (Ok (record { tokens = n; lines = made; exprs = c.expr.0; types = c.ty.0 }) ≡ end_by (length s) ts (lines checks ts)) × (L ≡ table_of line_width (line_rows (lines_in (lines checks ts))) old_l) × (E ≡ table_of expr_width (expr_rows_of (lines_in (lines checks ts))) old_e) × (T ≡ table_of type_width (type_rows_of (lines_in (lines checks ts))) old_t)
    unfolding another
    going_done h =
        let none_left : length g.rest ≡ 0 = ap length (sym g.at.left) ∙ left_length s t n c.token.0 ∙ omega arith in
        let all : lines checks ts ≡ got g.ls [] = g.whole ∙ ended g.rest none_left in
        let counts : Ok (record { tokens = n; lines = made; exprs = c.expr.0; types = c.ty.0 }) ≡ Ok (record { tokens = length ts; lines = length g.ls; exprs = length (lines_exprs g.ls 0); types = length (lines_types g.ls 0) }) =
        rw (left_length s t n 0, g.size, exprs_so_far, types_so_far, lines_exprs_law g.ls 0, lines_types_law g.ls 0) (let z : n - 0 ≡ n = omega arith in rw z) in
        rw all (counts, g.lines_in_law, g.exprs_in, g.types_in)
      where
        ended : (q : List Token) → length q ≡ 0 → repeat (another checks) g.ls q ≡ got g.ls []
        ended [] e = repeat_off (another checks) (lines_steps checks) g.ls [] [] refl
        ended (u ∷ q) e = absurd (omega arith)

    -- a token is left
    module _ (below : c.token.0 < n) where
      -- so the next line is the next step
      abbrev after : Parsed Line → Parsed (Option (List Line))
      after P = go_on P (λ l. got (some (g.ls ++ (l ∷ []))))

      step_is : another checks g.ls g.rest ≡ after (line checks g.rest)
      unfolding another
      step_is = go g.rest (ap length (sym g.at.left) ∙ left_length s t n c.token.0)
        where
          go : (q : List Token) → length q ≡ n - c.token.0 → another checks g.ls q ≡ after (line checks q)
          go [] e = absurd (omega arith)
          go (u ∷ q) e = refl

      -- ---- a line more

      pub going_on : (r : LineRecord) (d : Cursor) (L' E' T' : List ℕ) (k : ℕ) → LineReads s t n c (line checks (tokens_left s t n c.token.0)) (Ok (r, d)) E E' T T' → k ≡ next_number made → L' ≡ written line_width L k (line_words r) → Going d k L' E' T' × (c.token.0 < d.token.0) × (d.token.0 ≤ n)
      unfolding go_on total
      going_on r d L' E' T' k h ek el = go (line checks (tokens_left s t n c.token.0)) line_here h
        where
          go : (P : Parsed Line) → P ≡ line checks g.rest → LineReads s t n c P (Ok (r, d)) E E' T T' → Going d k L' E' T' × (c.token.0 < d.token.0) × (d.token.0 ≤ n)
          go (stop x q) e h = absurd (ok_err h.0)
          go (got l q) e h =
              let parts = ok_parts h.1 in
              let er : r ≡ line_record l c.expr.0 c.ty.0 = parts.0 in
              let ed : h.0 ≡ d = sym parts.1 in
              let to_d : Reached s t n c d q (exprs_of l) (types_in_line l) = subst (λ (i : Cursor). Reached s t n c i q (exprs_of l) (types_in_line l)) ed h.2 in
              let on : c.token.0 < d.token.0 = subst (λ (i : Cursor). c.token.0 < i.token.0) ed h.3 in
              let ls' : List Line = g.ls ++ (l ∷ []) in
              let at' : Reached s t n start d q (total exprs_of ls') (total types_in_line ls') = rw (total_snoc exprs_of g.ls l, total_snoc types_in_line g.ls l) (reached_go s t n g.at to_d) in
              let next : k ≡ made + 1 = ek ∙ sym (next_below (omega (arith, g.behind))) in
              let number : made + 1 ≡ length ls' = ap (λ (i : ℕ). i + 1) g.size ∙ sym (length-append g.ls (l ∷ [])) in
              let step : another checks g.ls g.rest ≡ got (some ls') q = step_is ∙ ap after (sym e) in
              let row : line_words r ≡ line_words (line_record l (total exprs_of g.ls) (total types_in_line g.ls)) = ap line_words (er ∙ ap (λ (i : ℕ). line_record l i c.ty.0) exprs_so_far ∙ ap (line_record l (total exprs_of g.ls)) types_so_far) in
              let room : made < record_limit = omega (arith, g.behind) in (
                record {
                  ls = ls';
                  rest = q;
                  whole = g.whole ∙ repeat_on (another checks) (lines_steps checks) g.ls g.rest q ls' step;
                  at = at';
                  size = next ∙ number;
                  behind = omega (arith, g.behind);
                  lines_in_law =
                      grown line_width line_words (λ a. refl) old_l (line_records g.ls 0 0) (line_record l (total exprs_of g.ls) (total types_in_line g.ls) ∷ []) (line_records ls' 0 0) made L L' (line_records_law g.ls 0 0 ∙ sym g.size) (omega arith)
                      (line_records_snoc g.ls l 0 0 ∙ rw (zero-add (total exprs_of g.ls), zero-add (total types_in_line g.ls))) g.lines_in_law
                      (el ∙ ap (λ (i : ℕ). written line_width L i (line_words r)) next ∙ ap (written line_width L (made + 1)) row ∙ sym (filled_one line_width L made (line_words (line_record l (total exprs_of g.ls) (total types_in_line g.ls)))));
                  exprs_in =
                      grown expr_width expr_words (λ a. refl) old_e (lines_exprs g.ls 0) (expr_records (line_part l) (total exprs_of g.ls)) (lines_exprs ls' 0) (total exprs_of g.ls) E E' (lines_exprs_law g.ls 0)
                      (omega (arith, expr_records_law (line_part l) (total exprs_of g.ls), to_d.room.0, g.at.room.0, to_d.inside))
                      (lines_exprs_snoc g.ls l 0 ∙ rw (zero-add (total exprs_of g.ls))) g.exprs_in
                      (h.4 ∙ ap (λ (i : ℕ). filled expr_width E i (expr_rows (line_part l) i)) exprs_so_far);
                  types_in =
                      grown type_width type_words (λ a. refl) old_t (lines_types g.ls 0) (line_types l (total types_in_line g.ls)) (lines_types ls' 0) (total types_in_line g.ls) T T' (lines_types_law g.ls 0)
                      (omega (arith, line_types_law l (total types_in_line g.ls), to_d.room.1, g.at.room.1, to_d.inside))
                      (lines_types_snoc g.ls l 0 ∙ rw (zero-add (total types_in_line g.ls))) g.types_in
                      (h.5 ∙ ap (λ (i : ℕ). filled type_width T i (map type_words (line_types l i))) types_so_far);
                },
                on,
                to_d.inside,
              )

      -- ---- a refusal

      pub going_refused : (x : ParseRefusal) (E' T' : List ℕ) → LineReads s t n c (line checks (tokens_left s t n c.token.0)) (Err x) E E' T T' → (Err x ≡ end_by (length s) ts (lines checks ts)) × (table_of line_width [] L ≡ table_of line_width (line_rows (lines_in (lines checks ts))) old_l) × (table_of expr_width [] E' ≡ table_of expr_width (expr_rows_of (lines_in (lines checks ts))) old_e) × (table_of type_width [] T' ≡ table_of type_width (type_rows_of (lines_in (lines checks ts))) old_t)
      unfolding go_on line_records lines_exprs lines_types repeat
      going_refused x E' T' h = go (line checks (tokens_left s t n c.token.0)) line_here h
        where
          -- so many records have room
          few_lines : length (line_rows g.ls) ≤ record_limit
          few_lines = omega (arith, length-map (line_records g.ls 0 0) line_words, line_records_law g.ls 0 0, g.size, g.behind, g.at.inside)

          few_exprs : length (expr_rows_of g.ls) ≤ record_limit
          few_exprs = omega (arith, length-map (lines_exprs g.ls 0) expr_words, lines_exprs_law g.ls 0, g.at.room.0, g.at.inside)

          few_types : length (type_rows_of g.ls) ≤ record_limit
          few_types = omega (arith, length-map (lines_types g.ls 0) type_words, lines_types_law g.ls 0, g.at.room.1, g.at.inside)

          stopped : (f : Fault) (q r : List Token) → length r ≡ n - c.token.0 → another checks g.ls r ≡ stop f q → repeat (another checks) g.ls r ≡ stop f q
          stopped f q [] e i = absurd (omega arith)
          stopped f q (u ∷ r) e i = repeat_stop (another checks) (length r) i

          go : (P : Parsed Line) → P ≡ line checks g.rest → LineReads s t n c P (Err x) E E' T T' → (Err x ≡ end_by (length s) ts (lines checks ts)) × (table_of line_width [] L ≡ table_of line_width (line_rows (lines_in (lines checks ts))) old_l) × (table_of expr_width [] E' ≡ table_of expr_width (expr_rows_of (lines_in (lines checks ts))) old_e) × (table_of type_width [] T' ≡ table_of type_width (type_rows_of (lines_in (lines checks ts))) old_t)
          go (got l q) e h = absurd (ok_err (sym h.1))
          go (stop f q) e h =
              let ex : x ≡ refusal_at (length s) f q = err_same h.0 in
              let all : lines checks ts ≡ stop f q = g.whole ∙ stopped f q g.rest (ap length (sym g.at.left) ∙ left_length s t n c.token.0) (step_is ∙ ap after (sym e)) in
              rw all (
                ap Err ex,
                ap (table_of line_width []) g.lines_in_law ∙ table_again line_width [] old_l (wide_map line_width line_words (λ a. refl) (line_records g.ls 0 0)) few_lines,
                table_beyond expr_width [] E' E h.1 ∙ ap (table_of expr_width []) g.exprs_in ∙ table_again expr_width [] old_e (wide_map expr_width expr_words (λ a. refl) (lines_exprs g.ls 0)) few_exprs,
                table_beyond type_width [] T' T h.2 ∙ ap (table_of type_width []) g.types_in ∙ table_again type_width [] old_t (wide_map type_width type_words (λ a. refl) (lines_types g.ls 0)) few_types,
              )

      -- ---- the same, as the code has it

      pub going_read : (a : Answer LineRecord) (r : LineRecord) (d : Cursor) (L' E' T' : List ℕ) (k : ℕ) → (Ready n c → LineReads s t n c (line checks (tokens_left s t n c.token.0)) a E E' T T') → a ≡ Ok (r, d) → k ≡ next_number made → L' ≡ written line_width L k (line_words r) → Going d k L' E' T' × (c.token.0 < d.token.0) × (d.token.0 ≤ n)
      going_read a r d L' E' T' k h ea ek el = going_on r d L' E' T' k (subst (λ (i : Answer LineRecord). LineReads s t n c (line checks (tokens_left s t n c.token.0)) i E E' T T') ea (h ready)) ek el

      pub going_stopped : (a : Answer LineRecord) (x : ParseRefusal) (E' T' L'' E'' T'' : List ℕ) → (Ready n c → LineReads s t n c (line checks (tokens_left s t n c.token.0)) a E E' T T') → a ≡ Err x → L'' ≡ table_of line_width [] L → E'' ≡ table_of expr_width [] E' → T'' ≡ table_of type_width [] T'
          → (Err x ≡ end_by (length s) ts (lines checks ts)) × (L'' ≡ table_of line_width (line_rows (lines_in (lines checks ts))) old_l) × (E'' ≡ table_of expr_width (expr_rows_of (lines_in (lines checks ts))) old_e) × (T'' ≡ table_of type_width (type_rows_of (lines_in (lines checks ts))) old_t)
      going_stopped a x E' T' L'' E'' T'' h ea el ee et =
          let g' = going_refused x E' T' (subst (λ (i : Answer LineRecord). LineReads s t n c (line checks (tokens_left s t n c.token.0)) i E E' T T') ea (h ready)) in
          (g'.0, el ∙ g'.1, ee ∙ g'.2, et ∙ g'.3)
