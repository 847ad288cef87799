-- Laws of the tokens that a table holds: how many are left, the next one, what is left behind some of them, and that a table of
-- tokens holds just them. Assumes nothing.
use Rattle.std.specs.Prelude.{if◌then◌else◌}
use Prim.Native.Nat.{ℕ, zero, suc, ◌+◌, ◌-◌, ◌≤◌, ◌<◌}
use mathlib.Core.Bool.{Bool, true, false}
use mathlib.Core.Path.{◌≡◌, refl, sym, ap, ◌∙◌}
use mathlib.Core.List.{List, [], ◌∷◌, ◌++◌, append_assoc}
use native.Mathlib.Omega.{arith}
use native.Mathlib.Numerals.{add-one}
use lib.ListN.{length, take, drop, get_or, length-append, length-drop}
use lib.Dec.{leb}
use lib.Seq.{length-take-le}
use borrow.Author.Tests.{leb-true, le-leb}
use Rattle.records.specs.Limits.{record_limit, token_width}
use Rattle.records.specs.Records.{token_words}
use Rattle.tables.specs.Tables.{table_of, word_at}
use Rattle.tables.proofs.Laws.{table_word}
use Rattle.lex.specs.Tokens.{Token, record_of, rows_of}
use Rattle.lex.specs.Tiles.{Inside}
use Rattle.lex.proofs.Going.{rows_wide, rows_length}
use Rattle.literals.specs.Literals.{span_text}
use Rattle.cursor.specs.Tokens.{token_at, token_of, tokens_from, tokens_left}

-- how long the text of a span is
pub text_length : (source : List ℕ) (a n : ℕ) → length (span_text source (record { start = record { 0 = a }; len = n })) ≡ (if leb (a + n) (length source) then n else 0)
text_length source a n = go (leb (a + n) (length source)) refl
  where
    go : (b : Bool) → leb (a + n) (length source) ≡ b → length (if b then take n (drop a source) else []) ≡ (if b then n else 0)
    go true e = length-take-le n (drop a source) (omega (arith, leb-true (a + n) (length source) e, length-drop a source))
    go false e = refl

-- a token of the table is the token of its record
pub token_again : (source tokens : List ℕ) (n : ℕ) → token_of source (record_of (token_at source tokens n)) ≡ token_at source tokens n
unfolding token_at
token_again source tokens n =
    ap (λ (w : List ℕ). record { kind = record { 0 = word_at token_width tokens n 0 }; start = word_at token_width tokens n 1; text = w })
    (go (word_at token_width tokens n 1) (word_at token_width tokens n 2))
  where
    by : (a m : ℕ) (b : Bool) → leb (a + m) (length source) ≡ b → span_text source (record { start = record { 0 = a }; len = if b then m else 0 }) ≡ (if b then take m (drop a source) else [])
    by a m true e = rw e
    by a m false e = none (leb (a + 0) (length source))
      where
        none : (b : Bool) → (if b then take 0 (drop a source) else []) ≡ []
        none true = refl
        none false = refl

    go : (a m : ℕ) → span_text source (record { start = record { 0 = a }; len = length (span_text source (record { start = record { 0 = a }; len = m })) }) ≡ span_text source (record { start = record { 0 = a }; len = m })
    go a m =
        ap (λ (k : ℕ). span_text source (record { start = record { 0 = a }; len = k })) (text_length source a m)
        ∙ by a m (leb (a + m) (length source)) refl

module _ (source tokens : List ℕ) where
  from_length : (k p : ℕ) → length (tokens_from source tokens k p) ≡ k
  unfolding tokens_from
  from_length zero p = refl
  from_length (suc k) p = ap suc (from_length k (suc p))

  pub left_length : (n p : ℕ) → length (tokens_left source tokens n p) ≡ n - p
  unfolding tokens_left
  left_length n p = from_length (n - p) p

  pub left_none : (n p : ℕ) → n ≤ p → tokens_left source tokens n p ≡ []
  unfolding tokens_left tokens_from
  left_none n p h = let z : n - p ≡ 0 = omega arith in rw z

  pub left_next : (n p : ℕ) → p < n → tokens_left source tokens n p ≡ token_at source tokens (p + 1) ∷ tokens_left source tokens n (p + 1)
  unfolding tokens_left tokens_from
  left_next n p h = let z : n - p ≡ suc (n - suc p) = omega arith in rw (z, add-one p)

  from_rest : (k p : ℕ) (used rest : List Token) → tokens_from source tokens k p ≡ used ++ rest → rest ≡ tokens_from source tokens (k - length used) (p + length used)
  unfolding tokens_from
  from_rest k p [] rest e = let z : p + 0 ≡ p = omega arith in let y : k - 0 ≡ k = omega arith in rw (z, y) (sym e)
  from_rest zero p (t ∷ used) rest e = let y : ◌≡◌ {A = ℕ} 0 1 = cc in absurd (omega arith)
  from_rest (suc k) p (t ∷ used) rest e =
      let f : tokens_from source tokens k (suc p) ≡ used ++ rest = cc in
      let z : suc p + length used ≡ p + suc (length used) = omega arith in
      let y : k - length used ≡ suc k - suc (length used) = omega arith in
      from_rest k (suc p) used rest f ∙ rw (z, y)

  -- what is left behind some of the tokens that are left
  pub left_rest : (n p : ℕ) (used rest : List Token) → p ≤ n → tokens_left source tokens n p ≡ used ++ rest → (rest ≡ tokens_left source tokens n (n - length rest)) × (n - length rest ≡ p + length used) × (length rest ≤ n)
  unfolding tokens_left
  left_rest n p used rest h e =
      let l : n - p ≡ length used + length rest = sym (from_length (n - p) p) ∙ ap length e ∙ length-append used rest in
      let q : p + length used ≡ n - length rest = omega arith in
      let k : n - p - length used ≡ n - (n - length rest) = omega arith in
      (from_rest (n - p) p used rest e ∙ rw (q, k), sym q, omega arith)

-- ---- the table of tokens that lie in the source

-- the row of the token that stands behind some others
row_at : (pre post : List Token) (t : Token) → get_or (rows_of (pre ++ (t ∷ post))) (length pre) [] ≡ token_words (record_of t)
row_at [] post t = refl
row_at (p ∷ pre) post t = row_at pre post t

module _ (source old : List ℕ) (all : List Token) (few : length all ≤ record_limit) where
  abbrev table : List ℕ
  table = table_of token_width (rows_of all) old

  module _ (pre post : List Token) (t : Token) (e : all ≡ pre ++ (t ∷ post)) (in_source : t.start + length t.text ≤ length source) (is_part : t.text ≡ take (length t.text) (drop t.start source)) where
    word_is : (j : ℕ) → word_at token_width table (suc (length pre)) j ≡ get_or (token_words (record_of t)) j 0
    word_is j =
        let size : length (rows_of all) ≡ length pre + suc (length post) = rows_length all ∙ ap length e ∙ length-append pre (t ∷ post) in
        let small : length (rows_of all) ≤ record_limit = omega (arith, rows_length all) in
        let w : word_at token_width table (length pre + 1) j ≡ get_or (get_or (rows_of all) (length pre) []) j 0 = table_word token_width old (rows_wide all) small (length pre) j (omega arith) in
        rw (add-one (length pre)) at w ∙ ap (λ (x : List Token). get_or (get_or (rows_of x) (length pre) []) j 0) e ∙ ap (λ (x : List ℕ). get_or x j 0) (row_at pre post t)

    token_is : token_at source table (suc (length pre)) ≡ t
    unfolding token_at
    token_is =
        rw (word_is 0, word_is 1, word_is 2, le-leb (t.start + length t.text) (length source) in_source)
        (ap (λ (x : List ℕ). record { kind = t.kind; start = t.start; text = x }) (sym is_part))

  held : (pre post : List Token) → all ≡ pre ++ post → Inside source post → tokens_from source table (length post) (length pre) ≡ post
  unfolding tokens_from
  held pre [] e h = refl
  held pre (t ∷ post) e h =
      let n : length (pre ++ (t ∷ [])) ≡ suc (length pre) = length-append pre (t ∷ []) ∙ omega arith in
      let r : tokens_from source table (length post) (length (pre ++ (t ∷ []))) ≡ post = held (pre ++ (t ∷ [])) post (e ∙ sym (append_assoc pre (t ∷ []) post)) h.2 in
      let q : tokens_from source table (length post) (suc (length pre)) ≡ post = rw n at r in
      rw (token_is pre post t e h.0 h.1, q)

  -- a table of tokens that lie in the source holds just them
  pub left_all : Inside source all → tokens_left source table (length all) 0 ≡ all
  unfolding tokens_left
  left_all h = let z : length all - 0 ≡ length all = omega arith in rw z (held [] all refl h)
