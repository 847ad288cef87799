-- The table of names while the walk goes on: its words, a name that comes further, and the texts, which stay. Assumes nothing.
use Prim.Native.Nat.{ℕ, zero, suc, ◌+◌, ◌-◌, ◌≤◌, ◌<◌}
use mathlib.Core.Path.{◌≡◌, refl, sym, ap, ap₂, subst, ◌∙◌}
use mathlib.Core.Logic.{inl, inr, ◌≢◌}
use mathlib.Core.List.{List, [], ◌∷◌}
use native.Mathlib.Omega.{arith}
use lib.ListN.{length, get_or, set}
use Rattle.records.specs.Limits.{record_limit, name_width}
use Rattle.records.specs.Records.{name_words}
use Rattle.records.specs.declared.Span.{Span}
use Rattle.tables.specs.Tables.{table_of, word_at, written, span_at}
use Rattle.tables.proofs.Laws.{Wide, none, more, table_word, table_replace}
use Rattle.lex.specs.Tokens.{Token}
use Rattle.literals.specs.Literals.{span_text}
use Rattle.grammar.specs.Tree.{Line}
use Rattle.grammar.specs.Part.{span_of}
use Rattle.grammar.specs.Places.{Each}
use Rattle.grammar.proofs.Records.{each_back}
use Rattle.symbols.specs.Symbols.{Text, texts}
use Rattle.names.specs.Names.{names_of, name_record, first_from, number_of}
use Rattle.names.specs.Uses.{In}
use Rattle.symbols.specs.Texts.{name_text, texts_from}
use Rattle.names.specs.Held.{InPlace}
use Rattle.names.proofs.Laws.{named}
use Rattle.walk.specs.Walk.{Status, marked}
use Rattle.walk.proofs.Basics.{marked_same, marked_other}
use Rattle.resolve.specs.Words.{status_word, names_with}
use Rattle.resolve.specs.Turns.{status_rows, name_no}

abbrev no_name : Token
no_name = record { kind = record { 0 = 0 }; start = 0; text = [] }

module _ (ls : List Line) where
  pub rows_length : (st : ℕ → Status) (n : ℕ) (xs : List Token) → length (status_rows ls st n xs) ≡ length xs
  unfolding status_rows
  rows_length st n [] = refl
  rows_length st n (x ∷ xs) = ap suc (rows_length st (suc n) xs)

  pub rows_wide : (st : ℕ → Status) (n : ℕ) (xs : List Token) → Wide name_width (status_rows ls st n xs)
  unfolding status_rows
  rows_wide st n [] = none
  rows_wide st n (x ∷ xs) = more refl (rows_wide st (suc n) xs)

  rows_at : (st : ℕ → Status) (n : ℕ) (xs : List Token) (i m : ℕ) → i < length xs → m ≡ n + i → get_or (status_rows ls st n xs) i [] ≡ name_words (name_record ls (status_word (st m)) (get_or xs i no_name))
  unfolding status_rows
  rows_at st n [] i m h e = absurd (omega arith)
  rows_at st n (x ∷ xs) zero m h e = let z : m ≡ n = omega arith in rw z
  rows_at st n (x ∷ xs) (suc i) m h e = rows_at st (suc n) xs i m (omega arith) (omega arith)

  rows_past : (st : ℕ → Status) (n : ℕ) (xs : List Token) (m : ℕ) (v : Status) → m < n → status_rows ls (marked m v st) n xs ≡ status_rows ls st n xs
  unfolding status_rows
  rows_past st n [] m v h = refl
  rows_past st n (x ∷ xs) m v h =
      let d : n ≢ m = omega arith in
      rw (marked_other m v st n d, rows_past st (suc n) xs m v (omega arith))

  rows_set : (st : ℕ → Status) (n : ℕ) (xs : List Token) (i m : ℕ) (v : Status) → i < length xs → m ≡ n + i
      → set (status_rows ls st n xs) i (name_words (name_record ls (status_word v) (get_or xs i no_name))) ≡ status_rows ls (marked m v st) n xs
  unfolding status_rows
  rows_set st n [] i m v h e = absurd (omega arith)
  rows_set st n (x ∷ xs) zero m v h e =
      let z : m ≡ n = omega arith in
      rw (z, marked_same n v st, rows_past st (suc n) xs m v (omega arith))
  rows_set st n (x ∷ xs) (suc i) m v h e =
      let d : n ≢ m = omega arith in
      rw (marked_other m v st n d, rows_set st (suc n) xs i m v (omega arith) (omega arith))

  module _ (ns : List Token) (few : length ns ≤ record_limit) (st : ℕ → Status) (old : List ℕ) where
    pub word_of : (m j : ℕ) → 1 ≤ m → m ≤ length ns → word_at name_width (table_of name_width (status_rows ls st 1 ns) old) m j ≡ get_or (name_words (name_record ls (status_word (st m)) (name_no ns m))) j 0
    unfolding name_no
    word_of m j a b =
        let e : m - 1 + 1 ≡ m = omega arith in
        let one : word_at name_width (table_of name_width (status_rows ls st 1 ns) old) (m - 1 + 1) j ≡ get_or (get_or (status_rows ls st 1 ns) (m - 1) []) j 0 =
        table_word name_width old (rows_wide st 1 ns) (omega (arith, rows_length st 1 ns)) (m - 1) j (omega (arith, rows_length st 1 ns)) in
        ap (λ (x : ℕ). word_at name_width (table_of name_width (status_rows ls st 1 ns) old) x j) (sym e) ∙ one
        ∙ ap (λ (r : List ℕ). get_or r j 0) (rows_at st 1 ns (m - 1) m (omega arith) (omega arith))

    -- start, length and expression of a name, and how far it has come
    pub word_start : (m : ℕ) → 1 ≤ m → m ≤ length ns → word_at name_width (table_of name_width (status_rows ls st 1 ns) old) m 0 ≡ (name_no ns m).start
    word_start m a b = word_of m 0 a b ∙ unfold name_record in refl

    pub word_len : (m : ℕ) → 1 ≤ m → m ≤ length ns → word_at name_width (table_of name_width (status_rows ls st 1 ns) old) m 1 ≡ length (name_no ns m).text
    word_len m a b = word_of m 1 a b ∙ unfold name_record in refl

    pub word_expr : (m : ℕ) → 1 ≤ m → m ≤ length ns → word_at name_width (table_of name_width (status_rows ls st 1 ns) old) m 2 ≡ number_of (first_from 0 ls (name_no ns m).text)
    word_expr m a b = word_of m 2 a b ∙ unfold name_record in refl

    pub word_status : (m : ℕ) → 1 ≤ m → m ≤ length ns → word_at name_width (table_of name_width (status_rows ls st 1 ns) old) m 3 ≡ status_word (st m)
    word_status m a b = word_of m 3 a b ∙ unfold name_record in refl

    pub span_of_law : (m : ℕ) → 1 ≤ m → m ≤ length ns → span_at name_width (table_of name_width (status_rows ls st 1 ns) old) m 0 ≡ span_of (name_no ns m)
    span_of_law m a b = ap₂ {C = Span} (λ x y. record { start = record { 0 = x }; len = y }) (word_start m a b) (word_len m a b)

    -- a name that comes as far as v
    pub names_marked : (m : ℕ) (v : Status) → 1 ≤ m → m ≤ length ns
        → names_with (table_of name_width (status_rows ls st 1 ns) old) m (status_word v) ≡ table_of name_width (status_rows ls (marked m v st) 1 ns) old
    names_marked m v a b =
        ap₂ (λ (s : Span) (e : ℕ). written name_width (table_of name_width (status_rows ls st 1 ns) old) m (name_words (record { span = s; expr = record { 0 = e }; node = record { 0 = status_word v } }))) (span_of_law m a b) (word_expr m a b)
        ∙ ap₂ (λ (x : ℕ) (r : List ℕ). written name_width (table_of name_width (status_rows ls st 1 ns) old) x r) (sym e) row
        ∙ table_replace name_width old (rows_wide st 1 ns) (omega (arith, rows_length st 1 ns)) (m - 1) (name_words (name_record ls (status_word v) (get_or ns (m - 1) no_name))) (omega (arith, rows_length st 1 ns)) refl
        ∙ ap (λ (rs : List (List ℕ)). table_of name_width rs old) (rows_set st 1 ns (m - 1) m v (omega arith) (omega arith))
      where
        e : m - 1 + 1 ≡ m
        e = omega arith

        row : name_words (record { span = span_of (name_no ns m); expr = record { 0 = number_of (first_from 0 ls (name_no ns m).text) }; node = record { 0 = status_word v } })
            ≡ name_words (name_record ls (status_word v) (get_or ns (m - 1) no_name))
        row = unfold name_record name_no in refl

  -- ---- texts

  texts_from_law : (source nm : List ℕ) (k c : ℕ) (xs : List Token) → c ≡ length xs → ((i : ℕ) → i < length xs → name_text source nm (k + i) ≡ (get_or xs i no_name).text) → texts_from source nm k c ≡ texts xs
  unfolding texts_from
  texts_from_law source nm k zero [] e h = refl
  texts_from_law source nm k (suc c) [] e h = absurd (omega arith)
  texts_from_law source nm k zero (x ∷ xs) e h = absurd (omega arith)
  texts_from_law source nm k (suc c) (x ∷ xs) e h =
      let z : k + 0 ≡ k = omega arith in
      ap₂ {C = List Text} (λ t ts. t ∷ ts) (ap (name_text source nm) (sym z) ∙ h 0 (omega arith))
      (texts_from_law source nm (suc k) c xs (omega arith) (λ i q. let y : suc k + i ≡ k + suc i = omega arith in ap (name_text source nm) y ∙ h (suc i) (omega arith)))

in_get : (xs : List Token) (i : ℕ) → i < length xs → In (get_or xs i no_name) xs
in_get [] i h = absurd (omega arith)
in_get (x ∷ xs) zero h = inl refl
in_get (x ∷ xs) (suc i) h = inr (in_get xs i (omega arith))

-- each name of the lines stands in the source
name_in_place : (source : List ℕ) (ls : List Line) → Each (λ (l : Line). InPlace source l.name) ls → (i : ℕ) → i < length (names_of ls) → InPlace source (get_or (names_of ls) i no_name)
name_in_place source ls h i k =
    let f = (named ls).first (get_or (names_of ls) i no_name) (in_get (names_of ls) i k) in
    let b : Each (λ (l : Line). InPlace source l.name) (f.line ∷ f.after) = each_back _ f.before (f.line ∷ f.after) (subst (λ (x : List Line). Each (λ (l : Line). InPlace source l.name) x) f.whole h) in
    subst (λ (t : Token). InPlace source t) f.own b.0

-- THE TEXTS STAY while statuses change
pub texts_same : (source : List ℕ) (ls : List Line) → length (names_of ls) ≤ record_limit → Each (λ (l : Line). InPlace source l.name) ls → (st : ℕ → Status) (old : List ℕ)
    → texts_from source (table_of name_width (status_rows ls st 1 (names_of ls)) old) 1 (length (names_of ls)) ≡ texts (names_of ls)
unfolding name_text name_no
texts_same source ls few h st old = texts_from_law ls source (table_of name_width (status_rows ls st 1 (names_of ls)) old) 1 (length (names_of ls)) (names_of ls) refl one
  where
    one : (i : ℕ) → i < length (names_of ls) → name_text source (table_of name_width (status_rows ls st 1 (names_of ls)) old) (1 + i) ≡ (get_or (names_of ls) i no_name).text
    one i k =
        let z : 1 + i - 1 ≡ i = omega arith in
        ap (span_text source) (span_of_law ls (names_of ls) few st old (1 + i) (omega arith) (omega arith))
        ∙ ap (λ (j : ℕ). span_text source (span_of (get_or (names_of ls) j no_name))) z
        ∙ name_in_place source ls h i k
