-- The loop over a text: the tokens met so far, their table, and what is still to lex. Assumes nothing.
use Rattle.std.specs.Prelude.{if◌then◌else◌, Err, Ok, Result}
use Prim.Native.Nat.{ℕ, zero, suc, pred, ◌+◌, ◌≤◌, ◌<◌}
use mathlib.Core.Bool.{Bool, true, false}
use mathlib.Core.Path.{◌≡◌, refl, sym, ap, ◌∙◌}
use mathlib.Core.List.{List, [], ◌∷◌, ◌++◌, append_assoc, append-nil, map-append}
use native.Mathlib.Omega.{arith}
use native.Mathlib.Numerals.{add-one}
use native.Mathlib.Nat.{add-zero}
use lib.Dec.{ltb}
use lib.ListN.{length, take, drop, length-append, length-drop, length-map, drop_of_length-le}
use lib.Seq.{drop-drop, length-take-le}
use borrow.Author.Tests.{lt-ltb, le-ltb, ltb-true, ltb-false}
use Rattle.records.specs.Limits.{record_limit, token_width}
use Rattle.records.specs.Records.{token_words}
use Rattle.records.specs.declared.kinds.TokenKind.{TokenKind}
use Rattle.tables.specs.Tables.{table_of, written}
use Rattle.tables.proofs.Laws.{Wide, none, wide_map, table_append, table_again}
use Rattle.matches.specs.declared.Lexed.{Lexed}
use Rattle.matches.specs.declared.Lexed.TheVariants.{Token as OfKind, Skip, NoMatch}
use Rattle.matches.specs.Longest.{lex_at}
use Rattle.lex.specs.Tokens.{Token, record_of, Lexing, ends, behind_tokens, step_by, lex_from, lexing, kept, rows_of, token_table}
use Rattle.lex.specs.Code.{next_of, token_row, table_next}
use Rattle.lex.proofs.Steps.{skip_fits, token_fits}
use Rattle.lex.specs.declared.LexError.{LexError}
use Rattle.lex.specs.declared.LexError.TheVariants.{NoToken, TooManyTokens}

-- ---- rows of tokens

pub rows_wide : (ts : List Token) → Wide token_width (rows_of ts)
rows_wide ts = wide_map token_width (λ (t : Token). token_words (record_of t)) (λ t. refl) ts

pub rows_length : (ts : List Token) → length (rows_of ts) ≡ length ts
rows_length ts = length-map ts (λ (t : Token). token_words (record_of t))

rows_append : (ts us : List Token) → rows_of (ts ++ us) ≡ rows_of ts ++ rows_of us
rows_append ts us = map-append (λ (t : Token). token_words (record_of t)) ts us

-- ---- what is lexed from an offset on

-- n bytes on
lex_skip : (at k count : ℕ) (s : List ℕ) → lex_from at k count s ≡ lex_from (at + k) 0 count (drop k s)
unfolding lex_from
lex_skip at zero count s = rw add-zero
lex_skip at (suc k) count [] = refl
lex_skip at (suc k) count (b ∷ s) = let z : suc at + k ≡ at + suc k = omega arith in lex_skip (suc at) k count s ∙ rw z

-- s, which is not empty, stands at the offset `at` with `count` tokens before it
module _ (at count : ℕ) (s : List ℕ) (h : 0 < length s) where
  on : (n c : ℕ) → 0 < n → lex_from (suc at) (pred n) c (drop 1 s) ≡ lex_from (at + n) 0 c (drop n s)
  on zero c p = absurd (omega arith)
  on (suc n) c p =
      let z : suc at + n ≡ at + suc n = omega arith in
      let y : 1 + n ≡ suc n = omega arith in
      lex_skip (suc at) n c (drop 1 s) ∙ rw (drop-drop, z, y)

  step : lex_from at 0 count s ≡ step_by (lex_at s) s at count (λ n. lex_from (suc at) (pred n) count (drop 1 s)) (λ n. lex_from (suc at) (pred n) (suc count) (drop 1 s))
  unfolding lex_from
  step = go s h
    where
      go : (s : List ℕ) → 0 < length s → lex_from at 0 count s ≡ step_by (lex_at s) s at count (λ n. lex_from (suc at) (pred n) count (drop 1 s)) (λ n. lex_from (suc at) (pred n) (suc count) (drop 1 s))
      go [] h = absurd (omega arith)
      go (b ∷ t) h = refl

  pub front_none : lex_at s ≡ NoMatch → lex_from at 0 count s ≡ ends (Err (NoToken (record { 0 = at })))
  front_none e = step ∙ rw e

  pub front_skip : (n : ℕ) → 0 < n → lex_at s ≡ Skip n → lex_from at 0 count s ≡ lex_from (at + n) 0 count (drop n s)
  front_skip n p e = step ∙ rw e (on n count p)

  pub front_full : (k : TokenKind) (n : ℕ) → record_limit ≤ count → lex_at s ≡ OfKind k n → lex_from at 0 count s ≡ ends (Err (TooManyTokens (record { 0 = at })))
  front_full k n f e = step ∙ rw (e, le-ltb count record_limit f)

  -- the token that stands at the front
  abbrev pub here : TokenKind → ℕ → Token
  here k n = record { kind = k; start = at; text = take n s }

  pub front_token : (k : TokenKind) (n : ℕ) → 0 < n → count < record_limit → lex_at s ≡ OfKind k n → lex_from at 0 count s ≡ behind_tokens (here k n ∷ []) (lex_from (at + n) 0 (count + 1) (drop n s))
  front_token k n p f e = step ∙ rw (e, lt-ltb count record_limit f, add-one count, on n (suc count) p)

-- ---- where the loop stands

pub record Going (s old : List ℕ) (at count : ℕ) (out : List ℕ) : Type 0 where
  pub tokens : List Token
  pub size : length tokens ≡ count
  pub few : count ≤ record_limit
  pub is : out ≡ table_of token_width (rows_of tokens) old
  pub rest : lexing s ≡ behind_tokens tokens (lex_from at 0 count (drop at s))

pub going_start : (s old out : List ℕ) → out ≡ table_of token_width [] old → Going s old 0 0 out
going_start s old out e = record { tokens = []; size = refl; few = omega arith; is = e; rest = refl }

-- how it ends, with the records set to zero if it is refused
pub record Ends (s old : List ℕ) (e : Result ℕ LexError) (out : List ℕ) : Type 0 where
  pub answer : e ≡ (lexing s).answer
  pub table : table_of token_width [] out ≡ token_table (lexing s) old

-- what holds after a step
abbrev pub Then : (s old : List ℕ) (at : ℕ) → Result (ℕ × ℕ) LexError → List ℕ → Type 0
Then s old at (Ok p) out = Going s old p.0 p.1 out × (at < p.0) × (p.0 ≤ length s)
Then s old at (Err e) out = Ends s old (Err e) out

module _ (s old out : List ℕ) (at count : ℕ) (g : Going s old at count out) (h : at < length s) where
  some : 0 < length (drop at s)
  some = simp length-drop (omega arith)

  refused : (e : LexError) → lex_from at 0 count (drop at s) ≡ ends (Err e) → Ends s old (Err e) out
  unfolding token_table
  refused e f =
      let whole : lexing s ≡ behind_tokens g.tokens (ends (Err e)) = g.rest ∙ ap (behind_tokens g.tokens) f in
      let few : length (rows_of g.tokens) ≤ record_limit = omega (arith, rows_length g.tokens, g.size, g.few) in
      record {
        answer = rw whole;
        table = ap (table_of token_width []) g.is ∙ table_again token_width [] old (rows_wide g.tokens) few ∙ rw whole;
      }

  taken : (k : TokenKind) (n : ℕ) → count < record_limit → lex_at (drop at s) ≡ OfKind k n → Then s old at (Ok ((at + n), (count + 1))) (written token_width out (count + 1) (token_row k at n))
  taken k n f e =
      let fits = token_fits s at h k n e in
      let len : length (take n (drop at s)) ≡ n = length-take-le n (drop at s) (omega (arith, length-drop at s, fits.1)) in
      let size : length (rows_of g.tokens) ≡ count = rows_length g.tokens ∙ g.size in
      let later : lex_from at 0 count (drop at s) ≡ behind_tokens (here at count (drop at s) some k n ∷ []) (lex_from (at + n) 0 (count + 1) (drop (at + n) s)) =
      front_token at count (drop at s) some k n fits.0 f e ∙ rw drop-drop in
      let row : token_row k at n ≡ token_words (record_of (here at count (drop at s) some k n)) = rw len in
      let app : written token_width (table_of token_width (rows_of g.tokens) old) (length (rows_of g.tokens) + 1) (token_row k at n) ≡ table_of token_width (rows_of g.tokens ++ (token_row k at n ∷ [])) old =
      table_append token_width old (rows_wide g.tokens) (omega arith) (token_row k at n) (omega arith) refl in (
        record {
          tokens = g.tokens ++ (here at count (drop at s) some k n ∷ []);
          size = length-append g.tokens (here at count (drop at s) some k n ∷ []) ∙ omega (arith, g.size);
          few = omega arith;
          is = rw (g.is, ← size, app, row) (ap (λ (x : List (List ℕ)). table_of token_width x old) (sym (rows_append g.tokens (here at count (drop at s) some k n ∷ []))));
          rest = g.rest ∙ ap (behind_tokens g.tokens) later ∙ rw append_assoc;
        },
        omega (arith, fits.0),
        fits.1,
      )

  -- a step of the code
  pub next_then : (r : Result (ℕ × ℕ) LexError) (new : List ℕ) → r ≡ next_of (lex_at (drop at s)) at count → new ≡ table_next (lex_at (drop at s)) at count out → Then s old at r new
  next_then r new er en = rw (er, en) (go (lex_at (drop at s)) refl)
    where
      full : (k : TokenKind) (n : ℕ) (b : Bool) → ltb count record_limit ≡ b → lex_at (drop at s) ≡ OfKind k n → Then s old at (if b then Ok ((at + n), (count + 1)) else (Err (TooManyTokens (record { 0 = at })))) (if b then written token_width out (count + 1) (token_row k at n) else out)
      full k n true f e = taken k n (ltb-true count record_limit f) e
      full k n false f e = refused (TooManyTokens (record { 0 = at })) (front_full at count (drop at s) some k n (ltb-false count record_limit f) e)

      go : (l : Lexed) → lex_at (drop at s) ≡ l → Then s old at (next_of l at count) (table_next l at count out)
      go NoMatch e = refused (NoToken (record { 0 = at })) (front_none at count (drop at s) some e)
      go (Skip n) e =
          let fits = skip_fits s at h n e in
          let later : lex_from at 0 count (drop at s) ≡ lex_from (at + n) 0 count (drop (at + n) s) =
          front_skip at count (drop at s) some n fits.0 e ∙ rw drop-drop in (
            record { tokens = g.tokens; size = g.size; few = g.few; is = g.is; rest = g.rest ∙ ap (behind_tokens g.tokens) later },
            omega (arith, fits.0),
            fits.1,
          )
      go (OfKind k n) e = full k n (ltb count record_limit) refl e

-- the same, by what the step answered
pub stepped : (s old out new : List ℕ) (at count : ℕ) → Going s old at count out → at < length s → {q : Result (ℕ × ℕ) LexError} (r : Result (ℕ × ℕ) LexError) → q ≡ r → q ≡ next_of (lex_at (drop at s)) at count → new ≡ table_next (lex_at (drop at s)) at count out → Then s old at r new
stepped s old out new at count g h r e f t = next_then s old out at count g h r new (sym e ∙ f) t

-- the end of the text
pub going_done : (s old out : List ℕ) (at count : ℕ) → Going s old at count out → length s ≤ at → (Ok count ≡ (lexing s).answer) × (out ≡ token_table (lexing s) old)
unfolding lex_from token_table
going_done s old out at count g h =
    let whole : lexing s ≡ behind_tokens g.tokens (ends (Ok count)) = g.rest ∙ rw (drop_of_length-le s h) in
    (rw whole, g.is ∙ rw (whole, append-nil))

-- a table that was cleared before
pub cleared_before : (l : Lexing) (old mid : List ℕ) → mid ≡ table_of token_width [] old → token_table l mid ≡ token_table l old
unfolding token_table
cleared_before l old mid e = ap (table_of token_width (rows_of (kept l.answer l.tokens))) e ∙ table_again token_width (rows_of (kept l.answer l.tokens)) old none (omega arith)
