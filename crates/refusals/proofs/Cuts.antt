-- Refusals 4 and 5 come exactly where the text before the place is cut into skips and tokens (`no_token_exactly`,
-- `too_many_exactly`), and neither exactly where the whole text is tiled by at most 1,024 tokens and by skips
-- (`tokens_exactly`). Assumes nothing.
use Prim.Native.Nat.{ℕ, zero, suc, ◌+◌, ◌≤◌, ◌<◌}
use mathlib.Core.Bool.{Bool, true, false}
use mathlib.Core.Path.{◌≡◌, refl, sym, ap, ◌∙◌}
use mathlib.Core.List.{List, [], ◌∷◌, ◌++◌, append_assoc}
use mathlib.Core.Logic.{◌↔◌}
use mathlib.Core.Option.{Option, none, some}
use native.Mathlib.Omega.{arith}
use native.Mathlib.Nat.{add-zero, zero-add}
use lib.Dec.{ltb}
use lib.ListN.{length, take, drop, length-append, length-drop, take-append-drop}
use lib.Seq.{length-take-le, take-append_seam, drop-append_seam}
use borrow.Author.Tests.{ltb-true, ltb-false}
use Rattle.records.specs.Limits.{record_limit}
use Rattle.records.specs.TokenKind as kind
use Rattle.records.specs.declared.kinds.TokenKind.{TokenKind}
use Rattle.matches.specs.declared.Lexed.{Lexed}
use Rattle.matches.specs.declared.Lexed.TheVariants.{Token as OfKind, Skip, NoMatch}
use Rattle.matches.specs.Rows.{Row, rows}
use Rattle.matches.specs.Longest.{made, lex_at}
use Rattle.matches.specs.Sets.{Front, Among, Lexes, wins, nothing}
use Rattle.lex.specs.Tokens.{Token, Lexing, behind_tokens, lex_from, lexing}
use Rattle.lex.specs.Tiles.{Tiles}
use Rattle.matches.proofs.Longest.{lexed, lexes_once}
use Rattle.matches.proofs.Sizes.{Sized, match_sized}
use Rattle.lex.proofs.Going.{front_none, front_skip, front_full, front_token}
use Rattle.lex.proofs.Tiling.{tiling, tiles_lexed, tokens_few}
use Rattle.refusals.specs.Cuts.{Cut, end, skip, token, CutUpTo, NothingMatches, TokenTooMany}
use Rattle.lex.specs.declared.LexError.{LexError}
use Rattle.lex.specs.declared.LexError.TheVariants.{ShortTable, LongSource, NotUtf8, NoToken, TooManyTokens}
use Rattle.std.specs.Prelude.{Err, Ok, Result}

-- ---- no match: no row has a front

pub unmatched_rows : (s : List ℕ) → (lex_at s ≡ NoMatch) ↔ ((r : Row) → Among r rows → (n : ℕ) → Front r s n → ⊥)
unmatched_rows s = (λ e. lacks (rw e at (lexed s)), λ f. lexes_once rows s (lex_at s) NoMatch (lexed s) (nothing f))
  where
    matched : (k : Option kind.Kind) (n : ℕ) → NoMatch ≡ made k n → ⊥
    matched none n e = let z : ◌≡◌ {A = ℕ} 0 1 = cc in omega arith
    matched (some k) n e = let z : ◌≡◌ {A = ℕ} 0 1 = cc in omega arith

    lacks : Lexes rows s NoMatch → (r : Row) → Among r rows → (n : ℕ) → Front r s n → ⊥
    lacks (nothing f) = f
    lacks (wins before r behind_tokens n e w is) = absurd (matched r.kind n is)

-- ---- what is lexed is cut

-- why the lexing ends: so many tokens stand before the offset p, and `rest` stands there
abbrev Why : Result ℕ LexError → (count p : ℕ) → (rest : List ℕ) → Type 0
Why (Ok n) count p rest = rest ≡ []
Why (Err ShortTable) count p rest = ⊥
Why (Err LongSource) count p rest = ⊥
Why (Err (NotUtf8 q)) count p rest = ⊥
Why (Err (NoToken q)) count p rest = (p ≡ q.0) × (0 < length rest) × (lex_at rest ≡ NoMatch)
Why (Err (TooManyTokens q)) count p rest = (p ≡ q.0) × (count ≡ record_limit) × ((k : TokenKind) × (n : ℕ) × (lex_at rest ≡ OfKind k n))

-- s, which stands at the offset `at` with `count` tokens before it, is cut up to where the lexing ends
record Ending (at count : ℕ) (s : List ℕ) (e : Result ℕ LexError) : Type 0 where
  front : List ℕ
  rest : List ℕ
  tokens : List Token
  whole : s ≡ front ++ rest
  cut : Cut at front rest tokens
  few : count + length tokens ≤ record_limit
  why : Why e (count + length tokens) (at + length front) rest

-- at once
ends_here : (at count : ℕ) (s : List ℕ) (e : Result ℕ LexError) → count ≤ record_limit → Why e count at s → Ending at count s e
ends_here at count s e h w = record { front = []; rest = s; tokens = []; whole = refl; cut = end; few = omega arith; why = rw (add-zero at, add-zero count) w }

-- behind the first m bytes
module _ (at m count c : ℕ) (s : List ℕ) (e : Result ℕ LexError) (h : m ≤ length s) (p : 0 < m) (r : Ending (at + m) c (drop m s) e) where
  len : length (take m s) ≡ m
  len = length-take-le m s h

  whole_on : s ≡ (take m s ++ r.front) ++ r.rest
  whole_on = sym (take-append-drop m s) ∙ ap (λ (u : List ℕ). take m s ++ u) r.whole ∙ sym (append_assoc (take m s) r.front r.rest)

  place_on : at + length (take m s ++ r.front) ≡ at + m + length r.front
  place_on = omega (arith, length-append (take m s) r.front, len)

  first_is : (l : Lexed) → lex_at s ≡ l → lex_at (take m s ++ (r.front ++ r.rest)) ≡ l
  first_is l q = ap lex_at (sym (append_assoc (take m s) r.front r.rest) ∙ sym whole_on) ∙ q

  ends_skip : lex_at s ≡ Skip m → c ≡ count → Ending at count s e
  ends_skip q z =
      record {
        front = take m s ++ r.front;
        rest = r.rest;
        tokens = r.tokens;
        whole = whole_on;
        cut = skip {at = at} (take m s) r.front {rest = r.rest} {ts = r.tokens} (rw len p) (rw len (first_is (Skip m) q)) (rw len r.cut);
        few = rw z at r.few;
        why = rw (place_on, ← z) r.why;
      }

  ends_token : (k : TokenKind) → lex_at s ≡ OfKind k m → c ≡ count + 1 → Ending at count s e
  ends_token k q z =
      let t : Token = record { kind = k; start = at; text = take m s } in
      let size : count + length (t ∷ r.tokens) ≡ c + length r.tokens = omega arith in
      record {
        front = take m s ++ r.front;
        rest = r.rest;
        tokens = t ∷ r.tokens;
        whole = whole_on;
        cut = token {at = at} t r.front {rest = r.rest} {ts = r.tokens} refl (rw len p) (rw len (first_is (OfKind k m) q)) (rw len r.cut);
        few = rw size r.few;
        why = rw (place_on, size) r.why;
      }

-- one piece, and what follows it
module _ (f at count : ℕ) (s : List ℕ) (some : 0 < length s) (h : length s ≤ suc f) (c : count ≤ record_limit) (again : (at count : ℕ) (s : List ℕ) → length s ≤ f → count ≤ record_limit → Ending at count s (lex_from at 0 count s).answer) where
  from_token : (k : TokenKind) (m : ℕ) → lex_at s ≡ OfKind k m → 0 < m → m ≤ length s → (x : Bool) → ltb count record_limit ≡ x → Ending at count s (lex_from at 0 count s).answer
  from_token k m q p i true x =
      let b = ltb-true count record_limit x in
      rw (front_token at count s some k m p b q)
      (ends_token at m count (count + 1) s _ i p (again (at + m) (count + 1) (drop m s) (simp length-drop (omega arith)) (omega arith)) k q refl)
  from_token k m q p i false x =
      let b = ltb-false count record_limit x in
      rw (front_full at count s some k m b q) (ends_here at count s (Err (TooManyTokens (record { 0 = at }))) c (refl, omega arith, (k, m, q)))

  from_piece : (l : Lexed) → lex_at s ≡ l → Sized s l → Ending at count s (lex_from at 0 count s).answer
  from_piece NoMatch q z = rw (front_none at count s some q) (ends_here at count s (Err (NoToken (record { 0 = at }))) c (refl, some, q))
  from_piece (Skip m) q z =
      rw (front_skip at count s some m z.0 q)
      (ends_skip at m count count s _ z.1 z.0 (again (at + m) count (drop m s) (simp length-drop (omega (arith, z.0))) c) q refl)
  from_piece (OfKind k m) q z = from_token k m q z.0 z.1 (ltb count record_limit) refl

ends_empty : (at count : ℕ) → count ≤ record_limit → Ending at count [] (lex_from at 0 count []).answer
unfolding lex_from
ends_empty at count c = ends_here at count [] (Ok count) c refl

ends_from : (f at count : ℕ) (s : List ℕ) → length s ≤ f → count ≤ record_limit → Ending at count s (lex_from at 0 count s).answer
ends_from zero at count [] h c = ends_empty at count c
ends_from zero at count (b ∷ s) h c = absurd (omega arith)
ends_from (suc f) at count [] h c = ends_empty at count c
ends_from (suc f) at count (b ∷ s) h c = from_piece f at count (b ∷ s) (omega arith) h c (λ at count s h c. ends_from f at count s h c) (lex_at (b ∷ s)) refl (match_sized (b ∷ s))

-- ---- what is cut is lexed, up to the rest

pub cut_lexed : {at : ℕ} {front rest : List ℕ} {ts : List Token} → Cut at front rest ts → (count : ℕ) → count + length ts ≤ record_limit → lex_from at 0 count (front ++ rest) ≡ behind_tokens ts (lex_from (at + length front) 0 (count + length ts) rest)
cut_lexed {at} end count h = rw (add-zero at, add-zero count)
cut_lexed (skip {at} w s {rest} p e r) count h =
    let some : 0 < length (w ++ (s ++ rest)) = simp length-append (omega arith) in
    let place : at + length (w ++ s) ≡ at + length w + length s = simp length-append (omega arith) in
    rw (append_assoc w s rest, place) (front_skip at count (w ++ (s ++ rest)) some (length w) p e ∙ rw (drop-append_seam w (s ++ rest)) (cut_lexed r count h))
cut_lexed (token {at} t s {rest} {ts} es p e r) count h =
    let some : 0 < length (t.text ++ (s ++ rest)) = simp length-append (omega arith) in
    let place : at + length (t.text ++ s) ≡ at + length t.text + length s = simp length-append (omega arith) in
    let size : count + suc (length ts) ≡ count + 1 + length ts = omega arith in
    rw (append_assoc t.text s rest, place, size)
    (front_token at count (t.text ++ (s ++ rest)) some t.kind (length t.text) p (omega arith) e
    ∙ rw (drop-append_seam t.text (s ++ rest), take-append_seam t.text (s ++ rest), cut_lexed r (count + 1) (omega arith), ← es))

-- ---- exactly

-- the tokens of a front within the limit, and then the lexing of the rest
module _ (source : List ℕ) (p : ℕ) (rest : List ℕ) (ts : List Token) (b : CutUpTo source p rest ts) (few : length ts ≤ record_limit) where
  cut_rest : (lexing source).answer ≡ (lex_from p 0 (length ts) rest).answer
  cut_rest =
      let e = cut_lexed b.cut 0 (omega arith) in
      rw b.whole (ap (λ (l : Lexing). l.answer) e ∙ rw (zero-add (length b.front), zero-add (length ts), b.place))

module _ (source : List ℕ) (p : ℕ) where
  up_to : (e : Result ℕ LexError) (r : Ending 0 0 source e) → 0 + length r.front ≡ p → CutUpTo source p r.rest r.tokens
  up_to e r q = record { front = r.front; whole = r.whole; place = omega arith; cut = r.cut }

  -- refusal 4
  pub no_token_exactly : ((lexing source).answer ≡ Err (NoToken (record { 0 = p }))) ↔ NothingMatches source p
  no_token_exactly = (there, back)
    where
      there : (lexing source).answer ≡ Err (NoToken (record { 0 = p })) → NothingMatches source p
      there e =
          let r : Ending 0 0 source (Err (NoToken (record { 0 = p }))) = rw e at (ends_from (length source) 0 0 source (omega arith) (omega arith)) in
          record {
            rest = r.rest;
            tokens = r.tokens;
            before = up_to _ r r.why.0;
            few = omega (arith, r.few);
            some = r.why.1;
            none = (unmatched_rows r.rest).0 r.why.2;
          }

      back : NothingMatches source p → (lexing source).answer ≡ Err (NoToken (record { 0 = p }))
      back r =
          cut_rest source p r.rest r.tokens r.before r.few
          ∙ rw (front_none p (length r.tokens) r.rest r.some ((unmatched_rows r.rest).1 r.none))

  -- refusal 5
  pub too_many_exactly : ((lexing source).answer ≡ Err (TooManyTokens (record { 0 = p }))) ↔ TokenTooMany source p
  too_many_exactly = (there, back)
    where
      there : (lexing source).answer ≡ Err (TooManyTokens (record { 0 = p })) → TokenTooMany source p
      there e =
          let r : Ending 0 0 source (Err (TooManyTokens (record { 0 = p }))) = rw e at (ends_from (length source) 0 0 source (omega arith) (omega arith)) in
          record {
            rest = r.rest;
            tokens = r.tokens;
            before = up_to _ r r.why.0;
            full = omega (arith, r.why.1);
            kind = r.why.2.0;
            size = r.why.2.1;
            next = r.why.2.2;
          }

      back : TokenTooMany source p → (lexing source).answer ≡ Err (TooManyTokens (record { 0 = p }))
      back r =
          let z : Sized r.rest (OfKind r.kind r.size) = rw r.next at (match_sized r.rest) in
          cut_rest source p r.rest r.tokens r.before (omega (arith, r.full))
          ∙ rw (front_full p (length r.tokens) r.rest (omega (arith, z.0, z.1)) r.kind r.size (omega (arith, r.full)) r.next)

-- neither: the whole source is tiled
pub tokens_exactly : (source : List ℕ) (n : ℕ) → ((lexing source).answer ≡ Ok n) ↔ ((ts : List Token) × Tiles 0 source ts × (length ts ≡ n) × (n ≤ record_limit))
tokens_exactly source n = (there, back)
  where
    there : (lexing source).answer ≡ Ok n → (ts : List Token) × Tiles 0 source ts × (length ts ≡ n) × (n ≤ record_limit)
    there e = let t = tiling source n e in ((lexing source).tokens, t.0, t.1, tokens_few source n e)

    back : ((ts : List Token) × Tiles 0 source ts × (length ts ≡ n) × (n ≤ record_limit)) → (lexing source).answer ≡ Ok n
    back (ts, t, s, h) = ap (λ (l : Lexing). l.answer) (tiles_lexed t (omega arith)) ∙ ap Ok s
