-- A text that is lexed without refusal is tiled by its tokens and skips (`tiling`), a text so tiled within the limit is lexed
-- into just these tokens (`tiles_lexed`), and tokens that tile lie inside, in order, without overlap. Assumes nothing.
use Rattle.std.specs.Prelude.{if◌then◌else◌, Err, Ok}
use Prim.Native.Nat.{ℕ, zero, suc, pred, ◌+◌, ◌≤◌, ◌<◌}
use mathlib.Core.Bool.{Bool, true, false}
use mathlib.Core.Path.{◌≡◌, refl, sym, ap, ◌∙◌}
use mathlib.Core.List.{List, [], ◌∷◌, ◌++◌}
use native.Mathlib.Omega.{arith}
use native.Mathlib.Nat.{add-zero, zero-add}
use lib.Dec.{ltb}
use lib.ListN.{length, take, drop, length-append, length-drop, take-append-drop}
use lib.Seq.{length-take-le, take-append_seam, drop-append_seam, drop-drop}
use borrow.Author.Tests.{ltb-true, ltb-false}
use Rattle.records.specs.Limits.{record_limit}
use Rattle.records.specs.declared.kinds.TokenKind.{TokenKind}
use Rattle.matches.specs.declared.Lexed.{Lexed}
use Rattle.matches.specs.declared.Lexed.TheVariants.{Token as OfKind, Skip, NoMatch}
use Rattle.matches.specs.Longest.{lex_at}
use Rattle.lex.specs.Tokens.{Token, Lexing, ends, behind_tokens, step_by, lex_from, lexing}
use Rattle.lex.specs.Tiles.{Tiles, end, skip, token, InOrder, Inside}
use Rattle.matches.proofs.Sizes.{Sized, match_sized}
use Rattle.lex.proofs.Going.{front_none, front_skip, front_full, front_token}
use Rattle.lex.specs.declared.LexError.TheVariants.{NoToken, TooManyTokens}

-- ---- what is lexed tiles

-- the first m bytes, and then tiles
module _ (at m : ℕ) (s : List ℕ) (h : m ≤ length s) (p : 0 < m) {ts : List Token} (r : Tiles (at + m) (drop m s) ts) where
  len : length (take m s) ≡ m
  len = length-take-le m s h

  tile_skip : lex_at s ≡ Skip m → Tiles at s ts
  tile_skip e = rw (take-append-drop m s) at (skip {at = at} (take m s) (drop m s) {ts = ts} (rw len p) (rw (take-append-drop m s, len) e) (rw len r))

  tile_token : (k : TokenKind) → lex_at s ≡ OfKind k m → Tiles at s (record { kind = k; start = at; text = take m s } ∷ ts)
  tile_token k e = rw (take-append-drop m s) at (token {at = at} (record { kind = k; start = at; text = take m s }) (drop m s) {ts = ts} refl (rw len p) (rw (take-append-drop m s, len) e) (rw len r))

-- the tokens of a lexing that ends well, with so many before them
pub record Tiled (at count : ℕ) (s : List ℕ) (n : ℕ) (l : Lexing) : Type 0 where
  pub tiles : Tiles at s l.tokens
  pub size : n ≡ count + length l.tokens

-- one piece, and what follows it
module _ (f at count n : ℕ) (s : List ℕ) (some : 0 < length s) (h : length s ≤ suc f) (e : (lex_from at 0 count s).answer ≡ Ok n) (again : (at count : ℕ) (s : List ℕ) → length s ≤ f → (lex_from at 0 count s).answer ≡ Ok n → Tiled at count s n (lex_from at 0 count s)) where
  from_token : (k : TokenKind) (m : ℕ) → lex_at s ≡ OfKind k m → 0 < m → m ≤ length s → (x : Bool) → ltb count record_limit ≡ x → Tiled at count s n (lex_from at 0 count s)
  from_token k m q p i true x =
      let w = front_token at count s some k m p (ltb-true count record_limit x) q in
      let r = again (at + m) (count + 1) (drop m s) (simp length-drop (omega arith)) (sym (ap (λ (l : Lexing). l.answer) w) ∙ e) in
      rw w (record { tiles = tile_token at m s i p r.tiles k q; size = r.size ∙ omega arith })
  from_token k m q p i false x =
      let w : Err (TooManyTokens (record { 0 = at })) ≡ Ok n = sym (ap (λ (l : Lexing). l.answer) (front_full at count s some k m (ltb-false count record_limit x) q)) ∙ e in
      let z : ◌≡◌ {A = ℕ} 0 1 = cc in absurd (omega arith)

  from_piece : (l : Lexed) → lex_at s ≡ l → Sized s l → Tiled at count s n (lex_from at 0 count s)
  from_piece NoMatch q z =
      let w : Err (NoToken (record { 0 = at })) ≡ Ok n = sym (ap (λ (l : Lexing). l.answer) (front_none at count s some q)) ∙ e in
      let y : ◌≡◌ {A = ℕ} 0 1 = cc in absurd (omega arith)
  from_piece (Skip m) q z =
      let w = front_skip at count s some m z.0 q in
      let r = again (at + m) count (drop m s) (simp length-drop (omega (arith, z.0))) (sym (ap (λ (l : Lexing). l.answer) w) ∙ e) in
      rw w (record { tiles = tile_skip at m s z.1 z.0 r.tiles q; size = r.size })
  from_piece (OfKind k m) q z = from_token k m q z.0 z.1 (ltb count record_limit) refl

tiled_empty : (at count n : ℕ) → (lex_from at 0 count []).answer ≡ Ok n → Tiled at count [] n (lex_from at 0 count [])
unfolding lex_from
tiled_empty at count n e = record { tiles = end; size = let z : count ≡ n = cc in rw add-zero (sym z) }

tiled_from : (f at count n : ℕ) (s : List ℕ) → length s ≤ f → (lex_from at 0 count s).answer ≡ Ok n → Tiled at count s n (lex_from at 0 count s)
tiled_from zero at count n [] h e = tiled_empty at count n e
tiled_from zero at count n (b ∷ t) h e = absurd (omega arith)
tiled_from (suc f) at count n [] h e = tiled_empty at count n e
tiled_from (suc f) at count n (b ∷ t) h e =
    from_piece f at count n (b ∷ t) (omega arith) h e (λ at count s h e. tiled_from f at count n s h e) (lex_at (b ∷ t)) refl (match_sized (b ∷ t))

pub tiling : (source : List ℕ) (n : ℕ) → (lexing source).answer ≡ Ok n → Tiles 0 source (lexing source).tokens × (length (lexing source).tokens ≡ n)
tiling source n e = let r = tiled_from (length source) 0 0 n source (omega arith) e in (r.tiles, omega (arith, r.size))

-- ---- what tiles is lexed

pub tiles_from : {at : ℕ} {s : List ℕ} {ts : List Token} → Tiles at s ts → (count : ℕ) → count + length ts ≤ record_limit → lex_from at 0 count s ≡ record { tokens = ts; answer = Ok (count + length ts) }
unfolding lex_from
tiles_from end count h = rw add-zero
tiles_from (skip {at} w s {ts} p e r) count h =
    let some : 0 < length (w ++ s) = simp length-append (omega arith) in
    front_skip at count (w ++ s) some (length w) p e ∙ rw (drop-append_seam w s) (tiles_from r count h)
tiles_from (token {at} t s {ts} es p e r) count h =
    let some : 0 < length (t.text ++ s) = simp length-append (omega arith) in
    let size : count + suc (length ts) ≡ count + 1 + length ts = omega arith in
    front_token at count (t.text ++ s) some t.kind (length t.text) p (omega arith) e
    ∙ rw (drop-append_seam t.text s, take-append_seam t.text s, tiles_from r (count + 1) (omega arith), size, ← es)

pub tiles_lexed : {source : List ℕ} {ts : List Token} → Tiles 0 source ts → length ts ≤ record_limit → lexing source ≡ record { tokens = ts; answer = Ok (length ts) }
tiles_lexed r h = tiles_from r 0 (omega arith) ∙ rw zero-add

-- ---- where the tokens stand

pub tiles_in_order : {at : ℕ} {s : List ℕ} {ts : List Token} → Tiles at s ts → (a : ℕ) → a ≤ at → InOrder a ts
tiles_in_order end a h = tt
tiles_in_order (skip w s p e r) a h = tiles_in_order r a (omega arith)
tiles_in_order (token t s es p e r) a h = (omega arith, p, tiles_in_order r (t.start + length t.text) (omega arith))

pub tiles_inside : {at : ℕ} {s : List ℕ} {ts : List Token} → Tiles at s ts → (source : List ℕ) → drop at source ≡ s → Inside source ts
tiles_inside end source d = tt
tiles_inside (skip {at} w s p e r) source d = tiles_inside r source (sym (drop-drop (length w) at source) ∙ ap (drop (length w)) d ∙ drop-append_seam w s)
tiles_inside (token {at} t s es p e r) source d = (
  omega (arith, simp (length-drop, length-append) at (ap length d)),
  rw (es, d) (sym (take-append_seam t.text s)),
  tiles_inside r source (sym (drop-drop (length t.text) at source) ∙ ap (drop (length t.text)) d ∙ drop-append_seam t.text s),
)

-- the tokens of a source that is lexed without refusal lie inside it, in order, without overlap, none empty
pub tokens_lie : (source : List ℕ) (n : ℕ) → (lexing source).answer ≡ Ok n → InOrder 0 (lexing source).tokens × Inside source (lexing source).tokens
tokens_lie source n e = let t = (tiling source n e).0 in (tiles_in_order t 0 (omega arith), tiles_inside t source refl)

-- ---- how many tokens there are

few_from : (at j count n : ℕ) (s : List ℕ) → count ≤ record_limit → (lex_from at j count s).answer ≡ Ok n → n ≤ record_limit
unfolding lex_from
few_from at j count n [] h e = let z : count ≡ n = cc in omega arith
few_from at (suc j) count n (b ∷ s) h e = few_from (suc at) j count n s h e
few_from at zero count n (b ∷ s) h e = go (lex_at (b ∷ s)) e (λ k c i f. few_from (suc at) k c n s i f)
  where
    go : (l : Lexed) → (step_by l (b ∷ s) at count (λ m. lex_from (suc at) (pred m) count s) (λ m. lex_from (suc at) (pred m) (suc count) s)).answer ≡ Ok n → ((k c : ℕ) → c ≤ record_limit → (lex_from (suc at) k c s).answer ≡ Ok n → n ≤ record_limit) → n ≤ record_limit
    go NoMatch f again = let z : ◌≡◌ {A = ℕ} 0 1 = cc in absurd (omega arith)
    go (Skip m) f again = again (pred m) count h f
    go (OfKind k m) f again = by (ltb count record_limit) refl f
      where
        by : (x : Bool) → ltb count record_limit ≡ x → (if x then behind_tokens (record { kind = k; start = at; text = take m (b ∷ s) } ∷ []) (lex_from (suc at) (pred m) (suc count) s) else ends (Err (TooManyTokens (record { 0 = at })))).answer ≡ Ok n → n ≤ record_limit
        by true x f = again (pred m) (suc count) (omega (arith, ltb-true count record_limit x)) f
        by false x f = let z : ◌≡◌ {A = ℕ} 0 1 = cc in absurd (omega arith)

-- a source that is lexed without refusal has no more tokens than records
pub tokens_few : (source : List ℕ) (n : ℕ) → (lexing source).answer ≡ Ok n → n ≤ record_limit
tokens_few source n e = few_from 0 0 0 n source (omega arith) e
