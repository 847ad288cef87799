-- What the rows give, by the first byte. Assumes nothing.
use Rattle.std.specs.Prelude.{if◌then◌else◌}
use Rattle.std.proofs.lemmas.List.{drop-take, length-take-le}
use Prim.Native.Char.{code}
use Prim.Native.Nat.{ℕ, zero, suc, ◌+◌, ◌-◌, ◌≤◌, ◌<◌}
use mathlib.Core.Bool.{Bool, true, false, not, ◌&&◌, ◌||◌, and-true, and-false}
use mathlib.Core.Path.{◌≡◌, refl, sym, ap, ◌∙◌}
use mathlib.Core.List.{List, [], ◌∷◌, ◌++◌, map}
use mathlib.Core.Option.{Option, none, some}
use native.Mathlib.Omega.{arith}
use native.Mathlib.Nat.{add-zero}
use lib.ListN.{length, length-map, length-drop, take, drop, get_or, replicate}
use lib.Seq.{drop-drop}
use lib.Dec.{eqb, leb, ltb}
use borrow.Author.Tests.{ne_eqb, eqb-true, eqb-false, leb-true, leb-false, le-leb, lt-leb, lt-ltb}
use Rattle.records.proofs.Choices.{and_left, and_right, within_low, within_high}
use Rattle.records.specs.Base.{within, bytes}
use Rattle.records.specs.TokenKind as token
use Rattle.records.specs.declared.kinds.TokenKind.{TokenKind}
use Rattle.classes.specs.Classes.{has, word, starts, run}
use Rattle.classes.proofs.Laws.{run_le, run_mono, counted, starts_replicate, starts_append}
use Rattle.classes.specs.declared.Class.{Class}
use Rattle.classes.specs.declared.Class.TheVariants.{Byte, Bit, Digit, LowHex, AnyHex, JetPart, SymbolFirst, SymbolPart, NotLf}
use Rattle.matches.specs.declared.Lexed.{Lexed}
use Rattle.matches.specs.declared.Lexed.TheVariants.{Token, Skip, NoMatch}
use Rattle.matches.specs.Rows.{Row, row_of_table, stop, other_rows, word_rows, Fixed, fixed_row, keywords, jet_row, symbol_row}
use Rattle.matches.specs.Longest.{run_rest, match_len, best, better, lexed_as, made, len_of, lex_at}
use Rattle.matches.specs.Code.{is_word, is_jet, reads, is_text, kind, kind_by, kind_of, literal, keys, NotIn}

colon : (t : List ℕ) → lex_at (58 ∷ t) ≡ (if (eqb (get_or t 0 0) 61) then (lexed_as token.assign 2) else (lexed_as token.colon 1))
unfolding lex_at best match_len starts run
colon [] = refl
colon (b ∷ t) = go (eqb b 61)
  where
    go : (q : Bool) → better (some token.assign) (if (q && true) then 2 else 0) (lexed_as token.colon 1) ≡ (if q then (lexed_as token.assign 2) else (lexed_as token.colon 1))
    go true = refl
    go false = refl

better_win : (k : Option token.Kind) (n : ℕ) (l : Lexed) → 0 < n → len_of l ≤ n → better k n l ≡ made k n
better_win k n l h e = rw (lt-ltb 0 n h, le-leb _ _ e)

better_lose : (k : Option token.Kind) (n : ℕ) (l : Lexed) → n < len_of l → better k n l ≡ l
better_lose k n l h = rw (lt-leb _ _ h, and-false)

-- a byte of a set is none that the set lacks
differs : (p : ℕ → Bool) (b k : ℕ) → p b ≡ true → p k ≡ false → eqb b k ≡ false
differs p b k h e = ne_eqb b k (λ q. let z : true ≡ false = sym h ∙ ap p q ∙ e in let y : ◌≡◌ {A = ℕ} 0 1 = cc in omega arith)

symbol_not_lf : (b : ℕ) → has SymbolPart b ≡ true → has NotLf b ≡ true
symbol_not_lf b h = rw (differs (has SymbolPart) b 10 h refl)

dash : (t : List ℕ) → lex_at (45 ∷ t) ≡ (if (eqb (get_or t 0 0) 62) then (lexed_as token.arrow 2) else (if (eqb (get_or t 0 0) 45) then (Skip (2 + run NotLf (drop 1 t))) else (lexed_as token.symbol (1 + run SymbolPart t))))
unfolding lex_at best match_len starts run
dash [] = refl
dash (b ∷ t) = go (eqb b 62) refl (eqb b 45) refl
  where
    rest : (q : Bool) → better none (if (q && true) then (2 + run NotLf t) else 0) (better (some token.symbol) (1 + run SymbolPart (b ∷ t)) NoMatch) ≡ better none (if (q && true) then (2 + run NotLf t) else 0) (lexed_as token.symbol (1 + run SymbolPart (b ∷ t)))
    rest q = ap (better none (if (q && true) then (2 + run NotLf t) else 0)) (better_win (some token.symbol) (1 + run SymbolPart (b ∷ t)) NoMatch (omega arith) (omega arith))

    go : (p : Bool) → eqb b 62 ≡ p → (q : Bool) → eqb b 45 ≡ q → lex_at (45 ∷ b ∷ t) ≡ (if p then (lexed_as token.arrow 2) else (if q then (Skip (2 + run NotLf t)) else (lexed_as token.symbol (1 + run SymbolPart (b ∷ t)))))
    go true e q f = rw (eqb-true b 62 e)
    go false e true f =
        let m = run_mono SymbolPart NotLf symbol_not_lf t in
        let g : run SymbolPart (b ∷ t) ≡ suc (run SymbolPart t) = rw (eqb-true b 45 f) in
        ap (λ (p : Bool). better (some token.arrow) (if (p && true) then 2 else 0) (better none (if ((eqb b 45) && true) then (2 + run NotLf t) else 0) (better (some token.symbol) (1 + run SymbolPart (b ∷ t)) NoMatch))) e
        ∙ ap (λ (q : Bool). better none (if (q && true) then (2 + run NotLf t) else 0) (better (some token.symbol) (1 + run SymbolPart (b ∷ t)) NoMatch)) f
        ∙ rest true
        ∙ better_win none (2 + run NotLf t) (lexed_as token.symbol (1 + run SymbolPart (b ∷ t))) (omega arith) (omega arith)
    go false e false f =
        ap (λ (p : Bool). better (some token.arrow) (if (p && true) then 2 else 0) (better none (if ((eqb b 45) && true) then (2 + run NotLf t) else 0) (better (some token.symbol) (1 + run SymbolPart (b ∷ t)) NoMatch))) e
        ∙ ap (λ (q : Bool). better none (if (q && true) then (2 + run NotLf t) else 0) (better (some token.symbol) (1 + run SymbolPart (b ∷ t)) NoMatch)) f
        ∙ rest false

solo : (k : token.Kind) (m : ℕ) (q : Bool) → 0 < m → better (some k) (if q then m else 0) NoMatch ≡ (if q then lexed_as k m else NoMatch)
solo k m true h = better_win (some k) m NoMatch h (omega arith)
solo k m false h = refl

zero_arm : (t : List ℕ) → lex_at (48 ∷ t) ≡ (if eqb (get_or t 0 0) 98 then literal (kind token.bin) Bit (48 ∷ t) else (if eqb (get_or t 0 0) 120 then literal (kind token.hex) LowHex (48 ∷ t) else NoMatch))
unfolding lex_at best match_len starts
zero_arm [] = refl
zero_arm (b ∷ t) = go (eqb b 98) refl (eqb b 120) refl
  where
    go : (p : Bool) → eqb b 98 ≡ p → (q : Bool) → eqb b 120 ≡ q → lex_at (48 ∷ b ∷ t) ≡ (if p then literal (kind token.bin) Bit (48 ∷ b ∷ t) else (if q then literal (kind token.hex) LowHex (48 ∷ b ∷ t) else NoMatch))
    go true e q f = rw (eqb-true b 98 e) (ap (λ (m : ℕ). better (some token.bin) m NoMatch) (counted Bit 2 t) ∙ solo token.bin (2 + run Bit t) (ltb 0 (run Bit t)) (omega arith))
    go false e true f = rw (eqb-true b 120 f) (ap (λ (m : ℕ). better (some token.hex) m NoMatch) (counted LowHex 2 t) ∙ solo token.hex (2 + run LowHex t) (ltb 0 (run LowHex t)) (omega arith))
    go false e false f = rw (e, f)

two_arm : (t : List ℕ) → lex_at (50 ∷ t) ≡ (if ((eqb (get_or t 0 0) 94) && (within 49 57 (get_or t 1 0))) then (lexed_as token.power (2 + run Digit (drop 1 t))) else (lexed_as token.two 1))
unfolding lex_at best match_len starts run
two_arm [] = refl
two_arm (b ∷ []) = go (eqb b 94)
  where
    go : (p : Bool) → better (some token.two) 1 (better (some token.power) (if (p && false) then 3 else 0) NoMatch) ≡ (if (p && false) then (lexed_as token.power 2) else (lexed_as token.two 1))
    go true = refl
    go false = refl
two_arm (b ∷ d ∷ t) = go (eqb b 94) (within 49 57 d) refl
  where
    go : (p q : Bool) → within 49 57 d ≡ q → better (some token.two) 1 (better (some token.power) (if (p && (q && true)) then (3 + run Digit t) else 0) NoMatch) ≡ (if (p && q) then (lexed_as token.power (2 + run Digit (d ∷ t))) else (lexed_as token.two 1))
    go true true e =
        let x : 49 ≤ d = within_low 49 57 d e in
        let y : d ≤ 57 = within_high 49 57 d e in
        let z : run Digit (d ∷ t) ≡ suc (run Digit t) = rw (le-leb 48 d (omega arith), le-leb d 57 y) in
        ap (better (some token.two) 1) (better_win (some token.power) (3 + run Digit t) NoMatch (omega arith) (omega arith))
        ∙ better_lose (some token.two) 1 (lexed_as token.power (3 + run Digit t)) (omega arith)
        ∙ ap (λ (n : ℕ). lexed_as token.power n) (omega arith)
    go true false e = refl
    go false q e = refl

hash : (t : List ℕ) → lex_at (35 ∷ t) ≡ (if (eqb (get_or t 0 0) 123) then (lexed_as token.hash_brace 2) else (if (leb 64 (run AnyHex t)) then (lexed_as token.cmr 65) else NoMatch))
unfolding lex_at best match_len starts run
hash [] = refl
hash (b ∷ t) = go (eqb b 123) refl
  where
    long : (q : Bool) → better (some token.cmr) (if q then 65 else 0) NoMatch ≡ (if q then (lexed_as token.cmr 65) else NoMatch)
    long true = refl
    long false = refl

    go : (p : Bool) → eqb b 123 ≡ p → lex_at (35 ∷ b ∷ t) ≡ (if p then (lexed_as token.hash_brace 2) else (if (leb 64 (run AnyHex (b ∷ t))) then (lexed_as token.cmr 65) else NoMatch))
    go true e = rw (eqb-true b 123 e)
    go false e =
        ap (λ (p : Bool). better (some token.hash_brace) (if (p && true) then 2 else 0) (better (some token.cmr) (if (starts (replicate 64 AnyHex) (b ∷ t)) then 65 else 0) NoMatch)) e
        ∙ ap (λ (q : Bool). better (some token.cmr) (if q then 65 else 0) NoMatch) (starts_replicate AnyHex 64 (b ∷ t))
        ∙ long (leb 64 (run AnyHex (b ∷ t)))

-- a test that passes at each number below n, which antt computes
all_below : ℕ → (ℕ → Bool) → Bool
all_below zero p = true
all_below (suc n) p = ((p n) && (all_below n p))

below : (n : ℕ) (p : ℕ → Bool) → all_below n p ≡ true → (b : ℕ) → b < n → p b ≡ true
unfolding all_below
below zero p e b h = absurd (omega arith)
below (suc n) p e b h = go (eqb b n) refl (below n p (and_right (p n) _ e) b)
  where
    go : (q : Bool) → eqb b n ≡ q → (b < n → p b ≡ true) → p b ≡ true
    go true f r = rw (eqb-true b n f) (and_left (p n) _ e)
    go false f r = r (omega (arith, eqb-false b n f))

implies : Bool → Bool → Bool
implies p q = ((not p) || q)

use_implies : (p q : Bool) → implies p q ≡ true → p ≡ true → q ≡ true
unfolding implies
use_implies true q e h = e
use_implies false q e h = let z : true ≡ false = sym h in cc

-- no row of the list begins with the byte
idle : List Row → ℕ → Bool
idle [] b = true
idle (r ∷ rs) b = ((not (starts (take 1 r.fixed) (b ∷ []))) && (idle rs b))

idle_row : (r : Row) (b : ℕ) (t : List ℕ) → not (starts (take 1 r.fixed) (b ∷ [])) ≡ true → match_len r (b ∷ t) ≡ 0
unfolding match_len starts
idle_row r b t e = go r.fixed e
  where
    go : (f : List Class) → not (starts (take 1 f) (b ∷ [])) ≡ true → (if (starts f (b ∷ t)) then (length f + run_rest r.rest (drop (length f) (b ∷ t))) else 0) ≡ 0
    go [] e = let z : true ≡ false = sym e in let y : ◌≡◌ {A = ℕ} 0 1 = cc in absurd (omega arith)
    go (c ∷ cs) e = rw (and_left' (has c b) e)
      where
        and_left' : (p : Bool) → not (p && true) ≡ true → p ≡ false
        and_left' true e = sym e
        and_left' false e = refl

idle_best : (rs qs : List Row) (b : ℕ) (t : List ℕ) → idle rs b ≡ true → best (rs ++ qs) (b ∷ t) ≡ best qs (b ∷ t)
unfolding idle best
idle_best [] qs b t e = refl
idle_best (r ∷ rs) qs b t e = rw (idle_row r b t (and_left _ (idle rs b) e)) (idle_best rs qs b t (and_right (not (starts (take 1 r.fixed) (b ∷ []))) _ e))

avoids : List ℕ → ℕ → Bool
avoids [] b = true
avoids (k ∷ ks) b = ((not (eqb b k)) && (avoids ks b))

not_in : (ks : List ℕ) (b : ℕ) → NotIn ks b → avoids ks b ≡ true
unfolding avoids
not_in [] b h = refl
not_in (k ∷ ks) b h = rw (ne_eqb b k h.1) (not_in ks b h.0)

-- such a byte begins rows of words alone, if it begins a symbol, and else none
first_test : ℕ → Bool
first_test b = implies ((has SymbolFirst b) && (avoids keys b)) (idle other_rows b)

none_test : ℕ → Bool
none_test b = implies ((not (has SymbolFirst b)) && (avoids keys b)) (idle (other_rows ++ word_rows) b)

first : (b : ℕ) (t : List ℕ) → b < 256 → has SymbolFirst b ≡ true → NotIn keys b → lex_at (b ∷ t) ≡ best word_rows (b ∷ t)
unfolding lex_at first_test all_below idle starts implies avoids
first b t h f e =
    idle_best other_rows word_rows b t
    (use_implies ((has SymbolFirst b) && (avoids keys b)) (idle other_rows b) (below 256 first_test refl b h) (rw f (not_in keys b e)))

no_row : (b : ℕ) (t : List ℕ) → b < 256 → has SymbolFirst b ≡ false → NotIn keys b → lex_at (b ∷ t) ≡ NoMatch
unfolding lex_at none_test all_below idle starts best avoids implies
no_row b t h f e =
    idle_best (other_rows ++ word_rows) [] b t
    (use_implies ((not (has SymbolFirst b)) && (avoids keys b)) (idle (other_rows ++ word_rows) b) (below 256 none_test refl b h) (rw f (not_in keys b e)))

-- words: what is as long as the symbol
all_symbol : List ℕ → Bool
all_symbol [] = true
all_symbol (b ∷ w) = ((has SymbolPart b) && (all_symbol w))

word_run : (w s : List ℕ) → all_symbol w ≡ true → starts (word w) s ≡ true → run SymbolPart s ≡ length w + run SymbolPart (drop (length w) s)
unfolding all_symbol starts run
word_run [] s a e = omega arith
word_run (k ∷ w) [] a e = let y : ◌≡◌ {A = ℕ} 0 1 = cc in absurd (omega arith)
word_run (k ∷ w) (b ∷ s) a e =
    let q : has SymbolPart b ≡ true = rw (eqb-true b k (and_left (eqb b k) _ e)) (and_left (has SymbolPart k) _ a) in
    let r = word_run w s (and_right (has SymbolPart k) _ a) (and_right (eqb b k) _ e) in
    rw q (omega arith)

jet_symbol : (b : ℕ) → has JetPart b ≡ true → has SymbolPart b ≡ true
jet_symbol b h = go (within 97 122 b) (within 48 57 b) (eqb b 95) h
  where
    or_true : (p : Bool) → (p || true) ≡ true
    or_true true = refl
    or_true false = refl

    go : (p q r : Bool) → ((p || q) || r) ≡ true → ((((((p || (within 65 90 b)) || r) || (eqb b 45)) || (eqb b 46)) || (eqb b 39)) || q) ≡ true
    go true q r e = refl
    go false true r e = or_true (((((within 65 90 b) || r) || (eqb b 45)) || (eqb b 46)) || (eqb b 39))
    go false false true e = rw (or_true (within 65 90 b))
    go false false false e = let y : ◌≡◌ {A = ℕ} 0 1 = cc in absurd (omega arith)

-- the front of a text begins as the text does, and its runs go as far
starts_front : (f : List Class) (s : List ℕ) (n : ℕ) → length f ≤ n → starts f (take n s) ≡ starts f s
unfolding starts
starts_front [] s n h = refl
starts_front (c ∷ cs) s zero h = absurd (omega arith)
starts_front (c ∷ cs) [] (suc n) h = refl
starts_front (c ∷ cs) (b ∷ s) (suc n) h = ap (λ q. has c b && q) (starts_front cs s n (omega arith))

run_front : (c : Class) (s : List ℕ) (n : ℕ) → run c s ≤ n → run c (take n s) ≡ run c s
unfolding run
run_front c [] zero h = refl
run_front c [] (suc n) h = refl
run_front c (b ∷ s) zero h = omega arith
run_front c (b ∷ s) (suc n) h = go (has c b) h (run_front c s n)
  where
    go : (q : Bool) → (if q then suc (run c s) else 0) ≤ suc n → (run c s ≤ n → run c (take n s) ≡ run c s) → (if q then suc (run c (take n s)) else 0) ≡ (if q then suc (run c s) else 0)
    go true k f = ap suc (f (omega arith))
    go false k f = refl

-- the first n bytes of s are the word t: by bytes at their places, and by how s begins
reads_shift : (t w : List ℕ) (b i : ℕ) → reads (b ∷ w) (suc i) t ≡ reads w i t
reads_shift [] w b i = refl
reads_shift (c ∷ t) w b i = ap (λ q. eqb (get_or w i 0) c && q) (reads_shift t w b (suc i))

reads_starts : (t w : List ℕ) → length t ≤ length w → reads w 0 t ≡ starts (word t) w
unfolding starts
reads_starts [] w h = refl
reads_starts (c ∷ t) [] h = absurd (omega arith)
reads_starts (c ∷ t) (b ∷ w) h = ap (λ q. eqb b c && q) (reads_shift t w b 0 ∙ reads_starts t w (omega arith))

word_front : (t s : List ℕ) (n : ℕ) → n ≤ length s → is_text t (take n s) ≡ is_word t n s
unfolding is_word
word_front t s n h = rw (length-take-le n s h) (go (eqb (length t) n) refl)
  where
    go : (q : Bool) → eqb (length t) n ≡ q → (q && reads (take n s) 0 t) ≡ (q && starts (word t) s)
    go true e =
        let k : length t ≡ n = eqb-true (length t) n e in
        reads_starts t (take n s) (omega (arith, length-take-le n s h)) ∙ starts_front (word t) s n (omega (arith, length-map t Byte))
    go false e = refl

module _ (s : List ℕ) (N : ℕ) (pos : 0 < N) (is : run SymbolPart s ≡ N) where
  word_le : (w : List ℕ) (k : Option token.Kind) → all_symbol w ≡ true → match_len (row_of_table k (word w) stop) s ≤ N
  unfolding match_len
  word_le w k a = go (starts (word w) s) refl
    where
      go : (p : Bool) → starts (word w) s ≡ p → (if p then (length (word w) + 0) else 0) ≤ N
      go true e = omega (arith, word_run w s a e, is, length-map w Byte)
      go false e = omega arith

  word_is : (w : List ℕ) (k : Option token.Kind) → eqb (match_len (row_of_table k (word w) stop) s) N ≡ is_text w (take N s)
  unfolding match_len is_word
  word_is w k = go (starts (word w) s) ∙ sym (word_front w s N (omega (arith, is, run_le SymbolPart s)))
    where
      go : (p : Bool) → eqb (if p then (length (word w) + 0) else 0) N ≡ ((eqb (length w) N) && p)
      go true = rw (length-map w Byte, add-zero) (sym (and-true (eqb (length w) N)))
      go false = ne_eqb 0 N (omega arith) ∙ sym (and-false (eqb (length w) N))

  kind_step : (k : token.Kind) (j : TokenKind) (m : ℕ) (q : Bool) → m ≤ N → eqb m N ≡ q → better (some k) m (Token j N) ≡ Token (if q then kind k else j) N
  kind_step k j m true l e = let z = eqb-true m N e in better_win (some k) m (Token j N) (omega arith) (omega arith) ∙ ap (lexed_as k) z
  kind_step k j m false l e = better_lose (some k) m (Token j N) (omega (arith, eqb-false m N e))

  -- the length of a jet, by the run after `jet_`
  jet_len : match_len jet_row s ≡ (if ((starts (word (bytes "jet_")) s) && (ltb 0 (run JetPart (drop 4 s)))) then (4 + run JetPart (drop 4 s)) else 0)
  unfolding match_len
  jet_len = rw (starts_append (word (bytes "jet_")) (JetPart ∷ []) s) (go (starts (word (bytes "jet_")) s))
    where
      go : (p : Bool) → (if (p && (starts (JetPart ∷ []) (drop 4 s))) then (5 + run JetPart (drop 5 s)) else 0) ≡ (if (p && (ltb 0 (run JetPart (drop 4 s)))) then (4 + run JetPart (drop 4 s)) else 0)
      go true = let d : drop 1 (drop 4 s) ≡ drop 5 s = rw drop-drop in rw (← d) (counted JetPart 4 (drop 4 s))
      go false = refl

  jet_le : match_len jet_row s ≤ N
  unfolding all_symbol
  jet_le = rw jet_len (go (starts (word (bytes "jet_")) s) refl (ltb 0 (run JetPart (drop 4 s))))
    where
      go : (p : Bool) → starts (word (bytes "jet_")) s ≡ p → (q : Bool) → (if (p && q) then (4 + run JetPart (drop 4 s)) else 0) ≤ N
      go true e true = omega (arith, word_run (bytes "jet_") s refl e, run_mono JetPart SymbolPart jet_symbol (drop 4 s))
      go true e false = omega arith
      go false e q = omega arith

  -- the symbol is a jet just if the row's match is as long
  jet_is : eqb (match_len jet_row s) N ≡ is_jet (take N s)
  unfolding is_jet all_symbol
  jet_is = rw jet_len (by (leb 4 N) refl)
    where
      len : length (take N s) ≡ N
      len = length-take-le N s (omega (arith, is, run_le SymbolPart s))

      rest : length (drop 4 (take N s)) ≡ N - 4
      rest = length-drop 4 (take N s) ∙ ap (λ n. n - 4) len

      -- behind `jet_` the run is no longer than the symbol, so it is that of the symbol alone
      runs : starts (word (bytes "jet_")) s ≡ true → 4 ≤ N → run JetPart (drop 4 (take N s)) ≡ run JetPart (drop 4 s)
      runs e h =
          let d : drop 4 (take (4 + (N - 4)) s) ≡ take (N - 4) (drop 4 s) = drop-take 4 (N - 4) s in
          let n : 4 + (N - 4) ≡ N = omega arith in
          rw (← n, d) (run_front JetPart (drop 4 s) (N - 4) (omega (arith, word_run (bytes "jet_") s refl e, run_mono JetPart SymbolPart jet_symbol (drop 4 s))))

      same : (r : ℕ) → 4 ≤ N → eqb (if ltb 0 r then 4 + r else 0) N ≡ (ltb 0 (N - 4) && eqb r (N - 4))
      same r h = grind arith

      go : (p : Bool) → starts (word (bytes "jet_")) s ≡ p → 4 ≤ N → eqb (if p && ltb 0 (run JetPart (drop 4 s)) then 4 + run JetPart (drop 4 s) else 0) N ≡ ((p && ltb 0 (length (drop 4 (take N s)))) && eqb (run JetPart (drop 4 (take N s))) (length (drop 4 (take N s))))
      go true e h = rw (rest, runs e h) (same (run JetPart (drop 4 s)) h)
      go false e h = ne_eqb 0 N (omega arith)

      by : (q : Bool) → leb 4 N ≡ q → eqb (if starts (word (bytes "jet_")) s && ltb 0 (run JetPart (drop 4 s)) then 4 + run JetPart (drop 4 s) else 0) N ≡ is_jet (take N s)
      by true e =
          let h : 4 ≤ N = leb-true 4 N e in
          let r : reads (take N s) 0 (bytes "jet_") ≡ starts (word (bytes "jet_")) s = reads_starts (bytes "jet_") (take N s) (omega (arith, len)) ∙ starts_front (word (bytes "jet_")) s N h in
          rw (len, e, r) (go (starts (word (bytes "jet_")) s) refl h)
      by false e = rw (len, e) (short (starts (word (bytes "jet_")) s) refl)
        where
          short : (p : Bool) → starts (word (bytes "jet_")) s ≡ p → eqb (if p && ltb 0 (run JetPart (drop 4 s)) then 4 + run JetPart (drop 4 s) else 0) N ≡ false
          short true f = absurd (omega (arith, word_run (bytes "jet_") s refl f, leb-false 4 N e))
          short false f = ne_eqb 0 N (omega arith)

-- every word is of bytes of symbols
wordy : List Fixed → Bool
wordy [] = true
wordy (f ∷ fs) = all_symbol f.text && wordy fs

module _ (s : List ℕ) (N : ℕ) (pos : 0 < N) (is : run SymbolPart s ≡ N) (sy : match_len symbol_row s ≡ N) where
  words : (fs : List Fixed) → wordy fs ≡ true → best (map fixed_row fs ++ (jet_row ∷ symbol_row ∷ [])) s ≡ Token (kind_by fs (take N s) (if is_jet (take N s) then kind token.jet else kind token.symbol)) N
  unfolding best wordy
  words [] e =
      ap (λ (m : ℕ). better (some token.jet) (match_len jet_row s) (better (some token.symbol) m NoMatch)) sy
      ∙ ap (better (some token.jet) (match_len jet_row s)) (better_win (some token.symbol) N NoMatch pos (omega arith))
      ∙ kind_step s N pos is token.jet (kind token.symbol) (match_len jet_row s) (is_jet (take N s)) (jet_le s N pos is) (jet_is s N pos is)
  words (f ∷ fs) e =
      ap (better (some f.kind) (match_len (fixed_row f) s)) (words fs (and_right (all_symbol f.text) _ e))
      ∙ kind_step s N pos is f.kind _ (match_len (fixed_row f) s) (is_text f.text (take N s))
      (word_le s N pos is f.text (some f.kind) (and_left (all_symbol f.text) _ e))
      (word_is s N pos is f.text (some f.kind))

first_symbol : (b : ℕ) → b < 256 → has SymbolFirst b ≡ true → has SymbolPart b ≡ true
unfolding all_below implies
first_symbol b h f = use_implies (has SymbolFirst b) _ (below 256 (λ k. implies (has SymbolFirst k) (has SymbolPart k)) refl b h) f

symbol_run : (b : ℕ) (t : List ℕ) → has SymbolPart b ≡ true → run SymbolPart (b ∷ t) ≡ 1 + run SymbolPart t
unfolding run
symbol_run b t f = rw f (omega arith)

symbol_len : (b : ℕ) (t : List ℕ) → has SymbolFirst b ≡ true → match_len symbol_row (b ∷ t) ≡ 1 + run SymbolPart t
unfolding match_len starts
symbol_len b t f = rw f

-- a symbol lies in the text
pub symbol_inside : (s : List ℕ) (n : ℕ) → 0 < length s → n ≡ run SymbolPart (drop 1 s) → length (take (1 + n) s) ≡ 1 + n
symbol_inside s n h e = length-take-le (1 + n) s (omega (arith, run_le SymbolPart (drop 1 s), length-drop 1 s))

-- the arm of words
word_arm : (b : ℕ) (t : List ℕ) → b < 256 → has SymbolFirst b ≡ true → NotIn keys b → lex_at (b ∷ t) ≡ Token (kind_of (take (1 + run SymbolPart t) (b ∷ t))) (1 + run SymbolPart t)
unfolding wordy all_symbol kind_of
word_arm b t h f e =
    first b t h f e
    ∙ words (b ∷ t) (1 + run SymbolPart t) (omega arith) (symbol_run b t (first_symbol b h f)) (symbol_len b t f) keywords refl

-- ---- the bytes that are a token or a skip whatever comes after them, and what each is
abbrev pub alone : List (ℕ × Lexed)
alone =
    (code " ", Skip 1)
    ∷ (code "\t", Skip 1)
    ∷ (code "\r", Skip 1)
    ∷ (code "\n", Skip 1)
    ∷ (code "(", lexed_as token.lparen 1)
    ∷ (code ")", lexed_as token.rparen 1)
    ∷ (code "+", lexed_as token.plus 1)
    ∷ (code "*", lexed_as token.star 1)
    ∷ (code "}", lexed_as token.rbrace 1)
    ∷ (code "?", lexed_as token.question 1)
    ∷ (code "1", lexed_as token.one 1)
    ∷ []

-- what a byte of the list is, or else l
abbrev pub by_byte : List (ℕ × Lexed) → ℕ → Lexed → Lexed
by_byte [] b l = l
by_byte (p ∷ ps) b l = if eqb b p.0 then p.1 else by_byte ps b l

-- the list says what the rows give
abbrev Stands : List (ℕ × Lexed) → Type 0
Stands [] = Unit {0}
Stands (p ∷ ps) = ((t : List ℕ) → lex_at (p.0 ∷ t) ≡ p.1) × Stands ps

alone_stands : Stands alone
unfolding lex_at best match_len starts
alone_stands = (λ t. refl, (λ t. refl, (λ t. refl, (λ t. refl, (λ t. refl, (λ t. refl, (λ t. refl, (λ t. refl, (λ t. refl, (λ t. refl, (λ t. refl, tt)))))))))))

alone_by : (ps : List (ℕ × Lexed)) → Stands ps → (b : ℕ) (t : List ℕ) → lex_at (b ∷ t) ≡ by_byte ps b (lex_at (b ∷ t))
alone_by [] h b t = refl
alone_by (p ∷ ps) h b t = go (eqb b p.0) refl (alone_by ps h.1 b t)
  where
    go : (q : Bool) → eqb b p.0 ≡ q → lex_at (b ∷ t) ≡ by_byte ps b (lex_at (b ∷ t)) → lex_at (b ∷ t) ≡ (if q then p.1 else by_byte ps b (lex_at (b ∷ t)))
    go true e r = rw (eqb-true b p.0 e) (h.0 t)
    go false e r = r

-- ---- the same in the terms of the code, which has read the first byte and the one after it

module _ (s : List ℕ) (h : 0 < length s) where
  lex_byte : (k : ℕ) (x : List ℕ → Lexed) → ((t : List ℕ) → lex_at (k ∷ t) ≡ x (k ∷ t)) → get_or s 0 0 ≡ k → lex_at s ≡ x s
  lex_byte k x f e = go s h e
    where
      go : (s : List ℕ) → 0 < length s → get_or s 0 0 ≡ k → lex_at s ≡ x s
      go [] h e = absurd (omega arith)
      go (a ∷ t) h e = rw e (f t)

  pub lex_alone : lex_at s ≡ by_byte alone (get_or s 0 0) (lex_at s)
  lex_alone = go s h
    where
      go : (s : List ℕ) → 0 < length s → lex_at s ≡ by_byte alone (get_or s 0 0) (lex_at s)
      go [] h = absurd (omega arith)
      go (a ∷ t) h = alone_by alone alone_stands a t

  -- a byte that begins a word, or nothing
  pub lex_word : get_or s 0 0 < 256 → has SymbolFirst (get_or s 0 0) ≡ true → NotIn keys (get_or s 0 0) → lex_at s ≡ Token (kind_of (take (1 + run SymbolPart (drop 1 s)) s)) (1 + run SymbolPart (drop 1 s))
  lex_word = go s h
    where
      go : (s : List ℕ) → 0 < length s → get_or s 0 0 < 256 → has SymbolFirst (get_or s 0 0) ≡ true → NotIn keys (get_or s 0 0) → lex_at s ≡ Token (kind_of (take (1 + run SymbolPart (drop 1 s)) s)) (1 + run SymbolPart (drop 1 s))
      go [] h k f e = absurd (omega arith)
      go (a ∷ t) h k f e = word_arm a t k f e

  pub lex_none : get_or s 0 0 < 256 → has SymbolFirst (get_or s 0 0) ≡ false → NotIn keys (get_or s 0 0) → lex_at s ≡ NoMatch
  lex_none = go s h
    where
      go : (s : List ℕ) → 0 < length s → get_or s 0 0 < 256 → has SymbolFirst (get_or s 0 0) ≡ false → NotIn keys (get_or s 0 0) → lex_at s ≡ NoMatch
      go [] h k f e = absurd (omega arith)
      go (a ∷ t) h k f e = no_row a t k f e

  -- a byte that the next one or two decide
  pub lex_colon : get_or s 0 0 ≡ 58 → lex_at s ≡ (if eqb (get_or s 1 0) 61 then lexed_as token.assign 2 else lexed_as token.colon 1)
  lex_colon e = lex_byte 58 (λ s. if eqb (get_or s 1 0) 61 then lexed_as token.assign 2 else lexed_as token.colon 1) colon e

  pub lex_dash : get_or s 0 0 ≡ 45 → lex_at s ≡ (if eqb (get_or s 1 0) 62 then lexed_as token.arrow 2 else (if eqb (get_or s 1 0) 45 then Skip (2 + run NotLf (drop 2 s)) else lexed_as token.symbol (1 + run SymbolPart (drop 1 s))))
  lex_dash e = lex_byte 45 (λ s. if eqb (get_or s 1 0) 62 then lexed_as token.arrow 2 else (if eqb (get_or s 1 0) 45 then Skip (2 + run NotLf (drop 2 s)) else lexed_as token.symbol (1 + run SymbolPart (drop 1 s)))) dash e

  pub lex_zero : get_or s 0 0 ≡ 48 → lex_at s ≡ (if eqb (get_or s 1 0) 98 then literal (kind token.bin) Bit s else (if eqb (get_or s 1 0) 120 then literal (kind token.hex) LowHex s else NoMatch))
  lex_zero e = lex_byte 48 (λ s. if eqb (get_or s 1 0) 98 then literal (kind token.bin) Bit s else (if eqb (get_or s 1 0) 120 then literal (kind token.hex) LowHex s else NoMatch)) zero_arm e

  pub lex_two : get_or s 0 0 ≡ 50 → lex_at s ≡ (if eqb (get_or s 1 0) 94 && within 49 57 (get_or s 2 0) then lexed_as token.power (2 + run Digit (drop 2 s)) else lexed_as token.two 1)
  lex_two e = lex_byte 50 (λ s. if eqb (get_or s 1 0) 94 && within 49 57 (get_or s 2 0) then lexed_as token.power (2 + run Digit (drop 2 s)) else lexed_as token.two 1) two_arm e

  pub lex_hash : get_or s 0 0 ≡ 35 → lex_at s ≡ (if eqb (get_or s 1 0) 123 then lexed_as token.hash_brace 2 else (if leb 64 (run AnyHex (drop 1 s)) then lexed_as token.cmr 65 else NoMatch))
  lex_hash e = lex_byte 35 (λ s. if eqb (get_or s 1 0) 123 then lexed_as token.hash_brace 2 else (if leb 64 (run AnyHex (drop 1 s)) then lexed_as token.cmr 65 else NoMatch)) hash e
