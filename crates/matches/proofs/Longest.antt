-- `best` is what `Lexes` declares (`lexed`), and nothing else is (`lexes_once`). Assumes nothing.
use Rattle.std.specs.Prelude.{if◌then◌else◌}
use Prim.Native.Nat.{ℕ, zero, suc, ◌+◌, ◌≤◌, ◌<◌}
use mathlib.Core.Bool.{Bool, true, false, ◌&&◌}
use mathlib.Core.Path.{◌≡◌, refl, sym, ap, ◌∙◌}
use mathlib.Core.List.{List, [], ◌∷◌, ◌++◌}
use mathlib.Core.Logic.{◌⊎◌, inl, inr}
use mathlib.Core.Option.{Option, none, some}
use native.Mathlib.Omega.{arith}
use native.Mathlib.Nat.{zero-add, suc-add, le_antisymm}
use lib.ListN.{length, take, drop, length-drop}
use lib.Dec.{leb, ltb}
use borrow.Author.Tests.{ltb-true, ltb-false, leb-true, leb-false, le-leb}
use Rattle.records.proofs.Choices.{and_left, and_right}
use Rattle.records.specs.TokenKind as token
use Rattle.classes.specs.Classes.{has, starts, run}
use Rattle.classes.specs.declared.Class.{Class}
use Rattle.classes.proofs.Laws.{run_le, starts_le}
use Rattle.matches.specs.declared.Lexed.{Lexed}
use Rattle.matches.specs.declared.Lexed.TheVariants.{NoMatch}
use Rattle.matches.specs.Rows.{Rest, Row, stop, any, rows}
use Rattle.matches.specs.Longest.{run_rest, match_len, best, better, made, len_of, lex_at}
use Rattle.matches.specs.Sets.{Has, end, more, byte, Front, Among, here, later, Lexes, wins, nothing}

-- what the run takes is a string of its class, and no longer front is
run_has : (c : Class) (s : List ℕ) → Has [] (any c) (take (run c s) s)
unfolding run
run_has c [] = end
run_has c (b ∷ s) = go (has c b) refl (run_has c s)
  where
    go : (p : Bool) → has c b ≡ p → Has [] (any c) (take (run c s) s) → Has [] (any c) (take (if p then (suc (run c s)) else 0) (b ∷ s))
    go true e h = more e h
    go false e h = end

has_run : (c : Class) (m : ℕ) (s : List ℕ) → m ≤ length s → Has [] (any c) (take m s) → m ≤ run c s
unfolding run
has_run c zero s h w = omega arith
has_run c (suc m) [] h w = absurd (omega arith)
has_run c (suc m) (b ∷ s) h (more e w) = let r = has_run c m s (omega arith) w in rw e (omega arith)

has_stop : (m : ℕ) (s : List ℕ) → m ≤ length s → Has [] stop (take m s) → m ≤ 0
has_stop zero s h w = omega arith
has_stop (suc m) [] h w = omega arith
has_stop (suc m) (_ ∷ _) h w = elim w [ ]

-- the same of a whole row
starts_has : (f : List Class) (r : Rest) (s : List ℕ) → starts f s ≡ true → Has f r (take (length f + run_rest r (drop (length f) s)) s)
unfolding starts
starts_has [] stop s e = end
starts_has [] (any c) s e = rw zero-add (run_has c s)
starts_has (c ∷ cs) r [] e = let y : ◌≡◌ {A = ℕ} 0 1 = cc in absurd (omega arith)
starts_has (c ∷ cs) r (b ∷ s) e = rw suc-add (byte (and_left (has c b) _ e) (starts_has cs r s (and_right (has c b) _ e)))

has_starts : (f : List Class) (r : Rest) (m : ℕ) (s : List ℕ) → m ≤ length s → Has f r (take m s) → (starts f s ≡ true) × (m ≤ length f + run_rest r (drop (length f) s))
unfolding starts
has_starts [] stop m s h w = (refl, omega (arith, has_stop m s h w))
has_starts [] (any c) m s h w = (refl, omega (arith, has_run c m s h w))
has_starts (c ∷ cs) r (suc m) [] h w = absurd (omega arith)
has_starts (c ∷ cs) r (suc m) (b ∷ s) h (byte e w) =
    let i = has_starts cs r m s (omega arith) w in
    (rw (e, i.0), omega (arith, i.1))
has_starts (c ∷ cs) r zero s h w = elim w [ ]

run_rest_le : (r : Rest) (s : List ℕ) → run_rest r s ≤ length s
run_rest_le stop s = omega arith
run_rest_le (any c) s = run_le c s

-- `match_len` is the length of the longest front that the row has
pub match_front : (r : Row) (s : List ℕ) → 0 < match_len r s → Front r s (match_len r s)
unfolding match_len
match_front r s = go (starts r.fixed s) refl
  where
    go : (p : Bool) → starts r.fixed s ≡ p → 0 < (if p then (length r.fixed + run_rest r.rest (drop (length r.fixed) s)) else 0) → Front r s (if p then (length r.fixed + run_rest r.rest (drop (length r.fixed) s)) else 0)
    go true e h =
        record {
          inside = omega (arith, starts_le r.fixed s e, run_rest_le r.rest (drop (length r.fixed) s), length-drop (length r.fixed) s);
          string = starts_has r.fixed r.rest s e;
        }
    go false e h = absurd (omega arith)

pub match_longest : (r : Row) (s : List ℕ) (m : ℕ) → Front r s m → m ≤ match_len r s
unfolding match_len
match_longest r s m f = let h = has_starts r.fixed r.rest m s f.inside f.string in rw h.0 h.1

-- no row has the empty string
solid : List Row → Bool
solid [] = true
solid (r ∷ rs) = ((ltb 0 (length r.fixed)) && (solid rs))

len_made : (k : Option token.Kind) (n : ℕ) → len_of (made k n) ≡ n
len_made none n = refl
len_made (some k) n = refl

front_some : (r : Row) (s : List ℕ) (n : ℕ) → ltb 0 (length r.fixed) ≡ true → Front r s n → 0 < n
front_some r s n e f = go r.fixed n (ltb-true _ _ e) f.string
  where
    go : (f : List Class) (n : ℕ) → 0 < length f → Has f r.rest (take n s) → 0 < n
    go [] n h w = absurd (omega arith)
    go (c ∷ cs) (suc n) h w = omega arith
    go (c ∷ cs) zero h w = elim w [ ]

among_some : {q : Row} {rs : List Row} → Among q rs → 0 < length rs
among_some here = omega arith
among_some (later a) = omega arith

-- one row more
lexes_more : (r : Row) (rs : List Row) (s : List ℕ) (l : Lexed) → ltb 0 (length r.fixed) ≡ true → Lexes rs s l → Lexes (r ∷ rs) s (better r.kind (match_len r s) l)
lexes_more r rs s l e (nothing lacks) = go (ltb 0 (match_len r s)) refl
  where
    go : (p : Bool) → ltb 0 (match_len r s) ≡ p → Lexes (r ∷ rs) s (if (p && (leb 0 (match_len r s))) then (made r.kind (match_len r s)) else NoMatch)
    go true h =
        rw (le-leb 0 (match_len r s) (omega arith))
        (wins [] r rs (match_len r s) refl
        (record {
          some = ltb-true _ _ h;
          front = match_front r s (ltb-true _ _ h);
          longest = above;
          first = λ q a f. omega (arith, among_some a);
        })
        refl)
      where
        above : (q : Row) → Among q (r ∷ rs) → (m : ℕ) → Front q s m → m ≤ match_len r s
        above q here m f = match_longest q s m f
        above q (later a) m f = absurd (lacks q a m f)
    go false h = nothing nowhere
      where
        nowhere : (q : Row) → Among q (r ∷ rs) → (n : ℕ) → Front q s n → ⊥
        nowhere q here n f = omega (arith, ltb-false 0 (match_len r s) h, match_longest q s n f, front_some q s n e f)
        nowhere q (later a) n f = lacks q a n f
lexes_more r rs s l e (wins before w after n eq win is) = go (ltb 0 (match_len r s)) refl (leb (len_of l) (match_len r s)) refl
  where
    len : len_of l ≡ n
    len = rw is (len_made w.kind n)

    on : (q : Row) → Among q rs → (m : ℕ) → Front q s m → m ≤ n
    on q a m f = win.longest q (rw eq at a) m f

    keep : match_len r s < n → Lexes (r ∷ rs) s l
    keep lt =
        wins (r ∷ before) w after n (ap (λ (x : List Row). r ∷ x) eq)
        (record { some = win.some; front = win.front; longest = above; first = clear })
        is
      where
        above : (q : Row) → Among q (r ∷ (before ++ w ∷ after)) → (m : ℕ) → Front q s m → m ≤ n
        above q here m f = omega (arith, match_longest q s m f)
        above q (later a) m f = win.longest q a m f

        clear : (q : Row) → Among q (r ∷ before) → Front q s n → ⊥
        clear q here f = omega (arith, match_longest q s n f)
        clear q (later a) f = win.first q a f

    go : (p : Bool) → ltb 0 (match_len r s) ≡ p → (q : Bool) → leb (len_of l) (match_len r s) ≡ q → Lexes (r ∷ rs) s (if (p && q) then (made r.kind (match_len r s)) else l)
    go true h true k =
        wins [] r rs (match_len r s) refl
        (record { some = ltb-true _ _ h; front = match_front r s (ltb-true _ _ h); longest = above; first = λ q a f. omega (arith, among_some a) })
        refl
      where
        above : (q : Row) → Among q (r ∷ rs) → (m : ℕ) → Front q s m → m ≤ match_len r s
        above q here m f = match_longest q s m f
        above q (later a) m f = omega (arith, on q a m f, len, leb-true (len_of l) (match_len r s) k)
    go true h false k = keep (omega (arith, leb-false (len_of l) (match_len r s) k, len))
    go false h q k = keep (omega (arith, ltb-false 0 (match_len r s) h, win.some))

solid_best : (rs : List Row) (s : List ℕ) → solid rs ≡ true → Lexes rs s (best rs s)
unfolding solid best
solid_best [] s e = nothing (λ q a n f. omega (arith, among_some a))
solid_best (r ∷ rs) s e =
    lexes_more r rs s (best rs s) (and_left (ltb 0 (length r.fixed)) _ e)
    (solid_best rs s (and_right (ltb 0 (length r.fixed)) _ e))

-- what is computed is declared
pub lexed : (s : List ℕ) → Lexes rows s (lex_at s)
unfolding lex_at solid
lexed s = solid_best rows s refl

-- two answers that are declared are one: the lengths are equal, and of two rows the upper one wins
split : (a b : List Row) (p q : Row) (x y : List Row) → a ++ p ∷ x ≡ b ++ q ∷ y → (p ≡ q) ⊎ (Among p b ⊎ Among q a)
split [] [] p q x y e = inl (cc)
split [] (c ∷ b) p q x y e = let z : p ≡ c = cc in inr (inl (rw z here))
split (c ∷ a) [] p q x y e = let z : q ≡ c = cc in inr (inr (rw z here))
split (c ∷ a) (d ∷ b) p q x y e = let z : a ++ p ∷ x ≡ b ++ q ∷ y = cc in up (split a b p q x y z)
  where
    up : (p ≡ q) ⊎ (Among p b ⊎ Among q a) → (p ≡ q) ⊎ (Among p (d ∷ b) ⊎ Among q (c ∷ a))
    up (inl z) = inl z
    up (inr (inl z)) = inr (inl (later z))
    up (inr (inr z)) = inr (inr (later z))

among_mid : (a : List Row) (p : Row) (x : List Row) → Among p (a ++ p ∷ x)
among_mid [] p x = here
among_mid (c ∷ a) p x = later (among_mid a p x)

pub lexes_once : (rs : List Row) (s : List ℕ) (l k : Lexed) → Lexes rs s l → Lexes rs s k → l ≡ k
lexes_once rs s l k (nothing f) (nothing g) = refl
lexes_once rs s l k (nothing f) (wins b q y m e v i) = absurd (f q (rw e (among_mid b q y)) m v.front)
lexes_once rs s l k (wins a p x n d u h) (nothing g) = absurd (g p (rw d (among_mid a p x)) n u.front)
lexes_once rs s l k (wins a p x n d u h) (wins b q y m e v i) = go (split a b p q x y (sym d ∙ e))
  where
    nm : n ≡ m
    nm = le_antisymm (v.longest p (rw (sym e ∙ d) (among_mid a p x)) n u.front) (u.longest q (rw (sym d ∙ e) (among_mid b q y)) m v.front)

    go : (p ≡ q) ⊎ (Among p b ⊎ Among q a) → l ≡ k
    go (inl z) = h ∙ rw (z, nm) (sym i)
    go (inr (inl z)) = absurd (v.first p z (rw nm at u.front))
    go (inr (inr z)) = absurd (u.first q z (rw nm v.front))
