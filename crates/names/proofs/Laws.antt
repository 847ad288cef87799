-- Names by text: a text is found under the number of the first name that has it, no two names have the same text, and the names
-- are the texts with a legal line, each by the token of its first one.
use Rattle.std.specs.Prelude.{if◌then◌else◌}
use Prim.Native.Nat.{ℕ, zero, suc, ◌+◌, ◌≤◌, ◌<◌}
use mathlib.Core.Path.{◌≡◌, refl, sym, ap, subst, ◌∙◌}
use mathlib.Core.Bool.{Bool, true, false}
use mathlib.Core.Logic.{◌⊎◌, inl, inr, ◌≢◌}
use mathlib.Core.List.{List, [], ◌∷◌, ◌++◌, map, foldl}
use native.Mathlib.Omega.{arith}
use lib.ListN.{length, get_or, length-append}
use lib.Dec.{eqb}
use borrow.Author.Tests.{eqb-true, eq-eqb}
use Rattle.lex.specs.Tokens.{Token}
use Rattle.checks.specs.Jets.{same}
use Rattle.checks.proofs.Jets.{same_self, same_equal}
use Rattle.grammar.specs.Tree.{Line}
use Rattle.symbols.specs.Symbols.{Text, illegal, find_from, texts, find}
use Rattle.names.specs.Names.{enter, names_of}
use Rattle.names.specs.Uses.{In, HasLine}
use Rattle.names.proofs.Lists.{Once, in_left, in_right, in_either, in_map}

-- ---- texts

pub same_of : (a b : Text) → a ≡ b → same a b ≡ true
same_of a b e = subst (λ (x : Text). same a x ≡ true) e (same_self a)

pub same_false : (a b : Text) → a ≢ b → same a b ≡ false
same_false a b d = go (same a b) refl
  where
    go : (c : Bool) → same a b ≡ c → same a b ≡ false
    go true e = absurd (d (same_equal a b e))
    go false e = e

pub same_text? : (a b : Text) → (a ≡ b) ⊎ (a ≢ b)
same_text? a b = go (same a b) refl
  where
    go : (c : Bool) → same a b ≡ c → (a ≡ b) ⊎ (a ≢ b)
    go true e = inl (same_equal a b e)
    go false e = inr (λ q. let r : same a b ≡ true = same_of a b q in let z : ◌≡◌ {A = ℕ} 0 1 = cc in omega arith)

-- ---- the number of a text

-- the text x stands at i, and nowhere before
pub record FirstAt (ys : List Text) (x : Text) (i : ℕ) : Type 0 where
  pub below : i < length ys
  pub here : get_or ys i [] ≡ x
  pub first : (j : ℕ) → j < i → get_or ys j [] ≢ x

pub find_none : (k : ℕ) (ys : List Text) (x : Text) → (In x ys → ⊥) → find_from k ys x ≡ 0
unfolding find_from
find_none k [] x h = refl
find_none k (y ∷ ys) x h = rw (same_false y x (λ e. h (inl e))) (find_none (suc k) ys x (λ q. h (inr q)))

-- FOUND: the number of the first that has the text
pub find_first : (k : ℕ) (ys : List Text) (x : Text) → In x ys → (i : ℕ) × (find_from k ys x ≡ k + i) × FirstAt ys x i
unfolding find_from
find_first k [] x h = absurd h
find_first k (y ∷ ys) x h = go (same_text? y x) h (λ q. find_first (suc k) ys x q)
  where
    go : (y ≡ x) ⊎ (y ≢ x) → In x (y ∷ ys) → (In x ys → (i : ℕ) × (find_from (suc k) ys x ≡ suc k + i) × FirstAt ys x i)
        → (i : ℕ) × ((if same y x then k else find_from (suc k) ys x) ≡ k + i) × FirstAt (y ∷ ys) x i
    go (inl e) q ih = (0, rw (same_of y x e) (omega arith), record { below = omega arith; here = e; first = λ j l. absurd (omega arith) })
    go (inr d) (inl e) ih = absurd (d e)
    go (inr d) (inr q) ih = let r = ih q in (suc r.0, rw (same_false y x d) (omega (arith, r.1)), later r.0 r.2)
      where
        later : (i : ℕ) → FirstAt ys x i → FirstAt (y ∷ ys) x (suc i)
        later i f = record { below = omega (arith, f.below); here = f.here; first = before }
          where
            before : (j : ℕ) → j < suc i → get_or (y ∷ ys) j [] ≢ x
            before zero l = d
            before (suc j) l = f.first j (omega arith)

pub find_stands : (k : ℕ) (ys : List Text) (x : Text) → find_from k ys x ≢ 0 → In x ys
unfolding find_from
find_stands k [] x h = absurd (h refl)
find_stands k (y ∷ ys) x h = go (same_text? y x) (find_stands (suc k) ys x)
  where
    go : (y ≡ x) ⊎ (y ≢ x) → (find_from (suc k) ys x ≢ 0 → In x ys) → In x (y ∷ ys)
    go (inl e) ih = inl e
    go (inr d) ih = inr (ih (λ z. h (rw (same_false y x d) z)))

pub text_in : (ys : List Text) (i : ℕ) → i < length ys → In (get_or ys i []) ys
text_in [] i l = absurd (omega arith)
text_in (y ∷ ys) zero l = inl refl
text_in (y ∷ ys) (suc i) l = inr (text_in ys i (omega arith))

-- NO TWO NUMBERS HAVE THE SAME TEXT
pub text_apart : (ys : List Text) → Once Text ys → (i j : ℕ) → i < length ys → j < length ys → get_or ys i [] ≡ get_or ys j [] → i ≡ j
text_apart [] o i j l k e = absurd (omega arith)
text_apart (y ∷ ys) o zero zero l k e = refl
text_apart (y ∷ ys) o zero (suc j) l k e = absurd (o.0 (rw e (text_in ys j (omega arith))))
text_apart (y ∷ ys) o (suc i) zero l k e = absurd (o.0 (rw (← e) (text_in ys i (omega arith))))
text_apart (y ∷ ys) o (suc i) (suc j) l k e = ap suc (text_apart ys o.1 i j (omega arith) (omega arith) e)

pub find_own : (k : ℕ) (ys : List Text) → Once Text ys → (i : ℕ) → i < length ys → find_from k ys (get_or ys i []) ≡ k + i
find_own k ys o i l =
    let r = find_first k ys (get_or ys i []) (text_in ys i l) in
    r.1 ∙ ap (λ (n : ℕ). k + n) (text_apart ys o r.0 i r.2.below l r.2.here)

-- ---- the names of lines

pub texts_snoc : (ns : List Token) (t : Token) → texts (ns ++ (t ∷ [])) ≡ texts ns ++ (t.text ∷ [])
texts_snoc [] t = refl
texts_snoc (n ∷ ns) t = ap {B = List Text} (λ ys. n.text ∷ ys) (texts_snoc ns t)

pub texts_length : (ns : List Token) → length (texts ns) ≡ length ns
texts_length [] = refl
texts_length (n ∷ ns) = ap suc (texts_length ns)

-- a line's name is illegal, or new, or known
pub data Entering (ns : List Token) (l : Line) : List Token → Type 0 where
  refused : illegal l.name.text ≡ true → Entering ns l ns
  new : illegal l.name.text ≡ false → find ns l.name.text ≡ 0 → (In l.name.text (texts ns) → ⊥) → Entering ns l (ns ++ (l.name ∷ []))
  known : illegal l.name.text ≡ false → find ns l.name.text ≢ 0 → In l.name.text (texts ns) → Entering ns l ns

pub entering : (ns : List Token) (l : Line) → Entering ns l (enter ns l)
unfolding enter find
entering ns l = go (illegal l.name.text) refl (eqb (find ns l.name.text) 0) refl
  where
    x : Text
    x = l.name.text

    go : (b : Bool) → illegal l.name.text ≡ b → (c : Bool) → eqb (find ns l.name.text) 0 ≡ c
        → Entering ns l (if b then ns else if c then ns ++ (l.name ∷ []) else ns)
    go true e c f = refused e
    go false e true f = new e (eqb-true (find ns x) 0 f) (λ h. let r = find_first 1 (texts ns) x h in omega (arith, r.1, eqb-true (find ns x) 0 f))
    go false e false f = known e (λ z. no·eq z) (find_stands 1 (texts ns) x (λ z. no·eq z))
      where
        no·eq : find ns x ≡ 0 → ⊥
        no·eq z = let q : eqb (find ns x) 0 ≡ true = eq-eqb (find ns x) 0 z in let y : ◌≡◌ {A = ℕ} 0 1 = cc in omega arith

snoc_once : (ys : List Text) (x : Text) → Once Text ys → (In x ys → ⊥) → Once Text (ys ++ (x ∷ []))
snoc_once [] x o d = (λ h. h, tt)
snoc_once (y ∷ ys) x o d = (λ h. go (in_either Text ys (x ∷ []) y h), snoc_once ys x o.1 (λ q. d (inr q)))
  where
    go : In y ys ⊎ In y (x ∷ []) → ⊥
    go (inl p) = o.0 p
    go (inr (inl e)) = d (inl (sym e))
    go (inr (inr q)) = q

-- a line with the name t, the first that has its text; its name is legal
pub record FirstLine (ls : List Line) (t : Token) : Type 0 where
  pub before : List Line
  pub line : Line
  pub after : List Line
  pub whole : ls ≡ before ++ (line ∷ after)
  pub own : line.name ≡ t
  pub legal : illegal t.text ≡ false
  pub none : In t.text (map (λ (l : Line). l.name.text) before) → ⊥

-- ---- all lines

abbrev line_texts : List Line → List Text
line_texts ls = map (λ (l : Line). l.name.text) ls

-- what holds of the names of the lines before, and after a line more
pub record Named (ls : List Line) (ns : List Token) : Type 0 where
  pub once : Once Text (texts ns)
  pub all : (x : Text) → HasLine ls x → In x (texts ns)
  pub first : (t : Token) → In t ns → FirstLine ls t
  pub few : length ns ≤ length ls

first_more : (ls : List Line) (l : Line) (t : Token) → FirstLine ls t → FirstLine (ls ++ (l ∷ [])) t
first_more ls l t f =
    record {
      before = f.before;
      line = f.line;
      after = f.after ++ (l ∷ []);
      whole = ap (λ (ks : List Line). ks ++ (l ∷ [])) f.whole ∙ assoc f.before;
      own = f.own;
      legal = f.legal;
      none = f.none;
    }
  where
    assoc : (ks : List Line) → (ks ++ (f.line ∷ f.after)) ++ (l ∷ []) ≡ ks ++ (f.line ∷ (f.after ++ (l ∷ [])))
    assoc [] = refl
    assoc (k ∷ ks) = ap {B = List Line} (λ js. k ∷ js) (assoc ks)

texts_more : (ls : List Line) (l : Line) → line_texts (ls ++ (l ∷ [])) ≡ line_texts ls ++ (l.name.text ∷ [])
texts_more [] l = refl
texts_more (k ∷ ls) l = ap {B = List Text} (λ ys. k.name.text ∷ ys) (texts_more ls l)

-- a legal text has a line among these and the next: among these, or it is the next one's
line_either : (ls : List Line) (l : Line) (x : Text) → HasLine (ls ++ (l ∷ [])) x → HasLine ls x ⊎ (l.name.text ≡ x)
line_either ls l x h = go (in_either Text (line_texts ls) (l.name.text ∷ []) x (subst (λ (ys : List Text). In x ys) (texts_more ls l) h.1))
  where
    go : In x (line_texts ls) ⊎ In x (l.name.text ∷ []) → HasLine ls x ⊎ (l.name.text ≡ x)
    go (inl p) = inl (h.0, p)
    go (inr (inl e)) = inr e
    go (inr (inr q)) = absurd q

named_more : (ls : List Line) (l : Line) (ns ms : List Token) → Named ls ns → Entering ns l ms → Named (ls ++ (l ∷ [])) ms
named_more ls l ns ms d (refused e) =
    record {
      once = d.once;
      all = λ x h. go x h (line_either ls l x h);
      first = λ t i. first_more ls l t (d.first t i);
      few = omega (arith, d.few, length-append ls (l ∷ []));
    }
  where
    go : (x : Text) → HasLine (ls ++ (l ∷ [])) x → HasLine ls x ⊎ (l.name.text ≡ x) → In x (texts ns)
    go x h (inl p) = d.all x p
    go x h (inr q) = let z : illegal x ≡ true = ap illegal (sym q) ∙ e in let w : ◌≡◌ {A = ℕ} 0 1 = cc in absurd (omega arith)
named_more ls l ns ms d (known e f i) =
    record {
      once = d.once;
      all = λ x h. go x (line_either ls l x h);
      first = λ t j. first_more ls l t (d.first t j);
      few = omega (arith, d.few, length-append ls (l ∷ []));
    }
  where
    go : (x : Text) → HasLine ls x ⊎ (l.name.text ≡ x) → In x (texts ns)
    go x (inl p) = d.all x p
    go x (inr q) = subst (λ (y : Text). In y (texts ns)) q i
named_more ls l ns ms d (new e f unseen) =
    record {
      once = rw (texts_snoc ns l.name) (snoc_once (texts ns) l.name.text d.once unseen);
      all = λ x h. rw (texts_snoc ns l.name) (go x (line_either ls l x h));
      first = λ t j. at t (in_either Token ns (l.name ∷ []) t j);
      few = omega (arith, d.few, length-append ls (l ∷ []), length-append ns (l.name ∷ []));
    }
  where
    go : (x : Text) → HasLine ls x ⊎ (l.name.text ≡ x) → In x (texts ns ++ (l.name.text ∷ []))
    go x (inl p) = in_left Text (texts ns) (l.name.text ∷ []) x (d.all x p)
    go x (inr q) = in_right Text (texts ns) (l.name.text ∷ []) x (inl q)

    at : (t : Token) → In t ns ⊎ In t (l.name ∷ []) → FirstLine (ls ++ (l ∷ [])) t
    at t (inl p) = first_more ls l t (d.first t p)
    at t (inr (inl q)) =
        record {
          before = ls;
          line = l;
          after = [];
          whole = refl;
          own = q;
          legal = subst (λ (u : Token). illegal u.text ≡ false) q e;
          none = λ h. unseen (d.all l.name.text (e, subst (λ (u : Token). In u.text (line_texts ls)) (sym q) h));
        }
    at t (inr (inr q)) = absurd q

named_from : (done rest : List Line) (ns : List Token) → Named done ns → Named (done ++ rest) (foldl enter ns rest)
named_from done [] ns d = rw (nil done) d
  where
    nil : (ks : List Line) → ks ++ [] ≡ ks
    nil [] = refl
    nil (k ∷ ks) = ap {B = List Line} (λ js. k ∷ js) (nil ks)
named_from done (l ∷ rest) ns d =
    rw (step done) (named_from (done ++ (l ∷ [])) rest (enter ns l) (named_more done l ns (enter ns l) d (entering ns l)))
  where
    step : (ks : List Line) → ks ++ (l ∷ rest) ≡ (ks ++ (l ∷ [])) ++ rest
    step [] = refl
    step (k ∷ ks) = ap {B = List Line} (λ js. k ∷ js) (step ks)

pub named : (ls : List Line) → Named ls (names_of ls)
unfolding names_of
named ls = named_from [] ls [] (record { once = tt; all = λ x h. absurd h.1; first = λ t i. absurd i; few = omega arith })

-- NO TWO NAMES HAVE THE SAME TEXT
pub once_names : (ls : List Line) → Once Text (texts (names_of ls))
once_names ls = (named ls).once

-- THE NAMES ARE THE TEXTS WITH A LEGAL LINE
pub in_names : (ls : List Line) (x : Text) → HasLine ls x → In x (texts (names_of ls))
in_names ls = (named ls).all

text_of : (ns : List Token) (x : Text) → In x (texts ns) → (t : Token) × In t ns × (t.text ≡ x)
text_of [] x h = absurd h
text_of (n ∷ ns) x (inl e) = (n, inl refl, e)
text_of (n ∷ ns) x (inr h) = let r = text_of ns x h in (r.0, inr r.1, r.2)

pub names_in : (ls : List Line) (x : Text) → In x (texts (names_of ls)) → HasLine ls x
names_in ls x h =
    let r = text_of (names_of ls) x h in
    let f = (named ls).first r.0 r.1 in
    subst (λ (y : Text). HasLine ls y) r.2 (f.legal, has f)
  where
    has : {t : Token} (f : FirstLine ls t) → In t.text (line_texts ls)
    has {t} f =
        subst (λ (u : Token). In u.text (line_texts ls)) f.own
        (in_map Line Text (λ (l : Line). l.name.text) ls f.line (rw f.whole (in_right Line f.before (f.line ∷ f.after) f.line (inl refl))))

pub names_few : (ls : List Line) → length (names_of ls) ≤ length ls
names_few ls = (named ls).few

-- ---- found in a program's names

pub find_is : (ns : List Token) (x : Text) → find ns x ≡ find_from 1 (texts ns) x
unfolding find
find_is ns x = refl

-- A TEXT IS FOUND EXACTLY IF IT HAS A LEGAL LINE
pub find_line : (ls : List Line) (x : Text) → HasLine ls x → (i : ℕ) × (find (names_of ls) x ≡ suc i) × FirstAt (texts (names_of ls)) x i
find_line ls x h = let r = find_first 1 (texts (names_of ls)) x (in_names ls x h) in (r.0, find_is (names_of ls) x ∙ r.1 ∙ omega arith, r.2)

pub find_no_line : (ls : List Line) (x : Text) → (HasLine ls x → ⊥) → find (names_of ls) x ≡ 0
find_no_line ls x d = find_is (names_of ls) x ∙ find_none 1 (texts (names_of ls)) x (λ h. d (names_in ls x h))
