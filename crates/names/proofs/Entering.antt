-- The loop over lines: the tables of names and errors, and what a line more does to them. Assumes nothing.
use Prim.Native.Nat.{ℕ, zero, suc, ◌+◌, ◌-◌, ◌≤◌, ◌<◌}
use mathlib.Core.Bool.{true, false}
use mathlib.Core.Path.{◌≡◌, refl, sym, ap, subst, ◌∙◌}
use mathlib.Core.Logic.{◌⊎◌, inl, inr, ◌≢◌}
use mathlib.Core.List.{List, [], ◌∷◌, ◌++◌, map, append-nil, map-append}
use mathlib.Core.Option.{Option, none, some}
use native.Mathlib.Omega.{arith}
use native.Mathlib.Numerals.{add-one}
use native.Mathlib.Nat.{zero-add, add-zero}
use lib.ListN.{length, get_or, set, length-append, length-map}
use Rattle.records.specs.Limits.{record_limit, expr_width, name_width, error_width}
use Rattle.records.specs.Records.{name_words, error_words, expr_words}
use Rattle.records.specs.ErrorKind as error
use Rattle.tables.specs.Tables.{table_of, word_at, written, span_at}
use Rattle.tables.proofs.Laws.{Wide, wide_map, table_append, table_replace}
use Rattle.lex.specs.Tokens.{Token}
use Rattle.literals.specs.Literals.{span_text}
use Rattle.cursor.specs.Cursor.{next_number}
use Rattle.cursor.proofs.Steps.{next_below}
use Rattle.grammar.specs.Tree.{Expr, Line}
use Rattle.grammar.specs.Part.{part_of, part_if, span_of}
use Rattle.grammar.specs.Recorded.{part_no, line_part, exprs_of, lines_exprs, expr_rows_of}
use Rattle.grammar.specs.Places.{Each}
use Rattle.grammar.proofs.Takes.{total}
use Rattle.symbols.specs.Symbols.{Text, illegal, find_from, texts, find}
use Rattle.names.specs.Names.{names_of, Placed, placed, number_of, first_from, name_record, name_rows, Error, error_record, part_place, repeated, line_errors, errors_of, error_rows}
use Rattle.names.specs.Uses.{In}
use Rattle.symbols.specs.Texts.{name_text, texts_from}
use Rattle.names.specs.Held.{InPlace, Held}
use Rattle.names.specs.Code.{name_of, known_entry, name_entry, Enters}
use Rattle.names.specs.declared.NameCounts.{NameCounts}
use Rattle.names.specs.declared.Entry.{Entry}
use Rattle.names.specs.declared.Entry.TheVariants.{New, Known, Wrong, Nothing}
use Rattle.names.proofs.Lists.{Once, in_map}
use Rattle.names.proofs.Laws.{same_text?, find_is, find_first, texts_length, Entering, refused, new, known, entering, named, once_names, in_names, names_few}
use Rattle.names.proofs.Steps.{known_first, known_none, known_later, legal_new, legal_known, name_illegal, name_legal}
use Rattle.tables.proofs.Reading.{table_reads}
use Rattle.checks.proofs.Jets.{same_self}
use Rattle.names.proofs.Reading.{number_some, expr_start}
use Rattle.names.proofs.OneMore.{names_snoc, first_snoc, first_none, first_other, first_kept, errors_snoc, errors_few, errors_none, errors_later}

-- ---- lists

get_map : {A B : Type 0} (f : A → B) (xs : List A) (i : ℕ) (a : A) (b : B) → i < length xs → get_or (map f xs) i b ≡ f (get_or xs i a)
get_map f [] i a b h = absurd (omega arith)
get_map f (x ∷ xs) zero a b h = refl
get_map f (x ∷ xs) (suc i) a b h = get_map f xs i a b (omega arith)

get_in : {A : Type 0} (xs : List A) (i : ℕ) (a : A) → i < length xs → In (get_or xs i a) xs
get_in [] i a h = absurd (omega arith)
get_in (x ∷ xs) zero a h = inl refl
get_in (x ∷ xs) (suc i) a h = inr (get_in xs i a (omega arith))

map_same : {A B : Type 0} (f g : A → B) (xs : List A) → ((a : A) → In a xs → f a ≡ g a) → map f xs ≡ map g xs
map_same f g [] h = refl
map_same {B = B} f g (x ∷ xs) h =
    ap (λ (b : B). b ∷ map f xs) (h x (inl refl)) ∙ ap (λ (bs : List B). g x ∷ bs) (map_same f g xs (λ a i. h a (inr i)))

each_at : {A : Type 0} (P : A → Type 0) (xs ys : List A) (a : A) → Each P (xs ++ (a ∷ ys)) → P a
each_at P [] ys a h = h.0
each_at P (x ∷ xs) ys a h = each_at P xs ys a h.1

each_front : {A : Type 0} (P : A → Type 0) (xs ys : List A) → Each P (xs ++ ys) → Each P xs
each_front P [] ys h = tt
each_front P (x ∷ xs) ys h = (h.0, each_front P xs ys h.1)

-- of names with no text twice, f and g agree but for the one with the text x, which is the i-th
set_one : (f g : Token → List ℕ) (x : Text) (d : Token) → ((y : Token) → y.text ≢ x → f y ≡ g y) → (ns : List Token) (i : ℕ) → Once Text (texts ns) → i < length ns → (get_or ns i d).text ≡ x → map g ns ≡ set (map f ns) i (g (get_or ns i d))
set_one f g x d h [] i o k e = absurd (omega arith)
set_one f g x d h (n ∷ ns) zero o k e =
    ap (λ (r : List (List ℕ)). g n ∷ r) (sym (map_same f g ns (λ y i. h y (λ z. o.0 (subst (λ (t : Text). In t (texts ns)) (z ∙ sym e) (in_map Token Text (λ (t : Token). t.text) ns y i))))))
set_one f g x d h (n ∷ ns) (suc i) o k e =
    let apart : n.text ≢ x = λ z. o.0 (subst (λ (t : Text). In t (texts ns)) (e ∙ sym z) (in_map Token Text (λ (t : Token). t.text) ns (get_or ns i d) (get_in ns i d (omega arith)))) in
    ap (λ (r : List ℕ). r ∷ map g ns) (sym (h n apart)) ∙ ap (λ (r : List (List ℕ)). f n ∷ r) (set_one f g x d h ns i o.1 (omega arith) e)

-- ---- texts of names in a table

texts_read : (s t : List ℕ) (xs : List Text) (k : ℕ) → ((i : ℕ) → i < length xs → name_text s t (k + i) ≡ get_or xs i []) → texts_from s t k (length xs) ≡ xs
unfolding texts_from
texts_read s t [] k h = refl
texts_read s t (x ∷ xs) k h =
    let one : name_text s t k ≡ x = ap (name_text s t) (sym (add-zero k)) ∙ h 0 (omega arith) in
    let more : texts_from s t (suc k) (length xs) ≡ xs = texts_read s t xs (suc k) (λ i l. let z : suc k + i ≡ k + suc i = omega arith in ap (name_text s t) z ∙ h (suc i) (omega arith)) in
    ap (λ (y : Text). y ∷ texts_from s t (suc k) (length xs)) one ∙ ap (λ (ys : List Text). x ∷ ys) more

number_placed : (m : ℕ) (o : Option Expr) → number_of (placed m o) ≡ part_no (part_if o) m
number_placed m none = refl
number_placed m (some e) = refl

-- the row of a name
abbrev row : List Line → Token → List ℕ
row ls x = name_words (name_record ls 0 x)

rows_wide : (ls : List Line) → Wide name_width (name_rows ls)
unfolding name_rows
rows_wide ls = wide_map name_width (row ls) (λ x. refl) (names_of ls)

errors_wide : (es : List Error) → Wide error_width (error_rows es)
unfolding error_rows
errors_wide es = wide_map error_width (λ (e : Error). error_words (error_record e)) (λ x. refl) es

rows_length : (ls : List Line) → length (name_rows ls) ≡ length (names_of ls)
unfolding name_rows
rows_length ls = length-map (names_of ls) (row ls)

errors_length : (es : List Error) → length (error_rows es) ≡ length es
unfolding error_rows
errors_length es = length-map es (λ (e : Error). error_words (error_record e))

-- ---- the tables behind the lines `done`

pub record Going (old_n old_e : List ℕ) (done : List Line) (c : NameCounts) (ns es : List ℕ) : Type 0 where
  pub names : c.names ≡ length (names_of done)
  pub errors : c.errors ≡ length (errors_of done)
  pub names_in : ns ≡ table_of name_width (name_rows done) old_n
  pub errors_in : es ≡ table_of error_width (error_rows (errors_of done)) old_e

module _ (source exprs old_n old_e : List ℕ) (done rest : List Line) (l : Line) (held : Held source exprs (done ++ (l ∷ rest))) (c : NameCounts) (ns es : List ℕ) (g : Going old_n old_e done c ns es) where
  -- the line's name, its text, its expression's number; the names so far, and the lines with this one
  abbrev t : Token
  t = l.name

  abbrev x : Text
  x = l.name.text

  abbrev e : ℕ
  e = part_no (line_part l) (total exprs_of done)

  abbrev so_far : List Token
  so_far = names_of done

  abbrev done' : List Line
  done' = done ++ (l ∷ [])

  -- the i-th name
  abbrev at : ℕ → Token
  at i = get_or so_far i t

  few : length done < record_limit
  few = omega (arith, held.room, length-append done (l ∷ rest))

  few_rows : length (name_rows done) < record_limit
  few_rows = omega (arith, few, rows_length done, names_few done)

  x_here : x ≡ span_text source (span_of t)
  x_here = sym (each_at (λ (k : Line). InPlace source k.name) done rest l held.names)

  -- ---- what the table of names says

  name_word_law : (i j : ℕ) → i < length so_far → word_at name_width ns (suc i) j ≡ get_or (row done (at i)) j 0
  unfolding name_rows
  name_word_law i j h =
      ap (λ (q : List ℕ). word_at name_width q (suc i) j) g.names_in ∙ table_reads name_width old_n (rows_wide done) (omega (arith, few_rows)) i j
      ∙ ap (λ (r : List ℕ). get_or r j 0) (get_map (row done) so_far i t [] h)

  name_span_law : (i : ℕ) → i < length so_far → span_at name_width ns (suc i) 0 ≡ span_of (at i)
  unfolding name_record
  name_span_law i h = rw (name_word_law i 0 h, name_word_law i 1 h)

  name_expr : (i : ℕ) → i < length so_far → word_at name_width ns (suc i) 2 ≡ number_of (first_from 0 done (at i).text)
  unfolding name_record
  name_expr i h = name_word_law i 2 h

  name_text_law : (i : ℕ) → i < length so_far → name_text source ns (suc i) ≡ (at i).text
  unfolding name_text
  name_text_law i h =
      let f = (named done).first (at i) (get_in so_far i t h) in
      let front = each_front (λ (k : Line). InPlace source k.name) done (l ∷ rest) held.names in
      let here : InPlace source f.line.name = each_at (λ (k : Line). InPlace source k.name) f.before f.after f.line (subst (λ (ks : List Line). Each (λ (k : Line). InPlace source k.name) ks) f.whole front) in
      ap (span_text source) (name_span_law i h) ∙ subst (λ (y : Token). InPlace source y) f.own here

  texts_here : texts_from source ns 1 c.names ≡ texts so_far
  texts_here =
      let n : c.names ≡ length (texts so_far) = g.names ∙ sym (texts_length so_far) in
      ap (texts_from source ns 1) n
      ∙ texts_read source ns (texts so_far) 1
      (λ i h. let z : 1 + i ≡ suc i = omega arith in let k : i < length so_far = omega (arith, texts_length so_far) in ap (name_text source ns) z ∙ name_text_law i k ∙ sym (get_map (λ (y : Token). y.text) so_far i t [] k))

  found_is : find_from 1 (texts_from source ns 1 c.names) x ≡ find so_far x
  found_is = ap (λ (ys : List Text). find_from 1 ys x) texts_here ∙ sym (find_is so_far x)

  -- ---- the names and errors behind the line

  -- every name's first expression stays
  rows_kept : names_of done' ≡ so_far → ((y : Token) → In y so_far → first_from 0 done' y.text ≡ first_from 0 done y.text) → name_rows done' ≡ name_rows done
  unfolding name_rows name_record
  rows_kept em h = ap (map (row done')) em ∙ map_same (row done') (row done) so_far (λ y i. rw (h y i))

  error_none : line_errors done l ≡ [] → errors_of done' ≡ errors_of done
  error_none f = errors_snoc done l ∙ ap (λ (fs : List Error). errors_of done ++ fs) f ∙ append-nil (errors_of done)

  -- an error more
  error_counts : (f : Error) → line_errors done l ≡ f ∷ [] → next_number c.errors ≡ length (errors_of done')
  error_counts f ef =
      sym (next_below (omega (arith, few, g.errors, errors_few done)))
      ∙ ap (λ (n : ℕ). n + 1) g.errors ∙ sym (ap length (errors_snoc done l ∙ ap (λ (fs : List Error). errors_of done ++ fs) ef) ∙ length-append (errors_of done) (f ∷ []))

  error_written : (f : Error) (es' : List ℕ) → line_errors done l ≡ f ∷ [] → es' ≡ written error_width es (next_number c.errors) (error_words (error_record f)) → es' ≡ table_of error_width (error_rows (errors_of done')) old_e
  unfolding error_rows
  error_written f es' ef h =
      let n : c.errors < record_limit = omega (arith, few, g.errors, errors_few done) in
      let k : next_number c.errors ≡ length (error_rows (errors_of done)) + 1 = sym (next_below n) ∙ ap (λ (i : ℕ). i + 1) (g.errors ∙ sym (errors_length (errors_of done))) in
      h ∙ ap (λ (q : List ℕ). written error_width q (next_number c.errors) (error_words (error_record f))) g.errors_in
      ∙ ap (λ (i : ℕ). written error_width (table_of error_width (error_rows (errors_of done)) old_e) i (error_words (error_record f))) k
      ∙ table_append error_width old_e (errors_wide (errors_of done)) (omega (arith, n, g.errors, errors_length (errors_of done))) (error_words (error_record f)) (omega (arith, n, g.errors, errors_length (errors_of done))) refl
      ∙ ap (λ (rs : List (List ℕ)). table_of error_width rs old_e)
      (sym (map-append (λ (e : Error). error_words (error_record e)) (errors_of done) (f ∷ [])) ∙ ap error_rows (sym (errors_snoc done l ∙ ap (λ (fs : List Error). errors_of done ++ fs) ef)))

  module _ (r : NameCounts) (ns' es' : List ℕ) (h : Enters (name_entry source exprs ns c.names (span_of t) e) c r ns ns' es es') where
    -- what is done, once the entry is known
    by : (a : Entry) → a ≡ name_entry source exprs ns c.names (span_of t) e → Enters a c r ns ns' es es'
    by a q = subst (λ (b : Entry). Enters b c r ns ns' es es') (sym q) h

    -- the line is an error, and no name's first expression changes
    an_error : (f : Error) → Wrong (error_record f) ≡ name_entry source exprs ns c.names (span_of t) e → line_errors done l ≡ f ∷ [] → names_of done' ≡ so_far → ((y : Token) → In y so_far → first_from 0 done' y.text ≡ first_from 0 done y.text) → Going old_n old_e done' r ns' es'
    an_error f q ef em stay =
        let w = by (Wrong (error_record f)) q in
        record {
          names = ap (λ (k : NameCounts). k.names) w.0 ∙ g.names ∙ ap length (sym em);
          errors = ap (λ (k : NameCounts). k.errors) w.0 ∙ error_counts f ef;
          names_in = w.1 ∙ g.names_in ∙ ap (λ (rs : List (List ℕ)). table_of name_width rs old_n) (sym (rows_kept em stay));
          errors_in = error_written f es' ef w.2;
        }

    -- the line is no error
    no_error : line_errors done l ≡ [] → r.errors ≡ c.errors → es' ≡ es → r.names ≡ length (names_of done') → ns' ≡ table_of name_width (name_rows done') old_n → Going old_n old_e done' r ns' es'
    no_error le er ee en et =
        record {
          names = en;
          errors = er ∙ g.errors ∙ ap length (sym (error_none le));
          names_in = et;
          errors_in = ee ∙ g.errors_in ∙ ap (λ (fs : List Error). table_of error_width (error_rows fs) old_e) (sym (error_none le));
        }

    -- the line's name is new
    a_new : illegal x ≡ false → find so_far x ≡ 0 → (In x (texts so_far) → ⊥) → names_of done' ≡ so_far ++ (t ∷ []) → Going old_n old_e done' r ns' es'
    unfolding name_rows name_record
    a_new legal absent unseen em =
        let q : New (name_of (span_of t) e) ≡ name_entry source exprs ns c.names (span_of t) e =
        name_legal source exprs ns c.names (span_of t) e x false x_here (sym legal) 0 _ refl (sym (found_is ∙ absent)) (legal_new exprs ns 0 (span_of t) e refl) in
        let w = by (New (name_of (span_of t) e)) q in
        let b : List ℕ = name_words (name_of (span_of t) e) in
        let first : first_from 0 done x ≡ none = first_none 0 done x (λ i. unseen (in_names done x (legal, i))) in
        let own : row done' t ≡ b = rw (first_snoc 0 done l x, first, same_self x, zero-add (total exprs_of done), number_placed (total exprs_of done) l.expression) in
        let others : (y : Token) → In y so_far → row done' y ≡ row done y = λ y i. rw (first_other done l y.text (λ z. unseen (subst (λ (s : Text). In s (texts so_far)) (sym z) (in_map Token Text (λ (u : Token). u.text) so_far y i)))) in
        let rows : name_rows done' ≡ name_rows done ++ (b ∷ []) =
        ap (map (row done')) em ∙ map-append (row done') so_far (t ∷ []) ∙ ap (λ (rs : List (List ℕ)). rs ++ (row done' t ∷ [])) (map_same (row done') (row done) so_far others) ∙ ap (λ (q : List ℕ). name_rows done ++ (q ∷ [])) own in
        let n : next_number c.names ≡ length (name_rows done) + 1 = sym (next_below (omega (arith, few_rows, g.names, rows_length done))) ∙ ap (λ (i : ℕ). i + 1) (g.names ∙ sym (rows_length done)) in
        no_error (errors_none done l legal first) (ap (λ (k : NameCounts). k.errors) w.0) w.2
        (ap (λ (k : NameCounts). k.names) w.0 ∙ n ∙ ap (λ (i : ℕ). i + 1) (rows_length done) ∙ sym (ap length em ∙ length-append so_far (t ∷ [])))
        (w.1 ∙ ap (λ (q : List ℕ). written name_width q (next_number c.names) b) g.names_in ∙ ap (λ (i : ℕ). written name_width (table_of name_width (name_rows done) old_n) i b) n
        ∙ table_append name_width old_n (rows_wide done) (omega (arith, few_rows)) b few_rows refl ∙ ap (λ (rs : List (List ℕ)). table_of name_width rs old_n) (sym rows))

    -- the i-th name has the line's text
    module _ (legal : illegal x ≡ false) (i : ℕ) (found : find so_far x ≡ suc i) (below : i < length so_far) (here : (at i).text ≡ x) (em : names_of done' ≡ so_far) where
      known_is : known_entry exprs ns (suc i) (span_of t) e ≡ name_entry source exprs ns c.names (span_of t) e
      known_is = name_legal source exprs ns c.names (span_of t) e x false x_here (sym legal) (suc i) _ refl (sym (found_is ∙ found)) (legal_known exprs ns (suc i) (span_of t) e (λ z. omega arith))

      number_is : word_at name_width ns (suc i) 2 ≡ number_of (first_from 0 done x)
      number_is = name_expr i below ∙ ap (λ (y : Text). number_of (first_from 0 done y)) here

      -- it has no expression yet
      a_first : first_from 0 done x ≡ none → Going old_n old_e done' r ns' es'
      unfolding name_rows name_record
      a_first f =
          let b : List ℕ = name_words (name_of (span_of (at i)) e) in
          let w = by (Known (record { 0 = suc i }) (name_of (span_of (at i)) e)) (known_first exprs ns (suc i) (span_of t) e _ (span_of (at i)) refl (number_is ∙ ap number_of f) (sym (name_span_law i below)) ∙ known_is) in
          let number : number_of (first_from 0 done' x) ≡ e = rw (first_snoc 0 done l x, f, same_self x, zero-add (total exprs_of done)) (number_placed (total exprs_of done) l.expression) in
          let own : row done' (at i) ≡ b = ap (λ (k : ℕ). name_words (name_of (span_of (at i)) k)) (ap (λ (y : Text). number_of (first_from 0 done' y)) here ∙ number) in
          let others : (y : Token) → y.text ≢ x → row done y ≡ row done' y = λ y d. rw (first_other done l y.text (λ z. d (sym z))) in
          let rows : name_rows done' ≡ set (name_rows done) i b = ap (map (row done')) em ∙ set_one (row done) (row done') x t others so_far i (once_names done) below here ∙ ap (set (name_rows done) i) own in
          no_error (errors_none done l legal f) (ap (λ (k : NameCounts). k.errors) w.0) w.2 (ap (λ (k : NameCounts). k.names) w.0 ∙ g.names ∙ ap length (sym em))
          (w.1 ∙ ap (λ (q : List ℕ). written name_width q (suc i) b) g.names_in ∙ ap (λ (k : ℕ). written name_width (table_of name_width (name_rows done) old_n) k b) (sym (add-one i))
          ∙ table_replace name_width old_n (rows_wide done) (omega (arith, few_rows)) i b (omega (arith, rows_length done)) refl ∙ ap (λ (rs : List (List ℕ)). table_of name_width rs old_n) (sym rows))

      -- it has one
      module _ (p : Placed) (f : first_from 0 done x ≡ some p) where
        stay : (y : Token) → In y so_far → first_from 0 done' y.text ≡ first_from 0 done y.text
        stay y j = go (same_text? x y.text)
          where
            go : (x ≡ y.text) ⊎ (x ≢ y.text) → first_from 0 done' y.text ≡ first_from 0 done y.text
            go (inl z) = first_kept done l y.text p (ap (first_from 0 done) (sym z) ∙ f)
            go (inr d) = first_other done l y.text d

        not_0 : word_at name_width ns (suc i) 2 ≡ 0 → ⊥
        not_0 z = omega (arith, z, number_is ∙ ap number_of f, number_some p.expression p.before)

        a_plain : l.expression ≡ none → Going old_n old_e done' r ns' es'
        a_plain o =
            let z : e ≡ 0 = ap (λ (q : Option Expr). part_no (part_if q) (total exprs_of done)) o in
            let w = by Nothing (known_none exprs ns (suc i) (span_of t) e _ refl not_0 z ∙ known_is) in
            let le : line_errors done l ≡ [] = errors_later done l p legal f ∙ ap (λ (q : Option Expr). repeated (some p.expression) q t) o in
            no_error le (ap (λ (k : NameCounts). k.errors) w.0) w.2 (ap (λ (k : NameCounts). k.names) w.0 ∙ g.names ∙ ap length (sym em))
            (w.1 ∙ g.names_in ∙ ap (λ (rs : List (List ℕ)). table_of name_width rs old_n) (sym (rows_kept em stay)))

        a_later : (d : Expr) → l.expression ≡ some d → Going old_n old_e done' r ns' es'
        a_later d o =
            let z : e ≡ part_no (part_of d) (total exprs_of done) = ap (λ (q : Option Expr). part_no (part_if q) (total exprs_of done)) o in
            let k : e ≡ suc (e - 1) = omega (arith, z, number_some d (total exprs_of done)) in
            let rows : List (List ℕ) = expr_rows_of (done ++ (l ∷ rest)) in
            let fits : length rows ≤ record_limit = omega (arith, held.room, length-map (lines_exprs (done ++ (l ∷ rest)) 0) expr_words) in
            let place : part_place (part_of d) ≡ word_at expr_width exprs e 1 =
            sym (ap (λ (n : ℕ). word_at expr_width exprs n 1) k ∙ ap (λ (q : List ℕ). word_at expr_width q (suc (e - 1)) 1) held.table
            ∙ table_reads expr_width held.old (wide_map expr_width expr_words (λ a. refl) (lines_exprs (done ++ (l ∷ rest)) 0)) fits (e - 1) 1
            ∙ expr_start done rest l d o (e - 1) (sym z ∙ k)) in
            let q = known_later exprs ns (suc i) (span_of t) e _ (part_place (part_of d)) refl not_0 (λ y. omega (arith, y, k)) place ∙ known_is in
            an_error (record { kind = error.repeated; start = part_place (part_of d); name = span_of t }) q (errors_later done l p legal f ∙ ap (λ (q : Option Expr). repeated (some p.expression) q t) o) em stay

      a_known : Going old_n old_e done' r ns' es'
      a_known = by_first (first_from 0 done x) refl
        where
          by_line : (p : Placed) → first_from 0 done x ≡ some p → (o : Option Expr) → l.expression ≡ o → Going old_n old_e done' r ns' es'
          by_line p f none o = a_plain p f o
          by_line p f (some d) o = a_later p f d o

          by_first : (o : Option Placed) → first_from 0 done x ≡ o → Going old_n old_e done' r ns' es'
          by_first none f = a_first f
          by_first (some p) f = by_line p f l.expression refl

    -- A LINE MORE
    pub going_more : Going old_n old_e done' r ns' es'
    unfolding line_errors
    going_more = go (entering so_far l) (names_snoc done l)
      where
        go : {ms : List Token} → Entering so_far l ms → names_of done' ≡ ms → Going old_n old_e done' r ns' es'
        go (refused i) em =
            let f : Error = record { kind = error.illegal; start = t.start; name = span_of t } in
            let le : line_errors done l ≡ f ∷ [] = rw i in
            an_error f (name_illegal source exprs ns c.names (span_of t) e x true x_here (sym i) refl) le em
            (λ y j. first_other done l y.text (λ z. let b : true ≡ false = sym i ∙ ap illegal z ∙ ((named done).first y j).legal in let a : ◌≡◌ {A = ℕ} 0 1 = cc in omega arith))
        go (new legal absent unseen) em = a_new legal absent unseen em
        go (known legal there i) em =
            let w = find_first 1 (texts so_far) x i in
            let b : w.0 < length so_far = omega (arith, w.2.below, texts_length so_far) in
            a_known legal w.0 (find_is so_far x ∙ w.1 ∙ omega arith) b (sym (get_map (λ (y : Token). y.text) so_far w.0 t [] b) ∙ w.2.here) em
