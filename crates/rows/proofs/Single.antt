-- Each row as the pieces that the code writes. Assumes nothing.
use Prim.Native.Nat.{ℕ, zero, suc}
use mathlib.Core.Bool.{Bool, true, false, ◌&&◌}
use mathlib.Core.Path.{◌≡◌, refl, sym, ◌∙◌}
use mathlib.Core.List.{List, [], ◌∷◌, append_assoc}
use lib.Dec.{eqb, leb}
use lib.ListN.{length}
use Rattle.records.specs.Base.{bytes}
use Rattle.records.specs.Limits.{node_width, error_width}
use Rattle.records.specs.declared.Span.{Span}
use Rattle.records.specs.declared.refusals.Refusal.{Refusal}
use Rattle.tables.specs.Tables.{word_at, span_at}
use Rattle.text.specs.Place.{position_of}
use Rattle.literals.specs.Literals.{span_text}
use Rattle.access.specs.Access.{name_text_of, is_root_at}
use Rattle.print.specs.Text.{decimal, printed_row, place_word}
use Rattle.rows.specs.Rows.{head_row, node_word, name_word, node_row, error_word, error_row, unless_zero, refused_place, refused_row}
use Rattle.rows.specs.Words.{◌then◌, ended, rows_from, count_from, value_end, node_row_at, nodes_at, root_row_at, roots_at, error_row_at, errors_at, listed_at}

-- ---- names

module _ (name_of : ℕ → List ℕ) (n : ℕ) where
  -- `-` for 0
  pub name_none : n ≡ 0 → ended (name_word name_of n) 32 ≡ 45 ∷ 32 ∷ []
  unfolding name_word ◌then◌
  name_none e = rw e

  -- and the text t of any other name
  pub name_some : {t : List ℕ} → (n ≡ 0 → ⊥) → t ≡ name_of n → ended (name_word name_of n) 32 ≡ ended t 32
  unfolding name_word
  name_some {t} some e = go n some e
    where
      go : (m : ℕ) → (m ≡ 0 → ⊥) → t ≡ name_of m → ended (name_word name_of m) 32 ≡ ended t 32
      go zero h e = absurd (h refl)
      go (suc m) h e = rw e

-- ---- nodes

-- number, kind and name, where the kind's word is known
pub front_pieces : (number name : List ℕ) (k : ℕ) {w : List ℕ} → w ≡ node_word k → number then ended (node_word k) 32 then name ≡ number then ended w 32 then name
front_pieces number name k e = rw e

module _ (source names : List ℕ) (named : ℕ) (nodes : List ℕ) (i : ℕ) where
  -- number, kind, name; then place, left, right
  pub node_pieces : {k s n l r : ℕ} → k ≡ word_at node_width nodes i 0 → s ≡ word_at node_width nodes i 1 → n ≡ word_at node_width nodes i 2 → l ≡ word_at node_width nodes i 3 → r ≡ word_at node_width nodes i 4
      → node_row_at source names named nodes i
      ≡ (ended (decimal i) 32 then ended (node_word k) 32 then ended (name_word (name_text_of source names named) n) 32)
      then ended (place_word (position_of source s)) 32 then ended (decimal l) 32 then ended (decimal r) 10
  unfolding node_row_at node_row printed_row ◌then◌
  node_pieces ek es en el er = rw (ek, es, en, el, er) (simp append_assoc)

-- ---- roots

module _ (source names : List ℕ) (named : ℕ) (nodes : List ℕ) (made i : ℕ) {b : Bool} (e : b ≡ is_root_at names named nodes made i) where
  -- no row for a name that is no root
  pub root_none : b ≡ false → root_row_at source names named nodes made i ≡ []
  unfolding root_row_at
  root_none f = rw (sym e ∙ f)

  -- and its text t for one that is
  pub root_some : {t : List ℕ} → b ≡ true → t ≡ name_text_of source names named i → root_row_at source names named nodes made i ≡ ended t 10
  unfolding root_row_at printed_row ◌then◌
  root_some f g = rw (sym e ∙ f, g)

-- ---- errors

module _ (source errors : List ℕ) (i : ℕ) where
  -- kind, place, name
  pub error_pieces : {k s : ℕ} {w : List ℕ} {n : Span} {t : List ℕ} → k ≡ word_at error_width errors i 0 → w ≡ error_word k → s ≡ word_at error_width errors i 1
      → n ≡ span_at error_width errors i 2 → t ≡ span_text source n
      → error_row_at source errors i ≡ ended w 32 then ended (place_word (position_of source s)) 32 then ended t 10
  unfolding error_row_at error_row printed_row ◌then◌
  error_pieces ek ew es en et = rw (et, ew, ek, es, en) (simp append_assoc)

-- ---- refusals

module _ (source : List ℕ) (r : Refusal) where
  -- the end of the source
  pub place_end : leb 6 r.no && eqb r.place (length source) ≡ true → refused_place source r ≡ bytes "0:0"
  unfolding refused_place
  place_end e = rw e

  -- any other place
  pub place_inside : leb 6 r.no && eqb r.place (length source) ≡ false → refused_place source r ≡ place_word (position_of source r.place)
  unfolding refused_place
  place_inside e = rw e

-- no number, or one
pub value_none : (v : ℕ) → v ≡ 0 → value_end v ≡ 10 ∷ []
unfolding value_end
value_none v e = rw e

pub value_some : (v : ℕ) → (v ≡ 0 → ⊥) → value_end v ≡ (32 ∷ []) then ended (decimal v) 10
unfolding value_end
value_some zero h = absurd (h refl)
value_some (suc v) h = refl

-- ---- parts

-- a word and a count
pub nodes_pieces : (source names : List ℕ) (named : ℕ) (nodes : List ℕ) (made : ℕ) → nodes_at source names named nodes made ≡ (ended (bytes "nodes") 32 then ended (decimal made) 10) then rows_from (node_row_at source names named nodes) made 1
unfolding nodes_at head_row printed_row ◌then◌
nodes_pieces source names named nodes made = refl

pub roots_pieces : (source names : List ℕ) (named : ℕ) (nodes : List ℕ) (made : ℕ) {c : ℕ} → c ≡ count_from (is_root_at names named nodes made) named 1 → roots_at source names named nodes made ≡ (ended (bytes "roots") 32 then ended (decimal c) 10) then rows_from (root_row_at source names named nodes made) named 1
unfolding roots_at head_row printed_row ◌then◌
roots_pieces source names named nodes made e = rw e

pub errors_pieces : (source errors : List ℕ) (count : ℕ) → errors_at source errors count ≡ (ended (bytes "errors") 32 then ended (decimal count) 10) then rows_from (error_row_at source errors) count 1
unfolding errors_at head_row printed_row ◌then◌
errors_pieces source errors count = refl

-- nodes, roots, errors
pub listed_pieces : (source names : List ℕ) (named : ℕ) (nodes : List ℕ) (made : ℕ) (errors : List ℕ) (count : ℕ) → listed_at source names named nodes made errors count ≡ nodes_at source names named nodes made then roots_at source names named nodes made then errors_at source errors count
unfolding listed_at
listed_pieces source names named nodes made errors count = refl

-- `refused`, number, place, value
pub refused_pieces : (source : List ℕ) (r : Refusal) → refused_row source r ≡ bytes "refused " then ended (decimal r.no) 32 then refused_place source r then value_end r.value
unfolding refused_row printed_row ◌then◌ value_end unless_zero
refused_pieces source r = go r.value
  where
    go : (v : ℕ) → printed_row (bytes "refused" ∷ decimal r.no ∷ refused_place source r ∷ unless_zero v) ≡ bytes "refused " then ended (decimal r.no) 32 then refused_place source r then value_end v
    go zero = refl
    go (suc v) = simp append_assoc
