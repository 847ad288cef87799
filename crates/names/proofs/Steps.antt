-- What a line does, by the tests that came before it; and that it is done. Assumes nothing.
use Prim.Native.Nat.{ℕ}
use mathlib.Core.Bool.{Bool, true, false}
use mathlib.Core.Path.{◌≡◌, sym, ◌∙◌}
use mathlib.Core.List.{List}
use borrow.Author.Tests.{eq-eqb, ne_eqb}
use Rattle.records.specs.Limits.{expr_width, name_width}
use Rattle.records.specs.ErrorKind as error
use Rattle.records.specs.declared.Span.{Span}
use Rattle.tables.specs.Tables.{word_at, span_at}
use Rattle.literals.specs.Literals.{span_text}
use Rattle.symbols.specs.Symbols.{Text, illegal, find_from}
use Rattle.symbols.specs.Texts.{texts_from}
use Rattle.names.specs.declared.Entry.{Entry}
use Rattle.names.specs.declared.Entry.TheVariants.{New, Known, Wrong, Nothing}
use Rattle.names.specs.Code.{name_of, error_of, known_entry, legal_entry, name_entry}

module _ (exprs names : List ℕ) (k : ℕ) (s : Span) (e : ℕ) where
  pub known_first : (w : ℕ) (t : Span) → w ≡ word_at name_width names k 2 → w ≡ 0 → t ≡ span_at name_width names k 0 → Known (record { 0 = k }) (name_of t e) ≡ known_entry exprs names k s e
  unfolding known_entry
  known_first w t ew z et = rw (eq-eqb _ 0 (sym ew ∙ z), et)

  pub known_none : (w : ℕ) → w ≡ word_at name_width names k 2 → ¬ (w ≡ 0) → e ≡ 0 → Nothing ≡ known_entry exprs names k s e
  unfolding known_entry
  known_none w ew z ee = rw (ne_eqb _ 0 (λ q. z (ew ∙ q)), eq-eqb e 0 ee)

  pub known_later : (w v : ℕ) → w ≡ word_at name_width names k 2 → ¬ (w ≡ 0) → ¬ (e ≡ 0) → v ≡ word_at expr_width exprs e 1 → Wrong (error_of error.repeated v s) ≡ known_entry exprs names k s e
  unfolding known_entry
  known_later w v ew z ee ev = rw (ne_eqb _ 0 (λ q. z (ew ∙ q)), ne_eqb e 0 ee, ev)

  pub legal_new : k ≡ 0 → New (name_of s e) ≡ legal_entry exprs names k s e
  unfolding legal_entry
  legal_new z = rw (eq-eqb k 0 z)

  pub legal_known : ¬ (k ≡ 0) → known_entry exprs names k s e ≡ legal_entry exprs names k s e
  unfolding legal_entry
  legal_known z = rw (ne_eqb k 0 z)

module _ (source exprs names : List ℕ) (n : ℕ) (s : Span) (e : ℕ) (x : Text) (b : Bool) (ex : x ≡ span_text source s) (eb : b ≡ illegal x) where
  pub name_illegal : b ≡ true → Wrong (error_of error.illegal s.start.0 s) ≡ name_entry source exprs names n s e
  unfolding name_entry
  name_illegal t = rw (← ex, ← eb, t)

  pub name_legal : (k : ℕ) (r : Entry) → b ≡ false → k ≡ find_from 1 (texts_from source names 1 n) x → r ≡ legal_entry exprs names k s e → r ≡ name_entry source exprs names n s e
  unfolding name_entry
  name_legal k r t ek er = er ∙ rw (← ex, ← eb, t, ek)
