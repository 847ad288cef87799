-- The loop over lines: those before number i were entered, and the tables hold their names and errors. Assumes nothing.
use Prim.Native.Nat.{ℕ, suc, ◌+◌, ◌*◌, ◌≤◌, ◌<◌}
use mathlib.Core.Path.{◌≡◌, refl, sym, ap, subst, ◌∙◌}
use mathlib.Core.List.{List, [], ◌∷◌, ◌++◌, append_assoc, append-nil}
use native.Mathlib.Omega.{arith}
use lib.ListN.{length, get_or, take, length-append, length-map}
use Rattle.records.specs.Limits.{record_limit, line_width, name_width, error_width}
use Rattle.records.specs.Records.{line_words}
use Rattle.tables.specs.Tables.{table_of, word_at}
use Rattle.tables.proofs.Laws.{wide_map, table_cleared}
use Rattle.grammar.specs.Tree.{Line}
use Rattle.grammar.specs.Part.{span_of}
use Rattle.grammar.specs.Recorded.{part_no, line_part, exprs_of, types_in_line, line_record, line_records, line_rows}
use Rattle.grammar.proofs.Takes.{total, line_records_law}
use Rattle.names.specs.Names.{names_of, name_rows, errors_from, error_rows}
use Rattle.names.specs.Held.{Held, HeldLines, Entered}
use Rattle.names.specs.Code.{name_entry, line_entry, Enters}
use Rattle.names.specs.declared.NameCounts.{NameCounts}
use Rattle.names.specs.declared.Entry.{Entry}
use Rattle.tables.proofs.Reading.{table_reads}
use Rattle.names.proofs.Reading.{line_row}
use Rattle.names.proofs.Entering.{Going, going_more}

-- the lines of ls before number i were entered
pub record SoFar (old_n old_e : List ℕ) (ls : List Line) (i : ℕ) (c : NameCounts) (ns es : List ℕ) : Type 0 where
  pub done : List Line
  pub rest : List Line
  pub whole : ls ≡ done ++ rest
  pub size : suc (length done) ≡ i
  pub going : Going old_n old_e done c ns es

module _ (source lines exprs old_n old_e : List ℕ) (count : ℕ) (ls : List Line) (h : HeldLines source lines exprs count ls) where
  pub so_far_start : (ns es : List ℕ) → ns ≡ table_of name_width [] old_n → es ≡ table_of error_width [] old_e → SoFar old_n old_e ls 1 (record { names = 0; errors = 0 }) ns es
  unfolding names_of name_rows errors_from error_rows
  so_far_start ns es en ee = record { done = []; rest = ls; whole = refl; size = refl; going = record { names = refl; errors = refl; names_in = en; errors_in = ee } }

  -- the words of the line behind `done`
  line_entry_law : (done rest : List Line) (l : Line) → ls ≡ done ++ (l ∷ rest) → (ns : List ℕ) (n : ℕ) → name_entry source exprs ns n (span_of l.name) (part_no (line_part l) (total exprs_of done)) ≡ line_entry source lines exprs ns n (suc (length done))
  unfolding line_record line_entry
  line_entry_law done rest l e ns n =
      let fits : length (line_rows ls) ≤ record_limit = omega (arith, h.held.room, length-map (line_records ls 0 0) line_words, line_records_law ls 0 0) in
      let word : (j : ℕ) → word_at line_width lines (suc (length done)) j ≡ get_or (line_words (line_record l (total exprs_of done) (total types_in_line done))) j 0 =
      λ j. ap (λ (q : List ℕ). word_at line_width q (suc (length done)) j) h.table ∙ table_reads line_width h.old (wide_map line_width line_words (λ a. refl) (line_records ls 0 0)) fits (length done) j
      ∙ ap (λ (ks : List Line). get_or (get_or (line_rows ks) (length done) []) j 0) e ∙ ap (λ (r : List ℕ). get_or r j 0) (line_row done rest l) in
      rw (word 0, word 1, word 2)

  pub so_far_more : (i : ℕ) (c r : NameCounts) (ns ns' es es' : List ℕ) → i ≤ count → SoFar old_n old_e ls i c ns es → Enters (line_entry source lines exprs ns c.names i) c r ns ns' es es' → SoFar old_n old_e ls (i + 1) r ns' es'
  so_far_more i c r ns ns' es es' below s w = go s.rest s.whole
    where
      go : (rest : List Line) → ls ≡ s.done ++ rest → SoFar old_n old_e ls (i + 1) r ns' es'
      go [] e = absurd (omega (arith, below, h.counted, s.size, ap length (e ∙ append-nil s.done)))
      go (l ∷ rest) e =
          let entry : line_entry source lines exprs ns c.names i ≡ name_entry source exprs ns c.names (span_of l.name) (part_no (line_part l) (total exprs_of s.done)) = ap (line_entry source lines exprs ns c.names) (sym s.size) ∙ sym (line_entry_law s.done rest l e ns c.names) in
          record {
            done = s.done ++ (l ∷ []);
            rest = rest;
            whole = e ∙ sym (append_assoc s.done (l ∷ []) rest);
            size = omega (arith, s.size, length-append s.done (l ∷ []));
            going =
                going_more source exprs old_n old_e s.done rest l (subst (λ (ks : List Line). Held source exprs ks) e h.held) c ns es s.going r ns' es'
                (subst (λ (q : Entry). Enters q c r ns ns' es es') entry w);
          }

  pub so_far_all : (i : ℕ) (c : NameCounts) (ns es : List ℕ) → count < i → SoFar old_n old_e ls i c ns es → Entered ls c old_n ns old_e es
  so_far_all i c ns es end s = go s.rest s.whole
    where
      go : (rest : List Line) → ls ≡ s.done ++ rest → Entered ls c old_n ns old_e es
      go (l ∷ rest) e = absurd (omega (arith, end, h.counted, s.size, ap length e ∙ length-append s.done (l ∷ rest)))
      go [] e =
          let all : s.done ≡ ls = sym (e ∙ append-nil s.done) in
          let g : Going old_n old_e ls c ns es = subst (λ (ks : List Line). Going old_n old_e ks c ns es) all s.going in
          (rw (← g.names, ← g.errors), g.names_in, g.errors_in)

-- a table that was cleared
pub cleared : (w : ℕ) (old new : List ℕ) → record_limit * w ≤ length old → new ≡ take (length old) (table_of w [] old) → new ≡ table_of w [] old
cleared w old new room e = e ∙ table_cleared w old room
