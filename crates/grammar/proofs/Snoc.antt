-- The records of lines with one line more at the end: those of the lines, then those of the last one, which count from what
-- stands before it. Assumes nothing.
use Prim.Native.Nat.{ℕ, ◌+◌}
use mathlib.Core.Path.{◌≡◌, refl}
use mathlib.Core.List.{List, [], ◌∷◌, ◌++◌, append_assoc, append-nil}
use native.Mathlib.Nat.{add-zero, add_assoc}
use Rattle.records.specs.declared.ExprRecord.{ExprRecord}
use Rattle.grammar.specs.Tree.{Line}
use Rattle.grammar.specs.Recorded.{line_part, exprs_of, types_in_line, expr_records, line_record, line_types, line_records, lines_exprs, lines_types}
use Rattle.grammar.proofs.Takes.{total}

-- F is the records of lines, G those of one line, from a state; `on` is the state behind a line, `past` behind lines
pub record Recording {S R : Type 0} (F : List Line → S → List R) (G : Line → S → List R) (on : S → Line → S) (past : S → List Line → S) : Type 0 where
  pub nothing : (s : S) → F [] s ≡ []
  pub first : (l : Line) (ls : List Line) (s : S) → F (l ∷ ls) s ≡ G l s ++ F ls (on s l)
  pub stay : (s : S) → past s [] ≡ s
  pub go : (s : S) (l : Line) (ls : List Line) → past s (l ∷ ls) ≡ past (on s l) ls

snoc : {S R : Type 0} {F : List Line → S → List R} {G : Line → S → List R} {on : S → Line → S} {past : S → List Line → S} → Recording F G on past → (ls : List Line) (l : Line) (s : S) → F (ls ++ (l ∷ [])) s ≡ F ls s ++ G l (past s ls)
snoc {on} h [] l s = rw (h.first l [] s, h.nothing (on s l), h.nothing s, h.stay s, append-nil)
snoc {on} h (k ∷ ls) l s = rw (h.first k (ls ++ (l ∷ [])) s, snoc h ls l (on s k), h.first k ls s, h.go s k ls, append_assoc)

-- so many records before, with those of a line, with those of lines
abbrev pub on : (Line → ℕ) → ℕ → Line → ℕ
on w n l = n + w l

abbrev pub past : (Line → ℕ) → ℕ → List Line → ℕ
past w n ls = n + total w ls

past_none : (w : Line → ℕ) (n : ℕ) → past w n [] ≡ n
unfolding total
past_none w n = rw add-zero

past_line : (w : Line → ℕ) (n : ℕ) (l : Line) (ls : List Line) → past w n (l ∷ ls) ≡ past w (on w n l) ls
unfolding total
past_line w n l ls = rw add_assoc

-- ---- expressions, types, lines

abbrev pub line_exprs : Line → ℕ → List ExprRecord
line_exprs l e = expr_records (line_part l) e

pub exprs_recording : Recording lines_exprs line_exprs (on exprs_of) (past exprs_of)
unfolding lines_exprs
exprs_recording = record { nothing = λ e. refl; first = λ l ls e. refl; stay = past_none exprs_of; go = past_line exprs_of }

pub types_recording : Recording lines_types line_types (on types_in_line) (past types_in_line)
unfolding lines_types
types_recording = record { nothing = λ t. refl; first = λ l ls t. refl; stay = past_none types_in_line; go = past_line types_in_line }

pub lines_recording : Recording (λ ls (s : ℕ × ℕ). line_records ls s.0 s.1) (λ l s. line_record l s.0 s.1 ∷ []) (λ s l. (on exprs_of s.0 l, on types_in_line s.1 l)) (λ s ls. (past exprs_of s.0 ls, past types_in_line s.1 ls))
unfolding line_records
lines_recording =
    record {
      nothing = λ s. refl;
      first = λ l ls s. refl;
      stay = λ s. rw (past_none exprs_of, past_none types_in_line);
      go = λ s l ls. rw (past_line exprs_of, past_line types_in_line);
    }

pub lines_exprs_snoc : (ls : List Line) (l : Line) (e : ℕ) → lines_exprs (ls ++ (l ∷ [])) e ≡ lines_exprs ls e ++ expr_records (line_part l) (e + total exprs_of ls)
lines_exprs_snoc = snoc exprs_recording

pub lines_types_snoc : (ls : List Line) (l : Line) (t : ℕ) → lines_types (ls ++ (l ∷ [])) t ≡ lines_types ls t ++ line_types l (t + total types_in_line ls)
lines_types_snoc = snoc types_recording

pub line_records_snoc : (ls : List Line) (l : Line) (e t : ℕ) → line_records (ls ++ (l ∷ [])) e t ≡ line_records ls e t ++ (line_record l (e + total exprs_of ls) (t + total types_in_line ls) ∷ [])
line_records_snoc ls l e t = snoc lines_recording ls l (e, t)
