-- What stands at a line's beginning, by the token that was peeked. Assumes nothing.
use Prim.Native.Nat.{ℕ, ◌+◌}
use mathlib.Core.Bool.{Bool, true}
use mathlib.Core.Path.{◌≡◌, sym, ap, ◌∙◌}
use mathlib.Core.List.{List, ◌∷◌}
use lib.ListN.{length}
use Rattle.records.specs.declared.TokenRecord.{TokenRecord}
use Rattle.lex.specs.Tokens.{Token, record_of}
use Rattle.cursor.specs.declared.Cursor.{Cursor}
use Rattle.cursor.specs.Tokens.{token_at, token_of_kind, tokens_left}
use Rattle.cursor.specs.Cursor.{stepped, peeked, Answer}
use Rattle.cursor.proofs.Laws.{left_next}
use Rattle.cursor.proofs.Reached.{some_left}
use Rattle.cursor.proofs.Steps.{ahead_next}
use Rattle.grammar.specs.Rule.{is_of}
use Rattle.grammar.specs.Grammar.{names}
use Rattle.grammar.specs.Part.{span_of}
use Rattle.lines.specs.Answers.{tail_by, line_head_by}
use Rattle.lines.specs.declared.LineHead.{LineHead}
use Rattle.std.specs.Prelude.{Option, Some}

module _ (s t : List ℕ) (n : ℕ) (c : Cursor) (a : Option (TokenRecord × Cursor)) (e : a ≡ peeked c (tokens_left s t n c.token.0)) where
  abbrev ts : List Token
  ts = tokens_left s t n c.token.0

  module _ (r : TokenRecord) (d : Cursor) (b : Bool) (f : a ≡ Some (r, d)) (named : b ≡ is_of (token_of_kind r.kind) names) where
    first : (u : Token) × (rest : List Token) × (ts ≡ u ∷ rest) × (r ≡ record_of u) × (d ≡ stepped c)
    first = ahead_next c a ts r d e f

    says : is_of first.0 names ≡ b
    says = sym (named ∙ ap (λ (q : TokenRecord). is_of (token_of_kind q.kind) names) first.3)

    pub head_name : (h : Answer LineHead) → b ≡ true → h ≡ tail_by (length s) r.span d (tokens_left s t n d.token.0) → h ≡ line_head_by (length s) c ts
    unfolding line_head_by
    head_name h eb eh =
        let below = some_left s t n c.token.0 first.0 first.1 first.2 in
        let both : token_at s t (c.token.0 + 1) ∷ tokens_left s t n (c.token.0 + 1) ≡ first.0 ∷ first.1 = sym (left_next s t n c.token.0 below) ∙ first.2 in
        let left : tokens_left s t n (c.token.0 + 1) ≡ first.1 = cc in
        let one : line_head_by (length s) c (first.0 ∷ first.1) ≡ tail_by (length s) (span_of first.0) (stepped c) first.1 = rw (says ∙ eb) in
        eh ∙ ap (λ (q : Cursor). tail_by (length s) r.span q (tokens_left s t n q.token.0)) first.4
        ∙ ap (λ (q : TokenRecord). tail_by (length s) q.span (stepped c) (tokens_left s t n (c.token.0 + 1))) first.3
        ∙ ap (tail_by (length s) (span_of first.0) (stepped c)) left ∙ sym one ∙ ap (line_head_by (length s) c) (sym first.2)
