-- What begins an atom of a type, by the token's kind. Assumes nothing.
use Prim.Native.Nat.{ℕ, zero, suc}
use mathlib.Core.Path.{◌≡◌, refl, sym, ap}
use mathlib.Core.List.{List, [], ◌∷◌}
use Rattle.records.specs.TokenKind as token
use Rattle.records.specs.declared.TokenRecord.{TokenRecord}
use Rattle.lex.specs.Tokens.{Token, record_of}
use Rattle.matches.specs.Code.{NotIn}
use Rattle.checks.specs.declared.Fault.TheVariants.{ParseFailed}
use Rattle.literals.specs.Literals.{span_text}
use Rattle.checks.specs.Checks.{power_verdict, checks_of}
use Rattle.cursor.specs.declared.Cursor.{Cursor}
use Rattle.cursor.specs.Tokens.{token_of}
use Rattle.cursor.proofs.Entries.{choice_none}
use Rattle.grammar.specs.Tree as tree
use Rattle.grammar.specs.Tree.{present}
use Rattle.grammar.specs.Rule.{got, go_on, entry, choice}
use Rattle.grammar.specs.Grammar.{group, whole, power_of, type_heads, type_head}
use Rattle.grammar.specs.Recorded.{type_weight, type_records}
use Rattle.types.specs.declared.TypeInner.TheVariants.{Name, One, Two}
use Rattle.types.specs.Answers.{type_record_by, LeafType, power_inner, power_head, HeadAt}
use Rattle.checks.specs.declared.Fault.{Fault}
use Rattle.std.specs.Prelude.{Err, Ok, Result}
use Rattle.cursor.specs.Cursor.{Answer}
use Rattle.types.specs.declared.AtomHead.{AtomHead}
use Rattle.types.specs.declared.AtomHead.TheVariants.{Whole}

-- the types of one record
leaf_one : LeafType tree.one One
unfolding present type_weight type_records
leaf_one = record { here = refl; one = refl; row = λ m. refl }

leaf_two : LeafType tree.two Two
unfolding present type_weight type_records
leaf_two = record { here = refl; one = refl; row = λ m. refl }

leaf_power : (n : ℕ) → LeafType (power_of n) (power_inner n)
unfolding present type_weight type_records
leaf_power zero = record { here = refl; one = refl; row = λ m. refl }
leaf_power (suc n) = record { here = refl; one = refl; row = λ m. refl }

module _ (source jets : List ℕ) (r : TokenRecord) (rest : List Token) (c : Cursor) where
  abbrev t : Token
  t = token_of source r

  -- a name, by the record that is the token's own
  pub head_name : r.kind.0 ≡ token.number token.symbol → r ≡ record_of t → HeadAt jets t rest c (Ok (Whole (Name r.span), c))
  unfolding type_head choice entry go_on present type_weight type_records
  head_name e f =
      let row : (m : ℕ) → type_records (tree.name t) m ≡ type_record_by (Name r.span) ∷ [] = λ m. ap (λ (q : TokenRecord). type_record_by (Name q.span) ∷ []) (sym f) in
      (tree.name t, rw e, record { here = refl; one = refl; row = row }, refl)

  pub head_group : r.kind.0 ≡ token.number token.lparen → type_head (checks_of jets) (t ∷ rest) ≡ got group rest
  unfolding type_head choice entry go_on
  head_group e = rw e

  pub head_absent : r.kind.0 ≡ token.number token.underscore → type_head (checks_of jets) (t ∷ rest) ≡ got (whole tree.absent) rest
  unfolding type_head choice entry go_on
  head_absent e = rw e

  pub head_one : r.kind.0 ≡ token.number token.one → HeadAt jets t rest c (Ok (Whole One, c))
  unfolding type_head choice entry go_on
  head_one e = (tree.one, rw e, leaf_one, refl)

  pub head_two : r.kind.0 ≡ token.number token.two → HeadAt jets t rest c (Ok (Whole Two, c))
  unfolding type_head choice entry go_on
  head_two e = (tree.two, rw e, leaf_two, refl)

  head_power : (v : Result ℕ Fault) → r.kind.0 ≡ token.number token.power → power_verdict (span_text source r.span) ≡ v → HeadAt jets t rest c (power_head v r.span.start c)
  unfolding type_head choice entry go_on
  head_power (Ok n) e f = (power_of n, rw (e, f), leaf_power n, refl)
  head_power (Err x) e f = (x, rw (e, f), refl)

  pub head_powered : (h : Answer AtomHead) → r.kind.0 ≡ token.number token.power → h ≡ power_head (power_verdict (span_text source r.span)) r.span.start c → HeadAt jets t rest c h
  head_powered h e f = rw f (head_power (power_verdict (span_text source r.span)) e refl)

  pub head_none : NotIn (28 ∷ 27 ∷ 29 ∷ 34 ∷ 26 ∷ 4 ∷ []) r.kind.0 → HeadAt jets t rest c (Err (record { fault = ParseFailed; at = r.span.start }))
  unfolding type_head go_on
  head_none h = (ParseFailed, rw (choice_none (type_heads (checks_of jets)) (28 ∷ 27 ∷ 29 ∷ 34 ∷ 26 ∷ 4 ∷ []) t rest refl h), refl)

-- what begins at a token, by its kind
pub ruleset by_kind = (head_group, head_absent, head_name, head_powered, head_one, head_two)
