-- The tokens that a token table holds, for any words: what the parser reads instead of a list.
use Rattle.std.specs.Prelude.{ℕ, zero, suc, ◌-◌, List, [], ◌∷◌}
use Rattle.records.specs.Limits.{token_width}
use Rattle.records.specs.declared.TokenRecord.{TokenRecord}
use Rattle.records.specs.declared.kinds.TokenKind.{TokenKind}
use Rattle.tables.specs.Tables.{word_at, span_at}
use Rattle.lex.specs.Tokens.{Token}
use Rattle.literals.specs.Literals.{span_text}

-- the token of this number; one that does not lie in the source has no text
unfoldable pub token_at : (source tokens : List ℕ) → (number : ℕ) → Token
token_at source tokens n =
    record {
      kind = record { 0 = word_at token_width tokens n 0 };
      start = word_at token_width tokens n 1;
      text = span_text source (span_at token_width tokens n 1);
    }

-- the token of a record
abbrev pub token_of : (source : List ℕ) → TokenRecord → Token
token_of source r = record { kind = r.kind; start = r.span.start.0; text = span_text source r.span }

-- a token of this kind
abbrev pub token_of_kind : TokenKind → Token
token_of_kind k = record { kind = k; start = 0; text = [] }

-- k tokens, behind the token of number `passed`
unfoldable pub tokens_from : (source tokens : List ℕ) → (k passed : ℕ) → List Token
tokens_from source tokens zero p = []
tokens_from source tokens (suc k) p = token_at source tokens (suc p) ∷ tokens_from source tokens k (suc p)

-- of `count` tokens those that are left behind the token of number `passed`
unfoldable pub tokens_left : (source tokens : List ℕ) → (count passed : ℕ) → List Token
tokens_left source tokens n p = tokens_from source tokens (n - p) p
