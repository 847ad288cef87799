-- The answer of `lex_all`, by the tests that came before it. Assumes nothing.
use Rattle.std.specs.Prelude.{if◌then◌else◌}
use Prim.Native.Nat.{ℕ, zero, suc, pred, ◌*◌, ◌≤◌, ◌<◌}
use mathlib.Core.Bool.{Bool, true, false}
use mathlib.Core.Path.{◌≡◌, refl, sym, ◌∙◌}
use mathlib.Core.List.{List, [], ◌∷◌}
use lib.Dec.{ltb}
use lib.ListN.{length, take}
use borrow.Author.Tests.{lt-ltb, le-ltb}
use Rattle.records.specs.Limits.{source_limit, record_limit, token_width}
use Rattle.text.specs.Check.{bad_at, Right, check_text}
use Rattle.text.proofs.Declared.{check_right}
use Rattle.matches.specs.declared.Lexed.{Lexed}
use Rattle.matches.specs.declared.Lexed.TheVariants.{Token as OfKind, Skip, NoMatch}
use Rattle.matches.specs.Longest.{lex_at}
use Rattle.lex.specs.Tokens.{Token, ends, behind_tokens, step_by, lex_from, lexing, lex_all, leaves, token_table}
use Rattle.std.specs.Prelude.{Err, Ok, Result}
use Rattle.text.specs.declared.TextError.{TextError}
use Rattle.lex.specs.declared.LexError.{LexError}
use Rattle.lex.specs.declared.LexError.TheVariants.{TooManyTokens, LongSource, NoToken, NotUtf8, ShortTable}

-- a place of refusal 3 lies inside the text
pub bad_inside : (s : List ℕ) (a : Result (Unit {0}) TextError) (n : ℕ) → a ≡ check_text s → a ≡ bad_at n → n < length s
bad_inside s a n e f = let r : Right s (bad_at n) = rw (sym e ∙ f) at (check_right s) in r.inside

-- the errors that lexing itself can meet: refusals 4 and 5
abbrev pub Met : LexError → Type 0
Met ShortTable = ⊥
Met LongSource = ⊥
Met (NotUtf8 at) = ⊥
Met (NoToken at) = Unit {0}
Met (TooManyTokens at) = Unit {0}

EndsSo : Result ℕ LexError → Type 0
EndsSo (Ok n) = Unit {0}
EndsSo (Err x) = Met x

from_met : (at skip count : ℕ) (s : List ℕ) → EndsSo (lex_from at skip count s).answer
unfolding lex_from EndsSo
from_met at skip count [] = tt
from_met at (suc k) count (b ∷ s) = from_met (suc at) k count s
from_met at zero count (b ∷ s) = go (λ n c. from_met (suc at) n c s) (lex_at (b ∷ s))
  where
    counted : ((n c : ℕ) → EndsSo (lex_from (suc at) n c s).answer) → (n : ℕ) (ts : List Token) (t : Bool) → EndsSo (if t then behind_tokens ts (lex_from (suc at) n (suc count) s) else ends (Err (TooManyTokens (record { 0 = at })))).answer
    counted later n ts true = later n (suc count)
    counted later n ts false = tt

    go : ((n c : ℕ) → EndsSo (lex_from (suc at) n c s).answer) → (l : Lexed) → EndsSo (step_by l (b ∷ s) at count (λ n. lex_from (suc at) (pred n) count s) (λ n. lex_from (suc at) (pred n) (suc count) s)).answer
    go later NoMatch = tt
    go later (Skip n) = later (pred n) count
    go later (OfKind k n) = counted later (pred n) (record { kind = k; start = at; text = take n (b ∷ s) } ∷ []) (ltb count record_limit)

-- lexing ends with tokens, or with refusal 4 or 5
pub lexing_met : (s : List ℕ) (x : LexError) → (lexing s).answer ≡ Err x → Met x
unfolding EndsSo
lexing_met s x e = rw e at (from_met 0 0 0 s)

-- so the table that lexing leaves is that of its tokens
lexed_leaves : (s old : List ℕ) (a : Result ℕ LexError) → (lexing s).answer ≡ a → leaves a s old ≡ token_table (lexing s) old
unfolding token_table
lexed_leaves s old (Ok n) e = refl
lexed_leaves s old (Err ShortTable) e = absurd (lexing_met s ShortTable e)
lexed_leaves s old (Err LongSource) e = sym (rw e)
lexed_leaves s old (Err (NotUtf8 at)) e = sym (rw e)
lexed_leaves s old (Err (NoToken at)) e = sym (rw e)
lexed_leaves s old (Err (TooManyTokens at)) e = sym (rw e)

module _ (s old : List ℕ) where
  -- an answer, and the table that it leaves
  settled : (a : Result ℕ LexError) (new : List ℕ) → lex_all s old ≡ a → new ≡ leaves a s old → (a ≡ lex_all s old) × (new ≡ leaves (lex_all s old) s old)
  settled a new e f = (sym e, rw e f)

  pub answer_short : length old < record_limit * token_width → (Err ShortTable ≡ lex_all s old) × (old ≡ leaves (lex_all s old) s old)
  unfolding lex_all
  answer_short h = settled (Err ShortTable) old (rw (lt-ltb (length old) (record_limit * token_width) h)) refl

  module _ (room : record_limit * token_width ≤ length old) where
    pub answer_long : (new : List ℕ) → source_limit < length s → new ≡ leaves (Err LongSource) s old → (Err LongSource ≡ lex_all s old) × (new ≡ leaves (lex_all s old) s old)
    unfolding lex_all
    answer_long new h f = settled (Err LongSource) new (rw (le-ltb (length old) (record_limit * token_width) room, lt-ltb source_limit (length s) h)) f

    module _ (short : length s ≤ source_limit) where
      pub answer_bad : (a : Result (Unit {0}) TextError) (n : ℕ) (new : List ℕ) → a ≡ check_text s → a ≡ bad_at n → new ≡ leaves (Err (NotUtf8 (record { 0 = n }))) s old → (Err (NotUtf8 (record { 0 = n })) ≡ lex_all s old) × (new ≡ leaves (lex_all s old) s old)
      unfolding lex_all
      answer_bad a n new e f g =
          settled (Err (NotUtf8 (record { 0 = n }))) new
          (rw (le-ltb (length old) (record_limit * token_width) room, le-ltb source_limit (length s) short, ← e, f))
          g

      pub answer_ended : (a : Result (Unit {0}) TextError) (r : Result ℕ LexError) (new : List ℕ) → a ≡ check_text s → a ≡ Ok tt → r ≡ (lexing s).answer → new ≡ token_table (lexing s) old → (r ≡ lex_all s old) × (new ≡ leaves (lex_all s old) s old)
      unfolding lex_all
      answer_ended a r new e f g t =
          settled r new
          (rw (le-ltb (length old) (record_limit * token_width) room, le-ltb source_limit (length s) short, ← e, f, g))
          (t ∙ sym (lexed_leaves s old r (sym g)))
