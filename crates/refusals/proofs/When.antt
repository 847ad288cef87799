-- Each refusal comes exactly when its condition holds (`exactly_when`), and a source is read exactly when it is cut into tokens that
-- derive its lines (`accepted_exactly`): a condition settles the reading, and one of the conditions holds. Assumes nothing.
use Prim.Native.Nat.{ℕ}
use mathlib.Core.Bool.{Bool, true, false}
use mathlib.Core.Path.{◌≡◌, refl, sym, ap, subst, ◌∙◌}
use mathlib.Core.List.{List}
use mathlib.Core.Logic.{◌↔◌}
use native.Mathlib.Omega.{arith}
use lib.Dec.{ltb}
use lib.ListN.{length}
use borrow.Author.Tests.{ltb-true, ltb-false, lt-ltb, le-ltb}
use Rattle.records.specs.Limits.{source_limit}
use Rattle.records.specs.Refusals as refusal
use Rattle.text.specs.Check.{bad_at, Right, check_text}
use Rattle.text.proofs.Declared.{check_right, right_once}
use Rattle.lex.specs.Tokens.{Token, Lexing, lexing}
use Rattle.lex.proofs.Tiling.{tiles_lexed}
use Rattle.checks.specs.declared.Fault.{Fault}
use Rattle.checks.specs.declared.Fault.TheVariants.{ParseFailed, BadWordLength, EntropyInsufficient, EntropyTooMuch, UnknownJet, Bad2ExpNumber, NumberOutOfRange, TooDeep}
use Rattle.checks.specs.Checks.{refused_at, checks_of}
use Rattle.cursor.specs.Cursor.{place_of_left}
use Rattle.grammar.specs.Tree.{Line}
use Rattle.grammar.specs.Rule.{Parsed, got, stop}
use Rattle.grammar.specs.Grammar.{lines}
use Rattle.grammar.proofs.Accepts.{lines_accept, lines_derived}
use Rattle.reader.specs.Reading.{Contents, contents, Reading, read, refused, by_lines, by_tokens, by_text, reading, Tables, short_to_read, read_into}
use Rattle.refusals.specs.When.{Small, Valid, Lexed, Stops, When, Accepted}
use Rattle.refusals.proofs.Events.{refused_event}
use Rattle.refusals.proofs.Cuts.{no_token_exactly, too_many_exactly, tokens_exactly}
use Rattle.std.specs.Prelude.{Err, Ok, Result}
use Rattle.text.specs.declared.TextError.{TextError}
use Rattle.lex.specs.declared.LexError.{LexError}
use Rattle.lex.specs.declared.LexError.TheVariants.{ShortTable, LongSource, NotUtf8, NoToken, TooManyTokens}
use Rattle.lex.proofs.Answers.{lexing_met}

module _ (source jets : List ℕ) (old : Tables) where
  -- the condition of a reading
  abbrev Condition : Reading → Type 0
  Condition (read c) = Accepted source jets old c
  Condition (refused r) = When source jets old r

  -- ---- a condition settles the reading

  -- without refusals 1 and 2, 3, 4 and 5
  small_reading : Small source jets old → read_into source jets old ≡ by_text source jets (check_text source)
  unfolding read_into reading
  small_reading h = rw (h.0, le-ltb source_limit (length source) h.1)

  text_reading : (a : Result (Unit {0}) TextError) → Small source jets old → Right source a → read_into source jets old ≡ by_text source jets a
  text_reading a h r = small_reading h ∙ ap (by_text source jets) (right_once source (check_text source) a (check_right source) r)

  valid_reading : (e : Result ℕ LexError) → Valid source jets old → (lexing source).answer ≡ e → read_into source jets old ≡ by_tokens source jets e
  valid_reading e h q = text_reading (Ok tt) h.0 h.1 ∙ ap (by_tokens source jets) q

  lexed_reading : (ts : List Token) (r : Parsed (List Line)) → Lexed source jets old ts → lines (checks_of jets) ts ≡ r → read_into source jets old ≡ by_lines source ts r
  lexed_reading ts r h q =
      let l = tiles_lexed h.1 h.2 in
      valid_reading (Ok (length ts)) h.0 (ap (λ (l : Lexing). l.answer) l)
      ∙ ap (λ (l : Lexing). by_lines source l.tokens (lines (checks_of jets) l.tokens)) l
      ∙ ap (by_lines source ts) q

  -- refusals 6 to 13, whatever the fault
  stops_reading : (x : Fault) (p : ℕ) → Stops source jets old x p → read_into source jets old ≡ refused (refused_at p x)
  stops_reading x p s =
      lexed_reading s.tokens (stop x s.left) s.lexed ((refused_event jets s.tokens s.left x).1 s.rule)
      ∙ ap (λ (q : ℕ). refused (refused_at q x)) s.first

  when_reading : (r : refusal.Refused) → When source jets old r → read_into source jets old ≡ refused r
  unfolding read_into reading
  when_reading refusal.short_table h = rw h
  when_reading refusal.long_source h = rw (h.0, lt-ltb source_limit (length source) h.1)
  when_reading (refusal.not_utf8 p) h = text_reading (bad_at p) h.0 h.1
  when_reading (refusal.no_token p) h = valid_reading (Err (NoToken (record { 0 = p }))) h.0 ((no_token_exactly source p).1 h.1)
  when_reading (refusal.too_many_tokens p) h = valid_reading (Err (TooManyTokens (record { 0 = p }))) h.0 ((too_many_exactly source p).1 h.1)
  when_reading (refusal.parse_failed p) h = stops_reading ParseFailed p h
  when_reading (refusal.bad_word_length p n) h = stops_reading (BadWordLength n) p h
  when_reading (refusal.short_fail p n) h = stops_reading (EntropyInsufficient n) p h
  when_reading (refusal.long_fail p n) h = stops_reading (EntropyTooMuch n) p h
  when_reading (refusal.unknown_jet p) h = stops_reading UnknownJet p h
  when_reading (refusal.bad_power p n) h = stops_reading (Bad2ExpNumber n) p h
  when_reading (refusal.big_exponent p) h = stops_reading NumberOutOfRange p h
  when_reading (refusal.too_deep p) h = stops_reading TooDeep p h

  settles : (x : Reading) → Condition x → read_into source jets old ≡ x
  settles (read c) a = lexed_reading a.tokens _ a.lexed (lines_accept (checks_of jets) a.derived) ∙ ap read (sym a.said)
  settles (refused r) h = when_reading r h

  -- ---- one of the conditions holds

  stops_when : (x : Fault) (p : ℕ) → Stops source jets old x p → When source jets old (refused_at p x)
  stops_when ParseFailed p s = s
  stops_when (BadWordLength n) p s = s
  stops_when (EntropyInsufficient n) p s = s
  stops_when (EntropyTooMuch n) p s = s
  stops_when UnknownJet p s = s
  stops_when (Bad2ExpNumber n) p s = s
  stops_when NumberOutOfRange p s = s
  stops_when TooDeep p s = s

  one_holds : (x : Reading) × Condition x
  one_holds = tables (short_to_read old) refl
    where
      parsed : (ts : List Token) → Lexed source jets old ts → (r : Parsed (List Line)) → lines (checks_of jets) ts ≡ r → (x : Reading) × Condition x
      parsed ts h (got ls rest) e = (read (contents ts ls), record { tokens = ts; lexed = h; lines = ls; derived = (lines_derived (checks_of jets) ts rest ls e).1; said = refl })
      parsed ts h (stop x left) e =
          let p : ℕ = place_of_left (length source) left in
          (refused (refused_at p x), stops_when x p (record { tokens = ts; lexed = h; left = left; first = refl; rule = (refused_event jets ts left x).0 e }))

      lexed : Valid source jets old → (a : Result ℕ LexError) → (lexing source).answer ≡ a → (x : Reading) × Condition x
      lexed h (Ok n) e = let t = (tokens_exactly source n).0 e in parsed t.0 (h, t.1, omega (arith, t.2, t.3)) (lines (checks_of jets) t.0) refl
      lexed h (Err ShortTable) e = absurd (lexing_met source ShortTable e)
      lexed h (Err LongSource) e = absurd (lexing_met source LongSource e)
      lexed h (Err (NotUtf8 p)) e = absurd (lexing_met source (NotUtf8 p) e)
      lexed h (Err (NoToken p)) e = (refused (refusal.no_token p.0), (h, (no_token_exactly source p.0).0 e))
      lexed h (Err (TooManyTokens p)) e = (refused (refusal.too_many_tokens p.0), (h, (too_many_exactly source p.0).0 e))

      text : Small source jets old → (a : Result (Unit {0}) TextError) → Right source a → (x : Reading) × Condition x
      text h (Ok _) r = lexed (h, r) (lexing source).answer refl
      text h (Err x) r = (refused (refusal.not_utf8 x.at), (h, r))

      size : short_to_read old ≡ false → (b : Bool) → ltb source_limit (length source) ≡ b → (x : Reading) × Condition x
      size h true e = (refused refusal.long_source, (h, ltb-true source_limit (length source) e))
      size h false e = text (h, ltb-false source_limit (length source) e) (check_text source) (check_right source)

      tables : (b : Bool) → short_to_read old ≡ b → (x : Reading) × Condition x
      tables true e = (refused refusal.short_table, e)
      tables false e = size e (ltb source_limit (length source)) refl

  holds : (x : Reading) → read_into source jets old ≡ x → Condition x
  holds x e = let y = one_holds in subst (λ (z : Reading). Condition z) (sym (settles y.0 y.1) ∙ e) y.1

-- EACH REFUSAL COMES EXACTLY WHEN ITS CONDITION HOLDS
pub exactly_when : (source jets : List ℕ) (old : Tables) (r : refusal.Refused) → (read_into source jets old ≡ refused r) ↔ When source jets old r
exactly_when source jets old r = (holds source jets old (refused r), settles source jets old (refused r))

-- and with no refusal a source says just this
pub accepted_exactly : (source jets : List ℕ) (old : Tables) (c : Contents) → (read_into source jets old ≡ read c) ↔ Accepted source jets old c
accepted_exactly source jets old c = (holds source jets old (read c), settles source jets old (read c))
