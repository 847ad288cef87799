-- What stands at the place of a refusal (`no_file_event`): one walk over the rules of refusal. Assumes nothing.
use Rattle.std.specs.Prelude.{if◌then◌else◌, Err, None, Ok, Option, Some}
use Prim.Native.Nat.{ℕ, zero, suc, ◌+◌, ◌≤◌}
use mathlib.Core.Bool.{Bool, true, false}
use mathlib.Core.Path.{◌≡◌, refl, sym, ◌∙◌}
use mathlib.Core.List.{List, [], ◌∷◌, ◌++◌, append_assoc, append-nil}
use mathlib.Core.Logic.{◌↔◌}
use native.Mathlib.Omega.{arith}
use lib.ListN.{length, length-append}
use lib.Dec.{ltb}
use borrow.Author.Tests.{ltb-true, ltb-false}
use Rattle.records.specs.Limits.{depth_limit}
use Rattle.records.specs.TokenKind as token
use Rattle.lex.specs.Tokens.{Token}
use Rattle.checks.specs.declared.Fault.{Fault}
use Rattle.checks.specs.declared.Fault.TheVariants.{ParseFailed, BadWordLength, EntropyInsufficient, EntropyTooMuch, UnknownJet, Bad2ExpNumber, NumberOutOfRange, TooDeep}
use Rattle.checks.specs.Powers.{log2, exponent_of}
use Rattle.checks.specs.Jets.{known}
use Rattle.checks.specs.Checks.{Checks, word_bound, word_by, word_verdict, fail_verdict, jet_verdict, power_by, power_verdict, checks_of}
use Rattle.checks.proofs.Powers.{log2_none}
use Rattle.checks.proofs.Jets.{known_piece}
use Rattle.grammar.specs.Rule.{stop}
use Rattle.grammar.specs.Grammar.{literals, lines}
use Rattle.grammar.specs.Derives.{OneOf, Is}
use Rattle.grammar.proofs.Deserved.{underived}
use Rattle.refusals.specs.Refuses as no
use Rattle.refusals.specs.Refuses.{NoType, NoAtom, NoExpr, NoCmr, NoArrow, NoLine, NoFile, RefusedAt}
use Rattle.refusals.specs.Events.{stands, Behind, last, Unaccepted, bits_in, Event}
use Rattle.refusals.proofs.Stops.{lines_refused}
use Rattle.refusals.proofs.Exactly.{refused_so, so_refused, never_both}

module _ (checks : Checks) where
  -- why a refusal comes; the depth costs at least so many tokens
  data Cause (depth : ℕ) : (front left : List Token) → Fault → Type 0 where
    parse : {front left : List Token} → Cause depth front left ParseFailed
    word : (us : List Token) {left : List Token} {x : Fault} (t l : Token) → Is token.const t → OneOf literals l → checks.word l.kind l.text ≡ Err x → Cause depth (us ++ (t ∷ [])) (l ∷ left) x
    fail : (us : List Token) {left : List Token} {x : Fault} (t l : Token) → Is token.fail t → OneOf literals l → checks.fail l.kind l.text ≡ Err x → Cause depth (us ++ (t ∷ [])) (l ∷ left) x
    jet : {front left : List Token} {x : Fault} (t : Token) → Is token.jet t → checks.jet t.text ≡ Err x → Cause depth front (t ∷ left) x
    power : {front left : List Token} {x : Fault} (t : Token) → Is token.power t → checks.power t.text ≡ Err x → Cause depth front (t ∷ left) x
    deep : (front : List Token) {left : List Token} → depth ≤ length front → Cause depth front left TooDeep

  -- with more tokens in front
  after : (us : List Token) (d k : ℕ) → k ≤ d + length us → {front left : List Token} {x : Fault} → Cause d front left x → Cause k (us ++ front) left x
  after us d k h parse = parse
  after us d k h (word vs t l i o e) = rw (← append_assoc us vs (t ∷ [])) (word (us ++ vs) t l i o e)
  after us d k h (fail vs t l i o e) = rw (← append_assoc us vs (t ∷ [])) (fail (us ++ vs) t l i o e)
  after us d k h (jet t i e) = jet t i e
  after us d k h (power t i e) = power t i e
  after us d k h (deep front m) = deep (us ++ front) (omega (arith, length-append us front))

  -- ---- types

  module _ (d : ℕ) (h : (front left : List Token) (x : Fault) → NoType checks d front left x → Cause d front left x) where
    atom_cause_by : {front left : List Token} {x : Fault} → NoAtom checks d front left x → Cause (suc d) front left x
    atom_cause_by (no.not_atom n) = parse
    atom_cause_by (no.power t i e) = power t i e
    atom_cause_by (no.group t i k) = after (t ∷ []) d (suc d) (omega arith) (h _ _ _ k)
    atom_cause_by (no.open_group t i k n) = parse

    type_cause_by : {front left : List Token} {x : Fault} → NoType checks (suc d) front left x → Cause (suc d) front left x
    type_cause_by (no.atom k) = atom_cause_by k
    type_cause_by (no.operand {ls} {front} o t k i n) = rw (append_assoc ls (t ∷ []) front) at (after (ls ++ (t ∷ [])) (suc d) (suc d) (omega arith) (atom_cause_by n))

  type_cause : (d : ℕ) {front left : List Token} {x : Fault} → NoType checks d front left x → Cause d front left x
  type_cause zero no.deep_type = deep [] (omega arith)
  type_cause (suc d) k = type_cause_by d (λ front left x. type_cause d) k

  arrow_cause : {front left : List Token} {x : Fault} → NoArrow checks front left x → Cause depth_limit front left x
  arrow_cause (no.source k) = type_cause depth_limit k
  arrow_cause (no.between k n) = parse
  arrow_cause (no.target {ts} {front} t k i n) = rw (append_assoc ts (t ∷ []) front) at (after (ts ++ (t ∷ [])) depth_limit depth_limit (omega arith) (type_cause depth_limit n))

  -- ---- expressions

  module _ (d : ℕ) (h : (front left : List Token) (x : Fault) → NoExpr checks d front left x → Cause d front left x) where
    cmr_cause_by : {front left : List Token} {x : Fault} → NoCmr checks d front left x → Cause d front left x
    cmr_cause_by (no.not_cmr n) = parse
    cmr_cause_by (no.inside t i k) = after (t ∷ []) d d (omega arith) (h _ _ _ k)
    cmr_cause_by (no.open_brace t i k n) = parse

    -- in the first part, in the second
    in_first : (t : Token) {front left : List Token} {x : Fault} → Cause d front left x → Cause (suc d) (t ∷ front) left x
    in_first t c = after (t ∷ []) d (suc d) (omega arith) c

    in_second : (t : Token) (us : List Token) {front left : List Token} {x : Fault} → Cause d front left x → Cause (suc d) (t ∷ (us ++ front)) left x
    in_second t us c = after (t ∷ us) d (suc d) (omega arith) c

    expr_cause_by : {front left : List Token} {x : Fault} → NoExpr checks (suc d) front left x → Cause (suc d) front left x
    expr_cause_by (no.not_expr n) = parse
    expr_cause_by (no.hole t i n) = parse
    expr_cause_by (no.const t i n) = parse
    expr_cause_by (no.word t l i o e) = word [] t l i o e
    expr_cause_by (no.fail t i n) = parse
    expr_cause_by (no.entropy t l i o e) = fail [] t l i o e
    expr_cause_by (no.jet t i e) = jet t i e
    expr_cause_by (no.parens t i k) = in_first t (h _ _ _ k)
    expr_cause_by (no.open_parens t i k n) = parse
    expr_cause_by (no.unary k t i n) = in_first t (h _ _ _ n)
    expr_cause_by (no.binaryl k t i n) = in_first t (h _ _ _ n)
    expr_cause_by (no.binaryr {ls} k t i m n) = in_second t ls (h _ _ _ n)
    expr_cause_by (no.assertl t i n) = in_first t (h _ _ _ n)
    expr_cause_by (no.assertl_cmr {es} t i m n) = in_second t es (cmr_cause_by n)
    expr_cause_by (no.assertr_cmr t i n) = in_first t (cmr_cause_by n)
    expr_cause_by (no.assertr {cs} t i m n) = in_second t cs (h _ _ _ n)

  expr_cause : (d : ℕ) {front left : List Token} {x : Fault} → NoExpr checks d front left x → Cause d front left x
  expr_cause zero no.deep_expr = deep [] (omega arith)
  expr_cause (suc d) k = expr_cause_by d (λ front left x. expr_cause d) k

  -- ---- lines

  line_cause : {front left : List Token} {x : Fault} → NoLine checks front left x → Cause (depth_limit + 2) front left x
  line_cause (no.name t e) = parse
  line_cause (no.tail x n m) = parse
  line_cause (no.expression x t n i k) = after (x ∷ t ∷ []) depth_limit (depth_limit + 2) (omega arith) (expr_cause depth_limit k)
  line_cause (no.typed {es} {front} x t u n i k j m) = rw (append_assoc es (u ∷ []) front) at (after (x ∷ t ∷ (es ++ (u ∷ []))) depth_limit (depth_limit + 2) (omega arith) (arrow_cause m))
  line_cause (no.declared x t n i m) = after (x ∷ t ∷ []) depth_limit (depth_limit + 2) (omega arith) (arrow_cause m)

  file_cause : {front left : List Token} {x : Fault} → NoFile checks front left x → Cause (depth_limit + 2) front left x
  file_cause (no.here k) = line_cause k
  file_cause (no.later {ts} k w f) = after ts (depth_limit + 2) (depth_limit + 2) (omega arith) (file_cause f)

-- ---- what the tests of document 01 say

module _ (jets : List ℕ) (front : List Token) where
  same_fault : (left : List Token) (x y : Fault) → x ≡ y → Event jets front left x → Event jets front left y
  same_fault left x y e v = rw e at v

  word_event : (l : Token) (left : List Token) (x : Fault) → Behind token.const front → OneOf literals l → word_verdict (bits_in l) ≡ Err x → Event jets front (l ∷ left) x
  unfolding word_verdict
  word_event l left x b o = go (log2 word_bound (bits_in l)) refl
    where
      go : (p : Option ℕ) → log2 word_bound (bits_in l) ≡ p → word_by (bits_in l) p ≡ Err x → Event jets front (l ∷ left) x
      go (Some k) q e = let z : ◌≡◌ {A = ℕ} 0 1 = cc in absurd (omega arith)
      go None q e = same_fault (l ∷ left) (BadWordLength (bits_in l)) x (cc) (b, stands o (refl, log2_none word_bound (bits_in l) q))

  fail_event : (l : Token) (left : List Token) (x : Fault) → Behind token.fail front → OneOf literals l → fail_verdict (bits_in l) ≡ Err x → Event jets front (l ∷ left) x
  unfolding fail_verdict
  fail_event l left x b o = short (ltb (bits_in l) 128) refl
    where
      long : (p : Bool) → ltb 512 (bits_in l) ≡ p → (if p then Err (EntropyTooMuch (bits_in l)) else Ok (tt {0})) ≡ Err x → Event jets front (l ∷ left) x
      long true q e = same_fault (l ∷ left) (EntropyTooMuch (bits_in l)) x (cc) (b, stands o (refl, ltb-true 512 (bits_in l) q))
      long false q e = let z : ◌≡◌ {A = ℕ} 0 1 = cc in absurd (omega arith)

      short : (p : Bool) → ltb (bits_in l) 128 ≡ p → (if p then Err (EntropyInsufficient (bits_in l)) else if ltb 512 (bits_in l) then Err (EntropyTooMuch (bits_in l)) else Ok (tt {0})) ≡ Err x → Event jets front (l ∷ left) x
      short true q e = same_fault (l ∷ left) (EntropyInsufficient (bits_in l)) x (cc) (b, stands o (refl, ltb-true (bits_in l) 128 q))
      short false q e = long (ltb 512 (bits_in l)) refl e

  jet_event : (t : Token) (left : List Token) (x : Fault) → Is token.jet t → jet_verdict jets t.text ≡ Err x → Event jets front (t ∷ left) x
  unfolding jet_verdict
  jet_event t left x i = go (known jets t.text) refl
    where
      go : (p : Bool) → known jets t.text ≡ p → (if p then Ok (tt {0}) else Err UnknownJet) ≡ Err x → Event jets front (t ∷ left) x
      go true q e = let z : ◌≡◌ {A = ℕ} 0 1 = cc in absurd (omega arith)
      go false q e = same_fault (t ∷ left) UnknownJet x (cc) (stands i (λ p. let y : true ≡ false = sym ((known_piece jets t.text).1 p) ∙ q in let z : ◌≡◌ {A = ℕ} 0 1 = cc in omega arith))

  power_event : (t : Token) (left : List Token) (x : Fault) → Is token.power t → power_verdict t.text ≡ Err x → Event jets front (t ∷ left) x
  unfolding power_verdict
  power_event t left x i = big (ltb 4294967295 (exponent_of t.text)) refl
    where
      bad : exponent_of t.text ≤ 4294967295 → (p : Option ℕ) → log2 10 (exponent_of t.text) ≡ p → power_by (exponent_of t.text) p ≡ Err x → Event jets front (t ∷ left) x
      bad h (Some k) q e = let z : ◌≡◌ {A = ℕ} 0 1 = cc in absurd (omega arith)
      bad h None q e = same_fault (t ∷ left) (Bad2ExpNumber (exponent_of t.text)) x (cc) (stands i (refl, h, log2_none 10 (exponent_of t.text) q))

      big : (p : Bool) → ltb 4294967295 (exponent_of t.text) ≡ p → (if p then Err NumberOutOfRange else power_by (exponent_of t.text) (log2 10 (exponent_of t.text))) ≡ Err x → Event jets front (t ∷ left) x
      big true q e = same_fault (t ∷ left) NumberOutOfRange x (cc) (stands i (ltb-true 4294967295 (exponent_of t.text) q))
      big false q e = bad (ltb-false 4294967295 (exponent_of t.text) q) (log2 10 (exponent_of t.text)) refl e

-- ---- all together

-- a refused token is not accepted, whatever follows it
unaccepted : (checks : Checks) (front left : List Token) (x : Fault) → NoFile checks front left x → Unaccepted checks front left
unaccepted checks front [] x n = λ ls f. never_both checks front [] x (record { front = front; split = sym (append-nil front); rule = n }) ls f
unaccepted checks front (t ∷ ts) x n = λ other ls f. underived checks front ts other t x (lines_refused checks n) ls f

pub no_file_event : (jets : List ℕ) (front left : List Token) (x : Fault) → NoFile (checks_of jets) front left x → Event jets front left x
no_file_event jets front left x n = go (file_cause (checks_of jets) n) (unaccepted (checks_of jets) front left x n)
  where
    go : {front left : List Token} {x : Fault} → Cause (checks_of jets) (depth_limit + 2) front left x → Unaccepted (checks_of jets) front left → Event jets front left x
    go parse u = u
    go (word us {left} {x} t l i o e) u = word_event jets (us ++ (t ∷ [])) l left x (last us t i) o e
    go (fail us {left} {x} t l i o e) u = fail_event jets (us ++ (t ∷ [])) l left x (last us t i) o e
    go (jet {front} {left} {x} t i e) u = jet_event jets front t left x i e
    go (power {front} {left} {x} t i e) u = power_event jets front t left x i e
    go (deep front h) u = h

-- a refusal of the grammar comes exactly by the rules, and then this stands at its place
pub refused_event : (jets : List ℕ) (ts left : List Token) (x : Fault) → (lines (checks_of jets) ts ≡ stop x left) ↔ RefusedAt (λ front left x. NoFile (checks_of jets) front left x × Event jets front left x) ts left x
refused_event jets ts left x = (there, λ r. so_refused (checks_of jets) ts left x (record { front = r.front; split = r.split; rule = r.rule.0 }))
  where
    there : lines (checks_of jets) ts ≡ stop x left → RefusedAt (λ front left x. NoFile (checks_of jets) front left x × Event jets front left x) ts left x
    there e =
        let r = refused_so (checks_of jets) ts left x e in
        record { front = r.front; split = r.split; rule = (r.rule, no_file_event jets r.front left x r.rule) }
