-- A refusal of the grammar is deserved: it depends on the tokens before the refused one and on that one, whatever follows. So
-- no file that begins with these tokens is accepted, and none is derived. Of a refusal at the end of the source, where no
-- token is refused, nothing is claimed: more tokens may make a file of it. Assumes nothing.
use Prim.Native.Nat.{ℕ}
use mathlib.Core.Path.{◌≡◌, sym, ◌∙◌}
use mathlib.Core.List.{List, [], ◌∷◌, ◌++◌}
use native.Mathlib.Omega.{arith}
use Rattle.lex.specs.Tokens.{Token}
use Rattle.checks.specs.declared.Fault.{Fault}
use Rattle.checks.specs.Checks.{Checks}
use Rattle.grammar.specs.Tree.{Line}
use Rattle.grammar.specs.Rule.{got, stop}
use Rattle.grammar.specs.Grammar.{lines}
use Rattle.grammar.specs.Derives.{IsFile}
use Rattle.grammar.proofs.Obeys.{first, obeys_split, obeys_local}
use Rattle.grammar.proofs.Sound.{lines_obeys}
use Rattle.grammar.proofs.Accepts.{lines_accept}

module _ (checks : Checks) (before after other : List Token) (t : Token) (x : Fault) (e : lines checks (before ++ (t ∷ after)) ≡ stop x (t ∷ after)) where
  -- with other tokens behind the refused one
  pub refused_again : lines checks (before ++ (t ∷ other)) ≡ stop x (t ∷ other)
  refused_again = obeys_local (lines_obeys checks) before (t ∷ after) (t ∷ other) (stop x []) e first

  pub deserved : (ls : List Line) (rest : List Token) → lines checks (before ++ (t ∷ other)) ≡ got ls rest → ⊥
  deserved ls rest f = let y = sym refused_again ∙ f in let z : ◌≡◌ {A = ℕ} 0 1 = cc in omega arith

  pub underived : (ls : List Line) → IsFile checks (before ++ (t ∷ other)) ls → ⊥
  underived ls f = deserved ls [] (lines_accept checks f)

-- the tokens before the refused one, t, which no file begins with
pub record Deserved (checks : Checks) (ts : List Token) (t : Token) (after : List Token) : Type 0 where
  pub before : List Token
  pub split : ts ≡ before ++ (t ∷ after)
  pub undone : (other : List Token) (ls : List Line) → IsFile checks (before ++ (t ∷ other)) ls → ⊥

-- every refusal of a token
pub deserved_at : (checks : Checks) (ts after : List Token) (t : Token) (x : Fault) → lines checks ts ≡ stop x (t ∷ after) → Deserved checks ts t after
deserved_at checks ts after t x e =
    let s = obeys_split (lines_obeys checks) ts (t ∷ after) x e in
    record { before = s.used; split = s.split; undone = λ other. underived checks s.used after other t x (rw s.split at e) }
