-- Refusals 6 to 13 come exactly by the rules of refusal (`refused_exactly`). Of any tokens either a file is derived or a
-- refusal, never both, and one refusal only. Assumes nothing.
use Prim.Native.Nat.{ℕ}
use mathlib.Core.Path.{◌≡◌, refl, sym, ◌∙◌}
use mathlib.Core.List.{List}
use mathlib.Core.Logic.{◌⊎◌, inl, inr, ◌↔◌}
use native.Mathlib.Omega.{arith}
use Rattle.lex.specs.Tokens.{Token}
use Rattle.checks.specs.declared.Fault.{Fault}
use Rattle.checks.specs.Checks.{Checks}
use Rattle.grammar.specs.Tree.{Line}
use Rattle.grammar.specs.Rule.{Parsed, got, stop}
use Rattle.grammar.specs.Grammar.{lines}
use Rattle.grammar.specs.Derives.{IsFile}
use Rattle.grammar.proofs.Accepts.{lines_accept, lines_derived}
use Rattle.refusals.specs.Refuses.{NoFile, RefusedAt}
use Rattle.refusals.proofs.Stops.{lines_refused}
use Rattle.refusals.proofs.Refusing.{refused_by}
use Rattle.refusals.proofs.Explains.{lines_refuse}

module _ (checks : Checks) where
  pub refused_so : (ts left : List Token) (x : Fault) → lines checks ts ≡ stop x left → RefusedAt (NoFile checks) ts left x
  refused_so = refused_by (lines_refuse checks)

  pub so_refused : (ts left : List Token) (x : Fault) → RefusedAt (NoFile checks) ts left x → lines checks ts ≡ stop x left
  so_refused ts left x r = rw r.split (lines_refused checks r.rule)

  pub refused_exactly : (ts left : List Token) (x : Fault) → (lines checks ts ≡ stop x left) ↔ RefusedAt (NoFile checks) ts left x
  refused_exactly ts left x = (refused_so ts left x, so_refused ts left x)

  -- a file, or a refusal
  pub file_or_refused : (ts : List Token) → ((ls : List Line) × IsFile checks ts ls) ⊎ ((left : List Token) × (x : Fault) × RefusedAt (NoFile checks) ts left x)
  file_or_refused ts = go (lines checks ts) refl
    where
      go : (r : Parsed (List Line)) → lines checks ts ≡ r → ((ls : List Line) × IsFile checks ts ls) ⊎ ((left : List Token) × (x : Fault) × RefusedAt (NoFile checks) ts left x)
      go (got ls rest) e = inl (ls, (lines_derived checks ts rest ls e).1)
      go (stop x left) e = inr (left, x, refused_so ts left x e)

  module _ (ts left : List Token) (x : Fault) (r : RefusedAt (NoFile checks) ts left x) where
    pub never_both : (ls : List Line) → IsFile checks ts ls → ⊥
    never_both ls f = let y = sym (so_refused ts left x r) ∙ lines_accept checks f in let z : ◌≡◌ {A = ℕ} 0 1 = cc in omega arith

    pub refused_once : (rest : List Token) (y : Fault) (s : RefusedAt (NoFile checks) ts rest y) → (left ≡ rest) × (x ≡ y)
    refused_once rest y s = let e = sym (so_refused ts left x r) ∙ so_refused ts rest y s in (cc, cc)
