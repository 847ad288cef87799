-- Laws of the cursors that a parser reaches: one token on, one way behind another, and that the numbers stay below the limits.
-- Assumes nothing.
use Prim.Native.Nat.{ℕ, ◌+◌, ◌<◌}
use mathlib.Core.Path.{◌≡◌, refl, sym, ap, subst, ◌∙◌}
use mathlib.Core.List.{List, ◌∷◌}
use native.Mathlib.Omega.{arith}
use native.Mathlib.Nat.{add-zero}
use lib.ListN.{length}
use Rattle.lex.specs.Tokens.{Token}
use Rattle.cursor.specs.declared.Cursor.{Cursor}
use Rattle.cursor.specs.Tokens.{tokens_left}
use Rattle.cursor.specs.Cursor.{stepped, Ready, Reached}
use Rattle.cursor.proofs.Laws.{left_length, left_next}

module _ (source tokens : List ℕ) (n : ℕ) where
  -- where nothing was passed
  pub reached_none : {c : Cursor} → Ready n c → Reached source tokens n c c (tokens_left source tokens n c.token.0) 0 0
  reached_none r = record { inside = r.inside; left = refl; exprs = sym (add-zero _); types = sym (add-zero _); room = (omega arith, omega arith) }

  pub reached_ready : {c d : Cursor} {rest : List Token} {e t : ℕ} → Ready n c → Reached source tokens n c d rest e t → Ready n d
  reached_ready r h = record { few = r.few; inside = h.inside; exprs = omega (arith, r.exprs, h.exprs, h.room.0); types = omega (arith, r.types, h.types, h.room.1) }

  pub reached_go : {c d f : Cursor} {q rest : List Token} {e t a b : ℕ} → Reached source tokens n c d q e t → Reached source tokens n d f rest a b → Reached source tokens n c f rest (e + a) (t + b)
  reached_go h k =
      record {
        inside = k.inside;
        left = k.left;
        exprs = omega (arith, h.exprs, k.exprs);
        types = omega (arith, h.types, k.types);
        room = (omega (arith, h.room.0, k.room.0), omega (arith, h.room.1, k.room.1));
      }

  -- the same where nothing was recorded on the first way
  pub reached_after : {c d f : Cursor} {q rest : List Token} {a b : ℕ} → Reached source tokens n c d q 0 0 → Reached source tokens n d f rest a b → Reached source tokens n c f rest a b
  reached_after h k =
      record {
        inside = k.inside;
        left = k.left;
        exprs = omega (arith, h.exprs, k.exprs);
        types = omega (arith, h.types, k.types);
        room = (omega (arith, h.room.0, k.room.0), omega (arith, h.room.1, k.room.1));
      }

  -- a token is left only where the cursor is not at the end
  pub some_left : (p : ℕ) (t : Token) (rest : List Token) → tokens_left source tokens n p ≡ t ∷ rest → p < n
  some_left p t rest e = omega (arith, left_length source tokens n p, ap length e)

  -- one token on
  pub reached_step : {c d : Cursor} {rest : List Token} {e k : ℕ} (t : Token) → Reached source tokens n c d (t ∷ rest) e k → Reached source tokens n c (stepped d) rest e k
  reached_step {c} {d} {rest} t h =
      let p = d.token.0 in
      let below : p < n = some_left p t rest h.left in
      let both = sym (left_next source tokens n p below) ∙ h.left in
      record {
        inside = omega arith;
        left = cc;
        exprs = h.exprs;
        types = h.types;
        room = (omega (arith, h.room.0), omega (arith, h.room.1));
      }

  -- the first token
  pub reached_first : {c : Cursor} {rest : List Token} (t : Token) → Ready n c → tokens_left source tokens n c.token.0 ≡ t ∷ rest → Reached source tokens n c (stepped c) rest 0 0
  reached_first {c} t r e = reached_step t (subst (λ (q : List Token). Reached source tokens n c c q 0 0) e (reached_none r))

  -- ---- only one cursor is reached

  pub reached_once : (c d f : Cursor) (rest : List Token) (e k : ℕ) → Reached source tokens n c d rest e k → Reached source tokens n c f rest e k → d ≡ f
  reached_once c d f rest e k h i =
      let same : d.token.0 ≡ f.token.0 = omega (arith, h.inside, i.inside, left_length source tokens n d.token.0, left_length source tokens n f.token.0, ap length h.left, ap length i.left) in
      ap (λ (x : ℕ). record { token = record { 0 = x }; expr = d.expr; ty = d.ty }) same
      ∙ ap (λ (x : ℕ). record { token = f.token; expr = record { 0 = x }; ty = d.ty }) (h.exprs ∙ sym i.exprs)
      ∙ ap (λ (x : ℕ). record { token = f.token; expr = f.expr; ty = record { 0 = x } }) (h.types ∙ sym i.types)
