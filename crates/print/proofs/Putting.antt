-- Texts put one behind the other are their sum put at once. Assumes nothing.
use Prim.Native.Nat.{ℕ, suc, ◌+◌, ◌≤◌}
use mathlib.Core.Path.{◌≡◌, refl, ◌∙◌}
use mathlib.Core.List.{List, [], ◌∷◌, ◌++◌}
use native.Mathlib.Omega.{arith}
use native.Mathlib.Nat.{add-zero, zero-add}
use lib.ListN.{length, set, drop, length-append}
use lib.Seq.{sets, sets-eq}
use Rattle.std.specs.Borrow.{MutBor}
use Rattle.print.specs.declared.Output.{Output}
use Rattle.print.specs.Text.{Puts, Begins, Adds}

-- a store behind a run of stores
pub sets_join : (a b out : List ℕ) (i : ℕ) → sets (sets out i a) (i + length a) b ≡ sets out i (a ++ b)
sets_join [] b out i = rw add-zero
sets_join (x ∷ a) b out i =
    let e : i + suc (length a) ≡ suc i + length a = omega arith in
    rw e (sets_join a b (set out i x) (suc i))

-- one text, and another behind it
puts_then : {a b out mid out' : List ℕ} {at r r' : ℕ} → Puts a out at mid r → Puts b mid r out' r' → Puts (a ++ b) out at out' r'
puts_then {a} {b} {out} {mid} {out'} {at} p q = record {
  written = q.written ∙ rw (p.written, p.behind) (sets_join a b out at);
  behind = q.behind ∙ simp length-append (omega (arith, p.behind));
}

module _ {a : List ℕ} {old mid : Output} (p : Adds a old mid) where
  pub adds_then : {b : List ℕ} {new : Output} → Adds b mid new → Adds (a ++ b) old new
  adds_then q = record { puts = puts_then p.puts q.puts; same = q.same ∙ p.same }

  -- where two texts have room, the second has room behind the first
  pub rest_fits : (limit : ℕ) (b : List ℕ) → old.at + length (a ++ b) ≤ limit → mid.at + length b ≤ limit
  rest_fits limit b h = omega (arith, p.puts.behind, simp length-append at h)

-- and the first has room
pub first_fits : (limit at : ℕ) (a b : List ℕ) → at + length (a ++ b) ≤ limit → at + length a ≤ limit
first_fits limit at a b h = omega (arith, simp length-append at h)

-- nothing is put
pub adds_nothing : (output : Output) → Adds [] output output
adds_nothing output = record { puts = record { written = refl; behind = omega arith }; same = refl }

-- ---- from where an output began

-- what was put since then stands there in what was lent
pub whole_puts : {at : ℕ} {lent : MutBor (List ℕ)} {text out' : List ℕ} {first last : Output} {r : ℕ} → Begins at lent first → Adds text first last → out' ≡ last.out.now → r ≡ last.at → Puts text lent.now at out' r
whole_puts b p e f = rw (b.whole, b.place, ← e, ← f) at p.puts

-- where there is room: the text, and then what there was
pub sets_front : (text out : List ℕ) → length text ≤ length out → sets out 0 text ≡ text ++ drop (length text) out
sets_front text out h = sets-eq text out 0 (omega arith) ∙ rw zero-add
