-- A contract that says what a result equals leaves one result only. Assumes nothing.
use mathlib.Core.Path.{◌≡◌, sym, ◌∙◌}

-- two results that meet `result ≡ definition` are the same
pub determined {ℓ} : {A : Type ℓ} {definition a b : A} → a ≡ definition → b ≡ definition → a ≡ b
determined e f = e ∙ sym f
