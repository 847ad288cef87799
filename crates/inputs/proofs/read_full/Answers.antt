use Rattle.std.proofs.Common.{rules, arith, length, take, slice_range, ◌≡◌, ℕ, ◌+◌, ◌-◌, ◌≤◌, List, ◌++◌, sym, ap, ◌∙◌, subst, le_refl, drop_at, length-take-le}
use Rattle.std.proofs.lemmas.Slice.{take-put_mid_below}
use Rattle.std.specs.Io.KnownBytes.{Consumes}
use Rattle.std.proofs.KnownBytes.{Consumes-nil, Consumes-trans}
use borrow.Rule.Slice.PartMut.{put_mid, post_of}
use lib.Seq.{take-add, take-append-le}
use Rattle.inputs.proofs.read_full.Goals as goal

take_split : (a b : ℕ) (old new : List ℕ) → a ≤ b → take a new ≡ take a old → take a old ++ slice_range new a b ≡ take b new
take_split a b old new h front =
    let same : a + (b - a) ≡ b = omega arith in
    ap (λ l. l ++ slice_range new a b) (sym front) ∙ sym (take-add a (b - a) new) ∙ ap (λ n. take n new) same

slice_range-put_mid : (a k n : ℕ) (xs ys : List ℕ) → a ≤ length xs → n ≤ length ys → slice_range (put_mid a k xs ys) a (a + n) ≡ take n ys
slice_range-put_mid a k n xs ys within fits =
    let same : (a + n) - a ≡ n = omega arith in
    let after = post_of a k xs in
    ap (take ((a + n) - a)) (drop_at (take a xs) (ys ++ after) a (length-take-le a xs within)) ∙ ap (λ m. take m (ys ++ after)) same ∙ take-append-le n ys after fits

-- What stands at the front of a buffer after a read behind its first `a` bytes: those, and what was read.
read_joined : (a k n : ℕ) (xs ys : List ℕ) → a ≤ length xs → n ≤ length ys → take a xs ++ take n ys ≡ take (a + n) (put_mid a k xs ys)
read_joined a k n xs ys within fits =
    ap (λ l. take a xs ++ l) (sym (slice_range-put_mid a k n xs ys within fits))
    ∙ take_split a (a + n) xs (put_mid a k xs ys) (omega arith) (take-put_mid_below _ _ _ _ _ (le_refl _) within)

-- The same where nothing was read.
none_joined : (a k n : ℕ) (xs ys : List ℕ) → a ≤ length xs → n ≤ length ys → n ≡ 0 → take a xs ++ take n ys ≡ take a (put_mid a k xs ys)
none_joined a k n xs ys within fits none =
    let same : a + n ≡ a = omega arith in
    read_joined a k n xs ys within fits ∙ ap (λ m. take m (put_mid a k xs ys)) same

pub loop-len-init : goal.loop-len-init
loop-len-init g c = (search rules, search rules, Consumes-nil _)

pub loop-len-preserved : goal.loop-len-preserved
loop-len-preserved g c =
    let from = c.loop-len.len in
    let joined = read_joined from (length c.loop-len.buf - from) c.in_ok-count.count c.loop-len.buf c.read.new.buf c.loop-len.invariant.1 c.in_ok-count.ensures.bound.0 in
    (search rules, search rules, subst (Consumes _ _) joined (Consumes-trans _ _ _ _ _ c.loop-len.invariant.2 c.in_ok-count.ensures.bytes.0))

pub returns-then-count-eq0-clause-bytes : goal.returns-then-count-eq0-clause-bytes
returns-then-count-eq0-clause-bytes g c =
    let from = c.loop-len.len in
    let joined = none_joined from (length c.loop-len.buf - from) c.in_ok-count.count c.loop-len.buf c.read.new.buf c.loop-len.invariant.1 c.in_ok-count.ensures.bound.0 c.if-count-eq0.true in
    subst (Consumes _ _) joined (Consumes-trans _ _ _ _ _ c.loop-len.invariant.2 c.in_ok-count.ensures.bytes.0)

pub returns-clause-bytes : goal.returns-clause-bytes
returns-clause-bytes g c = c.loop-len.invariant.2
