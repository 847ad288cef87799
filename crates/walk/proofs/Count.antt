-- What the nodes weigh: what the trees of the names do, since each part becomes one node. With the weight 1 of each, there are as
-- many nodes as parts.
use Prim.Native.Nat.{ℕ, zero, suc, ◌+◌, ◌≤◌}
use mathlib.Core.Path.{◌≡◌, refl, sym, ap, ◌∙◌}
use mathlib.Core.Bool.{Bool, true, false}
use mathlib.Core.Logic.{◌⊎◌, inl, inr, ◌≢◌}
use mathlib.Core.List.{List, [], ◌∷◌, ◌++◌, map}
use native.Mathlib.Omega.{arith}
use lib.ListN.{length}
use Rattle.walk.specs.Walk.{NodeHead, Own, own_kind, Tree, none, part, refer, Node, Status, fresh, begun, finished, State, Walked, marked, mark, resolve, walk}
use Rattle.walk.specs.Walk.{ready, whole, whole_if, visit_in, visit, names_to, unwalked, final}
use Rattle.walk.proofs.Basics.{same?, marked_same, marked_other, not_fresh_done, not_fresh_begun, length_snoc, Grows, walk_begun, ready_true, visit_in_grow}
use Rattle.walk.proofs.Fuel.{sum_begin, sum_same, all_done}
use Rattle.walk.specs.Walk.{Legal}
use Rattle.walk.specs.Stands.{sum}
use Rattle.walk.specs.Machine.{node_of, size, share, fresh_sum, fresh_size, Absent}

-- ---- every part of a tree becomes one node, and a name's tree is walked at most once

-- to finish a name that is begun makes none fresh
sum_finished : (f : ℕ → ℕ) (N n i : ℕ) (st : ℕ → Status) → st n ≡ begun → fresh_sum f N (marked n (finished i) st) ≡ fresh_sum f N st
sum_finished f N n i st b = sum_same f N st (marked n (finished i) st) (λ m. go m (same? m n))
  where
    go : (m : ℕ) → (m ≡ n) ⊎ (m ≢ n) → (marked n (finished i) st m ≡ fresh → st m ≡ fresh) × (st m ≡ fresh → marked n (finished i) st m ≡ fresh)
    go m (inl p) = (λ e. absurd (not_fresh_done i e (rw p (marked_same n (finished i) st))), λ e. absurd (not_fresh_begun e (ap st p ∙ b)))
    go m (inr d) = (λ e. sym (marked_other n (finished i) st m d) ∙ e, λ e. marked_other n (finished i) st m d ∙ e)

-- with no fresh name the sum is 0
sum_none : (f : ℕ → ℕ) (n : ℕ) (st : ℕ → Status) → ((m : ℕ) → Legal n m → st m ≡ fresh → ⊥) → fresh_sum f n st ≡ 0
unfolding fresh_sum
sum_none f zero st h = refl
sum_none f (suc n) st h = omega (arith, sum_none f n st (λ m l. h m (l.0, omega (arith, l))), go (st (suc n)) refl)
  where
    go : (v : Status) → st (suc n) ≡ v → share (f (suc n)) v ≡ 0
    go fresh e = absurd (h (suc n) (omega arith, omega arith) e)
    go begun e = refl
    go (finished i) e = refl

-- ---- what nodes weigh

-- each node weighs what the part does that it is made of, whatever its children are and whether its name is finished
pub record Weighs (g : Node → ℕ) (t : Tree → ℕ) : Type 0 where
  pub absent : t none ≡ 0
  pub own : (k : Own) (h : NodeHead) (l r : Tree) (a b : ℕ) → t (part k h l r) ≡ g (node_of k h a b) + (t l + t r)
  pub used : (h : NodeHead) (n : ℕ) (v : Status) → t (refer h n) ≡ g (resolve h v)

pub sum_append : {A : Type 0} (f : A → ℕ) (xs ys : List A) → sum (map f (xs ++ ys)) ≡ sum (map f xs) + sum (map f ys)
unfolding sum
sum_append f [] ys = omega arith
sum_append f (x ∷ xs) ys = omega (arith, sum_append f xs ys)

sum_snoc : (g : Node → ℕ) (xs : List Node) (x : Node) → sum (map g (xs ++ (x ∷ []))) ≡ sum (map g xs) + g x
unfolding sum
sum_snoc g xs x = omega (arith, sum_append g xs (x ∷ []))

-- f summed over the numbers 1 to N
pub total : (ℕ → ℕ) → ℕ → ℕ
total f N = fresh_sum f N (λ _. fresh)

module _ (F : ℕ → Tree) (N : ℕ) (g : Node → ℕ) (t : Tree → ℕ) (w : Weighs g t) where
  -- what the nodes weigh, and the trees of the names not yet begun
  abbrev weighed : State → ℕ
  weighed s = sum (map g s.nodes) + fresh_sum (λ n. t (F n)) N s.status

  -- they are together as heavy as before
  record Even (v : ℕ → State → State) : Type 0 where
    grows : Grows N v
    even : (n : ℕ) (s : State) → weighed (v n s) ≡ weighed s

  walk_even : (v : ℕ → State → State) → Even v → (u : Tree) (s : State) → weighed (walk v u s).state ≡ weighed s + t u
  unfolding walk
  walk_even v p none s = omega (arith, w.absent)
  walk_even v p (part k h l r) s =
      let s1 : State = (walk v r s).state in
      let s2 : State = (walk v l s1).state in
      let a : ℕ = (walk v l s1).number in
      let b : ℕ = (walk v r s).number in
      omega (arith, walk_even v p r s, walk_even v p l s1, sum_snoc g s2.nodes (node_of k h a b), w.own k h l r a b)
  walk_even v p (refer h n) s =
      let x : Node = resolve h ((v n s).status n) in
      omega (arith, p.even n s, sum_snoc g (v n s).nodes x, w.used h n ((v n s).status n))

  visit_even : (k : ℕ) → Even (visit_in F N k)
  unfolding visit_in whole_if whole
  visit_even zero = record { grows = visit_in_grow F N zero; even = λ n s. refl }
  visit_even (suc k) = record { grows = visit_in_grow F N (suc k); even = λ n s. go n s (ready F N n s) refl (visit_even k) }
    where
      go : (n : ℕ) (s : State) (b : Bool) → ready F N n s ≡ b → Even (visit_in F N k) → weighed (whole_if F N b (visit_in F N k) n s) ≡ weighed s
      go n s true e p =
          let d = ready_true F N n s e in
          let y : Walked = walk (visit_in F N k) (F n) (mark n begun s) in
          omega (
            arith,
            walk_even (visit_in F N k) p (F n) (mark n begun s),
            sum_begin (λ m. t (F m)) N n s.status d.0.0 d.0.1 d.1,
            sum_finished (λ m. t (F m)) N n y.number y.state.status (walk_begun N (visit_in F N k) p.grows (F n) n s),
          )
      go n s false e p = refl

  even_visit : Even (visit F N)
  unfolding visit
  even_visit = record { grows = visit_in_grow F N N; even = (visit_even N).even }

  names_even : (n : ℕ) (s : State) → weighed (names_to F N n s) ≡ weighed s
  unfolding names_to
  names_even zero s = refl
  names_even (suc n) s = even_visit.even (suc n) (names_to F N n s) ∙ names_even n s

  -- THE NODES WEIGH WHAT THE TREES OF THE NAMES DO
  pub nodes_weigh : sum (map g (final F N).nodes) ≡ total (λ n. t (F n)) N
  unfolding final total sum
  nodes_weigh =
      let z : fresh_sum (λ n. t (F n)) N (final F N).status ≡ 0 = sum_none (λ n. t (F n)) N (final F N).status (λ m l e. let d = all_done F N m l in not_fresh_done d.0 e d.1) in
      omega (arith, names_even N (unwalked F N), z)

-- ---- how many nodes there are: each weighs 1

pub one_each : Weighs (λ _. 1) size
unfolding size
one_each = record { absent = refl; own = λ k h l r a b. omega arith; used = λ h n v. refl }

pub sum_one : {A : Type 0} (xs : List A) → sum (map (λ (x : A). 1) xs) ≡ length xs
unfolding sum
sum_one [] = refl
sum_one (x ∷ xs) = omega (arith, sum_one xs)

module _ (F : ℕ → Tree) (N : ℕ) where
  -- the parts of all the names' trees
  pub parts : ℕ
  parts = total (λ n. size (F n)) N

  -- AS MANY NODES AS PARTS
  pub nodes_parts : length (final F N).nodes ≡ parts
  unfolding parts
  nodes_parts = sym (sum_one (final F N).nodes) ∙ nodes_weigh F N (λ _. 1) size one_each

  pub visit_room : (n : ℕ) (s : State) → length (visit F N n s).nodes + fresh_size F N (visit F N n s) ≤ length s.nodes + fresh_size F N s
  visit_room n s = omega (arith, (even_visit F N (λ _. 1) size one_each).even n s, sum_one s.nodes, sum_one (visit F N n s).nodes)

  -- the walk of a name's tree, in the room that its parts were given
  pub walk_room : (t : Tree) (s : State)
      → length (walk (visit F N) t s).state.nodes + fresh_size F N (walk (visit F N) t s).state ≤ length s.nodes + size t + fresh_size F N s
  walk_room t s =
      omega (
        arith,
        walk_even F N (λ _. 1) size one_each (visit F N) (even_visit F N (λ _. 1) size one_each) t s,
        sum_one s.nodes,
        sum_one (walk (visit F N) t s).state.nodes,
      )

  -- what is walked, if it is not absent, is the last node
  pub walk_number : (v : ℕ → State → State) (t : Tree) (s : State) → (Absent F N t → ⊥) → (1 ≤ (walk v t s).number) × ((walk v t s).number ≤ length (walk v t s).state.nodes)
  unfolding walk Absent
  walk_number v none s a = absurd (a tt)
  walk_number v (part k h l r) s a =
      let s1 : State = (walk v r s).state in
      let s2 : State = (walk v l s1).state in
      (omega arith, omega (arith, length_snoc s2.nodes (record { kind = own_kind k; head = h; left = (walk v l s1).number; right = (walk v r s).number })))
  walk_number v (refer h n) s a = (omega arith, omega (arith, length_snoc (v n s).nodes (resolve h ((v n s).status n))))

-- ---- sums over the names

pub parts_total : (F : ℕ → Tree) (N : ℕ) → parts F N ≡ total (λ n. size (F n)) N
unfolding parts
parts_total F N = refl

pub total_none : (f : ℕ → ℕ) → total f 0 ≡ 0
unfolding total fresh_sum
total_none f = refl

-- one name more
pub total_more : (f : ℕ → ℕ) (N : ℕ) → total f (suc N) ≡ total f N + f (suc N)
unfolding total fresh_sum
total_more f N = refl
