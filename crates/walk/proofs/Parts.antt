-- What the walk makes of the parts: one induction, for any property of a node and the nodes before it, and any property of a tree
-- and the number of its node. The statements on nodes and demand 3 are instances.
use Prim.Native.Nat.{ℕ, zero, suc, ◌≤◌}
use mathlib.Core.Path.{◌≡◌, refl, sym, ap, subst, ◌∙◌}
use mathlib.Core.Bool.{Bool, true, false}
use mathlib.Core.Logic.{◌⊎◌, inl, inr, ◌≢◌}
use mathlib.Core.List.{List, [], ◌∷◌, ◌++◌, append-nil}
use native.Mathlib.Omega.{arith}
use lib.ListN.{length}
use Rattle.walk.specs.Walk.{NodeHead, Own, own_kind, Tree, none, part, refer, Node, Status, fresh, begun, finished, State, Walked, mark, finish, resolve, walk}
use Rattle.walk.specs.Walk.{ready, whole, whole_if, visit_in, visit, names_to, unwalked, final}
use Rattle.walk.specs.Stands.{PartOf}
use Rattle.walk.proofs.Basics.{same?, marked_same, marked_other, not_fresh_done, not_begun_done}
use Rattle.walk.proofs.Basics.{Kept, Grow, kept_fresh, kept_done, kept_begun, Grows, walk_grow, walk_begun, ready_true, visit_in_grow}
use Rattle.walk.proofs.Fuel.{left_to_do, grow_todo, todo_begin, todo_le, visit_in_done, top_not_begun}
use Rattle.walk.proofs.Numbered.{EachBehind, behind_none, behind_snoc}
use Rattle.walk.specs.Walk.{Legal}

-- t comes after s: the nodes of s stand first, and a name that was finished is finished with the same number
pub record After (s t : State) : Type 0 where
  pub more : List Node
  pub nodes : t.nodes ≡ s.nodes ++ more
  pub names : (m j : ℕ) → s.status m ≡ finished j → t.status m ≡ finished j

-- x is made for the tree t in the state s: Q of it and the nodes before it, and P of the tree and its number
abbrev pub Made : (Q : List Node → Node → Type 0) → (P : State → ℕ → Tree → Type 0) → State → Node → Tree → Type 0
Made Q P s x t = Q s.nodes x × P (finish x s).state (suc (length s.nodes)) t

-- Q is a property of a node and the nodes before it; P of a state, a number and the tree whose node has this number; C b n says
-- which names b may be begun and not finished while the tree of n is walked.
pub record Rules (F : ℕ → Tree) (N : ℕ) (Q : List Node → Node → Type 0) (P : State → ℕ → Tree → Type 0) (C : ℕ → ℕ → Type 0) : Type 0 where
  pub begins : (n : ℕ) → C n n
  pub deeper : (b n m : ℕ) (h : NodeHead) → Legal N n → Legal N m → PartOf (refer h m) (F n) → C b n → C b m
  pub stays : (s t : State) (c : ℕ) (u : Tree) → After s t → P s c u → P t c u
  pub Absent : (s : State) → P s 0 none
  pub own : (s : State) (n : ℕ) (k : Own) (h : NodeHead) (l r : Tree) (a b : ℕ) → Legal N n → PartOf (part k h l r) (F n)
      → P s a l → P s b r → Made Q P s (record { kind = own_kind k; head = h; left = a; right = b }) (part k h l r)
  pub found : (s : State) (n : ℕ) (h : NodeHead) (m j : ℕ) → Legal N n → PartOf (refer h m) (F n)
      → Legal N m → s.status m ≡ finished j → P s j (F m) → Made Q P s (resolve h (finished j)) (refer h m)
  pub missing : (s : State) (n : ℕ) (h : NodeHead) (m : ℕ) → Legal N n → PartOf (refer h m) (F n)
      → C m n ⊎ (Legal N m → ⊥) → Made Q P s (resolve h fresh) (refer h m)

module _ (F : ℕ → Tree) (N : ℕ) (Q : List Node → Node → Type 0) (P : State → ℕ → Tree → Type 0) (C : ℕ → ℕ → Type 0) (rules : Rules F N Q P C) where
  -- what holds of a state on the way
  record Good (s : State) : Type 0 where
    each : EachBehind Q [] s.nodes
    names : (m j : ℕ) → s.status m ≡ finished j → Legal N m × P s j (F m)

  abbrev Open : ℕ → State → Type 0
  Open n s = (b : ℕ) → s.status b ≡ begun → C b n

  good_finish : (s : State) (x : Node) → Good s → Q s.nodes x → Good (finish x s).state
  good_finish s x g q =
      record {
        each = behind_snoc Q [] s.nodes x g.each q;
        names = λ m j e. let p = g.names m j e in
            (p.0, rules.stays s (finish x s).state j (F m) (record { more = x ∷ []; nodes = refl; names = λ a i r. r }) p.1);
      }

  open_grow : (n : ℕ) (s t : State) → Grow N s t → Open n s → Open n t
  open_grow n s t g o b e = o b (kept_begun N b (s.status b) (t.status b) (g.kept b) e)

  grow_stays : (s t : State) (c : ℕ) (u : Tree) → Grow N s t → P s c u → P t c u
  grow_stays s t c u g p =
      rules.stays s t c u (record { more = g.more; nodes = g.nodes_grow; names = λ m j e. kept_done N m (s.status m) (t.status m) j (g.kept m) e }) p

  record Visits (c : ℕ) (v : ℕ → State → State) : Type 0 where
    grows : Grows N v
    good : (m : ℕ) (s : State) → left_to_do F N s ≤ c → Good s → (Legal N m → Open m s) → Good (v m s)
    finishes : (m : ℕ) (s : State) → left_to_do F N s ≤ c → Legal N m → s.status m ≡ fresh → (i : ℕ) × ((v m s).status m ≡ finished i)

  record Result (t : Tree) (w : Walked) : Type 0 where
    good : Good w.state
    stands : P w.state w.number t

  made : (s : State) (x : Node) (t : Tree) → Good s → Made Q P s x t → Result t (finish x s)
  made s x t g m = record { good = good_finish s x g m.0; stands = m.1 }

  walk_good : (c : ℕ) (v : ℕ → State → State) → Visits c v → (n : ℕ) → Legal N n
      → (t : Tree) → ((u : Tree) → PartOf u t → PartOf u (F n))
      → (s : State) → left_to_do F N s ≤ c → Good s → Open n s → Result t (walk v t s)
  unfolding walk PartOf
  walk_good c v vs n ln none sub s h g o = record { good = g; stands = rules.Absent s }
  walk_good c v vs n ln (part k hd l r) sub s h g o =
      let s1 : State = (walk v r s).state in
      let g1 : Grow N s s1 = walk_grow N v vs.grows r s in
      let s2 : State = (walk v l s1).state in
      let g2 : Grow N s1 s2 = walk_grow N v vs.grows l s1 in
      let r1 : Result r (walk v r s) = walk_good c v vs n ln r (λ u q. sub u (inr (inr q))) s h g o in
      let r2 : Result l (walk v l s1) = walk_good c v vs n ln l (λ u q. sub u (inr (inl q))) s1 (omega (arith, grow_todo F N s s1 g1)) r1.good (open_grow n s s1 g1 o) in
      made s2 _ (part k hd l r) r2.good
      (rules.own s2 n k hd l r (walk v l s1).number (walk v r s).number ln (sub (part k hd l r) (inl refl))
      r2.stands (grow_stays s1 s2 (walk v r s).number r g2 r1.stands))
  walk_good c v vs n ln (refer hd m) sub s h g o = go (t.status m) refl
    where
      t : State
      t = v m s

      inside : PartOf (refer hd m) (F n)
      inside = sub (refer hd m) refl

      gt : Good t
      gt = vs.good m s h g (λ lm. λ b e. rules.deeper b n m hd ln lm inside (o b e))

      grown : Kept N m (s.status m) (t.status m)
      grown = (vs.grows m s).kept m

      go : (st : Status) → t.status m ≡ st → Result (refer hd m) (finish (resolve hd st) t)
      go fresh e =
          made t (resolve hd fresh) (refer hd m) gt
          (rules.missing t n hd m ln inside
          (inr (λ lm.
          let f = vs.finishes m s h lm (kept_fresh N m (s.status m) (t.status m) grown e) in
          not_fresh_done f.0 e f.1)))
      go begun e =
          made t (resolve hd begun) (refer hd m) gt
          (rules.missing t n hd m ln inside (inl (o m (kept_begun N m (s.status m) (t.status m) grown e))))
      go (finished j) e =
          made t (resolve hd (finished j)) (refer hd m) gt
          (rules.found t n hd m j ln inside (gt.names m j e).0 e (gt.names m j e).1)

  whole_good : (k : ℕ) → Visits k (visit_in F N k) → (m : ℕ) (s : State) → left_to_do F N s ≤ suc k → Legal N m → s.status m ≡ fresh
      → Good s → Open m s → Good (whole F N (visit_in F N k) m s)
  unfolding whole
  whole_good k vs m s h lm e g o = record { each = result.good.each; names = λ a i q. names a i (same? a m) q }
    where
      s0 : State
      s0 = mark m begun s

      w : Walked
      w = walk (visit_in F N k) (F m) s0

      end : State
      end = mark m (finished w.number) w.state

      -- to begin a fresh name finishes none
      was : (a i : ℕ) → s0.status a ≡ finished i → s.status a ≡ finished i
      was a i q = go (same? a m)
        where
          go : (a ≡ m) ⊎ (a ≢ m) → s.status a ≡ finished i
          go (inl p) = absurd (not_begun_done i (ap s0.status p ∙ marked_same m begun s.status) q)
          go (inr d) = sym (marked_other m begun s.status a d) ∙ q

      after0 : After s s0
      after0 = record { more = []; nodes = sym (append-nil s.nodes); names = λ a i q. go a i q (same? a m) }
        where
          go : (a i : ℕ) → s.status a ≡ finished i → (a ≡ m) ⊎ (a ≢ m) → s0.status a ≡ finished i
          go a i q (inl p) = absurd (not_fresh_done i (ap s.status p ∙ e) q)
          go a i q (inr d) = marked_other m begun s.status a d ∙ q

      good0 : Good s0
      good0 =
          record {
            each = g.each;
            names = λ a i q. let p = g.names a i (was a i q) in (p.0, rules.stays s s0 i (F a) after0 p.1);
          }

      open0 : Open m s0
      open0 b q = go (same? b m)
        where
          go : (b ≡ m) ⊎ (b ≢ m) → C b m
          go (inl p) = rw p (rules.begins m)
          go (inr d) = o b (sym (marked_other m begun s.status b d) ∙ q)

      result : Result (F m) w
      result =
          walk_good k (visit_in F N k) vs m lm (F m) (λ u q. q) s0
          (omega (arith, todo_begin N m s.status lm.0 lm.1 e)) good0 open0

      after_end : After w.state end
      after_end = record { more = []; nodes = sym (append-nil w.state.nodes); names = λ a i q. go a i q (same? a m) }
        where
          go : (a i : ℕ) → w.state.status a ≡ finished i → (a ≡ m) ⊎ (a ≢ m) → end.status a ≡ finished i
          go a i q (inl p) = absurd (not_begun_done i (ap w.state.status p ∙ walk_begun N (visit_in F N k) vs.grows (F m) m s) q)
          go a i q (inr d) = marked_other m (finished w.number) w.state.status a d ∙ q

      names : (a i : ℕ) → (a ≡ m) ⊎ (a ≢ m) → end.status a ≡ finished i → Legal N a × P end i (F a)
      names a i (inl p) q =
          let here : end.status a ≡ finished w.number = rw p (marked_same m (finished w.number) w.state.status) in
          let same : w.number ≡ i = cc in
          (rw p lm, rw p (subst (λ (j : ℕ). P end j (F m)) same (rules.stays w.state end w.number (F m) after_end result.stands)))
      names a i (inr d) q =
          let r = result.good.names a i (sym (marked_other m (finished w.number) w.state.status a d) ∙ q) in
          (r.0, rules.stays w.state end i (F a) after_end r.1)

  visits : (k : ℕ) → Visits k (visit_in F N k)
  unfolding visit_in whole_if
  visits zero = record { grows = visit_in_grow F N zero; good = λ m s h g o. g; finishes = visit_in_done F N zero }
  visits (suc k) = record { grows = visit_in_grow F N (suc k); good = λ m s h g o. go m s h g o (ready F N m s) refl (visits k); finishes = visit_in_done F N (suc k) }
    where
      go : (m : ℕ) (s : State) → left_to_do F N s ≤ suc k → Good s → (Legal N m → Open m s) → (b : Bool) → ready F N m s ≡ b → Visits k (visit_in F N k)
          → Good (whole_if F N b (visit_in F N k) m s)
      go m s h g o true e vs = whole_good k vs m s h (ready_true F N m s e).0 (ready_true F N m s e).1 g (o (ready_true F N m s e).0)
      go m s h g o false e vs = g

  names_good : (n : ℕ) → Good (names_to F N n (unwalked F N))
  unfolding names_to visit
  names_good zero = record { each = behind_none Q []; names = λ m i e. absurd (not_fresh_done i refl e) }
  names_good (suc n) =
      (visits N).good (suc n) (names_to F N n (unwalked F N)) (todo_le N (names_to F N n (unwalked F N)).status) (names_good n)
      (λ l b e. absurd (top_not_begun F N n b e))

  -- Q OF EACH NODE
  pub each_node : EachBehind Q [] (final F N).nodes
  unfolding final
  each_node = (names_good N).each

  -- P OF EACH FINISHED NAME
  pub each_name : (m j : ℕ) → (final F N).status m ≡ finished j → Legal N m × P (final F N) j (F m)
  unfolding final
  each_name = (names_good N).names
