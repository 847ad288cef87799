-- The bound on how deep names are begun inside names never matters, and each legal name is finished at the end.
use Prim.Native.Nat.{ℕ, zero, suc, ◌+◌, ◌≤◌, ◌<◌}
use mathlib.Core.Path.{◌≡◌, refl, sym, ap, ◌∙◌}
use mathlib.Core.Bool.{Bool, true, false}
use mathlib.Core.Logic.{◌⊎◌, inl, inr, ◌≢◌}
use native.Mathlib.Omega.{arith}
use Rattle.walk.specs.Walk.{Tree, none, part, refer, Status, fresh, begun, finished, State, Walked, marked, mark, walk}
use Rattle.walk.specs.Walk.{ready, whole, whole_if, visit_in, visit, names_to, unwalked, final}
use Rattle.walk.proofs.Basics.{same?, marked_same, marked_other, not_fresh_begun}
use Rattle.walk.proofs.Basics.{Grow, kept_fresh, kept_done, kept_begun, grow_refl, grow_trans, Grows, walk_grow, ready_true, ready_intro, visit_in_grow}
use Rattle.walk.specs.Walk.{Legal}
use Rattle.walk.specs.Machine.{share, fresh_sum}

-- how many of the names 1 to n are fresh
abbrev pub todo : ℕ → (ℕ → Status) → ℕ
todo n st = fresh_sum (λ _. 1) n st

pub todo_le : (n : ℕ) (st : ℕ → Status) → todo n st ≤ n
unfolding fresh_sum
todo_le zero st = omega arith
todo_le (suc n) st = omega (arith, todo_le n st, one_le (st (suc n)))
  where
    one_le : (v : Status) → share 1 v ≤ 1
    one_le fresh = omega arith
    one_le begun = omega arith
    one_le (finished i) = omega arith

pub sum_mono : (f : ℕ → ℕ) (n : ℕ) (st st' : ℕ → Status) → ((m : ℕ) → st' m ≡ fresh → st m ≡ fresh) → fresh_sum f n st' ≤ fresh_sum f n st
unfolding fresh_sum
sum_mono f zero st st' h = omega arith
sum_mono f (suc n) st st' h = omega (arith, sum_mono f n st st' h, one_le (st' (suc n)) refl)
  where
    one_le : (v : Status) → st' (suc n) ≡ v → share (f (suc n)) v ≤ share (f (suc n)) (st (suc n))
    one_le fresh e = rw (h (suc n) e) (omega arith)
    one_le begun e = omega arith
    one_le (finished i) e = omega arith

-- a change at a name past n is not seen
sum_past : (f : ℕ → ℕ) (n m : ℕ) (v : Status) (st : ℕ → Status) → n < m → fresh_sum f n (marked m v st) ≡ fresh_sum f n st
unfolding fresh_sum
sum_past f zero m v st h = refl
sum_past f (suc n) m v st h =
    let d : suc n ≢ m = omega arith in
    rw (sum_past f n m v st (omega arith), marked_other m v st (suc n) d)

-- to begin a fresh name takes its share out of the sum
pub sum_begin : (f : ℕ → ℕ) (n m : ℕ) (st : ℕ → Status) → 1 ≤ m → m ≤ n → st m ≡ fresh → fresh_sum f n (marked m begun st) + f m ≡ fresh_sum f n st
unfolding fresh_sum
sum_begin f zero m st a b e = absurd (omega arith)
sum_begin f (suc n) m st a b e = go (same? m (suc n)) (λ b'. sum_begin f n m st a b' e)
  where
    go : (m ≡ suc n) ⊎ (m ≢ suc n) → (m ≤ n → fresh_sum f n (marked m begun st) + f m ≡ fresh_sum f n st)
        → fresh_sum f n (marked m begun st) + share (f (suc n)) (marked m begun st (suc n)) + f m ≡ fresh_sum f n st + share (f (suc n)) (st (suc n))
    go (inl p) ih =
        let here : st (suc n) ≡ fresh = ap st (sym p) ∙ e in
        let set : marked m begun st (suc n) ≡ begun = rw (← p) (marked_same m begun st) in
        let same : f m ≡ f (suc n) = ap f p in
        rw (here, set, sum_past f n m begun st (omega arith)) (omega arith)
    go (inr d) ih =
        let d' : suc n ≢ m = omega arith in
        rw (marked_other m begun st (suc n) d') (omega (arith, ih (omega arith)))

-- to finish a name that is not fresh changes no sum
pub sum_same : (f : ℕ → ℕ) (n : ℕ) (st st' : ℕ → Status) → ((m : ℕ) → (st' m ≡ fresh → st m ≡ fresh) × (st m ≡ fresh → st' m ≡ fresh))
    → fresh_sum f n st' ≡ fresh_sum f n st
sum_same f n st st' h = omega (arith, sum_mono f n st st' (λ m. (h m).0), sum_mono f n st' st (λ m. (h m).1))

pub todo_begin : (n m : ℕ) (st : ℕ → Status) → 1 ≤ m → m ≤ n → st m ≡ fresh → suc (todo n (marked m begun st)) ≡ todo n st
todo_begin n m st a b e = omega (arith, sum_begin (λ _. 1) n m st a b e)

module _ (F : ℕ → Tree) (N : ℕ) where
  abbrev pub left_to_do : State → ℕ
  left_to_do s = todo N s.status

  pub grow_todo : (s t : State) → Grow N s t → left_to_do t ≤ left_to_do s
  grow_todo s t g = sum_mono (λ _. 1) N s.status t.status (λ m. kept_fresh N m (s.status m) (t.status m) (g.kept m))

  -- with the bound no lower than the fresh names, a visit finishes a fresh legal name
  pub visit_in_done : (k n : ℕ) (s : State) → left_to_do s ≤ k → Legal N n → s.status n ≡ fresh → (i : ℕ) × ((visit_in F N k n s).status n ≡ finished i)
  unfolding visit_in whole_if whole
  visit_in_done zero n s h l e = absurd (omega (arith, todo_begin N n s.status l.0 l.1 e))
  visit_in_done (suc k) n s h l e =
      let w : Walked = walk (visit_in F N k) (F n) (mark n begun s) in
      (w.number, rw (ready_intro F N n s l e) (marked_same n (finished w.number) w.state.status))

  -- ---- two bounds that are high enough give the same

  walk_cong : (c : ℕ) (v v' : ℕ → State → State) → Grows N v → ((n : ℕ) (s : State) → left_to_do s ≤ c → v n s ≡ v' n s)
      → (t : Tree) (s : State) → left_to_do s ≤ c → walk v t s ≡ walk v' t s
  unfolding walk
  walk_cong c v v' g e none s h = refl
  walk_cong c v v' g e (part k hd l r) s h =
      let er : walk v r s ≡ walk v' r s = walk_cong c v v' g e r s h in
      let s1 : State = (walk v r s).state in
      let h1 : left_to_do s1 ≤ c = omega (arith, grow_todo s s1 (walk_grow N v g r s)) in
      let el : walk v l s1 ≡ walk v' l s1 = walk_cong c v v' g e l s1 h1 in
      rw (← er, ← el)
  walk_cong c v v' g e (refer hd n) s h = rw (e n s h)

  enough : (k k' n : ℕ) (s : State) → left_to_do s ≤ k → left_to_do s ≤ k' → visit_in F N k n s ≡ visit_in F N k' n s
  unfolding visit_in whole_if whole
  enough zero zero n s h h' = refl
  enough zero (suc k') n s h h' = go (ready F N n s) refl
    where
      go : (b : Bool) → ready F N n s ≡ b → s ≡ whole_if F N b (visit_in F N k') n s
      go true e =
          let r = ready_true F N n s e in
          absurd (omega (arith, todo_begin N n s.status r.0.0 r.0.1 r.1))
      go false e = refl
  enough (suc k) zero n s h h' = go (ready F N n s) refl
    where
      go : (b : Bool) → ready F N n s ≡ b → whole_if F N b (visit_in F N k) n s ≡ s
      go true e =
          let r = ready_true F N n s e in
          absurd (omega (arith, todo_begin N n s.status r.0.0 r.0.1 r.1))
      go false e = refl
  enough (suc k) (suc k') n s h h' = go (ready F N n s) refl (enough k k')
    where
      go : (b : Bool) → ready F N n s ≡ b → ((n : ℕ) (s : State) → left_to_do s ≤ k → left_to_do s ≤ k' → visit_in F N k n s ≡ visit_in F N k' n s)
          → whole_if F N b (visit_in F N k) n s ≡ whole_if F N b (visit_in F N k') n s
      go true e ih =
          let r = ready_true F N n s e in
          let b = todo_begin N n s.status r.0.0 r.0.1 r.1 in
          let c : ℕ = left_to_do (mark n begun s) in
          let same : walk (visit_in F N k) (F n) (mark n begun s) ≡ walk (visit_in F N k') (F n) (mark n begun s)
          = walk_cong c (visit_in F N k) (visit_in F N k') (visit_in_grow F N k) (λ m t q. ih m t (omega arith) (omega arith)) (F n) (mark n begun s) (omega arith) in
          rw same
      go false e ih = refl

  -- THE BOUND DOES NOT MATTER: a visit is what the text says, with visits inside it, and no bound in sight
  pub visit_unroll : (n : ℕ) (s : State) → visit F N n s ≡ whole_if F N (ready F N n s) (visit F N) n s
  unfolding visit visit_in
  visit_unroll n s = enough N (suc N) n s (todo_le N s.status) (omega (arith, todo_le N s.status))

  -- ---- every legal name is finished at the end

  pub names_to_grow : (n : ℕ) (s : State) → Grow N s (names_to F N n s)
  unfolding names_to visit
  names_to_grow zero s = grow_refl N s
  names_to_grow (suc n) s = grow_trans N s (names_to F N n s) (names_to F N (suc n) s) (names_to_grow n s) (visit_in_grow F N N (suc n) (names_to F N n s))

  -- no name is begun and not finished, between two names of the list
  pub top_not_begun : (n b : ℕ) → (names_to F N n (unwalked F N)).status b ≡ begun → ⊥
  top_not_begun n b e =
      not_fresh_begun refl (kept_begun N b fresh ((names_to F N n (unwalked F N)).status b) ((names_to_grow n (unwalked F N)).kept b) e)

  finish_one : (n m : ℕ) (s : State) → Legal N m → (s.status m ≡ begun → ⊥) → (i : ℕ) × ((visit F N m s).status m ≡ finished i)
  unfolding visit
  finish_one n m s l nb = go (s.status m) refl
    where
      go : (v : Status) → s.status m ≡ v → (i : ℕ) × ((visit_in F N N m s).status m ≡ finished i)
      go fresh e = visit_in_done N m s (todo_le N s.status) l e
      go begun e = absurd (nb e)
      go (finished i) e = (i, kept_done N m (s.status m) ((visit_in F N N m s).status m) i ((visit_in_grow F N N m s).kept m) e)

  pub done_to : (n m : ℕ) → n ≤ N → 1 ≤ m → m ≤ n → (i : ℕ) × ((names_to F N n (unwalked F N)).status m ≡ finished i)
  unfolding names_to visit
  done_to zero m h a b = absurd (omega arith)
  done_to (suc n) m h a b = go (same? m (suc n)) (λ b'. done_to n m (omega arith) a b')
    where
      before : State
      before = names_to F N n (unwalked F N)

      go : (m ≡ suc n) ⊎ (m ≢ suc n) → (m ≤ n → (i : ℕ) × (before.status m ≡ finished i)) → (i : ℕ) × ((visit F N (suc n) before).status m ≡ finished i)
      go (inl p) ih = rw p (finish_one n (suc n) before (omega arith, h) (λ e. top_not_begun n (suc n) e))
      go (inr d) ih =
          let r = ih (omega arith) in
          (r.0, kept_done N m (before.status m) ((visit F N (suc n) before).status m) r.0 ((visit_in_grow F N N (suc n) before).kept m) r.1)

  -- EVERY LEGAL NAME IS FINISHED
  pub all_done : (m : ℕ) → Legal N m → (i : ℕ) × ((final F N).status m ≡ finished i)
  unfolding final
  all_done m l = done_to N m (omega arith) l.0 l.1
