-- No step of the machine changes what the walk comes to, each step lowers how many are left, and the nodes and the stack together never
-- pass the load. So the machine ends, with the recursive walk.
use Prim.Native.Nat.{ℕ, zero, suc, ◌+◌, ◌≤◌, ◌<◌}
use mathlib.Core.Path.{◌≡◌, refl, sym, ap, subst, ◌∙◌}
use mathlib.Core.Bool.{Bool, true, false}
use mathlib.Core.Logic.{◌⊎◌, inl, inr, ◌≢◌}
use mathlib.Core.List.{List, [], ◌∷◌}
use native.Mathlib.Omega.{arith}
use lib.ListN.{length}
use Rattle.walk.specs.Walk.{Tree, none, part, refer, Status, fresh, begun, finished, State, Walked, marked, mark, finish, resolve, walk}
use Rattle.walk.specs.Walk.{ready, whole, whole_if, visit}
use Rattle.walk.proofs.Basics.{same?, marked_same, marked_other, not_fresh_done, length_snoc, ready_true}
use Rattle.walk.proofs.Fuel.{sum_mono, sum_begin, visit_unroll}
use Rattle.walk.specs.Walk.{Legal}
use Rattle.walk.specs.Machine.{Frame, wait_right, wait_left, wait_name, Config, down, up, node_of, size, cost, frames_size, frames_cost, fresh_sum, resume, meaning, at_reference, step, steps_left, load, Running, NamesLegal, PartWaits, Absent, Fit}

pub stack_size : (ks : List Frame) → length ks ≤ frames_size ks
unfolding frames_size
stack_size [] = omega arith
stack_size (wait_right k h l ∷ ks) = omega (arith, stack_size ks)
stack_size (wait_left k h b ∷ ks) = omega (arith, stack_size ks)
stack_size (wait_name h n ∷ ks) = omega (arith, stack_size ks)

module _ (F : ℕ → Tree) (N : ℕ) where
  -- NO STEP CHANGES WHAT THE WALK COMES TO
  pub step_meaning : (c : Config) → meaning F N (step F N c) ≡ meaning F N c
  unfolding meaning step at_reference resume walk whole_if whole
  step_meaning (down none s ks) = refl
  step_meaning (down (part k h l r) s ks) = refl
  step_meaning (down (refer h n) s ks) = rw (visit_unroll F N n s) (go (ready F N n s))
    where
      go : (b : Bool) → meaning F N (at_reference F N b h n s ks) ≡ resume F N ks (finish (resolve h ((whole_if F N b (visit F N) n s).status n)) (whole_if F N b (visit F N) n s))
      go true =
          let w : Walked = walk (visit F N) (F n) (mark n begun s) in
          rw (marked_same n (finished w.number) w.state.status)
      go false = refl
  step_meaning (up w []) = refl
  step_meaning (up w (wait_right k h l ∷ ks)) = refl
  step_meaning (up w (wait_left k h b ∷ ks)) = refl
  step_meaning (up w (wait_name h n ∷ ks)) = refl

  -- ---- how many steps are left at most, and how much room is needed

  -- to finish a name makes none fresh
  pub sum_finish : (f : ℕ → ℕ) (n i : ℕ) (st : ℕ → Status) → fresh_sum f N (marked n (finished i) st) ≤ fresh_sum f N st
  sum_finish f n i st = sum_mono f N st (marked n (finished i) st) (λ m. go m (same? m n))
    where
      go : (m : ℕ) → (m ≡ n) ⊎ (m ≢ n) → marked n (finished i) st m ≡ fresh → st m ≡ fresh
      go m (inl p) e = absurd (not_fresh_done i e (rw p (marked_same n (finished i) st)))
      go m (inr d) e = sym (marked_other n (finished i) st m d) ∙ e

  pub step_falls : (c : Config) → Running F N c → steps_left F N (step F N c) < steps_left F N c
  unfolding steps_left step at_reference cost frames_cost Running
  step_falls (down none s ks) r = omega arith
  step_falls (down (part k h l rt) s ks) r = omega arith
  step_falls (down (refer h n) s ks) r = go (ready F N n s) refl
    where
      go : (b : Bool) → ready F N n s ≡ b → steps_left F N (at_reference F N b h n s ks) < steps_left F N (down (refer h n) s ks)
      go true e =
          let d = ready_true F N n s e in
          omega (arith, sum_begin (λ m. cost (F m)) N n s.status d.0.0 d.0.1 d.1)
      go false e = omega arith
  step_falls (up w []) r = absurd r
  step_falls (up w (wait_right k h l ∷ ks)) r = omega arith
  step_falls (up w (wait_left k h b ∷ ks)) r = omega arith
  step_falls (up w (wait_name h n ∷ ks)) r = omega (arith, sum_finish (λ m. cost (F m)) n w.number w.state.status)

  pub step_load : (c : Config) → load F N (step F N c) ≤ load F N c
  unfolding load step at_reference size frames_size
  step_load (down none s ks) = omega arith
  step_load (down (part k h l r) s ks) = omega arith
  step_load (down (refer h n) s ks) = go (ready F N n s) refl
    where
      go : (b : Bool) → ready F N n s ≡ b → load F N (at_reference F N b h n s ks) ≤ load F N (down (refer h n) s ks)
      go true e =
          let d = ready_true F N n s e in
          omega (arith, sum_begin (λ m. size (F m)) N n s.status d.0.0 d.0.1 d.1)
      go false e = omega (arith, length_snoc s.nodes (resolve h (s.status n)))
  step_load (up w []) = omega arith
  step_load (up w (wait_right k h l ∷ ks)) = omega arith
  step_load (up w (wait_left k h b ∷ ks)) = omega (arith, length_snoc w.state.nodes (node_of k h w.number b))
  step_load (up w (wait_name h n ∷ ks)) =
      omega (arith, length_snoc w.state.nodes (resolve h (finished w.number)), sum_finish (λ m. size (F m)) n w.number w.state.status)

  -- ---- the whole run

  unfoldable pub run : ℕ → Config → Config
  run zero c = c
  run (suc k) c = run k (step F N c)

  halted : (c : Config) → Running F N c ⊎ ((w : Walked) × (c ≡ up w []))
  unfolding Running
  halted (down t s ks) = inl tt
  halted (up w []) = inr (w, refl)
  halted (up w (k ∷ ks)) = inl tt

  run_halted : (k : ℕ) (w : Walked) → run k (up w []) ≡ up (meaning F N (up w [])) []
  unfolding run step meaning resume
  run_halted zero w = refl
  run_halted (suc k) w = run_halted k w

  -- THE MACHINE ENDS, with what the recursive definition says
  pub run_ends : (k : ℕ) (c : Config) → steps_left F N c ≤ k → run k c ≡ up (meaning F N c) []
  unfolding run
  run_ends zero c h = go (halted c)
    where
      go : Running F N c ⊎ ((w : Walked) × (c ≡ up w [])) → c ≡ up (meaning F N c) []
      go (inl r) = absurd (omega (arith, step_falls c r))
      go (inr q) = subst (λ (x : Config). x ≡ up (meaning F N x) []) (sym q.1) (run_halted zero q.0)
  run_ends (suc k) c h = go (halted c) (λ l. run_ends k (step F N c) l)
    where
      go : Running F N c ⊎ ((w : Walked) × (c ≡ up w [])) → (steps_left F N (step F N c) ≤ k → run k (step F N c) ≡ up (meaning F N (step F N c)) []) → run k (step F N c) ≡ up (meaning F N c) []
      go (inl r) ih = ih (omega (arith, step_falls c r)) ∙ ap {B = Config} (λ x. up x []) (step_meaning c)
      go (inr q) ih = subst (λ (x : Config). run k (step F N x) ≡ up (meaning F N x) []) (sym q.1) (run_halted (suc k) q.0)

  -- THE MACHINE IS THE WALK: from a tree and an empty stack it comes to the walk of the tree
  pub machine_is_walk : (t : Tree) (s : State) → run (steps_left F N (down t s [])) (down t s []) ≡ up (walk (visit F N) t s) []
  machine_is_walk t s = run_ends (steps_left F N (down t s [])) (down t s []) (omega arith) ∙ ap {B = Config} (λ x. up x []) (start t s)
    where
      start : (t : Tree) (s : State) → meaning F N (down t s []) ≡ walk (visit F N) t s
      start t s = unfold meaning resume in refl

  -- THE ROOM: the nodes and the stack together never pass the load, which no step raises
  pub room_down : (t : Tree) (s : State) (ks : List Frame) → length s.nodes + length ks + size t ≤ load F N (down t s ks)
  unfolding load
  room_down t s ks = omega (arith, stack_size ks)

  pub room_up : (w : Walked) (ks : List Frame) → length w.state.nodes + length ks ≤ load F N (up w ks)
  unfolding load
  room_up w ks = omega (arith, stack_size ks)

  -- ---- what holds of every configuration: names on the stack are legal, and what comes up to a name is a node

  pub step_fit : ((n : ℕ) → Legal N n → Absent F N (F n) → ⊥) → (c : Config) → Fit F N c → Fit F N (step F N c)
  unfolding Fit step at_reference NamesLegal PartWaits Absent
  step_fit f (down none s ks) p = (p.0, inl (p.1 tt))
  step_fit f (down (part k h l r) s ks) p = (p.0, λ _. tt)
  step_fit f (down (refer h n) s ks) p = go (ready F N n s) refl
    where
      go : (b : Bool) → ready F N n s ≡ b → Fit F N (at_reference F N b h n s ks)
      go true e = (((ready_true F N n s e).0, p.0), λ a. absurd (f n (ready_true F N n s e).0 a))
      go false e = (p.0, inr (omega arith, omega (arith, length_snoc s.nodes (resolve h (s.status n)))))
  step_fit f (up w []) p = p
  step_fit f (up w (wait_right k h l ∷ ks)) p = (p.0, λ _. tt)
  step_fit f (up w (wait_left k h b ∷ ks)) p = (p.0, inr (omega arith, omega (arith, length_snoc w.state.nodes (node_of k h w.number b))))
  step_fit f (up w (wait_name h n ∷ ks)) p = (p.0.1, inr (omega arith, omega (arith, length_snoc w.state.nodes (resolve h (finished w.number)))))
