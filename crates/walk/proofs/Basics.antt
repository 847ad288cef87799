-- Facts of statuses, of lists of nodes, and of what the walk never undoes.
use Rattle.std.specs.Prelude.{if◌then◌else◌}
use Prim.Native.Nat.{ℕ, zero, suc, ◌≤◌}
use mathlib.Core.Path.{◌≡◌, refl, sym, ap, subst, ◌∙◌}
use mathlib.Core.Bool.{Bool, true, false, ◌&&◌}
use mathlib.Core.Logic.{◌⊎◌, inl, inr, ◌≢◌}
use mathlib.Core.List.{List, [], ◌∷◌, ◌++◌, append_assoc, append-nil}
use native.Mathlib.Omega.{arith}
use native.Mathlib.Decide.{ℕ_discrete}
use lib.ListN.{length, length-append}
use lib.Dec.{leb, eqb, T, leb→le, le→leb, eqb→eq, eqb_refl}
use Rattle.records.specs.NodeKind as node
use Rattle.records.specs.NodeKind.{PartKind}
use Rattle.walk.specs.Walk.{Tree, none, part, refer, Node, Status, fresh, begun, finished, State, marked, mark, finish, is_fresh, walk}
use Rattle.walk.specs.Walk.{Legal, ready, whole, whole_if, visit_in}

-- ---- tests

pub T_true : (b : Bool) → T b → b ≡ true
T_true true t = refl
T_true false t = absurd t

pub true_t : (b : Bool) → b ≡ true → T b
true_t true e = tt
true_t false e = let z : ◌≡◌ {A = ℕ} 0 1 = cc in omega arith

pub and3 : (a b c : Bool) → (a && b && c) ≡ true → (a ≡ true) × (b ≡ true) × (c ≡ true)
and3 true true true e = (refl, refl, refl)
and3 true true false e = let z : ◌≡◌ {A = ℕ} 0 1 = cc in absurd (omega arith)
and3 true false c e = let z : ◌≡◌ {A = ℕ} 0 1 = cc in absurd (omega arith)
and3 false b c e = let z : ◌≡◌ {A = ℕ} 0 1 = cc in absurd (omega arith)

pub same? : (m n : ℕ) → (m ≡ n) ⊎ (m ≢ n)
same? m n = go (ℕ_discrete m n)
  where
    go : Dec (m ≡ n) → (m ≡ n) ⊎ (m ≢ n)
    go (yes e) = inl e
    go (no f) = inr f

-- ---- statuses

pub marked_same : (n : ℕ) (v : Status) (st : ℕ → Status) → marked n v st n ≡ v
unfolding marked
marked_same n v st = rw (T_true (eqb n n) (eqb_refl n))

pub marked_other : (n : ℕ) (v : Status) (st : ℕ → Status) (m : ℕ) → m ≢ n → marked n v st m ≡ st m
unfolding marked
marked_other n v st m d = go (eqb m n) refl
  where
    go : (b : Bool) → eqb m n ≡ b → (if b then v else st m) ≡ st m
    go true e = absurd (d (eqb→eq m n (true_t (eqb m n) e)))
    go false e = refl

pub is_fresh_true : (v : Status) → is_fresh v ≡ true → v ≡ fresh
is_fresh_true fresh e = refl
is_fresh_true begun e = let z : ◌≡◌ {A = ℕ} 0 1 = cc in absurd (omega arith)
is_fresh_true (finished i) e = let z : ◌≡◌ {A = ℕ} 0 1 = cc in absurd (omega arith)

pub not_fresh_done : {v : Status} (i : ℕ) → v ≡ fresh → v ≡ finished i → ⊥
not_fresh_done i p q = let z : ◌≡◌ {A = ℕ} 0 1 = cc in omega arith

pub not_fresh_begun : {v : Status} → v ≡ fresh → v ≡ begun → ⊥
not_fresh_begun p q = let z : ◌≡◌ {A = ℕ} 0 1 = cc in omega arith

pub not_begun_done : {v : Status} (i : ℕ) → v ≡ begun → v ≡ finished i → ⊥
not_begun_done i p q = let z : ◌≡◌ {A = ℕ} 0 1 = cc in omega arith

-- ---- lists of nodes

pub length_snoc : (xs : List Node) (x : Node) → length (xs ++ (x ∷ [])) ≡ suc (length xs)
length_snoc xs x = omega (arith, length-append xs (x ∷ []))

-- ---- what no step undoes

module _ (N : ℕ) where
  -- the status of the name m before and after: unchanged, or m was legal and fresh and is finished
  abbrev pub Kept : ℕ → Status → Status → Type 0
  Kept m a b = (b ≡ a) ⊎ ((a ≡ fresh) × Legal N m × ((i : ℕ) × (b ≡ finished i)))

  pub record Grow (s t : State) : Type 0 where
    pub more : List Node
    pub nodes_grow : t.nodes ≡ s.nodes ++ more
    pub kept : (m : ℕ) → Kept m (s.status m) (t.status m)

  pub kept_trans : (m : ℕ) (a b c : Status) → Kept m a b → Kept m b c → Kept m a c
  kept_trans m a b c (inl p) (inl q) = inl (q ∙ p)
  kept_trans m a b c (inl p) (inr q) = inr (sym p ∙ q.0, q.1, q.2)
  kept_trans m a b c (inr p) (inl q) = inr (p.0, p.1, (p.2.0, q ∙ p.2.1))
  kept_trans m a b c (inr p) (inr q) = absurd (not_fresh_done p.2.0 q.0 p.2.1)

  pub kept_done : (m : ℕ) (a b : Status) (i : ℕ) → Kept m a b → a ≡ finished i → b ≡ finished i
  kept_done m a b i (inl p) e = p ∙ e
  kept_done m a b i (inr p) e = absurd (not_fresh_done i p.0 e)

  pub kept_begun : (m : ℕ) (a b : Status) → Kept m a b → b ≡ begun → a ≡ begun
  kept_begun m a b (inl p) e = sym p ∙ e
  kept_begun m a b (inr p) e = absurd (not_begun_done p.2.0 e p.2.1)

  pub kept_fresh : (m : ℕ) (a b : Status) → Kept m a b → b ≡ fresh → a ≡ fresh
  kept_fresh m a b (inl p) e = sym p ∙ e
  kept_fresh m a b (inr p) e = p.0

  pub grow_refl : (s : State) → Grow s s
  grow_refl s = record { more = []; nodes_grow = sym (append-nil s.nodes); kept = λ m. inl refl }

  pub grow_trans : (s t u : State) → Grow s t → Grow t u → Grow s u
  grow_trans s t u g h =
      record {
        more = g.more ++ h.more;
        nodes_grow = h.nodes_grow ∙ ap (λ (l : List Node). l ++ h.more) g.nodes_grow ∙ append_assoc s.nodes g.more h.more;
        kept = λ m. kept_trans m (s.status m) (t.status m) (u.status m) (g.kept m) (h.kept m);
      }

  pub grow_finish : (s t : State) (x : Node) → Grow s t → Grow s (finish x t).state
  grow_finish s t x g =
      grow_trans s t (finish x t).state g
      (record { more = x ∷ []; nodes_grow = refl; kept = λ m. inl refl })

  pub grow_length : (s t : State) → Grow s t → length s.nodes ≤ length t.nodes
  grow_length s t g = omega (arith, length-append s.nodes g.more, ap length g.nodes_grow)

  abbrev pub Grows : (ℕ → State → State) → Type 0
  Grows v = (n : ℕ) (s : State) → Grow s (v n s)

  pub walk_grow : (v : ℕ → State → State) → Grows v → (t : Tree) (s : State) → Grow s (walk v t s).state
  unfolding walk
  walk_grow v g none s = grow_refl s
  walk_grow v g (part k h l r) s =
      let s1 : State = (walk v r s).state in
      let s2 : State = (walk v l s1).state in
      grow_finish s s2 _ (grow_trans s s1 s2 (walk_grow v g r s) (walk_grow v g l s1))
  walk_grow v g (refer h n) s = grow_finish s (v n s) _ (g n s)

  -- a name that is begun is so still when its tree is walked
  pub walk_begun : (v : ℕ → State → State) → Grows v → (t : Tree) (n : ℕ) (s : State) → (walk v t (mark n begun s)).state.status n ≡ begun
  walk_begun v g t n s = go ((walk_grow v g t (mark n begun s)).kept n)
    where
      go : Kept n (marked n begun s.status n) ((walk v t (mark n begun s)).state.status n) → (walk v t (mark n begun s)).state.status n ≡ begun
      go (inl p) = p ∙ marked_same n begun s.status
      go (inr p) = absurd (not_fresh_begun p.0 (marked_same n begun s.status))

module _ (F : ℕ → Tree) (N : ℕ) where
  pub ready_true : (n : ℕ) (s : State) → ready F N n s ≡ true → Legal N n × (s.status n ≡ fresh)
  ready_true n s e =
      let a = and3 (leb 1 n) (leb n N) (is_fresh (s.status n)) e in
      ((leb→le 1 n (true_t (leb 1 n) a.0), leb→le n N (true_t (leb n N) a.1)), is_fresh_true (s.status n) a.2)

  pub ready_intro : (n : ℕ) (s : State) → Legal N n → s.status n ≡ fresh → ready F N n s ≡ true
  ready_intro n s l e = rw (T_true (leb 1 n) (le→leb 1 n l.0), T_true (leb n N) (le→leb n N l.1), e)

  pub whole_grow : (v : ℕ → State → State) → Grows N v → (n : ℕ) (s : State) → Legal N n → s.status n ≡ fresh → Grow N s (whole F N v n s)
  unfolding whole
  whole_grow v g n s l e =
      record {
        more = w.more;
        nodes_grow = w.nodes_grow;
        kept = λ m. go m (same? m n);
      }
    where
      w : Grow N (mark n begun s) (walk v (F n) (mark n begun s)).state
      w = walk_grow N v g (F n) (mark n begun s)

      go : (m : ℕ) → (m ≡ n) ⊎ (m ≢ n) → Kept N m (s.status m) ((whole F N v n s).status m)
      go m (inl p) =
          inr (
            ap s.status p ∙ e,
            (omega (arith, l), omega (arith, l)),
            ((walk v (F n) (mark n begun s)).number, rw p (marked_same n (finished (walk v (F n) (mark n begun s)).number) (walk v (F n) (mark n begun s)).state.status)),
          )
      go m (inr d) =
          rw (marked_other n (finished (walk v (F n) (mark n begun s)).number) (walk v (F n) (mark n begun s)).state.status m d)
          (subst (λ (a : Status). Kept N m a ((walk v (F n) (mark n begun s)).state.status m)) (marked_other n begun s.status m d) (w.kept m))

  pub visit_in_grow : (k : ℕ) → Grows N (visit_in F N k)
  unfolding visit_in whole_if
  visit_in_grow zero n s = grow_refl N s
  visit_in_grow (suc k) n s = go (ready F N n s) refl (visit_in_grow k)
    where
      go : (b : Bool) → ready F N n s ≡ b → Grows N (visit_in F N k) → Grow N s (whole_if F N b (visit_in F N k) n s)
      go true e g = whole_grow (visit_in F N k) g n s (ready_true n s e).0 (ready_true n s e).1
      go false e g = grow_refl N s

-- ---- kinds by their numbers

-- the parts' numbers are past those of the other kinds
pub part_number_law : (k : PartKind) → 4 ≤ node.part_number k
part_number_law node.assertl = omega arith
part_number_law node.assertr = omega arith
part_number_law node.iden = omega arith
part_number_law node.unit = omega arith
part_number_law node.injl = omega arith
part_number_law node.injr = omega arith
part_number_law node.take = omega arith
part_number_law node.drop = omega arith
part_number_law node.comp = omega arith
part_number_law node.case = omega arith
part_number_law node.pair = omega arith
part_number_law node.disconnect = omega arith
part_number_law node.witness = omega arith
part_number_law node.hole = omega arith
part_number_law node.fail = omega arith
part_number_law node.jet = omega arith
part_number_law node.word = omega arith
