-- All the turns of a name, the visit of a name, and all names. Assumes nothing.
use Prim.Native.Nat.{ℕ, zero, suc, ◌+◌, ◌-◌, ◌*◌, ◌≤◌, ◌<◌}
use mathlib.Core.Bool.{Bool, true, false}
use mathlib.Core.Path.{◌≡◌, refl, sym, ap, subst, ◌∙◌}
use mathlib.Core.List.{List, [], ◌∷◌}
use native.Mathlib.Omega.{arith}
use lib.ListN.{length}
use borrow.Author.Tests.{ne_eqb}
use Rattle.records.specs.Limits.{record_limit, name_width}
use Rattle.tables.specs.Tables.{word_at}
use Rattle.walk.specs.Walk.{Tree, none, part, refer, Status, fresh, begun, finished, State, Walked, mark, walk, ready, whole, whole_if, visit, names_to, unwalked}
use Rattle.walk.proofs.Basics.{ready_true, ready_intro}
use Rattle.walk.proofs.Fuel.{sum_begin, visit_unroll}
use Rattle.walk.proofs.Count.{visit_room, walk_room, walk_number}
use Rattle.walk.proofs.Machine.{step_meaning, step_load, step_fit, step_falls}
use Rattle.resolve.specs.declared.Status.{Status as NameStatus}
use Rattle.resolve.specs.declared.Step.{Step}
use Rattle.resolve.specs.declared.Step.TheVariants.{Down, Up}
use Rattle.resolve.specs.declared.Walker.{Walker}
use Rattle.resolve.specs.Words.{down_walker, step_node, last_node, status_at, name_status, names_with, begun_word, fresh_name}
use Rattle.resolve.specs.Turns.{Given, total, trees, StandsFor, Holds, Goes, Comes, Reads, Fits, Turns, goes_on, is_running, turn_limit, Runs, Visits, VisitsTo}
use Rattle.resolve.proofs.Holds.{status_is, expr_is, holds_mark}
use Rattle.resolve.proofs.Turning.{no_way, fresh_both, fresh_intro, not_finished}
use Rattle.resolve.proofs.Bridge.{tree_stands}
use Rattle.walk.specs.Walk.{Legal}
use Rattle.walk.specs.Machine.{fresh_sum, share, fresh_size, Config, down, up, step, meaning, resume, size, cost, frames_size, frames_cost, steps_left, load, Running, Absent, Fit, NamesLegal}

-- ---- all the turns

module _ {source es : List ℕ} {count : ℕ} (w : Given source es count) where
  -- each name has a tree
  some_tree : (n : ℕ) → Legal (total w) n → Absent (trees w) (total w) (trees w n) → ⊥
  some_tree n l a = go _ (trees w n) (tree_stands w n l.0 l.1) a
    where
      go : (e : ℕ) (t : Tree) → StandsFor w e n t → Absent (trees w) (total w) t → ⊥
      go e none s a = let z : n ≡ 0 = unfold StandsFor in s.1 in omega (arith, l.0)
      go e (part k h x y) s a = unfold Absent in a
      go e (refer h m) s a = unfold Absent in a

  -- where the walk stands after so many turns from c
  pub record Along (c : Config) (h : Walker) (nm nd wk : List ℕ) (turns : ℕ) : Type 0 where
    pub at· : Config
    pub reads : Reads w h nm nd wk at·
    pub fits : Fits w at·
    pub means : meaning (trees w) (total w) at· ≡ meaning (trees w) (total w) c
    pub left : steps_left (trees w) (total w) at· + turns ≤ turn_limit

  -- a walk that comes up stands still where no item waits,
  comes_still : (g : Step) (i : ℕ) {d : ℕ} → Comes w g i → d ≡ 0 → goes_on g d ≡ true → ⊥
  comes_still (Down e n) i c z q = c
  comes_still (Up x) i c z q = no_way q (rw z)

  -- else it goes on, as a walk that goes down does
  comes_on : (g : Step) {d n : ℕ} → d ≡ suc n → goes_on g d ≡ true
  comes_on (Down e n) h = refl
  comes_on (Up x) {n = n} h = rw (h, ne_eqb (suc n) 0 (λ q. omega arith))

  down_on : (g : Step) (t : Tree) (d : ℕ) → Goes w g t → goes_on g d ≡ true
  down_on (Down e n) t d h = refl
  down_on (Up x) t d h = absurd h

  -- the node that it comes up with
  comes_node : (g : Step) {i : ℕ} → Comes w g i → step_node g ≡ i
  comes_node (Down e n) c = absurd c
  comes_node (Up x) c = c

  is_going : (h : Walker) (nm nd wk : List ℕ) (c : Config) → Reads w h nm nd wk c → is_running h ≡ true → Running (trees w) (total w) c
  unfolding Reads Running
  is_going h nm nd wk (down t s ks) r q = tt
  is_going h nm nd wk (up x []) r q = absurd (comes_still h.step x.number r.0 r.1.waiting q)
  is_going h nm nd wk (up x (k ∷ ks)) r q = tt

  along_more : (c : Config) (h q : Walker) (nm nd wk nm' nd' wk' : List ℕ) (turns : ℕ) → Along c h nm nd wk turns → is_running h ≡ true
      → Turns source es count h nm nd wk q nm' nd' wk' → Along c q nm' nd' wk' (turns + 1)
  along_more c h q nm nd wk nm' nd' wk' turns a r t =
      record {
        at· = step (trees w) (total w) a.at·;
        reads = unfold Turns in (t w a.at· a.reads a.fits);
        fits = (omega (arith, step_load (trees w) (total w) a.at·, a.fits.0), step_fit (trees w) (total w) some_tree a.at· a.fits.1);
        means = step_meaning (trees w) (total w) a.at· ∙ a.means;
        left = omega (arith, a.left, step_falls (trees w) (total w) a.at· (is_going h nm nd wk a.at· a.reads r));
      }

  -- it stands still only at the end
  along_ends : (c : Config) (h : Walker) (nm nd wk : List ℕ) (turns : ℕ) → Along c h nm nd wk turns → (turns < turn_limit → is_running h ≡ true → ⊥)
      → Reads w h nm nd wk (up (meaning (trees w) (total w) c) [])
  along_ends c h nm nd wk turns a stop = go a.at· a.reads a.means a.left
    where
      go : (d : Config) → Reads w h nm nd wk d → meaning (trees w) (total w) d ≡ meaning (trees w) (total w) c → steps_left (trees w) (total w) d + turns ≤ turn_limit
          → Reads w h nm nd wk (up (meaning (trees w) (total w) c) [])
      go (down t s ks) r m l =
          absurd (stop (omega (arith, l, step_falls (trees w) (total w) (down t s ks) (unfold Running in tt))) (down_on h.step t h.waiting (unfold Reads in r.0)))
      go (up x []) r m l = let e : x ≡ meaning (trees w) (total w) c = unfold meaning resume in m in subst (λ (y : Walked). Reads w h nm nd wk (up y [])) e r
      go (up x (k ∷ ks)) r m l =
          let some : h.waiting ≡ suc (length ks) = unfold Reads in r.1.waiting in
          absurd (stop (omega (arith, l, step_falls (trees w) (total w) (up x (k ∷ ks)) (unfold Running in tt))) (comes_on h.step some))

-- after so many turns, whatever configuration the first words stand for
unfoldable pub Going : (source es : List ℕ) (count : ℕ) → Walker → (nm nd wk : List ℕ) → Walker → (nm nd wk : List ℕ) → (turns : ℕ) → Type 0
Going source es count g nm nd wk h nm' nd' wk' turns =
    (w : Given source es count) (c : Config) → Reads w g nm nd wk c → Fits w c → steps_left (trees w) (total w) c ≤ turn_limit → Along w c h nm' nd' wk' turns

pub going_none : (source es : List ℕ) (count : ℕ) (g : Walker) (nm nd wk : List ℕ) → Going source es count g nm nd wk g nm nd wk 0
unfolding Going
going_none source es count g nm nd wk w c r f l = record { at· = c; reads = r; fits = f; means = refl; left = omega arith }

pub going_more : (source es : List ℕ) (count : ℕ) (g : Walker) (nm nd wk : List ℕ) (h : Walker) (nm' nd' wk' : List ℕ) (turns : ℕ) (q : Walker) (nm₂ nd₂ wk₂ : List ℕ)
    → is_running h ≡ true → Turns source es count h nm' nd' wk' q nm₂ nd₂ wk₂
    → Going source es count g nm nd wk h nm' nd' wk' turns → Going source es count g nm nd wk q nm₂ nd₂ wk₂ (turns + 1)
unfolding Going
going_more source es count g nm nd wk h nm' nd' wk' turns q nm₂ nd₂ wk₂ u t v w c r f l = along_more w c h q nm' nd' wk' nm₂ nd₂ wk₂ turns (v w c r f l) u t

pub going_ends : (source es : List ℕ) (count : ℕ) (g : Walker) (nm nd wk : List ℕ) (h : Walker) (nm' nd' wk' : List ℕ) (turns : ℕ)
    → (turns < turn_limit → is_running h ≡ true → ⊥)
    → Going source es count g nm nd wk h nm' nd' wk' turns → Runs source es count g nm nd wk h nm' nd' wk'
unfolding Going Runs
going_ends source es count g nm nd wk h nm' nd' wk' turns stop v w c r f l = along_ends w c h nm' nd' wk' turns (v w c r f l) stop

-- ---- how many turns there are

cost_le : (t : Tree) → cost t ≤ 4 * size t + 1
unfolding cost size
cost_le none = omega arith
cost_le (part k h l r) = omega (arith, cost_le l, cost_le r)
cost_le (refer h n) = omega arith

sum_le : (f g : ℕ → ℕ) (N : ℕ) (st : ℕ → Status) → ((n : ℕ) → Legal N n → f n ≤ 5 * g n) → fresh_sum f N st ≤ 5 * fresh_sum g N st
unfolding fresh_sum
sum_le f g zero st h = omega arith
sum_le f g (suc N) st h = omega (arith, sum_le f g N st (λ n l. h n (omega (arith, l), omega (arith, l))), one (st (suc N)))
  where
    one : (v : Status) → share (f (suc N)) v ≤ 5 * share (g (suc N)) v
    one fresh = omega (arith, h (suc N) (omega arith, omega arith))
    one begun = omega arith
    one (finished i) = omega arith

-- ---- the visit of a name

module _ {source es : List ℕ} {count : ℕ} (w : Given source es count) where
  tree_cost : (n : ℕ) → Legal (total w) n → cost (trees w n) ≤ 5 * size (trees w n)
  unfolding size cost Absent
  tree_cost n l = go (trees w n) (some_tree w n l) (cost_le (trees w n))
    where
      go : (t : Tree) → (Absent (trees w) (total w) t → ⊥) → cost t ≤ 4 * size t + 1 → cost t ≤ 5 * size t
      go none a c = absurd (a tt)
      go (part k h x y) a c = omega (arith, c)
      go (refer h m) a c = omega arith

pub visit_no : (source es : List ℕ) (count n made : ℕ) (nm nd wk : List ℕ) (v : NameStatus) → v ≡ status_at nm n → fresh_name n v ≡ false → Visits source es count n made nm nd wk made nm nd wk
unfolding Visits
visit_no source es count n made nm nd wk v hv fr w s a b h f =
    subst (λ (t : State). Holds w made 0 nm nd wk t []) (sym (visit_unroll (trees w) (total w) n s ∙ go (ready (trees w) (total w) n s) refl)) h
  where
    go : (t : Bool) → ready (trees w) (total w) n s ≡ t → whole_if (trees w) (total w) t (visit (trees w) (total w)) n s ≡ s
    go false e = unfold whole_if in refl
    go true e =
        let d = ready_true (trees w) (total w) n s e in
        absurd (no_way (fresh_intro n v a (hv ∙ status_is w h n d.0.1 ∙ ap name_status d.1)) fr)

pub visit_yes : (source es : List ℕ) (count n made : ℕ) (nm nd wk nm₁ nm₂ nd₂ wk₂ nm₃ : List ℕ) (v : NameStatus) (e m : ℕ) (g h : Walker) → v ≡ status_at nm n → fresh_name n v ≡ true → e ≡ word_at name_width (names_with nm n begun_word) n 2 → nm₁ ≡ names_with nm n begun_word
    → g ≡ down_walker e n 0 made → Runs source es count g nm₁ nd wk h nm₂ nd₂ wk₂
    → m ≡ last_node h → nm₃ ≡ names_with nm₂ n m → Visits source es count n made nm nd wk h.made nm₃ nd₂ wk₂
unfolding Visits Runs
visit_yes source es count n made nm nd wk nm₁ nm₂ nd₂ wk₂ nm₃ v e m g h hv fr he h1 hg rn hm h3 w s a b hd f =
    subst (λ (t : State). Holds w h.made 0 nm₃ nd₂ wk₂ t []) (sym (visit_unroll F N n s ∙ ap (λ (t : Bool). whole_if F N t (visit F N) n s) is_ready ∙ whole_is)) marked₃
  where
    F : ℕ → Tree
    F = trees w

    N : ℕ
    N = total w

    legal : Legal N n
    legal = (a, omega (arith, b, w.counted))

    n_fresh : s.status n ≡ fresh
    n_fresh = (fresh_both n (s.status n) (sym (ap (fresh_name n) (hv ∙ status_is w hd n legal.1)) ∙ fr)).1

    is_ready : ready F N n s ≡ true
    is_ready = ready_intro F N n s legal n_fresh

    marked₁ : Holds w made 0 nm₁ nd wk (mark n begun s) []
    marked₁ = holds_mark w hd n begun nm₁ begun_word legal.0 legal.1 (not_finished refl) refl h1

    c : Config
    c = down (F n) (mark n begun s) []

    sums : fresh_size F N (mark n begun s) + size (F n) ≡ fresh_size F N s
    sums = sum_begin (λ m. size (F m)) N n s.status legal.0 legal.1 n_fresh

    starts : Reads w g nm₁ nd wk c
    starts = unfold Reads in rw hg (subst (λ (i : ℕ). StandsFor w i n (F n)) (sym (he ∙ ap (λ (t : List ℕ). word_at name_width t n 2) (sym h1) ∙ expr_is w marked₁ n legal.0 legal.1)) (tree_stands w n legal.0 legal.1), marked₁)

    fits : Fits w c
    fits = unfold load Fit NamesLegal frames_size in (omega (arith, sums, f), (tt, λ z. absurd (some_tree w n legal z)))

    turns : steps_left F N c ≤ turn_limit
    turns = unfold steps_left frames_cost in omega (arith, sums, f, tree_cost w n legal, sum_le (λ m. cost (F m)) (λ m. size (F m)) N (mark n begun s).status (tree_cost w))

    x : Walked
    x = walk (visit F N) (F n) (mark n begun s)

    ended : Reads w h nm₂ nd₂ wk₂ (up x [])
    ended = let y : meaning F N c ≡ x = unfold meaning resume in refl in subst (λ (y : Walked). Reads w h nm₂ nd₂ wk₂ (up y [])) y (rn w c starts fits turns)

    node_is : m ≡ x.number
    node_is = hm ∙ unfold Reads in comes_node w h.step ended.0

    holds₂ : Holds w h.made 0 nm₂ nd₂ wk₂ x.state []
    holds₂ = unfold Reads in (subst (λ (d : ℕ). Holds w h.made d nm₂ nd₂ wk₂ x.state []) ended.1.waiting ended.1)

    low : (1 ≤ x.number) × (x.number ≤ record_limit)
    low =
        let num = walk_number F N (visit F N) (F n) (mark n begun s) (some_tree w n legal) in
        (num.0, omega (arith, num.1, walk_room F N (F n) (mark n begun s), sums, f))

    marked₃ : Holds w h.made 0 nm₃ nd₂ wk₂ (mark n (finished x.number) x.state) []
    marked₃ = holds_mark w holds₂ n (finished x.number) nm₃ m legal.0 legal.1 (λ j z. let y : x.number ≡ j = cc in (omega (arith, low), omega (arith, low))) node_is h3

    whole_is : whole_if F N true (visit F N) n s ≡ mark n (finished x.number) x.state
    whole_is = unfold whole_if whole in refl

-- ---- all names

-- after the names before number n, with room for the others
unfoldable pub Past : (source es : List ℕ) (count n : ℕ) (nm nd wk : List ℕ) (made : ℕ) (nm' nd' wk' : List ℕ) → Type 0
Past source es count n nm nd wk c' nm' nd' wk' =
    (w : Given source es count) → Holds w 0 0 nm nd wk (unwalked (trees w) (total w)) [] → fresh_size (trees w) (total w) (unwalked (trees w) (total w)) ≤ record_limit
    → Holds w c' 0 nm' nd' wk' (names_to (trees w) (total w) (n - 1) (unwalked (trees w) (total w))) []
    × (length (names_to (trees w) (total w) (n - 1) (unwalked (trees w) (total w))).nodes + fresh_size (trees w) (total w) (names_to (trees w) (total w) (n - 1) (unwalked (trees w) (total w))) ≤ record_limit)

pub past_none : (source es : List ℕ) (count : ℕ) (nm nd wk : List ℕ) → Past source es count 1 nm nd wk 0 nm nd wk
unfolding Past names_to
past_none source es count nm nd wk w h f = (h, omega (arith, f))

pub past_more : (source es : List ℕ) (count n : ℕ) (nm nd wk : List ℕ) (c : ℕ) (nm₁ nd₁ wk₁ : List ℕ) (c₂ : ℕ) (nm₂ nd₂ wk₂ : List ℕ) → 1 ≤ n → n ≤ count → Past source es count n nm nd wk c nm₁ nd₁ wk₁
    → Visits source es count n c nm₁ nd₁ wk₁ c₂ nm₂ nd₂ wk₂ → Past source es count (n + 1) nm nd wk c₂ nm₂ nd₂ wk₂
unfolding Past Visits
past_more source es count n nm nd wk c nm₁ nd₁ wk₁ c₂ nm₂ nd₂ wk₂ b l p v w h f =
    let s : State = names_to (trees w) (total w) (n - 1) (unwalked (trees w) (total w)) in
    let q = p w h f in
    let i : n + 1 - 1 ≡ suc (n - 1) = omega arith in
    let j : suc (n - 1) ≡ n = omega arith in
    let one : names_to (trees w) (total w) (n + 1 - 1) (unwalked (trees w) (total w)) ≡ visit (trees w) (total w) n s =
    ap (λ (i : ℕ). names_to (trees w) (total w) i (unwalked (trees w) (total w))) i ∙ next w ∙ ap (λ (i : ℕ). visit (trees w) (total w) i s) j in
    rw one (v w s b l q.0 q.1, omega (arith, q.1, visit_room (trees w) (total w) n s))
  where
    next : (w : Given source es count) → names_to (trees w) (total w) (suc (n - 1)) (unwalked (trees w) (total w)) ≡ visit (trees w) (total w) (suc (n - 1)) (names_to (trees w) (total w) (n - 1) (unwalked (trees w) (total w)))
    next w = unfold names_to in refl

pub past_all : (source es : List ℕ) (count n : ℕ) (nm nd wk : List ℕ) (c : ℕ) (nm₁ nd₁ wk₁ : List ℕ) → n - 1 ≡ count → Past source es count n nm nd wk c nm₁ nd₁ wk₁ → VisitsTo source es count count nm nd wk c nm₁ nd₁ wk₁
unfolding Past VisitsTo
past_all source es count n nm nd wk c nm₁ nd₁ wk₁ e p w h f =
    let q = p w h f in
    subst
    (λ (i : ℕ). Holds w c 0 nm₁ nd₁ wk₁ (names_to (trees w) (total w) i (unwalked (trees w) (total w))) []
    × (length (names_to (trees w) (total w) i (unwalked (trees w) (total w))).nodes ≤ record_limit))
    e
    (q.0, omega (arith, q.1))
