-- The walk by steps, with an explicit stack: what code can do. `meaning` says, by the recursive walk, what a configuration comes to.
-- proofs/Machine.antt: no step changes it, each step lowers `steps_left`, and `load` bounds the nodes and the stack together.
use Rattle.std.specs.Prelude.{ℕ, zero, suc, ◌+◌, ◌≤◌, Bool, true, false, ◌⊎◌, List, [], ◌∷◌, length}
use Rattle.walk.specs.Walk.{NodeHead, Own, own_kind, Tree, none, part, refer, Node, Status, fresh, begun, finished, State, Walked, mark, finish, resolve, walk, Legal, ready, visit}

-- What waits on the stack, innermost first.
pub data Frame : Type 0 where
  -- the right child is walked; the left child is still to be walked
  wait_right : (kind : Own) (h : NodeHead) (left : Tree) → Frame
  -- the left child is walked; the right child's node number is known
  wait_left : (kind : Own) (h : NodeHead) (right : ℕ) → Frame
  -- a reference whose name is walked
  wait_name : (h : NodeHead) (n : ℕ) → Frame

-- going down into a tree, or coming up with what was walked last
pub data Config : Type 0 where
  down : (t : Tree) (s : State) (stack : List Frame) → Config
  up : (w : Walked) (stack : List Frame) → Config

-- a part's node
abbrev pub node_of : Own → NodeHead → ℕ → ℕ → Node
node_of k h a b = record { kind = own_kind k; head = h; left = a; right = b }

-- every part of a tree becomes one node
unfoldable pub size : Tree → ℕ
size none = 0
size (part k h l r) = suc (size l + size r)
size (refer h n) = 1

-- steps that a tree takes, but for those of the names begun on the way
unfoldable pub cost : Tree → ℕ
cost none = 1
cost (part k h l r) = 3 + (cost l + cost r)
cost (refer h n) = 2

-- nodes and steps that the stack still owes
unfoldable pub frames_size : List Frame → ℕ
frames_size [] = 0
frames_size (wait_right k h l ∷ ks) = suc (size l + frames_size ks)
frames_size (wait_left k h b ∷ ks) = suc (frames_size ks)
frames_size (wait_name h n ∷ ks) = suc (frames_size ks)

unfoldable pub frames_cost : List Frame → ℕ
frames_cost [] = 0
frames_cost (wait_right k h l ∷ ks) = 2 + (cost l + frames_cost ks)
frames_cost (wait_left k h b ∷ ks) = suc (frames_cost ks)
frames_cost (wait_name h n ∷ ks) = suc (frames_cost ks)

-- ---- what is still to come

-- only a fresh name has a share
abbrev pub share : ℕ → Status → ℕ
share c fresh = c
share c begun = 0
share c (finished i) = 0

-- f summed over those of the names 1 to n that are fresh
unfoldable pub fresh_sum : (ℕ → ℕ) → ℕ → (ℕ → Status) → ℕ
fresh_sum f zero st = 0
fresh_sum f (suc n) st = fresh_sum f n st + share (f (suc n)) (st (suc n))

-- F n is the tree of the name n; the names that have a legal line are 1 to N
module _ (F : ℕ → Tree) (N : ℕ) where
  -- ---- steps

  -- the rest of the walk, once the innermost is walked
  unfoldable pub resume : List Frame → Walked → Walked
  resume [] w = w
  resume (wait_right k h l ∷ ks) w =
      let wl : Walked = walk (visit F N) l w.state in
      resume ks (finish (node_of k h wl.number w.number) wl.state)
  resume (wait_left k h b ∷ ks) w = resume ks (finish (node_of k h w.number b) w.state)
  resume (wait_name h n ∷ ks) w = resume ks (finish (resolve h (finished w.number)) (mark n (finished w.number) w.state))

  -- what a configuration comes to
  unfoldable pub meaning : Config → Walked
  meaning (down t s ks) = resume ks (walk (visit F N) t s)
  meaning (up w ks) = resume ks w

  -- a reference: begin its name if it is ready, else make its node
  unfoldable pub at_reference : Bool → NodeHead → ℕ → State → List Frame → Config
  at_reference true h n s ks = down (F n) (mark n begun s) (wait_name h n ∷ ks)
  at_reference false h n s ks = up (finish (resolve h (s.status n)) s) ks

  -- one step
  unfoldable pub step : Config → Config
  step (down none s ks) = up (record { state = s; number = 0 }) ks
  step (down (part k h l r) s ks) = down r s (wait_right k h l ∷ ks)
  step (down (refer h n) s ks) = at_reference (ready F N n s) h n s ks
  step (up w []) = up w []
  step (up w (wait_right k h l ∷ ks)) = down l w.state (wait_left k h w.number ∷ ks)
  step (up w (wait_left k h b ∷ ks)) = up (finish (node_of k h w.number b) w.state) ks
  step (up w (wait_name h n ∷ ks)) = up (finish (resolve h (finished w.number)) (mark n (finished w.number) w.state)) ks

  -- ---- how many steps are left at most, and how much room is needed

  -- the parts of the names that are fresh
  abbrev pub fresh_size : State → ℕ
  fresh_size s = fresh_sum (λ n. size (F n)) N s.status

  unfoldable pub steps_left : Config → ℕ
  steps_left (down t s ks) = cost t + frames_cost ks + fresh_sum (λ n. cost (F n)) N s.status
  steps_left (up w ks) = frames_cost ks + fresh_sum (λ n. cost (F n)) N w.state.status

  -- the nodes, and the parts that are still to become nodes
  unfoldable pub load : Config → ℕ
  load (down t s ks) = length s.nodes + size t + frames_size ks + fresh_sum (λ n. size (F n)) N s.status
  load (up w ks) = length w.state.nodes + frames_size ks + fresh_sum (λ n. size (F n)) N w.state.status

  -- there is a step left
  unfoldable pub Running : Config → Type 0
  Running (down t s ks) = Unit {0}
  Running (up w []) = ⊥
  Running (up w (k ∷ ks)) = Unit {0}

  -- ---- what holds of every configuration: names on the stack are legal, and what comes up to a name is a node

  unfoldable pub NamesLegal : List Frame → Type 0
  NamesLegal [] = Unit {0}
  NamesLegal (wait_right k h l ∷ ks) = NamesLegal ks
  NamesLegal (wait_left k h b ∷ ks) = NamesLegal ks
  NamesLegal (wait_name h n ∷ ks) = Legal N n × NamesLegal ks

  -- the innermost that waits is a part, which may have an absent child
  unfoldable pub PartWaits : List Frame → Type 0
  PartWaits [] = ⊥
  PartWaits (wait_right k h l ∷ ks) = Unit {0}
  PartWaits (wait_left k h b ∷ ks) = Unit {0}
  PartWaits (wait_name h n ∷ ks) = ⊥

  unfoldable pub Absent : Tree → Type 0
  Absent none = Unit {0}
  Absent (part k h l r) = ⊥
  Absent (refer h n) = ⊥

  unfoldable pub Fit : Config → Type 0
  Fit (down t s ks) = NamesLegal ks × (Absent t → PartWaits ks)
  Fit (up w ks) = NamesLegal ks × (PartWaits ks ⊎ ((1 ≤ w.number) × (w.number ≤ length w.state.nodes)))
