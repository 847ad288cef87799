-- One turn of the walk on the tables, case by case. Assumes nothing.
use Prim.Native.Nat.{ℕ, zero, suc, ◌+◌, ◌-◌, ◌≤◌, ◌<◌}
use mathlib.Core.Bool.{Bool, true, false, ◌&&◌}
use mathlib.Core.Path.{◌≡◌, refl, sym, ap, subst, ◌∙◌}
use mathlib.Core.Logic.{◌⊎◌, inl, inr, ◌≢◌}
use mathlib.Core.List.{List, [], ◌∷◌}
use native.Mathlib.Omega.{arith}
use lib.ListN.{length}
use lib.Dec.{eqb}
use borrow.Author.Tests.{eqb-true, eq-eqb, ne_eqb}
use Rattle.records.specs.Limits.{record_limit, expr_width, name_width, work_width}
use Rattle.records.specs.NodeKind as node
use Rattle.records.proofs.Choices.{and_left, and_right}
use Rattle.tables.specs.Tables.{word_at, written}
use Rattle.tables.proofs.Words.{word_none}
use Rattle.cursor.specs.Cursor.{next_number}
use Rattle.walk.specs.Walk.{NodeHead, Own, noexpr, of, own_kind, Tree, none, part, refer, Node, Status, fresh, begun, finished, mark, resolve, ready}
use Rattle.walk.proofs.Basics.{ready_true, ready_intro, not_begun_done, part_number_law}
use Rattle.walk.proofs.Machine.{room_down, room_up}
use Rattle.resolve.specs.declared.StackItem.{StackItem}
use Rattle.resolve.specs.declared.Waits.TheVariants.{ForRight, ForLeft, ForName}
use Rattle.records.specs.declared.numbers.ExprNo.{ExprNo}
use Rattle.records.specs.declared.numbers.NameNo.{NameNo}
use Rattle.records.specs.declared.numbers.NodeNo.{NodeNo}
use Rattle.resolve.specs.declared.Status.{Status as NameStatus}
use Rattle.resolve.specs.declared.Status.TheVariants.{Fresh}
use Rattle.resolve.specs.declared.Step.{Step}
use Rattle.resolve.specs.declared.Step.TheVariants.{Down, Up}
use Rattle.resolve.specs.declared.Walker.{Walker}
use Rattle.resolve.specs.Words.{waits_word, waits_of, item_words, item_at, down_walker, up_walker, left_item, left_walker, done_walker, used_in, kind_in, nodes_with, status_at, name_status, names_with, finished_node, reference_kind, begun_word, fresh_name}
use Rattle.resolve.specs.Turns.{Given, total, trees, head_at, used_at, Owns, Named, StandsFor, Waits, Holds, Goes, Comes, Reads, Fits, Turns}
use Rattle.resolve.proofs.Tables.{next_is}
use Rattle.resolve.proofs.Holds.{used_le, used_is, status_is, expr_is, resolved, holds_node, holds_mark, holds_push, holds_pop, top_waits, waits_for}
use Rattle.resolve.proofs.Bridge.{tree_stands}
use Rattle.walk.specs.Machine.{Frame, wait_right, wait_left, wait_name, down, up, step, at_reference, size, Fit, NamesLegal, PartWaits}

-- ---- tests

pub no_way : {b : Bool} → b ≡ true → b ≡ false → ⊥
no_way p q = let z : ◌≡◌ {A = ℕ} 0 1 = cc in omega arith

pub fresh_both : (m : ℕ) (v : Status) → fresh_name m (name_status v) ≡ true → (1 ≤ m) × (v ≡ fresh)
fresh_both zero fresh e = absurd (no_way e refl)
fresh_both (suc m) fresh e = (omega arith, refl)
fresh_both m begun e = absurd (no_way e refl)
fresh_both m (finished i) e = absurd (no_way e refl)

pub fresh_intro : (m : ℕ) (v : NameStatus) → 1 ≤ m → v ≡ Fresh → fresh_name m v ≡ true
fresh_intro m v h e = ap (fresh_name m) e ∙ rw (ne_eqb m 0 (λ q. omega arith))

-- a begun name has no node
pub not_finished : {v : Status} → v ≡ begun → (j : ℕ) → v ≡ finished j → (1 ≤ j) × (j ≤ record_limit)
not_finished p j q = absurd (not_begun_done j p q)

module _ {source es : List ℕ} {count : ℕ} (w : Given source es count) where
  -- the kind of a part
  own_kind_law : (e n : ℕ) (k : Own) → Owns w e n k → kind_in es e ≡ node.number (own_kind k)
  unfolding kind_in
  own_kind_law e n noexpr o = rw (eq-eqb e 0 o.0)
  own_kind_law e n (of k) o = rw (ne_eqb e 0 o.0) o.1

  own_named : (e n : ℕ) (k : Own) → n ≤ total w → Owns w e n k → Named w e n
  own_named e n noexpr b o = (b, λ q. o.1)
  own_named e n (of k) b o = (b, λ q. absurd (o.0 q))

  -- a step that is known
  goes : {g : Step} {e : ExprNo} {n : NameNo} (t : Tree) → g ≡ Down e n → Goes w g t → StandsFor w e.0 n.0 t
  goes t u h = subst (λ (s : Step). Goes w s t) u h

  goes_not : {g : Step} {x : NodeNo} (t : Tree) → g ≡ Up x → Goes w g t → ⊥
  goes_not t u h = subst (λ (s : Step). Goes w s t) u h

  comes : {g : Step} {x : NodeNo} (i : ℕ) → g ≡ Up x → Comes w g i → x.0 ≡ i
  comes i u h = subst (λ (s : Step). Comes w s i) u h

  comes_not : {g : Step} {e : ExprNo} {n : NameNo} (i : ℕ) → g ≡ Down e n → Comes w g i → ⊥
  comes_not i u h = subst (λ (s : Step). Comes w s i) u h

-- ---- going down

pub down_none : (source es : List ℕ) (count : ℕ) (g q : Walker) (ex : ExprNo) (na : NameNo) (nm nd wk : List ℕ) → g.step ≡ Down ex na → eqb ex.0 0 && eqb na.0 0 ≡ true
    → q ≡ up_walker 0 g.waiting g.made → Turns source es count g nm nd wk q nm nd wk
unfolding Turns Reads StandsFor step
down_none source es count g p ex na nm nd wk u t hq w (up x ks) r f = absurd (comes_not w _ u r.0)
down_none source es count g p ex na nm nd wk u t hq w (down none s ks) r f = rw hq (refl, r.1)
down_none source es count g p ex na nm nd wk u t hq w (down (part noexpr h l q) s ks) r f =
    let z : na.0 ≡ 0 = eqb-true na.0 0 (and_right (eqb ex.0 0) (eqb na.0 0) t) in
    absurd (omega (arith, (goes w _ u r.0).0.1))
down_none source es count g p ex na nm nd wk u t hq w (down (part (of k) h l q) s ks) r f = absurd ((goes w _ u r.0).0.0 (eqb-true ex.0 0 (and_left (eqb ex.0 0) (eqb na.0 0) t)))
down_none source es count g p ex na nm nd wk u t hq w (down (refer h m) s ks) r f = absurd ((goes w _ u r.0).0 (eqb-true ex.0 0 (and_left (eqb ex.0 0) (eqb na.0 0) t)))

pub down_part : (source es : List ℕ) (count : ℕ) (g p : Walker) (ex : ExprNo) (na : NameNo) (nm nd wk wk' : List ℕ) (k i e : ℕ) → g.step ≡ Down ex na → eqb ex.0 0 && eqb na.0 0 ≡ false
    → k ≡ word_at expr_width es ex.0 0 → (k ≡ 3 → ⊥) → i ≡ next_number g.waiting → wk' ≡ written work_width wk i (ex.0 ∷ na.0 ∷ 1 ∷ 0 ∷ []) → e ≡ word_at expr_width es ex.0 3
    → p ≡ down_walker e 0 i g.made → Turns source es count g nm nd wk p nm nd wk'
unfolding Turns Reads StandsFor step
down_part source es count g p ex na nm nd wk wk' k i e u t hk nk hi hw he hp w (up x ks) r f = absurd (comes_not w _ u r.0)
down_part source es count g p ex na nm nd wk wk' k i e u t hk nk hi hw he hp w (down none s ks) r f =
    absurd (no_way (rw (eq-eqb ex.0 0 (goes w _ u r.0).0, eq-eqb na.0 0 (goes w _ u r.0).1)) t)
down_part source es count g p ex na nm nd wk wk' k i e u t hk nk hi hw he hp w (down (refer h m) s ks) r f = absurd (nk (hk ∙ (goes w _ u r.0).1))
down_part source es count g p ex na nm nd wk wk' k i e u t hk nk hi hw he hp w (down (part o h l q) s ks) r f =
    rw hp (subst (λ (x : ℕ). StandsFor w x 0 q) (sym he) st.4, holds_push w r.1 (wait_right o h l) wk' i ex.0 na.0 1 0 num room waits hw)
  where
    st : StandsFor w ex.0 na.0 (part o h l q)
    st = goes w _ u r.0

    big : length s.nodes + length ks + 1 ≤ record_limit
    big = unfold size in omega (arith, room_down (trees w) (total w) (part o h l q) s ks, f.0)

    room : suc (length ks) ≤ record_limit
    room = omega (arith, big)

    num : i ≡ suc (length ks)
    num = hi ∙ ap next_number r.1.waiting ∙ next_is (length ks) (omega (arith, big))

    waits : Waits w ex.0 na.0 1 0 (wait_right o h l)
    waits = unfold Waits in (refl, own_kind_law w ex.0 na.0 o st.0, st.1, own_named w ex.0 na.0 o st.2 st.0, st.3)

-- what a reference stands for
at_refer : {source es : List ℕ} {count : ℕ} (w : Given source es count) (e n : ℕ) (t : Tree) → word_at expr_width es e 0 ≡ 3 → StandsFor w e n t
    → (h : NodeHead) × (m : ℕ) × (t ≡ refer h m) × (e ≢ 0) × (head_at w e n ≡ h) × (n ≤ total w) × (used_at w e ≡ m)
unfolding StandsFor
at_refer {source} {es} w e n none k s = absurd (omega (arith, word_none expr_width es 0 0 refl, ap (λ (x : ℕ). word_at expr_width es x 0) s.0, k))
at_refer {source} {es} w e n (part noexpr h l r) k s = absurd (omega (arith, word_none expr_width es 0 0 refl, ap (λ (x : ℕ). word_at expr_width es x 0) s.0.0, k))
at_refer w e n (part (of o) h l r) k s = absurd (omega (arith, part_number_law o, sym s.0.1 ∙ k))
at_refer w e n (refer h m) k s = (h, m, refl, s.0, s.2, s.3, s.4)

-- a reference to a fresh name
pub refer_begin : (source es : List ℕ) (count : ℕ) (g q : Walker) (ex : ExprNo) (na : NameNo) (nm nd wk nm' wk' : List ℕ) (m : ℕ) (v : NameStatus) (i e : ℕ) → g.step ≡ Down ex na → word_at expr_width es ex.0 0 ≡ 3
    → m ≡ used_in source es nm count ex.0 → v ≡ status_at nm m → fresh_name m v ≡ true → i ≡ next_number g.waiting
    → wk' ≡ written work_width wk i (ex.0 ∷ na.0 ∷ 3 ∷ 0 ∷ []) → e ≡ word_at name_width (names_with nm m begun_word) m 2 → nm' ≡ names_with nm m begun_word → q ≡ down_walker e m i g.made
    → Turns source es count g nm nd wk q nm' nd wk'
unfolding Turns Reads step at_reference
refer_begin source es count g q ex na nm nd wk nm' wk' m v i e u k3 hm hv fr hi hw he hn hq w (up x ks) r f = absurd (comes_not w _ u r.0)
refer_begin source es count g q ex na nm nd wk nm' wk' m v i e u k3 hm hv fr hi hw he hn hq w (down t s ks) r f = go t (goes w _ u r.0) f (at_refer w ex.0 na.0 t k3 (goes w _ u r.0))
  where
    go : (t : Tree) → StandsFor w ex.0 na.0 t → Fits w (down t s ks)
        → (h : NodeHead) × (m₁ : ℕ) × (t ≡ refer h m₁) × (ex.0 ≢ 0) × (head_at w ex.0 na.0 ≡ h) × (na.0 ≤ total w) × (used_at w ex.0 ≡ m₁)
        → Reads w q nm' nd wk' (step (trees w) (total w) (down t s ks))
    go t st ft a = subst (λ (y : Tree). Fits w (down y s ks) → Reads w q nm' nd wk' (step (trees w) (total w) (down y s ks))) (sym (a.2 ∙ ap {B = Tree} (λ x. refer a.0 x) (sym m_is))) main ft
      where
        m_is : m ≡ a.1
        m_is = hm ∙ used_is w r.1 ex.0 ∙ a.6

        low : m ≤ total w
        low = omega (arith, used_le w ex.0, hm, used_is w r.1 ex.0)

        both : (1 ≤ m) × (s.status m ≡ fresh)
        both = fresh_both m (s.status m) (sym (ap (fresh_name m) (hv ∙ status_is w r.1 m low)) ∙ fr)

        legal : (1 ≤ m) × (m ≤ total w)
        legal = (both.0, low)

        is_ready : ready (trees w) (total w) m s ≡ true
        is_ready = ready_intro (trees w) (total w) m s legal both.1

        main : Fits w (down (refer a.0 m) s ks) → Reads w q nm' nd wk' (step (trees w) (total w) (down (refer a.0 m) s ks))
        main fit =
            subst (λ (y : Walker). Reads w y nm' nd wk' (step (trees w) (total w) (down (refer a.0 m) s ks))) (sym hq) (
            rw is_ready (
              subst (λ (x : ℕ). StandsFor w x m (trees w m)) (sym (he ∙ ap (λ (t : List ℕ). word_at name_width t m 2) (sym hn) ∙ expr_is w marked· m legal.0 legal.1)) (tree_stands w m legal.0 legal.1),
              holds_push w marked· (wait_name a.0 m) wk' i ex.0 na.0 3 0 num room waits hw,
            )
            )
          where
            marked· : Holds w g.made g.waiting nm' nd wk (mark m begun s) ks
            marked· = holds_mark w r.1 m begun nm' begun_word legal.0 legal.1 (not_finished refl) refl hn

            big : length s.nodes + length ks + 1 ≤ record_limit
            big = unfold size in omega (arith, room_down (trees w) (total w) (refer a.0 m) s ks, fit.0)

            room : suc (length ks) ≤ record_limit
            room = omega (arith, big)

            num : i ≡ suc (length ks)
            num = hi ∙ ap next_number r.1.waiting ∙ next_is (length ks) (omega (arith, big))

            waits : Waits w ex.0 na.0 3 0 (wait_name a.0 m)
            waits = unfold Waits in (refl, a.4, (a.5, λ z. absurd (a.3 z)), a.6 ∙ sym m_is, refl)

-- any other reference
pub refer_node : (source es : List ℕ) (count : ℕ) (g q : Walker) (ex : ExprNo) (na : NameNo) (nm nd wk nd' : List ℕ) (m : ℕ) (v : NameStatus) (i l k : ℕ) → g.step ≡ Down ex na → word_at expr_width es ex.0 0 ≡ 3
    → m ≡ used_in source es nm count ex.0 → v ≡ status_at nm m → fresh_name m v ≡ false → l ≡ finished_node v → k ≡ reference_kind v
    → nd' ≡ nodes_with es nm nd g.made k ex.0 na.0 l 0 → i ≡ next_number g.made → q ≡ up_walker i g.waiting i
    → Turns source es count g nm nd wk q nm nd' wk
unfolding Turns Reads step at_reference
refer_node source es count g q ex na nm nd wk nd' m v i l k u k3 hm hv fr hl hk hn hi hq w (up x ks) r f = absurd (comes_not w _ u r.0)
refer_node source es count g q ex na nm nd wk nd' m v i l k u k3 hm hv fr hl hk hn hi hq w (down t s ks) r f = go t (goes w _ u r.0) f (at_refer w ex.0 na.0 t k3 (goes w _ u r.0))
  where
    go : (t : Tree) → StandsFor w ex.0 na.0 t → Fits w (down t s ks)
        → (h : NodeHead) × (m₁ : ℕ) × (t ≡ refer h m₁) × (ex.0 ≢ 0) × (head_at w ex.0 na.0 ≡ h) × (na.0 ≤ total w) × (used_at w ex.0 ≡ m₁)
        → Reads w q nm nd' wk (step (trees w) (total w) (down t s ks))
    go t st ft a = subst (λ (y : Tree). Fits w (down y s ks) → Reads w q nm nd' wk (step (trees w) (total w) (down y s ks))) (sym (a.2 ∙ ap {B = Tree} (λ x. refer a.0 x) (sym m_is))) main ft
      where
        m_is : m ≡ a.1
        m_is = hm ∙ used_is w r.1 ex.0 ∙ a.6

        low : m ≤ total w
        low = omega (arith, used_le w ex.0, hm, used_is w r.1 ex.0)

        v_is : v ≡ name_status (s.status m)
        v_is = hv ∙ status_is w r.1 m low

        not_ready : ready (trees w) (total w) m s ≡ false
        not_ready = sub (ready (trees w) (total w) m s) refl
          where
            sub : (b : Bool) → ready (trees w) (total w) m s ≡ b → ready (trees w) (total w) m s ≡ false
            sub false e = e
            sub true e = let d = ready_true (trees w) (total w) m s e in absurd (no_way (fresh_intro m v d.0.0 (v_is ∙ ap name_status d.1)) fr)

        main : Fits w (down (refer a.0 m) s ks) → Reads w q nm nd' wk (step (trees w) (total w) (down (refer a.0 m) s ks))
        main fit =
            subst (λ (y : Walker). Reads w y nm nd' wk (step (trees w) (total w) (down (refer a.0 m) s ks))) (sym hq) (
            rw not_ready (
              hi ∙ ap next_number r.1.made ∙ next_is (length s.nodes) room,
              rw hi (holds_node w r.1 x nd' k ex.0 na.0 l 0 room (a.5, λ z. absurd (a.3 z)) (hk ∙ ap reference_kind v_is ∙ res.0) (a.4 ∙ sym res.3) (hl ∙ ap finished_node v_is ∙ res.1) (sym res.2) hn),
            )
            )
          where
            x : Node
            x = resolve a.0 (s.status m)

            res : (reference_kind (name_status (s.status m)) ≡ node.number x.kind) × (finished_node (name_status (s.status m)) ≡ x.left) × (x.right ≡ 0) × (x.head ≡ a.0)
            res = resolved a.0 (s.status m)

            room : length s.nodes < record_limit
            room = unfold size in omega (arith, room_down (trees w) (total w) (refer a.0 m) s ks, fit.0)

-- ---- coming up

-- the innermost item waits for its right child
pub up_left : (source es : List ℕ) (count : ℕ) (g : Walker) (nn : NodeNo) (nm nd wk wk' : List ℕ) (i : StackItem) (q : Walker) → g.step ≡ Up nn → 1 ≤ g.waiting
    → i ≡ item_at wk g.waiting → i.waits ≡ ForRight → q ≡ left_walker es i g → wk' ≡ written work_width wk g.waiting (item_words (left_item i nn))
    → Turns source es count g nm nd wk q nm nd wk'
unfolding Turns Reads step
up_left source es count g nn nm nd wk wk' i q u b hi p hq hw w (down t s ks) r f = absurd (goes_not w _ u r.0)
up_left source es count g nn nm nd wk wk' i q u b hi p hq hw w (up x []) r f = absurd (omega (arith, r.1.waiting))
up_left source es count g nn nm nd wk wk' i q u b hi p hq hw w (up x (k ∷ ks)) r f = go k r.1 (sym (ap (λ (y : StackItem). y.waits) hi) ∙ p) f
  where
    e : ℕ
    e = word_at work_width wk g.waiting 0

    go : (k : Frame) → Holds w g.made g.waiting nm nd wk x.state (k ∷ ks) → waits_of (word_at work_width wk g.waiting 2) ≡ ForRight → Fits w (up x (k ∷ ks))
        → Reads w q nm nd wk' (step (trees w) (total w) (up x (k ∷ ks)))
    go (wait_left o h y) hd p1 ft = absurd (omega (arith, ap waits_word (sym p1 ∙ waits_for w hd)))
    go (wait_name h m) hd p1 ft = absurd (omega (arith, ap waits_word (sym p1 ∙ waits_for w hd)))
    go (wait_right o h l) hd p1 ft =
        rw (hq ∙ ap (λ (y : StackItem). left_walker es y g) hi) (
          top.4,
          holds_push w (holds_pop w hd) (wait_left o h x.number) wk' g.waiting e (word_at work_width wk g.waiting 1) 2 nn.0 hd.waiting room waits
              (hw ∙ ap (λ (y : StackItem). written work_width wk g.waiting (item_words (left_item y nn))) hi),
        )
      where
        top : (word_at work_width wk g.waiting 2 ≡ 1) × (kind_in es e ≡ node.number (own_kind o)) × (head_at w e (word_at work_width wk g.waiting 1) ≡ h) × Named w e (word_at work_width wk g.waiting 1) × StandsFor w (word_at expr_width es e 2) 0 l
        top = unfold Waits in top_waits w hd

        room : suc (length ks) ≤ record_limit
        room = omega (arith, room_up (trees w) (total w) x (wait_right o h l ∷ ks), ft.0)

        waits : Waits w e (word_at work_width wk g.waiting 1) 2 nn.0 (wait_left o h x.number)
        waits = unfold Waits in (refl, top.1, top.2, top.3, (comes w _ u r.0))

-- for its left child
pub up_node : (source es : List ℕ) (count : ℕ) (g : Walker) (nn : NodeNo) (nm nd wk nd' : List ℕ) (i : StackItem) (k : ℕ) (q : Walker) → g.step ≡ Up nn → 1 ≤ g.waiting
    → i ≡ item_at wk g.waiting → i.waits ≡ ForLeft → k ≡ kind_in es i.expr.0 → nd' ≡ nodes_with es nm nd g.made k i.expr.0 i.name.0 nn.0 i.right.0 → q ≡ done_walker g
    → Turns source es count g nm nd wk q nm nd' wk
unfolding Turns Reads step
up_node source es count g nn nm nd wk nd' i k q u b hi p hk hn hq w (down t s ks) r f = absurd (goes_not w _ u r.0)
up_node source es count g nn nm nd wk nd' i k q u b hi p hk hn hq w (up x []) r f = absurd (omega (arith, r.1.waiting))
up_node source es count g nn nm nd wk nd' i k q u b hi p hk hn hq w (up x (fr ∷ ks)) r f = go fr r.1 (sym (ap (λ (y : StackItem). y.waits) hi) ∙ p) f
  where
    e : ℕ
    e = word_at work_width wk g.waiting 0

    n : ℕ
    n = word_at work_width wk g.waiting 1

    go : (fr : Frame) → Holds w g.made g.waiting nm nd wk x.state (fr ∷ ks) → waits_of (word_at work_width wk g.waiting 2) ≡ ForLeft → Fits w (up x (fr ∷ ks))
        → Reads w q nm nd' wk (step (trees w) (total w) (up x (fr ∷ ks)))
    go (wait_right o h l) hd p1 ft = absurd (omega (arith, ap waits_word (sym p1 ∙ waits_for w hd)))
    go (wait_name h m) hd p1 ft = absurd (omega (arith, ap waits_word (sym p1 ∙ waits_for w hd)))
    go (wait_left o h y) hd p1 ft =
        rw hq (
          ap next_number hd.made ∙ next_is (length x.state.nodes) room,
          holds_node w (holds_pop w hd) (record { kind = own_kind o; head = h; left = x.number; right = y }) nd' k e n nn.0 (word_at work_width wk g.waiting 3) room top.3
              (hk ∙ ap (λ (z : StackItem). kind_in es z.expr.0) hi ∙ top.1) top.2 (comes w _ u r.0) top.4
              (hn ∙ ap (λ (z : StackItem). nodes_with es nm nd g.made k z.expr.0 z.name.0 nn.0 z.right.0) hi),
        )
      where
        top : (word_at work_width wk g.waiting 2 ≡ 2) × (kind_in es e ≡ node.number (own_kind o)) × (head_at w e n ≡ h) × Named w e n × (word_at work_width wk g.waiting 3 ≡ y)
        top = unfold Waits in top_waits w hd

        room : length x.state.nodes < record_limit
        room = omega (arith, room_up (trees w) (total w) x (wait_left o h y ∷ ks), ft.0)

-- for the name that it uses
pub up_name : (source es : List ℕ) (count : ℕ) (g : Walker) (nn : NodeNo) (nm nd wk nm' nd' : List ℕ) (i : StackItem) (m : ℕ) (q : Walker) → g.step ≡ Up nn → 1 ≤ g.waiting
    → i ≡ item_at wk g.waiting → i.waits ≡ ForName → m ≡ used_in source es nm count i.expr.0 → nm' ≡ names_with nm m nn.0
    → nd' ≡ nodes_with es nm' nd g.made 3 i.expr.0 i.name.0 nn.0 i.right.0 → q ≡ done_walker g
    → Turns source es count g nm nd wk q nm' nd' wk
unfolding Turns Reads step
up_name source es count g nn nm nd wk nm' nd' i m q u b hi p hm hn hd hq w (down t s ks) r f = absurd (goes_not w _ u r.0)
up_name source es count g nn nm nd wk nm' nd' i m q u b hi p hm hn hd hq w (up x []) r f = absurd (omega (arith, r.1.waiting))
up_name source es count g nn nm nd wk nm' nd' i m q u b hi p hm hn hd hq w (up x (fr ∷ ks)) r f = go fr r.1 (sym (ap (λ (y : StackItem). y.waits) hi) ∙ p) f
  where
    e : ℕ
    e = word_at work_width wk g.waiting 0

    n : ℕ
    n = word_at work_width wk g.waiting 1

    go : (fr : Frame) → Holds w g.made g.waiting nm nd wk x.state (fr ∷ ks) → waits_of (word_at work_width wk g.waiting 2) ≡ ForName → Fits w (up x (fr ∷ ks))
        → Reads w q nm' nd' wk (step (trees w) (total w) (up x (fr ∷ ks)))
    go (wait_right o h l) h1 p1 ft = absurd (omega (arith, ap waits_word (sym p1 ∙ waits_for w h1)))
    go (wait_left o h y) h1 p1 ft = absurd (omega (arith, ap waits_word (sym p1 ∙ waits_for w h1)))
    go (wait_name h m₁) h1 p1 ft =
        rw hq (
          ap next_number h1.made ∙ next_is (length x.state.nodes) room,
          holds_node w marked· (resolve h (finished x.number)) nd' 3 e n nn.0 (word_at work_width wk g.waiting 3) room top.2 refl top.1 (comes w _ u r.0) top.4
              (hd ∙ ap (λ (z : StackItem). nodes_with es nm' nd g.made 3 z.expr.0 z.name.0 nn.0 z.right.0) hi),
        )
      where
        top : (word_at work_width wk g.waiting 2 ≡ 3) × (head_at w e n ≡ h) × Named w e n × (used_at w e ≡ m₁) × (word_at work_width wk g.waiting 3 ≡ 0)
        top = unfold Waits in top_waits w h1

        m_is : m ≡ m₁
        m_is = hm ∙ ap (λ (z : StackItem). used_in source es nm count z.expr.0) hi ∙ used_is w h1 e ∙ top.3

        fit : ((1 ≤ m₁) × (m₁ ≤ total w)) × ((1 ≤ x.number) × (x.number ≤ length x.state.nodes))
        fit = unfold Fit NamesLegal PartWaits in (ft.1.0.0, sub ft.1.1)
          where
            sub : ⊥ ⊎ ((1 ≤ x.number) × (x.number ≤ length x.state.nodes)) → (1 ≤ x.number) × (x.number ≤ length x.state.nodes)
            sub (inl z) = absurd z
            sub (inr z) = z

        room : length x.state.nodes < record_limit
        room = omega (arith, room_up (trees w) (total w) x (wait_name h m₁ ∷ ks), ft.0)

        few_nodes_law : (j : ℕ) → ◌≡◌ {A = Status} (finished x.number) (finished j) → (1 ≤ j) × (j ≤ record_limit)
        few_nodes_law j z = let y : x.number ≡ j = cc in (omega (arith, fit.1.0), omega (arith, fit.1.1, room))

        marked· : Holds w g.made (g.waiting - 1) nm' nd wk (mark m₁ (finished x.number) x.state) ks
        marked· = holds_mark w (holds_pop w h1) m₁ (finished x.number) nm' nn.0 fit.0.0 fit.0.1 few_nodes_law (comes w _ u r.0) (hn ∙ ap (λ (z : ℕ). names_with nm z nn.0) m_is)
