-- Reading does not look at places: with the tokens at other places it answers the same, with its places moved in the same way
-- (`no_look`). So tokens that differ in nothing but places are read alike (`read_alike`). Assumes nothing.
use Rattle.std.specs.Prelude.{if◌then◌else◌, Err, Ok, Result}
use Prim.Native.Nat.{ℕ, zero, suc}
use mathlib.Core.Bool.{Bool, true, false}
use mathlib.Core.Path.{◌≡◌, refl, sym, ap, ◌∙◌}
use mathlib.Core.List.{List, [], ◌∷◌, ◌++◌, map, map-append}
use mathlib.Core.Option
use mathlib.Core.Option.{Option, none, some}
use native.Mathlib.Omega.{arith}
use lib.ListN.{length, length-map}
use Rattle.records.specs.Limits.{depth_limit}
use Rattle.records.specs.TokenKind as token
use Rattle.lex.specs.Tokens.{Token}
use Rattle.checks.specs.declared.Fault.{Fault}
use Rattle.checks.specs.declared.Fault.TheVariants.{ParseFailed, TooDeep}
use Rattle.literals.specs.Literals.{is_kind}
use Rattle.checks.specs.Checks.{Checks}
use Rattle.grammar.specs.Tree as tree
use Rattle.grammar.specs.Tree.{Nullary, Unary, Binary, Expr, Op, Ty, Line}
use Rattle.grammar.specs.Rule.{Parsed, got, stop, Rule, go_on, ◌>>=◌, ◌>>◌, give, refuse, refuse_at, is_of, one_of, Table, entry, chosen, choice, taken, perhaps, again, repeat_for, repeat}
use Rattle.grammar.specs.Grammar as grammar
use Rattle.grammar.specs.Grammar.{names, literals, passed, TypeHead, power, operators, with_right, operand, chain, Head, type_head, atom_by, atom, type, arrow, head, cmr, expr_by, expr, arrow_if, perhaps_arrow, line, another, lines}
use Rattle.grammar.specs.Places.{moved_token, moved_expr, moved_cmr, moved_type, moved_arrow, moved_line, moved_answer, Alike, LinesAlike, AnswersAlike, read, refused}

module _ (g : ℕ → ℕ) where
  abbrev moved : List Token → List Token
  moved = map (moved_token g)

  -- p answers to moved tokens what q answers to the tokens, moved
  record Moves {A : Type 0} (f : A → A) (p q : Rule A) : Type 0 where
    by : (ts : List Token) → p (moved ts) ≡ moved_answer g f (q ts)

  moves_give : {A : Type 0} (f : A → A) (a : A) → Moves f (give (f a)) (give a)
  moves_give f a = record { by = λ ts. refl }

  moves_refuse : {A : Type 0} (f : A → A) (x : Fault) → Moves f (refuse x) (refuse x)
  moves_refuse f x = record { by = λ ts. refl }

  moves_back : {A : Type 0} (f : A → A) (t : Token) (x : Fault) → Moves f (refuse_at (moved_token g t) x) (refuse_at t x)
  moves_back f t x = record { by = λ ts. refl }

  moves_then : {A B : Type 0} {f : A → A} {h : B → B} {p q : Rule A} (P Q : A → Rule B) → Moves f p q → ((a : A) → Moves h (P (f a)) (Q a)) → Moves h (p >>= P) (q >>= Q)
  unfolding go_on
  moves_then {A} {B} {f} {h} {p} {q} P Q m k = record { by = λ ts. rw (m.by ts) (go (q ts)) }
    where
      go : (r : Parsed A) → go_on (moved_answer g f r) P ≡ moved_answer g h (go_on r Q)
      go (got a ts) = (k a).by ts
      go (stop x ts) = refl

  -- ---- one token

  of_moved : (t : Token) (ks : List token.Kind) → is_of (moved_token g t) ks ≡ is_of t ks
  of_moved t [] = refl
  of_moved t (k ∷ ks) = rw (of_moved t ks)

  moves_one_of : (ks : List token.Kind) → Moves (moved_token g) (one_of ks) (one_of ks)
  unfolding one_of
  moves_one_of ks = record { by = go }
    where
      by_test : (b : Bool) (t : Token) (ts : List Token) → (if b then got (moved_token g t) (moved ts) else stop ParseFailed (moved (t ∷ ts))) ≡ moved_answer g (moved_token g) (if b then got t ts else stop ParseFailed (t ∷ ts))
      by_test true t ts = refl
      by_test false t ts = refl

      go : (ts : List Token) → one_of ks (moved ts) ≡ moved_answer g (moved_token g) (one_of ks ts)
      go [] = refl
      go (t ∷ ts) = rw (of_moved t ks) (by_test (is_of t ks) t ts)

  -- two tables with the same kinds, and P of their entries
  infixr 5 ◌▹◌
  data Both {A : Type 0} (P : A → A → Type 0) : Table A → Table A → Type 0 where
    all : Both P [] []
    ◌▹◌ : {k : token.Kind} {a b : A} {T U : Table A} → P a b → Both P T U → Both P ((k, a) ∷ T) ((k, b) ∷ U)

  moves_choice : {A B : Type 0} {h : B → B} {T U : Table A} (P Q : A × Token → Rule B) → Both (λ a b. (t : Token) → Moves h (P (a, moved_token g t)) (Q (b, t))) T U → Moves h (choice T >>= P) (choice U >>= Q)
  unfolding go_on choice entry
  moves_choice {A} {B} {h} {T} {U} P Q m = record { by = go }
    where
      by_test : (x : Bool) (a b : A) (o p : Option A) (t : Token) (ts : List Token) → Moves h (P (a, moved_token g t)) (Q (b, t)) → go_on (chosen o (moved_token g t) (moved ts)) P ≡ moved_answer g h (go_on (chosen p t ts) Q) → go_on (chosen (if x then some a else o) (moved_token g t) (moved ts)) P ≡ moved_answer g h (go_on (chosen (if x then some b else p) t ts) Q)
      by_test true a b o p t ts k i = k.by ts
      by_test false a b o p t ts k i = i

      in_tables : {T U : Table A} → Both (λ a b. (t : Token) → Moves h (P (a, moved_token g t)) (Q (b, t))) T U → (t : Token) (ts : List Token) → go_on (chosen (entry T (moved_token g t)) (moved_token g t) (moved ts)) P ≡ moved_answer g h (go_on (chosen (entry U t) t ts) Q)
      in_tables all t ts = refl
      in_tables (◌▹◌ {k} {a} {b} {T} {U} m ms) t ts = by_test (is_kind k t.kind) a b (entry T (moved_token g t)) (entry U t) t ts (m t) (in_tables ms t ts)

      go : (ts : List Token) → (choice T >>= P) (moved ts) ≡ moved_answer g h ((choice U >>= Q) ts)
      go [] = refl
      go (t ∷ ts) = in_tables m t ts

  moves_perhaps : {A : Type 0} (table : Table A) → Moves (λ o. o) (perhaps table) (perhaps table)
  unfolding perhaps entry
  moves_perhaps {A} table = record { by = go }
    where
      same : (table : Table A) (t : Token) → entry table (moved_token g t) ≡ entry table t
      same [] t = refl
      same (e ∷ es) t = rw (same es t)

      by_entry : (o : Option A) (t : Token) (ts : List Token) → taken o (moved_token g t) (moved ts) ≡ moved_answer g (λ o. o) (taken o t ts)
      by_entry none t ts = refl
      by_entry (some a) t ts = refl

      go : (ts : List Token) → perhaps table (moved ts) ≡ moved_answer g (λ o. o) (perhaps table ts)
      go [] = refl
      go (t ∷ ts) = rw (same table t) (by_entry (entry table t) t ts)

  -- ---- repetition

  module _ {A : Type 0} {f : A → A} (step : A → Rule (Option A)) (m : (a : A) → Moves (Option.map f) (step (f a)) (step a)) where
    moves_repeat_for : (n : ℕ) (a : A) → Moves f (repeat_for n step (f a)) (repeat_for n step a)
    unfolding repeat_for
    moves_repeat_for zero a = moves_give f a
    moves_repeat_for (suc n) a = moves_then _ _ (m a) (on (moves_repeat_for n))
      where
        on : ((a : A) → Moves f (repeat_for n step (f a)) (repeat_for n step a)) → (o : Option A) → Moves f (again (repeat_for n step) (f a) (Option.map f o)) (again (repeat_for n step) a o)
        on i none = moves_give f a
        on i (some b) = i b

    moves_repeat : (a : A) → Moves f (repeat step (f a)) (repeat step a)
    unfolding repeat
    moves_repeat a = record { by = λ ts. rw (length-map ts (moved_token g)) ((moves_repeat_for (length ts) a).by ts) }

  module _ (checks : Checks) where
    -- ---- types

    abbrev moved_type_head : TypeHead → TypeHead
    moved_type_head (grammar.whole x) = grammar.whole (moved_type g x)
    moved_type_head grammar.group = grammar.group

    whole_moves : (x : Ty) → Moves moved_type_head (give (grammar.whole (moved_type g x))) (give (grammar.whole x))
    whole_moves x = moves_give moved_type_head (grammar.whole x)

    power_moves : (t : Token) (v : Result ℕ Fault) → Moves moved_type_head (power (moved_token g t) v) (power t v)
    unfolding moved_type
    power_moves t (Ok zero) = whole_moves tree.two
    power_moves t (Ok (suc n)) = whole_moves (tree.power (suc n))
    power_moves t (Err x) = moves_back moved_type_head t x

    type_head_moves : Moves moved_type_head (type_head checks) (type_head checks)
    unfolding type_head moved_type
    type_head_moves =
        moves_choice _ _
        ((λ t. moves_give moved_type_head grammar.group)
        ▹ (λ t. whole_moves tree.absent)
        ▹ (λ t. whole_moves (tree.name t))
        ▹ (λ t. power_moves t (checks.power t.text))
        ▹ (λ t. whole_moves tree.one)
        ▹ (λ t. whole_moves tree.two)
        ▹ all)

    module _ (T : Rule Ty) (m : Moves (moved_type g) T T) where
      atom_by_moves : (b : TypeHead) → Moves (moved_type g) (atom_by checks T (moved_type_head b)) (atom_by checks T b)
      unfolding atom_by
      atom_by_moves (grammar.whole x) = moves_give (moved_type g) x
      atom_by_moves grammar.group = moves_then _ _ m (λ x. moves_then _ _ (moves_one_of (token.rparen ∷ [])) (λ u. moves_give (moved_type g) x))

      atom_moves : Moves (moved_type g) (atom checks T) (atom checks T)
      unfolding atom
      atom_moves = moves_then _ _ type_head_moves atom_by_moves

      operand_moves : (l : Ty) → Moves (Option.map (moved_type g)) (operand operators (atom checks T) (moved_type g l)) (operand operators (atom checks T) l)
      unfolding operand moved_type
      operand_moves l = moves_then _ _ (moves_perhaps operators) go
        where
          go : (o : Option Op) → Moves (Option.map (moved_type g)) (with_right (atom checks T) (moved_type g l) o) (with_right (atom checks T) l o)
          go none = moves_give (Option.map (moved_type g)) none
          go (some o) = moves_then _ _ atom_moves (λ r. moves_give (Option.map (moved_type g)) (some (tree.op o l r)))

      chain_moves : Moves (moved_type g) (chain operators (atom checks T)) (chain operators (atom checks T))
      unfolding chain
      chain_moves = moves_then _ _ atom_moves (moves_repeat (operand operators (atom checks T)) operand_moves)

    type_moves : (d : ℕ) → Moves (moved_type g) (type checks d) (type checks d)
    unfolding type
    type_moves zero = moves_refuse (moved_type g) TooDeep
    type_moves (suc d) = chain_moves (type checks d) (type_moves d)

    arrow_moves : Moves (moved_arrow g) (arrow checks) (arrow checks)
    unfolding arrow
    arrow_moves =
        moves_then _ _ (type_moves depth_limit)
        (λ a. moves_then _ _ (moves_one_of (token.arrow ∷ []))
        (λ t. moves_then _ _ (type_moves depth_limit) (λ b. moves_give (moved_arrow g) (record { source = a; target = b }))))

    -- ---- expressions

    abbrev moved_head : Head → Head
    moved_head (grammar.leaf e) = grammar.leaf (moved_expr g e)
    moved_head grammar.parens = grammar.parens
    moved_head (grammar.unary k at) = grammar.unary k (g at)
    moved_head (grammar.binary k at) = grammar.binary k (g at)
    moved_head (grammar.assertl at) = grammar.assertl (g at)
    moved_head (grammar.assertr at) = grammar.assertr (g at)

    -- a test of the token that was taken last
    passed_moves : {A : Type 0} {f : A → A} {p q : Rule A} (t : Token) (v : Result (Unit {0}) Fault) → Moves f p q → Moves f (passed (moved_token g t) v >> p) (passed t v >> q)
    unfolding go_on
    passed_moves t (Ok _) m = record { by = m.by }
    passed_moves t (Err x) m = record { by = λ ts. refl }

    leaf_moves : (e : Expr) → Moves moved_head (give (grammar.leaf (moved_expr g e))) (give (grammar.leaf e))
    leaf_moves e = moves_give moved_head (grammar.leaf e)

    nullary_moves : (k : Nullary) (t : Token) → Moves moved_head (give (grammar.leaf (tree.nullary k (g t.start)))) (give (grammar.leaf (tree.nullary k t.start)))
    unfolding moved_expr
    nullary_moves k t = leaf_moves (tree.nullary k t.start)

    unary_moves : (k : Unary) (t : Token) → Moves moved_head (give (grammar.unary k (g t.start))) (give (grammar.unary k t.start))
    unary_moves k t = moves_give moved_head (grammar.unary k t.start)

    binary_moves : (k : Binary) (t : Token) → Moves moved_head (give (grammar.binary k (g t.start))) (give (grammar.binary k t.start))
    binary_moves k t = moves_give moved_head (grammar.binary k t.start)

    head_moves : Moves moved_head (head checks) (head checks)
    unfolding head moved_expr
    head_moves =
        moves_choice _ _
        ((λ t. moves_then _ _ (moves_one_of names) (λ x. leaf_moves (tree.hole x)))
        ▹ (λ t. moves_then _ _ (moves_one_of literals) (λ l. passed_moves l (checks.word l.kind l.text) (leaf_moves (tree.const l))))
        ▹ (λ t. moves_then _ _ (moves_one_of literals) (λ l. passed_moves l (checks.fail l.kind l.text) (leaf_moves (tree.fail t.start l))))
        ▹ (λ t. passed_moves t (checks.jet t.text) (leaf_moves (tree.jet t)))
        ▹ (λ t. leaf_moves (tree.ref t))
        ▹ (λ t. leaf_moves (tree.ref t))
        ▹ nullary_moves tree.unit ▹ nullary_moves tree.iden ▹ nullary_moves tree.witness
        ▹ (λ t. moves_give moved_head grammar.parens)
        ▹ (λ t. moves_give moved_head (grammar.assertl t.start))
        ▹ (λ t. moves_give moved_head (grammar.assertr t.start))
        ▹ unary_moves tree.injl ▹ unary_moves tree.injr ▹ unary_moves tree.take ▹ unary_moves tree.drop
        ▹ binary_moves tree.disconnect ▹ binary_moves tree.case ▹ binary_moves tree.comp ▹ binary_moves tree.pair
        ▹ all)

    module _ (E : Rule Expr) (m : Moves (moved_expr g) E E) where
      cmr_moves : Moves (moved_cmr g) (cmr checks E) (cmr checks E)
      unfolding cmr moved_expr
      cmr_moves =
          moves_choice _ _
          ((λ t. moves_then _ _ m (λ e. moves_then _ _ (moves_one_of (token.rbrace ∷ [])) (λ u. moves_give (moved_cmr g) (tree.inside e))))
          ▹ (λ t. moves_give (moved_cmr g) (tree.literal t))
          ▹ all)

      expr_by_moves : (b : Head) → Moves (moved_expr g) (expr_by checks E (moved_head b)) (expr_by checks E b)
      unfolding expr_by moved_expr
      expr_by_moves (grammar.leaf e) = moves_give (moved_expr g) e
      expr_by_moves grammar.parens = moves_then _ _ m (λ e. moves_then _ _ (moves_one_of (token.rparen ∷ [])) (λ u. moves_give (moved_expr g) e))
      expr_by_moves (grammar.unary k at) = moves_then _ _ m (λ e. moves_give (moved_expr g) (tree.unary k at e))
      expr_by_moves (grammar.binary k at) = moves_then _ _ m (λ l. moves_then _ _ m (λ r. moves_give (moved_expr g) (tree.binary k at l r)))
      expr_by_moves (grammar.assertl at) = moves_then _ _ m (λ e. moves_then _ _ cmr_moves (λ c. moves_give (moved_expr g) (tree.assertl at e c)))
      expr_by_moves (grammar.assertr at) = moves_then _ _ cmr_moves (λ c. moves_then _ _ m (λ e. moves_give (moved_expr g) (tree.assertr at c e)))

    expr_moves : (d : ℕ) → Moves (moved_expr g) (expr checks d) (expr checks d)
    unfolding expr
    expr_moves zero = moves_refuse (moved_expr g) TooDeep
    expr_moves (suc d) = moves_then _ _ head_moves (expr_by_moves (expr checks d) (expr_moves d))

    -- ---- lines

    perhaps_arrow_moves : Moves (Option.map (moved_arrow g)) (perhaps_arrow checks) (perhaps_arrow checks)
    unfolding perhaps_arrow
    perhaps_arrow_moves = moves_then _ _ (moves_perhaps _) go
      where
        go : (o : Option (Unit {0})) → Moves (Option.map (moved_arrow g)) (arrow_if checks o) (arrow_if checks o)
        go none = moves_give (Option.map (moved_arrow g)) none
        go (some u) = moves_then _ _ arrow_moves (λ a. moves_give (Option.map (moved_arrow g)) (some a))

    line_moves : Moves (moved_line g) (line checks) (line checks)
    unfolding line
    line_moves =
        moves_then _ _ (moves_one_of names)
        (λ x. moves_choice _ _
        ((λ t. moves_then _ _ (expr_moves depth_limit) (λ e. moves_then _ _ perhaps_arrow_moves (λ a. moves_give (moved_line g) (record { name = x; expression = some e; arrow = a }))))
        ▹ (λ t. moves_then _ _ arrow_moves (λ a. moves_give (moved_line g) (record { name = x; expression = none; arrow = some a })))
        ▹ all))

    another_moves : (ls : List Line) → Moves (Option.map (map (moved_line g))) (another checks (map (moved_line g) ls)) (another checks ls)
    unfolding another go_on
    another_moves ls = record { by = go }
      where
        on : (r : Parsed Line) → go_on (moved_answer g (moved_line g) r) (λ l. give (some (map (moved_line g) ls ++ (l ∷ [])))) ≡ moved_answer g (Option.map (map (moved_line g))) (go_on r (λ l. give (some (ls ++ (l ∷ [])))))
        on (got l ts) = rw (map-append (moved_line g) ls (l ∷ []))
        on (stop x ts) = refl

        go : (ts : List Token) → another checks (map (moved_line g) ls) (moved ts) ≡ moved_answer g (Option.map (map (moved_line g))) (another checks ls ts)
        go [] = refl
        go (t ∷ ts) = rw (line_moves.by (t ∷ ts)) (on (line checks (t ∷ ts)))

    lines_moves : Moves (map (moved_line g)) (lines checks) (lines checks)
    unfolding lines
    lines_moves = moves_repeat (another checks) another_moves []

pub no_look : (checks : Checks) (g : ℕ → ℕ) (ts : List Token) → lines checks (map (moved_token g) ts) ≡ moved_answer g (map (moved_line g)) (lines checks ts)
no_look checks g ts = (lines_moves g checks).by ts

-- ---- tokens that are alike

alike_moved : (ts us : List Token) → Alike ts us → map (moved_token (λ n. 0)) ts ≡ map (moved_token (λ n. 0)) us
alike_moved [] [] h = refl
alike_moved [] (u ∷ us) h = absurd h
alike_moved (t ∷ ts) [] h = absurd h
alike_moved (t ∷ ts) (u ∷ us) h = rw (h.0, h.1, alike_moved ts us h.2)

as_many : (ts us : List Token) → map (moved_token (λ n. 0)) ts ≡ map (moved_token (λ n. 0)) us → length ts ≡ length us
as_many ts us e = sym (length-map ts (moved_token (λ n. 0))) ∙ ap length e ∙ length-map us (moved_token (λ n. 0))

answers_alike : (r s : Parsed (List Line)) → moved_answer (λ n. 0) (map (moved_line (λ n. 0))) r ≡ moved_answer (λ n. 0) (map (moved_line (λ n. 0))) s → AnswersAlike r s
answers_alike (got ls ts) (got ms us) e = let z : LinesAlike ls ms = cc in read z (as_many ts us cc)
answers_alike (got ls ts) (stop x us) e = let z : ◌≡◌ {A = ℕ} 0 1 = cc in absurd (omega arith)
answers_alike (stop x ts) (got ms us) e = let z : ◌≡◌ {A = ℕ} 0 1 = cc in absurd (omega arith)
answers_alike (stop x ts) (stop y us) e = let z : x ≡ y = cc in rw z (refused (as_many ts us cc))

pub read_alike : (checks : Checks) (ts us : List Token) → Alike ts us → AnswersAlike (lines checks ts) (lines checks us)
read_alike checks ts us h =
    answers_alike (lines checks ts) (lines checks us)
    (sym (no_look checks (λ n. 0) ts) ∙ ap (lines checks) (alike_moved ts us h) ∙ no_look checks (λ n. 0) us)
