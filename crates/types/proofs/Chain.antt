-- Types with operators: an operator behind a type, its operands joined, and the loop over them. Assumes nothing.
use Rattle.std.specs.Prelude.{if◌then◌else◌, Err, None, Ok, Some}
use Prim.Native.Nat.{ℕ, zero, suc, ◌+◌, ◌-◌, ◌≤◌, ◌<◌}
use mathlib.Core.Bool.{Bool, true, false}
use mathlib.Core.Path.{◌≡◌, refl, sym, ap, subst, ◌∙◌}
use mathlib.Core.List.{List, [], ◌∷◌, ◌++◌, append-nil}
use mathlib.Core.Option.{Option, none, some}
use native.Mathlib.Omega.{arith}
use native.Mathlib.Numerals.{sub-one}
use lib.Dec.{eqb}
use lib.ListN.{length, length-append}
use Rattle.grammar.proofs.Takes.{atom_takes}
use borrow.Author.Tests.{ne_eqb}
use Rattle.records.specs.Limits.{type_width}
use Rattle.records.specs.Records.{type_words}
use Rattle.records.specs.TokenKind as token
use Rattle.records.specs.declared.TypeRecord.{TypeRecord}
use Rattle.records.specs.declared.numbers.TypeNo.{TypeNo}
use Rattle.records.specs.declared.numbers.TokenNo.{TokenNo}
use Rattle.records.specs.declared.numbers.ExprNo.{ExprNo}
use Rattle.tables.specs.Tables.{written, filled, beyond}
use Rattle.tables.proofs.Filled.{filled_then, filled_one}
use Rattle.lex.specs.Tokens.{Token}
use Rattle.checks.specs.declared.Fault.TheVariants.{TooDeep}
use Rattle.checks.specs.Checks.{Checks}
use Rattle.cursor.specs.declared.Cursor.{Cursor}
use Rattle.cursor.specs.declared.ParseRefusal.{ParseRefusal}
use Rattle.cursor.specs.Tokens.{tokens_left}
use Rattle.cursor.specs.Cursor.{refusal_at, stepped, next_number, Ready, Reached, Answer}
use Rattle.cursor.proofs.Laws.{left_length}
use Rattle.cursor.proofs.Steps.{next_below}
use Rattle.cursor.proofs.Reached.{reached_ready, reached_step}
use Rattle.grammar.specs.Tree as tree
use Rattle.grammar.specs.Tree.{Ty, Op, present}
use Rattle.grammar.specs.Rule.{Parsed, got, stop, Rule, go_on, entry, perhaps, repeat_for, repeat}
use Rattle.grammar.specs.Grammar.{operators, operand, chain, atom, type}
use Rattle.grammar.specs.Recorded.{type_record, op_kind, type_weight, type_no, type_records}
use Rattle.types.specs.declared.Op.{Op as CodeOp}
use Rattle.types.specs.declared.Op.TheVariants.{Sum as Plus, Product as Star}
use Rattle.types.specs.Answers.{type_rows, TypeReads, type_record_by, finished, operator_by, operator_at, operator_read, joined_table, op_inner}
use Rattle.records.proofs.Pairs.{some_three, some_none}
use Rattle.types.proofs.Atoms.{present_weighs, rows_weigh, rows_append, filled_stays}

-- the operator of the trees
abbrev pub tree_op : CodeOp → Op
tree_op Plus = tree.sum
tree_op Star = tree.product

-- ---- an operator, or none

-- what comes behind a type, for the code and for the grammar
data Sees (l : TypeNo) (d : Cursor) (ts : List Token) : Type 0 where
  one : (o : CodeOp) (u : Token) (rest : List Token) → ts ≡ u ∷ rest → operator_by l d ts ≡ Some (o, l, (stepped d)) → perhaps operators ts ≡ got (some (tree_op o)) rest → Sees l d ts
  none_more : operator_by l d ts ≡ None → perhaps operators ts ≡ got none ts → Sees l d ts

sees : (l : TypeNo) (d : Cursor) (ts : List Token) → Sees l d ts
unfolding perhaps entry
sees l d [] = none_more refl refl
sees l d (u ∷ rest) = go (eqb u.kind.0 (token.number token.plus)) refl (eqb u.kind.0 (token.number token.star)) refl
  where
    go : (a : Bool) → eqb u.kind.0 (token.number token.plus) ≡ a → (b : Bool) → eqb u.kind.0 (token.number token.star) ≡ b → Sees l d (u ∷ rest)
    go true e b f = one Plus u rest refl (rw e) (rw e)
    go false e true f = one Star u rest refl (rw (e, f)) (rw (e, f))
    go false e false f = none_more (rw (e, f)) (rw (e, f))

-- ---- the operands joined

module _ (o : CodeOp) (x y : Ty) (m : ℕ) where
  abbrev both : Ty
  both = tree.op (tree_op o) x y

  abbrev joins : TypeRecord
  joins = type_record (op_kind (tree_op o)) (type_no x m) (type_no y (m + type_weight x)) 0

  rows_both : present both ≡ true → type_rows both m ≡ type_rows x m ++ (type_rows y (m + type_weight x) ++ (type_words joins ∷ []))
  unfolding type_records
  rows_both e = rw e (rows_append (type_records x m) (type_records y (m + type_weight x) ++ (joins ∷ [])) ∙ ap (λ (q : List (List ℕ)). type_rows x m ++ q) (rows_append (type_records y (m + type_weight x)) (joins ∷ [])))

  rows_one : present both ≡ false → type_rows both m ≡ type_rows x m ++ type_rows y (m + type_weight x)
  unfolding type_records
  rows_one e = rw (e, append-nil) (rows_append (type_records x m) (type_records y (m + type_weight x)))

  filled_two : (old : List ℕ) {mid new : List ℕ} → mid ≡ filled type_width old m (type_rows x m) → new ≡ filled type_width mid (m + type_weight x) (type_rows y (m + type_weight x)) → new ≡ filled type_width old m (type_rows x m ++ type_rows y (m + type_weight x))
  filled_two old e f = filled_then type_width old m (type_rows x m) (type_rows y (m + type_weight x)) (rows_weigh x m) e f

  filled_three : (old : List ℕ) {mid end new : List ℕ} → mid ≡ filled type_width old m (type_rows x m) → end ≡ filled type_width mid (m + type_weight x) (type_rows y (m + type_weight x)) → new ≡ written type_width end (m + type_weight x + type_weight y + 1) (type_words joins) → new ≡ filled type_width old m (type_rows x m ++ (type_rows y (m + type_weight x) ++ (type_words joins ∷ [])))
  filled_three old {mid} {end} {new} e f g =
      filled_then type_width old m (type_rows x m) (type_rows y (m + type_weight x) ++ (type_words joins ∷ [])) (rows_weigh x m) e
      (filled_then type_width mid (m + type_weight x) (type_rows y (m + type_weight x)) (type_words joins ∷ []) (rows_weigh y (m + type_weight x)) f (g ∙ sym (filled_one type_width end (m + type_weight x + type_weight y) (type_words joins))))

-- the record of an operator, as the code has it
op_row : (o : CodeOp) (x : Ty) (m r : ℕ) → type_words (type_record_by (op_inner o (record { 0 = type_no x m }) (record { 0 = r }))) ≡ type_words (type_record (op_kind (tree_op o)) (type_no x m) r 0)
op_row Plus x m r = refl
op_row Star x m r = refl

if_both : {A : Type 0} (x y z : A) {a b : Bool} → a ≡ false → b ≡ false → (if a then x else if b then y else z) ≡ z
if_both x y z e f = rw (e, f)

-- ---- an operator with its operands

module _ (s t : List ℕ) (n : ℕ) (c : Cursor) (ready : Ready n c) where
  -- behind the type x, which was read from c up to d, comes an operator and then Q
  module _ (o : CodeOp) (x : Ty) (d : Cursor) (u : Token) (rest : List Token) (old mid : List ℕ) (to_d : Reached s t n c d (u ∷ rest) 0 (type_weight x)) (is_mid : mid ≡ filled type_width old c.ty.0 (type_rows x c.ty.0)) where
    abbrev m : ℕ
    m = c.ty.0

    abbrev number : TypeNo
    number = record { 0 = type_no x m }

    abbrev joined_to : Parsed Ty → Parsed Ty
    joined_to P = go_on P (λ y. got (tree.op (tree_op o) x y))

    -- the right operand was read up to f
    module _ (y : Ty) (f : Cursor) (q : List Token) (end : List ℕ) (to_f : Reached s t n (stepped d) f q 0 (type_weight y)) (is_end : end ≡ filled type_width mid d.ty.0 (type_rows y d.ty.0)) where
      abbrev both_of : Ty
      both_of = tree.op (tree_op o) x y

      from : d.ty.0 ≡ m + type_weight x
      from = to_d.types

      there : end ≡ filled type_width mid (m + type_weight x) (type_rows y (m + type_weight x))
      there = is_end ∙ ap (λ (k : ℕ). filled type_width mid k (type_rows y k)) from

      count : f.ty.0 ≡ m + (type_weight x + type_weight y)
      count = omega (arith, to_f.types, from)

      next : next_number f.ty.0 ≡ m + type_weight x + type_weight y + 1
      next = sym (next_below (omega (arith, count, to_d.room.1, to_f.room.1, to_f.inside, ready.types, ready.few))) ∙ omega (arith, count)

      abbrev right : TypeNo
      right = record { 0 = type_no y d.ty.0 }

      -- with b records more for the operator itself
      reached : (g : Cursor) (b : ℕ) → b ≤ 1 → g.token ≡ f.token → g.expr ≡ f.expr → g.ty.0 ≡ f.ty.0 + b → Reached s t n c g q 0 (type_weight x + type_weight y + b)
      reached g b h et ee ey =
          let k : g.token.0 ≡ f.token.0 = ap (λ (v : TokenNo). v.0) et in
          let l : g.expr.0 ≡ f.expr.0 = ap (λ (v : ExprNo). v.0) ee in
          record {
            inside = omega (arith, to_f.inside);
            left = ap (tokens_left s t n) k ∙ to_f.left;
            exprs = omega (arith, to_f.exprs, to_d.exprs);
            types = omega (arith, count);
            room = (omega (arith, to_d.room.0, to_f.room.0), omega (arith, to_d.room.1, to_f.room.1));
          }

      -- an absent operand makes the whole absent
      join_absent : (r : Answer TypeNo) (new : List ℕ) → present both_of ≡ false → r ≡ Ok ((record { 0 = 0 }), f) → new ≡ end → TypeReads s t n c (got both_of q) r old new
      unfolding type_weight
      join_absent r new e er en = (
        f,
        er ∙ rw e,
        rw e (reached f 0 (omega arith) refl refl (omega arith)),
        en ∙ filled_two o x y m old is_mid there ∙ ap (filled type_width old m) (sym (rows_one o x y m e)),
      )

      join_present : (r : Answer TypeNo) (new : List ℕ) → present both_of ≡ true → r ≡ finished f → new ≡ written type_width end (next_number f.ty.0) (type_words (type_record_by (op_inner o number right))) → TypeReads s t n c (got both_of q) r old new
      unfolding type_weight
      join_present r new e er en =
          let g : Cursor = record { token = f.token; expr = f.expr; ty = record { 0 = next_number f.ty.0 } } in
          let no : type_no both_of m ≡ next_number f.ty.0 = rw e (omega (arith, next)) in
          let row : type_words (type_record_by (op_inner o number right)) ≡ type_words (joins o x y m) = op_row o x m (type_no y d.ty.0) ∙ ap (λ (k : ℕ). type_words (type_record (op_kind (tree_op o)) (type_no x m) (type_no y k) 0)) from in (
            g,
            er ∙ ap (λ (k : ℕ). Ok ((record { 0 = k }), g)) (sym no),
            rw e (reached g 1 (omega arith) refl refl (omega (arith, next, count))),
            filled_three o x y m old is_mid there (en ∙ rw (next, row)) ∙ ap (filled type_width old m) (sym (rows_both o x y m e)),
          )

      -- by which operands are present
      join_got : (r : Answer TypeNo) (new : List ℕ) → r ≡ operator_read number (Ok (right, f)) → new ≡ joined_table o number (Ok (right, f)) end → TypeReads s t n c (got both_of q) r old new
      unfolding operator_read joined_table present
      join_got r new er en = go (present x) refl (present y) refl
        where
          some : (v : Ty) (k : ℕ) → present v ≡ true → eqb (k + type_weight v) 0 ≡ false
          some v k e = ne_eqb (k + type_weight v) 0 (λ z. absurd (omega (arith, present_weighs v e)))

          go : (a : Bool) → present x ≡ a → (b : Bool) → present y ≡ b → TypeReads s t n c (got both_of q) r old new
          go false ea b eb = join_absent r new (rw ea) (er ∙ rw ea) (en ∙ rw ea)
          go true ea false eb = join_absent r new (rw (ea, eb)) (er ∙ rw (ea, eb, some x m ea)) (en ∙ rw (ea, eb, some x m ea))
          go true ea true eb =
              let nx : eqb (type_no x m) 0 ≡ false = rw ea (some x m ea) in
              let ny : eqb (type_no y d.ty.0) 0 ≡ false = rw eb (some y d.ty.0 eb) in
              join_present r new (rw (ea, eb)) (er ∙ if_both _ _ _ nx ny) (en ∙ if_both _ _ _ nx ny)

    -- whatever the right operand is
    join_reads : (Q : Parsed Ty) (p r : Answer TypeNo) (end new : List ℕ) → TypeReads s t n (stepped d) Q p mid end → r ≡ operator_read number p → new ≡ joined_table o number p end → TypeReads s t n c (joined_to Q) r old new
    unfolding go_on operator_read joined_table
    join_reads (got y q) p r end new h er en = join_got y h.0 q end h.2 h.3 r new (er ∙ ap (operator_read number) h.1) (en ∙ ap (λ (v : Answer TypeNo). joined_table o number v end) h.1)
    join_reads (stop z q) p r end new h er en =
        let same : new ≡ end = en ∙ ap (λ (v : Answer TypeNo). joined_table o number v end) h.0 in
        (er ∙ ap (operator_read number) h.0, ap (beyond type_width) same ∙ h.1 ∙ filled_stays x m old mid is_mid)

-- ---- the loop over operators

module _ (checks : Checks) (d : ℕ) where
  abbrev A : Rule Ty
  A = atom checks (type checks d)

  abbrev step : Ty → Rule (Option Ty)
  step = operand operators A

  -- the type, as what is still to be done behind P, with room for so many turns more
  Left : (whole P : Parsed Ty) (turns : ℕ) → Type 0
  Left W (got l rest) k = (f : ℕ) × (W ≡ repeat_for f step l rest) × (length rest ≤ f) × (length rest ≤ k)
  Left W (stop x rest) k = W ≡ stop x rest

  begun : (ts : List Token) (k : ℕ) → length ts ≤ k → ((l : Ty) (rest : List Token) → A ts ≡ got l rest → length rest ≤ length ts) → Left (type checks (suc d) ts) (A ts) k
  unfolding Left type chain go_on repeat
  begun ts k h less = go (A ts) refl
    where
      go : (P : Parsed Ty) → A ts ≡ P → Left (go_on P (repeat step)) P k
      go (got l rest) e = (length rest, refl, omega arith, omega (arith, less l rest e))
      go (stop x rest) e = refl

  -- no operator: the type is read
  left_over : (W : Parsed Ty) (l : Ty) (rest : List Token) (k : ℕ) → Left W (got l rest) k → perhaps operators rest ≡ got none rest → W ≡ got l rest
  unfolding Left repeat_for operand go_on
  left_over W l rest k (zero, e, h, i) p = e
  left_over W l rest k (suc f, e, h, i) p = e ∙ rw p

  -- an operator: its right operand, and on
  left_on : (W : Parsed Ty) (l : Ty) (o : Op) (u : Token) (rest : List Token) (k : ℕ) → Left W (got l (u ∷ rest)) (suc k) → perhaps operators (u ∷ rest) ≡ got (some o) rest → ((y : Ty) (q : List Token) → A rest ≡ got y q → length q ≤ length rest) → Left W (go_on (A rest) (λ y. got (tree.op o l y))) k
  unfolding Left repeat_for operand go_on
  left_on W l o u rest k (zero, e, h, i) p less = absurd (omega arith)
  left_on W l o u rest k (suc f, e, h, i) p less = go (A rest) refl
    where
      go : (P : Parsed Ty) → A rest ≡ P → Left W (go_on P (λ y. got (tree.op o l y))) k
      go (got y q) a = (f, e ∙ rw (p, a), omega (arith, less y q a), omega (arith, less y q a))
      go (stop x q) a = e ∙ rw (p, a)

  module _ (s t : List ℕ) (n : ℕ) (c : Cursor) (ready : Ready n c) (W : Parsed Ty) where
    -- what was read so far stands in the table, and what is still to be read follows it
    pub Going : (turns : ℕ) → Answer TypeNo → (old new : List ℕ) → Type 0
    Going i p old new = (P : Parsed Ty) × TypeReads s t n c P p old new × Left W P (n - i)

    atom_less : (ts rest : List Token) (x : Ty) → A ts ≡ got x rest → length rest ≤ length ts
    atom_less ts rest x e =
        let k = atom_takes checks d ts rest x e in
        omega (arith, ap length k.split, length-append k.used rest)

    pub going_start : (p : Answer TypeNo) (old new : List ℕ) → W ≡ type checks (suc d) (tokens_left s t n c.token.0) → TypeReads s t n c (A (tokens_left s t n c.token.0)) p old new → Going 0 p old new
    unfolding Going
    going_start p old new e h =
        let ts = tokens_left s t n c.token.0 in
        (A ts, h, rw e (begun ts (n - 0) (omega (arith, left_length s t n c.token.0)) (λ l rest a. atom_less ts rest l a)))

    -- no operator follows
    pub going_over : (i : ℕ) (p : Answer TypeNo) (old new : List ℕ) → Going i p old new → operator_at s t n p ≡ None → TypeReads s t n c W p old new
    unfolding Going Left operator_at
    going_over i p old new (stop x rest, h, l) e = rw l h
    going_over i p old new (got x rest, h, l) e = go (sees number h.0 rest)
      where
        number : TypeNo
        number = record { 0 = type_no x c.ty.0 }

        is : operator_by number h.0 rest ≡ None
        is = ap (operator_by number h.0) (sym h.2.left) ∙ ap (operator_at s t n) (sym h.1) ∙ e

        go : Sees number h.0 rest → TypeReads s t n c W p old new
        go (one o u q eq ec ep) = absurd (some_none (sym ec ∙ is))
        go (none_more ec ep) = rw (left_over W x rest (n - i) l ep) h

    -- no turn is left
    pub going_done : (i : ℕ) (p : Answer TypeNo) (old new : List ℕ) → n ≤ i → Going i p old new → TypeReads s t n c W p old new
    unfolding Going Left perhaps
    going_done i p old new k (stop x rest, h, l) = rw l h
    going_done i p old new k (got x [], h, l) = rw (left_over W x [] (n - i) l refl) h
    going_done i p old new k (got x (u ∷ rest), h, l) = absurd (omega (arith, l.3))

    -- an operator and its right operand
    pub going_on : (i : ℕ) (o : CodeOp) (l : TypeNo) (e : Cursor) (p q r : Answer TypeNo) (old mid end new : List ℕ) → i < n → Going i p old mid → operator_at s t n p ≡ Some (o, l, e) → (Ready n e → TypeReads s t n e (A (tokens_left s t n e.token.0)) q mid end) → r ≡ operator_read l q → new ≡ joined_table o l q end → Going (i + 1) r old new
    unfolding Going Left operator_at
    going_on i o l e p q r old mid end new k (stop x rest, h, g) is reads er en =
        absurd (some_none (sym (sym (ap (operator_at s t n) h.0) ∙ is)))
    going_on i o l e p q r old mid end new k (got x rest, h, g) is reads er en = go (sees number f rest)
      where
        f : Cursor
        f = h.0

        number : TypeNo
        number = record { 0 = type_no x c.ty.0 }

        sees_it : operator_by number f rest ≡ Some (o, l, e)
        sees_it = ap (operator_by number f) (sym h.2.left) ∙ ap (operator_at s t n) (sym h.1) ∙ is

        go : Sees number f rest → Going (i + 1) r old new
        go (none_more ec ep) = absurd (some_none (sym (sym ec ∙ sees_it)))
        go (one o' u later eq ec ep) =
            let same = some_three (sym ec ∙ sees_it) in
            let eo : o' ≡ o = same.0 in
            let el : number ≡ l = same.1 in
            let ee : stepped f ≡ e = same.2 in
            let to_f : Reached s t n c f (u ∷ later) 0 (type_weight x) = subst (λ (v : List Token). Reached s t n c f v 0 (type_weight x)) eq h.2 in
            let behind : Reached s t n c (stepped f) later 0 (type_weight x) = reached_step s t n u to_f in
            let right : TypeReads s t n (stepped f) (A later) q mid end =
            subst (λ (v : List Token). TypeReads s t n (stepped f) (A v) q mid end) behind.left (subst (λ (v : Cursor). Ready n v → TypeReads s t n v (A (tokens_left s t n v.token.0)) q mid end) (sym ee) reads (reached_ready s t n ready behind)) in
            let whole : TypeReads s t n c (go_on (A later) (λ y. got (tree.op (tree_op o) x y))) r old new =
            join_reads s t n c ready o x f u later old mid to_f h.3 (A later) q r end new right (er ∙ ap (λ (v : TypeNo). operator_read v q) (sym el)) (en ∙ ap (λ (v : TypeNo). joined_table o v q end) (sym el)) in
            let turns : n - i ≡ suc (n - (i + 1)) = omega arith in
            let g' : Left W (got x (u ∷ later)) (suc (n - (i + 1))) = subst (λ (v : List Token). Left W (got x v) (suc (n - (i + 1)))) eq (subst (Left W (got x rest)) turns g) in
            let ep' : perhaps operators (u ∷ later) ≡ got (some (tree_op o)) later = ap (perhaps operators) (sym eq) ∙ ep ∙ ap (λ (v : CodeOp). got (some (tree_op v)) later) eo in
            (go_on (A later) (λ y. got (tree.op (tree_op o) x y)), whole, left_on W x (tree_op o) u later (n - (i + 1)) g' ep' (λ y v a. atom_less later v y a))

module _ (checks : Checks) (s t : List ℕ) (n d : ℕ) (c : Cursor) where
  -- no depth is left
  pub too_deep_law : d ≡ 0 → (r : ParseRefusal) (old : List ℕ) → r ≡ refusal_at (length s) TooDeep (tokens_left s t n c.token.0) → TypeReads s t n c (type checks d (tokens_left s t n c.token.0)) (Err r) old old
  unfolding type
  too_deep_law e r old f = rw e (ap Err f, refl)

-- a depth that is not 0
pub from_depth : (checks : Checks) (d : ℕ) (ts : List Token) → ¬ (d ≡ 0) → type checks d ts ≡ type checks (suc (d - 1)) ts
from_depth checks zero ts f = absurd (f refl)
from_depth checks (suc d) ts f = rw sub-one
