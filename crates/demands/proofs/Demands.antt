-- What holds of every reading without refusal: demand 3, that no root is lost, and that no table has more records than there are
-- tokens. Each is had from the same said of the walk's nodes, whose records take over kind, children and span. Assumes nothing.
use Rattle.std.specs.Prelude.{if◌then◌else◌, Err, Ok, Result}
use Prim.Native.Nat.{ℕ, zero, suc, ◌+◌, ◌≤◌, ◌<◌}
use mathlib.Core.Bool.{Bool, true, false}
use mathlib.Core.Path.{◌≡◌, refl, sym, ap, subst, ◌∙◌}
use mathlib.Core.Logic.{◌⊎◌, inl, inr, ◌≢◌}
use mathlib.Core.List.{List, [], ◌∷◌}
use mathlib.Core.Option.{some}
use native.Mathlib.Omega.{arith}
use native.Mathlib.Nat.{zero-add}
use lib.Dec.{ltb}
use lib.ListN.{length}
use Rattle.records.specs.Limits.{source_limit}
use Rattle.records.specs.NodeKind as node
use Rattle.records.specs.Refusals as refusal
use Rattle.records.specs.declared.NameRecord.{NameRecord}
use Rattle.records.specs.declared.NodeRecord.{NodeRecord}
use Rattle.text.specs.Check.{check_text}
use Rattle.lex.specs.Tokens.{Token, lexing}
use Rattle.checks.specs.Checks.{checks_of}
use Rattle.grammar.specs.Tree.{Line}
use Rattle.grammar.specs.Rule.{Parsed, got, stop}
use Rattle.grammar.specs.Places.{Each, numbered}
use Rattle.grammar.proofs.Takes.{line_records_law, records_fit}
use Rattle.ast.specs.Parsing.{parsing}
use Rattle.names.specs.Names.{names_of, name_record}
use Rattle.names.specs.Uses.{In}
use Rattle.walk.specs.Walk.{Node, Status, Legal}
use Rattle.walk.specs.Trees.{record_no}
use Rattle.walk.specs.Nodes.{walked, nodes_of, in_degree, node_record, node_records_from, node_records, node_no, name_records_from, name_records}
use Rattle.walk.specs.Demand as demand
use Rattle.walk.proofs.Numbered.{not_there}
use Rattle.walk.proofs.Demand as walk
use Rattle.walk.proofs.Basics.{part_number_law}
use Rattle.errors.proofs.NoneLost.{none_lost, name_shown}
use Rattle.access.specs.Roots.{is_root}
use Rattle.ends.specs.declared.ReadCounts.{ReadCounts}
use Rattle.reader.specs.Reading.{Contents, contents, read, refused, by_lines, by_tokens, by_text, reading, counts_of_contents}
use Rattle.reader.proofs.Answers.{counts_held}
use Rattle.reader.proofs.Fits.{resolved_fit}
use Rattle.demands.specs.Demands.{lines_read, JudgesAgree, ChildrenBefore, OnLoop, MissingOnLoops, Referred, NoRootLost, Few}
use Rattle.text.specs.declared.TextError.{TextError}
use Rattle.lex.specs.declared.LexError.{LexError}

-- ---- what was read

not_read : (r : refusal.Refused) (c : Contents) → refused r ≡ read c → ⊥
not_read r c e = let z : ◌≡◌ {A = ℕ} 0 1 = cc in omega arith

-- the contents are those of the tokens and lines of the source
record WasRead (source jets : List ℕ) (c : Contents) : Type 0 where
  rest : List Token
  parsed : parsing source jets ≡ got (lines_read source jets c) rest
  held : c ≡ contents (lexing source).tokens (lines_read source jets c)

was_read : (source jets : List ℕ) (c : Contents) → reading source jets ≡ read c → WasRead source jets c
unfolding reading
was_read source jets c = size (ltb source_limit (length source))
  where
    lines : (r : Parsed (List Line)) → parsing source jets ≡ r → by_lines source (lexing source).tokens r ≡ read c → WasRead source jets c
    lines (got ls rest) q e = let held : c ≡ contents (lexing source).tokens ls = cc in record { rest = rest; parsed = rw q; held = rw q held }
    lines (stop x rest) q e = absurd (not_read _ c e)

    tokens : (a : Result ℕ LexError) → by_tokens source jets a ≡ read c → WasRead source jets c
    tokens (Ok n) e = lines (parsing source jets) refl e
    tokens (Err x) e = absurd (not_read _ c e)

    text : (a : Result (Unit {0}) TextError) → by_text source jets a ≡ read c → WasRead source jets c
    text (Ok _) e = tokens (lexing source).answer e
    text (Err x) e = absurd (not_read _ c e)

    size : (b : Bool) → (if b then refused refusal.long_source else by_text source jets (check_text source)) ≡ read c → WasRead source jets c
    size true e = absurd (not_read _ c e)
    size false e = text (check_text source) e

-- ---- the records of nodes

-- what a record takes over from its node holds of each record if it holds of each node,
records_each : (P : Node → Type 0) (Q : NodeRecord → Type 0) → ((x : Node) (d : ℕ) → P x → Q (node_record x d))
    → (all : List Node) (i : ℕ) (xs : List Node) → Each P xs → Each Q (node_records_from all i xs)
unfolding node_records_from
records_each P Q w all i [] h = tt
records_each P Q w all i (x ∷ xs) h = (w x (in_degree all i) h.0, records_each P Q w all (suc i) xs h.1)

-- and the other way round;
nodes_each : (P : Node → Type 0) (Q : NodeRecord → Type 0) → ((x : Node) (d : ℕ) → Q (node_record x d) → P x)
    → (all : List Node) (i : ℕ) (xs : List Node) → Each Q (node_records_from all i xs) → Each P xs
unfolding node_records_from
nodes_each P Q w all i [] h = tt
nodes_each P Q w all i (x ∷ xs) h = (w x (in_degree all i) h.0, nodes_each P Q w all (suc i) xs h.1)

-- with its number, too
numbered_each : (P : ℕ × Node → Type 0) (Q : ℕ × NodeRecord → Type 0) → ((n : ℕ) (x : Node) (d : ℕ) → P (n, x) → Q (n, node_record x d))
    → (all : List Node) (i m : ℕ) (xs : List Node) → Each P (numbered m xs) → Each Q (numbered m (node_records_from all i xs))
unfolding node_records_from numbered
numbered_each P Q w all i m [] h = tt
numbered_each P Q w all i m (x ∷ xs) h = (w (suc m) x (in_degree all i) h.0, numbered_each P Q w all (suc i) (suc m) xs h.1)

-- the record of a number is that of the node of this number
record_of_law : (all : List Node) (m : ℕ) (xs : List Node) (c : ℕ) (x : Node) → record_no xs c ≡ some x → record_no (node_records_from all (suc m) xs) c ≡ some (node_record x (in_degree all (m + c)))
unfolding record_no node_records_from
record_of_law all m xs zero x e = absurd (not_there x e)
record_of_law all m [] (suc c) x e = absurd (not_there x e)
record_of_law all m (y ∷ xs) (suc zero) x e = let q : y ≡ x = cc in let z : m + 1 ≡ suc m = omega arith in rw (q, z)
record_of_law all m (y ∷ xs) (suc (suc c)) x e = let z : m + suc (suc c) ≡ suc m + suc c = omega arith in rw z (record_of_law all (suc m) xs (suc c) x e)

-- with the in-degree of its number
node_record_law : (xs : List Node) (c : ℕ) (x : Node) → record_no xs c ≡ some x → record_no (node_records_from xs 1 xs) c ≡ some (node_record x (in_degree xs c))
node_record_law xs c x e = rw (zero-add c) at (record_of_law xs 0 xs c x e)

-- what stands in a list has a number
in_record : {A : Type 0} (a : A) (xs : List A) → In a xs → (c : ℕ) × (record_no xs (suc c) ≡ some a)
unfolding record_no
in_record a [] i = absurd i
in_record a (x ∷ xs) (inl e) = (0, ap some e)
in_record a (x ∷ xs) (inr i) = let r = in_record a xs i in (suc r.0, r.1)

-- ---- kinds by their numbers

-- only missing has its number
number_missing : (k : node.Kind) → node.number k ≡ node.number node.missing → k ≡ node.missing
number_missing node.missing e = refl
number_missing node.noexpr e = absurd (omega arith)
number_missing node.ref e = absurd (omega arith)
number_missing (node.part k) e = absurd (omega (arith, e, part_number_law k))

-- ---- the records of names

-- what holds of each name's record by the name's number
names_each : (P : NameRecord → Type 0) (ls : List Line) (st : ℕ → Status) (m : ℕ) (xs : List Token)
    → ((n : ℕ) (x : Token) → suc m ≤ n → n ≤ m + length xs → P (name_record ls (node_no (st n)) x)) → Each P (name_records_from ls st (suc m) xs)
unfolding name_records_from
names_each P ls st m [] w = tt
names_each P ls st m (x ∷ xs) w = (w (suc m) x (omega arith) (omega arith), names_each P ls st (suc m) xs (λ n y a b. w n y (omega arith) (omega arith)))

-- ---- the theorems

module _ (source jets : List ℕ) (c : Contents) (e : reading source jets ≡ read c) where
  abbrev was : WasRead source jets c
  was = was_read source jets c e

  abbrev ls : List Line
  ls = lines_read source jets c

  -- its nodes and names are those of the walk
  nodes_are : c.nodes ≡ node_records_from (nodes_of ls) 1 (nodes_of ls)
  unfolding contents node_records
  nodes_are = ap (λ (d : Contents). d.nodes) was.held

  names_are : c.names ≡ name_records_from ls (walked ls).status 1 (names_of ls)
  unfolding contents name_records
  names_are = ap (λ (d : Contents). d.names) was.held

  -- TWO JUDGES AGREE
  pub judges_agree : JudgesAgree source jets c
  judges_agree =
      let agree = walk.no_missing_iff_sound ls in
      rw nodes_are (
        λ h. agree.0 (nodes_each (λ (x : Node). x.kind ≢ node.missing) (λ (x : NodeRecord). x.kind.0 ≢ node.number node.missing) (λ x d k q. k (ap node.number q)) (nodes_of ls) 1 (nodes_of ls) h),
        λ s. records_each (λ (x : Node). x.kind ≢ node.missing) (λ (x : NodeRecord). x.kind.0 ≢ node.number node.missing) (λ x d k q. k (number_missing x.kind q)) (nodes_of ls) 1 (nodes_of ls) (agree.1 s),
      )

  -- CHILDREN STAND BEFORE PARENTS
  pub children_before : ChildrenBefore source jets c
  children_before = rw nodes_are (numbered_each demand.Later (λ ((n, x) : ℕ × NodeRecord). (x.left.0 < n) × (x.right.0 < n)) (λ n x d k. k) (nodes_of ls) 1 0 (nodes_of ls) (walk.children_before_parents ls))

  -- A MISSING NODE IS A REFERENCE, TO A NAME THAT HAS NO LEGAL LINE OR LIES ON A LOOP
  pub missing_on_loops : MissingOnLoops source jets c
  missing_on_loops =
      subst (λ (xs : List NodeRecord). Each OnLoopIf xs) (sym nodes_are)
      (records_each (λ (x : Node). x.kind ≡ node.missing → demand.OnLoop ls x) OnLoopIf (λ x d k q. on (k (number_missing x.kind q))) (nodes_of ls) 1 (nodes_of ls) (walk.missing_on_loops ls))
    where
      OnLoopIf : NodeRecord → Type 0
      OnLoopIf x = x.kind.0 ≡ node.number node.missing → OnLoop source jets c x

      on : {x : Node} {d : ℕ} → demand.OnLoop ls x → OnLoop source jets c (node_record x d)
      on o = record { holder = o.holder; used = o.used; reference = o.reference; span = o.span; loop = o.loop }

  -- NO ROOT IS LOST
  pub no_root_lost : NoRootLost source jets c
  no_root_lost = subst (λ (xs : List NameRecord). Each Kept xs) (sym names_are) (names_each Kept ls (walked ls).status 0 (names_of ls) (λ n x a b. kept n x (omega arith, omega arith)))
    where
      Kept : NameRecord → Type 0
      Kept n = (is_root c.nodes n ≡ true) ⊎ Referred source jets c n

      there : (i : ℕ) (x : Node) → record_no (nodes_of ls) i ≡ some x → record_no c.nodes i ≡ some (node_record x (in_degree (nodes_of ls) i))
      there i x q = rw nodes_are (node_record_law (nodes_of ls) i x q)

      kept : (n : ℕ) (x : Token) → Legal (length (names_of ls)) n → Kept (name_record ls (node_no ((walked ls).status n)) x)
      kept n x l = let r = none_lost ls n l in let s = name_shown ls n l r.0 r.1 in rw r.1 (by r.0 (s.0, s.1) r.2)
        where
          by : (i : ℕ) → ((y : Node) × (record_no (nodes_of ls) i ≡ some y)) → (in_degree (nodes_of ls) i ≡ 0) ⊎ ((y : Node) × In y (nodes_of ls) × (y.kind ≡ node.ref) × (y.left ≡ i)) → Kept (name_record ls i x)
          by i (y, at) (inl z) = inl (unfold is_root name_record in rw (there i y at, z))
          by i shown (inr (y, j, k, l)) =
              let r = in_record y (nodes_of ls) j in
              inr (record { number = suc r.0; parent = _; there = there (suc r.0) y r.1; kind = ap node.number k; child = unfold name_record in l })

  -- NO TABLE HAS MORE RECORDS THAN THERE ARE TOKENS
  pub few : Few source jets c
  few =
      let ts = (lexing source).tokens in
      let a = records_fit (checks_of jets) ts was.rest ls was.parsed in
      let b = resolved_fit (checks_of jets) ts ls was.rest was.parsed in
      let n = ap counts_of_contents was.held ∙ counts_held ts ls in
      let all : length c.tokens ≡ length ts = ap (λ (k : ReadCounts). k.parsed.tokens) n in
      record {
        lines = omega (arith, all, a, line_records_law ls 0 0, ap (λ (k : ReadCounts). k.parsed.lines) n);
        exprs = omega (arith, all, a, ap (λ (k : ReadCounts). k.parsed.exprs) n);
        types = omega (arith, all, a, ap (λ (k : ReadCounts). k.parsed.types) n);
        names = omega (arith, all, b, ap (λ (k : ReadCounts). k.names) n);
        nodes = omega (arith, all, b, ap (λ (k : ReadCounts). k.nodes) n);
        errors = omega (arith, all, b, ap (λ (k : ReadCounts). k.errors) n);
      }
