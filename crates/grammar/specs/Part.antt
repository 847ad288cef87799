-- Document 01: an expression as a tree of parts, each with a left and a right child or none. Its records, its uses and its
-- nodes are defined on the parts: each part gives one record and one node.
use Rattle.std.specs.Prelude.{ℕ, suc, ◌+◌}
use Rattle.std.proofs.Math.Option.{Option, none as no, some}
use Rattle.records.specs.NodeKind as node
use Rattle.records.specs.NodeKind.{PartKind}
use Rattle.records.specs.Records.{no_span}
use Rattle.records.specs.declared.Span.{Span}
use Rattle.lex.specs.Tokens.{Token, record_of}
use Rattle.grammar.specs.Tree as tree
use Rattle.grammar.specs.Tree.{Nullary, Unary, Binary, Expr, Cmr}

-- an absent child; a part by its kind, its place and its span; a reference, by its name
pub data Part : Type 0 where
  none : Part
  part : PartKind → (at : ℕ) → Span → (left right : Part) → Part
  refer : (name : Token) → Part

abbrev pub nullary_kind : Nullary → PartKind
nullary_kind tree.unit = node.unit
nullary_kind tree.iden = node.iden
nullary_kind tree.witness = node.witness

abbrev pub unary_kind : Unary → PartKind
unary_kind tree.injl = node.injl
unary_kind tree.injr = node.injr
unary_kind tree.take = node.take
unary_kind tree.drop = node.drop

abbrev pub binary_kind : Binary → PartKind
binary_kind tree.disconnect = node.disconnect
binary_kind tree.case = node.case
binary_kind tree.comp = node.comp
binary_kind tree.pair = node.pair

-- A span is the literal, literal CMR, jet token, name used or hole's name; otherwise 0, 0.
abbrev pub span_of : Token → Span
span_of t = (record_of t).span

abbrev pub cmr_span : Cmr → Span
cmr_span (tree.inside e) = no_span
cmr_span (tree.literal t) = span_of t

-- Place of an expression: its keyword; the name for `?name`; the literal for `const`; the symbol for a reference. The CMR
-- expression is the right child of `assertl` and the left of `assertr`, and a literal leaves that side none. Any other lone
-- child is the left one.
unfoldable mutual
  pub part_of : Expr → Part
  part_of (tree.nullary k at) = part (nullary_kind k) at no_span none none
  part_of (tree.unary k at e) = part (unary_kind k) at no_span (part_of e) none
  part_of (tree.binary k at l r) = part (binary_kind k) at no_span (part_of l) (part_of r)
  part_of (tree.assertl at e c) = part node.assertl at (cmr_span c) (part_of e) (cmr_part c)
  part_of (tree.assertr at c e) = part node.assertr at (cmr_span c) (cmr_part c) (part_of e)
  part_of (tree.hole x) = part node.hole x.start (span_of x) none none
  part_of (tree.const l) = part node.word l.start (span_of l) none none
  part_of (tree.fail at l) = part node.fail at (span_of l) none none
  part_of (tree.jet t) = part node.jet t.start (span_of t) none none
  part_of (tree.ref x) = refer x

  pub cmr_part : Cmr → Part
  cmr_part (tree.inside e) = part_of e
  cmr_part (tree.literal t) = none

-- the part of an expression that may not stand there
abbrev pub part_if : Option Expr → Part
part_if no = none
part_if (some e) = part_of e

-- how many parts: each has one record and one node
unfoldable pub weight : Part → ℕ
weight none = 0
weight (part k at s l r) = suc (weight l + weight r)
weight (refer x) = 1
