-- What holds of the records of any source and jet list that are read without refusal. proofs/Demands.antt has the theorems.
use Rattle.std.specs.Prelude.{ℕ, ◌<◌, ◌≤◌, ◌≡◌, true, ◌≢◌, ◌⊎◌, ◌↔◌, List, length}
use Rattle.std.proofs.Math.Option.{some}
use Rattle.records.specs.NodeKind as node
use Rattle.records.specs.declared.NameRecord.{NameRecord}
use Rattle.records.specs.declared.NodeRecord.{NodeRecord}
use Rattle.lex.specs.Tokens.{Token}
use Rattle.grammar.specs.Tree.{Line}
use Rattle.grammar.specs.Part.{span_of}
use Rattle.grammar.specs.Places.{Each, numbered}
use Rattle.ast.specs.Parsing.{parsing, lines_in}
use Rattle.symbols.specs.Symbols.{Text}
use Rattle.names.specs.Uses.{HasLine, HasReference, Loop, Sound}
use Rattle.walk.specs.Trees.{record_no}
use Rattle.access.specs.Roots.{is_root}
use Rattle.reader.specs.Reading.{Contents}

module _ (source jets : List ℕ) (c : Contents) where
  -- the lines that were read
  abbrev pub lines_read : List Line
  lines_read = lines_in (parsing source jets)

  -- ---- demand 3

  abbrev pub NoMissing : Type 0
  NoMissing = Each (λ (x : NodeRecord). x.kind.0 ≢ node.number node.missing) c.nodes

  -- two judges agree: there is no missing node exactly if the file is sound
  abbrev pub JudgesAgree : Type 0
  JudgesAgree = NoMissing ↔ Sound lines_read

  -- children stand before parents; 0 is none
  abbrev pub ChildrenBefore : Type 0
  ChildrenBefore = Each (λ ((n, x) : ℕ × NodeRecord). (x.left.0 < n) × (x.right.0 < n)) (numbered 0 c.nodes)

  -- The node is the reference `used` in the first expression of the name `holder`; and if the name used has a legal line, the two
  -- lie on a loop of uses.
  pub record OnLoop (x : NodeRecord) : Type 0 where
    pub holder : Text
    pub used : Token
    pub reference : HasReference lines_read holder used
    pub span : x.span ≡ span_of used
    pub loop : HasLine lines_read used.text → Loop lines_read holder used.text

  abbrev pub MissingOnLoops : Type 0
  MissingOnLoops = Each (λ (x : NodeRecord). x.kind.0 ≡ node.number node.missing → OnLoop x) c.nodes

  -- ---- no root is lost

  -- a reference node has the name's node as its child
  pub record Referred (n : NameRecord) : Type 0 where
    pub number : ℕ
    pub parent : NodeRecord
    pub there : record_no c.nodes number ≡ some parent
    pub kind : parent.kind.0 ≡ node.number node.ref
    pub child : parent.left.0 ≡ n.node.0

  -- every name is a root or is referred to
  abbrev pub NoRootLost : Type 0
  NoRootLost = Each (λ (n : NameRecord). (is_root c.nodes n ≡ true) ⊎ Referred n) c.names

  -- ---- no other table can fill before that of tokens

  pub record Few : Type 0 where
    pub lines : length c.lines ≤ length c.tokens
    pub exprs : length c.exprs ≤ length c.tokens
    pub types : length c.types ≤ length c.tokens
    pub names : length c.names ≤ length c.tokens
    pub nodes : length c.nodes ≤ length c.tokens
    pub errors : length c.errors ≤ length c.tokens
