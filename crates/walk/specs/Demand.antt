-- Demand 3, for the nodes of any lines: what the theorems of proofs/Demand.antt say.
use Rattle.std.specs.Prelude.{ℕ, ◌<◌, ◌≡◌, ◌≢◌, List}
use Rattle.records.specs.NodeKind as node
use Rattle.lex.specs.Tokens.{Token}
use Rattle.grammar.specs.Tree.{Line}
use Rattle.grammar.specs.Part.{span_of}
use Rattle.grammar.specs.Places.{Each, numbered}
use Rattle.symbols.specs.Symbols.{Text}
use Rattle.names.specs.Uses.{HasLine, HasReference, Loop}
use Rattle.walk.specs.Walk.{Node}
use Rattle.walk.specs.Nodes.{nodes_of}

-- children stand before parents: a child's number is smaller, and 0 is none
abbrev pub Later : ℕ × Node → Type 0
Later (n, x) = (x.left < n) × (x.right < n)

module _ (lines : List Line) where
  abbrev pub NoMissing : Type 0
  NoMissing = Each (λ (x : Node). x.kind ≢ node.missing) (nodes_of lines)

  abbrev pub ChildrenBefore : Type 0
  ChildrenBefore = Each Later (numbered 0 (nodes_of lines))

  -- The node is the reference `used` in the first expression of the name `holder`; and if the name used has a legal line, the two
  -- lie on a loop of uses.
  pub record OnLoop (x : Node) : Type 0 where
    pub holder : Text
    pub used : Token
    pub reference : HasReference lines holder used
    pub span : x.head.span ≡ span_of used
    pub loop : HasLine lines used.text → Loop lines holder used.text

  abbrev pub MissingOnLoops : Type 0
  MissingOnLoops = Each (λ (x : Node). x.kind ≡ node.missing → OnLoop x) (nodes_of lines)
