-- Examples of types, of refusals and of records, by computing from the text of a source. Assumes nothing.
use Prim.Native.Nat.{ℕ}
use Prim.Native.String.{String}
use mathlib.Core.Bool.{false}
use mathlib.Core.Path.{◌≡◌, refl}
use mathlib.Core.List.{List, [], ◌∷◌, ◌++◌, map}
use mathlib.Core.Option.{Option, none, some}
use lib.ListN.{length, replicate}
use Rattle.records.specs.Base.{bytes}
use Rattle.records.specs.Limits.{depth_limit}
use Rattle.records.specs.Records.{line_words, expr_words, type_words}
use Rattle.records.specs.TokenKind as token
use Rattle.records.specs.NodeKind as node
use Rattle.records.specs.TypeKind as kind
use Rattle.classes.specs.Classes.{starts, run}
use Rattle.matches.specs.Longest.{match_len, best, lex_at}
use Rattle.lex.specs.Tokens.{Token, lex_from, lexing}
use Rattle.checks.specs.declared.Fault.{Fault}
use Rattle.checks.specs.declared.Fault.TheVariants.{ParseFailed, BadWordLength, EntropyInsufficient, UnknownJet, Bad2ExpNumber, NumberOutOfRange, TooDeep}
use Rattle.literals.specs.Literals.{bit_length}
use Rattle.checks.specs.Powers.{log2, number_from}
use Rattle.checks.specs.Jets.{pieces, same, is_one_of, known}
use Rattle.checks.specs.Checks.{word_verdict, fail_verdict, jet_verdict, power_verdict, Checks, checks_of}
use Rattle.grammar.specs.Tree as tree
use Rattle.grammar.specs.Tree.{Ty, present, Line}
use Rattle.grammar.specs.Rule.{Parsed, got, stop, go_on, one_of, entry, choice, perhaps, repeat_for, repeat}
use Rattle.grammar.specs.Grammar.{operand, chain, type_head, atom_by, atom, type, arrow, head, cmr, expr_by, expr, perhaps_arrow, line, another, lines}
use Rattle.grammar.specs.Part.{part_of, weight}
use Rattle.grammar.specs.Recorded.{type_weight, expr_records, type_records, line_record, line_records, line_types, lines_exprs, lines_types}
use Rattle.grammar.proofs.Next.{of_kind}

-- where `opened` unfolds, all of these compute
unfoldable pub opened : ℕ
unfolding starts run match_len best lex_at lex_from bit_length log2 number_from pieces same is_one_of known word_verdict fail_verdict jet_verdict power_verdict present go_on one_of entry choice perhaps repeat_for repeat operand chain type_head atom_by atom type arrow head cmr expr_by expr perhaps_arrow line another lines part_of weight type_weight expr_records type_records line_record line_records line_types lines_exprs lines_types
opened = 0

-- document 01's tests, with two jets
abbrev checks : Checks
checks = checks_of (bytes "add_32\nlow_1")

abbrev tokens_of : String → List Token
tokens_of s = (lexing (bytes s)).tokens

-- ---- types

abbrev type_of : String → Parsed Ty
type_of s = type checks depth_limit (tokens_of s)

-- one rank, grouped to the left
pub left_first : type_of "1+2*2" ≡ got (tree.op tree.product (tree.op tree.sum tree.one tree.two) tree.two) []
unfolding opened
left_first = refl

pub grouped : type_of "1+(2*2^1)" ≡ got (tree.op tree.sum tree.one (tree.op tree.product tree.two tree.two)) []
unfolding opened
grouped = refl

pub powers : type_of "2^2*2^512" ≡ got (tree.op tree.product (tree.power 1) (tree.power 9)) []
unfolding opened
powers = refl

-- an absent operand, and the types built before it
pub absent_whole : type_of "1+_" ≡ got (tree.op tree.sum tree.one tree.absent) []
unfolding opened
absent_whole = refl

pub absent_operand : present (tree.op tree.sum tree.one tree.absent) ≡ false
unfolding opened
absent_operand = refl

pub absent_records : map type_words (type_records (tree.op tree.sum tree.one tree.absent) 0) ≡ (kind.number kind.one ∷ 0 ∷ 0 ∷ 0 ∷ []) ∷ []
unfolding opened
absent_records = refl

-- so many parentheses around a token
abbrev nested : (depth : ℕ) → Token → List Token
nested n t = replicate n (of_kind token.lparen) ++ (t ∷ replicate n (of_kind token.rparen))

-- what was refused, and how many tokens are left then, the refused one among them
abbrev refusal_of : {A : Type 0} → Parsed A → Option (Fault × ℕ)
refusal_of (got a ts) = none
refusal_of (stop x ts) = some (x, length ts)

pub type_depth : map (λ n. refusal_of (type checks depth_limit (nested n (of_kind token.one)))) (127 ∷ 128 ∷ []) ≡ none ∷ some (TooDeep, 129) ∷ []
unfolding opened
type_depth = refl

pub expr_depth : map (λ n. refusal_of (expr checks depth_limit (nested n (of_kind token.unit)))) (127 ∷ 128 ∷ []) ≡ none ∷ some (TooDeep, 129) ∷ []
unfolding opened
expr_depth = refl

-- ---- refusals

-- a source, what is refused, and how many tokens are left then
pub record Refusal : Type 0 where
  pub source : String
  pub fault : Fault
  pub left : ℕ

abbrev refuses : String → Fault → ℕ → Refusal
refuses s x n = record { source = s; fault = x; left = n }

abbrev pub refusals : List Refusal
refusals =
    refuses "a" ParseFailed 0
    ∷ refuses "a := " ParseFailed 0
    ∷ refuses "a := pair b c := unit" ParseFailed 2
    ∷ refuses "a : 1" ParseFailed 0
    ∷ refuses "a : 1 -> 2^3 b := unit" (Bad2ExpNumber 3) 4
    ∷ refuses "a : 1 -> 2^4294967296" NumberOutOfRange 1
    ∷ refuses "a := const 0b101" (BadWordLength 3) 1
    ∷ refuses "a := const _" (BadWordLength 0) 1
    ∷ refuses "a := fail 0x00" (EntropyInsufficient 8) 1
    ∷ refuses "a := jet_sub_32" UnknownJet 1
    ∷ refuses "a := assertl unit unit" ParseFailed 1
    ∷ []

pub refusals_hold : map (λ (r : Refusal). refusal_of (lines checks (tokens_of r.source))) refusals ≡ map (λ (r : Refusal). some (r.fault, r.left)) refusals
unfolding opened
refusals_hold = refl

-- ---- records

-- the records of the lines of a source, as words: lines, expressions, types
abbrev records_of : Parsed (List Line) → List (List (List ℕ))
records_of (got ls ts) = map line_words (line_records ls 0 0) ∷ map expr_words (lines_exprs ls 0) ∷ map type_words (lines_types ls 0) ∷ []
records_of (stop x ts) = []

abbrev part : node.PartKind → ℕ
part k = node.part_number k

pub plain_records :
    records_of (lines checks (tokens_of "main := pair a iden a := unit"))
    ≡ ((0 ∷ 4 ∷ 3 ∷ 0 ∷ 0 ∷ []) ∷ (20 ∷ 1 ∷ 4 ∷ 0 ∷ 0 ∷ []) ∷ [])
    ∷ ((node.number node.ref ∷ 13 ∷ 0 ∷ 0 ∷ 13 ∷ 1 ∷ []) ∷ (part node.iden ∷ 15 ∷ 0 ∷ 0 ∷ 0 ∷ 0 ∷ []) ∷ (part node.pair ∷ 8 ∷ 1 ∷ 2 ∷ 0 ∷ 0 ∷ []) ∷ (part node.unit ∷ 25 ∷ 0 ∷ 0 ∷ 0 ∷ 0 ∷ []) ∷ [])
    ∷ []
    ∷ []
unfolding opened
plain_records = refl

pub typed_records :
    records_of (lines checks (tokens_of "a := assertr #{b} unit : 1 -> _"))
    ≡ ((0 ∷ 1 ∷ 3 ∷ 1 ∷ 0 ∷ []) ∷ [])
    ∷ ((node.number node.ref ∷ 15 ∷ 0 ∷ 0 ∷ 15 ∷ 1 ∷ []) ∷ (part node.unit ∷ 18 ∷ 0 ∷ 0 ∷ 0 ∷ 0 ∷ []) ∷ (part node.assertr ∷ 5 ∷ 1 ∷ 2 ∷ 0 ∷ 0 ∷ []) ∷ [])
    ∷ ((kind.number kind.one ∷ 0 ∷ 0 ∷ 0 ∷ []) ∷ [])
    ∷ []
unfolding opened
typed_records = refl
