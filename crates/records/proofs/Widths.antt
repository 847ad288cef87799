-- A record's words are as many as its width says. Assumes nothing.
use mathlib.Core.Path.{◌≡◌, refl}
use lib.ListN.{length}
use Rattle.records.specs.declared.TokenRecord.{TokenRecord}
use Rattle.records.specs.declared.LineRecord.{LineRecord}
use Rattle.records.specs.declared.ExprRecord.{ExprRecord}
use Rattle.records.specs.declared.TypeRecord.{TypeRecord}
use Rattle.records.specs.declared.NameRecord.{NameRecord}
use Rattle.records.specs.declared.NodeRecord.{NodeRecord}
use Rattle.records.specs.declared.ErrorRecord.{ErrorRecord}
use Rattle.records.specs.Limits.{token_width, line_width, expr_width, type_width, name_width, node_width, error_width}
use Rattle.records.specs.Records.{token_words, line_words, expr_words, type_words, name_words, node_words, error_words}

pub token_width_law : (t : TokenRecord) → length (token_words t) ≡ token_width
token_width_law t = refl

pub line_width_law : (l : LineRecord) → length (line_words l) ≡ line_width
line_width_law l = refl

pub expr_width_law : (e : ExprRecord) → length (expr_words e) ≡ expr_width
expr_width_law e = refl

pub type_width_law : (t : TypeRecord) → length (type_words t) ≡ type_width
type_width_law t = refl

pub name_width_law : (n : NameRecord) → length (name_words n) ≡ name_width
name_width_law n = refl

pub node_width_law : (n : NodeRecord) → length (node_words n) ≡ node_width
node_width_law n = refl

pub error_width_law : (e : ErrorRecord) → length (error_words e) ≡ error_width
error_width_law e = refl
