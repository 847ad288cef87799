-- Document 01, Sizes.
use Rattle.std.specs.Prelude.{ℕ}
use Rattle.records.specs.declared.limits.Limits.{Limits}

-- bytes of a source
abbrev pub source_limit : ℕ
source_limit = 32768

-- tokens, and records of every table
abbrev pub record_limit : ℕ
record_limit = 1024

-- depth of an expression and of a type
abbrev pub depth_limit : ℕ
depth_limit = 128

-- words per record
abbrev pub token_width : ℕ
token_width = 3

abbrev pub line_width : ℕ
line_width = 5

abbrev pub expr_width : ℕ
expr_width = 6

abbrev pub type_width : ℕ
type_width = 4

abbrev pub name_width : ℕ
name_width = 4

abbrev pub node_width : ℕ
node_width = 8

abbrev pub error_width : ℕ
error_width = 4

abbrev pub work_width : ℕ
work_width = 4

-- all of them, as they are handed out
abbrev pub limits : Limits
limits =
    record {
      source_bytes = source_limit;
      records = record_limit;
      depth = depth_limit;
      token_words = token_width;
      line_words = line_width;
      expression_words = expr_width;
      type_words = type_width;
      name_words = name_width;
      node_words = node_width;
      error_words = error_width;
      work_words = work_width;
    }
