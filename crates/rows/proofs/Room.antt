-- How long the rows can be: no row of a refusal and no listing of what a source holds goes past `listing_limit`.
use Rattle.std.specs.Prelude.{if◌then◌else◌}
use Prim.Native.Nat.{ℕ, zero, suc, ◌+◌, ◌*◌, ◌^◌, ◌/◌, ◌%◌, ◌≤◌, ◌<◌}
use Prim.Native.String.{String}
use mathlib.Core.Path.{◌≡◌}
use mathlib.Core.Bool.{Bool, true, false, ◌&&◌}
use mathlib.Core.List.{List, [], ◌∷◌, ◌++◌, map, foldl}
use native.Mathlib.Omega.{arith}
use native.Mathlib.Nat.{div-lt_iff_lt-mul}
use lib.Dec.{ltb, leb, eqb}
use lib.ListN.{length, take, length-append, length-take}
use borrow.Author.Tests.{lt-ltb}
use Rattle.records.specs.Base.{bytes}
use Rattle.records.specs.Limits.{source_limit, record_limit}
use Rattle.records.specs.declared.refusals.Refusal.{Refusal}
use Rattle.records.specs.declared.NameRecord.{NameRecord}
use Rattle.records.specs.declared.NodeRecord.{NodeRecord}
use Rattle.records.specs.declared.ErrorRecord.{ErrorRecord}
use Rattle.text.specs.declared.Position.{Position}
use Rattle.text.specs.Place.{begins_char, pass, position_of}
use Rattle.literals.specs.Literals.{span_text}
use Rattle.grammar.specs.Places.{Each}
use Rattle.walk.specs.Trees.{record_no}
use Rattle.walk.specs.Stands.{sum}
use Rattle.walk.proofs.Count.{sum_one}
use Rattle.access.specs.Roots.{is_root, roots}
use Rattle.print.specs.Text.{digits, decimal, printed_row, place_word, listing_limit}
use Rattle.rows.specs.Rows.{word_if, node_word, error_word, head_row, name_word, unless_zero, node_row, node_rows, root_row, root_rows, error_row, error_rows, refused_place, refused_row, name_in, listed}

-- ---- digits

-- with room for one digit more there is at most one digit more
digits_more : (room n : ℕ) → length (digits (suc room) n) ≤ 1 + length (digits room (n / 10))
unfolding digits
digits_more f n = go (ltb n 10)
  where
    more : List ℕ
    more = digits f (n / 10) ++ ((48 + n % 10) ∷ [])

    go : (b : Bool) → length (if b then (48 + n) ∷ [] else more) ≤ 1 + length (digits f (n / 10))
    go true = omega arith
    go false = omega (arith, length-append (digits f (n / 10)) ((48 + n % 10) ∷ []))

-- a number below 10 has one digit
digits_one : (room n : ℕ) → n < 10 → length (digits room n) ≤ 1
unfolding digits
digits_one zero n h = omega arith
digits_one (suc f) n h = rw (lt-ltb n 10 h) (omega arith)

-- there are no more digits than room for them
digits_room : (room n : ℕ) → length (digits room n) ≤ room
unfolding digits
digits_room zero n = omega arith
digits_room (suc f) n = omega (arith, digits_more f n, digits_room f (n / 10))

-- a number below 10 to the k has no more than k digits, if k is not 0
pub digits_few : (room k n : ℕ) → n < 10 ^ suc k → length (digits room n) ≤ suc k
digits_few zero k n h = omega (arith, digits_room 0 n)
digits_few (suc f) zero n h = digits_one (suc f) n (omega (arith, h))
digits_few (suc f) (suc k) n h = omega (arith, digits_more f n, digits_few f k (n / 10) ((div-lt_iff_lt-mul (omega arith)).1 (omega (arith, h))))

-- record numbers have at most 4 digits, lines and columns 5
pub decimal_few : (k n : ℕ) → n < 10 ^ suc k → length (decimal n) ≤ suc k
unfolding decimal
decimal_few k n h = digits_few 20 k n h

-- no number prints longer than the room that `decimal` has
pub decimal_fits : (n : ℕ) → length (decimal n) ≤ 20
unfolding decimal
decimal_fits n = digits_room 20 n

-- ---- places

-- line and column are at most m
abbrev Upto : (m : ℕ) → Position → Type 0
Upto m p = (p.line ≤ m) × (p.column ≤ m)

-- a byte adds at most one to each
pass_upto : (m : ℕ) (p : Position) (b : ℕ) → Upto m p → Upto (suc m) (pass p b)
unfolding pass
pass_upto m p b h = go (eqb b 10) (begins_char b)
  where
    go : (newline begins : Bool) → Upto (suc m) (if newline then record { line = p.line + 1; column = 1 } else if begins then record { line = p.line; column = p.column + 1 } else p)
    go true begins = omega (arith, h)
    go false true = omega (arith, h)
    go false false = omega (arith, h)

-- so bytes add at most as many as they are
passes_upto : (m : ℕ) (p : Position) (bs : List ℕ) → Upto m p → Upto (m + length bs) (foldl pass p bs)
passes_upto m p [] h = omega (arith, h)
passes_upto m p (b ∷ bs) h = let later = passes_upto (suc m) (pass p b) bs (pass_upto m p b h) in omega (arith, later)

-- line and column are at most one more than the source is long
pub place_upto : (source : List ℕ) (offset : ℕ) → Upto (length source + 1) (position_of source offset)
unfolding position_of
place_upto source offset =
    let h = passes_upto 1 (record { line = 1; column = 1 }) (take offset source) (omega arith) in
    omega (arith, h, length-take offset source)

-- a place is two numbers and a colon
place_length : (p : Position) → length (place_word p) ≡ length (decimal p.line) + 1 + length (decimal p.column)
unfolding place_word
place_length p = omega (arith, length-append (decimal p.line ++ bytes ":") (decimal p.column), length-append (decimal p.line) (bytes ":"))

-- a place in a source that is not over the limit
pub place_few : (source : List ℕ) (offset : ℕ) → length source ≤ source_limit → length (place_word (position_of source offset)) ≤ 11
place_few source offset h =
    let p : Position = position_of source offset in
    let u = place_upto source offset in
    omega (arith, place_length p, decimal_few 4 p.line (omega (arith, h, u)), decimal_few 4 p.column (omega (arith, h, u)))

-- any place
place_fits : (p : Position) → length (place_word p) ≤ 41
place_fits p = omega (arith, place_length p, decimal_fits p.line, decimal_fits p.column)

-- ---- kinds

-- if none of these words is longer than m, neither is the one by its number
word_few : (m : ℕ) (ws : List String) (k : ℕ) → Each (λ (w : String). length (bytes w) ≤ m) ws → length (word_if (record_no ws k)) ≤ m
unfolding record_no
word_few m ws zero h = omega arith
word_few m [] (suc k) h = omega arith
word_few m (w ∷ ws) (suc zero) h = h.0
word_few m (w ∷ ws) (suc (suc k)) h = word_few m ws (suc k) h.1

-- the longest is `disconnect`
pub node_word_few : (kind : ℕ) → length (node_word kind) ≤ 10
unfolding node_word
node_word_few k = word_few 10 _ k (omega arith)

-- the longest is `incomplete`
pub error_word_few : (kind : ℕ) → length (error_word kind) ≤ 10
unfolding error_word
error_word_few k = word_few 10 _ k (omega arith)

-- ---- rows

-- behind each word stands a space or LF
row_length : (w : List ℕ) (ws : List (List ℕ)) → length (printed_row (w ∷ ws)) ≡ sum (map (λ (v : List ℕ). length v + 1) (w ∷ ws))
unfolding printed_row sum
row_length w [] = omega (arith, length-append w (bytes "\n"))
row_length w (v ∷ ws) = omega (arith, length-append (w ++ bytes " ") (printed_row (v ∷ ws)), length-append w (bytes " "), row_length v ws)

-- a word of at most 6 bytes and a count of records
head_few : (w : String) (n : ℕ) → length (bytes w) ≤ 6 → n ≤ record_limit → length (head_row w n) ≤ 12
unfolding head_row sum
head_few w n h few = omega (arith, row_length (bytes w) (decimal n ∷ []), h, decimal_few 3 n (omega (arith, few)))

-- ---- a refusal

-- the place of a refusal, end of source too
refused_place_law : (source : List ℕ) (r : Refusal) → length (refused_place source r) ≤ 41
unfolding refused_place
refused_place_law source r = go (leb 6 r.no && eqb r.place (length source))
  where
    go : (b : Bool) → length (if b then bytes "0:0" else place_word (position_of source r.place)) ≤ 41
    go true = omega arith
    go false = place_fits (position_of source r.place)

-- the number behind it, if there is one
unless_zero_law : (v : ℕ) → sum (map (λ (w : List ℕ). length w + 1) (unless_zero v)) ≤ 21
unfolding unless_zero sum
unless_zero_law zero = omega arith
unless_zero_law (suc v) = omega (arith, decimal_fits (suc v))

-- NO ROW OF A REFUSAL IS TOO LONG
pub refused_fits : (source : List ℕ) (r : Refusal) → length (refused_row source r) ≤ listing_limit
unfolding refused_row sum
refused_fits source r =
    omega (
      arith,
      row_length (bytes "refused") (decimal r.no ∷ refused_place source r ∷ unless_zero r.value),
      decimal_fits r.no,
      refused_place_law source r,
      unless_zero_law r.value,
    )

-- ---- roots are among the names

-- whatever names weigh, the roots weigh no more
pub roots_weigh : (f : NameRecord → ℕ) (ns : List NameRecord) (xs : List NodeRecord) → sum (map f (roots ns xs)) ≤ sum (map f ns)
unfolding roots sum
roots_weigh f [] xs = omega arith
roots_weigh f (n ∷ ns) xs = go (is_root xs n) (roots_weigh f ns xs)
  where
    go : (b : Bool) → sum (map f (roots ns xs)) ≤ sum (map f ns) → sum (map f (if b then n ∷ roots ns xs else roots ns xs)) ≤ f n + sum (map f ns)
    go true h = omega (arith, h)
    go false h = omega (arith, h)

-- there are no more roots than names
pub roots_few : (ns : List NameRecord) (xs : List NodeRecord) → length (roots ns xs) ≤ length ns
roots_few ns xs = omega (arith, roots_weigh (λ n. 1) ns xs, sum_one (roots ns xs), sum_one ns)

-- ---- a listing

-- a child's number is that of a record or 0
abbrev pub ChildrenFew : NodeRecord → Type 0
ChildrenFew x = (x.left.0 ≤ record_limit) × (x.right.0 ≤ record_limit)

-- What bounds a listing: few records, and the texts of the names, of the named nodes and of the errors are each no longer than the
-- source.
pub record Bounded (source : List ℕ) (ns : List NameRecord) (xs : List NodeRecord) (es : List ErrorRecord) : Type 0 where
  pub short : length source ≤ source_limit
  pub names : length ns ≤ record_limit
  pub nodes : length xs ≤ record_limit
  pub errors : length es ≤ record_limit
  pub children : Each ChildrenFew xs
  pub name_texts : sum (map (λ (n : NameRecord). length (span_text source n.span)) ns) ≤ length source
  pub node_texts : sum (map (λ (x : NodeRecord). length (name_in source ns x.name.0)) xs) ≤ length source
  pub error_texts : sum (map (λ (e : ErrorRecord). length (span_text source e.name)) es) ≤ length source

-- a name or `-`
name_few : (source : List ℕ) (ns : List NameRecord) (n : ℕ) → length (name_word (name_in source ns) n) ≤ 1 + length (name_in source ns n)
unfolding name_word
name_few source ns zero = omega arith
name_few source ns (suc n) = omega arith

module _ (source : List ℕ) (short : length source ≤ source_limit) where
  -- 4 bytes for a number, 10 for a kind, 1 for `-`, 11 for a place, 4 for each child, and 6 between and behind
  node_rows_few : (ns : List NameRecord) (i : ℕ) (xs : List NodeRecord) → i + length xs < 10000 → Each ChildrenFew xs
      → length (node_rows source (name_in source ns) i xs) ≤ 40 * length xs + sum (map (λ (x : NodeRecord). length (name_in source ns x.name.0)) xs)
  unfolding node_rows node_row sum
  node_rows_few ns i [] few c = omega arith
  node_rows_few ns i (x ∷ xs) few c =
      let place : List ℕ = place_word (position_of source x.start.0) in
      omega (
        arith,
        length-append (node_row source (name_in source ns) i x) (node_rows source (name_in source ns) (suc i) xs),
        row_length (decimal i) (node_word x.kind.0 ∷ name_word (name_in source ns) x.name.0 ∷ place ∷ decimal x.left.0 ∷ decimal x.right.0 ∷ []),
        decimal_few 3 i (omega (arith, few)),
        node_word_few x.kind.0,
        name_few source ns x.name.0,
        place_few source x.start.0 short,
        decimal_few 3 x.left.0 (omega (arith, c.0.0)),
        decimal_few 3 x.right.0 (omega (arith, c.0.1)),
        node_rows_few ns (suc i) xs (omega (arith, few)) c.1,
      )

  -- 10 bytes for a kind, 11 for a place, and 3 between and behind
  error_rows_few : (es : List ErrorRecord) → length (error_rows source es) ≤ 24 * length es + sum (map (λ (e : ErrorRecord). length (span_text source e.name)) es)
  unfolding error_rows error_row sum
  error_rows_few [] = omega arith
  error_rows_few (e ∷ es) =
      let place : List ℕ = place_word (position_of source e.start.0) in
      omega (
        arith,
        length-append (error_row source e) (error_rows source es),
        row_length (error_word e.kind.0) (place ∷ span_text source e.name ∷ []),
        error_word_few e.kind.0,
        place_few source e.start.0 short,
        error_rows_few es,
      )

-- a root's row is its name and LF
root_rows_few : (source : List ℕ) (ns : List NameRecord) → length (root_rows source ns) ≤ length ns + sum (map (λ (n : NameRecord). length (span_text source n.span)) ns)
unfolding root_rows root_row sum
root_rows_few source [] = omega arith
root_rows_few source (n ∷ ns) = omega (arith, length-append (root_row source n) (root_rows source ns), row_length (span_text source n.span) [], root_rows_few source ns)

-- NO LISTING IS TOO LONG
pub listed_fits : (source : List ℕ) (ns : List NameRecord) (xs : List NodeRecord) (es : List ErrorRecord) → Bounded source ns xs es → length (listed source ns xs es) ≤ listing_limit
unfolding listed
listed_fits source ns xs es h =
    let rs : List NameRecord = roots ns xs in
    let few : length rs ≤ length ns = roots_few ns xs in
    let nodes_head : List ℕ = head_row "nodes" (length xs) in
    let nodes_below : List ℕ = node_rows source (name_in source ns) 1 xs in
    let roots_head : List ℕ = head_row "roots" (length rs) in
    let roots_below : List ℕ = root_rows source rs in
    let errors_head : List ℕ = head_row "errors" (length es) in
    let errors_below : List ℕ = error_rows source es in
    omega (
      arith,
      h,
      length-append nodes_head nodes_below,
      length-append (nodes_head ++ nodes_below) roots_head,
      length-append (nodes_head ++ nodes_below ++ roots_head) roots_below,
      length-append (nodes_head ++ nodes_below ++ roots_head ++ roots_below) errors_head,
      length-append (nodes_head ++ nodes_below ++ roots_head ++ roots_below ++ errors_head) errors_below,
      head_few "nodes" (length xs) (omega arith) h.nodes,
      head_few "roots" (length rs) (omega arith) (omega (arith, few, h.names)),
      head_few "errors" (length es) (omega arith) h.errors,
      node_rows_few source h.short ns 1 xs (omega (arith, h.nodes)) h.children,
      root_rows_few source rs,
      roots_weigh (λ (n : NameRecord). length (span_text source n.span)) ns xs,
      error_rows_few source h.short es,
    )
