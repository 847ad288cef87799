-- Document 01, Listing: what the program prints for a source and a jet list.
use Rattle.std.specs.Prelude.{ℕ, List, ltb, length, if◌then◌else◌, None, Option, Some}
use Rattle.records.specs.Base.{bytes}
use Rattle.reader.specs.Reading.{reading}
use Rattle.listing.specs.Listing.{listing}

-- bytes of a jet list; only the program has this limit
abbrev pub jets_limit : ℕ
jets_limit = 65536

abbrev pub refused_jets : List ℕ
refused_jets = bytes "refused jets\n"

-- the listing; for a jet list over 65,536 bytes only `refused jets`
unfoldable pub sheet : (source jets : List ℕ) → List ℕ
sheet source jets = if ltb jets_limit (length jets) then refused_jets else listing source (reading source jets)

-- how many bytes an answer says were written
abbrev pub bytes_of : Option ℕ → ℕ
bytes_of (Some n) = n
bytes_of None = 0
