-- Private: only contracts inside this crate cite this.
-- The rows of the table as the code holds them.
use Rattle.std.specs.Prelude.{ℕ, ℤ, List, Bool, ◌&&◌, ◌==◌, length}
use Rattle.std.specs.Borrow.{Bor}
use Rattle.std.specs.List.{list_all}
use Rattle.unit_signatures.specs.Table.{Row}
use Rattle.unit_signatures.specs.Units.{is_exponent}

-- a row of the code
abbrev pub HeldRow : Type 0
HeldRow = Bor (List ℕ) × ℤ × List ℤ

abbrev pub row_of : HeldRow → Row
row_of row = (row.0.now, row.1, row.2)

-- its exponents are those of a unit
abbrev pub has_unit : HeldRow → Bool
has_unit row = (length row.2 == 8) && list_all is_exponent row.2
