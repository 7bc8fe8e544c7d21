-- The first two lines of the report of an accepted record, in the words of the calls.
--
--   FirstLines b n   the report of the bytes b begins with the first line and then the line of row 0:
--     text           the whole text, `rest` behind these two lines; the field `patch` is n
--     row            row 0 is the placing surface
--     circuits       the field `circuits` has the number that the call `circuits::count` gives
--     sides          the field `border` that of the call `shots::border`: as many as the two chains of the outline have pairs of neighbours
--     area           the field `area2` is the sum of the sizes of what the call `shots::orientation` gives, over the triples of row 0
--
-- Theorem: proofs/Promises (`report_begins`: so it is where the call `read_patch` gives n). Source: document 01, "The square with its centre"; document 02, E1, E5, E6.
use Rattle.std.specs.Prelude.{◌≡◌, ℕ, ◌+◌, ◌-◌, List, ◌++◌, length}
use Rattle.algebra.specs.Answer.{gives}
use Rattle.shots.specs.Calls.{border_call_of}
use Rattle.outline.specs.Wrapping.{south_of, north_of}
use Rattle.circuits.specs.Calls.{count_call_of}
use Rattle.surfaces.specs.Areas.{SumOfSizes}
use Rattle.surfaces.specs.Calls.{placing_of}
use Rattle.records.specs.Reading.{coordinates_of}
use Rattle.text.specs.Lines.{patch_line, row_line}
use Rattle.report.specs.Report.{report_of}

pub record FirstLines (b : List ℕ) (n : ℕ) : Type 0 where
  pub row : List ℕ
  pub circuits : ℕ
  pub sides : ℕ
  pub area : ℕ
  pub rest : List ℕ
  pub text : report_of b ≡ patch_line n circuits sides area ++ (row_line n 0 row ++ rest)
  pub row_is : placing_of (coordinates_of b) ≡ gives row
  pub circuits_is : count_call_of (coordinates_of b) ≡ gives circuits
  pub sides_is : border_call_of (coordinates_of b) ≡ gives sides
  pub sides-along : (length (south_of (coordinates_of b)) - 1) + (length (north_of (coordinates_of b)) - 1) ≡ sides
  pub area_is : SumOfSizes (coordinates_of b) row area
