-- How many bytes the result of an operation has at most. Assumes nothing: these are definitions.
use Rattle.std.specs.Prelude.{ℕ, ◌+◌, ◌*◌}
use Rattle.model.specs.Limits.{most_rows}
use Rattle.projection.specs.Most.{row_most}

-- a row's object after a comma, and all of them
abbrev pub picked_most : ℕ
picked_most = 1 + row_most

abbrev pub rows_most : ℕ
rows_most = most_rows * picked_most

-- any result: that of a select is the longest, {"rows":[..]}, and this is above it
abbrev pub result_most : ℕ
result_most = 200000
