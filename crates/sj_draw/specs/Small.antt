-- Sizes that stay far below the last number of a u64.
use Rattle.std.specs.Prelude.{ℕ, ◌≤◌}
use Rattle.sj_draw.specs.declared.layout.Layout.{Layout}

-- bytes of a picture, but for its style and its lines
abbrev pub most_of_chart : ℕ
most_of_chart = 10000

-- bytes of a picture for each line of what is drawn
abbrev pub most_of_line : ℕ
most_of_line = 10440

-- a layout's sizes, where names, texts and arrows are within their limits
abbrev pub most_base : ℕ
most_base = 4120

abbrev pub most_width : ℕ
most_width = 200000

abbrev pub least_height : ℕ
least_height = 100

abbrev pub most_height : ℕ
most_height = 30000000

-- where a party's line stands, and where an arrow ends
abbrev pub most_x : ℕ
most_x = 150000

abbrev pub most_tip : ℕ
most_tip = 160000

pub record IsSmall (l : Layout) : Type 0 where
  pub base : l.base ≤ most_base
  pub width : l.width ≤ most_width
  pub height_low : least_height ≤ l.height
  pub height : l.height ≤ most_height
