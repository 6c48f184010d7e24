-- How many items a protocol has, inner ones counted, and whether it has none.
use Rattle.std.specs.Prelude.{ℕ, ◌+◌, Bool, true, false}
use Rattle.sj_lang.specs.Place.{Place, Carried, Choices, done, message, choice, repeat, int, boolean, text, session, no_choice, arm}

abbrev mutual
  pub item_count : Place → ℕ
  item_count done = 0
  item_count (message w k rest) = 1 + kind_items k + item_count rest
  item_count (choice w arms rest) = 1 + arm_items arms + item_count rest
  item_count (repeat w body rest) = 1 + item_count body + item_count rest

  -- those in what a message carries
  pub kind_items : Carried → ℕ
  kind_items int = 0
  kind_items boolean = 0
  kind_items text = 0
  kind_items (session p) = item_count p

  -- those in the arms of a choice
  pub arm_items : Choices → ℕ
  arm_items no_choice = 0
  arm_items (arm label p arms) = item_count p + arm_items arms

-- nothing is ahead
abbrev pub is_done : Place → Bool
is_done done = true
is_done (message w k rest) = false
is_done (choice w arms rest) = false
is_done (repeat w body rest) = false
