-- Arms that are named alike.
use Rattle.std.specs.Prelude.{◌≡◌, ℕ, ◌<◌, ◌≤◌, List, length, slice_index_or}
use Rattle.sj_lang.specs.declared.proto.Arm.{Arm}

-- the first n arms have the labels of those
abbrev pub AlikeTo : ℕ → List Arm → List Arm → Type 0
AlikeTo n arms labels = (n ≤ length arms) × ((k : ℕ) (d : Arm) → k < n → (slice_index_or arms k d).label ≡ (slice_index_or labels k d).label)
