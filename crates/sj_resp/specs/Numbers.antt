-- Numbers in canonical decimals.
use Rattle.std.specs.Prelude.{ℕ, ◌+◌, ◌-◌, not, ◌&&◌, ◌||◌, nat_lt, if◌then◌else◌, ℤ, pos, negsuc, List, length, drop, Option, Some, None, option_map}
use Rattle.std.specs.List.{list_all}
use Rattle.std.specs.Str.Parse.{digits_value}
use Rattle.sj_grammar.specs.Bytes.{is_digit, begins_with}
use Rattle.sj_grammar.specs.Lexis.{has_leading_zero}
use Rattle.sj_resp.specs.Bytes.{minus}
use Rattle.sj_resp.specs.Limits.{last_int}

-- the number that digits without a leading zero write, where it is within the bounds
unfoldable pub number_in : (least most : ℕ) → List ℕ → Option ℕ
number_in least most ds =
    if not (nat_lt 0 (length ds) && list_all is_digit ds) then None
    else (if has_leading_zero ds || (nat_lt (digits_value 10 ds) least || nat_lt most (digits_value 10 ds)) then None
    else Some (digits_value 10 ds))

-- the same, with a minus before a negative number
unfoldable pub int_in : List ℕ → Option ℤ
int_in word =
    if begins_with minus word then option_map (λ n. negsuc (n - 1)) (number_in 1 (last_int + 1) (drop 1 word))
    else option_map pos (number_in 0 last_int word)
