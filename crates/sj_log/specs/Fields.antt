-- The words of a line of a log, and numbers and ends among them: what a word stands for, or which rule it breaks.
use Rattle.std.specs.Prelude.{ℕ, ◌+◌, ◌-◌, ◌^◌, Bool, true, false, not, ◌==◌, ◌&&◌, ◌||◌, nat_lt, nat_le, if◌then◌else◌, ℤ, pos, negsuc, List, [], ◌∷◌, length, drop, codes, Option, Some, None, Result, Ok, Err, ⊤}
use Rattle.std.specs.List.{list_all, before_first, after_first}
use Rattle.std.specs.Str.{bytes_eq}
use Rattle.std.specs.Str.Parse.{digits_value}
use Rattle.sj_base.specs.declared.EndId.{EndId}
pub use Rattle.sj_fields.specs.Fields.{words_in, words_left, words_text, word, rest}
use Rattle.sj_grammar.specs.Bytes.{is_digit, begins_with}
use Rattle.sj_grammar.specs.Lexis.{has_leading_zero}
use Rattle.sj_rules.specs.Limits.{clock_end}
use Rattle.sj_log.specs.declared.refusal.LogRule.{LogRule}
use Rattle.sj_log.specs.declared.refusal.LogRule.TheVariants.{L1, L2, L3, L4}

-- of the rules that one line breaks, the one with the least rank is reported
abbrev pub rank : LogRule → ℕ
rank L1 = 0
rank L3 = 1
rank L2 = 2
rank L4 = 3

abbrev pub first_of : LogRule → LogRule → LogRule
first_of r s = if nat_le (rank r) (rank s) then r else s

-- both values, or the rule that is reported
unfoldable pub both : {A B : Type 0} → Result A LogRule → Result B LogRule → Result (A × B) LogRule
both (Ok a) (Ok b) = Ok (a, b)
both (Ok a) (Err s) = Err s
both (Err r) (Ok b) = Err r
both (Err r) (Err s) = Err (first_of r s)

-- what is made of a value
abbrev pub made : {A B : Type 0} → (A → B) → Result A LogRule → Result B LogRule
made f (Ok a) = Ok (f a)
made f (Err r) = Err r

-- the next word is read by the one, and the words after it by the other
abbrev pub next : {A B : Type 0} → (List ℕ → Result A LogRule) → (List (List ℕ) → Result B LogRule) → List (List ℕ) → Result (A × B) LogRule
next f g ws = both (f (word ws)) (g (rest ws))

-- no word is left
abbrev pub ended : List (List ℕ) → Result ⊤ LogRule
ended ws = if length ws == 0 then Ok tt else Err L1

-- counts have 32 bits
abbrev pub last_count : ℕ
last_count = 2 ^ 32 - 1

-- integers have 64 bits and a sign
abbrev pub last_int : ℕ
last_int = 2 ^ 63 - 1

-- digits are a number; one without needless zeros, within the bounds
unfoldable pub number_read : (least most : ℕ) → List ℕ → Result ℕ LogRule
number_read least most ds =
    if not (nat_lt 0 (length ds) && list_all is_digit ds) then Err L1
    else (if has_leading_zero ds || (nat_lt (digits_value 10 ds) least || nat_lt most (digits_value 10 ds)) then Err L3
    else Ok (digits_value 10 ds))

-- a count, a number of a message, a session or a connection
unfoldable pub count_read : List ℕ → Result ℕ LogRule
count_read w = number_read 0 last_count w

-- when it happened
unfoldable pub clock_read : List ℕ → Result ℕ LogRule
clock_read w = number_read 1 clock_end w

-- 64 bits, with a minus before a negative number
unfoldable pub int_read : List ℕ → Result ℤ LogRule
int_read w =
    if begins_with 45 w then made (λ n. negsuc (n - 1)) (number_read 1 (last_int + 1) (drop 1 w))
    else made (λ n. pos n) (number_read 0 last_int w)

-- session, dot and side
unfoldable pub end_read : List ℕ → Result EndId LogRule
end_read w =
    made (λ x. record { sess = x.0; side = x.1 })
    (both (count_read (before_first (λ b. b == 46) w)) (number_read 0 1 (after_first (λ b. b == 46) w)))

-- from which message on is resent, or `-` where nothing is
unfoldable pub resend_read : List ℕ → Result (Option ℕ) LogRule
resend_read w = if bytes_eq w (codes "-") then Ok None else made (λ n. Some n) (count_read w)

unfoldable pub bool_read : List ℕ → Result Bool LogRule
bool_read w = if bytes_eq w (codes "true") then Ok true else (if bytes_eq w (codes "false") then Ok false else Err L1)
