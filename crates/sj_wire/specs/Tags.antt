-- The bytes before the values of messages.
use Rattle.std.specs.Prelude.{ℕ}

-- a number
abbrev pub int_tag : ℕ
int_tag = 0

-- yes or no
abbrev pub bool_tag : ℕ
bool_tag = 1

-- a text literal
abbrev pub text_tag : ℕ
text_tag = 2

-- a label
abbrev pub label_tag : ℕ
label_tag = 3

-- one more turn of a loop, or stop
abbrev pub more_tag : ℕ
more_tag = 4

-- an end
abbrev pub sess_tag : ℕ
sess_tag = 5
