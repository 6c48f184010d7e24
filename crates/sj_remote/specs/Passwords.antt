-- The command that gives a password.
use Rattle.std.specs.Prelude.{ℕ, List, [], ◌∷◌, codes, Option, Some, None}

-- the password of that user, or of the usual one
abbrev pub auth_words : (user : Option (List ℕ)) → (password : List ℕ) → List (List ℕ)
auth_words None password = codes "AUTH" ∷ password ∷ []
auth_words (Some user) password = codes "AUTH" ∷ user ∷ password ∷ []
