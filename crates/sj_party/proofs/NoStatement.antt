-- Where no statement begins.
use Rattle.std.proofs.Common.{◌≡◌, ℕ, false, List, None, refl}
use Rattle.std.specs.Prelude.{codes}
use Rattle.std.specs.Str.{bytes_eq}
use Rattle.sj_grammar.specs.FileDues.{statement_follow}
use Rattle.sj_party.specs.Words.{NoneOf, simple_words}

pub no_statement : (s : List ℕ) → NoneOf simple_words s → bytes_eq s (codes "inbranch") ≡ false → bytes_eq s (codes "outwhile") ≡ false → bytes_eq s (codes "inwhile") ≡ false → bytes_eq s (codes "relay") ≡ false → bytes_eq s (codes "if") ≡ false
    → (o : ℕ) → statement_follow o s ≡ None
unfolding statement_follow
no_statement s none a b c d e o = rw (none.0, none.1.0, none.1.1.0, none.1.1.1.0, none.1.1.1.1.0, none.1.1.1.1.1.0, none.1.1.1.1.1.1.0, none.1.1.1.1.1.1.1.0, a, b, c, d, e) refl
