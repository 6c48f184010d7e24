-- What a `recv` awaits: as tokens, and where a text is stuck in it.
use Rattle.std.proofs.Common.{◌≡◌, ℕ, Bool, true, false, List, [], ◌∷◌, refl}
use Rattle.std.specs.Prelude.{codes}
use Rattle.std.specs.Str.{bytes_eq}
use Rattle.sj_lang.specs.declared.file.Names.{Names}
use Rattle.sj_lang.specs.declared.party.Scalar.{Scalar}
use Rattle.sj_lang.specs.declared.party.Scalar.TheVariants as scalars
use Rattle.sj_grammar.specs.declared.tokens.Fault.{Fault}
use Rattle.sj_grammar.specs.declared.refusal.ParseRefusal.{ParseRefusal}
use Rattle.sj_grammar.specs.declared.refusal.ParseRefusal.TheVariants as refusals
use Rattle.sj_lang.specs.Limits.{limits}
use Rattle.sj_grammar.specs.Lexis.{next_of}
use Rattle.sj_grammar.specs.Reading.{Reading}
use Rattle.sj_grammar.specs.Names.{is_name, is_reserved}
use Rattle.sj_grammar.specs.Positions.{At, Takes}
use Rattle.sj_grammar.specs.Layers.{step}
use Rattle.sj_grammar.specs.FileDues.{Due, name, fixed, awaited, semicolon, file_layer}
use Rattle.sj_grammar.specs.Statements.{scalar_piece}
use Rattle.sj_grammar.specs.Asked.{TakesText, Refuses, but, is_next}
use Rattle.sj_grammar.proofs.StucknessLemmas.{stuck_cons, stuck_like, refuses_stuck}
use Rattle.sj_proto.specs.Parsed.{standing, Stops}
use Rattle.sj_proto.proofs.ExitLemmas.{plain, stops_map, no_name_int, no_name_boolean, no_name_String, next_tests}
use Rattle.sj_proto.proofs.NamedPieceLemmas.{fixed_rule}
use Rattle.sj_party.specs.declared.parts.Awaited.{Awaited}
use Rattle.sj_party.specs.declared.parts.Awaited.TheVariants as awaits
use Rattle.sj_party.specs.Parts.{a_name, a_piece, ReadsParts, ReadsDeed}
use Rattle.sj_party.specs.Awaits.{awaited_part, take_deed}
use Rattle.sj_party.proofs.PartLemmas.{parts_behind}

pub no_name_session : is_name (codes "session") ≡ false
unfolding is_reserved
no_name_session = refl

pub took_scalar : (k : Scalar) (r q : Reading) (names : Names) → TakesText r (scalar_piece k) q → Takes (standing r names) (scalar_piece k) (standing q names)
took_scalar scalars.Int r q names t = plain r q names (codes "int") no_name_int refl t
took_scalar scalars.Boolean r q names t = plain r q names (codes "boolean") no_name_boolean refl t
took_scalar scalars.Text r q names t = plain r q names (codes "String") no_name_String refl t

-- what is no kind of value is to be `session`
awaited_same : (n : ℕ) (ds : List Due) (s : List ℕ) → bytes_eq s (codes "int") ≡ false → bytes_eq s (codes "boolean") ≡ false → bytes_eq s (codes "String") ≡ false
    → step file_layer limits n (awaited ∷ ds) s ≡ step file_layer limits n (fixed (codes "session") ∷ name ∷ ds) s
awaited_same n ds s no_int no_boolean no_string = by_test (bytes_eq s (codes "session")) refl
  where
    by_test : (x : Bool) → bytes_eq s (codes "session") ≡ x → step file_layer limits n (awaited ∷ ds) s ≡ step file_layer limits n (fixed (codes "session") ∷ name ∷ ds) s
    by_test true e = rw (no_int, no_boolean, no_string, e) refl
    by_test false e = rw (no_int, no_boolean, no_string, e) refl

module _ (r : Reading) (names : Names) (no_int : is_next (codes "int") (next_of r.ahead) ≡ false) (no_boolean : is_next (codes "boolean") (next_of r.ahead) ≡ false) (no_string : is_next (codes "String") (next_of r.ahead) ≡ false) where
  pub awaited_stops : (f : Fault) → Refuses (but (codes "session")) r f → (n : ℕ) → Stops (λ ds. awaited ∷ ds) n (standing r names) (refusals.At f)
  awaited_stops f h n = λ ds.
      stuck_like file_layer limits n n (standing r names) (fixed (codes "session") ∷ name ∷ ds) (awaited ∷ ds) f refl
      (λ what s rest e. awaited_same n ds s (next_tests _ (codes "int") what s rest no_int e) (next_tests _ (codes "boolean") what s rest no_boolean e) (next_tests _ (codes "String") what s rest no_string e))
      (refuses_stuck file_layer limits (but (codes "session")) n (standing r names) (fixed (codes "session") ∷ name ∷ ds) f refl (fixed_rule (codes "session") n (name ∷ ds) refl) h)

-- after `session`
pub session_stops : (a m : At) (e : ParseRefusal) → Takes a (codes "session") m → ((n : ℕ) → Stops (λ ds. name ∷ ds) n m e) → (n : ℕ) → Stops (λ ds. awaited ∷ ds) n a e
session_stops a m e t st n =
    stops_map (λ ds. name ∷ ds) (λ ds. awaited ∷ ds) n n m a e (λ f h ds. stuck_cons file_layer limits n n a m (codes "session") (awaited ∷ ds) (name ∷ ds) f t refl (h ds)) (st n)

-- after what is awaited
pub awaited_stops_behind : (x : Awaited) (a m : At) (e : ParseRefusal) → ReadsParts a m (awaited_part x ∷ []) → ((n : ℕ) → Stops (λ ds. semicolon ∷ ds) n m e) → (n : ℕ) → Stops (λ ds. awaited ∷ semicolon ∷ ds) n a e
awaited_stops_behind x a m refusals.NoMemory r st n = tt
awaited_stops_behind (awaits.Value k) a m (refusals.At f) r st n = λ ds. parts_behind (awaited_part (awaits.Value k) ∷ []) a m (semicolon ∷ ds) f r (λ j. st j ds) n
awaited_stops_behind (awaits.End p) a m (refusals.At f) r st n = λ ds. parts_behind (awaited_part (awaits.End p) ∷ []) a m (semicolon ∷ ds) f r (λ j. st j ds) n

pub taken_deed : (o x y : ℕ) (what : Awaited) (a b : At) → ReadsParts a b (a_name x ∷ a_name y ∷ awaited_part what ∷ a_piece (codes ";") ∷ []) → ReadsDeed (codes "recv") o a b (take_deed x y what)
taken_deed o x y (awaits.Value k) a b r = record { first = refl; parts = r }
taken_deed o x y (awaits.End p) a b r = record { first = refl; parts = r }
