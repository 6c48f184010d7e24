-- The node's play is a play of the file.
use Rattle.std.proofs.Common.{◌≡◌, ℕ, Bool, true, false, ◌&&◌, Option, Some, None, length, refl, ap, arith, inl, inr}
use Rattle.std.specs.Prelude.{nat_lt, unwrap_or}
use Rattle.std.proofs.lemmas.Bool.{lt-ltb}
use Rattle.std.proofs.lemmas.Bool.Decides.{nat_tests}
use Rattle.sj_base.specs.declared.Msg.{Msg}
use Rattle.sj_base.specs.declared.Msg.TheVariants as msgs
use Rattle.sj_lang.specs.Place.{Place}
use Rattle.sj_lang.specs.FileAt.{FileAt, body_named}
use Rattle.sj_semantics.specs.declared.Want.{Want}
use Rattle.sj_semantics.specs.declared.Want.TheVariants as wants
use Rattle.sj_semantics.specs.declared.Awaits.{Awaits}
use Rattle.sj_semantics.specs.declared.Awaits.TheVariants as awaits
use Rattle.sj_semantics.specs.Wants.{want_of}
use Rattle.sj_semantics.specs.Fitting.{fits}
use Rattle.sj_rules.specs.Node as rules
use Rattle.sj_rules.specs.Party.{want_or_ended, place_awaited}
use Rattle.sj_rules.specs.Binding.{IsSession, NamesKnown}
use Rattle.sj_rules.specs.Plays.{IsPlayOf}
use Rattle.sj_node.proofs.PlayLemmas.{same_goes}
use Rattle.sj_node.specs.Play.{awaited_place, is_number, want_with, names_known, play_with}

-- a test that is passed beside another
and_true : (b c : Bool) → c ≡ true → (b && c) ≡ b
and_true true c h = h
and_true false c h = refl

first_known : (connects parties s : ℕ) → IsSession parties connects s → is_number connects parties s ≡ true
first_known connects parties s (inl low) = rw (lt-ltb s connects low) refl
first_known connects parties s (inr high) = grind (arith, nat_tests, high.0, high.1)

-- what is there is known
known_names : (connects parties : ℕ) (m : Msg) → NamesKnown parties connects m → names_known connects parties m ≡ true
known_names connects parties (msgs.Sess s d k) known =
    let number : is_number connects parties s ≡ true = first_known connects parties s known.0 in
    let side : nat_lt d 2 ≡ true = lt-ltb d 2 known.1 in
    let keeper : nat_lt k parties ≡ true = lt-ltb k parties known.2 in
    rw (number, side, keeper) refl
known_names connects parties (msgs.Int i) known = refl
known_names connects parties (msgs.Bool b) known = refl
known_names connects parties (msgs.Text i) known = refl
known_names connects parties (msgs.Label i) known = refl
known_names connects parties (msgs.More b) known = refl

module _ (file : FileAt) (starts : ℕ → Place) (named : (q : ℕ) → starts q ≡ body_named file.protocols q) where
  awaits_same : (a : Awaits) → awaited_place starts a ≡ place_awaited file.protocols a
  awaits_same (awaits.Session q) = named q
  awaits_same (awaits.Value k) = refl
  awaits_same awaits.OneOf = refl
  awaits_same awaits.MoreOrStop = refl

  wants_same : (o : Option Want) → want_with starts (unwrap_or o wants.Ended) ≡ want_or_ended file.protocols o
  wants_same None = refl
  wants_same (Some wants.Local) = refl
  wants_same (Some (wants.Send e m)) = refl
  wants_same (Some (wants.Delegate e y)) = refl
  wants_same (Some (wants.Take e a)) = ap (rules.takes e) (awaits_same a)
  wants_same (Some (wants.Close e)) = refl
  wants_same (Some (wants.Request p to)) = ap (λ place. rules.requests place to) (named p)
  wants_same (Some (wants.Accept p from)) = ap (λ place. rules.accepts place from) (named p)
  wants_same (Some wants.Ended) = refl

  -- where its starts are the bodies of the protocols
  pub is_play_of : IsPlayOf file (play_with starts (length file.connects) (length file.parties))
  is_play_of = record {
    next = λ place way m. refl;
    over = λ p. refl;
    wants = λ g. wants_same (want_of g);
    goes = same_goes;
    blank = refl;
    opened = λ g e. refl;
    parties = refl;
    worn = λ g. refl;
    fits = λ g m known. and_true (fits g m) (names_known (length file.connects) (length file.parties) m) (known_names (length file.connects) (length file.parties) m known);
  }
