-- In an accepted file the ends of connections meet, and so do requests and accepts.
use Rattle.std.specs.List.{All}
use Rattle.std.proofs.lemmas.Bool.{cases_Bool, eqb-true}
use Rattle.std.proofs.Common.{◌≡◌, ℕ, zero, suc, ◌+◌, ◌==◌, Bool, cond, List, [], ◌∷◌, map, slice_get, Option, Some, None, option_map, unwrap_or, refl, ap, sym, ◌∙◌, arith, subst, inl, inr}
use Rattle.std.proofs.lemmas.Option.{slice_get-map, slice_get_within, get_or_from_slice_get}
use Rattle.sj_lang.specs.Place.{Place, done}
use Rattle.sj_lang.specs.Meet.{Meets}
use Rattle.sj_lang.specs.FileAt.{FileAt, PartyAt, ConnectAt, body_named, party_names, number_of_name}
use Rattle.sj_acceptance.specs.Accepted.{IsConnection, OpeningsMeet, IsAccepted}
use Rattle.sj_semantics.specs.World.{fresh, session_of, start_of}
use Rattle.sj_semantics.specs.Ends.{Session, end_on, nowhere}
use Rattle.sj_headline_laws.proofs.LeadLemmas.{Pair}
use Rattle.sj_headline_laws.proofs.BeginPairLemmas.{pair_unused}
use Rattle.sj_headline_laws.proofs.TouchedLemmas.{PairAt}
use Rattle.sj_headline_laws.proofs.WorldLemmas.{OpeningsAgree}

-- ---- elements

pub element_at : {X : Type 0} (P : X → Type 0) (xs : List X) (k : ℕ) (x : X) → All P xs → slice_get xs k ≡ Some x → P x
element_at P xs k x all h = subst P (get_or_from_slice_get xs k x x h) (all k x (slice_get_within xs k x h))

-- the name under which a party's number stands is the party's
name_at : (qs : List PartyAt) (p n : ℕ) (q : PartyAt) → slice_get qs p ≡ Some q → number_of_name (party_names qs) n ≡ p → n ≡ q.name
name_at [] p n q h e = cc
name_at (r ∷ qs) p n q h e =
    elim (cases_Bool (r.name == n)) [
      | inl hit ↦
          let first : 0 ≡ p = sym (ap (λ (b : Bool). cond b 0 (1 + number_of_name (party_names qs) n)) hit) ∙ e in
          let it : r ≡ q = (let both : Some r ≡ Some q = ap (slice_get (r ∷ qs)) first ∙ h in cc) in
          sym (eqb-true r.name n hit) ∙ ap (λ (t : PartyAt). t.name) it
      | inr miss ↦ name_behind (λ k at e. name_at qs k n q at e) p h (sym (ap (λ (b : Bool). cond b 0 (1 + number_of_name (party_names qs) n)) miss) ∙ e)
    ]
  where
    name_behind : ((j : ℕ) → slice_get qs j ≡ Some q → number_of_name (party_names qs) n ≡ j → n ≡ q.name) → (k : ℕ) → slice_get (r ∷ qs) k ≡ Some q → 1 + number_of_name (party_names qs) n ≡ k → n ≡ q.name
    name_behind on zero at number = absurd (omega (arith, number))
    name_behind on (suc k) at number = on k at (omega (arith, number))

-- requests and accepts of two parties meet
pub openings_agree : (file : FileAt) → IsAccepted file → OpeningsAgree file
openings_agree file accepted a b n m x y asks to takes from =
    let one : All (λ d. OpeningsMeet file asks.0 d) file.parties = element_at (λ c. All (λ d. OpeningsMeet file c d) file.parties) file.parties a asks.0 accepted.openings asks.1 in
    let two : OpeningsMeet file asks.0 takes.0 = element_at (λ d. OpeningsMeet file asks.0 d) file.parties b takes.0 one takes.1 in
    let meet = two.meet asks.2 takes.2 asks.3 takes.3 (asks.5 ∙ name_at file.parties b x takes.0 takes.1 to) (takes.5 ∙ name_at file.parties a y asks.0 asks.1 from) in
    subst (λ (k : ℕ). Meets (body_named file.protocols k) (body_named file.protocols m)) asks.4 (subst (λ (k : ℕ). Meets (body_named file.protocols asks.2.protocol) (body_named file.protocols k)) takes.4 meet)

-- ---- the start

nowhere_pair : (zs : List Session) → Pair zs nowhere nowhere
nowhere_pair zs = pair_unused zs nowhere nowhere refl refl refl refl tt

pair_by : (zs : List Session) (file : FileAt) (s : ℕ) (o : Option ConnectAt) → slice_get (map (session_of file) file.connects) s ≡ option_map (session_of file) o
    → ((c : ConnectAt) → o ≡ Some c → Meets (body_named file.protocols c.first.protocol) (body_named file.protocols c.second.protocol)) → PairAt zs (map (session_of file) file.connects) s
pair_by zs file s None h meet = subst (λ (o : Option Session). Pair zs (unwrap_or (option_map (end_on 0) o) nowhere) (unwrap_or (option_map (end_on 1) o) nowhere)) (sym h) (nowhere_pair zs)
pair_by zs file s (Some c) h meet =
    subst (λ (o : Option Session). Pair zs (unwrap_or (option_map (end_on 0) o) nowhere) (unwrap_or (option_map (end_on 1) o) nowhere)) (sym h)
    (pair_unused zs (fresh (body_named file.protocols c.first.protocol)) (fresh (body_named file.protocols c.second.protocol)) refl refl refl refl (meet c refl))

connects_meet : (file : FileAt) (s : ℕ) (c : ConnectAt) → IsAccepted file → slice_get file.connects s ≡ Some c → Meets (body_named file.protocols c.first.protocol) (body_named file.protocols c.second.protocol)
connects_meet file s c accepted h =
    let at = element_at (IsConnection file) file.connects s c accepted.connections h in
    subst (λ (q : Place). Meets (body_named file.protocols c.first.protocol) q) (ap (λ o. unwrap_or o done) (sym at.second.protocol))
    (subst (λ (q : Place). Meets q at.other) (ap (λ o. unwrap_or o done) (sym at.first.protocol)) at.meet)

pub start_pairs : (file : FileAt) → IsAccepted file → (s : ℕ) → PairAt (start_of file).sessions (start_of file).sessions s
start_pairs file accepted s = pair_by (start_of file).sessions file s (slice_get file.connects s) (slice_get-map (session_of file) file.connects s) (λ c h. connects_meet file s c accepted h)
