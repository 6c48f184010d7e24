-- How a talk begins.
use Rattle.std.proofs.Common.{◌≡◌, ◌≢◌, ℕ, zero, suc, ◌+◌, ◌<◌, List, [], ◌∷◌, length, map, get_or, slice_get, slice_index_or, Option, Some, None, option_map, Result, Ok, Err, IfOk, All, AllPairs, refl, ap, sym, ◌∙◌, subst, arith}
use Rattle.std.specs.List.{Contains}
use Rattle.std.proofs.Math.ListN.{set}
use Rattle.std.proofs.lemmas.List.{length-map, length-set}
use Rattle.std.proofs.lemmas.Option.{slice_get-map}
use Rattle.sj_lang.specs.Code.{no_stmt}
use Rattle.sj_lang.specs.FileAt.{FileAt, PartyAt, party_names}
use Rattle.sj_acceptance.specs.Accepted.{EndsWell, IsAccepted, OpeningsMeet, start_env}
use Rattle.sj_semantics.proofs.StartLemmas.{program_at_start}
use Rattle.sj_semantics.specs.Program.{Program}
use Rattle.sj_semantics.specs.declared.Opened.{Opened}
use Rattle.sj_semantics.specs.Requests.{Requests, opened_from}
use Rattle.sj_semantics.specs.Uses.{altered_list}
use Rattle.sj_semantics.specs.Value.{no_vars}
use Rattle.sj_semantics.specs.World.{World, program_of, programs_from, start_of}
use Rattle.sj_headline_laws.proofs.PlacedLemmas.{party_there}
use Rattle.sj_machine.specs.declared.machine.Machine.{Machine}
use Rattle.sj_machine.specs.Sound.{program_at}
use Rattle.sj_plain.proofs.UseLemmas.{map-set}
use Rattle.sj_talk.specs.Names.{Ends, connected_ends, shown_file}
use Rattle.sj_talk.specs.Play.{idle_file, idle_parties}
use Rattle.sj_talk.specs.TalkWorld.{no_program, talk_start, world_without}

abbrev idle_party : PartyAt → PartyAt
idle_party q = record { line = q.line; name = q.name; code = no_stmt }

none_hold : {X : Type 0} (P : X → Type 0) → All P []
none_hold P k d lt = absurd (omega arith)

no_pair : {X : Type 0} (R : X → X → Type 0) → AllPairs R []
no_pair R i j d lt le = absurd (omega arith)

none_in : {X : Type 0} (x : X) → Contains [] x → ⊥
none_in x c = absurd (omega (arith, c.1))

-- an element of the parties with nothing to do is one with nothing to do
at_idle : (qs : List PartyAt) (k : ℕ) (d : PartyAt) → k < length (idle_parties qs) → slice_index_or (idle_parties qs) k d ≡ idle_party (slice_index_or qs k d)
at_idle [] k d lt = absurd (omega arith)
at_idle (q ∷ qs) zero d lt = refl
at_idle (q ∷ qs) (suc k) d lt = at_idle qs k d (omega arith)

idle_once : (qs : List PartyAt) → AllPairs (λ p q. p.name ≢ q.name) qs → AllPairs (λ p q. p.name ≢ q.name) (idle_parties qs)
idle_once qs once i j d lt le =
    let le' : j < length qs = omega (arith, le, length-map qs idle_party) in
    subst (λ (a : PartyAt). a.name ≢ (slice_index_or (idle_parties qs) j d).name) (sym (at_idle qs i d (omega (arith, lt, le))))
    (subst (λ (b : PartyAt). (slice_index_or qs i d).name ≢ b.name) (sym (at_idle qs j d le)) (once i j d lt le'))

body_ends : (file : FileAt) (p : ℕ) (q : PartyAt) → slice_get (idle_parties file.parties) p ≡ Some q → EndsWell (idle_file file) p q
body_ends file p q h = by (slice_get file.parties p) (sym (slice_get-map idle_party file.parties p) ∙ h)
  where
    by : (o : Option PartyAt) → option_map idle_party o ≡ Some q → EndsWell (idle_file file) p q
    by None e = cc
    by (Some r) e = subst (EndsWell (idle_file file) p) (let it : idle_party r ≡ q = cc in it) (record { last = start_env (idle_file file) p; follows = refl; no_end = λ n. refl })

opens_nothing : (file : FileAt) (qs : List PartyAt) (a : PartyAt) → All (λ b. OpeningsMeet (idle_file file) (idle_party a) b) (idle_parties qs)
opens_nothing file qs a k d lt = record { meet = λ r c one other named from. absurd (none_in r one) }

-- a file of parties with nothing to do is accepted, where their names differ
pub idle_is_accepted : (file : FileAt) → IsAccepted file → IsAccepted (idle_file file)
idle_is_accepted file accepted = record {
  within = record { protocols = omega arith; items = none_hold _; parties = omega (arith, accepted.within.parties, length-map file.parties idle_party); connects = omega arith };
  protocols_once = no_pair (λ p q. p.name ≢ q.name);
  labels_once = none_hold _;
  parties_once = idle_once file.parties accepted.parties_once;
  connections = none_hold _;
  ends_once = λ p. no_pair (λ b c. b.0 ≢ c.0);
  bodies = body_ends file;
  openings = λ k d lt.
      subst (λ (a : PartyAt). All (λ b. OpeningsMeet (idle_file file) a b) (idle_parties file.parties)) (sym (at_idle file.parties k d lt)) (opens_nothing file file.parties (slice_index_or file.parties k d));
}

-- a file with these parts alone
pub idle_is : (file f : FileAt) → f.words ≡ [] → f.texts ≡ [] → f.protocols ≡ [] → f.parties ≡ idle_parties file.parties → f.connects ≡ [] → f ≡ idle_file file
idle_is file f words texts protocols parties connects = λ i. record { words = words i; texts = texts i; protocols = protocols i; parties = parties i; connects = connects i }

same_names : (qs : List PartyAt) → party_names (idle_parties qs) ≡ party_names qs
same_names [] = refl
same_names (q ∷ qs) = ap (λ t. q.name ∷ t) (same_names qs)

-- and each of its programs is none
pub idle_program : (file : FileAt) (p : ℕ) (g : Program) → p < length file.parties → slice_get (start_of (idle_file file)).parties p ≡ Some g → g ≡ no_program file
idle_program file p g lt h =
    let r = party_there file.parties p lt in
    let q = idle_party r.party in
    let at : slice_get (idle_parties file.parties) p ≡ Some q = slice_get-map idle_party file.parties p ∙ ap (option_map idle_party) r.there in
    let both : Some (program_of (idle_file file) p q) ≡ Some g = sym (program_at_start (idle_file file) p q at) ∙ h in
    let it : program_of (idle_file file) p q ≡ g = cc in
    sym it ∙ (λ i. record { todo = []; vars = no_vars; ends = []; steps = 0; peers = same_names file.parties i })

-- the parties, of which one has no program
pub one_idle : (file : FileAt) (ms : List Machine) (p : ℕ) (m d : Machine) → p < length ms → d ≡ get_or ms p d → program_at m ≡ no_program file → map program_at (set ms p m) ≡ altered_list (map program_at ms) p (λ g. no_program file)
one_idle file ms p m d lt there is = map-set program_at ms p d m (λ g. no_program file) lt there is

-- what follows of an Ok
pub if_ok : {T E : Type 0} (r : Result T E) (P Q : T → Type 0) → ((x : T) → P x → Q x) → IfOk r P → IfOk r Q
if_ok (Ok x) P Q f h = f x h
if_ok (Err e) P Q f h = tt

-- the world in which that party has no program
pub world_begun : (file : FileAt) (w : World) (gs : List Program) (p : ℕ) → w ≡ start_of file → gs ≡ altered_list w.parties p (λ g. no_program file)
    → record { protocols = w.protocols; parties = gs; sessions = w.sessions; requests = w.requests } ≡ world_without file p
world_begun file w gs p e h =
    let parts : gs ≡ altered_list (start_of file).parties p (λ g. no_program file) = h ∙ ap (λ u. altered_list u.parties p (λ g. no_program file)) e in
    λ i. record { protocols = (e i).protocols; parties = parts i; sessions = (e i).sessions; requests = (e i).requests }

-- ---- the parts of a talk that begins

pub talk_begun : (file shown : FileAt) (p : ℕ) (w : World) (ends : Ends) → shown ≡ shown_file file → w ≡ world_without file p → ends ≡ connected_ends file p
    → record { file = shown; party = p; world = w; ends = ends; lines = 0 } ≡ talk_start file p
talk_begun file shown p w ends shows begins holds = λ i. record { file = shows i; party = p; world = begins i; ends = holds i; lines = 0 }

many_from : (file : FileAt) (k : ℕ) (qs : List PartyAt) → length (programs_from file k qs) ≡ length qs
many_from file k [] = refl
many_from file k (q ∷ qs) = ap suc (many_from file (k + 1) qs)

-- there are as many programs as parties
pub as_many : (file : FileAt) (w : World) → w ≡ start_of file → length w.parties ≡ length file.parties
as_many file w e = ap (λ u. length u.parties) e ∙ many_from file 0 file.parties

-- and so where one of them was changed
module _ (ms : List Machine) (p : ℕ) (m : Machine) where
  pub set_many : length (map program_at (set ms p m)) ≡ length (map program_at ms)
  set_many = length-map (set ms p m) program_at ∙ length-set ms p m ∙ sym (length-map ms program_at)

  pub set_ordered : (os : List Opened) (rs : Requests) → os ≡ opened_from rs (length (map program_at ms)) 0 → os ≡ opened_from rs (length (map program_at (set ms p m))) 0
  set_ordered os rs h = h ∙ ap (λ n. opened_from rs n 0) (sym set_many)
