-- A file in which no party has anything to do.
use Rattle.std.proofs.Common.{◌≡◌, ◌≢◌, ℕ, zero, suc, ◌<◌, List, [], ◌∷◌, length, slice_get, slice_index_or, Option, Some, None, option_map, All, AllPairs, refl, ap, sym, ◌∙◌, subst, arith}
use Rattle.std.specs.List.{Contains}
use Rattle.std.proofs.lemmas.List.{length-map}
use Rattle.std.proofs.lemmas.Option.{slice_get-map}
use Rattle.sj_lang.specs.FileAt.{FileAt, PartyAt, party_names}
use Rattle.sj_lang.specs.Code.{no_stmt}
use Rattle.sj_acceptance.specs.Accepted.{EndsWell, IsAccepted, OpeningsMeet, start_env}
use Rattle.sj_semantics.proofs.StartLemmas.{program_at_start}
use Rattle.sj_semantics.specs.Program.{Program}
use Rattle.sj_semantics.specs.Value.{no_vars}
use Rattle.sj_semantics.specs.World.{program_of, start_of}
use Rattle.sj_node.specs.Starting.{idle_file, idle_parties, nothing_to_do}

abbrev idle_party : PartyAt → PartyAt
idle_party q = record { line = q.line; name = q.name; code = no_stmt }

none_hold : {X : Type 0} (P : X → Type 0) → All P []
none_hold P k d lt = absurd (omega arith)

no_pair : {X : Type 0} (R : X → X → Type 0) → AllPairs R []
no_pair R i j d lt le = absurd (omega arith)

none_in : {X : Type 0} (x : X) → Contains [] x → ⊥
none_in x c = absurd (omega (arith, c.1))

-- each of the parties has nothing to do
at_idle : (qs : List PartyAt) (k : ℕ) (d : PartyAt) → k < length (idle_parties qs) → slice_index_or (idle_parties qs) k d ≡ idle_party (slice_index_or qs k d)
at_idle [] k d lt = absurd (omega arith)
at_idle (q ∷ qs) zero d lt = refl
at_idle (q ∷ qs) (suc k) d lt = at_idle qs k d (omega arith)

idle_once : (qs : List PartyAt) → AllPairs (λ p q. p.name ≢ q.name) qs → AllPairs (λ p q. p.name ≢ q.name) (idle_parties qs)
idle_once qs once i j d lt le =
    let le' : j < length qs = omega (arith, le, length-map qs idle_party) in
    subst (λ (a : PartyAt). a.name ≢ (slice_index_or (idle_parties qs) j d).name) (sym (at_idle qs i d (omega (arith, lt, le))))
    (subst (λ (b : PartyAt). (slice_index_or qs i d).name ≢ b.name) (sym (at_idle qs j d le)) (once i j d lt le'))

body_ends : (file : FileAt) (p : ℕ) (q : PartyAt) → slice_get (idle_parties file.parties) p ≡ Some q → EndsWell (idle_file file) p q
body_ends file p q h = by (slice_get file.parties p) (sym (slice_get-map idle_party file.parties p) ∙ h)
  where
    by : (o : Option PartyAt) → option_map idle_party o ≡ Some q → EndsWell (idle_file file) p q
    by None e = cc
    by (Some r) e = subst (EndsWell (idle_file file) p) (let it : idle_party r ≡ q = cc in it) (record { last = start_env (idle_file file) p; follows = refl; no_end = λ n. refl })

opens_nothing : (file : FileAt) (qs : List PartyAt) (a : PartyAt) → All (λ b. OpeningsMeet (idle_file file) (idle_party a) b) (idle_parties qs)
opens_nothing file qs a k d lt = record { meet = λ r c one other named from. absurd (none_in r one) }

-- such a file is accepted, where the parties' names differ
pub idle_is_accepted : (file : FileAt) → IsAccepted file → IsAccepted (idle_file file)
idle_is_accepted file accepted = record {
  within = record { protocols = omega arith; items = none_hold _; parties = omega (arith, accepted.within.parties, length-map file.parties idle_party); connects = omega arith };
  protocols_once = no_pair (λ p q. p.name ≢ q.name);
  labels_once = none_hold _;
  parties_once = idle_once file.parties accepted.parties_once;
  connections = none_hold _;
  ends_once = λ p. no_pair (λ b c. b.0 ≢ c.0);
  bodies = body_ends file;
  openings = λ k d lt.
      subst (λ (a : PartyAt). All (λ b. OpeningsMeet (idle_file file) a b) (idle_parties file.parties)) (sym (at_idle file.parties k d lt)) (opens_nothing file file.parties (slice_index_or file.parties k d));
}

-- a file with these parts alone
pub idle_is : (file f : FileAt) → f.words ≡ [] → f.texts ≡ [] → f.protocols ≡ [] → f.parties ≡ idle_parties file.parties → f.connects ≡ [] → f ≡ idle_file file
idle_is file f words texts protocols parties connects = λ i. record { words = words i; texts = texts i; protocols = protocols i; parties = parties i; connects = connects i }

same_names : (qs : List PartyAt) → party_names (idle_parties qs) ≡ party_names qs
same_names [] = refl
same_names (q ∷ qs) = ap (λ t. q.name ∷ t) (same_names qs)

pub record PartyThere (qs : List PartyAt) (p : ℕ) : Type 0 where
  pub party : PartyAt
  pub there : slice_get qs p ≡ Some party

party_there : (qs : List PartyAt) (p : ℕ) → p < length qs → PartyThere qs p
party_there [] p lt = absurd (omega arith)
party_there (q ∷ qs) zero lt = record { party = q; there = refl }
party_there (q ∷ qs) (suc p) lt = let r = party_there qs p (omega arith) in record { party = r.party; there = r.there }

-- and each of its programs has nothing to do
pub idle_program : (file : FileAt) (p : ℕ) (g : Program) → p < length file.parties → slice_get (start_of (idle_file file)).parties p ≡ Some g → g ≡ nothing_to_do file
idle_program file p g lt h =
    let r = party_there file.parties p lt in
    let q = idle_party r.party in
    let at : slice_get (idle_parties file.parties) p ≡ Some q = slice_get-map idle_party file.parties p ∙ ap (option_map idle_party) r.there in
    let both : Some (program_of (idle_file file) p q) ≡ Some g = sym (program_at_start (idle_file file) p q at) ∙ h in
    let it : program_of (idle_file file) p q ≡ g = cc in
    sym it ∙ (λ i. record { todo = []; vars = no_vars; ends = []; steps = 0; peers = same_names file.parties i })
