-- At the start of an accepted file each open end is bound at its party.
use Rattle.std.proofs.Common.{◌≡◌, ◌≢◌, ℕ, zero, suc, ◌+◌, ◌<◌, ◌==◌, Bool, true, false, cond, List, [], ◌∷◌, ◌++◌, map, length, slice_get, slice_index_or, AllPairs, Option, Some, None, option_map, unwrap_or, refl, ap, sym, ◌∙◌, arith, subst, inl, inr, ◌⊎◌}
use Rattle.std.proofs.lemmas.Bool.{cases_Bool, eq-eqb, eqb-true, and_from}
use Rattle.std.proofs.lemmas.Option.{slice_get-map, slice_get_within, get_or_from_slice_get}
use Rattle.sj_base.specs.declared.EndId.{EndId}
use Rattle.sj_lang.specs.Place.{Place}
use Rattle.sj_semantics.specs.declared.Verdict.TheVariants as verdicts
use Rattle.sj_lang.specs.FileAt.{FileAt, PartyAt, DeclAt, ConnectAt, party_named, end_of_party, ends_from, named}
use Rattle.sj_acceptance.specs.Accepted.{IsConnection, IsAccepted}
use Rattle.sj_semantics.specs.State.{verdict_of}
use Rattle.sj_semantics.specs.Run.{after_acts, IsRun}
use Rattle.sj_semantics.specs.World.{World, act_of, session_of, program_of, start_of}
use Rattle.sj_semantics.specs.Ends.{Session, end_on, nowhere, untaken_for, is_same_side, is_end}
use Rattle.sj_semantics.proofs.StartLemmas.{program_at_start}
use Rattle.sj_semantics_laws.proofs.RunLemmas.{between}
use Rattle.sj_headline_laws.proofs.TouchedLemmas.{side}
use Rattle.sj_headline_laws.proofs.WorldLemmas.{Sound}
use Rattle.sj_headline_laws.proofs.SoundLemmas.{act_keeps_sound}
use Rattle.sj_headline_laws.proofs.AcceptedLemmas.{places_shown, all_shown, start_is_sound, run_is_sound}
use Rattle.sj_headline_laws.proofs.GoesLemmas.{IsLocated, held, AllLocated}
use Rattle.sj_headline_laws.proofs.GoingLemmas.{act_keeps_located}
use Rattle.sj_headline_laws.proofs.EndedLemmas.{done_is_taken}

-- the list has the end under the name
abbrev pub Has : List (ℕ × EndId) → ℕ → EndId → Type 0
Has [] n e = ⊥
Has (b ∷ bs) n e = ((b.0 ≡ n) × (b.1 ≡ e)) ⊎ Has bs n e

pub has_left : (xs ys : List (ℕ × EndId)) (n : ℕ) (e : EndId) → Has xs n e → Has (xs ++ ys) n e
has_left [] ys n e h = absurd h
has_left (x ∷ xs) ys n e (inl h) = inl h
has_left (x ∷ xs) ys n e (inr h) = inr (has_left xs ys n e h)

pub has_right : (xs ys : List (ℕ × EndId)) (n : ℕ) (e : EndId) → Has ys n e → Has (xs ++ ys) n e
has_right [] ys n e h = h
has_right (x ∷ xs) ys n e h = inr (has_right xs ys n e h)

has_one : (file : FileAt) (p : ℕ) (d : DeclAt) (e : EndId) → party_named file.parties d.party ≡ p → Has (end_of_party file p d e) d.name e
has_one file p d e h = ap_has (party_named file.parties d.party == p) (eq-eqb (party_named file.parties d.party) p h)
  where
    ap_has : (b : Bool) → b ≡ true → Has (cond b ((d.name, e) ∷ []) []) d.name e
    ap_has true t = inl (refl, refl)
    ap_has false t = cc

-- the end that a connection declares
abbrev pub decl_at : ℕ → ConnectAt → DeclAt
decl_at zero c = c.first
decl_at (suc d) c = c.second

abbrev pub one_side : ℕ → ℕ
one_side zero = 0
one_side (suc d) = 1

pub has_declared : (file : FileAt) (p n d : ℕ) (cs : List ConnectAt) (i : ℕ) (c : ConnectAt) → slice_get cs i ≡ Some c → party_named file.parties (decl_at d c).party ≡ p → Has (ends_from file p n cs) (decl_at d c).name (side (n + i) (one_side d))
has_declared file p n d [] i c h own = cc
has_declared file p n zero (b ∷ cs) zero c h own =
    let it : b ≡ c = cc in
    subst (λ (t : ℕ). Has (ends_from file p n (b ∷ cs)) c.first.name (side t 0)) (let e : n ≡ n + 0 = omega arith in e)
    (subst (λ (t : ConnectAt). Has (ends_from file p n (b ∷ cs)) t.first.name (side n 0)) it
    (has_left (end_of_party file p b.first (side n 0) ++ end_of_party file p b.second (side n 1)) (ends_from file p (n + 1) cs) b.first.name (side n 0)
    (has_left (end_of_party file p b.first (side n 0)) (end_of_party file p b.second (side n 1)) b.first.name (side n 0)
    (has_one file p b.first (side n 0) (ap (λ t. party_named file.parties t.first.party) it ∙ own)))))
has_declared file p n (suc d) (b ∷ cs) zero c h own =
    let it : b ≡ c = cc in
    subst (λ (t : ℕ). Has (ends_from file p n (b ∷ cs)) c.second.name (side t 1)) (let e : n ≡ n + 0 = omega arith in e)
    (subst (λ (t : ConnectAt). Has (ends_from file p n (b ∷ cs)) t.second.name (side n 1)) it
    (has_left (end_of_party file p b.first (side n 0) ++ end_of_party file p b.second (side n 1)) (ends_from file p (n + 1) cs) b.second.name (side n 1)
    (has_right (end_of_party file p b.first (side n 0)) (end_of_party file p b.second (side n 1)) b.second.name (side n 1)
    (has_one file p b.second (side n 1) (ap (λ t. party_named file.parties t.second.party) it ∙ own)))))
has_declared file p n d (b ∷ cs) (suc i) c h own =
    subst (λ (t : ℕ). Has (ends_from file p n (b ∷ cs)) (decl_at d c).name (side t (one_side d))) (let e : n + 1 + i ≡ n + suc i = omega arith in e)
    (has_right (end_of_party file p b.first (side n 0) ++ end_of_party file p b.second (side n 1)) (ends_from file p (n + 1) cs) (decl_at d c).name (side (n + 1 + i) (one_side d))
    (has_declared file p (n + 1) d cs i c h own))

-- ---- names once

abbrev pub NamedOnce : List Session → List (ℕ × EndId) → Type 0
NamedOnce zs bs = AllPairs (λ b c. b.0 ≢ c.0) (map (places_shown zs) bs)

has_index : (zs : List Session) (bs : List (ℕ × EndId)) (n : ℕ) (e : EndId) (d : ℕ × Place) → Has bs n e → (j : ℕ) × ((j < length (map (places_shown zs) bs)) × ((slice_index_or (map (places_shown zs) bs) j d).0 ≡ n))
has_index zs [] n e d h = absurd h
has_index zs (b ∷ bs) n e d (inl h) = (0, (omega arith, h.0))
has_index zs (b ∷ bs) n e d (inr h) = let r = has_index zs bs n e d h in (suc r.0, (omega (arith, r.1.0), r.1.1))

pub has_named : (zs : List Session) (bs : List (ℕ × EndId)) (n : ℕ) (e : EndId) → NamedOnce zs bs → Has bs n e → named bs n ≡ Some e
has_named zs [] n e once h = absurd h
has_named zs (b ∷ bs) n e once (inl h) = ap (λ (t : Bool). cond t (Some b.1) (named bs n)) (eq-eqb b.0 n h.0) ∙ ap Some h.1
has_named zs (b ∷ bs) n e once (inr h) =
    elim (cases_Bool (b.0 == n)) [
      | inl hit ↦
          let r = has_index zs bs n e (places_shown zs b) h in
          absurd (once 0 (suc r.0) (places_shown zs b) (omega arith) (omega (arith, r.1.0)) (eqb-true b.0 n hit ∙ sym r.1.1))
      | inr miss ↦ ap (λ (t : Bool). cond t (Some b.1) (named bs n)) miss ∙ has_named zs bs n e (λ i j d lt le. once (suc i) (suc j) d (omega (arith, lt)) (omega (arith, le))) h
    ]

-- ---- the start

pub record PartyThere (qs : List PartyAt) (p : ℕ) : Type 0 where
  pub party : PartyAt
  pub there : slice_get qs p ≡ Some party

pub party_there : (qs : List PartyAt) (p : ℕ) → p < length qs → PartyThere qs p
party_there [] p lt = absurd (omega arith)
party_there (q ∷ qs) zero lt = record { party = q; there = refl }
party_there (q ∷ qs) (suc p) lt = let r = party_there qs p (omega arith) in record { party = r.party; there = r.there }

pub canonical : (e : EndId) → is_end e (side e.sess (one_side e.side)) ≡ true
canonical e = and_from (e.sess == e.sess) (is_same_side e.side (one_side e.side)) (eq-eqb e.sess e.sess refl) (sides e.side)
  where
    sides : (d : ℕ) → is_same_side d (one_side d) ≡ true
    sides zero = refl
    sides (suc d) = refl

pub declared_party : (file : FileAt) (c : ConnectAt) (d : ℕ) → IsConnection file c → party_named file.parties (decl_at d c).party < length file.parties
declared_party file c zero h = h.first.party
declared_party file c (suc d) h = h.second.party

located_by : (file : FileAt) → IsAccepted file → (e : EndId) (o : Option ConnectAt) (z : Session) → slice_get file.connects e.sess ≡ o → option_map (session_of file) o ≡ Some z → IsLocated (start_of file) e
located_by file accepted e None z at h = cc
located_by file accepted e (Some c) z at h =
    let d : DeclAt = decl_at e.side c in
    let both = subst (IsConnection file) (get_or_from_slice_get file.connects e.sess c c at) (accepted.connections e.sess c (slice_get_within file.connects e.sess c at)) in
    let p : ℕ = party_named file.parties d.party in
    let q = party_there file.parties p (declared_party file c e.side both) in
    let zs : List Session = (start_of file).sessions in
    let once : NamedOnce zs (ends_from file p 0 file.connects) =
    subst (λ (bs : List (ℕ × Place)). AllPairs (λ a b. a.0 ≢ b.0) bs)
    (sym (all_shown file p 0 file.connects (λ i b k. subst (λ (t : ℕ). slice_get file.connects t ≡ Some b) (let s : i ≡ 0 + i = omega arith in s) k))) (accepted.ends_once p) in
    let has : Has (ends_from file p 0 file.connects) d.name (side e.sess (one_side e.side)) =
    subst (λ (t : ℕ). Has (ends_from file p 0 file.connects) d.name (side t (one_side e.side))) (let s : 0 + e.sess ≡ e.sess = omega arith in s)
    (has_declared file p 0 e.side file.connects e.sess c at refl) in
    held p (program_of file p q.party) (program_at_start file p q.party q.there)
    (record { name = d.name; end = side e.sess (one_side e.side); is_named = has_named zs (ends_from file p 0 file.connects) d.name (side e.sess (one_side e.side)) once has; it_is = canonical e })

pub start_is_located : (file : FileAt) → IsAccepted file → AllLocated (start_of file)
start_is_located file accepted e is_open = by (slice_get file.connects e.sess) refl
  where
    by : (o : Option ConnectAt) → slice_get file.connects e.sess ≡ o → IsLocated (start_of file) e
    by None at = absurd (is_open (ap (λ o. (unwrap_or (option_map (end_on e.side) o) nowhere).place) (slice_get-map (session_of file) file.connects e.sess ∙ ap (option_map (session_of file)) at)))
    by (Some c) at = located_by file accepted e (Some c) (session_of file c) at refl

run_keeps_located : (file : FileAt) (w v : World) (acts : List ℕ) → Sound file w → AllLocated w → after_acts w acts ≡ Some v → AllLocated v
run_keeps_located file w v [] sound all h = subst AllLocated (let it : w ≡ v = cc in it) all
run_keeps_located file w v (p ∷ acts) sound all h =
    let m = between (λ x. after_acts x acts) (act_of w p) v h in
    run_keeps_located file m.world v acts (act_keeps_sound file w m.world p sound m.before) (act_keeps_located file w m.world p sound all m.before) m.afterwards

pub done_runs_take_all : (file : FileAt) (acts : List ℕ) (w : World) → IsAccepted file → IsRun file acts w → verdict_of w ≡ verdicts.Done → (e : EndId) → untaken_for w.sessions e ≡ []
done_runs_take_all file acts w accepted run verdict =
    done_is_taken file w (run_is_sound file acts w accepted run)
    (run_keeps_located file (start_of file) w acts (start_is_sound file accepted) (start_is_located file accepted) run) verdict
