-- No two connected ends of an accepted file have one name.
use Rattle.std.proofs.Common.{◌≡◌, ◌≢◌, ℕ, ◌==◌, Bool, true, false, cond, AllPairs, suc, ◌+◌, ◌<◌, map, List, [], ◌∷◌, ◌++◌, length, slice_index_or, refl, ap, sym, subst, ◌∙◌, arith}
use Rattle.std.specs.Bool.{⊤}
use Rattle.std.proofs.lemmas.List.{map-append}
use Rattle.sj_base.specs.declared.EndId.{EndId}
use Rattle.sj_lang.specs.FileAt.{FileAt, ConnectAt, party_named, body_named, end_of_party, ends_from}
use Rattle.sj_lang.specs.Place.{Place}
use Rattle.sj_acceptance.specs.Accepted.{place_of_party, places_from, IsAccepted}
use Rattle.sj_machine.specs.Names.{Lacks, NamesDiffer}

abbrev end_names : List (ℕ × EndId) → List ℕ
end_names es = map (λ (b : ℕ × EndId). b.0) es

abbrev place_names : List (ℕ × Place) → List ℕ
place_names xs = map (λ (b : ℕ × Place). b.0) xs

-- the name is none of these, and no two of these are one
abbrev LacksName : ℕ → List ℕ → Type 0
LacksName n [] = ⊤
LacksName n (m ∷ ms) = (m ≢ n) × LacksName n ms

abbrev StandOnce : List ℕ → Type 0
StandOnce [] = ⊤
StandOnce (n ∷ ns) = LacksName n ns × StandOnce ns

lacks_each : (n : ℕ) (xs : List (ℕ × Place)) → ((j : ℕ) (d : ℕ × Place) → j < length xs → n ≢ (slice_index_or xs j d).0) → LacksName n (place_names xs)
lacks_each n [] h = tt
lacks_each n (x ∷ xs) h = (λ e. h 0 x (omega arith) (sym e), lacks_each n xs (λ j d lt. h (suc j) d (omega arith)))

once_each : (xs : List (ℕ × Place)) → AllPairs (λ b c. b.0 ≢ c.0) xs → StandOnce (place_names xs)
once_each [] h = tt
once_each (x ∷ xs) h = (lacks_each x.0 xs (λ j d lt. h 0 (suc j) d (omega arith) (omega arith)), once_each xs (λ i j d lt le. h (suc i) (suc j) d (omega arith) (omega arith)))

one_name : (t : Bool) (n : ℕ) (e : EndId) (p : Place) → end_names (cond t ((n, e) ∷ []) []) ≡ place_names (cond t ((n, p) ∷ []) [])
one_name true n e p = refl
one_name false n e p = refl

same_names : (file : FileAt) (p n : ℕ) (cs : List ConnectAt) → end_names (ends_from file p n cs) ≡ place_names (places_from file p cs)
same_names file p n [] = refl
same_names file p n (c ∷ cs) =
    let e0 = end_of_party file p c.first (record { sess = n; side = 0 }) in
    let e1 = end_of_party file p c.second (record { sess = n; side = 1 }) in
    let p0 = place_of_party file p c.first in
    let p1 = place_of_party file p c.second in
    map-append (λ (b : ℕ × EndId). b.0) (e0 ++ e1) (ends_from file p (n + 1) cs)
    ∙ ap (λ (t : List ℕ). t ++ end_names (ends_from file p (n + 1) cs)) (map-append (λ (b : ℕ × EndId). b.0) e0 e1)
    ∙ (λ i. (one_name (party_named file.parties c.first.party == p) c.first.name (record { sess = n; side = 0 }) (body_named file.protocols c.first.protocol) i
    ++ one_name (party_named file.parties c.second.party == p) c.second.name (record { sess = n; side = 1 }) (body_named file.protocols c.second.protocol) i)
    ++ same_names file p (n + 1) cs i)
    ∙ sym (ap (λ (t : List ℕ). t ++ place_names (places_from file p cs)) (map-append (λ (b : ℕ × Place). b.0) p0 p1))
    ∙ sym (map-append (λ (b : ℕ × Place). b.0) (p0 ++ p1) (places_from file p cs))

lacks_name : (n : ℕ) (es : List (ℕ × EndId)) → LacksName n (end_names es) → Lacks n es
lacks_name n [] h = tt
lacks_name n (e ∷ es) h = (h.0, lacks_name n es h.1)

names_differ : (es : List (ℕ × EndId)) → StandOnce (end_names es) → NamesDiffer es
names_differ [] h = tt
names_differ (e ∷ es) h = (lacks_name e.0 es h.0, names_differ es h.1)

pub connected_differ : (file : FileAt) (p : ℕ) → IsAccepted file → NamesDiffer (ends_from file p 0 file.connects)
connected_differ file p accepted =
    names_differ (ends_from file p 0 file.connects) (subst StandOnce (sym (same_names file p 0 file.connects)) (once_each (places_from file p file.connects) (accepted.ends_once p)))
