-- Ends under names.
use Rattle.std.proofs.Common.{◌≡◌, ℕ, ◌<◌, ◌==◌, Bool, true, false, not, cond, List, [], ◌∷◌, ◌++◌, length, filter, Option, Some, None, refl, ap, sym, ◌∙◌, arith, append_assoc, append-nil}
use Rattle.sj_base.specs.declared.EndId.{EndId}
use Rattle.sj_rules.specs.Record.{is_same_end}
use Rattle.sj_talk.specs.Names.{Ends, end_named}
use Rattle.sj_talk.specs.Words.{rest, word}
use Rattle.sj_seat_lines.proofs.WordLemmas.{ended_by}
use Rattle.sj_seat_lines.specs.Names.{both, ends_under, named, without}
use Rattle.sj_seat_lines.specs.declared.names.Name.{Name}

-- ---- an end whose names are freed

freed_if : (b : Bool) (x : Name) (ns : List Name) (es : Ends) → named ns ≡ es → named (cond b (x ∷ ns) ns) ≡ cond b ((x.name.items, x.end) ∷ es) es
freed_if true x ns es h = ap (λ t. (x.name.items, x.end) ∷ t) h
freed_if false x ns es h = h

pub freed : (ns : List Name) (e : EndId) → named (filter (λ n. not (is_same_end n.end e)) ns) ≡ without (named ns) e
freed [] e = refl
freed (x ∷ ns) e = freed_if (not (is_same_end x.end e)) x (filter (λ n. not (is_same_end n.end e)) ns) (without (named ns) e) (freed ns e)

-- ---- the ends of several names, one after another

-- these and then the others, where all are there
abbrev pub after : List EndId → Option (List EndId) → Option (List EndId)
after acc None = None
after acc (Some es) = Some (acc ++ es)

pub none_before : (o : Option (List EndId)) → after [] o ≡ o
none_before None = refl
none_before (Some es) = refl

some_after : (acc : List EndId) (e : EndId) (o : Option (List EndId)) → after acc (both (Some e) o) ≡ after (acc ++ e ∷ []) o
some_after acc e None = refl
some_after acc e (Some es) = ap (λ xs. Some xs) (sym (append_assoc acc (e ∷ []) es))

pub next_there : (acc : List EndId) (ns : Ends) (xs : List (List ℕ)) (e : EndId) (all : Option (List EndId)) → (length xs == 0) ≡ false → end_named ns (word xs) ≡ Some e
    → after acc (ends_under ns xs) ≡ all → after (acc ++ e ∷ []) (ends_under ns (rest xs)) ≡ all
next_there acc ns [] e all some is so_far = absurd (cc)
next_there acc ns (x ∷ xs) e all some is so_far = sym (some_after acc e (ends_under ns xs)) ∙ ap (λ o. after acc (both o (ends_under ns xs))) (sym is) ∙ so_far

pub next_missing : (acc : List EndId) (ns : Ends) (xs : List (List ℕ)) (all : Option (List EndId)) → (length xs == 0) ≡ false → end_named ns (word xs) ≡ None
    → after acc (ends_under ns xs) ≡ all → None ≡ all
next_missing acc ns [] all some is so_far = absurd (cc)
next_missing acc ns (x ∷ xs) all some is so_far = ap (λ o. after acc (both o (ends_under ns xs))) (sym is) ∙ so_far

pub none_left : (acc : List EndId) (ns : Ends) (xs : List (List ℕ)) (all : Option (List EndId)) → (length xs == 0) ≡ true → after acc (ends_under ns xs) ≡ all → Some acc ≡ all
none_left acc ns [] all none so_far = ap (λ xs. Some xs) (sym (append-nil acc)) ∙ so_far
none_left acc ns (x ∷ xs) all none so_far = let no = ended_by (length (x ∷ xs)) (omega arith) in absurd (cc)

pub shorter : (xs : List (List ℕ)) → (length xs == 0) ≡ false → length (rest xs) < length xs
shorter [] some = absurd (cc)
shorter (x ∷ xs) some = omega arith
