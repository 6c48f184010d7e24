-- The core world of a file that a text stands for has only what is the file's before any event.
use Rattle.std.proofs.Common.{◌≡◌, ℕ, zero, suc, ◌+◌, ◌<◌, ◌≤◌, ◌==◌, Bool, true, false, cond, List, [], ◌∷◌, ◌++◌, length, slice_get, unwrap_or, Option, Some, None, option_and_then, refl, ap, subst, arith}
use Rattle.std.specs.Prelude.{nat_lt}
use Rattle.std.proofs.lemmas.Bool.{ltb-true}
use Rattle.std.proofs.lemmas.Option.{slice_get_within}
use Rattle.sj_base.specs.declared.EndId.{EndId}
use Rattle.sj_lang.specs.Place.{Place}
use Rattle.sj_lang.specs.FileAt.{FileAt, PartyAt, DeclAt, ConnectAt, party_named, end_of_party, ends_from}
use Rattle.sj_lang.specs.Limits.{file_limit}
use Rattle.sj_acceptance.specs.Accepted.{IsAccepted}
use Rattle.sj_grammar.specs.Files.{IsFile}
use Rattle.sj_semantics.specs.World.{program_of, programs_from}
use Rattle.sj_rules.specs.Party.{nobody, play_of}
use Rattle.sj_rules.specs.Record.{MainAt, Held}
use Rattle.sj_rules.specs.Start.{declared_on, first_held, held_by, connect_of, first_node, core_start}
use Rattle.sj_joined_lemmas.proofs.LateLemmas.{all_joined}
use Rattle.sj_rules_laws.proofs.WithinRowLemmas.{by_some}
use Rattle.sj_log.specs.Legible.{IsEnd}
use Rattle.sj_legible_laws.proofs.LegibleParts.{MainTold, NodeTold, WorldTold}
use Rattle.sj_legible_laws.proofs.CodeParts.{EndsTold, ProgramTold}
use Rattle.sj_legible_laws.proofs.TodoLemmas.{block_told}
use Rattle.sj_legible_laws.proofs.PartyLemmas.{code_of_party}

module _ (file : FileAt) (accepted : IsAccepted file) where
  -- ---- ends

  own_ends : (p : ℕ) (d : DeclAt) (e : EndId) → IsEnd e → EndsTold file (end_of_party file p d e)
  own_ends p d e is = by (party_named file.parties d.party == p)
    where
      by : (b : Bool) → EndsTold file (cond b ((d.name, e) ∷ []) [])
      by true = (is, tt)
      by false = tt

  ends_told : (p n : ℕ) (cs : List ConnectAt) → n + length cs ≤ 64 → EndsTold file (ends_from file p n cs)
  ends_told p n [] few = tt
  ends_told p n (c ∷ cs) few =
      all_joined (λ b. IsEnd b.1) (end_of_party file p c.first (record { sess = n; side = 0 }) ++ end_of_party file p c.second (record { sess = n; side = 1 })) (ends_from file p (n + 1) cs)
      (all_joined (λ b. IsEnd b.1) (end_of_party file p c.first (record { sess = n; side = 0 })) (end_of_party file p c.second (record { sess = n; side = 1 }))
      (own_ends p c.first (record { sess = n; side = 0 }) (omega (arith, few), omega arith)) (own_ends p c.second (record { sess = n; side = 1 }) (omega (arith, few), omega arith)))
      (ends_told p (n + 1) cs (omega (arith, few)))

  start_main : (p : ℕ) (e : EndId) (r : MainAt Place) → (o : Option ConnectAt) → connect_of file e ≡ o → option_and_then (held_by file p e) o ≡ Some r → MainTold file r
  start_main p e r None there h = cc
  start_main p e r (Some c) there h = by (p == party_named file.parties (declared_on e.side c).party) h
    where
      is_end : (b : Bool) → nat_lt e.side 2 ≡ b → cond b (slice_get file.connects e.sess) None ≡ Some c → IsEnd e
      is_end true is k =
          let low : e.side < 2 = ltb-true e.side 2 is in
          let inside : e.sess < length file.connects = slice_get_within file.connects e.sess c k in
          let most = accepted.within.connects in
          (omega (arith, inside, most), omega (arith, low))
      is_end false is k = cc

      by : (b : Bool) → cond b (Some (Held (first_held file e c))) None ≡ Some r → MainTold file r
      by true k = by_some (MainTold file) (Held (first_held file e c)) r k (record { id = is_end (nat_lt e.side 2) refl there; cache = tt }, tt)
      by false k = cc

  -- ---- programs

  module _ (bytes : List ℕ) (few : length bytes ≤ file_limit) (is : IsFile bytes file) where
    program_told : (p : ℕ) (q : PartyAt) → slice_get file.parties p ≡ Some q → (k : ℕ) → ProgramTold file (program_of file k q)
    program_told p q h k = record {
      todo = block_told file q.code [] (code_of_party bytes file few is p q h) tt;
      vars = λ n v t. cc;
      ends = ends_told k 0 file.connects (let most = accepted.within.connects in omega (arith, most));
    }

    nobody_told : ProgramTold file nobody
    nobody_told = record { todo = tt; vars = λ n v t. cc; ends = tt }

    -- of a file's last parties, from number k on
    programs_told : (k p : ℕ) (qs : List PartyAt) → ((j : ℕ) (q : PartyAt) → slice_get qs j ≡ Some q → slice_get file.parties (k + j) ≡ Some q)
        → ProgramTold file (unwrap_or (slice_get (programs_from file k qs) p) nobody)
    programs_told k p [] there = nobody_told
    programs_told k zero (q ∷ qs) there = program_told (k + 0) q (there 0 q refl) k
    programs_told k (suc p) (q ∷ qs) there =
        programs_told (k + 1) p qs (λ j x h. let same : k + suc j ≡ k + 1 + j = omega arith in subst (λ (n : ℕ). slice_get file.parties n ≡ Some x) same (there (suc j) x h))

    node_told : (p : ℕ) → NodeTold file (ProgramTold file) (first_node file p)
    node_told p = record {
      program = programs_told 0 p file.parties (λ j q h. let same : j ≡ 0 + j = omega arith in subst (λ (n : ℕ). slice_get file.parties n ≡ Some q) same h);
      mains = λ e r h. start_main p e r (connect_of file e) refl h;
      olds = λ e r h. cc;
      offers = λ from. tt;
    }

    -- who isn't there does nothing
    none_there : (k p : ℕ) (qs : List PartyAt) → length qs ≤ p → unwrap_or (slice_get (programs_from file k qs) p) nobody ≡ nobody
    none_there k p [] le = refl
    none_there k zero (q ∷ qs) le = absurd (omega arith)
    none_there k (suc p) (q ∷ qs) le = none_there (k + 1) p qs (omega arith)

    pub start_told : WorldTold file (ProgramTold file) (play_of file) (length file.parties) (core_start file)
    start_told = record {
      nodes = node_told;
      frames = λ p q. tt;
      idle = λ p le. ap (play_of file).wants (none_there 0 p file.parties le);
    }
