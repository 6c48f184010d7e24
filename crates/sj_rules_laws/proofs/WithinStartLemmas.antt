-- At the start all parties and numbers are within the limits.
use Rattle.std.proofs.Common.{◌≡◌, ℕ, ◌<◌, ◌==◌, Bool, true, false, cond, [], Option, Some, None, refl, arith}
use Rattle.std.specs.Prelude.{length, slice_get, option_and_then, nat_lt, Contains}
use Rattle.std.proofs.lemmas.Bool.{ltb-true}
use Rattle.std.proofs.lemmas.Option.{slice_get_within}
use Rattle.sj_base.specs.declared.EndId.{EndId}
use Rattle.sj_lang.specs.FileAt.{FileAt, ConnectAt, party_named}
use Rattle.sj_lang.specs.Place.{Place}
use Rattle.sj_acceptance.specs.Accepted.{IsAccepted}
use Rattle.sj_semantics.specs.Ends.{other_side}
use Rattle.sj_rules.specs.Record.{MainAt, Held}
use Rattle.sj_rules.specs.Start.{declared_on, connect_of, held_by, first_held, core_start}
use Rattle.sj_rules.specs.Within.{IdWithin, MainWithin, IsWithin}
use Rattle.sj_rules_laws.proofs.WithinRowLemmas.{by_some}
use Rattle.sj_rules_laws.proofs.StartNamesLemmas.{party_exists}

contains_none : (n : ℕ) → Contains [] n → ⊥
contains_none n c = omega (arith, c.1)

-- an end of a connection
connected_there : (file : FileAt) (e : EndId) (c : ConnectAt) → connect_of file e ≡ Some c → (e.side < 2) × (slice_get file.connects e.sess ≡ Some c)
connected_there file e c k = inside (nat_lt e.side 2) refl k
  where
    inside : (b : Bool) → nat_lt e.side 2 ≡ b → cond b (slice_get file.connects e.sess) None ≡ Some c → (e.side < 2) × (slice_get file.connects e.sess ≡ Some c)
    inside true is t = (ltb-true e.side 2 is, t)
    inside false is t = cc

connected_within : (file : FileAt) (e : EndId) (c : ConnectAt) → IsAccepted file → connect_of file e ≡ Some c → IdWithin (length file.parties) e
connected_within file e c accepted k =
    let t = connected_there file e c k in
    (t.0, omega (arith, slice_get_within file.connects e.sess c t.1, accepted.within.connects))

-- each record is of one
start_id : (file : FileAt) (p : ℕ) (e : EndId) (r : MainAt Place) → IsAccepted file → (o : Option ConnectAt) → connect_of file e ≡ o → option_and_then (held_by file p e) o ≡ Some r → IdWithin (length file.parties) e
start_id file p e r accepted None there h = cc
start_id file p e r accepted (Some c) there h = connected_within file e c accepted there

start_main : (file : FileAt) (p : ℕ) (e : EndId) (r : MainAt Place) → IsAccepted file → (o : Option ConnectAt) → connect_of file e ≡ o → option_and_then (held_by file p e) o ≡ Some r → MainWithin (length file.parties) r
start_main file p e r accepted None there h = cc
start_main file p e r accepted (Some c) there h =
    let n : ℕ = length file.parties in
    by (p == party_named file.parties (declared_on e.side c).party)
    (party_exists file (other_side e.side) e.sess c accepted (connected there)) h
  where
    connected : connect_of file e ≡ Some c → slice_get file.connects e.sess ≡ Some c
    connected k = (connected_there file e c k).1

    by : (b : Bool) → party_named file.parties (declared_on (other_side e.side) c).party < length file.parties
        → cond b (Some (Held (first_held file e c))) None ≡ Some r → MainWithin (length file.parties) r
    by true lt k = by_some (MainWithin (length file.parties)) (Held (first_held file e c)) r k (record { id = connected_within file e c accepted there; peer = lt; conn = omega arith; sent = omega arith; taken = omega arith; cached = omega arith; hops = omega arith })
    by false lt k = cc

pub start_is_within : (file : FileAt) → IsAccepted file → IsWithin (length file.parties) (core_start file)
start_is_within file accepted = record {
  nodes = λ p. record {
    mains = λ e r h. start_main file p e r accepted (connect_of file e) refl h;
    olds = λ e r h. cc;
    main_ids = λ e r h. start_id file p e r accepted (connect_of file e) refl h;
    old_ids = λ e r h. cc;
    requests = omega arith;
    offers = λ from sess h. absurd (contains_none sess h);
  };
  frames = λ p q. tt;
  outside = λ p q h. refl;
}
