-- What a party begins with.
use Rattle.std.proofs.Common.{◌≡◌, ◌⊎◌, ℕ, zero, suc, ◌+◌, ◌<◌, ◌≤◌, ◌==◌, nat_lt, ltb, Bool, true, false, if◌then◌else◌, List, [], ◌∷◌, ◌++◌, get_or, length, map, slice_get, Option, Some, None, option_map, option_and_then, refl, ap, sym, ◌∙◌, subst, inl, inr, length-append, arith}
use Rattle.std.specs.Prelude.{Vec}
use Rattle.std.proofs.lemmas.Bool.{cases_lt}
use Rattle.std.proofs.lemmas.Bool.Decides.{nat_tests}
use Rattle.std.proofs.lemmas.Option.{slice_get-map, slice_get_past, slice_get_read}
use Rattle.std.specs.declared.alloc.Global.{Global}
use Rattle.sj_base.specs.declared.EndId.{EndId}
use Rattle.sj_lang.specs.declared.file.Connect.{Connect}
use Rattle.sj_lang.specs.FileAt.{FileAt, ConnectAt, PartyAt, party_named}
use Rattle.sj_lang.specs.FileView.{connect_of as connect_seen}
use Rattle.sj_rules.specs.Start.{connect_of}
use Rattle.sj_forward.specs.declared.forwarder.Forwarder.{Forwarder}
use Rattle.sj_forward.specs.declared.slot.Slot.{Slot}
use Rattle.sj_forward.specs.Ends.{Rows, record_in, records_in, slot_in, uses_in}
use Rattle.sj_offers.specs.Offers.{offers_in}
use Rattle.sj_forward.specs.Outs.{Outs, lane_in}
use Rattle.sj_forward.specs.Starting.{AreFirst, AreFirstRows, IsFirst, IsFirstRow, IsFirstSlot}
use Rattle.sj_forward.proofs.SlotLemmas.{some_same}
use Rattle.sj_forward_rules.specs.Start.{first_node, first_record, first_use}

-- ---- lists

-- an element of a list with one more is one of the list, or the last
behind : {X : Type 0} (xs : List X) (x : X) (p : ℕ) (y : X) → slice_get (xs ++ x ∷ []) p ≡ Some y → (slice_get xs p ≡ Some y) ⊎ ((p ≡ length xs) × (y ≡ x))
behind [] x zero y is = inr (refl, sym (cc is))
behind [] x (suc p) y is = absurd (cc is)
behind (z ∷ xs) x zero y is = inl is
behind (z ∷ xs) x (suc p) y is = elim (behind xs x p y is) [ inl there ↦ inl there | inr last ↦ inr (ap suc last.0, last.1) ]

is_there : {X : Type 0} (xs : List X) (n : ℕ) → n < length xs → (x : X) × (slice_get xs n ≡ Some x)
is_there [] n lt = absurd (omega (arith, lt))
is_there (x ∷ xs) zero lt = (x, refl)
is_there (x ∷ xs) (suc n) lt = is_there xs n (omega (arith, lt))

side_below : (n : ℕ) → n < 2 → ltb n 2 ≡ true
side_below n lt = grind (arith, nat_tests)

side_past : (n : ℕ) → 2 ≤ n → ltb n 2 ≡ false
side_past n le = grind (arith, nat_tests)

-- ---- numbers and places in the file

-- a party's number is at most how many there are
pub named_within : (ps : List PartyAt) (n : ℕ) → party_named ps n ≤ length ps
named_within [] n = omega arith
named_within (p ∷ ps) n = grind (arith, nat_tests, named_within ps n)

pub connect_there : (cs : List Connect) (n : ℕ) (c : Connect) → n < length cs → c ≡ get_or cs n c → slice_get (map connect_seen cs) n ≡ Some (connect_seen c)
connect_there cs n c lt is = slice_get-map connect_seen cs n ∙ ap (option_map connect_seen) (slice_get_read cs (length cs) n c refl lt is)

-- ---- slots

module _ (file : FileAt) (p : ℕ) where
  -- the two slots of a connection
  pub row_first : (sess : ℕ) (c : ConnectAt) (first second : Slot) (row : List Slot) → row ≡ first ∷ second ∷ []
      → IsFirstSlot file p (record { sess = sess; side = 0 }) c first → IsFirstSlot file p (record { sess = sess; side = 1 }) c second → IsFirstRow file p sess c row
  row_first sess c first second row is a b = subst (λ (xs : List Slot). IsFirstRow file p sess c xs) (sym is) (record { count = refl; each = each })
    where
      each : (side : ℕ) (s : Slot) → slice_get (first ∷ second ∷ []) side ≡ Some s → IsFirstSlot file p (record { sess = sess; side = side }) c s
      each zero s h = subst (λ (x : Slot). IsFirstSlot file p (record { sess = sess; side = 0 }) c x) (some_same first s h) a
      each (suc zero) s h = subst (λ (x : Slot). IsFirstSlot file p (record { sess = sess; side = 1 }) c x) (some_same second s h) b
      each (suc (suc side)) s h = absurd (cc h)

  -- with the next connection's
  pub one_row : (k : ℕ) (rows : Rows) (row : Vec Slot Global) (c : ConnectAt) → AreFirstRows file p k rows → slice_get file.connects k ≡ Some c → IsFirstRow file p k c row.items
      → AreFirstRows file p (k + 1) (rows ++ row ∷ [])
  one_row k rows row c rest there first = record {
    count = length-append rows (row ∷ []) ∙ ap (λ n. n + 1) rest.count;
    each = λ sess d other at is.
        elim (behind rows row sess other is) [
          | inl before ↦ rest.each sess d other at before
          | inr last ↦
              (let same : sess ≡ k = last.0 ∙ rest.count in
              let own : c ≡ d = some_same c d (sym there ∙ ap (slice_get file.connects) (sym same) ∙ at) in
              subst (λ (n : ℕ). IsFirstRow file p n d other.items) (sym same)
              (subst (λ (x : ConnectAt). IsFirstRow file p k x other.items) own
              (subst (λ (x : Vec Slot Global). IsFirstRow file p k c x.items) (sym last.1) first)))
        ];
  }

  -- ---- the party

  -- what a row has at a side
  at_side : {X : Type 0} (read : Slot → Option X) (sess side : ℕ) (c : ConnectAt) (row : List Slot) (want : Option X) → IsFirstRow file p sess c row
      → ((s : Slot) → IsFirstSlot file p (record { sess = sess; side = side }) c s → read s ≡ want)
      → option_and_then read (slice_get row side) ≡ (if nat_lt side 2 then want else None)
  at_side read sess side c row want first tells =
      elim (cases_lt side 2) [
        | inr past ↦ rw (side_past side past) (ap (option_and_then read) (slice_get_past row side (let n = first.count in omega (arith, n, past))))
        | inl below ↦
            rw (side_below side below)
            (let it = is_there row side (let n = first.count in omega (arith, n, below)) in
            ap (option_and_then read) it.1 ∙ tells it.0 (first.each side it.0 it.1))
      ]

  module _ (rows : Rows) (all : AreFirstRows file p (length file.connects) rows) where
    from_rows : {X : Type 0} (read : Slot → Option X) (e : EndId) (want : ConnectAt → Option X) → ((c : ConnectAt) (s : Slot) → IsFirstSlot file p e c s → read s ≡ want c)
        → option_and_then read (slot_in rows e) ≡ option_and_then want (connect_of file e)
    from_rows {X = X} read e want tells =
        elim (cases_lt e.sess (length file.connects)) [
          | inr past ↦
              let no_row : slot_in rows e ≡ None = ap (option_and_then (λ (row : Vec Slot Global). slice_get row.items e.side)) (slice_get_past rows e.sess (let n = all.count in omega (arith, n, past))) in
              ap (option_and_then read) no_row ∙ sym (ap (λ o. option_and_then want (if nat_lt e.side 2 then o else None)) (slice_get_past file.connects e.sess past) ∙ neither (nat_lt e.side 2))
          | inl within ↦
              let c = is_there file.connects e.sess within in
              let row = is_there rows e.sess (let n = all.count in omega (arith, n, within)) in
              ap (λ o. option_and_then read (option_and_then (λ (r : Vec Slot Global). slice_get r.items e.side) o)) row.1
              ∙ at_side read e.sess e.side c.0 row.0.items (want c.0) (all.each e.sess c.0 row.0 c.1 row.1) (tells c.0)
              ∙ choice (nat_lt e.side 2) c.0
              ∙ ap (λ o. option_and_then want (if nat_lt e.side 2 then o else None)) (sym c.1)
        ]
      where
        neither : (b : Bool) → ◌≡◌ {A = Option X} (option_and_then want (if b then None else None)) None
        neither true = refl
        neither false = refl

        choice : (b : Bool) (c : ConnectAt) → (if b then want c else None) ≡ option_and_then want (if b then Some c else None)
        choice true c = refl
        choice false c = refl

    pub uses_first : (e : EndId) → uses_in rows e ≡ (first_node file p).uses e
    uses_first e = from_rows (λ (s : Slot). s.used) e (first_use file p e) (λ c s first. first.used)

    pub records_first : (e : EndId) (h : ℕ) → records_in rows e h ≡ (first_node file p).records e h
    records_first e h =
        from_rows (λ (s : Slot). record_in s h) e (λ c. if h == 0 then first_record file p e c else None) (λ c s first. first.records h)
        ∙ apart (h == 0) (connect_of file e)
      where
        apart : (b : Bool) (o : Option ConnectAt) → option_and_then (λ c. if b then first_record file p e c else None) o ≡ (if b then option_and_then (first_record file p e) o else None)
        apart true o = refl
        apart false None = refl
        apart false (Some c) = refl

  -- a forwarder with these slots and nothing else
  pub forwarder_first : (d : Forwarder) → AreFirstRows file p (length file.connects) d.ends.items → d.requests ≡ 0 → d.offers.items ≡ [] → d.outs.items ≡ [] → IsFirst file p d
  forwarder_first d all requests offers outs = record {
    node = λ g i. record {
      program = g;
      requests = requests i;
      offers = λ q. offers_in (offers i) q;
      uses = λ e. uses_first d.ends.items all e i;
      records = λ e h. records_first d.ends.items all e h i;
    };
    lanes = λ q. ap (λ (xs : Outs). lane_in xs q) outs;
  }

-- ---- all parties

pub one_forwarder : (file : FileAt) (k : ℕ) (forwarders : List Forwarder) (d : Forwarder) → AreFirst file k forwarders → IsFirst file k d → AreFirst file (k + 1) (forwarders ++ d ∷ [])
one_forwarder file k forwarders d rest first = record {
  count = length-append forwarders (d ∷ []) ∙ ap (λ n. n + 1) rest.count;
  each = λ p x is.
      elim (behind forwarders d p x is) [
        | inl before ↦ rest.each p x before
        | inr last ↦ subst (λ (n : ℕ). IsFirst file n x) (sym (last.0 ∙ rest.count)) (subst (λ (y : Forwarder). IsFirst file k y) (sym last.1) first)
      ];
}
