-- Nodes of a place, one item after the other, and names under which kinds are appended.
use Rattle.std.proofs.Common.{◌≡◌, ◌∙◌, ℕ, zero, suc, ◌+◌, ◌<◌, ◌==◌, Bool, true, false, List, [], ◌∷◌, ◌++◌, length, get_or, map, take, Option, Some, None, if◌then◌else◌, add-one, eq-eqb, refl, ap, sym, arith}
use Rattle.std.proofs.lemmas.Bool.Decides.{Decides-eqb}
use Rattle.std.proofs.lemmas.List.{map-append}
use Rattle.std.specs.Prelude.{is_some}
use Rattle.sj_lang.specs.FileAt.{ProtocolAt, protocol_named}
use Rattle.sj_lang.specs.FileView.{protocol_of}
use Rattle.sj_lang.specs.Place.{Place, done}
use Rattle.sj_lang.specs.View.{followed}
use Rattle.sj_lang.specs.declared.file.ProtocolDef.{ProtocolDef}
use Rattle.sj_lang.specs.declared.proto.Item.{Item}
use Rattle.sj_lang.specs.declared.proto.Item.TheVariants.{Send, Recv, Select, Branch, OutLoop, InLoop}
use Rattle.sj_lang.proofs.WithinLemmas as sizes
use Rattle.sj_table.specs.Nodes.{node_count}
use Rattle.sj_seat.specs.Kinds.{AreNamedAlike}

pub nodes_followed : (i : Item) (rest : Place) → node_count (followed i rest) ≡ node_count (followed i done) + node_count rest
nodes_followed (Send k) rest = omega arith
nodes_followed (Recv k) rest = omega arith
nodes_followed (Select a) rest = omega arith
nodes_followed (Branch a) rest = omega arith
nodes_followed (OutLoop b) rest = omega arith
nodes_followed (InLoop b) rest = omega arith

pub ruleset kinds = (nodes_followed, sizes.item_within, sizes.arm_within)

-- two that are named alike one after the other
pub alike_later : (a b c : List ProtocolDef) → AreNamedAlike a b → AreNamedAlike b c → AreNamedAlike a c
alike_later a b c x y = λ p. y p ∙ x p

-- a name that is there stays there
pub still_named : (a b : List ProtocolDef) (n : ℕ) → AreNamedAlike a b → is_some (protocol_named (map protocol_of a) n) ≡ true → is_some (protocol_named (map protocol_of b) n) ≡ true
still_named a b n x h = ap is_some (x n) ∙ h

-- ---- one more protocol at the end, whose name is there before

abbrev option_or : Option Place → Option Place → Option Place
option_or None r = r
option_or (Some p) r = Some p

first_if : (b : Bool) (p : Place) (o r : Option Place) → (if b then Some p else option_or o r) ≡ option_or (if b then Some p else o) r
first_if true p o r = refl
first_if false p o r = refl

-- it is found first only where no other one is
more_if : (ps : List ProtocolAt) (q : ProtocolAt) (n : ℕ) → protocol_named (ps ++ q ∷ []) n ≡ option_or (protocol_named ps n) (if q.name == n then Some q.body else None)
more_if [] q n = refl
more_if (p ∷ ps) q n = ap (λ o. if p.name == n then Some p.body else o) (more_if ps q n) ∙ first_if (p.name == n) p.body (protocol_named ps n) (if q.name == n then Some q.body else None)

found_or : (b : Bool) (o : Option Place) (p : Place) → (b ≡ true → is_some o ≡ true) → option_or o (if b then Some p else None) ≡ o
found_or true None p h = absurd (cc (h refl))
found_or true (Some x) p h = refl
found_or false None p h = refl
found_or false (Some x) p h = refl

named_there : (ps : List ProtocolAt) (m n : ℕ) → is_some (protocol_named ps m) ≡ true → (m == n) ≡ true → is_some (protocol_named ps n) ≡ true
named_there ps m n h is = ap (λ k. is_some (protocol_named ps k)) (sym ((Decides-eqb m n).0 is)) ∙ h

pub one_more : (ds : List ProtocolDef) (d : ProtocolDef) → is_some (protocol_named (map protocol_of ds) d.name) ≡ true → AreNamedAlike ds (ds ++ d ∷ [])
one_more ds d h = λ n.
    ap (λ qs. protocol_named qs n) (map-append protocol_of ds (d ∷ [])) ∙ more_if (map protocol_of ds) (protocol_of d) n
    ∙ found_or (d.name == n) (protocol_named (map protocol_of ds) n) d.body (named_there (map protocol_of ds) d.name n h)

later : (b : Bool) (p : Place) (o : Option Place) → is_some o ≡ true → is_some (if b then Some p else o) ≡ true
later true p o h = refl
later false p o h = h

-- a protocol of a list is named there
pub def_named : (ds : List ProtocolDef) (k : ℕ) (d : ProtocolDef) → k < length ds → d ≡ get_or ds k d → is_some (protocol_named (map protocol_of ds) d.name) ≡ true
def_named [] k d lt is = absurd (omega arith)
def_named (x ∷ ds) zero d lt is = by (x.name == d.name) (eq-eqb x.name d.name (sym (ap (λ (y : ProtocolDef). y.name) is)))
  where
    by : (b : Bool) → b ≡ true → is_some (if b then Some x.body else protocol_named (map protocol_of ds) d.name) ≡ true
    by true h = refl
    by false h = absurd (cc h)
def_named (x ∷ ds) (suc k) d lt is = later (x.name == d.name) x.body (protocol_named (map protocol_of ds) d.name) (def_named ds k d (omega (arith, lt)) is)

-- ---- copies of protocols

-- one more copy
pub copied_next : (ds made : List ProtocolDef) (k : ℕ) (d e : ProtocolDef) → k < length ds → d ≡ get_or ds k d → protocol_of e ≡ protocol_of d
    → map protocol_of made ≡ map protocol_of (take k ds) → map protocol_of (made ++ e ∷ []) ≡ map protocol_of (take (k + 1) ds)
copied_next ds made k d e lt is same before =
    rw add-one
    (map-append protocol_of made (e ∷ []) ∙ (λ i. before i ++ same i ∷ []) ∙ (λ i. map protocol_of (take k ds) ++ protocol_of (is i) ∷ []) ∙ taken ds k d lt)
  where
    taken : (ds : List ProtocolDef) (k : ℕ) (d : ProtocolDef) → k < length ds → map protocol_of (take k ds) ++ protocol_of (get_or ds k d) ∷ [] ≡ map protocol_of (take (suc k) ds)
    taken [] k d lt = absurd (omega arith)
    taken (x ∷ ds) zero d lt = refl
    taken (x ∷ ds) (suc k) d lt = ap (λ qs. protocol_of x ∷ qs) (taken ds k d (omega (arith, lt)))
