-- What stays of all lanes while their streams are tried.
use Rattle.std.proofs.Common.{zero, suc, ◌≡◌, ℕ, ◌<◌, ◌≤◌, List, [], ◌∷◌, length, get_or, Option, Some, None, refl, sym, ap, ◌∙◌, arith}
use Rattle.std.specs.Prelude.{slice_get}
use Rattle.std.proofs.Math.ListN.{set}
use Rattle.std.proofs.lemmas.Option.{slice_get_read}
use Rattle.sj_lang.specs.Place.{Place}
use Rattle.sj_rules.specs.Frames.{FrameAt}
use Rattle.sj_lane.specs.Rings.{Each2}
use Rattle.sj_lane.specs.declared.lane.Lanes.{Lanes}
use Rattle.sj_lane.specs.Square.{AllJoined, IsSquare, NoneFell, SameLists, SameIn, SameOut, in_at, in_in, out_at, out_in}
use Rattle.sj_lane.proofs.EachLemmas.{each2_back, each2_length, each2_put, each2_refl, each2_trans}
use Rattle.sj_lane.proofs.SettleLemmas.{in_found, out_found}
use Rattle.sj_socket.specs.Joined.{IsJoined}
use Rattle.sj_socket.specs.Ins.{WayStays}
use Rattle.sj_socket.specs.Kept.{AreCarried, InKept, LanesKept, OutKept}
use Rattle.sj_socket.specs.Outs.{WayFlushes}
use Rattle.sj_socket.specs.Streams.{TcpIn, TcpOut, told}
use Rattle.sj_socket.proofs.StreamLemmas.{flushes_later, stays_later, way_flushes, way_stays}

pub in_itself : (i : TcpIn) → InKept i i
in_itself i = record { vain = refl; faults = omega arith; address = refl; bytes = way_stays i.way }

pub in_later : (a b c : TcpIn) → InKept a b → InKept b c → InKept a c
in_later a b c x y = record {
  vain = y.vain ∙ x.vain;
  faults = let p = x.faults in let q = y.faults in omega (arith, p, q);
  address = y.address ∙ x.address;
  bytes = stays_later a.way b.way c.way x.bytes y.bytes;
}

-- what stands at an index of both lists
at_both : {X Y : Type 0} (R : X → Y → Type 0) (S : Option X → Option Y → Type 0) → S None None → ((x : X) (y : Y) → R x y → S (Some x) (Some y)) →
    (xs : List X) (ys : List Y) (i : ℕ) → Each2 R xs ys → S (slice_get xs i) (slice_get ys i)
at_both R S none some [] [] i both = none
at_both R S none some [] (y ∷ ys) i both = absurd both
at_both R S none some (x ∷ xs) [] i both = absurd both
at_both R S none some (x ∷ xs) (y ∷ ys) zero both = some x y both.0
at_both R S none some (x ∷ xs) (y ∷ ys) (suc i) both = at_both R S none some xs ys i both.1

-- the counts of what stands at an index of two lists, where it stands in both
abbrev pub Fell : {X : Type 0} → (X → ℕ) → Option X → Option X → Type 0
Fell {X} f s t = (a b : X) → s ≡ Some a → t ≡ Some b → f a ≤ f b

fell_none : {X : Type 0} (f : X → ℕ) → Fell f None None
fell_none f a b at = absurd (cc at)

fell_some : {X : Type 0} (f : X → ℕ) (x y : X) → f x ≤ f y → Fell f (Some x) (Some y)
fell_some f x y le a b at bt = let p : x ≡ a = cc at in let q : y ≡ b = cc bt in rw (← p, ← q) le

-- a lane that reports no list
abbrev pub Untold : Type 0
Untold = Option (List (FrameAt Place))

pub ins_put : (xs : List TcpIn) (k : ℕ) (i j : TcpIn) → slice_get xs k ≡ Some i → InKept i j → Each2 InKept xs (set xs k j)
ins_put xs k i j at now = each2_put InKept xs xs k i j (each2_refl InKept in_itself xs) at (λ x h. in_later x i j h now)

pub ins_same : (xs : List TcpIn) → Each2 InKept xs xs
ins_same xs = each2_refl InKept in_itself xs

pub out_itself : (o : TcpOut) → OutKept told o o
out_itself o = record { vain = refl; faults = omega arith; address = refl; bytes = way_flushes told o.way }

pub out_later : (a b c : TcpOut) → OutKept told a b → OutKept told b c → OutKept told a c
out_later a b c x y = record {
  vain = y.vain ∙ x.vain;
  faults = let p = x.faults in let q = y.faults in omega (arith, p, q);
  address = y.address ∙ x.address;
  bytes = flushes_later told a.way b.way c.way x.bytes y.bytes;
}

pub lanes_itself : (l : Lanes TcpOut TcpIn) → LanesKept l l
lanes_itself l = record { outs = each2_refl (OutKept told) out_itself l.outs.items; ins = each2_refl InKept in_itself l.ins.items }

pub lanes_later : (a b c : Lanes TcpOut TcpIn) → LanesKept a b → LanesKept b c → LanesKept a c
lanes_later a b c x y = record {
  outs = each2_trans (OutKept told) (OutKept told) (OutKept told) out_later a.outs.items b.outs.items c.outs.items x.outs y.outs;
  ins = each2_trans InKept InKept InKept in_later a.ins.items b.ins.items c.ins.items x.ins y.ins;
}

module _ (L M : List (Lanes TcpOut TcpIn)) (kept : Each2 LanesKept L M) where
  pub still_square : IsSquare L → IsSquare M
  still_square square p m at =
      let l = each2_back LanesKept L M p m kept at in
      let was = square p l.0 l.1 in
      let size = each2_length LanesKept L M kept in
      let outs = each2_length (OutKept told) l.0.outs.items m.outs.items l.2.outs in
      let ins = each2_length InKept l.0.ins.items m.ins.items l.2.ins in
      let a = l.0.outs.ok in let b = l.0.ins.ok in let c = m.outs.ok in let d = m.ins.ok in
      (omega arith, omega arith)

  pub still_joined : AllJoined IsJoined L → AllJoined IsJoined M
  still_joined joined p q o i at bt =
      let f = out_found (slice_get M p) q o at in
      let g = in_found (slice_get M q) p i bt in
      let l = each2_back LanesKept L M p f.0 kept f.1 in
      let k = each2_back LanesKept L M q g.0 kept g.1 in
      let a = each2_back (OutKept told) l.0.outs.items f.0.outs.items q o l.2.outs f.2 in
      let b = each2_back InKept k.0.ins.items g.0.ins.items p i k.2.ins g.2 in
      let was : IsJoined a.0 b.0 = joined p q a.0 b.0 (ap (λ s. out_in s q) l.1 ∙ a.1) (ap (λ s. in_in s p) k.1 ∙ b.1) in
      let out : OutKept told a.0 o = a.2 in
      let into : InKept b.0 i = b.2 in
      into.address ∙ was ∙ sym out.address

  -- what holds of each lane and what it became holds at each index
  outs_both : (S : Option TcpOut → Option TcpOut → Type 0) → S None None → ((x y : TcpOut) → OutKept told x y → S (Some x) (Some y)) →
      (p q : ℕ) → S (out_at L p q) (out_at M p q)
  outs_both S none some p q = at_both LanesKept (λ s t. S (out_in s q) (out_in t q)) none
      (λ l m h. at_both (OutKept told) S none some l.outs.items m.outs.items q h.outs) L M p kept

  ins_both : (S : Option TcpIn → Option TcpIn → Type 0) → S None None → ((x y : TcpIn) → InKept x y → S (Some x) (Some y)) →
      (p q : ℕ) → S (in_at L p q) (in_at M p q)
  ins_both S none some p q = at_both LanesKept (λ s t. S (in_in s p) (in_in t p)) none
      (λ l m h. at_both InKept S none some l.ins.items m.ins.items p h.ins) L M q kept

  pub same_lists : (list : Untold) → SameLists {O = TcpOut} {I = TcpIn} (λ o. list) (λ i. list) (λ o. o.vain) (λ i. i.vain) L M
  same_lists list = record {
    outs = λ p q. outs_both (SameOut {O = TcpOut} {I = TcpIn} (λ o. list) (λ i. list) (λ o. o.vain) (λ i. i.vain)) tt (λ x y h. (refl, h.vain)) p q;
    ins = λ p q. ins_both (SameIn {O = TcpOut} {I = TcpIn} (λ o. list) (λ i. list) (λ o. o.vain) (λ i. i.vain)) tt (λ x y h. (refl, h.vain)) p q;
  }

  pub none_fell : NoneFell {O = TcpOut} {I = TcpIn} (λ o. o.faults) (λ i. i.faults) L M
  none_fell = record {
    outs = λ p q. outs_both (Fell (λ (o : TcpOut). o.faults)) (fell_none (λ (o : TcpOut). o.faults))
        (λ x y h. fell_some (λ (o : TcpOut). o.faults) x y h.faults) p q;
    ins = λ p q. ins_both (Fell (λ (i : TcpIn). i.faults)) (fell_none (λ (i : TcpIn). i.faults))
        (λ x y h. fell_some (λ (i : TcpIn). i.faults) x y h.faults) p q;
  }

  pub all_carried : AreCarried L M
  all_carried = record {
    outs = λ p q. outs_both (λ s t. (o r : TcpOut) → s ≡ Some o → t ≡ Some r → WayFlushes told o.way r.way) (λ o r at. absurd (cc at))
        (λ x y h o r at bt. let e : x ≡ o = cc at in let f : y ≡ r = cc bt in rw (← e, ← f) h.bytes) p q;
    ins = λ p q. ins_both (λ s t. (i j : TcpIn) → s ≡ Some i → t ≡ Some j → WayStays i.way j.way) (λ i j at. absurd (cc at))
        (λ x y h i j at bt. let e : x ≡ i = cc at in let f : y ≡ j = cc bt in rw (← e, ← f) h.bytes) p q;
  }

-- of one lane of a party more
pub outs_put : (xs ys : List TcpOut) (k : ℕ) (o r : TcpOut) → Each2 (OutKept told) xs ys → slice_get ys k ≡ Some o → OutKept told o r → Each2 (OutKept told) xs (set ys k r)
outs_put xs ys k o r kept at now = each2_put (OutKept told) xs ys k o r kept at (λ x h. out_later x o r h now)

-- of one party more
pub party_put : (L M : List (Lanes TcpOut TcpIn)) (k : ℕ) (l m : Lanes TcpOut TcpIn) → Each2 LanesKept L M → k < length M → l ≡ get_or M k l →
    LanesKept l m → Each2 LanesKept L (set M k m)
party_put L M k l m kept lt is now =
    each2_put LanesKept L M k l m kept (slice_get_read M (length M) k l refl lt is) (λ x h. lanes_later x l m h now)
