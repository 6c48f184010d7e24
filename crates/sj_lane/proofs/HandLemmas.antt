-- Lanes after the frames that wait in one ring were handed over.
use Rattle.std.proofs.Common.{◌≡◌, ℕ, ◌<◌, ◌≤◌, ◌++◌, List, length, refl, sym, ap, ◌∙◌, arith}
use Rattle.std.proofs.Math.ListN.{set}
use Rattle.std.specs.Prelude.{Bool, Option, Some, None, Result, Ok, Err, IfOk, IfSome, slice_get, true}
use Rattle.rtrb.specs.Ring.{sent}
use Rattle.sj_lang.specs.Place.{Place}
use Rattle.sj_rules.specs.Frames.{FrameAt}
use Rattle.sj_end.specs.declared.frames.Frame.{Frame}
use Rattle.std.proofs.lemmas.List.{map-append}
use Rattle.sj_lane.specs.Told.{told_frame, told_list}
use Rattle.sj_lane.specs.declared.lane.Lanes.{Lanes}
use Rattle.sj_lane.specs.declared.ends.RingOut.{RingOut}
use Rattle.sj_lane.specs.declared.ends.RingIn.{RingIn}
use Rattle.sj_lane.specs.Rings.{Each2, InKept, IsRestOf, Joined, LanesKept, OutKept, OutsKept, frames_popped, frames_pushed, popped_of}
use Rattle.sj_lane.specs.Square.{AllJoined, IsRest, IsSquare, NoneFell, SameIn, SameLists, SameOut, in_at, in_in, out_at, out_in}
use Rattle.sj_lane.proofs.EachLemmas.{each2_back, each2_length, each2_refl}
use Rattle.sj_lane.proofs.ColumnLemmas.{joined_kept, out_itself}
use Rattle.sj_lane.proofs.SettleLemmas.{emptied, in_back, in_forth, out_back, out_forth, out_of_emptied}

-- what is said of the frames, if there are any, may be said otherwise
pub rest_more : {X E : Type 0} (r : Result (Option X) E) (A B : X → Type 0) → ((x : X) → A x → B x) → IfOk r (λ o. IfSome o A) → IfOk r (λ o. IfSome o B)
rest_more (Ok (Some x)) A B more h = more x h
rest_more (Ok None) A B more h = h
rest_more (Err e) A B more h = h

pub outs_itself : (L : List (Lanes RingOut RingIn)) → Each2 OutsKept L L
outs_itself L = each2_refl OutsKept (λ l. record { outs = each2_refl OutKept out_itself l.outs.items; ins = refl }) L

-- the ring of a column that was taken out is the one that was there
pub rest_there : (L : List (Lanes RingOut RingIn)) (p q : ℕ) (l l1 : Lanes RingOut RingIn) (C : List RingIn) (frames : List Frame) → slice_get L q ≡ Some l → l1.outs ≡ l.outs → C ≡ l.ins.items
    → IsRestOf (out_at (set L q l1) p q) (slice_get C p) frames → IsRestOf (out_at L p q) (in_at L p q) frames
rest_there L p q l l1 C frames at same column r = record {
  producer = r.producer;
  consumer = r.consumer;
  there = out_of_emptied L (set L q l1) p q r.producer (emptied L q l l1 at same) r.there;
  here = ap (λ s. in_in s p) at ∙ ap (λ xs. slice_get xs p) (sym column) ∙ r.here;
  all = r.all;
}

module _ (L M : List (Lanes RingOut RingIn)) (a : Each2 LanesKept L M) where
  pub square_kept : IsSquare L → IsSquare M
  square_kept h = λ p m at.
      let x = each2_back LanesKept L M p m a at in
      let s = h p x.0 x.1 in
      let n = each2_length LanesKept L M a in
      let i = each2_length OutKept x.0.outs.items m.outs.items x.2.outs in
      let j = each2_length InKept x.0.ins.items m.ins.items x.2.ins in
      (omega (arith, s.0, n, i, m.outs.ok, x.0.outs.ok), omega (arith, s.1, n, j, m.ins.ok, x.0.ins.ok))

  pub all_joined_kept : AllJoined Joined L → AllJoined Joined M
  all_joined_kept h = λ p q o i out into.
      let x = out_back L M p q o a out in
      let y = in_back L M p q i a into in
      joined_kept x.0 o y.0 i x.2 y.2 (h p q x.0 y.0 x.1 y.1)

  pub lists_kept : SameLists frames_pushed frames_popped (λ (o : RingOut). o.vain) (λ (i : RingIn). i.vain) L M
  lists_kept = record { outs = λ p q. outs p q (out_at L p q) (out_at M p q) refl refl; ins = λ p q. ins p q (in_at L p q) (in_at M p q) refl refl }
    where
      outs : (p q : ℕ) (b c : Option RingOut) → out_at L p q ≡ b → out_at M p q ≡ c → SameOut frames_pushed frames_popped (λ (o : RingOut). o.vain) (λ (i : RingIn). i.vain) b c
      outs p q None None i j = tt
      outs p q None (Some c) i j = let x = out_back L M p q c a j in let e : None ≡ Some x.0 = sym i ∙ x.1 in absurd (cc e)
      outs p q (Some b) None i j = let x = out_forth L M p q b a i in let e : None ≡ Some x.0 = sym j ∙ x.1 in absurd (cc e)
      outs p q (Some b) (Some c) i j =
          let x = out_forth L M p q b a i in
          let e : Some x.0 ≡ Some c = sym x.1 ∙ j in
          let same : x.0 ≡ c = cc e in
          (ap frames_pushed (sym same) ∙ ap (λ fs. Some (told_list fs)) x.2.sent, ap (λ (o : RingOut). o.vain) (sym same) ∙ x.2.vain)

      ins : (p q : ℕ) (b c : Option RingIn) → in_at L p q ≡ b → in_at M p q ≡ c → SameIn frames_pushed frames_popped (λ (o : RingOut). o.vain) (λ (i : RingIn). i.vain) b c
      ins p q None None i j = tt
      ins p q None (Some c) i j = let x = in_back L M p q c a j in let e : None ≡ Some x.0 = sym i ∙ x.1 in absurd (cc e)
      ins p q (Some b) None i j = let x = in_forth L M p q b a i in let e : None ≡ Some x.0 = sym j ∙ x.1 in absurd (cc e)
      ins p q (Some b) (Some c) i j =
          let x = in_forth L M p q b a i in
          let e : Some x.0 ≡ Some c = sym x.1 ∙ j in
          let same : x.0 ≡ c = cc e in
          (ap frames_popped (sym same) ∙ ap (λ fs. Some (told_list fs)) x.2.popped, ap (λ (i : RingIn). i.vain) (sym same) ∙ x.2.vain)

-- as lanes report it
pub told_rest : (L : List (Lanes RingOut RingIn)) (p q : ℕ) (frames : List Frame) → IsRestOf (out_at L p q) (in_at L p q) frames → IsRest frames_pushed frames_popped L p q frames
told_rest L p q frames r = record {
  out = r.producer;
  into = r.consumer;
  there = r.there;
  here = r.here;
  got = told_list (popped_of r.consumer);
  popped_is = refl;
  pushed_is = ap (λ fs. Some (told_list fs)) r.all ∙ ap Some (map-append told_frame (popped_of r.consumer) frames);
}
