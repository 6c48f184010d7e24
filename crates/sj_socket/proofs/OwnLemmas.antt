-- What a party sent to itself, while all that waits in lanes is moved on.
use Rattle.std.proofs.Common.{zero, suc, ◌≡◌, ℕ, ◌+◌, ◌<◌, List, [], ◌∷◌, ◌++◌, length, get_or, Option, Some, None, Result, Ok, Err, OnOk, refl, sym, ap, subst, ◌∙◌, inl, inr, arith}
use Rattle.std.specs.Prelude.{◌⊎◌, slice_get}
use Rattle.std.proofs.Math.ListN.{set}
use Rattle.std.proofs.lemmas.Bool.{cases_eq}
use Rattle.std.proofs.lemmas.Option.{slice_get_cases, slice_get_read, slice_get_within}
use Rattle.sj_end.specs.declared.frames.Frame.{Frame}
use Rattle.sj_lane.specs.Rings.{Each2}
use Rattle.sj_lane.specs.declared.lane.Lanes.{Lanes}
use Rattle.sj_lane.specs.Square.{AllJoined, IsSquare, in_at, in_in, out_at, out_in}
use Rattle.sj_lane.proofs.CellLemmas.{get_set_here, get_set_other}
use Rattle.sj_lane.proofs.EachLemmas.{each2_put, each2_refl}
use Rattle.sj_socket.specs.Ins as ins
use Rattle.sj_socket.specs.Joined.{IsJoined}
use Rattle.sj_socket.specs.Outs as outs
use Rattle.sj_socket.specs.Own.{IsMoved, SameSent, WayIsMoved, came_on, list_in, list_out, own_all, own_came, own_sent, sent_on}
use Rattle.sj_socket.specs.Streams.{TcpIn, TcpOut}
use Rattle.sj_socket.specs.declared.in_lane.InWay.{InWay}
use Rattle.sj_socket.specs.declared.in_lane.InWay.TheVariants as into
use Rattle.sj_socket.specs.declared.out_lane.OutWay.{OutWay}
use Rattle.sj_socket.specs.declared.out_lane.OutWay.TheVariants as out
use Rattle.sj_socket.proofs.LinkLemmas.{before_or_at}

pub lists_itself : (xs : List TcpOut) → Each2 SameSent xs xs
lists_itself xs = each2_refl SameSent (λ o. refl) xs

-- of one lane of a party more
pub lists_put : (xs ys : List TcpOut) (k : ℕ) (o r : TcpOut) → Each2 SameSent xs ys → slice_get ys k ≡ Some o → SameSent o r → Each2 SameSent xs (set ys k r)
lists_put xs ys k o r same at now = each2_put SameSent xs ys k o r same at (λ x h. now ∙ h)

pub sent_same : (xs ys : List TcpOut) (q : ℕ) → Each2 SameSent xs ys → sent_on (slice_get ys q) ≡ sent_on (slice_get xs q)
sent_same [] [] q h = refl
sent_same [] (y ∷ ys) q h = absurd h
sent_same (x ∷ xs) [] q h = absurd h
sent_same (x ∷ xs) (y ∷ ys) zero h = h.0
sent_same (x ∷ xs) (y ∷ ys) (suc q) h = sent_same xs ys q h.1

-- the two ends of a party's list, after the streams were tried
pub own_put : (is : List TcpIn) (xs ys : List TcpOut) (k : ℕ) (i j : TcpIn) (o r : TcpOut) → slice_get is k ≡ Some i → slice_get ys k ≡ Some o → Each2 SameSent xs ys →
    list_in j.way ++ list_out r.way ≡ list_in i.way ++ list_out o.way →
    came_on (slice_get (set is k j) k) ++ sent_on (slice_get (set ys k r) k) ≡ came_on (slice_get is k) ++ sent_on (slice_get xs k)
own_put is xs ys k i j o r at bt same own =
    ap (λ (s : Option TcpIn). came_on s ++ sent_on (slice_get (set ys k r) k)) (get_set_here is k j (slice_get_within is k i at))
    ∙ ap (λ (s : Option TcpOut). list_in j.way ++ sent_on s) (get_set_here ys k r (slice_get_within ys k o bt))
    ∙ own
    ∙ ap (λ (s : Option TcpIn). came_on s ++ list_out o.way) (sym at)
    ∙ ap (λ (s : Option TcpOut). came_on (slice_get is k) ++ sent_on s) (sym bt)
    ∙ ap (λ (fs : List Frame). came_on (slice_get is k) ++ fs) (sent_same xs ys k same)

pub own_tried : (is : List TcpIn) (xs ys : List TcpOut) (k : ℕ) → Each2 SameSent xs ys →
    came_on (slice_get is k) ++ sent_on (slice_get ys k) ≡ came_on (slice_get is k) ++ sent_on (slice_get xs k)
own_tried is xs ys k same = ap (λ (fs : List Frame). came_on (slice_get is k) ++ fs) (sent_same xs ys k same)

pub moved_put : (is : List TcpIn) (ys : List TcpOut) (k : ℕ) (i j : TcpIn) (o r : TcpOut) → slice_get is k ≡ Some i → slice_get ys k ≡ Some o → WayIsMoved r.way j.way →
    IsMoved (slice_get (set ys k r) k) (slice_get (set is k j) k)
moved_put is ys k i j o r at bt moved = rw (get_set_here ys k r (slice_get_within ys k o bt), get_set_here is k j (slice_get_within is k i at)) moved

-- there is nothing to move where an end is missing
pub moved_past : (s : Option TcpOut) (t : Option TcpIn) → (s ≡ None) ⊎ (t ≡ None) → IsMoved s t
moved_past None t h = tt
moved_past (Some o) None h = tt
moved_past (Some o) (Some i) (inl e) = absurd (cc e)
moved_past (Some o) (Some i) (inr e) = absurd (cc e)

-- both ends of a party's list, where the party is there
abbrev both : Option (Lanes TcpOut TcpIn) → ℕ → List Frame
both s p = came_on (in_in s p) ++ sent_on (out_in s p)

-- of one party more
pub all_put : (L M : List (Lanes TcpOut TcpIn)) (k : ℕ) (l m : Lanes TcpOut TcpIn) → k < length M → l ≡ get_or M k l → own_all m k ≡ own_all l k →
    ((p : ℕ) → own_came M p ++ own_sent M p ≡ own_came L p ++ own_sent L p) → (p : ℕ) → own_came (set M k m) p ++ own_sent (set M k m) p ≡ own_came L p ++ own_sent L p
all_put L M k l m lt is own so p = by (cases_eq p k)
  where
    at : slice_get M k ≡ Some l
    at = slice_get_read M (length M) k l refl lt is

    by : (p ≡ k) ⊎ (p ≡ k → ⊥) → both (slice_get (set M k m) p) p ≡ both (slice_get L p) p
    by (inl same) = subst (λ (q : ℕ). both (slice_get (set M k m) q) q ≡ both (slice_get L q) q) (sym same)
        (ap (λ (s : Option (Lanes TcpOut TcpIn)). both s k) (get_set_here M k m lt) ∙ own ∙ ap (λ (s : Option (Lanes TcpOut TcpIn)). both s k) (sym at) ∙ so k)
    by (inr apart) = ap (λ (s : Option (Lanes TcpOut TcpIn)). both s p) (get_set_other M k p m apart) ∙ so p

pub moved_more : (M : List (Lanes TcpOut TcpIn)) (k : ℕ) (m : Lanes TcpOut TcpIn) → k < length M → IsMoved (slice_get m.outs.items k) (slice_get m.ins.items k) →
    ((p : ℕ) → p < k → IsMoved (out_at M p p) (in_at M p p)) → (p : ℕ) → p < k + 1 → IsMoved (out_at (set M k m) p p) (in_at (set M k m) p p)
moved_more M k m lt moved so p below = by (cases_eq p k)
  where
    by : (p ≡ k) ⊎ (p ≡ k → ⊥) → IsMoved (out_in (slice_get (set M k m) p) p) (in_in (slice_get (set M k m) p) p)
    by (inl same) = subst (λ (q : ℕ). IsMoved (out_in (slice_get (set M k m) q) q) (in_in (slice_get (set M k m) q) q)) (sym same) (rw (get_set_here M k m lt) moved)
    by (inr apart) = rw (get_set_other M k p m apart) (elim (before_or_at p k below) [ inl less ↦ so p less | inr e ↦ absurd (apart e) ])

-- a list whose other end is one
moved_ways : {W R : Type 0} (v : OutWay W) (w : InWay R) → ins.way_address w ≡ outs.way_address v → WayIsMoved v w → list_out v ≡ []
moved_ways (out.Own xs) (into.Own ys) e moved = moved
moved_ways (out.Own xs) (into.Stream r) e moved = absurd (cc e)
moved_ways (out.Stream v) w e moved = refl

moved_both : (s : Option TcpOut) (t : Option TcpIn) → (t ≡ None → ⊥) → ((o : TcpOut) (i : TcpIn) → s ≡ Some o → t ≡ Some i → IsJoined o i) → IsMoved s t → sent_on s ≡ []
moved_both None t there joined moved = refl
moved_both (Some o) None there joined moved = absurd (there refl)
moved_both (Some o) (Some i) there joined moved = moved_ways o.way i.way (joined o i refl refl) moved

-- so nothing that a party sent to itself waits, where its two ends are joined
pub all_moved : (M : List (Lanes TcpOut TcpIn)) → IsSquare M → AllJoined IsJoined M → ((p : ℕ) → p < length M → IsMoved (out_at M p p) (in_at M p p)) →
    (n : ℕ) → n ≡ length M → (p : ℕ) → p < n → own_sent M p ≡ []
all_moved M square joined moved n size p lt = moved_both (out_at M p p) (in_at M p p) there (joined p p) (moved p (omega (arith, lt, size)))
  where
    there : in_at M p p ≡ None → ⊥
    there none = elim (slice_get_cases M p).1 [
      | inl h ↦ let sizes = square p h.0 h.2 in let same = h.0.ins.ok in elim (slice_get_cases h.0.ins.items p).1 [
        | inl k ↦ let e : Some k.0 ≡ None = sym (ap (λ (s : Option (Lanes TcpOut TcpIn)). in_in s p) h.2 ∙ k.2) ∙ none in absurd (cc e)
        | inr k ↦ absurd (omega (arith, lt, size, k.0, same, sizes.1))
      ]
      | inr h ↦ absurd (omega (arith, lt, size, h.0))
    ]

pub on_ok : {E A B : Type 0} (r : Result (Unit {0}) E) → (A → B) → OnOk r A → OnOk r B
on_ok (Ok u) f a = f a
on_ok (Err e) f a = tt
