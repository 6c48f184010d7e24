-- What a delivery keeps: the records and lanes fit the chains, and what is on its way to each end
-- is the same.
use Rattle.std.proofs.Common.{◌≡◌, ℕ, suc, ◌<◌, List, [], ◌∷◌, ◌++◌, refl, sym, subst, ap, ◌∙◌, append-nil}
use Rattle.std.specs.Prelude.{Bool, true, false, ◌&&◌, ◌==◌, if◌then◌else◌, Some, ⊤}
use Rattle.std.proofs.lemmas.Bool.{eqb-true, eq-eqb, ne_eqb}
use Rattle.std.proofs.lemmas.List.Elements.{filter_map-append}
use Rattle.sj_base.specs.declared.EndId.{EndId}
use Rattle.sj_rules.specs.Record.{is_same_end, other_end}
use Rattle.sj_forward_rules.specs.Record.{SentAt, StateAt, Held, Parked, Passing, Closed, FrameAt}
use Rattle.sj_forward_rules.specs.Node.{NodeAt}
use Rattle.sj_forward_rules.specs.World.{WorldAt, Lanes, lanes_with}
use Rattle.sj_forward_laws.specs.Roads.{Chains, inward, message_in, messages_in}
use Rattle.sj_forward_laws.specs.Pipe.{traffic, from_last, from_first, in_part, out_part, pipe}
use Rattle.sj_forward_laws.specs.Kept.{IsLeft, IsJoined}
use Rattle.sj_forward_laws.proofs.EndLemmas.{same_end, same_is}
use Rattle.sj_forward_laws.proofs.OpensLemmas.{OpensKeep}
use Rattle.sj_forward_laws.proofs.PartLemmas.{same_first, move_last}
use Rattle.sj_forward_laws.proofs.RecordLemmas.{written, for_all, same_pipe}

-- the same state, apart from what is stored
abbrev pub IsAlike : StateAt → StateAt → Type 0
IsAlike (Held ms) (Held ns) = ⊤
IsAlike (Parked ms) (Parked ns) = ⊤
IsAlike (Passing p) (Passing q) = p ≡ q
IsAlike Closed Closed = ⊤
IsAlike _ _ = ⊥

pub alike_self : (st : StateAt) → IsAlike st st
alike_self (Held ms) = tt
alike_self (Parked ms) = tt
alike_self (Passing p) = refl
alike_self Closed = tt

-- one record is written, with more stored
pub alike_written : (states : EndId → ℕ → StateAt) (e : EndId) (h : ℕ) (st : StateAt) → IsAlike (states e h) st → (d : EndId) (k : ℕ)
    → IsAlike (states d k) (written states e h st d k)
alike_written states e h st alike d k =
    for_all (λ d k. IsAlike (states d k) (written states e h st d k)) e h
    (let t : (is_same_end e e && (h == h)) ≡ true = ap (λ b. b && (h == h)) (same_end e) ∙ eq-eqb h h refl in
    subst (λ b. IsAlike (states e h) (if b then st else states e h)) (sym t) alike)
    d k (λ t. subst (λ b. IsAlike (states d k) (if b then st else states d k)) (sym t) (alike_self (states d k)))

pub left_alike : (e : EndId) (h next : ℕ) (claims : List FrameAt) (st st' : StateAt) → IsAlike st st' → IsLeft e h next claims st
    → IsLeft e h next claims st'
left_alike e h next claims (Held ms) st' alike left = absurd left
left_alike e h next claims (Parked ms) (Parked ns) alike left = left
left_alike e h next claims (Parked ms) (Held ns) alike left = absurd alike
left_alike e h next claims (Parked ms) (Passing q) alike left = absurd alike
left_alike e h next claims (Parked ms) Closed alike left = absurd alike
left_alike e h next claims (Passing p) (Passing q) alike left = (sym alike ∙ left.0, left.1)
left_alike e h next claims (Passing p) (Held ns) alike left = absurd alike
left_alike e h next claims (Passing p) (Parked ns) alike left = absurd alike
left_alike e h next claims (Passing p) Closed alike left = absurd alike
left_alike e h next claims Closed st' alike left = absurd left

-- what a delivery keeps
pub record IsMoved {Q : Type 0} (w v : WorldAt Q) (c : Chains) (states : EndId → ℕ → StateAt) : Type 0 where
  pub after : EndId → ℕ → StateAt
  pub joined : IsJoined v c after
  pub opens : (d : EndId) → OpensKeep d.sess (traffic w.lanes c (inward d 0)) (traffic v.lanes c (inward d 0))
  pub pipes : (d : EndId) → d.side < 2 → pipe v.lanes c after d ≡ pipe w.lanes c states d
  pub lasts : (d : EndId) → d.side < 2 → IsAlike (states d (c.top d)) (after d (c.top d))
  pub programs : (k : ℕ) → (v.nodes k).program ≡ (w.nodes k).program
  pub uses : (k : ℕ) (d : EndId) → (v.nodes k).uses d ≡ (w.nodes k).uses d

-- nothing is posted
pub quiet_lane : (p : ℕ) (lanes : Lanes) (from to : ℕ) → lanes_with p [] lanes from to ≡ lanes from to
quiet_lane p lanes from to = by (from == p)
  where
    by : (b : Bool) → (if b then lanes from to ++ [] else lanes from to) ≡ lanes from to
    by true = append-nil (lanes from to)
    by false = refl

-- and of two tests one fails
pub second_fails : (a b : Bool) → b ≡ false → (a && b) ≡ false
second_fails true b e = e
second_fails false b e = refl

-- another hop of an end
pub other_hop : (d e : EndId) (k h : ℕ) → (k ≡ h → ⊥) → (is_same_end d e && (k == h)) ≡ false
other_hop d e k h apart = second_fails (is_same_end d e) (k == h) (ne_eqb k h apart)

-- another end
pub other_name : (d e : EndId) (k h : ℕ) → is_same_end d e ≡ false → (is_same_end d e && (k == h)) ≡ false
other_name d e k h apart = ap (λ (b : Bool). b && (k == h)) apart

-- a frame first, and frames last
pub first_message : (f : FrameAt) (m : SentAt) (fs gs : List FrameAt) → message_in f ≡ Some m → fs ≡ f ∷ gs → messages_in fs ≡ m ∷ messages_in gs
first_message f m fs gs is e = ap (λ l. messages_in l) e ∙ rw is refl

pub last_messages : (fs gs hs : List FrameAt) (ms : List SentAt) → messages_in hs ≡ ms → fs ≡ gs ++ hs → messages_in fs ≡ messages_in gs ++ ms
last_messages fs gs hs ms is e = ap (λ l. messages_in l) e ∙ filter_map-append message_in gs hs ∙ ap (λ l. messages_in gs ++ l) is

-- what an event at p makes of the programs and the ends in use
module _ {Q : Type 0} (nodes : ℕ → NodeAt Q) (p : ℕ) (n : NodeAt Q) where
  pub programs_stay : n.program ≡ (nodes p).program → (k : ℕ) → (if k == p then n else nodes k).program ≡ (nodes k).program
  programs_stay same k = by (k == p) refl
    where
      by : (b : Bool) → (k == p) ≡ b → (if b then n else nodes k).program ≡ (nodes k).program
      by true t = same ∙ ap (λ (x : ℕ). (nodes x).program) (sym (eqb-true k p t))
      by false t = refl

  pub uses_stay : ((d : EndId) → n.uses d ≡ (nodes p).uses d) → (k : ℕ) (d : EndId) → (if k == p then n else nodes k).uses d ≡ (nodes k).uses d
  uses_stay same k d = by (k == p) refl
    where
      by : (b : Bool) → (k == p) ≡ b → (if b then n else nodes k).uses d ≡ (nodes k).uses d
      by true t = same d ∙ ap (λ (x : ℕ). (nodes x).uses d) (sym (eqb-true k p t))
      by false t = refl

-- messages go on from one record of an end to the next
module _ (c : Chains) (lanes lanes' : Lanes) (states states' : EndId → ℕ → StateAt) (e : EndId) (h : ℕ) (xs : List SentAt) (below : h < c.top e)
    (pop : in_part lanes c states e h ≡ xs ++ in_part lanes' c states' e h)
    (push : in_part lanes' c states' e (suc h) ≡ in_part lanes c states e (suc h) ++ xs)
    (ins : (d : EndId) (k : ℕ) → (is_same_end d e && (k == h)) ≡ false → (is_same_end d e && (k == suc h)) ≡ false
    → in_part lanes' c states' d k ≡ in_part lanes c states d k)
    (outs : (d : EndId) (k : ℕ) → out_part lanes' c states' d k ≡ out_part lanes c states d k)
  where
    moved_here : pipe lanes' c states' e ≡ pipe lanes c states e
    moved_here =
        ap (λ z. z ++ from_first (out_part lanes' c states' (other_end e)) (c.top (other_end e)))
        (move_last (in_part lanes c states e) (in_part lanes' c states' e) (c.top e) h xs below pop push
        (λ k i j. ins e k (other_hop e e k h i) (other_hop e e k (suc h) j)))
        ∙ ap (λ z. from_last (in_part lanes c states e) (c.top e) ++ z)
        (same_first (out_part lanes c states (other_end e)) (out_part lanes' c states' (other_end e)) (c.top (other_end e))
        (λ k l. outs (other_end e) k))

    pub pipes_on : (d : EndId) → pipe lanes' c states' d ≡ pipe lanes c states d
    pipes_on d = by (is_same_end d e) refl
      where
        by : (b : Bool) → is_same_end d e ≡ b → pipe lanes' c states' d ≡ pipe lanes c states d
        by true t = subst (λ x. pipe lanes' c states' x ≡ pipe lanes c states x) (sym (same_is d e t)) moved_here
        by false t =
            same_pipe c states lanes lanes' states' d (λ k l. ins d k (other_name d e k h t) (other_name d e k (suc h) t))
            (λ k l. outs (other_end d) k)
