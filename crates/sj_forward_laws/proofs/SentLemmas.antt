-- A message leaves the last record of its end: what is on its way then.
use Rattle.std.proofs.Common.{Some, ◌≡◌, ℕ, zero, suc, ◌<◌, List, [], ◌∷◌, ◌++◌, refl, sym, subst, ap, ◌∙◌, arith, append-nil, append_assoc}
use Rattle.std.specs.Prelude.{false}
use Rattle.sj_base.specs.declared.EndId.{EndId}
use Rattle.sj_rules.specs.Record.{is_same_end, other_end}
use Rattle.sj_forward_rules.specs.Record.{SentAt, StateAt, stored}
use Rattle.sj_forward_rules.specs.Node.{onward}
use Rattle.sj_forward_rules.specs.World.{Lanes, lanes_with}
use Rattle.sj_forward_laws.specs.Roads.{Chains, Road, inward, outward, is_road, behind_of, messages_in, message_in}
use Rattle.sj_forward_laws.specs.Pipe.{traffic, from_last, from_first, in_part, out_part, pipe}
use Rattle.sj_forward_laws.proofs.EndLemmas.{other_other, other_apart}
use Rattle.sj_forward_laws.proofs.PartLemmas.{same_last, same_first, push_last, push_first}
use Rattle.sj_forward_laws.proofs.RoadLemmas.{push_same, push_here}
use Rattle.sj_forward_laws.proofs.MovedLemmas.{other_hop, other_name, first_message, last_messages}
use Rattle.sj_forward_laws.proofs.OutLemmas.{road_onward, onward_post, onward_start}

-- as much is stored everywhere
pub stored_in : (c : Chains) (states states' : EndId → ℕ → StateAt) (lanes lanes' : Lanes)
    → ((d : EndId) (k : ℕ) → stored (states' d k) ≡ stored (states d k)) → (d : EndId) (k : ℕ)
    → traffic lanes' c (inward d k) ≡ traffic lanes c (inward d k) → in_part lanes' c states' d k ≡ in_part lanes c states d k
stored_in c states states' lanes lanes' same d k road =
    ap (λ s. s ++ messages_in (traffic lanes' c (inward d k))) (same d k) ∙ ap (λ l. stored (states d k) ++ messages_in l) road

module _ (c : Chains) (lanes : Lanes) (p : ℕ) (e : EndId) (low : e.side < 2) (m : SentAt) where
  -- the lanes once it left the record of that hop
  abbrev pub posted : ℕ → Lanes
  posted t = lanes_with p (onward e t (behind_of c e t) m ∷ []) lanes

  pub sent_same : (t : ℕ) → c.at e t ≡ p → (r : Road) → is_road r (road_onward e t) ≡ false → traffic (posted t) c r ≡ traffic lanes c r
  sent_same t at r apart =
      push_same c lanes p (road_onward e t) (onward_start c e t low ∙ at) (onward e t (behind_of c e t) m ∷ []) (onward_post c e t m) r apart

  sent_here : (t : ℕ) → c.at e t ≡ p → message_in (onward e t (behind_of c e t) m).frame ≡ Some m
      → messages_in (traffic (posted t) c (road_onward e t)) ≡ messages_in (traffic lanes c (road_onward e t)) ++ m ∷ []
  sent_here t at is =
      last_messages (traffic (posted t) c (road_onward e t)) (traffic lanes c (road_onward e t)) ((onward e t (behind_of c e t) m).frame ∷ [])
      (m ∷ [])
      (first_message (onward e t (behind_of c e t) m).frame m ((onward e t (behind_of c e t) m).frame ∷ []) [] is refl)
      (push_here c lanes p (road_onward e t) (onward_start c e t low ∙ at) (onward e t (behind_of c e t) m ∷ []) (onward_post c e t m))

  module _ (states states' : EndId → ℕ → StateAt) (same : (d : EndId) (k : ℕ) → stored (states' d k) ≡ stored (states d k)) where
    -- the two sides of what is on its way to the other end
    abbrev Both : Lanes → (EndId → ℕ → StateAt) → EndId → List SentAt
    Both l st x = from_last (in_part l c st (other_end e)) (c.top (other_end e)) ++ from_first (out_part l c st x) (c.top x)

    core : (t : ℕ) → c.at e t ≡ p → c.top e ≡ t → Both (posted t) states' e ≡ Both lanes states e ++ m ∷ []
    core zero at top =
        ap (λ z. from_last (in_part (posted 0) c states' (other_end e)) (c.top (other_end e)) ++ z)
        (ap (λ (n : ℕ). from_first (out_part (posted 0) c states' e) n) top)
        ∙ append-nil (from_last (in_part (posted 0) c states' (other_end e)) (c.top (other_end e)))
        ∙ push_last (in_part lanes c states (other_end e)) (in_part (posted 0) c states' (other_end e)) (c.top (other_end e)) (m ∷ [])
        (ap (λ s. s ++ messages_in (traffic (posted 0) c (inward (other_end e) 0))) (same (other_end e) 0)
        ∙ ap (λ l. stored (states (other_end e) 0) ++ l) (sent_here 0 at refl)
        ∙ sym (append_assoc (stored (states (other_end e) 0)) (messages_in (traffic lanes c (inward (other_end e) 0))) (m ∷ [])))
        (λ k apart. stored_in c states states' lanes (posted 0) same (other_end e) k
        (sent_same 0 at (inward (other_end e) k) (other_hop (other_end e) (other_end e) k 0 apart)))
        ∙ ap (λ z. z ++ m ∷ []) (sym (append-nil (from_last (in_part lanes c states (other_end e)) (c.top (other_end e)))))
        ∙ ap (λ z. (from_last (in_part lanes c states (other_end e)) (c.top (other_end e)) ++ z) ++ m ∷ [])
        (sym (ap (λ (n : ℕ). from_first (out_part lanes c states e) n) top))
    core (suc k) at top =
        ap (λ z. z ++ from_first (out_part (posted (suc k)) c states' e) (c.top e))
        (same_last (in_part lanes c states (other_end e)) (in_part (posted (suc k)) c states' (other_end e)) (c.top (other_end e))
        (λ j le. stored_in c states states' lanes (posted (suc k)) same (other_end e) j (sent_same (suc k) at (inward (other_end e) j) refl)))
        ∙ ap (λ z. from_last (in_part lanes c states (other_end e)) (c.top (other_end e)) ++ z)
        (ap (λ (n : ℕ). from_first (out_part (posted (suc k)) c states' e) n) top
        ∙ push_first (out_part lanes c states e) (out_part (posted (suc k)) c states' e) k (m ∷ []) (sent_here (suc k) at refl)
        (λ j lt. ap (λ l. messages_in l) (sent_same (suc k) at (outward e j) (other_hop e e j k (λ i. omega (arith, lt, i)))))
        ∙ ap (λ (n : ℕ). from_first (out_part lanes c states e) n ++ m ∷ []) (sym top))
        ∙ sym (append_assoc (from_last (in_part lanes c states (other_end e)) (c.top (other_end e)))
        (from_first (out_part lanes c states e) (c.top e)) (m ∷ []))

    -- a message more is on its way to the other end
    pub pipe_more : (t : ℕ) → c.at e t ≡ p → c.top e ≡ t → pipe (posted t) c states' (other_end e) ≡ pipe lanes c states (other_end e) ++ m ∷ []
    pipe_more t at top = subst (λ x. Both (posted t) states' x ≡ Both lanes states x ++ m ∷ []) (sym (other_other e low)) (core t at top)

    apart_road_in : (t : ℕ) (d : EndId) (k : ℕ) → is_same_end d (other_end e) ≡ false → is_road (inward d k) (road_onward e t) ≡ false
    apart_road_in zero d k apart = other_name d (other_end e) k 0 apart
    apart_road_in (suc t) d k apart = refl

    apart_road_out : (t : ℕ) (d : EndId) (k : ℕ) → is_same_end d e ≡ false → is_road (outward d k) (road_onward e t) ≡ false
    apart_road_out zero d k apart = refl
    apart_road_out (suc t) d k apart = other_name d e k t apart

    -- the same is on its way to others
    pub pipe_else : (t : ℕ) → c.at e t ≡ p → (d : EndId) → d.side < 2 → is_same_end d (other_end e) ≡ false
        → pipe (posted t) c states' d ≡ pipe lanes c states d
    pipe_else t at d i apart =
        ap (λ z. z ++ from_first (out_part (posted t) c states' (other_end d)) (c.top (other_end d)))
        (same_last (in_part lanes c states d) (in_part (posted t) c states' d) (c.top d)
        (λ k le. stored_in c states states' lanes (posted t) same d k (sent_same t at (inward d k) (apart_road_in t d k apart))))
        ∙ ap (λ z. from_last (in_part lanes c states d) (c.top d) ++ z)
        (same_first (out_part lanes c states (other_end d)) (out_part (posted t) c states' (other_end d)) (c.top (other_end d))
        (λ k lt. ap (λ l. messages_in l) (sent_same t at (outward (other_end d) k) (apart_road_out t (other_end d) k (other_apart d e i apart)))))
