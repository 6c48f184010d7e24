-- Pairs of ends where one begins, and pairs that nobody has used.
use Rattle.std.proofs.Common.{◌≡◌, ℕ, List, [], map, length, drop, ap, sym, arith, subst, inl, inr, ◌⊎◌}
use Rattle.sj_base.specs.declared.Msg.{Msg}
use Rattle.sj_lang.specs.Place.{Place}
use Rattle.sj_lang.specs.Meet.{Meets, StandsFor}
use Rattle.sj_semantics.specs.Balanced.{LeadsTaker}
use Rattle.sj_semantics.specs.Ends.{Session, EndAt}
use Rattle.sj_semantics.specs.Uses.{begins, end_after}
use Rattle.sj_headline_laws.proofs.StandLemmas.{leads_to_stands}
use Rattle.sj_semantics_laws.proofs.LeadsLemmas.{leads_standing}
use Rattle.sj_headline_laws.proofs.LeadLemmas.{coming_messages, Ahead, Pair}

-- an end begins at a place for which its own stands
pub pair_begins : (zs : List Session) (a b : EndAt) (p : ℕ) (place : Place) → Pair zs a b → StandsFor a.place place → Pair zs (end_after p (begins place) a) b
pair_begins zs a b p place pair stands = record { even = begins_even pair.even; one_taken = pair.one_taken; other_taken = pair.other_taken }
  where
    begins_even : Ahead zs a b ⊎ Ahead zs b a → Ahead zs (end_after p (begins place) a) b ⊎ Ahead zs b (end_after p (begins place) a)
    begins_even (inl t) = inl (record { nothing_back = t.nothing_back; leads = leads_standing zs a.place place (coming_messages a b) b.place stands t.leads })
    begins_even (inr t) = inr (record { nothing_back = t.nothing_back; leads = leads_to_stands zs b.place (coming_messages b a) a.place place stands t.leads })

-- two ends that nobody has used
pub pair_unused : (zs : List Session) (a b : EndAt) → a.sent ≡ [] → a.takers ≡ [] → b.sent ≡ [] → b.takers ≡ [] → Meets a.place b.place → Pair zs a b
pair_unused zs a b sent took sent' took' meet = record {
  even = inl (record {
    nothing_back = (λ i. map (λ x. x.msg) (drop (length (took' i)) (sent i)));
    leads = subst (λ (ms : List Msg). LeadsTaker zs a.place ms b.place) (λ i. map (λ x. x.msg) (drop (length (sym took i)) (sym sent' i))) meet;
  });
  one_taken = omega (arith, ap length took);
  other_taken = omega (arith, ap length took');
}
