-- What a delegation tests of a place is seen at its first item alone.
use Rattle.std.proofs.Common.{◌≡◌, ap, refl, sym, ◌∙◌}
use Rattle.sj_lang.specs.Place.{Place, boolean, choice, done, int, message, repeat, session, text}
use Rattle.sj_lang.specs.declared.proto.Way.TheVariants.{Into, Out}
use Rattle.sj_talk.specs.Rules.{carried_next, front_of, sends_end}

sends_end_front : (p : Place) → sends_end p ≡ sends_end (front_of p)
sends_end_front done = refl
sends_end_front (message Out int next) = refl
sends_end_front (message Out boolean next) = refl
sends_end_front (message Out text next) = refl
sends_end_front (message Out (session s) next) = refl
sends_end_front (message Into k next) = refl
sends_end_front (choice w arms next) = refl
sends_end_front (repeat w body next) = refl

carried_next_front : (p : Place) → carried_next p ≡ carried_next (front_of p)
carried_next_front done = refl
carried_next_front (message w int next) = refl
carried_next_front (message w boolean next) = refl
carried_next_front (message w text next) = refl
carried_next_front (message w (session s) next) = refl
carried_next_front (choice w arms next) = refl
carried_next_front (repeat w body next) = refl

-- two places of one first item
module _ (p q : Place) (e : front_of p ≡ front_of q) where
  pub sends_end_by : sends_end p ≡ sends_end q
  sends_end_by = sends_end_front p ∙ ap sends_end e ∙ sym (sends_end_front q)

  pub carried_next_by : carried_next p ≡ carried_next q
  carried_next_by = carried_next_front p ∙ ap carried_next e ∙ sym (carried_next_front q)
