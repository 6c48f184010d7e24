-- Frames that posts make: with other places, and posts after others.
use Rattle.std.proofs.Common.{◌≡◌, ℕ, Bool, true, false, if◌then◌else◌, List, [], ◌∷◌, ◌++◌, map, filter, refl, ap}
use Rattle.std.specs.Prelude.{◌==◌, ◌&&◌, nat_lt}
use Rattle.sj_rules.specs.Limits.{clock_end}
use Rattle.sj_rules.specs.Record.{BodyAt, Carry, Fin, Claim, Signal, Ack, Give, Open, Mail}
use Rattle.sj_rules.specs.Frames.{FrameAt, frames_for, is_within, is_proper}
use Rattle.sj_rules.specs.Mapped.{body_with, frame_with, mail_with}

made-with : {P R : Type 0} (f : P → R) (clock : ℕ) (b : Bool) (m : Mail P) (some : List (Mail P)) (others : List (Mail R))
    → map (frame_with f) (map (λ x. record { clock = clock; body = x.body }) some) ≡ map (λ x. record { clock = clock; body = x.body }) others
    → map (frame_with f) (map (λ x. record { clock = clock; body = x.body }) (if b then m ∷ some else some)) ≡ map (λ x. record { clock = clock; body = x.body }) (if b then mail_with f m ∷ others else others)
made-with f clock true m some others e = ap (λ t. record { clock = clock; body = (mail_with f m).body } ∷ t) e
made-with f clock false m some others e = e

-- frames with other places
pub frames-with : {P R : Type 0} (f : P → R) (q clock : ℕ) (posts : List (Mail P)) → map (frame_with f) (frames_for q clock posts) ≡ frames_for q clock (map (mail_with f) posts)
frames-with f q clock [] = refl
frames-with f q clock (m ∷ posts) =
    made-with f clock (q == m.party) m (filter (λ x. q == x.party) posts) (filter (λ x. q == x.party) (map (mail_with f) posts)) (frames-with f q clock posts)

made-append : {P : Type 0} (clock : ℕ) (b : Bool) (m : Mail P) (some all : List (Mail P)) (rest : List (FrameAt P))
    → map (λ x. record { clock = clock; body = x.body }) all ≡ map (λ x. record { clock = clock; body = x.body }) some ++ rest
    → map (λ x. record { clock = clock; body = x.body }) (if b then m ∷ all else all) ≡ map (λ x. record { clock = clock; body = x.body }) (if b then m ∷ some else some) ++ rest
made-append clock true m some all rest e = ap (λ t. record { clock = clock; body = m.body } ∷ t) e
made-append clock false m some all rest e = e

-- frames of some posts, and then of others
pub frames-append : {P : Type 0} (q clock : ℕ) (some more : List (Mail P)) → frames_for q clock (some ++ more) ≡ frames_for q clock some ++ frames_for q clock more
frames-append q clock [] more = refl
frames-append q clock (m ∷ some) more =
    made-append clock (q == m.party) m (filter (λ x. q == x.party) some) (filter (λ x. q == x.party) (some ++ more)) (frames_for q clock more) (frames-append q clock some more)

within-with : {P R : Type 0} (f : P → R) (n : ℕ) (b : BodyAt P) → is_within n (body_with f b) ≡ is_within n b
within-with f n (Carry to conn number taken msg) = refl
within-with f n (Fin to conn number) = refl
within-with f n (Claim of) = refl
within-with f n (Signal to conn party taken) = refl
within-with f n (Ack of conn) = refl
within-with f n (Give e resend) = refl
within-with f n (Open sess) = refl

-- a frame with other places keeps the limits where the frame does
pub proper-with : {P R : Type 0} (f : P → R) (n : ℕ) (m : FrameAt P) → is_proper n (frame_with f m) ≡ is_proper n m
proper-with f n m = ap (λ b. nat_lt m.clock clock_end && b) (within-with f n m.body)
