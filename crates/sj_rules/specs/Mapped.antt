-- Records whose places are seen as other places, by f.
use Rattle.std.specs.Prelude.{Option, option_map, map}
use Rattle.sj_base.specs.declared.EndId.{EndId}
use Rattle.sj_rules.specs.Record.{EndAt, BodyAt, Carry, Fin, Claim, Signal, Ack, Give, Open, Mail, HeldAt, MainAt, Held, Closed, Expected, OldAt, Parked, Signalled}
use Rattle.sj_rules.specs.Frames.{FrameAt}
use Rattle.sj_rules.specs.Rows.{Worked}
use Rattle.sj_rules.specs.Node.{NodeAt}

-- an end with its place seen as another
abbrev pub end_with : {P R : Type 0} → (P → R) → EndAt P → EndAt R
end_with f e = record {
  id = e.id;
  place = f e.place;
  conn = e.conn;
  peer = e.peer;
  sent = e.sent;
  taken = e.taken;
  base = e.base;
  cache = e.cache;
  hops = e.hops;
}

-- the same of a body
abbrev pub body_with : {P R : Type 0} → (P → R) → BodyAt P → BodyAt R
body_with f (Carry to conn number taken msg) = Carry to conn number taken msg
body_with f (Fin to conn number) = Fin to conn number
body_with f (Claim of) = Claim of
body_with f (Signal to conn party taken) = Signal to conn party taken
body_with f (Ack of conn) = Ack of conn
body_with f (Give e resend) = Give (end_with f e) resend
body_with f (Open sess) = Open sess

-- of a body with its party
abbrev pub mail_with : {P R : Type 0} → (P → R) → Mail P → Mail R
mail_with f m = record { party = m.party; body = body_with f m.body }

-- of a frame
abbrev pub frame_with : {P R : Type 0} → (P → R) → FrameAt P → FrameAt R
frame_with f m = record { clock = m.clock; body = body_with f m.body }

-- of a Held record
abbrev pub held_with : {P R : Type 0} → (P → R) → HeldAt P → HeldAt R
held_with f h = record { end = end_with f h.end; untaken = h.untaken; fin = h.fin }

-- of a main record
abbrev pub main_with : {P R : Type 0} → (P → R) → MainAt P → MainAt R
main_with f (Held h) = Held (held_with f h)
main_with f (Closed e) = Closed (end_with f e)
main_with f (Expected keeper place deferred) = Expected keeper (f place) (map (mail_with f) deferred)

-- of an old record
abbrev pub old_with : {P R : Type 0} → (P → R) → OldAt P → OldAt R
old_with f (Parked e) = Parked (end_with f e)
old_with f (Signalled e to) = Signalled (end_with f e) to

-- each entry of a table is seen by g
abbrev pub each_with : {X Y : Type 0} → (X → Y) → (EndId → Option X) → EndId → Option Y
each_with g table = λ e. option_map g (table e)

-- of a node, whose program stays
abbrev pub node_with : {P R Q : Type 0} → (P → R) → NodeAt P Q → NodeAt R Q
node_with f n = record { program = n.program; clock = n.clock; requests = n.requests; offers = n.offers; main = each_with (main_with f) n.main; old = each_with (old_with f) n.old }

-- what a row leaves is seen by g
abbrev pub worked_with : {P R X Y : Type 0} → (P → R) → (X → Y) → Worked P X → Worked R Y
worked_with f g w = record { state = g w.state; posts = map (mail_with f) w.posts }
