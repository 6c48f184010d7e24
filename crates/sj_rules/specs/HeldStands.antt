-- What a Held record says of the plain world.
use Rattle.std.specs.Prelude.{◌≡◌, true, List, ◌++◌, Some}
use Rattle.sj_base.specs.declared.EndId.{EndId}
use Rattle.sj_base.specs.declared.Msg.{Msg}
use Rattle.sj_rules.specs.Record.{HeldAt, Held, other_end}
use Rattle.sj_rules.specs.Node.{NodeAt, is_free}
use Rattle.sj_rules.specs.PlainSide.{PlainAt, untaken_of}
use Rattle.sj_rules.specs.Linked.{waiting_at}

-- its place and handovers are the plain ones, and what is untaken is a prefix of what waits
pub record HeldStands {P Q : Type 0} (plain : PlainAt P Q) (e : EndId) (h : HeldAt P) : Type 0 where
  pub place : h.end.place ≡ (plain.sides e).place
  pub hops : h.end.hops ≡ (plain.sides e).hops
  pub rest : List Msg
  pub waits : untaken_of (plain.sides (other_end e)) (plain.sides e) ≡ h.untaken ++ rest

-- it is there, and all that waits is untaken
pub record IsWholeAt {P Q : Type 0} (plain : PlainAt P Q) (n : NodeAt P Q) (e : EndId) : Type 0 where
  pub record_of : HeldAt P
  pub there : n.main e ≡ Some (Held record_of)
  pub place : record_of.end.place ≡ (plain.sides e).place
  pub hops : record_of.end.hops ≡ (plain.sides e).hops
  pub waits : untaken_of (plain.sides (other_end e)) (plain.sides e) ≡ record_of.untaken
  -- a session message at its head names no end that the party uses, awaits or has closed
  pub free : (m : Msg) → waiting_at plain e 0 ≡ Some m → is_free n m ≡ true
