-- The play of a node, and that of a file's protocols.
use Rattle.std.proofs.Common.{◌≡◌, ℕ, ltb, Bool, true, false, ◌&&◌, if◌then◌else◌, List, [], ◌∷◌, Option, Some, None, refl, ap}
use Rattle.std.specs.Prelude.{unwrap_or, not}
use Rattle.sj_base.specs.declared.EndId.{EndId}
use Rattle.sj_base.specs.declared.Msg.{Msg}
use Rattle.sj_lang.specs.After.{after_place}
use Rattle.sj_lang.specs.Dual.{dual_of}
use Rattle.sj_lang.specs.Place.{done}
use Rattle.sj_lang.specs.FileAt.{ProtocolAt, body_named}
use Rattle.sj_lang.specs.ItemCount.{is_done}
use Rattle.sj_semantics.specs.declared.Want.{Want}
use Rattle.sj_semantics.specs.declared.Want.TheVariants as wants
use Rattle.sj_semantics.specs.declared.Awaits.{Awaits}
use Rattle.sj_semantics.specs.declared.Awaits.TheVariants as awaits
use Rattle.sj_semantics.specs.Program.{Program}
use Rattle.sj_semantics.specs.Steps.{opened_of}
use Rattle.sj_semantics.specs.Wants.{want_of}
use Rattle.sj_semantics.specs.Fitting.{fits}
use Rattle.sj_rules.specs.Node as rules
use Rattle.sj_rules.specs.Node.{NodeAt, Play, act_by, acts, is_free, take_act, take_from}
use Rattle.sj_rules.specs.Party as file
use Rattle.sj_rules.specs.Record.{MainAt, Held, Closed, Expected, HeldAt}
use Rattle.sj_rules.specs.Rows.{Worked}
use Rattle.sj_table.specs.Spots.{start_in}
use Rattle.sj_node.specs.declared.node.Node.{Node}
use Rattle.sj_node.specs.Node.{play_here, connect_count}
use Rattle.sj_node.specs.Play.{HeadsAre, asking, awaited_place, done_by, goes_on, names_known, play_with, want_with}

same_awaited : (ps : List ProtocolAt) (a : Awaits) → awaited_place (body_named ps) a ≡ file.place_awaited ps a
same_awaited ps (awaits.Session q) = refl
same_awaited ps (awaits.Value k) = refl
same_awaited ps awaits.OneOf = refl
same_awaited ps awaits.MoreOrStop = refl

same_want : (ps : List ProtocolAt) (o : Option Want) → want_with (body_named ps) (unwrap_or o wants.Ended) ≡ file.want_or_ended ps o
same_want ps None = refl
same_want ps (Some wants.Ended) = refl
same_want ps (Some wants.Local) = refl
same_want ps (Some (wants.Send e m)) = refl
same_want ps (Some (wants.Delegate e y)) = refl
same_want ps (Some (wants.Take e a)) = ap (rules.takes e) (same_awaited ps a)
same_want ps (Some (wants.Close e)) = refl
same_want ps (Some (wants.Request p to)) = refl
same_want ps (Some (wants.Accept p from)) = refl

same_step : (g : Program) (o : Option Want) → done_by (unwrap_or o wants.Ended) g ≡ file.after_step g o
same_step g None = refl
same_step g (Some wants.Ended) = refl
same_step g (Some wants.Local) = refl
same_step g (Some (wants.Send e m)) = refl
same_step g (Some (wants.Delegate e y)) = refl
same_step g (Some (wants.Take e a)) = refl
same_step g (Some (wants.Close e)) = refl
same_step g (Some (wants.Request p to)) = refl
same_step g (Some (wants.Accept p from)) = refl

-- the program after a step
pub same_goes : (g : Program) (o : Option Msg) → goes_on g o ≡ file.program_after g o
same_goes g None = same_step g (want_of g)
same_goes g (Some m) = refl

-- a node plays as the file's protocols say, but takes no session message that names what isn't
-- there
pub plays_file : (ps : List ProtocolAt) (connects parties : ℕ) → play_with (body_named ps) connects parties ≡ asking (names_known connects parties) (file.play_for parties ps)
plays_file ps connects parties = λ i. record {
  next = after_place;
  is_over = λ p. is_done p;
  blank = done;
  dual = dual_of;
  wants = λ g. same_want ps (want_of g) i;
  goes = λ g o. same_goes g o i;
  opened = opened_of;
  fits = λ g m. fits g m && names_known connects parties m;
  is_worn = λ g. not (ltb g.steps 10000);
  parties = parties;
}

-- a node with the same table, connections and parties plays alike
pub same_play : (old new : Node) → new.table ≡ old.table → connect_count new ≡ connect_count old → new.parties ≡ old.parties → play_here new ≡ play_here old
same_play old new table connects parties = λ i. play_with (start_in (table i)) (connects i) (parties i)

-- ---- a play that asks more

if_less : {A : Type 0} (fit known free : Bool) (x : Option A) (w : A) → (if (fit && known) && free then x else None) ≡ Some w → (if fit && free then x else None) ≡ Some w
if_less true true free x w h = h
if_less true false free x w h = absurd (cc h)
if_less false known free x w h = h

if_known : {A : Type 0} (fit known free : Bool) (x : Option A) → known ≡ true → (if (fit && known) && free then x else None) ≡ (if fit && free then x else None)
if_known true true free x h = refl
if_known false true free x h = refl
if_known fit false free x h = absurd (cc h)

module _ {P Q : Type 0} (play : Play P Q) (known : Msg → Bool) (n : NodeAt P Q) where
  from_less : (e : EndId) (place : P) (x : HeldAt P) (us : List Msg) (w : Worked P (NodeAt P Q)) → take_from (asking known play) n e place x us ≡ Some w → take_from play n e place x us ≡ Some w
  from_less e place x [] w h = h
  from_less e place x (m ∷ rest) w h = if_less (play.fits n.program m) (known m) (is_free n m) _ w h

  take_less : (e : EndId) (place : P) (r : Option (MainAt P)) (w : Worked P (NodeAt P Q)) → take_act (asking known play) n e place r ≡ Some w → take_act play n e place r ≡ Some w
  take_less e place None w h = h
  take_less e place (Some (Closed c)) w h = h
  take_less e place (Some (Expected k p d)) w h = h
  take_less e place (Some (Held x)) w h = from_less e place x x.untaken w h

  by_less : (party : ℕ) (want : rules.Want P) (w : Worked P (NodeAt P Q)) → act_by (asking known play) party n want ≡ Some w → act_by play party n want ≡ Some w
  by_less party rules.ended w h = h
  by_less party rules.local w h = h
  by_less party (rules.sends e m) w h = h
  by_less party (rules.delegates e y) w h = h
  by_less party (rules.takes e place) w h = take_less e place (n.main e) w h
  by_less party (rules.closes e) w h = h
  by_less party (rules.requests place to) w h = h
  by_less party (rules.accepts place from) w h = h

  unless : {A : Type 0} (b : Bool) (x y : Option A) (w : A) → (x ≡ Some w → y ≡ Some w) → (if b then None else x) ≡ Some w → (if b then None else y) ≡ Some w
  unless true x y w f h = h
  unless false x y w f h = f h

  -- an act of a play that asks more is one of the play itself
  pub acts_less : (party : ℕ) (w : Worked P (NodeAt P Q)) → acts (asking known play) party n ≡ Some w → acts play party n ≡ Some w
  acts_less party w h =
      unless (play.is_worn n.program) (act_by (asking known play) party n (play.wants n.program)) (act_by play party n (play.wants n.program)) w (by_less party (play.wants n.program) w) h

  from_known : (e : EndId) (place : P) (x : HeldAt P) (us : List Msg) → ((m : Msg) (rest : List Msg) → us ≡ m ∷ rest → known m ≡ true) → take_from (asking known play) n e place x us ≡ take_from play n e place x us
  from_known e place x [] h = refl
  from_known e place x (m ∷ rest) h = if_known (play.fits n.program m) (known m) (is_free n m) _ (h m rest refl)

  take_known : (e : EndId) (place : P) (r : Option (MainAt P)) → ((x : HeldAt P) (m : Msg) (rest : List Msg) → r ≡ Some (Held x) → x.untaken ≡ m ∷ rest → known m ≡ true)
      → take_act (asking known play) n e place r ≡ take_act play n e place r
  take_known e place None h = refl
  take_known e place (Some (Closed c)) h = refl
  take_known e place (Some (Expected k p d)) h = refl
  take_known e place (Some (Held x)) h = from_known e place x x.untaken (λ m rest is. h x m rest refl is)

  by_known : HeadsAre known n → (party : ℕ) (want : rules.Want P) → act_by (asking known play) party n want ≡ act_by play party n want
  by_known heads party rules.ended = refl
  by_known heads party rules.local = refl
  by_known heads party (rules.sends e m) = refl
  by_known heads party (rules.delegates e y) = refl
  by_known heads party (rules.takes e place) = take_known e place (n.main e) (λ x m rest there is. heads e x m rest there is)
  by_known heads party (rules.closes e) = refl
  by_known heads party (rules.requests place to) = refl
  by_known heads party (rules.accepts place from) = refl

  -- where the next messages are such, the plays act alike
  pub acts_known : (party : ℕ) → HeadsAre known n → acts (asking known play) party n ≡ acts play party n
  acts_known party heads = ap (λ (o : Option (Worked P (NodeAt P Q))). if play.is_worn n.program then None else o) (by_known heads party (play.wants n.program))
