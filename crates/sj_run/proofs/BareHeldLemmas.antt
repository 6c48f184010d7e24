-- What an act asks of the record of its end, at two nodes that are the same but for what no entry
-- reports.
use Rattle.std.proofs.Common.{◌≡◌, ◌∙◌, ℕ, Bool, true, false, if◌then◌else◌, [], ◌∷◌, Option, Some, None, option_map, refl, sym, ap}
use Rattle.std.specs.Prelude.{⊤, nat_lt}
use Rattle.sj_base.specs.declared.EndId.{EndId}
use Rattle.sj_base.specs.declared.Msg.{Msg}
use Rattle.sj_lang.specs.declared.proto.Way.TheVariants.{Out}
use Rattle.sj_rules.specs.Limits.{limit_of_hops}
use Rattle.sj_rules.specs.Record.{EndAt, Carry, HeldAt, MainAt, Held, Closed, Expected, other_end}
use Rattle.sj_rules.specs.Rows.{Worked}
use Rattle.sj_rules.specs.Node.{Want, ended, local, sends, delegates, takes, closes, requests, accepts, Play, NodeAt, with_main, held_behind_send, send_act}
use Rattle.sj_run.proofs.BareLemmas.{bare_held, bare_main, made_by}
use Rattle.sj_run.proofs.BareNodeLemmas.{bare_node, main_put, node_by}

-- what is there fits its condition
pub if_some : {X : Type 0} (b : Bool) (o : Option X) (x : X) → (if b then o else None) ≡ Some x → b ≡ true
if_some true o x e = refl
if_some false o x e = absurd (cc e)

module _ {P Q : Type 0} where
  -- the end that a step delegates was delegated fewer than 100 times
  abbrev pub HopsFit : NodeAt P Q → Want P → Type 0
  HopsFit n ended = ⊤
  HopsFit n local = ⊤
  HopsFit n (sends e msg) = ⊤
  HopsFit n (delegates carrier e) = (h : HeldAt P) → n.main e ≡ Some (Held h) → nat_lt h.end.hops limit_of_hops ≡ true
  HopsFit n (takes e place) = ⊤
  HopsFit n (closes e) = ⊤
  HopsFit n (requests place to) = ⊤
  HopsFit n (accepts place from) = ⊤

  -- an act at a Held record, and none at another
  pub by_held : (f g : Option (MainAt P) → Option (Worked P (NodeAt P Q))) → f None ≡ None → ((c : EndAt P) → f (Some (Closed c)) ≡ None) → ((k : ℕ) (p : P) (ds : _) → f (Some (Expected k p ds)) ≡ None)
      → g None ≡ None → ((c : EndAt P) → g (Some (Closed c)) ≡ None) → ((k : ℕ) (p : P) (ds : _) → g (Some (Expected k p ds)) ≡ None)
      → (r s : Option (MainAt P)) → option_map bare_main r ≡ option_map bare_main s
      → ((h k : HeldAt P) → r ≡ Some (Held h) → s ≡ Some (Held k) → bare_held h ≡ bare_held k → node_by (f (Some (Held h))) ≡ node_by (g (Some (Held k)))) → node_by (f r) ≡ node_by (g s)
  by_held f g f0 f1 f2 g0 g1 g2 None None t held = ap node_by (f0 ∙ sym g0)
  by_held f g f0 f1 f2 g0 g1 g2 None (Some s) t held = absurd (cc t)
  by_held f g f0 f1 f2 g0 g1 g2 (Some r) None t held = absurd (cc t)
  by_held f g f0 f1 f2 g0 g1 g2 (Some (Held h)) (Some (Closed d)) t held = absurd (cc t)
  by_held f g f0 f1 f2 g0 g1 g2 (Some (Held h)) (Some (Expected k p ds)) t held = absurd (cc t)
  by_held f g f0 f1 f2 g0 g1 g2 (Some (Closed c)) (Some (Held h)) t held = absurd (cc t)
  by_held f g f0 f1 f2 g0 g1 g2 (Some (Closed c)) (Some (Expected k p ds)) t held = absurd (cc t)
  by_held f g f0 f1 f2 g0 g1 g2 (Some (Expected k p ds)) (Some (Held h)) t held = absurd (cc t)
  by_held f g f0 f1 f2 g0 g1 g2 (Some (Expected k p ds)) (Some (Closed d)) t held = absurd (cc t)
  by_held f g f0 f1 f2 g0 g1 g2 (Some (Closed c)) (Some (Closed d)) t held = ap node_by (f1 c ∙ sym (g1 d))
  by_held f g f0 f1 f2 g0 g1 g2 (Some (Expected k p ds)) (Some (Expected l q es)) t held = ap node_by (f2 k p ds ∙ sym (g2 l q es))
  by_held f g f0 f1 f2 g0 g1 g2 (Some (Held h)) (Some (Held k)) t held = held h k refl refl (cc t)

  module _ (play : Play P Q) where
    pub send_alike : (m n : NodeAt P Q) → bare_node m ≡ bare_node n → (e : EndId) (msg : Msg) (r s : Option (MainAt P)) → option_map bare_main r ≡ option_map bare_main s
        → node_by (send_act play m e msg r) ≡ node_by (send_act play n e msg s)
    send_alike m n same e msg r s t =
        by_held (send_act play m e msg) (send_act play n e msg) refl (λ c. refl) (λ k p ds. refl) refl (λ c. refl) (λ k p ds. refl) r s t
        (λ h k at there alike.
        sent_by m h
        ∙ (λ i. option_map (λ place. with_main e (Some (Held (bare_held (held_behind_send (alike i) msg place)))) (record (same i) { program = play.goes (same i).program None })) (play.next (alike i).end.place Out msg))
        ∙ sym (sent_by n k))
      where
        sent_by : (x : NodeAt P Q) (h : HeldAt P) → node_by (send_act play x e msg (Some (Held h)))
            ≡ option_map (λ place. with_main e (Some (Held (bare_held (held_behind_send h msg place)))) (record (bare_node x) { program = play.goes x.program None })) (play.next h.end.place Out msg)
        sent_by x h =
            made_by bare_node (λ place. record {
              state = with_main e (Some (Held (held_behind_send h msg place))) (record x { program = play.goes x.program None });
              posts = record { party = h.end.peer; body = Carry (other_end h.end.id) h.end.conn h.end.sent h.end.taken msg } ∷ [];
            }) _ (λ place. main_put e (Some (Held (held_behind_send h msg place))) (record x { program = play.goes x.program None })) (play.next h.end.place Out msg)
