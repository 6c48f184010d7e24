-- A node that did an event, and whose entry was taken out of its log.
use Rattle.std.proofs.Common.{◌≡◌, ℕ, List, [], ◌∷◌, ◌++◌, map, refl, sym, ap, ◌∙◌}
use Rattle.sj_lang.specs.Place.{Place}
use Rattle.sj_semantics.specs.Program.{Program}
use Rattle.sj_table.specs.Spots.{place_in}
use Rattle.sj_end.specs.declared.note.Entry.{Entry}
use Rattle.sj_end.specs.declared.note.Event.{Event}
use Rattle.sj_end.specs.declared.note.Note.{Note}
use Rattle.sj_rules.specs.Frames.{frames_for}
use Rattle.sj_rules.specs.Mapped.{frame_with}
use Rattle.sj_rules.specs.Node.{NodeAt}
use Rattle.sj_rules.specs.Rows.{Worked}
use Rattle.sj_node.specs.declared.node.Node.{Node}
use Rattle.sj_node.specs.Node.{Did, log_of, node_at, outbox_of}
use Rattle.sj_node.specs.Outs.{waiting_in}
use Rattle.sj_node.specs.Reading.{TakesEntry}

-- the node did that, and its log is as it was
pub record DidUnlogged (old : Node) (left : Worked Place (NodeAt Place Program)) (clock : ℕ) (new : Node) : Type 0 where
  pub node : node_at new ≡ record left.state { clock = clock }
  pub posts : (q : ℕ) → outbox_of new q ≡ outbox_of old q ++ frames_for q clock left.posts
  pub log : log_of new ≡ log_of old
  pub table : new.table ≡ old.table
  pub party : new.party ≡ old.party
  pub parties : new.parties ≡ old.parties
  pub connects : new.connects ≡ old.connects

-- lists that are the same with one more are the same, and so is the one
same_but_last : {X : Type 0} → (xs ys : List X) (x y : X) → xs ++ x ∷ [] ≡ ys ++ y ∷ [] → (xs ≡ ys) × (x ≡ y)
same_but_last [] [] x y is = (refl, cc is)
same_but_last [] (z ∷ []) x y is = absurd (cc is)
same_but_last [] (z ∷ w ∷ ys) x y is = absurd (cc is)
same_but_last (z ∷ []) [] x y is = absurd (cc is)
same_but_last (z ∷ w ∷ xs) [] x y is = absurd (cc is)
same_but_last (z ∷ xs) (w ∷ ys) x y is =
    let first : z ≡ w = cc is in
    let rest : xs ++ x ∷ [] ≡ ys ++ y ∷ [] = cc is in
    let more = same_but_last xs ys x y rest in
    (ap (λ v. v ∷ xs) first ∙ ap (λ vs. w ∷ vs) more.0, more.1)

module _ (old mid new : Node) (left : Worked Place (NodeAt Place Program)) (clock : ℕ) (event : Event) (note : Note) (e : Entry)
    (did : Did old left clock event note mid) (took : TakesEntry mid new) (taken : log_of mid ≡ log_of new ++ e ∷ []) where
  both : (log_of new ≡ log_of old) × (e ≡ record { clock = clock; event = event; note = note })
  both = same_but_last (log_of new) (log_of old) e (record { clock = clock; event = event; note = note }) (sym taken ∙ did.log)

  -- the entry is the event's
  pub entry_is : e ≡ record { clock = clock; event = event; note = note }
  entry_is = both.1

  pub did_unlogged : DidUnlogged old left clock new
  did_unlogged = record {
    node = took.node ∙ did.node;
    posts = λ q. (λ i. map (frame_with (place_in (took.table i))) (waiting_in (took.outs i) q)) ∙ did.posts q;
    log = both.0;
    table = took.table ∙ did.table;
    party = took.party ∙ did.party;
    parties = took.parties ∙ did.parties;
    connects = took.connects ∙ did.connects;
  }
