-- Turns of a party, one after another.
use Rattle.std.proofs.Common.{◌≡◌, ℕ, ◌+◌, List, [], ◌∷◌, ◌++◌, Option, None, Some, map, get_or, refl, sym, ap, subst, ◌∙◌, append_assoc, append-nil}
use Rattle.std.proofs.lemmas.List.Concat.{flat_map-append}
use Rattle.sj_base.specs.Stream.{put_behind}
use Rattle.sj_base.proofs.PieceLemmas.{put_behind-nil}
use Rattle.sj_end.specs.declared.note.Entry.{Entry}
use Rattle.sj_lang.specs.FileAt.{FileAt}
use Rattle.sj_lang.specs.Place.{Place}
use Rattle.sj_node.specs.declared.node.Node.{Node}
use Rattle.sj_node.specs.Node.{log_of, node_at, play_here}
use Rattle.sj_node.specs.Reading.{party_of}
use Rattle.sj_resp.specs.Spelling.{command_text}
use Rattle.sj_rules.specs.Frames.{FrameAt}
use Rattle.sj_rules.specs.Node.{Play}
use Rattle.sj_semantics.specs.Program.{Program}
use Rattle.sj_streams.specs.Commands.{read_words}
use Rattle.sj_engine.specs.Lanes.{pushed_on}
use Rattle.sj_remote_run.specs.Posts.{HasNone}
use Rattle.sj_remote_run.specs.Sent.{AreSent, Asks, CommandAt, Reads, text_sent, words_sent}
use Rattle.sj_remote_run.specs.Turns.{Goes, added_count, batch_text, next_seen, node_in, outs_in}
use Rattle.sj_remote_run.specs.declared.outcome.Outcome.{Outcome}
use Rattle.sj_remote_run.specs.declared.player.Player.{Player}
use Rattle.sj_remote_run.proofs.GoesLemmas.{batch_of, goes_batch, goes_party, goes_play}
use Rattle.sj_remote_run.proofs.SentLemmas.{adds_by, batch_is, batch_sent, sent_both}

-- commands were sent since the first node
pub record Going (text : List CommandAt → List ℕ) (first last : ℕ) (old new : Node) (before after : Option (List ℕ)) : Type 0 where
  pub commands : List CommandAt
  pub written : after ≡ put_behind before (text commands)
  pub sent : AreSent (play_here old) (party_of old) first (node_at old) commands last (node_at new)
  pub play : play_here new ≡ play_here old
  pub party : party_of new ≡ party_of old
  pub empty : log_of new ≡ []

pub going_none : (text : List CommandAt → List ℕ) (first : ℕ) (old : Node) (before : Option (List ℕ)) → [] ≡ text [] → log_of old ≡ [] → Going text first first old old before before
going_none text first old before none empty = record {
  commands = [];
  written = put_behind-nil before ∙ ap (put_behind before) none;
  sent = (refl, refl);
  play = refl;
  party = refl;
  empty = empty;
}

pub behind_both : (o : Option (List ℕ)) (a b : List ℕ) → put_behind (put_behind o a) b ≡ put_behind o (a ++ b)
behind_both None a b = refl
behind_both (Some x) a b = ap Some (append_assoc x a b)

-- with other names for its end
pub going_same : (text : List CommandAt → List ℕ) (first last end : ℕ) (old new now : Node) (before after : Option (List ℕ))
    → end ≡ last → now ≡ new → Going text first last old new before after → Going text first end old now before after
going_same text first last end old new now before after at is g =
    subst (λ (k : ℕ). Going text first k old now before after) (sym at) (subst (λ (n : Node). Going text first last old n before after) (sym is) g)

-- the same batch
pub same_batch : (ks ls : List (List ℕ)) (seen : List ℕ) (f h : FileAt) (p q : ℕ) (ns ms : List Entry) (posts : List (List (FrameAt Place)))
    → ks ≡ ls → f ≡ h → p ≡ q → ns ≡ ms → batch_text ks seen f p ns posts ≡ batch_text ls seen h q ms posts
same_batch ks ls seen f h p q ns ms posts a b c d =
    ap (λ (x : List (List ℕ)). batch_text x seen f p ns posts) a ∙ ap (λ (x : FileAt). batch_text ls seen x p ns posts) b
    ∙ ap (λ (x : ℕ). batch_text ls seen h x ns posts) c ∙ ap (λ (x : List Entry). batch_text ls seen h q x posts) d

-- the same read
pub same_read : (ks ls : List (List ℕ)) (seen : List ℕ) (p q : ℕ) (ns ms : List Entry) (block : Option ℕ)
    → ks ≡ ls → p ≡ q → ns ≡ ms → command_text (read_words 512 block ks (next_seen p ns seen)) ≡ command_text (read_words 512 block ls (next_seen q ms seen))
same_read ks ls seen p q ns ms block a c d =
    ap (λ (x : List (List ℕ)). command_text (read_words 512 block x (next_seen p ns seen))) a
    ∙ ap (λ (x : ℕ). command_text (read_words 512 block ls (next_seen x ns seen))) c ∙ ap (λ (x : List Entry). command_text (read_words 512 block ls (next_seen q x seen))) d

-- the same turn
pub same_turn : (ks ls : List (List ℕ)) (seen : List ℕ) (f h : FileAt) (p q : ℕ) (ns ms : List Entry) (posts : List (List (FrameAt Place))) (block : Option ℕ)
    → ks ≡ ls → f ≡ h → p ≡ q → ns ≡ ms → batch_text ks seen f p ns posts ++ command_text (read_words 512 block ks (next_seen p ns seen)) ≡ batch_text ls seen h q ms posts ++ command_text (read_words 512 block ls (next_seen q ms seen))
same_turn ks ls seen f h p q ns ms posts block a b c d =
    ap (λ (t : List ℕ). t ++ command_text (read_words 512 block ks (next_seen p ns seen))) (same_batch ks ls seen f h p q ns ms posts a b c d)
    ∙ ap (λ (t : List ℕ). batch_text ls seen h q ms posts ++ t) (same_read ks ls seen p q ns ms block a c d)

-- the same number
pub same_number : (xs ys : List ℕ) (p q : ℕ) (ns ms : List Entry) → p ≡ q → ns ≡ ms → get_or xs p 0 ≡ get_or ys p 0 + added_count ns → get_or xs q 0 ≡ get_or ys q 0 + added_count ms
same_number xs ys p q ns ms c d is =
    subst (λ (x : ℕ). get_or xs x 0 ≡ get_or ys x 0 + added_count ms) c (subst (λ (x : List Entry). get_or xs p 0 ≡ get_or ys p 0 + added_count x) d is)

module _ (file : FileAt) (run : List ℕ) (keys : List (List ℕ)) (old : Node) (first : ℕ) (before : Option (List ℕ)) where
  -- some more commands
  going_more : (last end : ℕ) (mid new : Node) (between after : Option (List ℕ)) (cs : List CommandAt) → Going (text_sent file run keys (party_of old)) first last old mid before between
      → AreSent (play_here mid) (party_of mid) last (node_at mid) cs end (node_at new) → play_here new ≡ play_here mid → party_of new ≡ party_of mid → log_of new ≡ []
      → after ≡ put_behind between (text_sent file run keys (party_of old) cs) → Going (text_sent file run keys (party_of old)) first end old new before after
  going_more last end mid new between after cs w s play party empty wrote = record {
    commands = w.commands ++ cs;
    written = wrote ∙ ap (λ (o : Option (List ℕ)). put_behind o (text_sent file run keys (party_of old) cs)) w.written
        ∙ behind_both before (text_sent file run keys (party_of old) w.commands) (text_sent file run keys (party_of old) cs)
        ∙ ap (put_behind before) (sym (flat_map-append (λ c. command_text (words_sent file run keys (party_of old) c)) w.commands cs));
    sent = sent_both (play_here old) (party_of old) w.commands cs first last end (node_at old) (node_at mid) (node_at new) w.sent
        (subst (λ (p : Play Place Program). AreSent p (party_of old) last (node_at mid) cs end (node_at new)) w.play
        (subst (λ (q : ℕ). AreSent (play_here mid) q last (node_at mid) cs end (node_at new)) w.party s));
    play = play ∙ w.play;
    party = party ∙ w.party;
    empty = empty;
  }

  module _ (mid new : Player) (o : Outcome) (noted : List Entry) (g : Goes mid new o noted) (seen : List ℕ) (between after : Option (List ℕ))
      (w : Going (text_sent file run keys (party_of old)) first (get_or seen (party_of old) 0) old (node_in mid) before between) (none : HasNone (outs_in mid) (node_in mid)) where
    -- a turn without a read
    pub turn_adds : after ≡ put_behind between (batch_text keys seen file (party_of old) noted (map pushed_on (outs_in new)))
        → Going (text_sent file run keys (party_of old)) first (get_or seen (party_of old) 0 + added_count noted) old (node_in new) before after
    turn_adds wrote = going_more (get_or seen (party_of old) 0) (get_or seen (party_of old) 0 + added_count noted) (node_in mid) (node_in new) between after
        (adds_by (get_or seen (party_of old) 0 + 1) noted (batch_of mid new o noted g)) w
        (batch_sent (play_here (node_in mid)) (party_of (node_in mid)) (get_or seen (party_of old) 0) (node_at (node_in mid)) (node_at (node_in new)) (batch_of mid new o noted g) (goes_batch mid new o noted g w.empty none))
        (goes_play mid new o noted g) (goes_party mid new o noted g) g.empty
        (wrote ∙ ap (put_behind between) (batch_is file run keys (party_of old) seen (batch_of mid new o noted g)))

    -- and one with it
    pub turn_asks : (wait : ℕ) → after ≡ put_behind between (batch_text keys seen file (party_of old) noted (map pushed_on (outs_in new))
        ++ command_text (read_words 512 (Some wait) keys (next_seen (party_of old) noted seen)))
        → Going (text_sent file run keys (party_of old)) first (get_or seen (party_of old) 0 + added_count noted) old (node_in new) before after
    turn_asks wait wrote =
        let cs : List CommandAt = adds_by (get_or seen (party_of old) 0 + 1) noted (batch_of mid new o noted g) in
        let read : CommandAt = Asks (Reads (Some wait) (next_seen (party_of old) noted seen)) in
        let end : ℕ = get_or seen (party_of old) 0 + added_count noted in
        going_more (get_or seen (party_of old) 0) end (node_in mid) (node_in new) between after (cs ++ read ∷ []) w
        (sent_both (play_here (node_in mid)) (party_of (node_in mid)) cs (read ∷ []) (get_or seen (party_of old) 0) end end (node_at (node_in mid)) (node_at (node_in new)) (node_at (node_in new))
        (batch_sent (play_here (node_in mid)) (party_of (node_in mid)) (get_or seen (party_of old) 0) (node_at (node_in mid)) (node_at (node_in new)) (batch_of mid new o noted g) (goes_batch mid new o noted g w.empty none))
        (refl, refl))
        (goes_play mid new o noted g) (goes_party mid new o noted g) g.empty
        (wrote ∙ ap (put_behind between)
        (ap (λ (t : List ℕ). t ++ command_text (words_sent file run keys (party_of old) read)) (batch_is file run keys (party_of old) seen (batch_of mid new o noted g))
        ∙ ap (λ (t : List ℕ). text_sent file run keys (party_of old) cs ++ t) (sym (append-nil (command_text (words_sent file run keys (party_of old) read))))
        ∙ sym (flat_map-append (λ c. command_text (words_sent file run keys (party_of old) c)) cs (read ∷ []))))
