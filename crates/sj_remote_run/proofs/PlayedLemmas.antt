-- A whole play: what is sent before the turns.
use Rattle.std.proofs.Common.{◌≡◌, ℕ, List, [], ◌∷◌, ◌++◌, Option, None, Some, map, refl, sym, ap, subst, ◌∙◌, append-nil}
use Rattle.std.proofs.lemmas.List.Concat.{flat_map-append}
use Rattle.sj_base.specs.Stream.{put_behind}
use Rattle.sj_base.proofs.PieceLemmas.{put_behind-nil}
use Rattle.sj_lang.specs.FileAt.{FileAt}
use Rattle.sj_node.specs.declared.node.Node.{Node}
use Rattle.sj_node.specs.Node.{node_at, play_here}
use Rattle.sj_node.specs.Reading.{party_of}
use Rattle.sj_party.specs.CanonicalFile.{file_text}
use Rattle.sj_resp.specs.Spelling.{command_text}
use Rattle.sj_streams.specs.Commands.{get_words, share_words}
use Rattle.sj_remote_run.specs.Caught.{reads_text}
use Rattle.sj_remote_run.specs.Played.{GoesOn}
use Rattle.sj_remote_run.specs.Sent.{AreSent, Asks, CommandAt, Gets, Reads, Shares, Signs, sign_text, text_sent, words_sent}
use Rattle.sj_remote_run.specs.declared.outcome.Outcome.{Outcome}
use Rattle.sj_remote_run.proofs.SentLemmas.{reads_are, reads_sent, sent_both}
use Rattle.sj_remote_run.proofs.TurnLemmas.{behind_both}

module _ (file : FileAt) (run : List ℕ) (keys : List (List ℕ)) (party : ℕ) (last : ℕ) (old : Node) (o : Outcome) where
  -- some commands before
  goes_after : (before between after : Option (List ℕ)) (cs : List CommandAt) → AreSent (play_here old) (party_of old) last (node_at old) cs last (node_at old)
      → between ≡ put_behind before (text_sent file run keys party cs) → GoesOn (text_sent file run keys party) last old o between after → GoesOn (text_sent file run keys party) last old o before after
  goes_after before between after cs s wrote g = record {
    commands = cs ++ g.commands;
    written = g.written ∙ ap (λ (x : Option (List ℕ)). put_behind x (text_sent file run keys party g.commands)) wrote
        ∙ behind_both before (text_sent file run keys party cs) (text_sent file run keys party g.commands)
        ∙ ap (put_behind before) (sym (flat_map-append (λ c. command_text (words_sent file run keys party c)) cs g.commands));
    end = g.end;
    node = g.node;
    sent = sent_both (play_here old) (party_of old) cs g.commands last last g.end (node_at old) (node_at old) (node_at g.node) s g.sent;
    ended = g.ended;
  }

  after_sign : (user password : Option (List ℕ)) (before between after : Option (List ℕ)) → between ≡ put_behind before (sign_text user password)
      → GoesOn (text_sent file run keys party) last old o between after → GoesOn (text_sent file run keys party) last old o before after
  after_sign user None before between after wrote g = subst (λ (x : Option (List ℕ)). GoesOn (text_sent file run keys party) last old o x after) (wrote ∙ sym (put_behind-nil before)) g
  after_sign user (Some password) before between after wrote g =
      goes_after before between after (Asks (Signs user password) ∷ []) (refl, refl) (wrote ∙ ap (put_behind before) (sym (append-nil (sign_text user (Some password))))) g

  after_share : (before between after : Option (List ℕ)) → between ≡ put_behind before (command_text (share_words run (file_text file)) ++ command_text (get_words run))
      → GoesOn (text_sent file run keys party) last old o between after → GoesOn (text_sent file run keys party) last old o before after
  after_share before between after wrote g =
      goes_after before between after (Asks Shares ∷ Asks Gets ∷ []) (refl, refl)
      (wrote ∙ ap (λ (t : List ℕ). put_behind before (command_text (share_words run (file_text file)) ++ t)) (sym (append-nil (command_text (get_words run))))) g

  after_reads : (asked : List (List ℕ)) (before between after : Option (List ℕ)) → between ≡ put_behind before (reads_text keys asked)
      → GoesOn (text_sent file run keys party) last old o between after → GoesOn (text_sent file run keys party) last old o before after
  after_reads asked before between after wrote g =
      goes_after before between after (map (λ seen. Asks (Reads None seen)) asked) (reads_sent (play_here old) (party_of old) None asked last (node_at old))
      (wrote ∙ ap (put_behind before) (reads_are file run keys party asked)) g

  -- all that goes before the turns
  pub goes_whole : (user password : Option (List ℕ)) (asked : List (List ℕ)) (a b c d e : Option (List ℕ)) → b ≡ put_behind a (sign_text user password)
      → c ≡ put_behind b (command_text (share_words run (file_text file)) ++ command_text (get_words run)) → d ≡ put_behind c (reads_text keys asked)
      → GoesOn (text_sent file run keys party) last old o d e → GoesOn (text_sent file run keys party) last old o a e
  goes_whole user password asked a b c d e signs shares reads g = after_sign user password a b e signs (after_share b c e shares (after_reads asked c d e reads g))

-- with the keys, the party and the number as they are named at the top
pub goes_named : (file : FileAt) (run : List ℕ) (ks ls : List (List ℕ)) (p q n m : ℕ) (old : Node) (o : Outcome) (a e : Option (List ℕ))
    → ks ≡ ls → p ≡ q → n ≡ m → GoesOn (text_sent file run ks p) n old o a e → GoesOn (text_sent file run ls q) m old o a e
goes_named file run ks ls p q n m old o a e keys party number g =
    subst (λ (x : ℕ). GoesOn (text_sent file run ls q) x old o a e) number (subst (λ (x : ℕ). GoesOn (text_sent file run ls x) n old o a e) party
    (subst (λ (x : List (List ℕ)). GoesOn (text_sent file run x p) n old o a e) keys g))
