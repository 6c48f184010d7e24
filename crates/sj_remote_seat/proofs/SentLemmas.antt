-- Commands that a party which code plays sends, one after another (as in sj_remote_run, for one that goes by the file).
use Rattle.std.proofs.Common.{◌≡◌, ◌∙◌, ℕ, ◌+◌, max, List, [], ◌∷◌, ◌++◌, Option, map, refl, sym, ap, subst, arith}
use Rattle.std.proofs.lemmas.List.Concat.{flat_map-append}
use Rattle.sj_base.specs.Stream.{put_behind}
use Rattle.sj_end.specs.declared.note.Entry.{Entry}
use Rattle.sj_lang.specs.FileAt.{FileAt}
use Rattle.sj_lang.specs.Place.{Place}
use Rattle.sj_remote_run.proofs.SentLemmas.{adds_by}
use Rattle.sj_remote_run.proofs.TurnLemmas.{behind_both}
use Rattle.sj_remote_run.specs.Batches.{BatchAt}
use Rattle.sj_remote_run.specs.Sent.{Adds, AskAt, Asks, CommandAt, text_sent, words_sent}
use Rattle.sj_remote_run.specs.Turns.{added_count}
use Rattle.sj_resp.specs.Spelling.{command_text}
use Rattle.sj_rules.specs.Node.{NodeAt}
use Rattle.sj_rules.specs.NodeRun.{NodeRun, StepAt}
use Rattle.sj_seat_laws.specs.SeatedPlay.{Player, seated_play}
use Rattle.sj_work.specs.Laned.{entries_of}
use Rattle.sj_remote_seat.specs.Batches.{AreSent, IsBatch}
use Rattle.sj_remote_seat.specs.Played.{GoesOn}

module _ (file : FileAt) (party : ℕ) where
  pub sent_both : (cs ds : List CommandAt) (last mid end : ℕ) (a b c : NodeAt Place Player)
      → AreSent file party last a cs mid b → AreSent file party mid b ds end c → AreSent file party last a (cs ++ ds) end c
  sent_both [] ds last mid end a b c s t =
      subst (λ (n : NodeAt Place Player). AreSent file party last n ds end c) s.1 (subst (λ (k : ℕ). AreSent file party k b ds end c) s.0 t)
  sent_both (Asks q ∷ cs) ds last mid end a b c s t = sent_both cs ds last mid end a b c s t
  sent_both (Adds number x ∷ cs) ds last mid end a b c s t = (s.0, s.1, s.2, sent_both cs ds (last + 1) mid end s.0 b c s.3 t)

  none_noted : (ss : List (StepAt Place)) (a c : NodeAt Place Player) → [] ≡ map (λ s. s.entry) ss → NodeRun (seated_play file) max party a ss c → c ≡ a
  none_noted [] a c none run = sym run
  none_noted (s ∷ ss) a c none run = absurd cc

  noted_sent : (noted : List Entry) (last : ℕ) (a c : NodeAt Place Player) (b : BatchAt) → b.noted ≡ noted → IsBatch file party a c b
      → AreSent file party last a (adds_by (last + 1) noted b) (last + added_count noted) c
  noted_sent [] last a c b same is = (omega arith, none_noted b.steps a c (ap entries_of (sym same) ∙ is.notes) is.run)
  noted_sent (e ∷ es) last a c b same is = (c, refl, is, (refl, refl))

  -- a batch is sent
  pub batch_sent : (last : ℕ) (a c : NodeAt Place Player) (b : BatchAt) → IsBatch file party a c b
      → AreSent file party last a (adds_by (last + 1) b.noted b) (last + added_count b.noted) c
  batch_sent last a c b is = noted_sent b.noted last a c b refl is

  -- what changes no stream changes no number and no node
  pub asks_sent : (asks : List AskAt) (last : ℕ) (a : NodeAt Place Player) → AreSent file party last a (map Asks asks) last a
  asks_sent [] last a = (refl, refl)
  asks_sent (q ∷ asks) last a = asks_sent asks last a

module _ (file : FileAt) (run : List ℕ) (keys : List (List ℕ)) (party : ℕ) where
  -- some more commands
  pub goes_then : (first mid end : ℕ) (a b c : NodeAt Place Player) (before between after : Option (List ℕ)) (cs : List CommandAt) → GoesOn (text_sent file run keys party) file party first mid a b before between
      → AreSent file party mid b cs end c → after ≡ put_behind between (text_sent file run keys party cs) → GoesOn (text_sent file run keys party) file party first end a c before after
  goes_then first mid end a b c before between after cs g s wrote = record {
    commands = g.commands ++ cs;
    written = wrote ∙ ap (λ (o : Option (List ℕ)). put_behind o (text_sent file run keys party cs)) g.written
        ∙ behind_both before (text_sent file run keys party g.commands) (text_sent file run keys party cs)
        ∙ ap (put_behind before) (sym (flat_map-append (λ c. command_text (words_sent file run keys party c)) g.commands cs));
    sent = sent_both file party g.commands cs first mid end a b c g.sent s;
  }

  -- and some before
  pub goes_after : (last end : ℕ) (a c : NodeAt Place Player) (before between after : Option (List ℕ)) (asks : List AskAt) → between ≡ put_behind before (text_sent file run keys party (map Asks asks))
      → GoesOn (text_sent file run keys party) file party last end a c between after → GoesOn (text_sent file run keys party) file party last end a c before after
  goes_after last end a c before between after asks wrote g = record {
    commands = map Asks asks ++ g.commands;
    written = g.written ∙ ap (λ (x : Option (List ℕ)). put_behind x (text_sent file run keys party g.commands)) wrote
        ∙ behind_both before (text_sent file run keys party (map Asks asks)) (text_sent file run keys party g.commands)
        ∙ ap (put_behind before) (sym (flat_map-append (λ c. command_text (words_sent file run keys party c)) (map Asks asks) g.commands));
    sent = sent_both file party (map Asks asks) g.commands last last end a a c (asks_sent file party asks last a) g.sent;
  }
