-- Commands that are sent, one after another.
use Rattle.std.proofs.Common.{◌≡◌, ℕ, ◌+◌, max, List, [], ◌∷◌, ◌++◌, Option, map, get_or, refl, sym, ap, subst, ◌∙◌, append-nil, arith, None}
use Rattle.sj_end.specs.declared.note.Entry.{Entry}
use Rattle.sj_lang.specs.FileAt.{FileAt}
use Rattle.sj_lang.specs.Place.{Place}
use Rattle.sj_resp.specs.Spelling.{command_text}
use Rattle.sj_rules.specs.Frames.{FrameAt}
use Rattle.sj_rules.specs.Node.{NodeAt, Play}
use Rattle.sj_rules.specs.NodeRun.{NodeRun, StepAt}
use Rattle.sj_semantics.specs.Program.{Program}
use Rattle.sj_work.specs.Laned.{entries_of}
use Rattle.sj_remote_run.specs.Batches.{BatchAt, IsBatch}
use Rattle.sj_remote_run.specs.Caught.{reads_text}
use Rattle.sj_remote_run.specs.Sent.{Adds, AreSent, Asks, CommandAt, Reads, text_sent, words_sent}
use Rattle.sj_remote_run.specs.Turns.{added_count, batch_text}

-- the command that adds a batch where something was noted
abbrev pub adds_by : (number : ℕ) → List Entry → BatchAt → List CommandAt
adds_by number [] b = []
adds_by number (e ∷ es) b = Adds number b ∷ []

module _ (play : Play Place Program) (party : ℕ) where
  pub sent_both : (cs ds : List CommandAt) (last mid end : ℕ) (a b c : NodeAt Place Program)
      → AreSent play party last a cs mid b → AreSent play party mid b ds end c → AreSent play party last a (cs ++ ds) end c
  sent_both [] ds last mid end a b c s t =
      subst (λ (n : NodeAt Place Program). AreSent play party last n ds end c) s.1 (subst (λ (k : ℕ). AreSent play party k b ds end c) s.0 t)
  sent_both (Asks q ∷ cs) ds last mid end a b c s t = sent_both cs ds last mid end a b c s t
  sent_both (Adds number x ∷ cs) ds last mid end a b c s t = (s.0, s.1, s.2, sent_both cs ds (last + 1) mid end s.0 b c s.3 t)

  none_noted : (ss : List (StepAt Place)) (a c : NodeAt Place Program) → [] ≡ map (λ s. s.entry) ss → NodeRun play max party a ss c → c ≡ a
  none_noted [] a c none run = sym run
  none_noted (s ∷ ss) a c none run = absurd cc

  noted_sent : (noted : List Entry) (last : ℕ) (a c : NodeAt Place Program) (b : BatchAt) → b.noted ≡ noted → IsBatch play party a c b
      → AreSent play party last a (adds_by (last + 1) noted b) (last + added_count noted) c
  noted_sent [] last a c b same is = (omega arith, none_noted b.steps a c (ap entries_of (sym same) ∙ is.notes) is.run)
  noted_sent (e ∷ es) last a c b same is = (c, refl, is, (refl, refl))

  -- a batch is sent
  pub batch_sent : (last : ℕ) (a c : NodeAt Place Program) (b : BatchAt) → IsBatch play party a c b
      → AreSent play party last a (adds_by (last + 1) b.noted b) (last + added_count b.noted) c
  batch_sent last a c b is = noted_sent b.noted last a c b refl is

  -- reads change no number and no node
  pub reads_sent : (block : Option ℕ) (asked : List (List ℕ)) (last : ℕ) (a : NodeAt Place Program) → AreSent play party last a (map (λ seen. Asks (Reads block seen)) asked) last a
  reads_sent block [] last a = (refl, refl)
  reads_sent block (seen ∷ others) last a = reads_sent block others last a

module _ (file : FileAt) (run : List ℕ) (keys : List (List ℕ)) (party : ℕ) where
  -- the text of a batch is that of its command
  pub batch_is : (seen : List ℕ) (b : BatchAt) → batch_text keys seen file party b.noted b.posts ≡ text_sent file run keys party (adds_by (get_or seen party 0 + 1) b.noted b)
  batch_is seen b = of b.steps b.noted b.posts
    where
      of : (steps : List (StepAt Place)) (noted : List Entry) (posts : List (List (FrameAt Place)))
          → batch_text keys seen file party noted posts ≡ text_sent file run keys party (adds_by (get_or seen party 0 + 1) noted (record { steps = steps; noted = noted; posts = posts }))
      of steps [] posts = refl
      of steps (e ∷ es) posts = sym (append-nil (batch_text keys seen file party (e ∷ es) posts))

  pub reads_are : (asked : List (List ℕ)) → reads_text keys asked ≡ text_sent file run keys party (map (λ seen. Asks (Reads None seen)) asked)
  reads_are [] = refl
  reads_are (seen ∷ others) = ap (λ (t : List ℕ). command_text (words_sent file run keys party (Asks (Reads None seen))) ++ t) (reads_are others)
