-- Entries that are done again, as batches.
use Rattle.std.proofs.Common.{◌≡◌, ℕ, suc, ◌+◌, max, List, [], ◌∷◌, ◌++◌, map, length, refl, sym, ap, subst, ◌∙◌, append-nil, get_or, take, ◌<◌, Vec, Option, None}
use Rattle.std.proofs.lemmas.List.{length-append, length-map, map_more, take_more}
use Rattle.std.specs.declared.alloc.Global.{Global}
use Rattle.sj_base.specs.Stream.{put_behind}
use Rattle.std.proofs.lemmas.List.Concat.{flat_map-append}
use Rattle.sj_end.specs.declared.note.Entry.{Entry}
use Rattle.sj_lang.specs.FileAt.{FileAt}
use Rattle.sj_lang.specs.Place.{Place}
use Rattle.sj_node.specs.declared.node.Node.{Node}
use Rattle.sj_node.specs.Node.{log_of, node_at, play_here}
use Rattle.sj_node.specs.Reading.{party_of}
use Rattle.sj_rules.specs.Node.{NodeAt, Play}
use Rattle.sj_rules.specs.NodeRun.{NodeRun}
use Rattle.sj_semantics.specs.Program.{Program}
use Rattle.sj_resp.specs.Spelling.{command_text}
use Rattle.sj_streams.specs.Commands.{read_words}
use Rattle.sj_streams.specs.Words.{words_at}
use Rattle.sj_streams.specs.declared.replies.Came.{Came}
use Rattle.sj_work.specs.Laned.{entries_of}
use Rattle.sj_remote_run.specs.Again.{DidAgain}
use Rattle.sj_remote_run.specs.Batches.{AreBatches, BatchAt, IsBatch}
use Rattle.sj_remote_run.specs.Caught.{DidAll, IsCaughtUp, entries_in, entry_count, reads_text}
use Rattle.sj_remote_run.specs.Played.{IsAgain}
use Rattle.sj_remote_run.proofs.GoesLemmas.{play_taken}
use Rattle.sj_remote_run.proofs.TurnLemmas.{behind_both}

-- some more entries
pub did_both : (file : FileAt) (xs ys : List (List (List ℕ))) (a b c : Node) → DidAll file xs a b → DidAll file ys b c → DidAll file (xs ++ ys) a c
did_both file [] ys a b c s t = subst (λ (n : Node). DidAll file ys n c) s t
did_both file (x ∷ xs) ys a b c s t = (s.0, s.1, did_both file xs ys s.0 b c s.2 t)

pub did_one : (file : FileAt) (xs : List (List (List ℕ))) (x : List (List ℕ)) (a b c : Node) → DidAll file xs a b → DidAgain file x b c → DidAll file (xs ++ x ∷ []) a c
did_one file xs x a b c s d = did_both file xs (x ∷ []) a b c s (c, d, refl)

-- the next entry
pub did_next : (file : FileAt) (xs : List (Vec (Vec ℕ Global) Global)) (i : ℕ) (x : Vec (Vec ℕ Global) Global) (ws : List (List ℕ)) (a b c : Node) → i < length xs → x ≡ get_or xs i x
    → ws ≡ words_at x.items → DidAll file (map (λ e. words_at e.items) (take i xs)) a b → DidAgain file ws b c → DidAll file (map (λ e. words_at e.items) (take (i + 1) xs)) a c
did_next file xs i x ws a b c less is same all d =
    let before : List (List (List ℕ)) = map (λ e. words_at e.items) (take i xs) in
    let more : map (λ e. words_at e.items) (take (i + 1) xs) ≡ before ++ words_at x.items ∷ [] = map_more (λ e. words_at e.items) xs i x less ∙ ap (λ (v : Vec (Vec ℕ Global) Global). before ++ words_at v.items ∷ []) (sym is) in
    subst (λ (l : List (List (List ℕ))). DidAll file l a c) (sym more) (did_one file before (words_at x.items) a b c all (subst (λ (w : List (List ℕ)). DidAgain file w b c) same d))

-- the entries that came next
pub did_came : (file : FileAt) (own : List Came) (i : ℕ) (x : Came) (es : List (Vec (Vec ℕ Global) Global)) (a b c : Node) → i < length own → x ≡ get_or own i x
    → es ≡ x.entries.items → DidAll file (entries_in (take i own)) a b → DidAll file (map (λ e. words_at e.items) es) b c → DidAll file (entries_in (take (i + 1) own)) a c
did_came file own i x es a b c less is same all d =
    let before : List (List (List ℕ)) = entries_in (take i own) in
    let here : List (List (List ℕ)) = map (λ e. words_at e.items) es in
    let more : entries_in (take (i + 1) own) ≡ before ++ here =
    ap entries_in (take_more own i x less) ∙ flat_map-append (λ (c : Came). map (λ e. words_at e.items) c.entries.items) (take i own) (get_or own i x ∷ [])
    ∙ ap (λ (c : Came). before ++ (map (λ e. words_at e.items) c.entries.items ++ [])) (sym is)
    ∙ ap (λ (l : List (List (List ℕ))). before ++ l) (append-nil (map (λ e. words_at e.items) x.entries.items))
    ∙ ap (λ (l : List (Vec (Vec ℕ Global) Global)). before ++ map (λ e. words_at e.items) l) (sym same) in
    subst (λ (l : List (List (List ℕ))). DidAll file l a c) (sym more) (did_both file before here a b c all d)

-- one more read
pub reads_more : (keys these : List (List ℕ)) (asked : List (List ℕ)) (seen : List ℕ) (o m n : Option (List ℕ)) → these ≡ keys → m ≡ put_behind o (reads_text keys asked)
    → n ≡ put_behind m (command_text (read_words 512 None these seen)) → n ≡ put_behind o (reads_text keys (asked ++ seen ∷ []))
reads_more keys these asked seen o m n same before wrote =
    let t : List ℕ = command_text (read_words 512 None keys seen) in
    wrote ∙ ap (λ (k : List (List ℕ)). put_behind m (command_text (read_words 512 None k seen))) same ∙ ap (λ (x : Option (List ℕ)). put_behind x t) before
    ∙ behind_both o (reads_text keys asked) t ∙ ap (put_behind o) (ap (λ (x : List ℕ). reads_text keys asked ++ x) (sym (append-nil t))
    ∙ sym (flat_map-append (λ (s : List ℕ). command_text (read_words 512 None keys s)) asked (seen ∷ [])))

-- so many more came of the own stream
pub count_more : (own : List Came) (c : Came) → entry_count (own ++ c ∷ []) ≡ entry_count own + length c.entries.items
count_more own c =
    ap length (flat_map-append (λ (x : Came). map (λ e. words_at e.items) x.entries.items) own (c ∷ []))
    ∙ length-append (entries_in own) (map (λ e. words_at e.items) c.entries.items ++ [])
    ∙ ap (λ (l : List (List (List ℕ))). entry_count own + length l) (append-nil (map (λ e. words_at e.items) c.entries.items))
    ∙ ap (λ (n : ℕ). entry_count own + n) (length-map c.entries.items (λ e. words_at e.items))

-- an entry that was done again is a batch
pub again_batch : (file : FileAt) (words : List (List ℕ)) (a b : Node) (d : DidAgain file words a b) → log_of a ≡ []
    → IsBatch (play_here a) (party_of a) (node_at a) (node_at b) (record { steps = d.went.steps; noted = log_of d.node; posts = d.posts })
again_batch file words a b d none = record {
  run = subst (λ (n : NodeAt Place Program). NodeRun (play_here a) max (party_of a) (node_at a) d.went.steps n) (sym d.taken.node) d.went.run;
  notes = d.went.log ∙ ap (λ (l : List Entry). entries_of l ++ map (λ s. s.entry) d.went.steps) none;
  frames = d.frames;
}

pub record Rebuilt (file : FileAt) (entries : List (List (List ℕ))) (a b : Node) : Type 0 where
  pub batches : List BatchAt
  pub count : length batches ≡ length entries
  pub are : AreBatches (play_here a) (party_of a) (node_at a) batches (node_at b)
  pub play : play_here b ≡ play_here a
  pub party : party_of b ≡ party_of a
  pub empty : log_of b ≡ []

pub rebuilt : (file : FileAt) (entries : List (List (List ℕ))) (a b : Node) → log_of a ≡ [] → DidAll file entries a b → Rebuilt file entries a b
rebuilt file [] a b none all = record {
  batches = [];
  count = refl;
  are = ap node_at all;
  play = ap play_here all;
  party = ap party_of all;
  empty = ap log_of all ∙ none;
}
rebuilt file (words ∷ others) a b none all =
    let mid = all.0 in
    let d = all.1 in
    let r : Rebuilt file others mid b = rebuilt file others mid b d.empty all.2 in
    let play : play_here mid ≡ play_here a = play_taken d.node mid d.taken ∙ d.went.play in
    let party : party_of mid ≡ party_of a = d.taken.party ∙ d.went.party in
    let here : BatchAt = record { steps = d.went.steps; noted = log_of d.node; posts = d.posts } in
    record {
      batches = here ∷ r.batches;
      count = ap (λ (n : ℕ). suc n) r.count;
      are = (
        node_at mid,
        again_batch file words a mid d none,
        subst (λ (p : Play Place Program). AreBatches p (party_of a) (node_at mid) r.batches (node_at b)) play
            (subst (λ (p : ℕ). AreBatches (play_here mid) p (node_at mid) r.batches (node_at b)) party r.are),
      );
      play = r.play ∙ play;
      party = r.party ∙ party;
      empty = r.empty;
    }

-- a new process is where its entries lead to
pub is_again : (file : FileAt) (party number : ℕ) (node : Node) (x : IsCaughtUp file party number node)
    → (again : List BatchAt) × (number ≡ length again) × IsAgain file party again node × (log_of node ≡ [])
is_again file party number node x =
    let first = x.first in
    let b = x.begins in
    let r : Rebuilt file x.entries first node = rebuilt file x.entries first node b.log x.all in (
      r.batches,
      x.count ∙ sym r.count,
      record {
        first = first;
        begins = b;
        batches = subst (λ (p : ℕ). AreBatches (play_here first) p (node_at first) r.batches (node_at node)) b.party r.are;
        play = r.play;
        party_stays = r.party ∙ b.party;
      },
      r.empty,
    )
