-- Entries of the party's stream, done again one after another.
use Rattle.std.proofs.Common.{◌≡◌, ◌∙◌, ◌<◌, ◌+◌, ℕ, List, [], ◌∷◌, ◌++◌, Vec, ap, get_or, length, map, refl, subst, sym, take, append-nil}
use Rattle.std.proofs.lemmas.List.{map-append, map_more, take_more}
use Rattle.std.proofs.lemmas.List.Concat.{flat_map-append}
use Rattle.std.specs.declared.alloc.Global.{Global}
use Rattle.sj_end.specs.Lines.{entry_at}
use Rattle.sj_end.specs.declared.note.Entry.{Entry}
use Rattle.sj_engine.specs.declared.in_lane.ByteIn.{ByteIn}
use Rattle.sj_engine.specs.declared.out_lane.ByteOut.{ByteOut}
use Rattle.sj_lang.specs.FileAt.{FileAt}
use Rattle.sj_node.specs.Node.{wants_of}
use Rattle.sj_node.specs.Play.{next_want}
use Rattle.sj_node.specs.declared.node.Node.{Node}
use Rattle.sj_remote_run.specs.Caught.{entries_in}
use Rattle.sj_rules.specs.Log.{EntryAt}
use Rattle.sj_seat.specs.declared.guest.Guest.{Guest}
use Rattle.sj_semantics.specs.declared.Want.TheVariants as wants
use Rattle.sj_streams.specs.Words.{words_at}
use Rattle.sj_streams.specs.declared.replies.Came.{Came}
use Rattle.sj_work.specs.Laned.{entries_of}
use Rattle.sj_remote_seat.specs.Caught.{DidAgain, DidAll}
use Rattle.sj_remote_seat.specs.Turns.{Resembles, Sat, has_of}
use Rattle.sj_remote_seat.proofs.SatLemmas.{sat_then}

-- a node that looks the same has nothing to do either
pub idle_like : (a b : Node) → Resembles a b → wants_of a ≡ wants.Ended → wants_of b ≡ wants.Ended
idle_like a b x idle = ap (λ n. next_want n.program) x.node ∙ idle

module _ {G : Type 0} where
  -- one event more
  pub sat_more : (a b c : Guest ByteOut ByteIn G) (es : List Entry) (e : Entry) (fs : List Entry) → fs ≡ es ++ e ∷ [] → Sat a b (entries_of es) → Sat b c (entry_at e ∷ []) → Sat a c (entries_of fs)
  sat_more a b c es e fs is x y =
      subst (λ (l : List EntryAt). Sat a c l) (sym (ap entries_of is ∙ map-append entry_at es (e ∷ []))) (sat_then a b c (has_of a) (has_of b) (has_of c) (entries_of es) (entry_at e ∷ []) x y)

  -- some more entries
  pub did_both : (file : FileAt) (xs ys : List (List (List ℕ))) (a b c : Guest ByteOut ByteIn G) → DidAll file xs a b → DidAll file ys b c → DidAll file (xs ++ ys) a c
  did_both file [] ys a b c s t = subst (λ (n : Guest ByteOut ByteIn G). DidAll file ys n c) s t
  did_both file (x ∷ xs) ys a b c s t = (s.0, s.1, did_both file xs ys s.0 b c s.2 t)

  -- the next entry
  pub did_next : (file : FileAt) (xs : List (Vec (Vec ℕ Global) Global)) (i : ℕ) (x : Vec (Vec ℕ Global) Global) (ws : List (List ℕ)) (a b c : Guest ByteOut ByteIn G) → i < length xs → x ≡ get_or xs i x
      → ws ≡ words_at x.items → DidAll file (map (λ e. words_at e.items) (take i xs)) a b → DidAgain file ws b c → DidAll file (map (λ e. words_at e.items) (take (i + 1) xs)) a c
  did_next file xs i x ws a b c less is same all d =
      let before : List (List (List ℕ)) = map (λ e. words_at e.items) (take i xs) in
      let more : map (λ e. words_at e.items) (take (i + 1) xs) ≡ before ++ ws ∷ [] =
      map_more (λ e. words_at e.items) xs i x less ∙ ap (λ (v : Vec (Vec ℕ Global) Global). before ++ words_at v.items ∷ []) (sym is) ∙ ap (λ (w : List (List ℕ)). before ++ w ∷ []) (sym same) in
      subst (λ (l : List (List (List ℕ))). DidAll file l a c) (sym more) (did_both file before (ws ∷ []) a b c all (c, d, refl))

  -- the entries that came next
  pub did_came : (file : FileAt) (own : List Came) (i : ℕ) (x : Came) (es : List (Vec (Vec ℕ Global) Global)) (a b c : Guest ByteOut ByteIn G) → i < length own → x ≡ get_or own i x
      → es ≡ x.entries.items → DidAll file (entries_in (take i own)) a b → DidAll file (map (λ e. words_at e.items) es) b c → DidAll file (entries_in (take (i + 1) own)) a c
  did_came file own i x es a b c less is same all d =
      let before : List (List (List ℕ)) = entries_in (take i own) in
      let here : List (List (List ℕ)) = map (λ e. words_at e.items) es in
      let more : entries_in (take (i + 1) own) ≡ before ++ here =
      ap entries_in (take_more own i x less) ∙ flat_map-append (λ (c : Came). map (λ e. words_at e.items) c.entries.items) (take i own) (get_or own i x ∷ [])
      ∙ ap (λ (c : Came). before ++ (map (λ e. words_at e.items) c.entries.items ++ [])) (sym is)
      ∙ ap (λ (l : List (List (List ℕ))). before ++ l) (append-nil (map (λ e. words_at e.items) x.entries.items))
      ∙ ap (λ (l : List (Vec (Vec ℕ Global) Global)). before ++ map (λ e. words_at e.items) l) (sym same) in
      subst (λ (l : List (List (List ℕ))). DidAll file l a c) (sym more) (did_both file before here a b c all d)
