-- What is put of an answer so far, part by part.
use Rattle.std.proofs.Common.{◌≡◌, ℕ, true, false, List, [], ◌∷◌, ◌++◌, refl, ap, sym, ◌∙◌, append_assoc}
use Rattle.std.specs.Prelude.{codes}
use Rattle.sj_base.specs.declared.Msg.{Msg}
use Rattle.sj_base.specs.declared.Msg.TheVariants as msgs
use Rattle.sj_lang.specs.FileAt.{FileAt}
use Rattle.sj_print.specs.Pieces.{message_text, words_text}
use Rattle.sj_print.proofs.JoinLemmas.{message_line}
use Rattle.sj_semantics.specs.Lines.{end_text, int_text, line_of, message_words, name_of, quoted_at, word_at}
use Rattle.sj_text.proofs.CutLemmas.{StillTo, ahead_is, none_yet, one_more}

-- ---- a message, and a message with a name after it

message_after : (x : List ℕ) (file : FileAt) (m : Msg) → x ++ 32 ∷ line_of (message_words file m) ≡ line_of (x ∷ message_words file m)
message_after x file (msgs.Int n) = refl
message_after x file (msgs.Bool true) = refl
message_after x file (msgs.Bool false) = refl
message_after x file (msgs.Text n) = refl
message_after x file (msgs.Label l) = refl
message_after x file (msgs.More true) = refl
message_after x file (msgs.More false) = refl
message_after x file (msgs.Sess s d k) = refl

-- words, and one more after them
line_with : (w : List ℕ) (ws : List (List ℕ)) (z : List ℕ) → words_text (w ∷ ws) ++ 32 ∷ (z ++ 10 ∷ []) ≡ line_of (w ∷ (ws ++ z ∷ []))
line_with w [] z = refl
line_with w (v ∷ ws) z = append_assoc w (32 ∷ words_text (v ∷ ws)) (32 ∷ (z ++ 10 ∷ [])) ∙ ap (λ r. w ++ 32 ∷ r) (line_with v ws z)

named_after : (x z : List ℕ) (file : FileAt) (m : Msg) → x ++ 32 ∷ (message_text file m ++ 32 ∷ (z ++ 10 ∷ [])) ≡ line_of (x ∷ (message_words file m ++ z ∷ []))
named_after x z file (msgs.Int n) = ap (λ r. x ++ 32 ∷ r) (line_with (codes "int") (int_text n ∷ []) z)
named_after x z file (msgs.Bool true) = ap (λ r. x ++ 32 ∷ r) (line_with (codes "boolean") (codes "true" ∷ []) z)
named_after x z file (msgs.Bool false) = ap (λ r. x ++ 32 ∷ r) (line_with (codes "boolean") (codes "false" ∷ []) z)
named_after x z file (msgs.Text n) = ap (λ r. x ++ 32 ∷ r) (line_with (codes "String") (quoted_at file.texts n ∷ []) z)
named_after x z file (msgs.Label l) = ap (λ r. x ++ 32 ∷ r) (line_with (codes "label") (word_at file.words l ∷ []) z)
named_after x z file (msgs.More true) = ap (λ r. x ++ 32 ∷ r) (line_with (codes "more") [] z)
named_after x z file (msgs.More false) = ap (λ r. x ++ 32 ∷ r) (line_with (codes "stop") [] z)
named_after x z file (msgs.Sess s d k) = ap (λ r. x ++ 32 ∷ r) (line_with (codes "session") (end_text s d ∷ name_of file k ∷ []) z)

-- ---- the line of a message that was taken

module _ (file : FileAt) (m : Msg) (x old : List ℕ) where
  abbrev pub took_text : List ℕ
  took_text = line_of (codes "took" ∷ x ∷ message_words file m)

  took_whole : took_text ≡ codes "took " ++ (x ++ (codes " " ++ (message_text file m ++ 10 ∷ [])))
  took_whole = ap (λ r. codes "took " ++ r) (sym (message_after x file m) ∙ ap (λ r. x ++ 32 ∷ r) (sym (message_line file m)))

  -- after its end
  took_from : (a b : List ℕ) → a ≡ old ++ codes "took " → b ≡ a ++ x → StillTo old took_text (codes " " ++ (message_text file m ++ 10 ∷ [])) b
  took_from a b e f =
      one_more old took_text x (codes " " ++ (message_text file m ++ 10 ∷ [])) a b
      (one_more old took_text (codes "took ") (x ++ (codes " " ++ (message_text file m ++ 10 ∷ []))) old a (ahead_is old took_text took_text _ old took_whole (none_yet old took_text)) e) f

  pub took_gap : (a b c : List ℕ) → a ≡ old ++ codes "took " → b ≡ a ++ x → c ≡ b ++ codes " " → StillTo old took_text (message_text file m ++ 10 ∷ []) c
  took_gap a b c e f g = one_more old took_text (codes " ") (message_text file m ++ 10 ∷ []) b c (took_from a b e f) g

  -- after the message
  pub took_message : (a b c d : List ℕ) → a ≡ old ++ codes "took " → b ≡ a ++ x → c ≡ b ++ codes " " → d ≡ c ++ message_text file m → StillTo old took_text (10 ∷ []) d
  took_message a b c d e f g h = one_more old took_text (message_text file m) (10 ∷ []) c d (took_gap a b c e f g) h

-- ---- the line of an end that was taken, with its name z

module _ (file : FileAt) (m : Msg) (x z old : List ℕ) where
  abbrev pub end_text_of : List ℕ
  end_text_of = line_of (codes "took" ∷ x ∷ (message_words file m ++ z ∷ []))

  abbrev pub name_ahead : List ℕ
  name_ahead = codes " " ++ (z ++ 10 ∷ [])

  end_whole : end_text_of ≡ codes "took " ++ (x ++ (codes " " ++ (message_text file m ++ name_ahead)))
  end_whole = ap (λ r. codes "took " ++ r) (sym (named_after x z file m))

  end_from : (a b : List ℕ) → a ≡ old ++ codes "took " → b ≡ a ++ x → StillTo old end_text_of (codes " " ++ (message_text file m ++ name_ahead)) b
  end_from a b e f =
      one_more old end_text_of x (codes " " ++ (message_text file m ++ name_ahead)) a b
      (one_more old end_text_of (codes "took ") (x ++ (codes " " ++ (message_text file m ++ name_ahead))) old a (ahead_is old end_text_of end_text_of _ old end_whole (none_yet old end_text_of)) e) f

  pub end_gap : (a b c : List ℕ) → a ≡ old ++ codes "took " → b ≡ a ++ x → c ≡ b ++ codes " " → StillTo old end_text_of (message_text file m ++ name_ahead) c
  end_gap a b c e f g = one_more old end_text_of (codes " ") (message_text file m ++ name_ahead) b c (end_from a b e f) g

  pub end_message : (a b c d : List ℕ) → a ≡ old ++ codes "took " → b ≡ a ++ x → c ≡ b ++ codes " " → d ≡ c ++ message_text file m → StillTo old end_text_of name_ahead d
  end_message a b c d e f g h = one_more old end_text_of (message_text file m) name_ahead c d (end_gap a b c e f g) h

  pub end_space : (a b c d i : List ℕ) → a ≡ old ++ codes "took " → b ≡ a ++ x → c ≡ b ++ codes " " → d ≡ c ++ message_text file m → i ≡ d ++ codes " " → StillTo old end_text_of (z ++ 10 ∷ []) i
  end_space a b c d i e f g h j = one_more old end_text_of (codes " ") (z ++ 10 ∷ []) d i (end_message a b c d e f g h) j

  pub end_name : (a b c d i k : List ℕ) → a ≡ old ++ codes "took " → b ≡ a ++ x → c ≡ b ++ codes " " → d ≡ c ++ message_text file m → i ≡ d ++ codes " " → k ≡ i ++ z
      → StillTo old end_text_of (10 ∷ []) k
  end_name a b c d i k e f g h j l = one_more old end_text_of z (10 ∷ []) i k (end_space a b c d i e f g h j) l
