-- Lines of messages, one after another.
use Rattle.std.proofs.Common.{◌≡◌, ℕ, zero, suc, ◌+◌, ◌<◌, List, [], ◌∷◌, ◌++◌, length, drop, get_or, refl, ap, sym, ◌∙◌, add-one, Option}
use Rattle.std.specs.Prelude.{decimal, slice_get}
use Rattle.std.specs.Option.{option_to_list}
use Rattle.std.proofs.lemmas.List.{at_drop_more}
use Rattle.sj_lang.specs.FileAt.{FileAt}
use Rattle.sj_semantics.specs.declared.Passed.{Passed}
use Rattle.sj_semantics.specs.Lines.{line_of, name_of, end_text, message_words}
use Rattle.sj_semantics.specs.Transcript.{taker_text, tail_of, sent_lines}

taker_at : (file : FileAt) (takers : List ℕ) (i : ℕ) → taker_text file (drop i takers) ≡ taker_text file (option_to_list (slice_get takers i))
taker_at file [] zero = refl
taker_at file [] (suc i) = refl
taker_at file (q ∷ qs) zero = refl
taker_at file (q ∷ qs) (suc i) = taker_at file qs i

tail_of-drop : (takers : List ℕ) (i : ℕ) → tail_of (drop i takers) ≡ drop (i + 1) takers
tail_of-drop takers i = one_on takers i ∙ ap (λ k. drop k takers) (sym (add-one i))
  where
    one_on : (qs : List ℕ) (k : ℕ) → tail_of (drop k qs) ≡ drop (suc k) qs
    one_on [] zero = refl
    one_on [] (suc k) = refl
    one_on (q ∷ qs) zero = refl
    one_on (q ∷ qs) (suc k) = one_on qs k

-- the line of the next message is ahead, and then those of the messages after it
pub sent_step : (file : FileAt) (s d : ℕ) (sent : List Passed) (takers : List ℕ) (i : ℕ) (x : Passed) (taker : Option ℕ) → i < length sent → taker ≡ slice_get takers i
    → sent_lines file s d i (drop i sent) (drop i takers)
    ≡ line_of (end_text s d ∷ decimal i ∷ name_of file (get_or sent i x).by ∷ taker_text file (option_to_list taker) ∷ message_words file (get_or sent i x).msg)
    ++ sent_lines file s d (i + 1) (drop (i + 1) sent) (drop (i + 1) takers)
sent_step file s d sent takers i x taker h e =
    let y = get_or sent i x in
    let rest = drop (i + 1) sent in
    at_drop_more (λ xs. sent_lines file s d i xs (drop i takers)) sent i x h
    ∙ ap (λ t. line_of (end_text s d ∷ decimal i ∷ name_of file y.by ∷ t ∷ message_words file y.msg) ++ sent_lines file s d (i + 1) rest (tail_of (drop i takers)))
    (taker_at file takers i ∙ ap (λ o. taker_text file (option_to_list o)) (sym e))
    ∙ ap (λ ts. line_of (end_text s d ∷ decimal i ∷ name_of file y.by ∷ taker_text file (option_to_list taker) ∷ message_words file y.msg) ++ sent_lines file s d (i + 1) rest ts) (tail_of-drop takers i)
