-- The first words of statements: as tokens, and where a text is stuck after them.
use Rattle.std.proofs.Common.{◌≡◌, ℕ, false, List, ◌∷◌, Result, IfErr, refl, ap, sym, subst, ◌∙◌}
use Rattle.std.specs.Prelude.{codes}
use Rattle.sj_lang.specs.declared.file.Names.{Names}
use Rattle.sj_grammar.specs.declared.refusal.ParseRefusal.{ParseRefusal}
use Rattle.sj_lang.specs.Limits.{limits}
use Rattle.sj_grammar.specs.Lexis.{Ahead, next_of}
use Rattle.sj_grammar.specs.Literals.{is_text}
use Rattle.sj_grammar.specs.Names.{is_name, is_reserved}
use Rattle.sj_grammar.specs.Reading.{Reading, line_number, before_next}
use Rattle.sj_grammar.specs.Positions.{At, Takes, TakesPiece, first_on}
use Rattle.sj_grammar.specs.Layers.{goes, step}
use Rattle.sj_grammar.specs.FileDues.{Due, stmts, statement_follow, file_layer}
use Rattle.sj_grammar.specs.Asked.{TakesText}
use Rattle.sj_grammar.proofs.StucknessLemmas.{stuck_cons}
use Rattle.sj_proto.specs.Parsed.{standing, Stops}
use Rattle.sj_proto.proofs.ExitLemmas.{plain, stops_map}
use Rattle.sj_party.specs.declared.first_words.Word.TheVariants as words
use Rattle.sj_party.specs.declared.first_words.FirstWord.{FirstWord}
use Rattle.sj_party.specs.declared.first_words.FirstWord.TheVariants as firsts
use Rattle.sj_party.specs.Words.{word_of, dues_behind, IsFixed}

pub no_name_else : is_name (codes "else") ≡ false
unfolding is_reserved
no_name_else = refl

-- what stands before a party's name
pub fixed_to : IsFixed (codes "to")
unfolding is_reserved
fixed_to = record { no_name = refl; no_text = refl; no_largest = refl }

pub fixed_from : IsFixed (codes "from")
unfolding is_reserved
fixed_from = record { no_name = refl; no_text = refl; no_largest = refl }

no_name_word : (w : FirstWord) → is_name (word_of w) ≡ false
unfolding is_reserved
no_name_word (firsts.Simple words.Send) = refl
no_name_word (firsts.Simple words.Delegate) = refl
no_name_word (firsts.Simple words.Recv) = refl
no_name_word (firsts.Simple words.Outbranch) = refl
no_name_word (firsts.Simple words.Let) = refl
no_name_word (firsts.Simple words.Close) = refl
no_name_word (firsts.Simple words.Request) = refl
no_name_word (firsts.Simple words.Accept) = refl
no_name_word firsts.Inbranch = refl
no_name_word firsts.Outwhile = refl
no_name_word firsts.Inwhile = refl
no_name_word firsts.Relay = refl
no_name_word firsts.If = refl

no_text_word : (w : FirstWord) → is_text (word_of w) ≡ false
no_text_word (firsts.Simple words.Send) = refl
no_text_word (firsts.Simple words.Delegate) = refl
no_text_word (firsts.Simple words.Recv) = refl
no_text_word (firsts.Simple words.Outbranch) = refl
no_text_word (firsts.Simple words.Let) = refl
no_text_word (firsts.Simple words.Close) = refl
no_text_word (firsts.Simple words.Request) = refl
no_text_word (firsts.Simple words.Accept) = refl
no_text_word firsts.Inbranch = refl
no_text_word firsts.Outwhile = refl
no_text_word firsts.Inwhile = refl
no_text_word firsts.Relay = refl
no_text_word firsts.If = refl

word_step : (w : FirstWord) (o n : ℕ) (ds : List Due) → step file_layer limits n (stmts o ∷ ds) (word_of w) ≡ goes n (dues_behind w o (stmts o ∷ ds))
unfolding statement_follow
word_step (firsts.Simple words.Send) o n ds = refl
word_step (firsts.Simple words.Delegate) o n ds = refl
word_step (firsts.Simple words.Recv) o n ds = refl
word_step (firsts.Simple words.Outbranch) o n ds = refl
word_step (firsts.Simple words.Let) o n ds = refl
word_step (firsts.Simple words.Close) o n ds = refl
word_step (firsts.Simple words.Request) o n ds = refl
word_step (firsts.Simple words.Accept) o n ds = refl
word_step firsts.Inbranch o n ds = refl
word_step firsts.Outwhile o n ds = refl
word_step firsts.Inwhile o n ds = refl
word_step firsts.Relay o n ds = refl
word_step firsts.If o n ds = refl

took_word : (w : FirstWord) (r q : Reading) (names : Names) → TakesText r (word_of w) q → Takes (standing r names) (word_of w) (standing q names)
took_word w r q names t = plain r q names (word_of w) (no_name_word w) (no_text_word w) t

-- the first word on its line
pub word_piece : (w : FirstWord) (l : ℕ) (r q : Reading) (names : Names) → TakesText r (word_of w) q → l ≡ line_number (before_next r (next_of r.ahead)) → TakesPiece (standing r names) (first_on l (word_of w)) (standing q names)
word_piece w l r q names t line =
    let taken = took_word w r q names t in
    record { taken = taken; line = line ∙ ap (λ (x : Ahead). line_number (before_next r x)) taken.token }

-- after the first word
pub word_stops : (w : FirstWord) (o : ℕ) (r q : Reading) (names : Names) (e : ParseRefusal) → TakesText r (word_of w) q → ((n : ℕ) → Stops (λ ds. dues_behind w o ds) n (standing q names) e) → (n : ℕ) → Stops (λ ds. stmts o ∷ ds) n (standing r names) e
word_stops w o r q names e t st n =
    stops_map (λ ds. dues_behind w o ds) (λ ds. stmts o ∷ ds) n n (standing q names) (standing r names) e
    (λ f h ds. stuck_cons file_layer limits n n (standing r names) (standing q names) (word_of w) (stmts o ∷ ds) (dues_behind w o (stmts o ∷ ds)) f (took_word w r q names t) (word_step w o n ds) (h (stmts o ∷ ds))) (st n)

-- what is refused after that word
pub err_begun : {X : Type 0} (r : Result X ParseRefusal) (w v : FirstWord) (o : ℕ) (a : At) → w ≡ v → IfErr r (λ e. (n : ℕ) → Stops (λ ds. dues_behind v o ds) n a e) → IfErr r (λ e. (n : ℕ) → Stops (λ ds. dues_behind w o ds) n a e)
err_begun r w v o a is h = subst (λ (x : FirstWord). IfErr r (λ e. (n : ℕ) → Stops (λ ds. dues_behind x o ds) n a e)) (sym is) h
