-- What comes of a line, and what the party is then.
use Rattle.std.specs.Prelude.{ℕ, List, [], ◌∷◌, ◌++◌, codes, map, Option, Some, None, option_and_then}
use Rattle.sj_base.specs.declared.EndId.{EndId}
use Rattle.sj_grammar.specs.Canonical.{body_text}
use Rattle.sj_grammar.specs.Tables.{entry_of}
use Rattle.sj_lang.specs.FileAt.{FileAt}
use Rattle.sj_lang.specs.Place.{Place}
use Rattle.sj_seat_laws.specs.Calls.{place_held}
use Rattle.sj_semantics.specs.Lines.{line_of}
use Rattle.sj_talk.specs.Forms as talks
use Rattle.sj_talk.specs.Names.{end_named}
use Rattle.sj_talk.specs.Rules.{no_form, not_bound}
use Rattle.sj_seat_lines.specs.Forms as forms
use Rattle.sj_seat_lines.specs.Forms.{FormAt}
use Rattle.sj_seat_lines.specs.Names.{ends_under, name_in}
use Rattle.sj_seat_lines.specs.Opens.{accept_of, request_of}
use Rattle.sj_seat_lines.specs.Party as asks
use Rattle.sj_seat_lines.specs.Party.{AskAt, PartyAt, SeatAt, waits_for, with_texts}
use Rattle.sj_seat_lines.specs.Replies.{ReplyAt, fine, refused, reply_line}
use Rattle.sj_seat_lines.specs.Steps.{step_of, texts_after}
use Rattle.sj_seat_lines.specs.declared.opens.Opens.{Opens}
use Rattle.sj_seat_lines.specs.declared.opens.Opens.TheVariants as opening
use Rattle.sj_seat_lines.specs.declared.party.Heard.{Heard}
use Rattle.sj_seat_lines.specs.declared.party.Heard.TheVariants.{Asks, Answered, Left}
use Rattle.sj_seat_lines.specs.declared.steps.Step.{Step}
use Rattle.sj_seat_lines.specs.declared.steps.Step.TheVariants as steps

-- what came of a line; the text after which its answer was put; and the party then
pub data HeardAt : Type 0 where
  came : Heard → List ℕ → PartyAt → HeardAt

-- the answer is put after the text
abbrev pub says : PartyAt → List ℕ → ReplyAt → HeardAt
says p t r = came Answered (t ++ reply_line p.file p.texts p.number r) p

-- the seat is asked for a call; an end that comes of it gets that name
abbrev pub asks_for : PartyAt → List ℕ → AskAt → List ℕ → HeardAt
asks_for p t ask name = came Asks t (waits_for p (record { ask = ask; name = name; tries = 0 }))

-- ---- of each form

-- the name that an end gets which is taken
abbrev pub name_for : talks.FormAt → List ℕ
name_for (talks.take_end x y) = y
name_for _ = []

abbrev pub of_step : PartyAt → List ℕ → List ℕ → Step → HeardAt
of_step p t name (steps.Call wish) = asks_for p t (asks.step wish) name
of_step p t name (steps.Refused n) = says p t (refused n)

-- a text that is wanted is put after the others
abbrev pub of_talk : PartyAt → SeatAt → List ℕ → talks.FormAt → HeardAt
of_talk p s t f = of_step (with_texts p (texts_after p.texts p.names s.ends f)) t (name_for f) (step_of p.file p.texts p.names s.ends f)

abbrev pub of_opens : PartyAt → List ℕ → List ℕ → Opens → HeardAt
of_opens p t name (opening.Call wish) = asks_for p t (asks.opening wish) name
of_opens p t name (opening.Refused n) = says p t (refused n)

abbrev pub of_any : PartyAt → List ℕ → Option (List EndId) → HeardAt
of_any p t None = says p t (refused not_bound)
of_any p t (Some es) = asks_for p t (asks.take_any es) []

abbrev pub of_any_names : PartyAt → List ℕ → List (List ℕ) → HeardAt
of_any_names p t xs = of_any p t (ends_under p.names xs)

-- the seat is asked whether something is there for the end of that name
abbrev pub of_ready : PartyAt → List ℕ → Option EndId → HeardAt
of_ready p t None = says p t (refused not_bound)
of_ready p t (Some e) = asks_for p t (asks.ready e) []

abbrev pub of_ready_name : PartyAt → List ℕ → List ℕ → HeardAt
of_ready_name p t x = of_ready p t (end_named p.names x)

-- the line of what is ahead, in the notation of files
abbrev pub ahead_line : FileAt → Place → List ℕ
ahead_line file place = line_of (codes "ahead" ∷ body_text (entry_of file.words) place ∷ [])

abbrev pub of_place : PartyAt → List ℕ → Option Place → HeardAt
of_place p t None = says p t (refused not_bound)
of_place p t (Some place) = came Answered (t ++ ahead_line p.file place) p

abbrev pub of_end_ahead : PartyAt → SeatAt → List ℕ → List ℕ → HeardAt
of_end_ahead p s t x = of_place p t (option_and_then (place_held s.ends) (end_named p.names x))

-- each word after a space
abbrev pub after_spaces : List (List ℕ) → List ℕ
after_spaces [] = []
after_spaces (x ∷ xs) = 32 ∷ (x ++ after_spaces xs)

-- the names of the ends that are held
abbrev pub of_ends : PartyAt → SeatAt → List ℕ → HeardAt
of_ends p s t = came Answered (t ++ (codes "ends" ++ (after_spaces (map (λ b. name_in p.names b.0) s.ends) ++ 10 ∷ []))) p

-- ---- of the line

abbrev pub of_form : PartyAt → SeatAt → List ℕ → FormAt → HeardAt
of_form p s t (forms.talk f) = of_talk p s t f
of_form p s t (forms.request x n q) = of_opens p t x (request_of p.file p.names s.may x n q)
of_form p s t (forms.accept x n q) = of_opens p t x (accept_of p.file p.names s.may x n q)
of_form p s t (forms.take_any xs) = of_any_names p t xs
of_form p s t (forms.ahead x) = of_end_ahead p s t x
of_form p s t (forms.ready x) = of_ready_name p t x
of_form p s t forms.ends = of_ends p s t
of_form p s t forms.leave = came Left (t ++ reply_line p.file p.texts p.number fine) p

-- what comes of it where the party sees that seat
abbrev pub heard_of : PartyAt → SeatAt → List ℕ → Option FormAt → HeardAt
heard_of p s t None = says p t (refused no_form)
heard_of p s t (Some f) = of_form p s t f
