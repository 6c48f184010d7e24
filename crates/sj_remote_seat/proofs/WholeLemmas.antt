-- A whole play: what is sent before the turns.
use Rattle.std.proofs.Common.{◌≡◌, ◌∙◌, ℕ, List, [], ◌∷◌, ◌++◌, Option, None, Some, Result, Ok, Err, IfErr, ap, append_assoc, get_or, length, map, refl, subst, sym}
use Rattle.sj_base.proofs.PieceLemmas.{put_behind-nil}
use Rattle.sj_base.specs.Stream.{put_behind}
use Rattle.sj_engine.specs.declared.in_lane.ByteIn.{ByteIn}
use Rattle.sj_engine.specs.declared.out_lane.ByteOut.{ByteOut}
use Rattle.sj_lang.specs.FileAt.{FileAt}
use Rattle.sj_lang.specs.Place.{Place}
use Rattle.sj_node.specs.Reading.{parties_of, party_of}
use Rattle.sj_party.specs.CanonicalFile.{file_text}
use Rattle.sj_remote.specs.Streams.{log_keys}
use Rattle.sj_remote_run.specs.Caught.{reads_text}
use Rattle.sj_remote_run.specs.Sent.{AskAt, Asks, CommandAt, Gets, Reads, Shares, Signs, sign_text, text_sent, words_sent}
use Rattle.sj_remote_run.specs.declared.outcome.Outcome.{Outcome}
use Rattle.sj_remote_run.proofs.TurnLemmas.{behind_both}
use Rattle.sj_resp.specs.Spelling.{command_text}
use Rattle.sj_rules.specs.Node.{NodeAt}
use Rattle.sj_seat.specs.Views.{node_of, seat_of}
use Rattle.sj_seat.specs.declared.guest.Guest.{Guest}
use Rattle.sj_seat_laws.specs.SeatedPlay.{Player}
use Rattle.sj_streams.specs.Commands.{get_words, share_words}
use Rattle.sj_work.specs.declared.worker.NoGate.{NoGate}
use Rattle.sj_remote_seat.specs.Caught.{DidAll}
use Rattle.sj_remote_seat.specs.Played.{GoesOn, HasGone, IsPlayed, IsRefused, OnlyAsks}
use Rattle.sj_remote_seat.specs.Turns.{Begins, played_at}
use Rattle.sj_remote_seat.specs.declared.refusal.SeatPlayRefusal.{SeatPlayRefusal}
use Rattle.sj_remote_seat.specs.declared.refusal.SeatPlayRefusal.TheVariants as refusals
use Rattle.sj_remote_seat.proofs.RebuiltLemmas.{is_again}
use Rattle.sj_remote_seat.proofs.SentLemmas.{goes_after}

-- what a party sends before its turns
abbrev pub asks_before : (user password : Option (List ℕ)) (asked : List (List ℕ)) → List AskAt
asks_before user None asked = Shares ∷ Gets ∷ map (Reads None) asked
asks_before user (Some password) asked = Signs user password ∷ Shares ∷ Gets ∷ map (Reads None) asked

module _ (file : FileAt) (run : List ℕ) (keys : List (List ℕ)) (party : ℕ) where
  reads_are : (asked : List (List ℕ)) → reads_text keys asked ≡ text_sent file run keys party (map Asks (map (Reads None) asked))
  reads_are [] = refl
  reads_are (seen ∷ others) = ap (λ (t : List ℕ). command_text (words_sent file run keys party (Asks (Reads None seen))) ++ t) (reads_are others)

  shares_are : (asked : List (List ℕ)) (b c d : Option (List ℕ)) → c ≡ put_behind b (command_text (share_words run (file_text file)) ++ command_text (get_words run))
      → d ≡ put_behind c (reads_text keys asked) → d ≡ put_behind b (text_sent file run keys party (map Asks (Shares ∷ Gets ∷ map (Reads None) asked)))
  shares_are asked b c d shares reads =
      let s : List ℕ = command_text (share_words run (file_text file)) in
      let g : List ℕ = command_text (get_words run) in
      reads ∙ ap (λ (o : Option (List ℕ)). put_behind o (reads_text keys asked)) shares ∙ behind_both b (s ++ g) (reads_text keys asked)
      ∙ ap (put_behind b) (append_assoc s g (reads_text keys asked) ∙ ap (λ (t : List ℕ). s ++ (g ++ t)) (reads_are asked))

  -- all that goes before the turns changes no stream
  pub before_are : (user password : Option (List ℕ)) (asked : List (List ℕ)) (a b c d : Option (List ℕ)) → b ≡ put_behind a (sign_text user password)
      → c ≡ put_behind b (command_text (share_words run (file_text file)) ++ command_text (get_words run)) → d ≡ put_behind c (reads_text keys asked)
      → d ≡ put_behind a (text_sent file run keys party (map Asks (asks_before user password asked)))
  before_are user None asked a b c d signs shares reads =
      shares_are asked b c d shares reads ∙ ap (λ (o : Option (List ℕ)). put_behind o (text_sent file run keys party (map Asks (asks_before user None asked)))) (signs ∙ sym (put_behind-nil a))
  before_are user (Some password) asked a b c d signs shares reads =
      let t : List ℕ = text_sent file run keys party (map Asks (Shares ∷ Gets ∷ map (Reads None) asked)) in
      shares_are asked b c d shares reads ∙ ap (λ (o : Option (List ℕ)). put_behind o t) signs ∙ behind_both a (sign_text user (Some password)) t

-- with the keys as they are named at the top
pub asks_named : (file : FileAt) (run : List ℕ) (keys : List (List ℕ)) (party : ℕ) (user password : Option (List ℕ)) (asked : List (List ℕ)) (a d : Option (List ℕ))
    → keys ≡ log_keys run (length file.parties) → d ≡ put_behind a (text_sent file run keys party (map Asks (asks_before user password asked))) → OnlyAsks file run party a d
asks_named file run keys party user password asked a d named wrote = record {
  asks = asks_before user password asked;
  written = wrote ∙ ap (λ (ks : List (List ℕ)). put_behind a (text_sent file run ks party (map Asks (asks_before user password asked)))) named;
}

-- all of it
pub is_played : (file : FileAt) (run : List ℕ) (keys : List (List ℕ)) (seen : List ℕ) (party : ℕ) (entries : List (List (List ℕ))) (first seat : Guest ByteOut ByteIn NoGate) (o : Outcome)
    (user password : Option (List ℕ)) (asked : List (List ℕ)) (a d e : Option (List ℕ)) → Begins file party first → DidAll file entries first seat → get_or seen party 0 ≡ length entries → keys ≡ log_keys run (length file.parties)
    → d ≡ put_behind a (text_sent file run keys party (map Asks (asks_before user password asked)))
    → HasGone (text_sent file run keys (party_of (node_of seat))) file (get_or seen (party_of (node_of seat)) 0) seat o d e → IsPlayed file run party o a e
is_played file run keys seen party entries first seat o user password asked a d e begins all number named wrote gone =
    let x = is_again file party entries gone.calls first seat begins all in
    let here : party_of (node_of seat) ≡ party = x.4.party ∙ begins.node.party in
    let mid : NodeAt Place Player = played_at (seat_of gone.calls seat) (node_of seat) in
    let end : NodeAt Place Player = played_at (seat_of [] gone.new) (node_of gone.new) in
    record {
      calls = x.1;
      again = x.0;
      mid = mid;
      redone = x.3;
      end = gone.end;
      new = gone.new;
      goes_on =
          subst (λ (n : ℕ). GoesOn (text_sent file run (log_keys run (length file.parties)) party) file party n gone.end mid end a e) (number ∙ sym x.2)
          (subst (λ (ks : List (List ℕ)). GoesOn (text_sent file run ks party) file party (get_or seen party 0) gone.end mid end a e) named
          (goes_after file run keys party (get_or seen party 0) gone.end mid end a d e (asks_before user password asked) wrote
          (subst (λ (p : ℕ). GoesOn (text_sent file run keys p) file p (get_or seen p 0) gone.end mid end d e) here gone.goes_on)));
      stands = gone.stands;
    }

-- the party is one of the file as long as its entries are done again
pub parties_stay : (file : FileAt) (party : ℕ) (entries : List (List (List ℕ))) (first seat : Guest ByteOut ByteIn NoGate) → Begins file party first → DidAll file entries first seat → length file.parties ≡ parties_of (node_of seat)
parties_stay file party entries first seat begins all = sym ((is_again file party entries [] first seat begins all).4.parties ∙ begins.node.parties)

-- a refusal after which nothing was added
pub refused_any : (file : FileAt) (run : List ℕ) (party : ℕ) (a d : Option (List ℕ)) (r : Result Outcome SeatPlayRefusal) → OnlyAsks file run party a d → IfErr r (IsRefused file run party a d)
refused_any file run party a d (Ok o) x = tt
refused_any file run party a d (Err refusals.LacksPlace) x = x
refused_any file run party a d (Err refusals.OtherCode) x = x
refused_any file run party a d (Err (refusals.Party r)) x = tt
