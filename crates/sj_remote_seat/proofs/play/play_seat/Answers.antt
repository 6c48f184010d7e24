use Rattle.std.proofs.Common.{◌≡◌, ◌∙◌, ◌++◌, ap, arith, get_or, length, option_map, refl, subst, sym, vec_len}
use Rattle.std.proofs.lemmas.List.{length-map}
use Rattle.sj_base.specs.Stream.{put_behind}
use Rattle.sj_check.specs.Held.{file_in}
use Rattle.sj_lang.specs.FileView.{file_of}
use Rattle.sj_lang.specs.FileView.{party_of as party_at}
use Rattle.sj_lang.specs.declared.file.File.{File}
use Rattle.sj_lang.specs.Place.{done}
use Rattle.sj_node.specs.Reading.{party_of}
use Rattle.sj_party.specs.CanonicalFile.{file_text}
use Rattle.sj_remote.specs.Conn.{sink_of}
use Rattle.sj_remote.specs.Streams.{keys_of, log_keys, seen_of}
use Rattle.sj_remote_run.specs.Caught.{entries_in, entry_count, reads_text}
use Rattle.sj_remote_run.specs.Sent.{text_sent}
use Rattle.sj_remote_run.proofs.PostLemmas.{clear_none}
use Rattle.sj_resp.specs.Spelling.{command_text}
use Rattle.sj_rules.specs.NodeRun.{told_frames}
use Rattle.sj_seat.specs.Views.{node_of}
use Rattle.sj_streams.specs.Commands.{get_words, share_words}
use Rattle.sj_streams.specs.Words.{words_at}
use Rattle.sj_remote_seat.specs.Played.{HasGone}
use Rattle.sj_remote_seat.proofs.HandedLemmas.{clear_put}
use Rattle.sj_remote_seat.proofs.WholeLemmas.{asks_named, before_are, is_played, parties_stay, refused_any}
use Rattle.sj_remote_seat.proofs.play.play_seat.Goals as goal

pub go_on-requires : goal.go_on-requires
go_on-requires g c =
    let file = file_of (file_in c.args.accepted.now) in
    record {
      empty = c.in_ok-seat.ensures.none;
      clear = c.in_ok-seat.ensures.clear;
      parties = ap (λ f. length (file_of f).parties) c.file-3.ensures.value ∙ parties_stay file c.args.how.now.party (entries_in c.deref.result.now) c.in_ok-first.first c.in_ok-seat.seat c.in_ok-first.ensures.begins c.in_ok-seat.ensures.again;
    }

pub catch_up-requires-clause-clear : goal.catch_up-requires-clause-clear
catch_up-requires-clause-clear g c =
    let first = c.in_ok-first.ensures in
    clear_put c.in_ok-first.first _ (node_of c.in_ok-first.first) first.lanes refl
    (clear_none c.in_ok-lanes.lanes.outs.items (node_of c.in_ok-first.first) c.in_ok-lanes.ensures.clear (λ q less. ap (told_frames done) (first.begins.node.boxes q)))

pub returns-clause-ok : goal.returns-clause-ok
returns-clause-ok g c =
    let written = g.K.Sink.written in
    let file = file_of (file_in c.args.accepted.now) in
    let run = c.args.how.now.run.now in
    let party = c.args.how.now.party in
    let user = option_map (λ u. u.now) c.args.how.now.user in
    let password = option_map (λ p. p.now) c.args.how.now.password in
    let streams = c.read_all.new.streams in
    let keys = words_at (keys_of streams) in
    let seen = seen_of streams in
    let own = c.deref.result.now in
    let read = c.in_ok-read_all.ensures in
    let all = c.file-2.result.now.parties in
    let held : vec_len all ≡ length all.items = omega (arith, all.ok) in
    let count : c.len-parties.result ≡ length file.parties = c.len-parties.ensures ∙ held ∙ sym (length-map c.file-2.result.now.parties.items party_at) ∙ ap (λ f. length (file_of f).parties) c.file-2.ensures.value in
    let named : keys ≡ log_keys run (length file.parties) = ap words_at read.keys ∙ c.in_ok-streams.ensures.keys ∙ ap (log_keys run) count in
    let shares = c.in_ok-share.ensures.sent ∙ ap (λ f. put_behind (written (sink_of c.sign_in.new.conn)) (command_text (share_words run (file_text (file_of f))) ++ command_text (get_words run))) c.file.ensures.value in
    let reads = read.sent.1 ∙ ap (λ ks. put_behind (written (sink_of c.share.new.conn)) (reads_text (words_at ks) read.sent.0)) (sym read.keys) in
    let wrote = before_are file run keys party user password read.sent.0 (written (sink_of c.args.conn.now)) (written (sink_of c.sign_in.new.conn)) (written (sink_of c.share.new.conn)) (written (sink_of c.read_all.new.conn))
    c.in_ok-sign_in.ensures.sent shares reads in
    let number : get_or seen party 0 ≡ length (entries_in own) = read.count (c.in_ok-streams.ensures.seen party ∙ ap entry_count (sym c.new-own.ensures.items)) ∙ ap entry_count (sym c.deref.ensures.value) in
    let seat = c.in_ok-seat.seat in
    let gone = subst (λ (f : File). HasGone (text_sent (file_of f) run keys (party_of (node_of seat))) (file_of f) (get_or seen (party_of (node_of seat)) 0) seat c.in_ok-outcome.outcome
    (written (sink_of c.read_all.new.conn)) (written (sink_of c.go_on.new.conn))) c.file-3.ensures.value c.in_ok-outcome.ensures.gone in
    is_played file run keys seen party (entries_in own) c.in_ok-first.first c.in_ok-seat.seat c.in_ok-outcome.outcome user password read.sent.0 (written (sink_of c.args.conn.now)) (written (sink_of c.read_all.new.conn))
    (written (sink_of c.go_on.new.conn)) c.in_ok-first.ensures.begins c.in_ok-seat.ensures.again number named wrote gone

pub returns-in_err-first-clause-refused : goal.returns-in_err-first-clause-refused
returns-in_err-first-clause-refused g c =
    let written = g.K.Sink.written in
    let file = file_of (file_in c.args.accepted.now) in
    let run = c.args.how.now.run.now in
    let party = c.args.how.now.party in
    let user = option_map (λ u. u.now) c.args.how.now.user in
    let password = option_map (λ p. p.now) c.args.how.now.password in
    let keys = words_at (keys_of c.read_all.new.streams) in
    let read = c.in_ok-read_all.ensures in
    let all = c.file-2.result.now.parties in
    let held : vec_len all ≡ length all.items = omega (arith, all.ok) in
    let count : c.len-parties.result ≡ length file.parties = c.len-parties.ensures ∙ held ∙ sym (length-map c.file-2.result.now.parties.items party_at) ∙ ap (λ f. length (file_of f).parties) c.file-2.ensures.value in
    let named : keys ≡ log_keys run (length file.parties) = ap words_at read.keys ∙ c.in_ok-streams.ensures.keys ∙ ap (log_keys run) count in
    let shares = c.in_ok-share.ensures.sent ∙ ap (λ f. put_behind (written (sink_of c.sign_in.new.conn)) (command_text (share_words run (file_text (file_of f))) ++ command_text (get_words run))) c.file.ensures.value in
    let reads = read.sent.1 ∙ ap (λ ks. put_behind (written (sink_of c.share.new.conn)) (reads_text (words_at ks) read.sent.0)) (sym read.keys) in
    let before = written (sink_of c.args.conn.now) in
    let after = written (sink_of c.read_all.new.conn) in
    refused_any file run party before after c.from_residual-in_err-first.result
    (asks_named file run keys party user password read.sent.0 before after named
    (before_are file run keys party user password read.sent.0 before (written (sink_of c.sign_in.new.conn)) (written (sink_of c.share.new.conn)) after c.in_ok-sign_in.ensures.sent shares reads))

pub returns-in_err-seat-clause-refused : goal.returns-in_err-seat-clause-refused
returns-in_err-seat-clause-refused g c =
    let written = g.K.Sink.written in
    let file = file_of (file_in c.args.accepted.now) in
    let run = c.args.how.now.run.now in
    let party = c.args.how.now.party in
    let user = option_map (λ u. u.now) c.args.how.now.user in
    let password = option_map (λ p. p.now) c.args.how.now.password in
    let keys = words_at (keys_of c.read_all.new.streams) in
    let read = c.in_ok-read_all.ensures in
    let all = c.file-2.result.now.parties in
    let held : vec_len all ≡ length all.items = omega (arith, all.ok) in
    let count : c.len-parties.result ≡ length file.parties = c.len-parties.ensures ∙ held ∙ sym (length-map c.file-2.result.now.parties.items party_at) ∙ ap (λ f. length (file_of f).parties) c.file-2.ensures.value in
    let named : keys ≡ log_keys run (length file.parties) = ap words_at read.keys ∙ c.in_ok-streams.ensures.keys ∙ ap (log_keys run) count in
    let shares = c.in_ok-share.ensures.sent ∙ ap (λ f. put_behind (written (sink_of c.sign_in.new.conn)) (command_text (share_words run (file_text (file_of f))) ++ command_text (get_words run))) c.file.ensures.value in
    let reads = read.sent.1 ∙ ap (λ ks. put_behind (written (sink_of c.share.new.conn)) (reads_text (words_at ks) read.sent.0)) (sym read.keys) in
    let before = written (sink_of c.args.conn.now) in
    let after = written (sink_of c.read_all.new.conn) in
    refused_any file run party before after c.from_residual-in_err-seat.result
    (asks_named file run keys party user password read.sent.0 before after named
    (before_are file run keys party user password read.sent.0 before (written (sink_of c.sign_in.new.conn)) (written (sink_of c.share.new.conn)) after c.in_ok-sign_in.ensures.sent shares reads))
