use Rattle.std.proofs.Common.{◌≡◌, ℕ, ◌+◌, ◌++◌, get_or, length, vec_len, arith, refl, sym, ap, subst, ◌∙◌}
use Rattle.std.proofs.lemmas.List.{length-map}
use Rattle.sj_base.specs.Stream.{put_behind}
use Rattle.sj_check.specs.Held.{file_in}
use Rattle.sj_lang.specs.FileView.{file_of}
use Rattle.sj_lang.specs.FileView.{party_of as party_at}
use Rattle.sj_node.specs.Reading.{party_of}
use Rattle.sj_party.specs.CanonicalFile.{file_text}
use Rattle.sj_remote.specs.Conn.{sink_of}
use Rattle.sj_remote.specs.Streams.{keys_of, log_keys, seen_of}
use Rattle.sj_resp.specs.Spelling.{command_text}
use Rattle.sj_streams.specs.Commands.{get_words, share_words}
use Rattle.sj_streams.specs.Words.{words_at}
use Rattle.sj_remote_run.specs.Asked.{IsPlayCause, IsInPlay, IsOfFile, IsOfStreams, sign_count}
use Rattle.sj_remote_run.specs.Caught.{reads_text}
use Rattle.sj_remote_run.specs.Refused.{ToSign}
use Rattle.sj_remote_run.specs.Stuck.{IsStuckAt, StuckOn}
use Rattle.sj_remote_run.proofs.StuckLemmas.{play_later}
use Rattle.sj_remote_run.proofs.CaughtLemmas.{is_again}
use Rattle.sj_remote_run.proofs.CauseLemmas.{cause_later, cause_play, err_as, file_then, play_then, unanswered_cause}
use Rattle.sj_remote_run.proofs.PlayedLemmas.{goes_named, goes_whole}
use Rattle.sj_remote_run.proofs.TalkedLemmas.{talked_both, talked_here}
use Rattle.sj_remote_run.proofs.play.play_party.Goals as goal

pub go_on-requires : goal.go_on-requires
go_on-requires g c =
    let file = file_of (file_in c.args.accepted.now) in
    let party = c.args.how.now.party in
    record { empty = (is_again file party (get_or (seen_of c.catch_up.new.streams) party 0) c.in_ok-node.node (c.in_ok-node.ensures.again (c.in_ok-streams.ensures.seen party))).3; none = c.in_ok-node.ensures.none }

pub returns-clause-played : goal.returns-clause-played
returns-clause-played g c =
    let written = g.K.Sink.written in
    let file = file_of (file_in c.args.accepted.now) in
    let run = c.args.how.now.run.now in
    let party = c.args.how.now.party in
    let node = c.in_ok-node.node in
    let seen = seen_of c.catch_up.new.streams in
    let again = is_again file party (get_or seen party 0) node (c.in_ok-node.ensures.again (c.in_ok-streams.ensures.seen party)) in
    let named : party_of node ≡ party = again.2.party_stays in
    let keys = words_at (keys_of c.catch_up.new.streams) in
    let all = c.file-2.result.now.parties in
    let held : vec_len all ≡ length all.items = omega (arith, all.ok) in
    let count : c.len-parties.result ≡ length file.parties = c.len-parties.ensures ∙ held ∙ sym (length-map c.file-2.result.now.parties.items party_at) ∙ ap (λ f. length (file_of f).parties) c.file-2.ensures.value in
    let keys_are : keys ≡ log_keys run (length file.parties) = ap words_at c.in_ok-node.ensures.keys ∙ c.in_ok-streams.ensures.keys ∙ ap (log_keys run) count in
    let shares = c.in_ok-share.ensures.sent ∙ ap (λ f. put_behind (written (sink_of c.sign_in.new.conn)) (command_text (share_words run (file_text (file_of f))) ++ command_text (get_words run))) c.file.ensures.value in
    let reads = c.in_ok-node.ensures.sent in
    let asks = reads.1 ∙ ap (λ ks. put_behind (written (sink_of c.share.new.conn)) (reads_text (words_at ks) reads.0)) (sym c.in_ok-node.ensures.keys) in
    record {
      again = again.0;
      old = node;
      redone = again.2;
      goes_on = goes_named file run keys (log_keys run (length file.parties)) (party_of node) party (get_or seen (party_of node) 0) (length again.0) node c.in_ok-outcome.outcome
          (written (sink_of c.args.conn.now)) (written (sink_of c.go_on.new.conn)) keys_are named (ap (λ p. get_or seen p 0) named ∙ again.1)
          (goes_whole file run keys (party_of node) (get_or seen (party_of node) 0) node c.in_ok-outcome.outcome _ _ reads.0
          (written (sink_of c.args.conn.now)) (written (sink_of c.sign_in.new.conn)) (written (sink_of c.share.new.conn)) (written (sink_of c.catch_up.new.conn)) (written (sink_of c.go_on.new.conn))
          c.in_ok-sign_in.ensures.sent shares asks c.in_ok-outcome.ensures.goes);
    }

pub returns-in_err-sign_in-clause-refused : goal.returns-in_err-sign_in-clause-refused
returns-in_err-sign_in-clause-refused g c =
    let left = g.S.Source.left in
    let faults = g.S.Source.faults in
    let has_ended = g.S.Source.has_ended in
    let unwritten = g.K.Sink.faults in
    let file = file_of (file_in c.args.accepted.now) in
    let run = c.args.how.now.run.now in
    let party = c.args.how.now.party in
    let signs = sign_count c.args.how.now.password in
    let text = file_text file in
    let all = log_keys run (length file.parties) in
    let next = IsInPlay signs text all party in
    let stuck = IsStuckAt file party in
    let a = c.args.conn.now in
    let e = c.in_err-sign_in.field-0.0 in
    err_as _ e (IsPlayCause left faults has_ended unwritten next stuck a c.sign_in.new.conn) c.from_residual.ensures.1
    (cause_play left faults has_ended unwritten next stuck a c.sign_in.new.conn e (unanswered_cause left faults has_ended unwritten next 0 a a c.sign_in.new.conn (talked_here left faults unwritten a) ToSign (c.in_err-sign_in.ensures.given, refl) e c.in_err-sign_in.ensures.refused))

pub returns-in_err-share-clause-refused : goal.returns-in_err-share-clause-refused
returns-in_err-share-clause-refused g c =
    let left = g.S.Source.left in
    let faults = g.S.Source.faults in
    let has_ended = g.S.Source.has_ended in
    let unwritten = g.K.Sink.faults in
    let file = file_of (file_in c.args.accepted.now) in
    let run = c.args.how.now.run.now in
    let party = c.args.how.now.party in
    let signs = sign_count c.args.how.now.password in
    let text = file_text file in
    let all = log_keys run (length file.parties) in
    let next = IsInPlay signs text all party in
    let stuck = IsStuckAt file party in
    let a = c.args.conn.now in
    let own = file_text (file_of c.file.result.now) in
    let same : own ≡ text = ap (λ f. file_text (file_of f)) c.file.ensures.value in
    let e = c.in_err-share.field-0.0 in
    err_as _ e (IsPlayCause left faults has_ended unwritten next stuck a c.share.new.conn) c.from_residual-in_err-share.ensures.1
    (cause_play left faults has_ended unwritten next stuck a c.share.new.conn e (cause_later left faults has_ended unwritten (IsOfFile own) next signs a c.sign_in.new.conn c.share.new.conn c.in_ok-sign_in.ensures.talked (file_then signs text all party own same) e
    c.in_err-share.ensures.refused))

pub returns-in_err-node-clause-refused : goal.returns-in_err-node-clause-refused
returns-in_err-node-clause-refused g c =
    let left = g.S.Source.left in
    let faults = g.S.Source.faults in
    let has_ended = g.S.Source.has_ended in
    let unwritten = g.K.Sink.faults in
    let file = file_of (file_in c.args.accepted.now) in
    let run = c.args.how.now.run.now in
    let party = c.args.how.now.party in
    let signs = sign_count c.args.how.now.password in
    let text = file_text file in
    let all = log_keys run (length file.parties) in
    let next = IsInPlay signs text all party in
    let stuck = IsStuckAt file party in
    let a = c.args.conn.now in
    let parties = c.file-2.result.now.parties in
    let held : vec_len parties ≡ length parties.items = omega (arith, parties.ok) in
    let count : c.len-parties.result ≡ length file.parties = c.len-parties.ensures ∙ held ∙ sym (length-map parties.items party_at) ∙ ap (λ f. length (file_of f).parties) c.file-2.ensures.value in
    let signed = c.in_ok-sign_in.ensures.talked in
    let shared = talked_both left faults unwritten signs 2 a c.sign_in.new.conn c.share.new.conn signed c.in_ok-share.ensures.talked in
    let keys = words_at (keys_of c.in_ok-streams.streams) in
    let same : keys ≡ all = c.in_ok-streams.ensures.keys ∙ ap (log_keys run) count in
    let e = c.in_err-node.field-0.0 in
    err_as _ e (IsPlayCause left faults has_ended unwritten next stuck a c.catch_up.new.conn) c.from_residual-in_err-node.ensures.1
    (cause_play left faults has_ended unwritten next stuck a c.catch_up.new.conn e (cause_later left faults has_ended unwritten (IsOfStreams keys party) next (signs + 2) a c.share.new.conn c.catch_up.new.conn shared
    (play_then signs text all party (signs + 2) (omega arith) keys party same refl) e c.in_err-node.ensures.refused))

pub returns-in_err-outcome-clause-refused : goal.returns-in_err-outcome-clause-refused
returns-in_err-outcome-clause-refused g c =
    let left = g.S.Source.left in
    let faults = g.S.Source.faults in
    let has_ended = g.S.Source.has_ended in
    let unwritten = g.K.Sink.faults in
    let file = file_of (file_in c.args.accepted.now) in
    let run = c.args.how.now.run.now in
    let party = c.args.how.now.party in
    let signs = sign_count c.args.how.now.password in
    let text = file_text file in
    let all = log_keys run (length file.parties) in
    let next = IsInPlay signs text all party in
    let stuck = IsStuckAt file party in
    let a = c.args.conn.now in
    let parties = c.file-2.result.now.parties in
    let held : vec_len parties ≡ length parties.items = omega (arith, parties.ok) in
    let count : c.len-parties.result ≡ length file.parties = c.len-parties.ensures ∙ held ∙ sym (length-map parties.items party_at) ∙ ap (λ f. length (file_of f).parties) c.file-2.ensures.value in
    let signed = c.in_ok-sign_in.ensures.talked in
    let shared = talked_both left faults unwritten signs 2 a c.sign_in.new.conn c.share.new.conn signed c.in_ok-share.ensures.talked in
    let node = c.in_ok-node.node in
    let seen = seen_of c.catch_up.new.streams in
    let again = is_again file party (get_or seen party 0) node (c.in_ok-node.ensures.again (c.in_ok-streams.ensures.seen party)) in
    let named : party_of node ≡ party = again.2.party_stays in
    let keys = words_at (keys_of c.catch_up.new.streams) in
    let same : keys ≡ all = ap words_at c.in_ok-node.ensures.keys ∙ c.in_ok-streams.ensures.keys ∙ ap (log_keys run) count in
    let caught = c.in_ok-node.ensures.talked in
    let n = signs + 2 + caught.0 in
    let came = talked_both left faults unwritten (signs + 2) caught.0 a c.share.new.conn c.catch_up.new.conn shared caught.1 in
    let e = c.in_err-outcome.field-0.0 in
    err_as _ e (IsPlayCause left faults has_ended unwritten next stuck a c.go_on.new.conn) c.from_residual-in_err-outcome.ensures.1
    (play_later left faults has_ended unwritten (IsOfStreams keys (party_of node)) next (StuckOn (get_or seen (party_of node) 0) node) stuck a c.catch_up.new.conn c.go_on.new.conn e c.in_err-outcome.ensures.refused
    (cause_later left faults has_ended unwritten (IsOfStreams keys (party_of node)) next n a c.catch_up.new.conn c.go_on.new.conn came
    (play_then signs text all party n (omega arith) keys (party_of node) same named))
    (λ s. record {
      again = again.0;
      old = node;
      redone = again.2;
      stuck = subst (λ (k : ℕ). StuckOn k node) (ap (λ (p : ℕ). get_or seen p 0) named ∙ again.1) s;
    }))
