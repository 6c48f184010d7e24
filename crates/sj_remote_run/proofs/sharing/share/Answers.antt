use Rattle.std.proofs.Common.{◌≡◌, ◌++◌, ℕ, List, [], refl, ap, subst, ◌∙◌, arith}
use Rattle.sj_lang.specs.FileView.{file_of}
use Rattle.sj_party.specs.CanonicalFile.{file_text}
use Rattle.sj_remote.specs.Talks.{Heard}
use Rattle.sj_remote_run.specs.Asked.{IsCause, IsOfFile, Talked}
use Rattle.sj_remote_run.specs.Refused.{IsFile, ToGet, ToShare}
use Rattle.sj_remote_run.proofs.CauseLemmas.{err_as, unanswered_cause}
use Rattle.sj_remote_run.proofs.TalkedLemmas.{talked_both, talked_here}
use Rattle.sj_remote_run.proofs.sharing.share.Goals as goal

-- what was printed is that text
own_is : (now own none text : List ℕ) → now ≡ own → own ≡ none ++ text → none ≡ [] → now ≡ text
own_is now own none text read printed empty = read ∙ printed ∙ ap (λ (l : List ℕ). l ++ text) empty

pub returns-in_err-put_in-clause-refused : goal.returns-in_err-put_in-clause-refused
returns-in_err-put_in-clause-refused g c =
    let left = g.S.Source.left in
    let faults = g.S.Source.faults in
    let has_ended = g.S.Source.has_ended in
    let unwritten = g.K.Sink.faults in
    let next = IsOfFile (file_text (file_of c.args.file.now)) in
    let a = c.args.conn.now in
    let e = c.in_err-put_in.field-0.0 in
    err_as _ e (IsCause left faults has_ended unwritten next a c.put_in.new.conn) c.from_residual-in_err-put_in.ensures.1
    (unanswered_cause left faults has_ended unwritten next 0 a a c.put_in.new.conn (talked_here left faults unwritten a) ToShare refl e c.in_err-put_in.ensures.refused)

pub returns-in_err-take_file-clause-refused : goal.returns-in_err-take_file-clause-refused
returns-in_err-take_file-clause-refused g c =
    let left = g.S.Source.left in
    let faults = g.S.Source.faults in
    let has_ended = g.S.Source.has_ended in
    let unwritten = g.K.Sink.faults in
    let text = file_text (file_of c.args.file.now) in
    let own : c.deref-3.result.now ≡ text = own_is _ _ _ text c.deref-3.ensures.value c.in_ok-print_file.ensures.ok c.new-own.ensures.items in
    let a = c.args.conn.now in
    let e = c.in_err-take_file.field-0.0 in
    err_as _ e (IsCause left faults has_ended unwritten (IsOfFile text) a c.take_file.new.conn) c.from_residual-in_err-take_file.ensures.1
    (unanswered_cause left faults has_ended unwritten (IsOfFile text) 1 a c.put_in.new.conn c.take_file.new.conn c.in_ok-put_in.ensures.talked (ToGet c.deref-3.result.now) (own, refl) e
    c.in_err-take_file.ensures.refused)

pub returns-clause-shared : goal.returns-clause-shared
returns-clause-shared g c =
    let text = file_text (file_of c.args.file.now) in
    let own : c.deref-3.result.now ≡ text = own_is _ _ _ text c.deref-3.ensures.value c.in_ok-print_file.ensures.ok c.new-own.ensures.items in
    (c.put_in.new.conn, c.in_ok-put_in.ensures.number, subst (λ (t : List ℕ). Heard g.S.Source.left c.put_in.new.conn c.take_file.new.conn (IsFile t)) own c.in_ok-take_file.ensures.own)

pub returns-clause-talked : goal.returns-clause-talked
returns-clause-talked g c =
    let left = g.S.Source.left in
    let faults = g.S.Source.faults in
    let unwritten = g.K.Sink.faults in
    let a = c.args.conn.now in
    let d = c.take_file.new.conn in
    subst (λ (n : ℕ). Talked left faults unwritten n a d) (omega arith) (talked_both left faults unwritten 1 1 a c.put_in.new.conn d c.in_ok-put_in.ensures.talked c.in_ok-take_file.ensures.talked)
