use Rattle.std.proofs.Common.{◌≡◌, ◌<◌, List, arith, length, map, refl, subst, sym}
use Rattle.std.specs.List.{All}
use Rattle.std.proofs.lemmas.List.{length-map}
use Rattle.sj_end.specs.Lines.{line_at}
use Rattle.sj_lang.specs.FileView.{connect_of, file_of}
use Rattle.sj_seats.specs.Seated.{history_of, party_count}
use Rattle.sj_seat_told.specs.Standing.{AreNodeStands}
use Rattle.sj_seat_told.proofs.TranscriptLemmas.{begun_in_part, first_cut, first_put, same_ends, told_after, told_in_part, told_nothing}
use Rattle.sj_seat_told_laws.specs.SeatsOpened.{sessions_told}
use Rattle.sj_semantics.specs.declared.Opened.{Opened}
use Rattle.sj_text.proofs.CutLemmas.{on_err}
use Rattle.sj_told.specs.declared.told.Stand.{Stand}
use Rattle.sj_seat_told.proofs.told.put_transcript.Goals as goal

pub returns-in-Err-clause-err : goal.returns-in-Err-clause-err
returns-in-Err-clause-err c = told_nothing (file_of c.args.file.now) c.args.world.now c.requires.quiet c.args.text.now.items c.args.text.now.items refl

pub returns-in-Err-opened-clause-err : goal.returns-in-Err-opened-clause-err
returns-in-Err-opened-clause-err c = told_nothing (file_of c.args.file.now) c.args.world.now c.requires.quiet c.args.text.now.items c.args.text.now.items refl

pub returns-in-Err-ends_told-clause-err : goal.returns-in-Err-ends_told-clause-err
returns-in-Err-ends_told-clause-err c = told_nothing (file_of c.args.file.now) c.args.world.now c.requires.quiet c.args.text.now.items c.args.text.now.items refl

pub returns-in-Err-ends_told-2-clause-err : goal.returns-in-Err-ends_told-2-clause-err
returns-in-Err-ends_told-2-clause-err c = told_nothing (file_of c.args.file.now) c.args.world.now c.requires.quiet c.args.text.now.items c.args.text.now.items refl

pub returns-in_err-put_ends-clause-err : goal.returns-in_err-put_ends-clause-err
returns-in_err-put_ends-clause-err c =
    let file = file_of c.args.file.now in let w = c.args.world.now in let quiet = c.requires.quiet in
    let lines = length-map c.args.file.now.connects.items connect_of in
    let same : c.len.result ≡ length file.connects = omega (arith, lines, c.len.ensures, c.args.file.now.connects.ok.0) in
    let told = same_ends (map line_at c.history.result.now) (history_of w) c.len.result (length file.connects) c.in-Ok-ends_told.ends.items c.deref-2.result.now c.history.ensures same c.deref-2.ensures.value c.in-Ok-ends_told.ensures in
    let there = same_ends (map line_at c.history-2.result.now) (history_of w) c.session_count.result c.session_count.result c.in-Ok-ends_told-2.ends.items c.in-Ok-ends_told-2.ends.items c.history-2.ensures refl refl
    c.in-Ok-ends_told-2.ensures in
    let all = subst (λ (os : List Opened). All (λ o. o.sess < c.session_count.result) os) c.deref.ensures.value c.session_count.ensures in
    on_err c.from_residual.result _
    (begun_in_part file w quiet c.in-Ok.stands.items c.in-Ok.ensures.seen c.in-Ok-opened.opened.items c.in-Ok-opened.ensures.seen c.session_count.result all c.in-Ok-ends_told-2.ends.items there
    c.args.text.now.items c.put_ends.new.text.items (first_cut file w quiet c.deref-2.result.now told c.args.text.now.items c.put_ends.new.text.items c.in_err-put_ends.ensures.err))

pub returns-clause-ok : goal.returns-clause-ok
returns-clause-ok c =
    let file = file_of c.args.file.now in let w = c.args.world.now in let quiet = c.requires.quiet in
    let lines = length-map c.args.file.now.connects.items connect_of in
    let same : c.len.result ≡ length file.connects = omega (arith, lines, c.len.ensures, c.args.file.now.connects.ok.0) in
    let told = same_ends (map line_at c.history.result.now) (history_of w) c.len.result (length file.connects) c.in-Ok-ends_told.ends.items c.deref-2.result.now c.history.ensures same c.deref-2.ensures.value c.in-Ok-ends_told.ensures in
    let there = same_ends (map line_at c.history-2.result.now) (history_of w) c.session_count.result c.session_count.result c.in-Ok-ends_told-2.ends.items c.deref-3.result.now c.history-2.ensures refl c.deref-3.ensures.value
    c.in-Ok-ends_told-2.ensures in
    let seen : c.deref-4.result.now ≡ sessions_told (history_of w) (party_count w) 0 = subst (λ (os : List Opened). os ≡ sessions_told (history_of w) (party_count w) 0) (sym c.deref-4.ensures.value) c.in-Ok-opened.ensures.seen in
    let all = subst (λ (os : List Opened). All (λ o. o.sess < c.session_count.result) os) (sym c.deref-4.ensures.value) (subst (λ (os : List Opened). All (λ o. o.sess < c.session_count.result) os) c.deref.ensures.value c.session_count.ensures) in
    let stands = subst (λ (ss : List Stand). AreNodeStands w ss) (sym c.deref-5.ensures.value) c.in-Ok.ensures.seen in
    told_after file w quiet c.deref-5.result.now stands c.deref-4.result.now seen c.session_count.result all c.deref-3.result.now there c.args.text.now.items c.put_ends.new.text.items c.put_rest.new.text.items c.put_rest.result
    (first_put file w quiet c.deref-2.result.now told c.args.text.now.items c.put_ends.new.text.items c.in_ok-put_ends.ensures.ok) c.put_rest.ensures.ok

pub returns-clause-err : goal.returns-clause-err
returns-clause-err c =
    let file = file_of c.args.file.now in let w = c.args.world.now in let quiet = c.requires.quiet in
    let lines = length-map c.args.file.now.connects.items connect_of in
    let same : c.len.result ≡ length file.connects = omega (arith, lines, c.len.ensures, c.args.file.now.connects.ok.0) in
    let told = same_ends (map line_at c.history.result.now) (history_of w) c.len.result (length file.connects) c.in-Ok-ends_told.ends.items c.deref-2.result.now c.history.ensures same c.deref-2.ensures.value c.in-Ok-ends_told.ensures in
    let there = same_ends (map line_at c.history-2.result.now) (history_of w) c.session_count.result c.session_count.result c.in-Ok-ends_told-2.ends.items c.deref-3.result.now c.history-2.ensures refl c.deref-3.ensures.value
    c.in-Ok-ends_told-2.ensures in
    let seen : c.deref-4.result.now ≡ sessions_told (history_of w) (party_count w) 0 = subst (λ (os : List Opened). os ≡ sessions_told (history_of w) (party_count w) 0) (sym c.deref-4.ensures.value) c.in-Ok-opened.ensures.seen in
    let all = subst (λ (os : List Opened). All (λ o. o.sess < c.session_count.result) os) (sym c.deref-4.ensures.value) (subst (λ (os : List Opened). All (λ o. o.sess < c.session_count.result) os) c.deref.ensures.value c.session_count.ensures) in
    let stands = subst (λ (ss : List Stand). AreNodeStands w ss) (sym c.deref-5.ensures.value) c.in-Ok.ensures.seen in
    told_in_part file w quiet c.deref-5.result.now stands c.deref-4.result.now seen c.session_count.result all c.deref-3.result.now there c.args.text.now.items c.put_ends.new.text.items c.put_rest.new.text.items c.put_rest.result
    (first_put file w quiet c.deref-2.result.now told c.args.text.now.items c.put_ends.new.text.items c.in_ok-put_ends.ensures.ok) c.put_rest.ensures.err
