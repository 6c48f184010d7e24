use Rattle.std.proofs.Common.{IfSome, None, Some, subst}
use Rattle.sj_check.specs.Held.{file_in}
use Rattle.sj_lang.specs.FileView.{file_of}
use Rattle.sj_seat_local.specs.Before.{IsTextOf}
use Rattle.sj_seat_local.specs.Parties.{NamesParty}
use Rattle.sj_seat_local.specs.Seated.{plays}
use Rattle.sj_seat_local.proofs.SeatedLemmas.{no_party_comes}
use Rattle.sj_seat_local.proofs.local.seat_file.Goals as goal

pub returns-in_default : goal.returns-in_default
returns-in_default g c =
    let file = file_of (file_in c.in-Ok-Some.accepted) in
    let of_bytes = subst (λ o. IfSome o (λ a. IsTextOf c.deref.result.now (file_of (file_in a)))) c.in-Ok-Some.field-0-is c.in-Ok-Some.ensures.some in
    let is = subst (λ t. IsTextOf t file) c.deref.ensures.value of_bytes in
    let none = subst (λ f. NamesParty (file_of f) c.args.word.now None) c.file.ensures.value c.in_default.ensures.party in
    no_party_comes g.K.Sink.written (g.K.Sink.written c.args.out) c.args.bytes.items c.args.word.now file c.said_no_party-status.new.out c.said_no_party-status.result is none c.said_no_party-status.ensures

pub returns : goal.returns
returns g c =
    let file = file_of (file_in c.in-Ok-Some.accepted) in
    let of_bytes = subst (λ o. IfSome o (λ a. IsTextOf c.deref.result.now (file_of (file_in a)))) c.in-Ok-Some.field-0-is c.in-Ok-Some.ensures.some in
    let is = subst (λ t. IsTextOf t file) c.deref.ensures.value of_bytes in
    let named = subst (λ f. NamesParty (file_of f) c.args.word.now (Some c.in-Some.party)) c.file.ensures.value c.in-Some.ensures.party in
    plays file c.in-Some.party is named c.play_lines.ensures
