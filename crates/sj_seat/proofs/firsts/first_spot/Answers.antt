use Rattle.std.proofs.Common.{◌≡◌, ◌<◌, ◌∙◌, sym, subst, ap, false, length, nat_lt, get_or}
use Rattle.sj_lang.specs.FileView.{file_of}
use Rattle.sj_seat.proofs.FirstLemmas.{first_place, no_place, second_place}
use Rattle.sj_seat.proofs.firsts.first_spot.Goals as goal

pub returns-then-end-eq0 : goal.returns-then-end-eq0
returns-then-end-eq0 c =
    let file = c.args.file.now in
    let xs = file.connects.items in
    let k = c.in-Some.connect.now in
    let h = c.in-Some.ensures.lookup in
    let d = c.deref.ensures.value in
    let lt : c.args.end.sess < length xs = subst (λ ys. c.args.end.sess < length ys) d h.3.0 in
    c.start.ensures.place ∙ c.requires.starts k.first.protocol ∙ sym (first_place (file_of file) xs c.args.end k lt (h.1 ∙ ap (λ ys. get_or ys c.args.end.sess k) d) c.if-end-eq0.true)

pub returns-else-end-eq0 : goal.returns-else-end-eq0
returns-else-end-eq0 c =
    let file = c.args.file.now in
    let xs = file.connects.items in
    let k = c.in-Some.connect.now in
    let h = c.in-Some.ensures.lookup in
    let d = c.deref.ensures.value in
    let lt : c.args.end.sess < length xs = subst (λ ys. c.args.end.sess < length ys) d h.3.0 in
    c.start-else-end-eq0.ensures.place ∙ c.requires.starts k.second.protocol ∙ sym (second_place (file_of file) xs c.args.end k lt (h.1 ∙ ap (λ ys. get_or ys c.args.end.sess k) d) c.if-end-eq0.false)

pub returns-in-None : goal.returns-in-None
returns-in-None c =
    let file = c.args.file.now in
    let past : false ≡ nat_lt c.args.end.sess (length file.connects.items) = c.in-None.ensures.lookup.0 ∙ ap (λ ys. nat_lt c.args.end.sess (length ys)) c.deref.ensures.value in
    c.done.ensures.place ∙ sym (no_place (file_of file) file.connects.items c.args.end past)
