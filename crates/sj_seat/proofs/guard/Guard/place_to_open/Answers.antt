use Rattle.std.proofs.Common.{◌≡◌, ◌∙◌, ap, option_map, sym}
use Rattle.sj_seat_laws.specs.Guards.{opened_place}
use Rattle.sj_table.specs.Spots.{place_in}
use Rattle.sj_seat.specs.Holding.{ends_of}
use Rattle.sj_seat.specs.Opened.{may_of, spot_opened}
use Rattle.sj_seat.specs.Wishes.{open_wished}
use Rattle.sj_seat.proofs.SessionLemmas.{opening_begins, opening_there, opening_wants, placed}
use Rattle.sj_seat.proofs.guard.Guard.place_to_open.Goals as goal

pub returns-in-Request-clause-there : goal.returns-in-Request-clause-there
returns-in-Request-clause-there c =
    let g = c.args.self.now in
    let t = g.table.now in
    let q = c.in-Request.party in
    let n = c.in-Request.protocol in
    let so : option_map (place_in t) c.spot_opened.result ≡ opened_place (may_of g) (open_wished c.args.wish) =
    ap (option_map (place_in t)) (c.spot_opened.ensures ∙ ap (λ os. spot_opened os q n) c.deref.ensures.value) ∙ placed t g.may.now.requests.items q n
    ∙ ap (λ w. opened_place (may_of g) (open_wished w)) (sym c.in-Request.is) in
    opening_there t (may_of g) (ends_of g) c.args.wish c.spot_opened.result so

pub returns-in-Request-clause-begins : goal.returns-in-Request-clause-begins
returns-in-Request-clause-begins c =
    let g = c.args.self.now in
    let t = g.table.now in
    let q = c.in-Request.party in
    let n = c.in-Request.protocol in
    let so : option_map (place_in t) c.spot_opened.result ≡ opened_place (may_of g) (open_wished c.args.wish) =
    ap (option_map (place_in t)) (c.spot_opened.ensures ∙ ap (λ os. spot_opened os q n) c.deref.ensures.value) ∙ placed t g.may.now.requests.items q n
    ∙ ap (λ w. opened_place (may_of g) (open_wished w)) (sym c.in-Request.is) in
    opening_begins t (may_of g) (ends_of g) c.args.wish c.spot_opened.result so

pub returns-in-Request-clause-want : goal.returns-in-Request-clause-want
returns-in-Request-clause-want c =
    let g = c.args.self.now in
    let t = g.table.now in
    let q = c.in-Request.party in
    let n = c.in-Request.protocol in
    let so : option_map (place_in t) c.spot_opened.result ≡ opened_place (may_of g) (open_wished c.args.wish) =
    ap (option_map (place_in t)) (c.spot_opened.ensures ∙ ap (λ os. spot_opened os q n) c.deref.ensures.value) ∙ placed t g.may.now.requests.items q n
    ∙ ap (λ w. opened_place (may_of g) (open_wished w)) (sym c.in-Request.is) in
    opening_wants t (may_of g) (ends_of g) c.args.wish c.spot_opened.result so

pub returns-in-Accept-clause-there : goal.returns-in-Accept-clause-there
returns-in-Accept-clause-there c =
    let g = c.args.self.now in
    let t = g.table.now in
    let q = c.in-Accept.party in
    let n = c.in-Accept.protocol in
    let so : option_map (place_in t) c.spot_opened-in-Accept.result ≡ opened_place (may_of g) (open_wished c.args.wish) =
    ap (option_map (place_in t)) (c.spot_opened-in-Accept.ensures ∙ ap (λ os. spot_opened os q n) c.deref-in-Accept.ensures.value) ∙ placed t g.may.now.accepts.items q n
    ∙ ap (λ w. opened_place (may_of g) (open_wished w)) (sym c.in-Accept.is) in
    opening_there t (may_of g) (ends_of g) c.args.wish c.spot_opened-in-Accept.result so

pub returns-in-Accept-clause-begins : goal.returns-in-Accept-clause-begins
returns-in-Accept-clause-begins c =
    let g = c.args.self.now in
    let t = g.table.now in
    let q = c.in-Accept.party in
    let n = c.in-Accept.protocol in
    let so : option_map (place_in t) c.spot_opened-in-Accept.result ≡ opened_place (may_of g) (open_wished c.args.wish) =
    ap (option_map (place_in t)) (c.spot_opened-in-Accept.ensures ∙ ap (λ os. spot_opened os q n) c.deref-in-Accept.ensures.value) ∙ placed t g.may.now.accepts.items q n
    ∙ ap (λ w. opened_place (may_of g) (open_wished w)) (sym c.in-Accept.is) in
    opening_begins t (may_of g) (ends_of g) c.args.wish c.spot_opened-in-Accept.result so

pub returns-in-Accept-clause-want : goal.returns-in-Accept-clause-want
returns-in-Accept-clause-want c =
    let g = c.args.self.now in
    let t = g.table.now in
    let q = c.in-Accept.party in
    let n = c.in-Accept.protocol in
    let so : option_map (place_in t) c.spot_opened-in-Accept.result ≡ opened_place (may_of g) (open_wished c.args.wish) =
    ap (option_map (place_in t)) (c.spot_opened-in-Accept.ensures ∙ ap (λ os. spot_opened os q n) c.deref-in-Accept.ensures.value) ∙ placed t g.may.now.accepts.items q n
    ∙ ap (λ w. opened_place (may_of g) (open_wished w)) (sym c.in-Accept.is) in
    opening_wants t (may_of g) (ends_of g) c.args.wish c.spot_opened-in-Accept.result so
