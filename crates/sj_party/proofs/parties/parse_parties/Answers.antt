use Rattle.std.proofs.Common.{◌≡◌, ℕ, ◌≤◌, List, [], ◌∷◌, ◌++◌, length, sym, subst, ◌∙◌, arith, length-append}
use Rattle.std.specs.Prelude.{map}
use Rattle.std.proofs.lemmas.List.{length-map}
use Rattle.sj_lang.specs.declared.file.Party.{Party}
use Rattle.sj_lang.specs.FileView.{party_of}
use Rattle.sj_lang.specs.Limits.{limits}
use Rattle.sj_grammar.specs.FileDues.{Due, parties, file_layer}
use Rattle.sj_grammar.specs.Faults.{Stuck}
use Rattle.sj_proto.specs.Parsed.{standing}
use Rattle.sj_proto.proofs.ExitLemmas.{err_as, on_fault_map}
use Rattle.sj_proto.proofs.OnwardLemmas.{advances_on, advances_none}
use Rattle.sj_party.proofs.PartyLemmas.{ReadsParties, no_parties, parties_more, parties_stuck}
use Rattle.sj_party.proofs.parties.parse_parties.Goals as goal

pub returns-in_err-party-clause-fault : goal.returns-in_err-party-clause-fault
returns-in_err-party-clause-fault c =
    let a = standing c.args.tokens.now c.args.names.now in
    let b = standing c.loop-alloc.tokens c.loop-alloc.names in
    let qs = map party_of c.loop-alloc.list.items in
    let as_many : length qs ≡ length c.loop-alloc.list.items = length-map c.loop-alloc.list.items party_of in
    let before : c.len-before.result ≡ length qs = c.len-before.ensures ∙ c.loop-alloc.list.ok.0 ∙ sym as_many in
    err_as _ c.in_err-party.field-0.0 _ c.from_residual.ensures.1
    (on_fault_map (λ f. (n : ℕ) (ds : List Due) → Stuck file_layer limits n b (parties c.len-before.result ∷ ds) f) (λ f. (n : ℕ) (ds : List Due) → Stuck file_layer limits n a (parties 0 ∷ ds) f) c.in_err-party.field-0.0
    (λ f st n ds. parties_stuck a b qs n ds f (omega (arith, as_many, c.loop-alloc.invariant.few)) c.loop-alloc.invariant.reads (λ m. subst (λ (k : ℕ). Stuck file_layer limits m b (parties k ∷ ds) f) before (st m ds)))
    c.in_err-party.ensures.fault)

pub loop-alloc-preserved : goal.loop-alloc-preserved
loop-alloc-preserved c =
    let a = standing c.args.tokens.now c.args.names.now in
    let z = standing c.party.new.tokens c.party.new.names in
    let one = c.in_ok-party.field-0 in
    let long : length (c.loop-alloc.list.items ++ one ∷ []) ≤ 16 = omega (arith, length-append c.loop-alloc.list.items (one ∷ []), c.len-before.ensures, c.loop-alloc.list.ok.0, c.in_ok-party.ensures.few) in
    record {
      reads = subst (λ (xs : List Party). ReadsParties a z (map party_of xs)) (sym {A = List Party} c.in_ok-push.ensures.items)
          (parties_more a (standing c.loop-alloc.tokens c.loop-alloc.names) z c.loop-alloc.list.items one c.loop-alloc.invariant.reads c.in_ok-party.ensures.reads);
      few = subst (λ (xs : List Party). length xs ≤ 16) (sym {A = List Party} c.in_ok-push.ensures.items) long;
      room = record {
        words = omega (arith, c.in_ok-party.ensures.room.words, c.loop-alloc.invariant.room.words);
        texts = omega (arith, c.in_ok-party.ensures.room.texts, c.loop-alloc.invariant.room.texts);
      };
      onward = advances_on c.loop-alloc.invariant.onward c.in_ok-party.ensures.onward;
    }

pub loop-alloc-init : goal.loop-alloc-init
loop-alloc-init c =
    let a = standing c.args.tokens.now c.args.names.now in
    let none : length {A = Party} [] ≤ 16 = omega arith in
    record {
      reads = subst (λ (xs : List Party). ReadsParties a a (map party_of xs)) (sym c.new-list.ensures.items) (no_parties a);
      few = subst (λ (xs : List Party). length xs ≤ 16) (sym c.new-list.ensures.items) none;
      room = record { words = omega arith; texts = omega arith };
      onward = advances_none c.args.tokens.now;
    }
