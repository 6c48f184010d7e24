use Rattle.std.proofs.Common.{◌≡◌, ℕ, ◌≤◌, List, [], ◌∷◌, ◌++◌, length, sym, subst, ◌∙◌, arith, length-append}
use Rattle.std.specs.Prelude.{map}
use Rattle.std.proofs.lemmas.List.{length-map}
use Rattle.sj_lang.specs.declared.file.Connect.{Connect}
use Rattle.sj_lang.specs.FileView.{connect_of}
use Rattle.sj_lang.specs.Limits.{limits}
use Rattle.sj_grammar.specs.FileDues.{Due, connects, file_layer}
use Rattle.sj_grammar.specs.Faults.{Stuck}
use Rattle.sj_proto.specs.Parsed.{standing}
use Rattle.sj_proto.proofs.ReadLemmas.{kept_on}
use Rattle.sj_proto.proofs.OnwardLemmas.{advances_on}
use Rattle.sj_proto.proofs.ExitLemmas.{err_as, on_fault_map}
use Rattle.sj_party.proofs.ConnectLemmas.{GivesConnects, connects_more, connects_stuck}
use Rattle.sj_party.proofs.connects.parse_connects.Goals as goal

pub returns-in_err-connect-clause-fault : goal.returns-in_err-connect-clause-fault
returns-in_err-connect-clause-fault c =
    let a = standing c.args.tokens.now c.args.names.now in
    let b = standing c.loop-list.tokens c.loop-list.names in
    let cs = map connect_of c.loop-list.list.items in
    let as_many : length cs ≡ length c.loop-list.list.items = length-map c.loop-list.list.items connect_of in
    let before : c.len-before.result ≡ length cs = c.len-before.ensures ∙ c.loop-list.list.ok.0 ∙ sym as_many in
    err_as _ c.in_err-connect.field-0.0 _ c.from_residual.ensures.1
    (on_fault_map (λ f. (n : ℕ) (ds : List Due) → Stuck file_layer limits n b (connects c.len-before.result ∷ ds) f) (λ f. (n : ℕ) (ds : List Due) → Stuck file_layer limits n a (connects 0 ∷ ds) f) c.in_err-connect.field-0.0
    (λ f st n ds. connects_stuck a b cs n ds f (omega (arith, as_many, c.loop-list.invariant.few)) c.loop-list.invariant.reads (λ m. subst (λ (k : ℕ). Stuck file_layer limits m b (connects k ∷ ds) f) before (st m ds)))
    c.in_err-connect.ensures.fault)

pub loop-list-preserved : goal.loop-list-preserved
loop-list-preserved c =
    let a = standing c.args.tokens.now c.args.names.now in
    let z = standing c.connect.new.tokens c.connect.new.names in
    let one = c.in_ok-connect.field-0 in
    let long : length (c.loop-list.list.items ++ one ∷ []) ≤ 64 = omega (arith, length-append c.loop-list.list.items (one ∷ []), c.len-before.ensures, c.loop-list.list.ok.0, c.in_ok-connect.ensures.few) in
    record {
      reads = subst (λ (xs : List Connect). GivesConnects a z (map connect_of xs)) (sym {A = List Connect} c.in_ok-push.ensures.items)
          (connects_more a (standing c.loop-list.tokens c.loop-list.names) z c.loop-list.list.items one c.loop-list.invariant.reads c.in_ok-connect.ensures.reads);
      few = subst (λ (xs : List Connect). length xs ≤ 64) (sym {A = List Connect} c.in_ok-push.ensures.items) long;
      room = omega (arith, c.in_ok-connect.ensures.leaves.room, c.loop-list.invariant.room);
      kept = kept_on c.loop-list.invariant.kept c.connect.ensures.leaves.kept;
      onward = advances_on c.loop-list.invariant.onward c.connect.ensures.leaves.onward;
    }
