use Rattle.std.proofs.Common.{◌≡◌, ℕ, List, [], length, Option, None, option_map, refl, ap, ◌∙◌, arith}
use Rattle.std.proofs.lemmas.List.{length-map}
use Rattle.sj_base.specs.declared.EndId.{EndId}
use Rattle.sj_check.specs.Held.{file_in}
use Rattle.sj_lang.specs.FileAt.{FileAt}
use Rattle.sj_lang.specs.FileView.{connect_of, file_of, party_of}
use Rattle.sj_lang.specs.Place.{Place}
use Rattle.sj_table.specs.declared.table.Table.{Table}
use Rattle.sj_table.specs.Spots.{place_in}
use Rattle.sj_machine.specs.Sound.{program_at}
use Rattle.sj_rules.specs.Mapped.{old_with}
use Rattle.sj_rules.specs.Start.{first_main, first_node}
use Rattle.sj_rules.specs.Record.{OldAt}
use Rattle.sj_node.specs.declared.slots.Old.{Old}
use Rattle.sj_offers.specs.Offers.{offers_in}
use Rattle.sj_node.specs.Play.{play_with}
use Rattle.sj_node.specs.Slots.{look, old_at}
use Rattle.sj_node.specs.Starting.{slot_at_places}
use Rattle.sj_node.proofs.StartingLemmas.{first_records, no_records}
use Rattle.sj_node.proofs.starts.begun.Goals as goal

pub returns-clause-begins : goal.returns-clause-begins
returns-clause-begins c =
    let file : FileAt = file_of c.file-file.result.now in
    let table : Table = c.args.table in
    let same : file ≡ file_of (file_in c.args.accepted.now) = ap file_of c.file-file.ensures.value in
    let mains : (e : EndId) → slot_at_places table (look c.in_ok-mains.mains.items e) ≡ first_main file c.args.party e =
    first_records table file c.args.party c.in_ok-mains.mains.items c.in_ok-mains.ensures.slots in
    let olds : ◌≡◌ {A = EndId → Option (OldAt Place)} (λ e. option_map (old_with (place_in table)) (option_map old_at (look c.new-2.result.items e))) (λ e. None) =
    ap {B = EndId → Option (OldAt Place)} (λ (xs : List (Option Old)) (e : EndId). option_map (old_with (place_in table)) (option_map old_at (look xs e))) c.new-2.ensures.items
    ∙ (λ i e. option_map (old_with (place_in table)) (no_records old_at i e)) in
    let parties : c.len.result ≡ length file.parties =
    omega (arith, c.len.ensures, c.file-file.result.now.parties.ok.0, length-map c.file-file.result.now.parties.items party_of) in
    let named : c.len-2.result ≡ length file.connects =
    omega (arith, c.len-2.ensures, c.file-file.result.now.connects.ok.0, length-map c.file-file.result.now.connects.items connect_of) in
    let connects : c.len-2.result ≡ length (file_of (file_in c.args.accepted.now)).connects = named ∙ ap (λ (f : FileAt). length f.connects) same in
    let offers : ◌≡◌ {A = ℕ → List ℕ} (offers_in c.new.result.items) (λ q. []) = ap offers_in c.new.ensures.items in
    let all_parties : c.len.result ≡ length (file_of (file_in c.args.accepted.now)).parties = parties ∙ ap (λ (f : FileAt). length f.parties) same in
    record {
      node = (λ i. record { program = program_at c.args.machine; clock = c.args.clock; requests = 0; offers = offers i; main = λ e. mains e i; old = olds i })
          ∙ ap (λ (f : FileAt). record (first_node f c.args.party) { program = program_at c.args.machine; clock = c.args.clock }) same;
      clock = refl;
      boxes = λ q. grind arith;
      log = grind arith;
      party = refl;
      parties = all_parties;
      connects = connects;
      starts = c.requires.starts;
      play = λ i. play_with (λ p. c.requires.starts p i) (connects i) (all_parties i);
    }
