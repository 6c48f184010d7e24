-- Entries that were done again, as batches, by the calls of the code.
use Rattle.std.proofs.Common.{◌≡◌, ◌∙◌, ℕ, max, List, [], ◌∷◌, ap, length, map, refl, sym, subst}
use Rattle.std.proofs.lemmas.List.{length-map}
use Rattle.sj_lang.specs.FileAt.{FileAt}
use Rattle.sj_lang.specs.Place.{Place}
use Rattle.sj_node.specs.Reading.{parties_of, party_of}
use Rattle.sj_remote_run.specs.Batches.{BatchAt, words_by}
use Rattle.sj_engine.specs.declared.in_lane.ByteIn.{ByteIn}
use Rattle.sj_engine.specs.declared.out_lane.ByteOut.{ByteOut}
use Rattle.sj_rules.specs.Node.{NodeAt}
use Rattle.sj_rules.specs.NodeRun.{NodeRun}
use Rattle.sj_seat.specs.Views.{node_of, seat_of}
use Rattle.sj_seat.specs.declared.guest.Guest.{Guest}
use Rattle.sj_seat_laws.specs.Calls.{Call, SeatedAt}
use Rattle.sj_seat_laws.specs.SeatedPlay.{Player, seated_play}
use Rattle.sj_seat_laws.specs.SeatedStart.{seat_start}
use Rattle.sj_remote_seat.specs.Batches.{AreBatches, IsBatch}
use Rattle.sj_remote_seat.specs.Caught.{DidAgain, DidAll}
use Rattle.sj_remote_seat.specs.Played.{IsAgain}
use Rattle.sj_remote_seat.specs.Turns.{Begins, IsSame, Ran, has_of, played_at}
use Rattle.sj_remote_seat.proofs.HandedLemmas.{are_handed}
use Rattle.sj_remote_seat.proofs.SatLemmas.{still_played}

module _ {G : Type 0} where
  -- the batches whose words these are, done again by some calls before the rest
  pub record Rebuilt (file : FileAt) (entries : List (List (List ℕ))) (rest : List Call) (a b : Guest ByteOut ByteIn G) : Type 0 where
    pub calls : List Call
    pub batches : List BatchAt
    pub words : entries ≡ map (words_by file (party_of (node_of a))) batches
    pub are : AreBatches file (party_of (node_of a)) (played_at (seat_of calls a) (node_of a)) batches (played_at (seat_of rest b) (node_of b))
    pub same : IsSame a b

  pub rebuilt : (file : FileAt) (entries : List (List (List ℕ))) (rest : List Call) (a b : Guest ByteOut ByteIn G) → length file.parties ≡ parties_of (node_of a) → DidAll file entries a b → Rebuilt file entries rest a b
  rebuilt file [] rest a b parties all = record {
    calls = rest;
    batches = [];
    words = refl;
    are = ap (λ (g : Guest ByteOut ByteIn G). played_at (seat_of rest g) (node_of g)) all;
    same = record { party = ap (λ (g : Guest ByteOut ByteIn G). party_of (node_of g)) all; parties = ap (λ (g : Guest ByteOut ByteIn G). parties_of (node_of g)) all };
  }
  rebuilt file (words ∷ others) rest a b parties all =
      let mid : Guest ByteOut ByteIn G = all.0 in
      let d : DidAgain file words a mid = all.1 in
      let s : Guest ByteOut ByteIn G = d.mid in
      let party : party_of (node_of mid) ≡ party_of (node_of a) = d.still.nodes.party ∙ d.sat.same.party in
      let count : parties_of (node_of mid) ≡ parties_of (node_of a) = d.still.nodes.parties ∙ d.sat.same.parties in
      let r : Rebuilt file others rest mid b = rebuilt file others rest mid b (parties ∙ sym count) all.2 in
      let ran : Ran file (seat_of (d.sat.calls r.calls) a) (seat_of r.calls s) (node_of a) (node_of s) (has_of a) (has_of s) _ = d.sat.went file r.calls parties in
      let here : BatchAt = record { steps = ran.steps; noted = d.noted; posts = d.posts } in
      let more : others ≡ map (words_by file (party_of (node_of a))) r.batches = r.words ∙ ap (λ (p : ℕ). map (words_by file p) r.batches) party in
      record {
        calls = d.sat.calls r.calls;
        batches = here ∷ r.batches;
        words = λ i. d.spelt i ∷ more i;
        are = (
          played_at (seat_of r.calls mid) (node_of mid),
          record {
            run = subst (λ (n : NodeAt Place Player). NodeRun (seated_play file) max (party_of (node_of a)) (played_at (seat_of (d.sat.calls r.calls) a) (node_of a)) ran.steps n) (still_played r.calls s mid d.still) ran.run;
            notes = ran.noted;
            frames = are_handed a s file ran.steps d.posts parties d.sat.same d.clear ran.posts d.handed;
          },
          subst (λ (p : ℕ). AreBatches file p (played_at (seat_of r.calls mid) (node_of mid)) r.batches (played_at (seat_of rest b) (node_of b))) party r.are,
        );
        same = record { party = r.same.party ∙ party; parties = r.same.parties ∙ count };
      }

  -- before its first call the party is the one of the laws
  first_seat : (file : FileAt) (party : ℕ) (calls : List Call) (g : Guest ByteOut ByteIn G) → Begins file party g → seat_of calls g ≡ seat_start file party calls
  first_seat file party calls g b = λ i. record { ends = b.ends i; steps = b.calls i; calls = calls; may = b.may i }

  -- from its first node on
  pub is_again : (file : FileAt) (party : ℕ) (entries : List (List (List ℕ))) (rest : List Call) (a b : Guest ByteOut ByteIn G) → Begins file party a → DidAll file entries a b
      → (again : List BatchAt) × (calls : List Call) × (length again ≡ length entries) × IsAgain file party calls again (played_at (seat_of rest b) (node_of b)) × IsSame a b
  is_again file party entries rest a b begins all =
      let r : Rebuilt file entries rest a b = rebuilt file entries rest a b (sym begins.node.parties) all in
      let here : party_of (node_of a) ≡ party = begins.node.party in (
        r.batches,
        r.calls,
        sym (ap length r.words ∙ length-map r.batches (words_by file (party_of (node_of a)))),
        record {
          first = node_of a;
          begins = begins.node;
          batches = subst (λ (s : SeatedAt). AreBatches file party (played_at s (node_of a)) r.batches (played_at (seat_of rest b) (node_of b))) (first_seat file party r.calls a begins)
              (subst (λ (p : ℕ). AreBatches file p (played_at (seat_of r.calls a) (node_of a)) r.batches (played_at (seat_of rest b) (node_of b))) here r.are);
        },
        r.same,
      )
