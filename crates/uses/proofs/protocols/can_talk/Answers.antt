use Rattle.std.proofs.Common.{◌≡◌, ◌∙◌, ◌∷◌, [], List, ap, ap₂, sym, arith, map}
use Rattle.sj_lang.specs.FileView.{file_of, protocol_of}
use Rattle.sj_lang.specs.declared.file.ProtocolDef.{ProtocolDef}
use Rattle.uses.proofs.TwoLemmas.{two_of}
use Rattle.uses.proofs.protocols.can_talk.Goals as goal

pub returns-clause-ok : goal.returns-clause-ok
returns-clause-ok c =
    let ps : List ProtocolDef = c.as_slice.result.now in
    let own = c.own-item.result in
    let peers = c.peers-item.result in
    let both = two_of ps own peers (omega (arith, c.in-len2.len_at_least)) (omega (arith, c.in-len2.len_below)) in
    let two : ps ≡ own ∷ peers ∷ [] = both ∙ ap₂ (λ (p q : ProtocolDef). p ∷ q ∷ []) (sym c.own-item.is) (sym c.peers-item.is) in
    record {
      file = file_of c.in_ok-file.file;
      read = c.in_ok-file.ensures.found;
      own = protocol_of own;
      peers = protocol_of peers;
      two = ap (map protocol_of) (sym c.as_slice.ensures.value ∙ two);
      meet = c.meets.ensures;
    }
