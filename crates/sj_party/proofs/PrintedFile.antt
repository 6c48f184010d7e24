-- The canonical text of a file, in the order in which it is put.
use Rattle.std.proofs.Common.{◌≡◌, ℕ, ◌+◌, ◌<◌, List, ◌++◌, length, drop, get_or, refl, ap}
use Rattle.std.specs.Prelude.{codes, map}
use Rattle.std.proofs.lemmas.List.{at_drop_more}
use Rattle.sj_text.proofs.CutLemmas.{open_by}
use Rattle.sj_lang.specs.declared.file.ProtocolDef.{ProtocolDef}
use Rattle.sj_lang.specs.declared.file.Party.{Party}
use Rattle.sj_lang.specs.declared.file.Connect.{Connect}
use Rattle.sj_lang.specs.Place.{Place}
use Rattle.sj_lang.specs.FileView.{protocol_of, party_of, connect_of}
use Rattle.sj_grammar.specs.Tables.{Spelling}
use Rattle.sj_grammar.specs.Canonical.{body_text}
use Rattle.sj_party.specs.CanonicalCode.{named_text}
use Rattle.sj_party.specs.CanonicalFile.{protocol_line, party_text, connect_text, protocols_text, parties_text, connects_text}

module _ (names : Spelling) where
  pub line_parts : (lead : List ℕ) (n : ℕ) (body : Place) → protocol_line lead names.word n body ≡ lead ++ (named_text names (codes " ") n ++ (codes " { " ++ (body_text names.word body ++ codes " }\n")))
  unfolding named_text
  line_parts lead n body = refl

  pub protocols_step : (i : ℕ) (ps : List ProtocolDef) (x : ProtocolDef) → i < length ps → x ≡ get_or ps i x
      → protocols_text names (map protocol_of (drop i ps)) ≡ protocol_line (codes "protocol") names.word x.name x.body ++ protocols_text names (map protocol_of (drop (i + 1) ps))
  protocols_step i ps x h e = ap (λ xs. protocols_text names (map protocol_of xs)) (open_by i ps x h e)

  pub parties_step : (i : ℕ) (qs : List Party) (x : Party) → i < length qs → x ≡ get_or qs i x
      → parties_text names (map party_of (drop i qs)) ≡ party_text names (party_of x) ++ parties_text names (map party_of (drop (i + 1) qs))
  parties_step i qs x h e = ap (λ xs. parties_text names (map party_of xs)) (open_by i qs x h e)

  pub connects_step : (i : ℕ) (cs : List Connect) (d : Connect) → i < length cs
      → connects_text names (map connect_of (drop i cs)) ≡ connect_text names (connect_of (get_or cs i d)) ++ connects_text names (map connect_of (drop (i + 1) cs))
  connects_step i cs d h = at_drop_more (λ xs. connects_text names (map connect_of xs)) cs i d h
