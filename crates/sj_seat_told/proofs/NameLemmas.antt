-- A file is accepted, and a world leaves nothing to do, whatever the words and the texts are.
use Rattle.std.proofs.Common.{◌≡◌, ◌∙◌, sym, subst}
use Rattle.sj_acceptance.specs.Accepted.{IsAccepted}
use Rattle.sj_lang.specs.FileAt.{FileAt}
use Rattle.sj_plain.specs.SharedFile.{without_words}
use Rattle.sj_seat_told.specs.Quiet.{IsQuietOf}
use Rattle.sj_seats.specs.declared.seated.SeatedWorld.{SeatedWorld}

wordless_is_accepted : (file : FileAt) → IsAccepted file → IsAccepted (without_words file)
wordless_is_accepted file a = record {
  within = record { protocols = a.within.protocols; items = a.within.items; parties = a.within.parties; connects = a.within.connects };
  protocols_once = a.protocols_once;
  labels_once = a.labels_once;
  parties_once = a.parties_once;
  connections = λ i d lt.
      let c = a.connections i d lt in
      record {
        one = c.one;
        other = c.other;
        first = record { party = c.first.party; protocol = c.first.protocol };
        second = record { party = c.second.party; protocol = c.second.protocol };
        meet = c.meet;
      };
  ends_once = a.ends_once;
  bodies = λ p q at. let b = a.bodies p q at in record { last = b.last; follows = b.follows; no_end = b.no_end };
  openings = λ i d lt j e le. let o = a.openings i d lt j e le in record { meet = o.meet };
}

worded_is_accepted : (file : FileAt) → IsAccepted (without_words file) → IsAccepted file
worded_is_accepted file a = record {
  within = record { protocols = a.within.protocols; items = a.within.items; parties = a.within.parties; connects = a.within.connects };
  protocols_once = a.protocols_once;
  labels_once = a.labels_once;
  parties_once = a.parties_once;
  connections = λ i d lt.
      let c = a.connections i d lt in
      record {
        one = c.one;
        other = c.other;
        first = record { party = c.first.party; protocol = c.first.protocol };
        second = record { party = c.second.party; protocol = c.second.protocol };
        meet = c.meet;
      };
  ends_once = a.ends_once;
  bodies = λ p q at. let b = a.bodies p q at in record { last = b.last; follows = b.follows; no_end = b.no_end };
  openings = λ i d lt j e le. let o = a.openings i d lt j e le in record { meet = o.meet };
}

pub accepted_named : (file named : FileAt) → without_words named ≡ without_words file → IsAccepted file → IsAccepted named
accepted_named file named same a = worded_is_accepted named (subst IsAccepted (sym same) (wordless_is_accepted file a))

pub quiet_named : (file named : FileAt) (w : SeatedWorld) → without_words named ≡ without_words file → IsQuietOf file w → IsQuietOf named w
quiet_named file named w same q = record {
  accepted = accepted_named file named same q.accepted;
  kept = q.kept ∙ sym same;
  parties = q.parties;
  run = q.run;
  quiet = q.quiet;
}
