-- An Open fits only where it comes from a party of the file.
use Rattle.std.proofs.Common.{◌≡◌, ℕ, ◌<◌, ◌≤◌, ◌==◌, true, ◌&&◌, Some, ap, sym, ◌∙◌, subst, arith}
use Rattle.std.specs.Prelude.{is_none, nat_le, nat_lt}
use Rattle.std.proofs.lemmas.Bool.{and_parts, eqb-true, leb-true, ltb-true}
use Rattle.sj_rules.specs.Limits.{clock_end}
use Rattle.sj_rules.specs.Record.{BodyAt, Open, offered_end}
use Rattle.sj_rules.specs.Rows.{Worked}
use Rattle.sj_rules.specs.Frames.{FrameAt, is_within}
use Rattle.sj_rules.specs.Node.{NodeAt, arrives, comes_or_opens}
use Rattle.sj_rules.specs.Opened.{opened_number, opener_of, is_opened_by, is_openable}
use Rattle.sj_rules.proofs.ArrivalLemmas.{proper_comes, arrived_proper}
use Rattle.sj_rules_laws.proofs.WithinRowLemmas.{by_true}

-- who opens a session that some of the parties can open is one of them
opener_below : (n origin sess : ℕ) → is_openable n sess ≡ true → is_opened_by origin sess ≡ true → origin < n
opener_below n origin sess openable opened =
    let above : 64 ≤ sess = leb-true 64 sess (and_parts (nat_le 64 sess) (nat_lt sess (opened_number n 0)) openable).0 in
    let below : sess < opened_number n 0 = ltb-true sess (opened_number n 0) (and_parts (nat_le 64 sess) (nat_lt sess (opened_number n 0)) openable).1 in
    let by : opener_of sess ≡ origin = eqb-true (opener_of sess) origin (and_parts (nat_le 64 sess) (opener_of sess == origin) opened).1 in
    omega (arith, above, below, by)

module _ {P Q : Type 0} (blank : P) (n : ℕ) (pick : ℕ → ℕ → ℕ) (m : NodeAt P Q) (origin : ℕ) (f : FrameAt P) (sess : ℕ) (done : Worked P (NodeAt P Q)) (body : f.body ≡ Open sess)
    (fits : arrives blank n pick m origin f ≡ Some done) where
  openable : is_openable n sess ≡ true
  openable =
      subst (λ (b : BodyAt P). is_within n b ≡ true) body
      (and_parts (nat_lt f.clock clock_end) (is_within n f.body) (arrived_proper blank n pick m origin f done fits)).1

  opened : comes_or_opens blank pick m origin (Open sess) ≡ Some done
  opened =
      ap (comes_or_opens blank pick m origin) (sym body)
      ∙ sym (proper_comes blank n pick m origin f (arrived_proper blank n pick m origin f done fits)) ∙ fits

  pub opens_from_party : origin < n
  opens_from_party =
      by_true (λ (w : Worked P (NodeAt P Q)). origin < n) (is_opened_by origin sess && is_none (m.main (offered_end sess)) && is_none (m.old (offered_end sess))) _ done opened (λ t k.
      opener_below n origin sess openable (and_parts _ _ (and_parts _ _ t).0).0)
