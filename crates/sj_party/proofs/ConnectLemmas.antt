-- Connections as what was read, and where a text is stuck in them.
use Rattle.std.proofs.Common.{◌≡◌, ℕ, suc, ◌+◌, ◌<◌, ◌≤◌, true, false, List, [], ◌∷◌, ◌++◌, length, All, refl, ap, sym, subst, ◌∙◌, arith, append_assoc, append-nil}
use Rattle.std.specs.Prelude.{codes, map, nat_le}
use Rattle.std.proofs.lemmas.Bool.{lt-leb}
use Rattle.std.proofs.lemmas.List.Elements.{All-push}
use Rattle.std.proofs.lemmas.List.{map_push}
use Rattle.sj_lang.specs.declared.file.Connect.{Connect}
use Rattle.sj_lang.specs.declared.file.Names.{Names}
use Rattle.sj_lang.specs.FileAt.{DeclAt, ConnectAt}
use Rattle.sj_lang.specs.FileView.{connect_of}
use Rattle.sj_grammar.specs.declared.tokens.Fault.{Fault}
use Rattle.sj_lang.specs.Limits.{limits}
use Rattle.sj_grammar.specs.Lexis.{Ahead, next_of}
use Rattle.sj_grammar.specs.Names.{is_name, is_reserved}
use Rattle.sj_grammar.specs.Reading.{Reading, line_number, before_next}
use Rattle.sj_grammar.specs.Tables.{Spelling, IsNamed}
use Rattle.sj_grammar.specs.Positions.{At, Takes, plain, first_on}
use Rattle.sj_grammar.specs.Files.{end_pieces, connect_pieces, connects_pieces, IsEnd, IsConnect}
use Rattle.sj_grammar.specs.FileDues.{Due, name, fixed, semicolon, connects, file_layer}
use Rattle.sj_grammar.specs.Faults.{Stuck}
use Rattle.sj_grammar.specs.Asked.{TakesText, is_next, Refuses}
use Rattle.sj_grammar.proofs.StepLemmas.{Runs, Runs-cons, Runs-none}
use Rattle.sj_grammar.proofs.StucknessLemmas.{stuck_cons, stuck_block}
use Rattle.sj_proto.specs.Choices.{but_first}
use Rattle.sj_proto.specs.Parsed.{standing, Gives, GivesOnLines}
use Rattle.sj_proto.proofs.ReadLemmas.{itself}
use Rattle.sj_proto.proofs.ExitLemmas as exits
use Rattle.sj_proto.proofs.FrontLemmas.{spelling_at}
use Rattle.sj_proto.proofs.LineLemmas.{off_lines, Lines-cons, Lines-append, Lines-as, Lines-plain, lines_one}
use Rattle.sj_proto.proofs.NamedPieceLemmas.{name_step}
use Rattle.sj_party.proofs.FileLineLemmas.{leads_stuck, first_fault}
use Rattle.sj_party.proofs.FileRunLemmas.{connects_leads}

no_name_connect : is_name (codes "connect") ≡ false
unfolding is_reserved
no_name_connect = refl

no_name_to : is_name (codes "to") ≡ false
unfolding is_reserved
no_name_to = refl

-- what is due for an end, and what is due after the first word of a connection
abbrev pub end_due : List Due → List Due
end_due ds = name ∷ name ∷ name ∷ ds

abbrev pub behind_first : ℕ → List Due → List Due
behind_first k ds = semicolon ∷ connects (suc k) ∷ ds

abbrev pub behind_connect : ℕ → List Due → List Due
behind_connect k ds = end_due (fixed (codes "to") ∷ end_due (behind_first k ds))

abbrev pub GivesEnd : At → At → DeclAt → Type 0
GivesEnd a b d = GivesOnLines a b (λ names. end_pieces names.word d) (λ names. IsEnd limits names d)

abbrev pub GivesConnects : At → At → List ConnectAt → Type 0
GivesConnects a b cs = GivesOnLines a b (λ names. connects_pieces names.word cs) (λ names. All (IsConnect limits names) cs)

abbrev pub GivesConnect : At → At → ConnectAt → Type 0
GivesConnect a b c = GivesOnLines a b (λ names. connect_pieces names.word c) (λ names. IsConnect limits names c)

pub end_gives : (a b c d : At) (p n q : ℕ) → Gives a b (λ word. word p ∷ []) (λ word. IsNamed limits word p) → Gives b c (λ word. word n ∷ []) (λ word. IsNamed limits word n)
    → Gives c d (λ word. word q ∷ []) (λ word. IsNamed limits word q) → GivesEnd a d (record { party = p; name = n; protocol = q })
end_gives a b c d p n q first second third =
    let decl : DeclAt = record { party = p; name = n; protocol = q } in
    let two = Lines-append b c d (λ names. plain (names.word n) ∷ []) (λ names. plain (names.word q) ∷ []) (λ names. IsNamed limits names.word n) (λ names. IsNamed limits names.word q)
    (Lines-plain b c (λ word. word n ∷ []) (λ word. IsNamed limits word n) second) (Lines-plain c d (λ word. word q ∷ []) (λ word. IsNamed limits word q) third) in
    let all = Lines-append a b d (λ names. plain (names.word p) ∷ []) (λ names. plain (names.word n) ∷ plain (names.word q) ∷ []) (λ names. IsNamed limits names.word p) (λ names. IsNamed limits names.word n × IsNamed limits names.word q)
    (Lines-plain a b (λ word. word p ∷ []) (λ word. IsNamed limits word p) first) two in
    Lines-as a d (λ names. plain (names.word p) ∷ plain (names.word n) ∷ plain (names.word q) ∷ []) (λ names. end_pieces names.word decl) (λ names. IsNamed limits names.word p × (IsNamed limits names.word n × IsNamed limits names.word q))
    (λ names. IsEnd limits names decl) (λ names. refl) (λ names h. record { party = h.0; name = h.1.0; protocol = h.1.1 }) all

end_run : (names : Spelling) (d : DeclAt) (n : ℕ) (ds : List Due) → IsEnd limits names d → Runs file_layer limits n (end_due ds) (names.word d.party ∷ names.word d.name ∷ names.word d.protocol ∷ []) n ds
end_run names d n ds is =
    Runs-cons file_layer limits n n n (name ∷ name ∷ name ∷ ds) (name ∷ name ∷ ds) ds (names.word d.party) _ (name_step limits names.word d.party n (name ∷ name ∷ ds) is.party)
    (Runs-cons file_layer limits n n n (name ∷ name ∷ ds) (name ∷ ds) ds (names.word d.name) _ (name_step limits names.word d.name n (name ∷ ds) is.name)
    (Runs-cons file_layer limits n n n (name ∷ ds) ds ds (names.word d.protocol) [] (name_step limits names.word d.protocol n ds is.protocol) (Runs-none file_layer limits n ds)))

-- after an end
pub end_stuck : (a b : At) (d : DeclAt) (n : ℕ) (ds : List Due) (f : Fault) → GivesEnd a b d → Stuck file_layer limits n b ds f → Stuck file_layer limits n a (end_due ds) f
end_stuck a b d n ds f gives st =
    let names = spelling_at b in
    let whole = gives names (itself b.words) in
    stuck_block file_layer limits n n a b (names.word d.party ∷ names.word d.name ∷ names.word d.protocol ∷ []) (end_due ds) ds f (off_lines (end_pieces names.word d) a b whole.0) (end_run names d n ds whole.1) st

-- one connection too many
pub connect_fault : (a : At) (k n : ℕ) (ds : List Due) (f : Fault) → is_next (codes "connect") (next_of a.text.ahead) ≡ true → Refuses (but_first (codes "connect") (nat_le 64 k)) a.text f → Stuck file_layer limits n a (connects k ∷ ds) f
connect_fault a k n ds f here r = first_fault a (codes "connect") (nat_le 64 k) n (connects k ∷ ds) (behind_connect k ds) f refl refl refl here r

module _ (r q : Reading) (names : Names) (k : ℕ) (room : k < 64) (first : TakesText r (codes "connect") q) where
  took_connect : Takes (standing r names) (codes "connect") (standing q names)
  took_connect = exits.plain r q names (codes "connect") no_name_connect refl first

  pub connect_stuck : (n : ℕ) (ds : List Due) (f : Fault) → Stuck file_layer limits n (standing q names) (behind_connect k ds) f → Stuck file_layer limits n (standing r names) (connects k ∷ ds) f
  connect_stuck n ds f st = stuck_cons file_layer limits n n (standing r names) (standing q names) (codes "connect") (connects k ∷ ds) (behind_connect k ds) f took_connect (rw (lt-leb 64 k room) refl) st

  -- after the first end too
  module _ (t : Reading) (new : Names) (d : DeclAt) (given : GivesEnd (standing q names) (standing t new) d) where
    pub first_stuck : (n : ℕ) (ds : List Due) (f : Fault) → Stuck file_layer limits n (standing t new) (fixed (codes "to") ∷ end_due (behind_first k ds)) f → Stuck file_layer limits n (standing r names) (connects k ∷ ds) f
    first_stuck n ds f st = connect_stuck n ds f (end_stuck (standing q names) (standing t new) d n (fixed (codes "to") ∷ end_due (behind_first k ds)) f given st)

    -- and after the `to`
    module _ (u : Reading) (between : TakesText t (codes "to") u) where
      took_to : Takes (standing t new) (codes "to") (standing u new)
      took_to = exits.plain t u new (codes "to") no_name_to refl between

      pub to_stuck : (n : ℕ) (ds : List Due) (f : Fault) → Stuck file_layer limits n (standing u new) (end_due (behind_first k ds)) f → Stuck file_layer limits n (standing r names) (connects k ∷ ds) f
      to_stuck n ds f st = first_stuck n ds f (stuck_cons file_layer limits n n (standing t new) (standing u new) (codes "to") (fixed (codes "to") ∷ end_due (behind_first k ds)) (end_due (behind_first k ds)) f took_to refl st)

      module _ (v : Reading) (last : Names) (e : DeclAt) (also : GivesEnd (standing u new) (standing v last) e) where
        pub second_stuck : (n : ℕ) (ds : List Due) (f : Fault) → Stuck file_layer limits n (standing v last) (behind_first k ds) f → Stuck file_layer limits n (standing r names) (connects k ∷ ds) f
        second_stuck n ds f st = to_stuck n ds f (end_stuck (standing u new) (standing v last) e n (behind_first k ds) f also st)

        pub connect_gives : (w : Reading) (line : ℕ) → TakesText v (codes ";") w → line ≡ line_number (before_next r (next_of r.ahead)) → GivesConnect (standing r names) (standing w last) (record { line = line; first = d; second = e })
        connect_gives w line closed on =
            let c : ConnectAt = record { line = line; first = d; second = e } in
            let ending = lines_one (standing v last) (standing w last) (plain (codes ";")) (record { taken = exits.plain v w last (codes ";") refl refl closed; line = tt }) in
            let back = Lines-append (standing u new) (standing v last) (standing w last) (λ names. end_pieces names.word e) (λ names. plain (codes ";") ∷ []) (λ names. IsEnd limits names e) (λ names. Unit {0}) also ending in
            let behind = Lines-cons (standing t new) (standing u new) (standing w last) (plain (codes "to")) (λ names. end_pieces names.word e ++ plain (codes ";") ∷ []) (λ names. IsEnd limits names e × Unit {0})
            (record { taken = took_to; line = tt }) back in
            let both = Lines-append (standing q names) (standing t new) (standing w last) (λ names. end_pieces names.word d) (λ names. plain (codes "to") ∷ (end_pieces names.word e ++ plain (codes ";") ∷ [])) (λ names. IsEnd limits names d)
            (λ names. IsEnd limits names e × Unit {0}) given behind in
            Lines-as (standing r names) (standing w last) (λ names. first_on line (codes "connect") ∷ (end_pieces names.word d ++ plain (codes "to") ∷ (end_pieces names.word e ++ plain (codes ";") ∷ []))) (λ names. connect_pieces names.word c)
            (λ names. IsEnd limits names d × (IsEnd limits names e × Unit {0})) (λ names. IsConnect limits names c) (λ names. refl) (λ names h. record { first = h.0; second = h.1.0 })
            (Lines-cons (standing r names) (standing q names) (standing w last) (first_on line (codes "connect")) (λ names. end_pieces names.word d ++ plain (codes "to") ∷ (end_pieces names.word e ++ plain (codes ";") ∷ []))
            (λ names. IsEnd limits names d × (IsEnd limits names e × Unit {0})) (record { taken = took_connect; line = on ∙ ap (λ (x : Ahead). line_number (before_next r x)) took_connect.token }) both)

connects-push : (word : ℕ → List ℕ) (cs : List ConnectAt) (c : ConnectAt) → connects_pieces word (cs ++ c ∷ []) ≡ connects_pieces word cs ++ connect_pieces word c
connects-push word [] c = append-nil (connect_pieces word c)
connects-push word (d ∷ cs) c = ap (λ ps. connect_pieces word d ++ ps) (connects-push word cs c) ∙ sym (append_assoc (connect_pieces word d) (connects_pieces word cs) (connect_pieces word c))

-- the connections so far, and one more
pub connects_more : (a m b : At) (xs : List Connect) (x : Connect) → GivesConnects a m (map connect_of xs) → GivesConnect m b (connect_of x) → GivesConnects a b (map connect_of (xs ++ x ∷ []))
connects_more a m b xs x g h =
    Lines-as a b (λ names. connects_pieces names.word (map connect_of xs) ++ connect_pieces names.word (connect_of x)) (λ names. connects_pieces names.word (map connect_of (xs ++ x ∷ [])))
    (λ names. All (IsConnect limits names) (map connect_of xs) × IsConnect limits names (connect_of x)) (λ names. All (IsConnect limits names) (map connect_of (xs ++ x ∷ [])))
    (λ names. sym (connects-push names.word (map connect_of xs) (connect_of x)) ∙ ap (connects_pieces names.word) (sym (map_push connect_of xs x)))
    (λ names h. subst (All (IsConnect limits names)) (sym (map_push connect_of xs x)) (All-push (IsConnect limits names) (map connect_of xs) (connect_of x) h.0 h.1))
    (Lines-append a m b (λ names. connects_pieces names.word (map connect_of xs)) (λ names. connect_pieces names.word (connect_of x)) (λ names. All (IsConnect limits names) (map connect_of xs)) (λ names. IsConnect limits names (connect_of x)) g h)

-- after connections
pub connects_stuck : (a b : At) (cs : List ConnectAt) (n : ℕ) (ds : List Due) (f : Fault) → length cs ≤ 64 → GivesConnects a b cs → ((m : ℕ) → Stuck file_layer limits m b (connects (length cs) ∷ ds) f) → Stuck file_layer limits n a (connects 0 ∷ ds) f
connects_stuck a b cs n ds f few gives st =
    let names = spelling_at b in
    let whole = gives names (itself b.words) in
    let count : length cs ≡ 0 + length cs = omega arith in
    leads_stuck n a b (connects_pieces names.word cs) (connects 0 ∷ ds) (connects (0 + length cs) ∷ ds) f whole.0 (connects_leads limits names cs 0 n ds (omega (arith, few)) whole.1)
    (λ m. subst (λ (k : ℕ). Stuck file_layer limits m b (connects k ∷ ds) f) count (st m))
