-- Files are what is due.
use Rattle.std.proofs.Common.{◌≡◌, ℕ, suc, ◌+◌, ◌<◌, ◌≤◌, true, List, [], ◌∷◌, ◌++◌, length, All, refl, ap, sym, subst, ◌∙◌, arith}
use Rattle.std.specs.Prelude.{codes}
use Rattle.std.proofs.lemmas.Bool.{lt-leb}
use Rattle.sj_lang.specs.FileAt.{PartyAt, DeclAt, ConnectAt, FileAt}
use Rattle.sj_lang.specs.Limits.{Limits}
use Rattle.sj_grammar.specs.Tables.{Spelling, IsNamed, entry_of}
use Rattle.sj_grammar.specs.Positions.{Piece, plain, first_on, spellings}
use Rattle.sj_grammar.specs.Layers.{Step, onward, step, run, may_end}
use Rattle.sj_grammar.specs.FileDues.{Due, protocols, parties, connects, stmts, name, fixed, semicolon, file_layer, file_due}
use Rattle.sj_grammar.specs.Statements.{braced}
use Rattle.sj_grammar.specs.Files.{protocols_pieces, end_pieces, connect_pieces, connects_pieces, IsEnd, IsConnect, AreParties, names_of, IsSpelled}
use Rattle.sj_grammar.specs.Files as files
use Rattle.sj_grammar.proofs.StepLemmas.{Runs-append}
use Rattle.sj_proto.proofs.LineLemmas.{spellings-append}
use Rattle.sj_proto.proofs.NamedPieceLemmas.{name_step}
use Rattle.sj_proto.proofs.FrontLemmas.{protocols_run}
use Rattle.sj_party.specs.Leads.{LeadsTo, Completes}
use Rattle.sj_party.proofs.TakenPieceLemmas.{leads_none, leads_one, leads_on}
use Rattle.sj_party.proofs.RunLemmas.{code_leads, close_block}

module _ (L : Limits) where
  leads_to : (n : ℕ) (ds es fs : List Due) (a : List Piece) → es ≡ fs → LeadsTo L n ds a es → LeadsTo L n ds a fs
  leads_to n ds es fs a e r = subst (LeadsTo L n ds a) e r

  -- a first piece that other dues take alike
  leads_past : (n : ℕ) (ds es fs : List Due) (p : Piece) (a : List Piece) → step file_layer L n ds p.spelled ≡ step file_layer L n es p.spelled → LeadsTo L n es (p ∷ a) fs → LeadsTo L n ds (p ∷ a) fs
  leads_past n ds es fs p a e r = record { count = r.count; steps = ap (λ (t : Step Due). onward t (λ j gs. run file_layer L j gs (spellings a))) e ∙ r.steps }

  module _ (names : Spelling) where
    named_leads : (x n : ℕ) (ds es : List Due) (a : List Piece) → IsNamed L names.word x → LeadsTo L n ds a es → LeadsTo L n (name ∷ ds) (plain (names.word x) ∷ a) es
    named_leads x n ds es a is r = leads_one L n n (name ∷ ds) ds es (plain (names.word x)) a (name_step L names.word x n ds is) r

    end_leads : (d : DeclAt) (n : ℕ) (ds es : List Due) (a : List Piece) → IsEnd L names d → LeadsTo L n ds a es → LeadsTo L n (name ∷ name ∷ name ∷ ds) (end_pieces names.word d ++ a) es
    end_leads d n ds es a is r =
        named_leads d.party n (name ∷ name ∷ ds) es (plain (names.word d.name) ∷ plain (names.word d.protocol) ∷ a) is.party
        (named_leads d.name n (name ∷ ds) es (plain (names.word d.protocol) ∷ a) is.name (named_leads d.protocol n ds es a is.protocol r))

    connect_leads : (c : ConnectAt) (k n : ℕ) (ds : List Due) → k < L.connects → IsConnect L names c → LeadsTo L n (connects k ∷ ds) (connect_pieces names.word c) (connects (suc k) ∷ ds)
    connect_leads c k n ds room is =
        let last = semicolon ∷ connects (suc k) ∷ ds in
        leads_one L n n (connects k ∷ ds) (name ∷ name ∷ name ∷ fixed (codes "to") ∷ name ∷ name ∷ name ∷ last) (connects (suc k) ∷ ds) (first_on c.line (codes "connect")) _ (rw (lt-leb L.connects k room) refl)
        (end_leads c.first n (fixed (codes "to") ∷ name ∷ name ∷ name ∷ last) (connects (suc k) ∷ ds) (plain (codes "to") ∷ (end_pieces names.word c.second ++ plain (codes ";") ∷ [])) is.first
        (leads_one L n n (fixed (codes "to") ∷ name ∷ name ∷ name ∷ last) (name ∷ name ∷ name ∷ last) (connects (suc k) ∷ ds) (plain (codes "to")) (end_pieces names.word c.second ++ plain (codes ";") ∷ []) refl
        (end_leads c.second n last (connects (suc k) ∷ ds) (plain (codes ";") ∷ []) is.second
        (leads_one L n n last (connects (suc k) ∷ ds) (connects (suc k) ∷ ds) (plain (codes ";")) [] refl (leads_none L n (connects (suc k) ∷ ds))))))

    pub connects_leads : (cs : List ConnectAt) (k n : ℕ) (ds : List Due) → k + length cs ≤ L.connects → All (IsConnect L names) cs → LeadsTo L n (connects k ∷ ds) (connects_pieces names.word cs) (connects (k + length cs) ∷ ds)
    connects_leads [] k n ds few all = let e : k ≡ k + 0 = omega arith in leads_to n (connects k ∷ ds) (connects k ∷ ds) (connects (k + 0) ∷ ds) [] (ap (λ (j : ℕ). connects j ∷ ds) e) (leads_none L n (connects k ∷ ds))
    connects_leads (c ∷ cs) k n ds few all =
        let count : suc k + length cs ≡ k + suc (length cs) = omega arith in
        leads_to n (connects k ∷ ds) (connects (suc k + length cs) ∷ ds) (connects (k + suc (length cs)) ∷ ds) (connect_pieces names.word c ++ connects_pieces names.word cs) (ap (λ (j : ℕ). connects j ∷ ds) count)
        (leads_on L n (connects k ∷ ds) (connects (suc k) ∷ ds) (connects (suc k + length cs) ∷ ds) (connect_pieces names.word c) (connects_pieces names.word cs) (connect_leads c k n ds (omega arith) (all 0 c (omega arith)))
        (λ m. connects_leads cs (suc k) m ds (omega arith) (λ i d h. all (suc i) d (omega arith))))

    pub parties_leads : {qs : List PartyAt} {a : List Piece} → AreParties L names qs a → (k n : ℕ) (ds : List Due) → k + length qs ≤ L.parties → LeadsTo L n (parties k ∷ ds) a (parties (k + length qs) ∷ ds)
    parties_leads files.no_party k n ds few = let e : k ≡ k + 0 = omega arith in leads_to n (parties k ∷ ds) (parties k ∷ ds) (parties (k + 0) ∷ ds) [] (ap (λ (j : ℕ). parties j ∷ ds) e) (leads_none L n (parties k ∷ ds))
    parties_leads (files.one_party {l} {n = x} {a} {qs} {b} is c more) k n ds few =
        let count : suc k + length qs ≡ k + suc (length qs) = omega arith in
        let room : k < L.parties = omega arith in
        let last = parties (suc k) ∷ ds in
        let all = parties (suc k + length qs) ∷ ds in
        let within = fixed (codes "}") ∷ last in
        leads_to n (parties k ∷ ds) all (parties (k + suc (length qs)) ∷ ds) _ (ap (λ (j : ℕ). parties j ∷ ds) count)
        (leads_one L n n (parties k ∷ ds) (name ∷ fixed (codes "{") ∷ stmts 0 ∷ within) all (first_on l (codes "party")) (plain (names.word x) ∷ (braced a ++ b)) (rw (lt-leb L.parties k room) refl)
        (named_leads x n (fixed (codes "{") ∷ stmts 0 ∷ within) all (braced a ++ b) is
        (leads_on L n (fixed (codes "{") ∷ stmts 0 ∷ within) last all (braced a) b
        (leads_one L n n (fixed (codes "{") ∷ stmts 0 ∷ within) (stmts 0 ∷ within) last (plain (codes "{")) (a ++ plain (codes "}") ∷ []) refl
        (leads_on L n (stmts 0 ∷ within) (stmts 0 ∷ within) last a (plain (codes "}") ∷ []) (code_leads L names c n within)
        (λ j. leads_one L j j (stmts 0 ∷ within) last last (plain (codes "}")) [] (close_block L 0 j last) (leads_none L j last))))
        (λ j. parties_leads more (suc k) j ds (omega arith)))))

    -- connections, where protocols and parties are left over
    after_parties : (pre : List Due) (cs : List ConnectAt) (n : ℕ) → length cs ≤ L.connects → All (IsConnect L names) cs → may_end file_layer (pre ++ connects 0 ∷ []) ≡ true
        → ((k : ℕ) → step file_layer L k (pre ++ connects 0 ∷ []) (codes "connect") ≡ step file_layer L k (connects 0 ∷ []) (codes "connect")) → Completes L n (pre ++ connects 0 ∷ []) (connects_pieces names.word cs)
    after_parties pre [] n few all ends skips = record { count = n; dues = pre ++ connects 0 ∷ []; steps = refl; ends = ends }
    after_parties pre (c ∷ cs) n few all ends skips =
        let r = leads_past n (pre ++ connects 0 ∷ []) (connects 0 ∷ []) (connects (0 + suc (length cs)) ∷ []) (first_on c.line (codes "connect")) _ (skips n) (connects_leads (c ∷ cs) 0 n [] (omega arith) all) in
        record { count = r.count; dues = connects (0 + suc (length cs)) ∷ []; steps = r.steps; ends = refl }

    completes_on : (n : ℕ) (ds es : List Due) (a b : List Piece) → LeadsTo L n ds a es → ((k : ℕ) → Completes L k es b) → Completes L n ds (a ++ b)
    completes_on n ds es a b r q =
        let rest = q r.count in
        record {
          count = rest.count;
          dues = rest.dues;
          steps = ap (run file_layer L n ds) (spellings-append a b) ∙ (Runs-append file_layer L (spellings a) (spellings b) n r.count rest.count ds es rest.dues (record { steps = r.steps }) (record { steps = rest.steps })).steps;
          ends = rest.ends;
        }

    after_protocols : {qs : List PartyAt} {a : List Piece} → AreParties L names qs a → (j n : ℕ) (cs : List ConnectAt) → length qs ≤ L.parties → length cs ≤ L.connects → All (IsConnect L names) cs
        → Completes L n (protocols j ∷ parties 0 ∷ connects 0 ∷ []) (a ++ connects_pieces names.word cs)
    after_protocols files.no_party j n cs few room all = after_parties (protocols j ∷ parties 0 ∷ []) cs n room all refl (λ k. refl)
    after_protocols (files.one_party {l} {n = x} {code} {a} {qs} {b} is c more) j n cs few room all =
        let others = parties (0 + suc (length qs)) ∷ [] in
        completes_on n (protocols j ∷ parties 0 ∷ connects 0 ∷ []) (others ++ connects 0 ∷ []) (first_on l (codes "party") ∷ plain (names.word x) ∷ (braced a ++ b)) (connects_pieces names.word cs)
        (leads_past n (protocols j ∷ parties 0 ∷ connects 0 ∷ []) (parties 0 ∷ connects 0 ∷ []) (others ++ connects 0 ∷ []) (first_on l (codes "party")) (plain (names.word x) ∷ (braced a ++ b)) refl
        (parties_leads (files.one_party {l = l} is c more) 0 n (connects 0 ∷ []) (omega (arith, few))))
        (λ k. after_parties others cs k room all refl (λ i. refl))

  -- and after it nothing need be due
  pub file_completes : (f : FileAt) (ps : List Piece) (n : ℕ) → IsSpelled L f ps → Completes L n file_due ps
  file_completes f ps n is =
      let names = names_of f in
      let first = protocols_run L names f.protocols 0 n (parties 0 ∷ connects 0 ∷ []) (omega (arith, is.few_protocols)) is.all_protocols in
      subst (Completes L n file_due) (sym is.same)
      (completes_on names n file_due (protocols (0 + length f.protocols) ∷ parties 0 ∷ connects 0 ∷ []) (protocols_pieces (entry_of f.words) f.protocols) (is.parties ++ connects_pieces (entry_of f.words) f.connects)
      (record { count = first.0; steps = first.1.steps })
      (λ k. after_protocols names is.all_parties (0 + length f.protocols) k f.connects is.few_parties is.few_connects is.all_connects))
