-- Parts of statements as what is due: where a text is stuck after them, and in them.
use Rattle.std.proofs.Common.{◌≡◌, ℕ, true, false, List, [], ◌∷◌, ◌++◌, Result, IfErr, refl, sym, subst}
use Rattle.std.specs.Prelude.{codes, IsErrAnd}
use Rattle.std.specs.Str.{bytes_eq}
use Rattle.std.proofs.lemmas.Slice.Eq.{bytes_eq-Decides}
use Rattle.sj_lang.specs.declared.file.Names.{Names}
use Rattle.sj_lang.specs.Code.{Branches}
use Rattle.sj_grammar.specs.declared.tokens.Fault.{Fault}
use Rattle.sj_grammar.specs.declared.refusal.ParseRefusal.{ParseRefusal}
use Rattle.sj_grammar.specs.declared.refusal.ParseRefusal.TheVariants as refusals
use Rattle.sj_lang.specs.Limits.{limits}
use Rattle.sj_grammar.specs.Literals.{is_largest}
use Rattle.sj_grammar.specs.Reading.{Reading}
use Rattle.sj_grammar.specs.Tables.{Spelling}
use Rattle.sj_grammar.specs.Positions.{Piece, At, BeginsOnLines, spellings, plain}
use Rattle.sj_grammar.specs.Expressions.{operand_count}
use Rattle.sj_grammar.specs.FileDues.{Due, name, fixed, awaited, block, branches, file_layer}
use Rattle.sj_grammar.specs.Faults.{Stuck}
use Rattle.sj_grammar.specs.Refusals.{OnFault}
use Rattle.sj_grammar.specs.Statements.{scalar_piece, AreArms}
use Rattle.sj_grammar.specs.Statements as grammar
use Rattle.sj_grammar.specs.Asked.{Refuses, but, but_name}
use Rattle.sj_grammar.proofs.StucknessLemmas.{stuck_cons, stuck_block, refuses_stuck, skip}
use Rattle.sj_proto.specs.Parsed.{standing, Stops}
use Rattle.sj_proto.proofs.ExitLemmas.{err_as, on_fault_map}
use Rattle.sj_proto.proofs.LineLemmas.{off_lines}
use Rattle.sj_proto.proofs.NamedPieceLemmas.{fixed_rule, name_rule, name_stuck}
use Rattle.sj_expr.proofs.FileLemmas.{expression_leads}
use Rattle.sj_expr.proofs.ReadLemmas.{agrees_itself}
use Rattle.sj_party.specs.Leads.{LeadsTo}
use Rattle.sj_party.specs.Parts.{Part, a_name, an_expression, a_piece, a_value, an_end, a_block, some_arms, AreSome, ReadsPart, ReadsParts, due_of, dues_of}
use Rattle.sj_party.proofs.TakenPieceLemmas.{leads_one, leads_on}
use Rattle.sj_party.proofs.RunLemmas.{scalar_step, name_leads, block_leads, arms_leads}
use Rattle.sj_proto.proofs.FrontLemmas.{spelling_at}

-- after pieces that are what is due
pub leads_stuck : (a m : At) (ps : List Piece) (ds es : List Due) (f : Fault) → BeginsOnLines a ps m → ((n : ℕ) → LeadsTo limits n ds ps es) → ((k : ℕ) → Stuck file_layer limits k m es f)
    → (n : ℕ) → Stuck file_layer limits n a ds f
leads_stuck a m ps ds es f begins leads st n =
    let r = leads n in
    stuck_block file_layer limits n r.count a m (spellings ps) ds es f (off_lines ps a m begins) (record { steps = r.steps }) (st r.count)

pub same_bytes : (s : List ℕ) → bytes_eq s s ≡ true
same_bytes s = (bytes_eq-Decides s s).1 refl

pub some_arms_lead : (names : Spelling) (o : ℕ) (arms : Branches) (a : List Piece) → AreSome arms → AreArms limits names o arms a → (n : ℕ) (ds : List Due)
    → LeadsTo limits n (name ∷ fixed (codes ":") ∷ block o ∷ branches o ∷ ds) a (branches o ∷ ds)
some_arms_lead names o arms a some grammar.no_arm n ds = absurd some
some_arms_lead names o arms a some (grammar.one_arm {m} {a = x} {b = y} is code more) n ds =
    name_leads limits names m n _ _ _ is
    (λ k. leads_one limits k k (fixed (codes ":") ∷ block o ∷ branches o ∷ ds) (block o ∷ branches o ∷ ds) (branches o ∷ ds) (plain (codes ":")) (x ++ y) refl
    (leads_on limits k (block o ∷ branches o ∷ ds) (branches o ∷ ds) (branches o ∷ ds) x y (block_leads limits names code k (branches o ∷ ds)) (λ j. arms_leads limits names more j ds)))

part_behind : (p : Part) (a b : At) (ds : List Due) (f : Fault) → ReadsPart a b p → ((k : ℕ) → Stuck file_layer limits k b ds f) → (n : ℕ) → Stuck file_layer limits n a (due_of p ds) f
part_behind (a_name x) a b ds f r st n = name_stuck a b x n ds f r (st n)
part_behind (an_expression t) a b ds f r st n = expression_leads n a b t ds f r (st (operand_count t))
part_behind (a_piece s) a b ds f r st n = stuck_cons file_layer limits n n a b s (fixed s ∷ ds) ds f r (rw (same_bytes s) refl) (st n)
part_behind (a_value k) a b ds f r st n = stuck_cons file_layer limits n n a b (scalar_piece k) (awaited ∷ ds) ds f r (scalar_step limits k n ds) (st n)
part_behind (an_end p) a b ds f r st n = stuck_cons file_layer limits n n a r.0 (codes "session") (awaited ∷ ds) (name ∷ ds) f r.1 refl (name_stuck r.0 b p n ds f r.2 (st n))
part_behind (a_block o code) a b ds f r st n =
    leads_stuck a b r.pieces (block o ∷ ds) ds f r.begins (λ k. block_leads limits (spelling_at b) (r.are (spelling_at b) (agrees_itself b)) k ds) st n
part_behind (some_arms o arms) a b ds f r st n =
    leads_stuck a b r.1.pieces (due_of (some_arms o arms) ds) (branches o ∷ ds) f r.1.begins (λ k. some_arms_lead (spelling_at b) o arms r.1.pieces r.0 (r.1.are (spelling_at b) (agrees_itself b)) k ds)
    (λ k. skip file_layer limits k b (branches o) ds f refl r.2 (st k)) n

-- after several
pub parts_behind : (ps : List Part) (a b : At) (ds : List Due) (f : Fault) → ReadsParts a b ps → ((k : ℕ) → Stuck file_layer limits k b ds f) → (n : ℕ) → Stuck file_layer limits n a (dues_of ps ds) f
parts_behind [] a b ds f r st n = subst (λ (x : At). Stuck file_layer limits n x ds f) (sym r) (st n)
parts_behind (p ∷ ps) a b ds f r st n = part_behind p a r.0 (dues_of ps ds) f r.1 (parts_behind ps r.0 b ds f r.2 st) n

pub parts_on : (ps qs : List Part) (a m b : At) → ReadsParts a m ps → ReadsParts m b qs → ReadsParts a b (ps ++ qs)
parts_on [] qs a m b r q = subst (λ (x : At). ReadsParts x b qs) (sym r) q
parts_on (p ∷ ps) qs a m b r q = (r.0, r.1, parts_on ps qs r.0 m b r.2 q)

-- a refusal after parts that were read, whatever is due later
pub stops_behind : {X : Type 0} (r : Result X ParseRefusal) (e : ParseRefusal) (ps : List Part) (a m : At) (due rest : List Due → List Due) → IsErrAnd r (λ d. d ≡ e) → ReadsParts a m ps → ((n : ℕ) → Stops due n m e)
    → IfErr r (λ d. (n : ℕ) → Stops (λ ds. dues_of ps (due (rest ds))) n a d)
stops_behind r e ps a m due rest same reads st = err_as r e (λ d. (n : ℕ) → Stops (λ ds. dues_of ps (due (rest ds))) n a d) same (by_refusal e st)
  where
    by_refusal : (e : ParseRefusal) → ((n : ℕ) → Stops due n m e) → (n : ℕ) → Stops (λ ds. dues_of ps (due (rest ds))) n a e
    by_refusal (refusals.At f) st n = λ ds. parts_behind ps a m (due (rest ds)) f reads (λ k. st k (rest ds)) n
    by_refusal refusals.NoMemory st n = tt

-- what a reader refuses
pub piece_stops : (s : List ℕ) (r : Reading) (names : Names) (f : Fault) → is_largest s ≡ false → Refuses (but s) r f → (n : ℕ) → Stops (λ ds. fixed s ∷ ds) n (standing r names) (refusals.At f)
piece_stops s r names f small h n = λ ds. refuses_stuck file_layer limits (but s) n (standing r names) (fixed s ∷ ds) f refl (fixed_rule s n ds small) h

pub name_stops : (r : Reading) (names : Names) (e : ParseRefusal) → OnFault (Refuses (but_name false) r) e → (n : ℕ) → Stops (λ ds. name ∷ ds) n (standing r names) e
name_stops r names e h n =
    on_fault_map (Refuses (but_name false) r) (λ f. (ds : List Due) → Stuck file_layer limits n (standing r names) (name ∷ ds) f) e
    (λ f refuses ds. refuses_stuck file_layer limits (but_name false) n (standing r names) (name ∷ ds) f refl (name_rule n ds) refuses) h
