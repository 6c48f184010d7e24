-- Whole files as what was read, and where a text is stuck in them.
use Rattle.std.proofs.Common.{◌≡◌, ℕ, ◌+◌, ◌≤◌, Bool, true, false, List, [], ◌∷◌, ◌++◌, length, Some, refl, sym, subst, arith}
use Rattle.std.specs.Prelude.{codes, map, if◌then◌else◌}
use Rattle.std.proofs.lemmas.List.{length-map}
use Rattle.sj_lang.specs.declared.file.Party.{Party}
use Rattle.sj_lang.specs.declared.file.Connect.{Connect}
use Rattle.sj_lang.specs.FileView.{party_of, connect_of}
use Rattle.sj_lang.specs.FileAt.{ProtocolAt, PartyAt, ConnectAt, FileAt}
use Rattle.sj_grammar.specs.declared.tokens.Fault.{Fault}
use Rattle.sj_grammar.specs.declared.tokens.Rule.TheVariants.{P1, P3}
use Rattle.sj_grammar.specs.declared.refusal.ParseRefusal.{ParseRefusal}
use Rattle.sj_lang.specs.Limits.{Limits, limits, IsWithin}
use Rattle.sj_grammar.specs.Lexis.{Ahead, at_end, bad, token, next_of}
use Rattle.sj_grammar.specs.Literals.{is_largest}
use Rattle.sj_grammar.specs.Positions.{Piece, At, BeginsOnLines, spellings, start}
use Rattle.sj_grammar.specs.Files.{protocols_pieces, connects_pieces, IsSpelled, IsFile}
use Rattle.sj_grammar.specs.FileDues.{Due, protocols, parties, connects, file_layer, file_due}
use Rattle.sj_grammar.specs.Faults.{Stuck, broken}
use Rattle.sj_grammar.specs.Refusals.{OnFault}
use Rattle.sj_grammar.specs.Asked.{Refuses, refused, Passes}
use Rattle.sj_grammar.proofs.StucknessLemmas.{halts_stuck, stuck_block, skip}
use Rattle.sj_proto.specs.Protocols.{AreProtocols, IsOther, IsFaultInProtocols}
use Rattle.sj_proto.proofs.ExitLemmas.{on_fault_map}
use Rattle.sj_proto.proofs.FrontLemmas.{protocols_run, spelling_at}
use Rattle.sj_proto.proofs.ReadLemmas.{itself}
use Rattle.sj_proto.proofs.LineLemmas.{off_lines, OnLines-append}
use Rattle.sj_expr.proofs.ReadLemmas.{agrees_back, agrees_itself}
use Rattle.sj_party.proofs.ConnectLemmas.{GivesConnects, connects_stuck}
use Rattle.sj_party.proofs.PartyLemmas.{ReadsParties, parties_stuck}
use Rattle.sj_party.proofs.Faultless.{no_fault}

-- protocols, parties and connections, and nothing after them
pub file_is : (bytes : List ℕ) (a b m d : At) (ps : List ProtocolAt) (qs : List PartyAt) (cs : List ConnectAt) → a ≡ start bytes [] [] → AreProtocols a ps b → ReadsParties b m qs → length qs ≤ 16 → GivesConnects m d cs → length cs ≤ 64
    → next_of d.text.ahead ≡ at_end → IsFile bytes (record { words = d.words; texts = d.texts; protocols = ps; parties = qs; connects = cs })
file_is bytes a b m d ps qs cs from front middle few back few_connects whole =
    let names = spelling_at d in
    let last = back names (itself d.words) in
    let there = agrees_back names (spellings (connects_pieces names.word cs)) m d (off_lines (connects_pieces names.word cs) m d last.0) (agrees_itself d) in
    let here = agrees_back names (spellings middle.pieces) b m (off_lines middle.pieces b m middle.begins) there in
    let first = front.begins names here.words in
    let pieces = protocols_pieces names.word ps ++ (middle.pieces ++ connects_pieces names.word cs) in
    record {
      pieces = pieces;
      spelled = record {
        parties = middle.pieces;
        same = refl;
        all_protocols = front.defined names here.words;
        all_parties = middle.are names there;
        all_connects = last.1;
        few_protocols = front.few;
        few_parties = few;
        few_connects = few_connects;
      };
      end = d;
      begins = subst (λ (x : At). BeginsOnLines x pieces d) from
          (OnLines-append (protocols_pieces names.word ps) (middle.pieces ++ connects_pieces names.word cs) a b d first (OnLines-append middle.pieces (connects_pieces names.word cs) b m d middle.begins last.0));
      whole = whole;
      words = refl;
      texts = refl;
    }

-- what is left at the end is a fault, where nothing is due
pub left_stuck : (a : At) (n : ℕ) (f : Fault) → (next_of a.text.ahead ≡ at_end → ⊥) → Refuses (λ s. Some P1) a.text f → Stuck file_layer limits n a [] f
left_stuck a n f some r = halts_stuck file_layer limits n a [] f (record { rule = r.rule; breaks = by_next (next_of a.text.ahead) some r.refused; fault = r.fault })
  where
    by_test : (b : Bool) → (if b then Some P3 else Some P1) ≡ Some r.rule → Some (if b then P3 else P1) ≡ Some r.rule
    by_test true h = h
    by_test false h = h

    by_next : (x : Ahead) → (x ≡ at_end → ⊥) → refused (λ s. Some P1) x ≡ Some r.rule → broken file_layer limits n [] x ≡ Some r.rule
    by_next at_end none h = absurd (none refl)
    by_next (bad lexical rest) none h = h
    by_next (token what s rest) none h = by_test (is_largest s) h

other_passes : (x : Ahead) (k : ℕ) → IsOther (codes "protocol") x → Passes file_layer (protocols k) x
other_passes at_end k h = tt
other_passes (bad rule rest) k h = absurd h
other_passes (token what s rest) k h = rw h refl

-- after the protocols
pub behind_protocols : (a b : At) (ps : List ProtocolAt) (n : ℕ) (ds : List Due) (f : Fault) → AreProtocols a ps b → ((m : ℕ) → Stuck file_layer limits m b ds f) → Stuck file_layer limits n a (protocols 0 ∷ ds) f
behind_protocols a b ps n ds f front st =
    let names = spelling_at b in
    let pieces = protocols_pieces names.word ps in
    let front_run = protocols_run limits names ps 0 n ds (omega (arith, front.few)) (front.defined names (itself b.words)) in
    let last = protocols (0 + length ps) in
    stuck_block file_layer limits n front_run.0 a b (spellings pieces) (protocols 0 ∷ ds) (last ∷ ds) f (off_lines pieces a b (front.begins names (itself b.words))) front_run.1
    (skip file_layer limits front_run.0 b last ds f refl (other_passes (next_of b.text.ahead) (0 + length ps) front.ends) (st front_run.0))

-- the first fault of the text
abbrev pub IsFault : List ℕ → Fault → Type 0
IsFault bytes f = Stuck file_layer limits 0 (start bytes [] []) file_due f

abbrev pub NoFile : List ℕ → ParseRefusal → Type 0
NoFile bytes = OnFault (λ f. (g : FileAt) → IsFile bytes g → ⊥)

-- and then it stands for no file
pub stands_for_none : (bytes : List ℕ) (e : ParseRefusal) → OnFault (IsFault bytes) e → NoFile bytes e
stands_for_none bytes e h = on_fault_map (IsFault bytes) (λ f. (g : FileAt) → IsFile bytes g → ⊥) e (λ f st g is. no_fault bytes g f is st) h

-- a fault in the protocols
pub at_protocols : (bytes : List ℕ) (a : At) → a ≡ start bytes [] [] → (e : ParseRefusal) → OnFault (IsFaultInProtocols a) e → OnFault (IsFault bytes) e
at_protocols bytes a from e h = on_fault_map (IsFaultInProtocols a) (IsFault bytes) e (λ f st. subst (λ (x : At). Stuck file_layer limits 0 x file_due f) from (st 0 (parties 0 ∷ connects 0 ∷ []))) h

module _ (bytes : List ℕ) (a b : At) (ps : List ProtocolAt) (from : a ≡ start bytes [] []) (front : AreProtocols a ps b) where
  behind_front : (f : Fault) → ((m : ℕ) → Stuck file_layer limits m b (parties 0 ∷ connects 0 ∷ []) f) → IsFault bytes f
  behind_front f st = subst (λ (x : At). Stuck file_layer limits 0 x file_due f) from (behind_protocols a b ps 0 (parties 0 ∷ connects 0 ∷ []) f front st)

  -- a fault in the parties
  pub at_parties : (e : ParseRefusal) → OnFault (λ f. (n : ℕ) (ds : List Due) → Stuck file_layer limits n b (parties 0 ∷ ds) f) e → OnFault (IsFault bytes) e
  at_parties e h = on_fault_map (λ f. (n : ℕ) (ds : List Due) → Stuck file_layer limits n b (parties 0 ∷ ds) f) (IsFault bytes) e (λ f st. behind_front f (λ m. st m (connects 0 ∷ []))) h

  module _ (m : At) (us : List Party) (middle : ReadsParties b m (map party_of us)) (few : length us ≤ 16) (ends : Passes file_layer (parties (length us)) (next_of m.text.ahead)) where
    behind_middle : (f : Fault) → ((n : ℕ) → Stuck file_layer limits n m (connects 0 ∷ []) f) → IsFault bytes f
    behind_middle f st =
        let qs = map party_of us in
        let long = length-map us party_of in
        let passes = subst (λ (k : ℕ). Passes file_layer (parties k) (next_of m.text.ahead)) (sym long) ends in
        behind_front f (λ n. parties_stuck b m qs n (connects 0 ∷ []) f (omega (arith, long, few)) middle (λ k. skip file_layer limits k m (parties (length qs)) (connects 0 ∷ []) f refl passes (st k)))

    -- a fault in the connections
    pub at_connects : (e : ParseRefusal) → OnFault (λ f. (n : ℕ) (ds : List Due) → Stuck file_layer limits n m (connects 0 ∷ ds) f) e → OnFault (IsFault bytes) e
    at_connects e h = on_fault_map (λ f. (n : ℕ) (ds : List Due) → Stuck file_layer limits n m (connects 0 ∷ ds) f) (IsFault bytes) e (λ f st. behind_middle f (λ n. st n [])) h

    module _ (d : At) (ws : List Connect) (back : GivesConnects m d (map connect_of ws)) (few_connects : length ws ≤ 64) (ends_too : Passes file_layer (connects (length ws)) (next_of d.text.ahead)) where
      -- a fault after all of them
      pub at_last : (f : Fault) → (next_of d.text.ahead ≡ at_end → ⊥) → Refuses (λ s. Some P1) d.text f → IsFault bytes f
      at_last f some r =
          let cs = map connect_of ws in
          let long = length-map ws connect_of in
          let passes = subst (λ (k : ℕ). Passes file_layer (connects k) (next_of d.text.ahead)) (sym long) ends_too in
          behind_middle f (λ n. connects_stuck m d cs n [] f (omega (arith, long, few_connects)) back (λ k. skip file_layer limits k d (connects (length cs)) [] f refl passes (left_stuck d k f some r)))

      pub all_read : next_of d.text.ahead ≡ at_end → IsFile bytes (record { words = d.words; texts = d.texts; protocols = ps; parties = map party_of us; connects = map connect_of ws })
      all_read whole =
          file_is bytes a b m d ps (map party_of us) (map connect_of ws) from front middle (omega (arith, length-map us party_of, few)) back (omega (arith, length-map ws connect_of, few_connects)) whole

-- a file within limits
pub spelled_within : (L : Limits) (f : FileAt) (ps : List Piece) → IsSpelled L f ps → IsWithin L f
spelled_within L f ps is = record {
  protocols = is.few_protocols;
  items = λ k p h. (is.all_protocols k p h).body.few;
  parties = is.few_parties;
  connects = is.few_connects;
}
