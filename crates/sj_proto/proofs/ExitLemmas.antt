-- Where a reader returns.
use Rattle.std.proofs.Common.{◌≡◌, ℕ, suc, ◌+◌, ◌<◌, Bool, true, false, List, [], ◌∷◌, ◌++◌, Result, Ok, Err, IfErr, refl, ap, sym, subst, ◌∙◌, add-one}
use Rattle.std.specs.Prelude.{codes, map, IsErrAnd}
use Rattle.std.specs.Str.{bytes_eq}
use Rattle.sj_lang.specs.declared.proto.Way.{Way}
use Rattle.sj_lang.specs.declared.proto.Way.TheVariants.{Out, Into}
use Rattle.sj_lang.specs.declared.file.Names.{Names}
use Rattle.sj_grammar.specs.declared.tokens.Fault.{Fault}
use Rattle.sj_grammar.specs.declared.tokens.What.{What}
use Rattle.sj_grammar.specs.declared.refusal.ParseRefusal.{ParseRefusal}
use Rattle.sj_grammar.specs.declared.refusal.ParseRefusal.TheVariants as refusals
use Rattle.sj_lang.specs.Limits.{limits}
use Rattle.sj_grammar.specs.Lexis.{Ahead, at_end, bad, token, next_of}
use Rattle.sj_grammar.specs.Reading.{Reading}
use Rattle.sj_grammar.specs.Names.{is_name, is_reserved}
use Rattle.sj_grammar.specs.Literals.{is_text}
use Rattle.sj_grammar.specs.Positions.{Pieces, At, Takes}
use Rattle.sj_grammar.specs.Protocols.{way_piece, open_piece, close_piece}
use Rattle.sj_grammar.specs.Layers.{goes, step, rule_of}
use Rattle.sj_grammar.specs.ProtocolDues.{ProtocolDue, more, seq, maybe, behind, kind, arms, fixed, protocol_layer}
use Rattle.sj_grammar.specs.FileDues.{Due, proto, file_layer}
use Rattle.sj_grammar.specs.Faults.{Stuck, broken}
use Rattle.sj_grammar.specs.Refusals.{OnFault}
use Rattle.sj_grammar.specs.Asked.{TakesText, is_next, Refuses, but, Passes}
use Rattle.sj_grammar.proofs.StucknessLemmas.{refuses_stuck, stuck_cons, stuck_like, stuck_by}
use Rattle.sj_proto.specs.Parsed.{standing, Gives, Stops}
use Rattle.sj_proto.proofs.NameLemmas.{test_is}
use Rattle.sj_proto.proofs.ReadLemmas.{Gives-cons, takes_one, took_plain, took_way, took_close}
use Rattle.sj_proto.proofs.RunLemmas.{way_step}
use Rattle.sj_proto.proofs.RuleLemmas.{piece_rule}
use Rattle.sj_proto.proofs.FaultLemmas.{step_in_file}

pub err_as : {X E : Type 0} (r : Result X E) (e : E) (P : E → Type 0) → IsErrAnd r (λ d. d ≡ e) → P e → IfErr r P
err_as (Ok x) e P h p = tt
err_as (Err d) e P h p = subst P (sym h) p

pub if_err_map : {X E : Type 0} (r : Result X E) (P Q : E → Type 0) → ((e : E) → P e → Q e) → IfErr r P → IfErr r Q
if_err_map (Ok x) P Q h p = tt
if_err_map (Err e) P Q h p = h e p

pub on_fault_map : (P Q : Fault → Type 0) (e : ParseRefusal) → ((f : Fault) → P f → Q f) → OnFault P e → OnFault Q e
on_fault_map P Q (refusals.At f) h p = h f p
on_fault_map P Q refusals.NoMemory h p = tt

pub stops_map : (due due2 : List Due → List Due) (n m : ℕ) (a b : At) (e : ParseRefusal)
    → ((f : Fault) → ((ds : List Due) → Stuck file_layer limits n a (due ds) f) → (ds : List Due) → Stuck file_layer limits m b (due2 ds) f) → Stops due n a e → Stops due2 m b e
stops_map due due2 n m a b e h = on_fault_map (λ f. (ds : List Due) → Stuck file_layer limits n a (due ds) f) (λ f. (ds : List Due) → Stuck file_layer limits m b (due2 ds) f) e h

pub from_left : (r q t : Reading) (s : List ℕ) → q ≡ r → TakesText q s t → TakesText r s t
from_left r q t s e take = subst (λ (x : Reading). TakesText x s t) e take

-- a piece that gets no number
pub plain : (r q : Reading) (names : Names) (s : List ℕ) → is_name s ≡ false → is_text s ≡ false → TakesText r s q → Takes (standing r names) s (standing q names)
plain r q names s name text t = took_plain r q names.words names.texts s name text t

pub close_fault : (w : Way) (cp : List ℕ) (r : Reading) (names : Names) (n : ℕ) (ds : List Due) (f : Fault) → cp ≡ close_piece w → Refuses (but cp) r f
    → Stuck file_layer limits n (standing r names) (proto (fixed (close_piece w)) ∷ ds) f
close_fault w cp r names n ds f e h = by_way w (subst (λ (s : List ℕ). Refuses (but s) r f) e h)
  where
    by_way : (w : Way) → Refuses (but (close_piece w)) r f → Stuck file_layer limits n (standing r names) (proto (fixed (close_piece w)) ∷ ds) f
    by_way Out h = refuses_stuck file_layer limits (but (codes ">")) n (standing r names) (proto (fixed (codes ">")) ∷ ds) f refl (piece_rule (codes ">") n ds refl) h
    by_way Into h = refuses_stuck file_layer limits (but (codes ")")) n (standing r names) (proto (fixed (codes ")")) ∷ ds) f refl (piece_rule (codes ")") n ds refl) h

pub no_name_int : is_name (codes "int") ≡ false
unfolding is_reserved
no_name_int = refl

pub no_name_boolean : is_name (codes "boolean") ≡ false
unfolding is_reserved
no_name_boolean = refl

pub no_name_String : is_name (codes "String") ≡ false
unfolding is_reserved
no_name_String = refl

-- a kind of one word
module _ (w : Way) (s : List ℕ) (name : is_name s ≡ false) (text : is_text s ≡ false) where
  pub keyword_fault : (o n : ℕ) → ((ds : List Due) → step file_layer limits n (proto (kind o) ∷ ds) s ≡ goes n ds) → (r q : Reading) (names : Names) (f : Fault) (cp : List ℕ) → cp ≡ close_piece w → TakesText r s q → Refuses (but cp) q f
      → (ds : List Due) → Stuck file_layer limits n (standing r names) (proto (kind o) ∷ proto (fixed (close_piece w)) ∷ ds) f
  keyword_fault o n steps r q names f cp e t h ds =
      stuck_cons file_layer limits n n (standing r names) (standing q names) s (proto (kind o) ∷ proto (fixed (close_piece w)) ∷ ds) (proto (fixed (close_piece w)) ∷ ds) f (plain r q names s name text t)
      (steps (proto (fixed (close_piece w)) ∷ ds)) (close_fault w cp q names n ds f e h)

  pub keyword_reads : (r q u : Reading) (names : Names) (cp : List ℕ) → cp ≡ close_piece w → TakesText r s q → TakesText q cp u
      → Gives (standing r names) (standing u names) (λ word. s ∷ close_piece w ∷ []) (λ word. Unit {0})
  keyword_reads r q u names cp e t v =
      Gives-cons (standing r names) (standing q names) (standing u names) s (λ word. close_piece w ∷ []) (λ word. Unit {0}) (plain r q names s name text t)
      (takes_one (standing q names) (standing u names) (close_piece w) (took_close w q u names.words names.texts (subst (λ (p : List ℕ). TakesText q p u) e v)))

pub next_tests : (x : Ahead) (p : List ℕ) (what : What) (s rest : List ℕ) → is_next p x ≡ false → x ≡ token what s rest → bytes_eq s p ≡ false
next_tests x p what s rest h e = subst (λ (y : Ahead). is_next p y ≡ false) e h

-- a kind that is no word begins as items do
kind_same : (o n : ℕ) (ds : List Due) (s : List ℕ) → bytes_eq s (codes "int") ≡ false → bytes_eq s (codes "boolean") ≡ false → bytes_eq s (codes "String") ≡ false
    → step file_layer limits n (proto (kind o) ∷ ds) s ≡ step file_layer limits n (proto (seq o) ∷ ds) s
kind_same o n ds s no_int no_boolean no_string = by_tests (bytes_eq s (codes "!")) (bytes_eq s (codes "?")) refl refl
  where
    by_tests : (x y : Bool) → bytes_eq s (codes "!") ≡ x → bytes_eq s (codes "?") ≡ y → step file_layer limits n (proto (kind o) ∷ ds) s ≡ step file_layer limits n (proto (seq o) ∷ ds) s
    by_tests true y ex ey = rw (no_int, no_boolean, no_string, ex) refl
    by_tests false true ex ey = rw (no_int, no_boolean, no_string, ex, ey) refl
    by_tests false false ex ey = rw (no_int, no_boolean, no_string, ex, ey) refl

pub kind_stuck : (r : Reading) (names : Names) (o n : ℕ) (ds : List Due) (f : Fault) → is_next (codes "int") (next_of r.ahead) ≡ false → is_next (codes "boolean") (next_of r.ahead) ≡ false
    → is_next (codes "String") (next_of r.ahead) ≡ false → Stuck file_layer limits n (standing r names) (proto (seq o) ∷ ds) f → Stuck file_layer limits n (standing r names) (proto (kind o) ∷ ds) f
kind_stuck r names o n ds f no_int no_boolean no_string st =
    stuck_like file_layer limits n n (standing r names) (proto (seq o) ∷ ds) (proto (kind o) ∷ ds) f refl
    (λ what s rest e. kind_same o n ds s (next_tests _ (codes "int") what s rest no_int e) (next_tests _ (codes "boolean") what s rest no_boolean e) (next_tests _ (codes "String") what s rest no_string e)) st

pub next_is : (x : Ahead) (p : List ℕ) → is_next p x ≡ true → (what : What) × (rest : List ℕ) × (x ≡ token what p rest)
next_is at_end p h = let none : ⊥ = cc in absurd none
next_is (bad r t) p h = let none : ⊥ = cc in absurd none
next_is (token what s rest) p h = (what, rest, ap (λ (q : List ℕ). token what q rest) (test_is s p h))

-- items that may be none, where some begin
pub maybe_stuck : (w : Way) (r : Reading) (names : Names) (o n : ℕ) (ds : List Due) (f : Fault) → is_next (way_piece w) (next_of r.ahead) ≡ true
    → Stuck file_layer limits n (standing r names) (proto (seq o) ∷ ds) f → Stuck file_layer limits n (standing r names) (proto (maybe o) ∷ ds) f
maybe_stuck w r names o n ds f h st =
    let there = next_is (next_of r.ahead) (way_piece w) h in
    stuck_by file_layer limits n n (standing r names) (proto (seq o) ∷ ds) (proto (maybe o) ∷ ds) f
    (subst (λ (x : Ahead). broken file_layer limits n (proto (maybe o) ∷ ds) x ≡ broken file_layer limits n (proto (seq o) ∷ ds) x) (sym there.2) (ap rule_of (same w)))
    (λ what s rest e. let equal : way_piece w ≡ s = cc (sym there.2 ∙ e) in subst (λ (p : List ℕ). step file_layer limits n (proto (maybe o) ∷ ds) p ≡ step file_layer limits n (proto (seq o) ∷ ds) p) equal (same w)) st
  where
    same : (w : Way) → step file_layer limits n (proto (maybe o) ∷ ds) (way_piece w) ≡ step file_layer limits n (proto (seq o) ∷ ds) (way_piece w)
    same Out = refl
    same Into = refl

pub no_comma : (x : Ahead) (o k : ℕ) → is_next (codes ",") x ≡ false → Passes file_layer (proto (arms o k)) x
no_comma at_end o k h = tt
no_comma (bad r t) o k h = tt
no_comma (token what s rest) o k h = rw h refl

pub open_plain : (w : Way) → (is_name (open_piece w) ≡ false) × (is_text (open_piece w) ≡ false)
open_plain Out = (refl, refl)
open_plain Into = (refl, refl)

-- after a way and what opens a bracket
module _ (w : Way) (s : List ℕ) (r q u : Reading) (names : Names) (o n : ℕ) (name : is_name s ≡ false) (text : is_text s ≡ false) (room : n < 1024) (first : TakesText r (way_piece w) q) (second : TakesText q s u) where
  pub opened_stuck : (es : List ProtocolDue) (f : Fault) → step protocol_layer limits (suc n) (behind o w ∷ []) s ≡ goes (suc n) es → (ds : List Due)
      → Stuck file_layer limits (n + 1) (standing u names) (map proto es ++ (proto (more o) ∷ ds)) f → Stuck file_layer limits n (standing r names) (proto (seq o) ∷ ds) f
  opened_stuck es f opens ds st =
      stuck_cons file_layer limits n (suc n) (standing r names) (standing q names) (way_piece w) (proto (seq o) ∷ ds) (proto (behind o w) ∷ proto (more o) ∷ ds) f (took_way w r q names.words names.texts first)
      (step_in_file n (suc n) (seq o ∷ []) (behind o w ∷ more o ∷ []) ds (way_piece w) (way_step limits w o n [] room))
      (stuck_cons file_layer limits (suc n) (suc n) (standing q names) (standing u names) s (proto (behind o w) ∷ proto (more o) ∷ ds) (map proto es ++ (proto (more o) ∷ ds)) f (plain q u names s name text second)
      (step_in_file (suc n) (suc n) (behind o w ∷ []) es (proto (more o) ∷ ds) s opens) (subst (λ (k : ℕ). Stuck file_layer limits k (standing u names) (map proto es ++ (proto (more o) ∷ ds)) f) (add-one n) st))

  pub opened_gives : (b : At) (p : (ℕ → List ℕ) → Pieces) (F : (ℕ → List ℕ) → Type 0) → Gives (standing u names) b p F → Gives (standing r names) b (λ word. way_piece w ∷ s ∷ p word) F
  opened_gives b p F g =
      Gives-cons (standing r names) (standing q names) b (way_piece w) (λ word. s ∷ p word) F (took_way w r q names.words names.texts first)
      (Gives-cons (standing q names) (standing u names) b s p F (plain q u names s name text second) g)
