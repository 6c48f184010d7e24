-- In every run names stand for ends of the file's sessions, and session messages name such ends and
-- a party of the file.
use Rattle.std.proofs.Common.{◌≡◌, ℕ, zero, suc, ◌<◌, true, List, [], ◌∷◌, ◌++◌, map, length, drop, slice_get, Some, None, ap, sym, ◌∙◌, subst, inl, inr}
use Rattle.std.specs.Bool.{⊤}
use Rattle.std.proofs.lemmas.Bool.{cases_eq, both_ways}
use Rattle.sj_base.specs.declared.EndId.{EndId}
use Rattle.sj_base.specs.declared.Msg.{Msg}
use Rattle.sj_base.specs.declared.Msg.TheVariants as msgs
use Rattle.sj_lang.specs.FileAt.{ProtocolAt, named}
use Rattle.sj_semantics.specs.declared.Want.TheVariants as wants
use Rattle.sj_semantics.specs.declared.Passed.{Passed}
use Rattle.sj_semantics.specs.Ends.{Session, EndAt, end_at}
use Rattle.sj_semantics.specs.Uses.{Use, sends, takes, delegates, begins, end_after, after_uses}
use Rattle.sj_semantics.specs.Program.{Program, ends_without, ends_with}
use Rattle.sj_semantics.specs.Steps.{ends_after_took}
use Rattle.sj_semantics.specs.Wants.{want_of}
use Rattle.sj_semantics.specs.Fitting.{fits}
use Rattle.sj_semantics.specs.World.{World}
use Rattle.sj_semantics.proofs.FittingLemmas.{fits_its_statement}
use Rattle.sj_semantics_laws.proofs.BoundLemmas.{is_end-self}
use Rattle.sj_semantics_laws.proofs.EndLemmas.{touched}
use Rattle.sj_semantics_laws.proofs.FreesLemmas.{want_frees}
use Rattle.sj_headline_laws.proofs.NameLemmas.{named-without_same, named-without_other, named-bound_same, named-bound_other}
use Rattle.sj_headline_laws.proofs.TypedLemmas.{FitsProgram}
use Rattle.sj_headline_laws.proofs.TouchedLemmas.{side}
use Rattle.sj_rules.specs.Binding.{NamesNoEnd, IsSession, NamesKnown}
use Rattle.sj_rules_laws.proofs.MadeLemmas.{touched_has, AreBegins, begins_keep}
use Rattle.sj_rules_laws.proofs.TookLemmas.{took_same, took_end}

-- how many parties and sessions a file has
pub record Size : Type 0 where
  pub parties : ℕ
  pub sessions : ℕ

-- each name stands for an end of one of these sessions
pub record AreProper (z : Size) (ends : List (ℕ × EndId)) : Type 0 where
  pub below : (n : ℕ) (e : EndId) → named ends n ≡ Some e → (e.side < 2) × IsSession z.parties z.sessions e.sess

-- a session message names such an end, and one of the parties
abbrev pub IsProperMessage : Size → Msg → Type 0
IsProperMessage z m = NamesKnown z.parties z.sessions m

abbrev pub AreProperMessages : Size → List Passed → Type 0
AreProperMessages n [] = ⊤
AreProperMessages n (x ∷ xs) = IsProperMessage n x.msg × AreProperMessages n xs

pub record IsProper (n : Size) (w : World) : Type 0 where
  pub many : length w.parties ≡ n.parties
  pub names : (p : ℕ) (g : Program) → slice_get w.parties p ≡ Some g → AreProper n g.ends
  pub messages : (e : EndId) → AreProperMessages n (end_at w.sessions e).sent

-- ---- names

pub without_proper : (z : Size) (ends : List (ℕ × EndId)) (y : ℕ) → AreProper z ends → AreProper z (ends_without ends y)
without_proper z ends y a = record {
  below = λ n e h. elim (cases_eq n y) [
    | inl same ↦ let none : None ≡ Some e = sym (named-without_same ends y) ∙ ap (named (ends_without ends y)) (sym same) ∙ h in cc
    | inr other ↦ a.below n e (sym (named-without_other ends y n other) ∙ h)
  ];
}

pub bound_proper : (z : Size) (ends : List (ℕ × EndId)) (y : ℕ) (x : EndId) → (x.side < 2) × IsSession z.parties z.sessions x.sess → AreProper z ends → AreProper z (ends_with ends y x)
bound_proper z ends y x lt a = record {
  below = λ n e h. elim (cases_eq n y) [
    | inl same ↦
        let both : Some x ≡ Some e = sym (named-bound_same ends y x) ∙ ap (named (ends_with ends y x)) (sym same) ∙ h in
        let it : x ≡ e = cc in
        subst (λ (f : EndId). (f.side < 2) × IsSession z.parties z.sessions f.sess) it lt
    | inr other ↦ a.below n e (sym (named-bound_other ends y n x other) ∙ h)
  ];
}

-- ---- messages

push_proper : (n : Size) (xs : List Passed) (x : Passed) → AreProperMessages n xs → IsProperMessage n x.msg → AreProperMessages n (xs ++ x ∷ [])
push_proper n [] x all one = (one, tt)
push_proper n (y ∷ xs) x all one = (all.0, push_proper n xs x all.1 one)

pub message_at : (n : Size) (xs : List Passed) (k j : ℕ) (m : Msg) → AreProperMessages n xs → slice_get (drop k (map (λ x. x.msg) xs)) j ≡ Some m → IsProperMessage n m
message_at n [] zero j m all h = cc
message_at n [] (suc k) j m all h = cc
message_at n (x ∷ xs) zero zero m all h = let it : x.msg ≡ m = cc in subst (IsProperMessage n) it all.0
message_at n (x ∷ xs) zero (suc j) m all h = message_at n xs 0 j m all.1 h
message_at n (x ∷ xs) (suc k) j m all h = message_at n xs k j m all.1 h

pub message_in : (n : Size) (xs : List Passed) (j : ℕ) (x : Passed) → AreProperMessages n xs → slice_get xs j ≡ Some x → IsProperMessage n x.msg
message_in n [] j x all h = cc
message_in n (y ∷ xs) zero x all h = let it : y ≡ x = cc in subst (λ (t : Passed). IsProperMessage n t.msg) it all.0
message_in n (y ∷ xs) (suc j) x all h = message_in n xs j x all.1 h

abbrev pub IsProperUse : Size → Use → Type 0
IsProperUse n (sends m) = IsProperMessage n m
IsProperUse n (takes m) = ⊤
IsProperUse n delegates = ⊤
IsProperUse n (begins place) = ⊤

used_proper : (n : Size) (p : ℕ) (u : Use) (a : EndAt) → IsProperUse n u → AreProperMessages n a.sent → AreProperMessages n (end_after p u a).sent
used_proper n p (sends m) a h all = push_proper n a.sent (record { msg = m; by = p }) all h
used_proper n p (takes m) a h all = all
used_proper n p delegates a h all = all
used_proper n p (begins place) a h all = all

pub touched_proper : (n : Size) (p : ℕ) (zs : List Session) (k : EndId) (u : Use) → IsProperUse n u → ((e : EndId) → AreProperMessages n (end_at zs e).sent)
    → (e : EndId) → AreProperMessages n (end_at (touched p zs (k, u)) e).sent
touched_proper n p zs k u h all e = touched_has (λ a. AreProperMessages n a.sent) p zs k u e (used_proper n p u (end_at zs k) h (all k)) (all e)

pub begins_proper : (n : Size) (p : ℕ) (us : List (EndId × Use)) → AreBegins us → (zs : List Session) → ((e : EndId) → AreProperMessages n (end_at zs e).sent) → (e : EndId) → AreProperMessages n (end_at (after_uses p us zs) e).sent
begins_proper n p us b zs all = begins_keep (λ ys. (e : EndId) → AreProperMessages n (end_at ys e).sent) p (λ ys e place h. touched_proper n p ys e (begins place) tt h) us b zs all

-- a message that a step sends names no end
names_none : (e : EndId) (g : Program) (m : Msg) → want_of g ≡ Some (wants.Send e m) → NamesNoEnd m
names_none e g (msgs.Sess s d k) it = absurd (both_ways _ (want_frees (side s d) g (wants.Send e (msgs.Sess s d k)) it) (is_end-self (side s d)))
names_none e g (msgs.Int i) it = tt
names_none e g (msgs.Bool b) it = tt
names_none e g (msgs.Text i) it = tt
names_none e g (msgs.Label i) it = tt
names_none e g (msgs.More b) it = tt

pub sends_no_end : (g : Program) (e : EndId) (m : Msg) → want_of g ≡ Some (wants.Send e m) → NamesNoEnd m
sends_no_end g e m it = names_none e g m it

pub no_end_proper : (n : Size) (m : Msg) → NamesNoEnd m → IsProperMessage n m
no_end_proper n (msgs.Sess s d k) h = absurd h
no_end_proper n (msgs.Int i) h = tt
no_end_proper n (msgs.Bool b) h = tt
no_end_proper n (msgs.Text i) h = tt
no_end_proper n (msgs.Label i) h = tt
no_end_proper n (msgs.More b) h = tt

-- ---- an act

pub took_proper : (ps : List ProtocolAt) (parties : List ℕ) (zs : List Session) (n : Size) (g : Program) → FitsProgram ps parties zs g → (m : Msg) → fits g m ≡ true → IsProperMessage n m → AreProper n g.ends → AreProper n (ends_after_took g.ends g.todo m)
took_proper ps parties zs n g fit (msgs.Sess s d k) can h a =
    let t = took_end ps parties zs g.ends g.vars fit.env fit.agrees g.todo fit.does s d k (fits_its_statement g (msgs.Sess s d k) can) in
    subst (AreProper n) (sym t.binds_it) (bound_proper n g.ends t.name (side s d) (h.1, h.0) a)
took_proper ps parties zs n g fit (msgs.Int i) can h a = subst (AreProper n) (sym (took_same g.ends g.todo (msgs.Int i) tt)) a
took_proper ps parties zs n g fit (msgs.Bool i) can h a = subst (AreProper n) (sym (took_same g.ends g.todo (msgs.Bool i) tt)) a
took_proper ps parties zs n g fit (msgs.Text i) can h a = subst (AreProper n) (sym (took_same g.ends g.todo (msgs.Text i) tt)) a
took_proper ps parties zs n g fit (msgs.Label i) can h a = subst (AreProper n) (sym (took_same g.ends g.todo (msgs.Label i) tt)) a
took_proper ps parties zs n g fit (msgs.More i) can h a = subst (AreProper n) (sym (took_same g.ends g.todo (msgs.More i) tt)) a
