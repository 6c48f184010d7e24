-- Pairs of ends where named ends keep their places.
use Rattle.std.proofs.Common.{◌≡◌, ℕ, suc, List, [], ◌∷◌, map, slice_get, Some, refl, sym, subst, inl, inr, ◌⊎◌}
use Rattle.std.specs.Bool.{⊤}
use Rattle.sj_base.specs.declared.Msg.{Msg}
use Rattle.sj_base.specs.declared.Msg.TheVariants as msgs
use Rattle.sj_lang.specs.Place.{Place, Carried, done, message, choice, repeat, session}
use Rattle.sj_lang.specs.Place as places
use Rattle.sj_lang.specs.Meet.{StandsFor}
use Rattle.sj_semantics.specs.declared.Passed.{Passed}
use Rattle.sj_semantics.specs.Balanced.{Fits, FitsNext, LeadsTaker}
use Rattle.sj_semantics.specs.Ends.{Session, EndAt, end_at}
use Rattle.sj_headline_laws.proofs.LeadLemmas.{coming, Ahead, Pair}

-- the end that a session message names keeps its place
abbrev pub KeepsNamed : List Session → List Session → Msg → Type 0
KeepsNamed old new (msgs.Sess s d k) = (end_at new (record { sess = s; side = d })).place ≡ (end_at old (record { sess = s; side = d })).place
KeepsNamed old new _ = ⊤

fits_kind_kept : (old new : List Session) (k : Carried) (m : Msg) → KeepsNamed old new m → Fits old k m → Fits new k m
fits_kind_kept old new places.int (msgs.Int n) kept f = tt
fits_kind_kept old new places.int (msgs.Bool n) kept f = absurd f
fits_kind_kept old new places.int (msgs.Text n) kept f = absurd f
fits_kind_kept old new places.int (msgs.Label n) kept f = absurd f
fits_kind_kept old new places.int (msgs.More n) kept f = absurd f
fits_kind_kept old new places.int (msgs.Sess s d k) kept f = absurd f
fits_kind_kept old new places.boolean (msgs.Int n) kept f = absurd f
fits_kind_kept old new places.boolean (msgs.Bool n) kept f = tt
fits_kind_kept old new places.boolean (msgs.Text n) kept f = absurd f
fits_kind_kept old new places.boolean (msgs.Label n) kept f = absurd f
fits_kind_kept old new places.boolean (msgs.More n) kept f = absurd f
fits_kind_kept old new places.boolean (msgs.Sess s d k) kept f = absurd f
fits_kind_kept old new places.text (msgs.Int n) kept f = absurd f
fits_kind_kept old new places.text (msgs.Bool n) kept f = absurd f
fits_kind_kept old new places.text (msgs.Text n) kept f = tt
fits_kind_kept old new places.text (msgs.Label n) kept f = absurd f
fits_kind_kept old new places.text (msgs.More n) kept f = absurd f
fits_kind_kept old new places.text (msgs.Sess s d k) kept f = absurd f
fits_kind_kept old new (session p) (msgs.Int n) kept f = absurd f
fits_kind_kept old new (session p) (msgs.Bool n) kept f = absurd f
fits_kind_kept old new (session p) (msgs.Text n) kept f = absurd f
fits_kind_kept old new (session p) (msgs.Label n) kept f = absurd f
fits_kind_kept old new (session p) (msgs.More n) kept f = absurd f
fits_kind_kept old new (session p) (msgs.Sess s d k) kept f = (f.0, subst (λ (t : Place). StandsFor t p) (sym kept) f.1)

pub fits_kept : (old new : List Session) (p : Place) (m : Msg) → KeepsNamed old new m → FitsNext old p m → FitsNext new p m
fits_kept old new done m kept f = tt
fits_kept old new (message w k rest) m kept f = fits_kind_kept old new k m kept f
fits_kept old new (choice w arms rest) m kept f = tt
fits_kept old new (repeat w body rest) m kept f = tt

abbrev pub AllKept : List Session → List Session → List Passed → Type 0
AllKept old new xs = (j : ℕ) (x : Passed) → slice_get xs j ≡ Some x → KeepsNamed old new x.msg

leads_kept : (old new : List Session) (p : Place) (xs : List Passed) (q : Place) → AllKept old new xs → LeadsTaker old p (map (λ x. x.msg) xs) q → LeadsTaker new p (map (λ x. x.msg) xs) q
leads_kept old new p [] q kept l = l
leads_kept old new p (x ∷ xs) q kept l = (l.0, fits_kept old new p x.msg (kept 0 x refl) l.1, l.2, leads_kept old new l.0 xs q (λ j y h. kept (suc j) y h) l.3)

even_kept : (old new : List Session) (a b : EndAt) → AllKept old new (coming a b) → AllKept old new (coming b a) → Ahead old a b ⊎ Ahead old b a → Ahead new a b ⊎ Ahead new b a
even_kept old new a b k l (inl t) = inl (record { nothing_back = t.nothing_back; leads = leads_kept old new a.place (coming a b) b.place k t.leads })
even_kept old new a b k l (inr t) = inr (record { nothing_back = t.nothing_back; leads = leads_kept old new b.place (coming b a) a.place l t.leads })

pub pair_kept : (old new : List Session) (a b : EndAt) → AllKept old new (coming a b) → AllKept old new (coming b a) → Pair old a b → Pair new a b
pair_kept old new a b k l p = record { even = even_kept old new a b k l p.even; one_taken = p.one_taken; other_taken = p.other_taken }
