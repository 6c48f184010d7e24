-- The names of the generated file: each is a name, and none stands twice.
use Rattle.std.proofs.Common.{◌≡◌, ◌≢◌, ℕ, zero, suc, ◌<◌, ◌≤◌, Bool, true, false, IsTrue, List, [], ◌∷◌, length, take, get_or, refl, arith}
use Rattle.std.specs.Prelude.{◌&&◌, not}
use Rattle.std.specs.List.{list_all}
use Rattle.std.specs.Str.{bytes_eq}
use Rattle.std.proofs.lemmas.Slice.Eq.{bytes_eq-Decides}
use Rattle.sj_lang.specs.Limits.{limits}
use Rattle.sj_grammar.specs.Names.{is_reserved, is_name}
use Rattle.sj_grammar.specs.Tables.{entry_of, IsNamed}
use Rattle.sj_generator_laws.specs.GeneratedFile.{words}

-- the word isn't any of these
abbrev is_other : List ℕ → List (List ℕ) → Bool
is_other x ws = list_all (λ w. not (bytes_eq w x)) ws

apart : (w x : List ℕ) → not (bytes_eq w x) ≡ true → w ≢ x
apart w x h e = let same : bytes_eq w x ≡ true = (bytes_eq-Decides w x).1 e in cc

others : (ws : List (List ℕ)) (x : List ℕ) (k j : ℕ) → is_other x (take k ws) ≡ true → j < k → k ≤ length ws → get_or ws j [] ≢ x
others [] x k j h lt le = absurd (omega (arith, lt, le))
others (w ∷ ws) x zero j h lt le = absurd (omega (arith, lt))
others (w ∷ ws) x (suc k) j h lt le = by_test (not (bytes_eq w x)) refl h j lt (λ i t below. others ws x k i t below (omega (arith, le)))
  where
    by_test : (y : Bool) → not (bytes_eq w x) ≡ y → (y && is_other x (take k ws)) ≡ true → (i : ℕ) → i < suc k
        → ((m : ℕ) → is_other x (take k ws) ≡ true → m < k → get_or ws m [] ≢ x) → get_or (w ∷ ws) i [] ≢ x
    by_test true is t zero below more = apart w x is
    by_test true is t (suc i) below more = more i t (omega (arith, below))
    by_test false is t i below more = cc

pub named : (k : ℕ) → IsTrue (is_name (entry_of words k)) → length (entry_of words k) ≤ 64 → is_other (entry_of words k) (take k words) ≡ true → k ≤ 26 → IsNamed limits (entry_of words) k
named k name short once le = record { name = name; short = short; first = λ j lt. others words (entry_of words k) k j once lt (omega (arith, le)) }

-- ---- all of them

pub name_w : IsNamed limits (entry_of words) 0
unfolding is_reserved
name_w = named 0 refl (omega arith) refl (omega arith)

pub name_v : IsNamed limits (entry_of words) 1
unfolding is_reserved
name_v = named 1 refl (omega arith) refl (omega arith)

pub name_g : IsNamed limits (entry_of words) 2
unfolding is_reserved
name_g = named 2 refl (omega arith) refl (omega arith)

pub name_h : IsNamed limits (entry_of words) 3
unfolding is_reserved
name_h = named 3 refl (omega arith) refl (omega arith)

pub name_a0 : IsNamed limits (entry_of words) 4
unfolding is_reserved
name_a0 = named 4 refl (omega arith) refl (omega arith)

pub name_x : IsNamed limits (entry_of words) 5
unfolding is_reserved
name_x = named 5 refl (omega arith) refl (omega arith)

pub name_r : IsNamed limits (entry_of words) 6
unfolding is_reserved
name_r = named 6 refl (omega arith) refl (omega arith)

pub name_b0 : IsNamed limits (entry_of words) 7
unfolding is_reserved
name_b0 = named 7 refl (omega arith) refl (omega arith)

pub name_z : IsNamed limits (entry_of words) 8
unfolding is_reserved
name_z = named 8 refl (omega arith) refl (omega arith)

pub name_y : IsNamed limits (entry_of words) 9
unfolding is_reserved
name_y = named 9 refl (omega arith) refl (omega arith)

pub name_c0 : IsNamed limits (entry_of words) 10
unfolding is_reserved
name_c0 = named 10 refl (omega arith) refl (omega arith)

pub name_u : IsNamed limits (entry_of words) 11
unfolding is_reserved
name_u = named 11 refl (omega arith) refl (omega arith)

pub name_s : IsNamed limits (entry_of words) 12
unfolding is_reserved
name_s = named 12 refl (omega arith) refl (omega arith)

pub name_k : IsNamed limits (entry_of words) 13
unfolding is_reserved
name_k = named 13 refl (omega arith) refl (omega arith)

pub name_a1 : IsNamed limits (entry_of words) 14
unfolding is_reserved
name_a1 = named 14 refl (omega arith) refl (omega arith)

pub name_b1 : IsNamed limits (entry_of words) 15
unfolding is_reserved
name_b1 = named 15 refl (omega arith) refl (omega arith)

pub name_c1 : IsNamed limits (entry_of words) 16
unfolding is_reserved
name_c1 = named 16 refl (omega arith) refl (omega arith)

pub name_a2 : IsNamed limits (entry_of words) 17
unfolding is_reserved
name_a2 = named 17 refl (omega arith) refl (omega arith)

pub name_b2 : IsNamed limits (entry_of words) 18
unfolding is_reserved
name_b2 = named 18 refl (omega arith) refl (omega arith)

pub name_c2 : IsNamed limits (entry_of words) 19
unfolding is_reserved
name_c2 = named 19 refl (omega arith) refl (omega arith)

pub name_a3 : IsNamed limits (entry_of words) 20
unfolding is_reserved
name_a3 = named 20 refl (omega arith) refl (omega arith)

pub name_b3 : IsNamed limits (entry_of words) 21
unfolding is_reserved
name_b3 = named 21 refl (omega arith) refl (omega arith)

pub name_c3 : IsNamed limits (entry_of words) 22
unfolding is_reserved
name_c3 = named 22 refl (omega arith) refl (omega arith)

pub name_a4 : IsNamed limits (entry_of words) 23
unfolding is_reserved
name_a4 = named 23 refl (omega arith) refl (omega arith)

pub name_b4 : IsNamed limits (entry_of words) 24
unfolding is_reserved
name_b4 = named 24 refl (omega arith) refl (omega arith)

pub name_c4 : IsNamed limits (entry_of words) 25
unfolding is_reserved
name_c4 = named 25 refl (omega arith) refl (omega arith)
